-- A stream is read in one way.
use Rattle.std.proofs.Common.{append-nil, ◌≡◌, ◌≢◌, ◌⊎◌, inl, inr, ℕ, ◌+◌, ◌<◌, ◌≤◌, Bool, true, false, List, [], ◌∷◌, ◌++◌, length, take, drop, Option, Some, None, refl, sym, ap, ◌∙◌, subst, arith, append_assoc, length-append}
use Rattle.std.specs.Prelude.{nat_le, nat_lt, if◌then◌else◌}
use Rattle.std.specs.Bool.{MatchBool}
use Rattle.std.proofs.lemmas.List.{nil_from_length, take-append-le, take-append-drop, take_at}
use Rattle.std.proofs.lemmas.Bool.{lt-ltb, le-ltb, le-leb, lt-leb, leb-true}
use Rattle.httparse.specs.Grammar.{RequestHead, print_request, IsRequestHead}
use Rattle.httparse.proofs.GrammarLemmas.{request_unique}
use Rattle.http_wire.specs.Head.{IsHeadText, head_limit}
use Rattle.http_wire.specs.Form.{body_length}
use Rattle.http_wire.specs.Faults.{sign, first_there, head_signs, Front, length_behind, signs_of}
use Rattle.http_wire.specs.Scan.{head_end, scan}
use Rattle.http_wire.specs.Stream.{Announces, IsMessage, IsRead, Begins, HasNoFront, IsFront, HasFault, HasEnd, closes, FramedFrom, Spells, StayOpen}
use Rattle.http_wire.specs.declared.message.Message.{Message}
use Rattle.http_wire.specs.declared.message.End.{End}
use Rattle.http_wire.specs.declared.message.End.TheVariants.{Finished, Closed, Fault}
use Rattle.http_wire.specs.declared.message.WireFault.{WireFault}
use Rattle.http_wire.specs.declared.message.WireFault.TheVariants.{HeadTooLong, CutShort}
use Rattle.http_wire.specs.Says.{IsMessageOf}
use Rattle.http_wire.proofs.FaultLaws.{first-append, first-front, first_either, IsNoCut, not_cut, few_lines}
use Rattle.http_wire.proofs.ScanLaws.{end_of_head}
use Rattle.http_wire.proofs.SaysLaws.{same_fronts, one_message}
use Rattle.http_wire.proofs.RequestLaws.{request_is_head}

-- ---- what stands in front

-- two heads at the front of the same bytes are one
same_heads : (a r b q : List ℕ) (k c : ℕ) → a ++ r ≡ b ++ q → IsHeadText a k → IsHeadText b c → (a ≡ b) × (r ≡ q) × (k ≡ c)
same_heads a r b q k c e x y =
    let ends : ◌≡◌ {A = Option (ℕ × ℕ)} (Some (length a, k)) (Some (length b, c)) = sym (end_of_head a r k x) ∙ ap head_end e ∙ end_of_head b q c y in
    let pair : ◌≡◌ {A = ℕ × ℕ} (length a, k) (length b, c) = cc in
    let fronts = same_fronts a r b q e (ap (λ (p : ℕ × ℕ). p.0) pair) in
    (fronts.0, fronts.1, ap (λ (p : ℕ × ℕ). p.1) pair)

pub no_empty_head : (count : ℕ) → ¬ (IsHeadText [] count)
unfolding scan
no_empty_head count h =
    let end : ◌≡◌ {A = Option (ℕ × ℕ)} None (Some (0, count)) = end_of_head [] [] count h in
    cc

same_requests : (h g : RequestHead) (r q : List ℕ) → print_request h ++ r ≡ print_request g ++ q → IsRequestHead h → IsRequestHead g → (h ≡ g) × (r ≡ q)
same_requests h g r q e x y = request_unique (print_request h ++ r) h g r q (x, refl) (y, e)

one_read : (text : List ℕ) (lines : ℕ) (a b : Option RequestHead) → IsRead text lines a → IsRead text lines b → a ≡ b
one_read text lines None None x y = refl
one_read text lines None (Some h) x y = absurd (x y.0 h y.1 y.2)
one_read text lines (Some g) None x y = absurd (y x.0 g x.1 x.2)
one_read text lines (Some g) (Some h) x y =
    ap Some (same_requests g h [] [] (ap (λ z. z ++ []) (sym x.2 ∙ y.2)) x.1 y.1).0

pub one_front : (bytes : List ℕ) (a b : Option Front) → IsFront bytes a → IsFront bytes b → a ≡ b
one_front bytes None None x y = refl
one_front bytes None (Some g) x y = absurd (x g.text g.rest g.lines y.parts y.short y.head)
one_front bytes (Some f) None x y = absurd (y f.text f.rest f.lines x.parts x.short x.head)
one_front bytes (Some f) (Some g) x y =
    let same = same_heads f.text f.rest g.text g.rest f.lines g.lines (sym x.parts ∙ y.parts) x.head y.head in
    let text = same.0 in
    let rest = same.1 in
    let lines = same.2 in
    let moved : IsRead g.text g.lines f.read = subst (λ t. IsRead t g.lines f.read) text (subst (λ n. IsRead f.text n f.read) lines x.read) in
    let read = one_read g.text g.lines f.read g.read moved y.read in
    λ i. Some (record { text = text i; lines = lines i; read = read i; rest = rest i })

-- ---- messages

pub announced_head : (h : RequestHead) (len : ℕ) → Announces h len → IsHeadText (print_request h) (length h.fields)
announced_head h len x = request_is_head h x.head

-- what stands in front of bytes that begin with a head that is read
abbrev pub front_of : RequestHead → List ℕ → Front
front_of h behind = record { text = print_request h; lines = length h.fields; read = Some h; rest = behind }

pub announced_front : (bytes behind : List ℕ) (h : RequestHead) (len : ℕ) → Announces h len → bytes ≡ print_request h ++ behind → Begins bytes (front_of h behind)
announced_front bytes behind h len x e = record {
  parts = e;
  head = announced_head h len x;
  short = x.short;
  read = (few_lines (length (print_request h)) (length h.fields) h x.sound, x.head, refl);
}

-- all of the body is there
pub no_fault_before : (bytes behind : List ℕ) (h : RequestHead) (len : ℕ) → Announces h len → len ≤ length behind
    → first_there (signs_of bytes (Some (front_of h behind))) ≡ None
no_fault_before bytes behind h len x all =
    let said = x.len_is in
    first-append (head_signs (length (print_request h)) (length h.fields) (Some h)) (sign (CutShort (length bytes)) (nat_lt (length behind) (body_length h)) ∷ []) x.sound
    ∙ rw (le-ltb (length behind) (body_length h) (omega (arith, said, all)))

-- not all of it is there
pub cut_in_body : (bytes body : List ℕ) (h : RequestHead) (len : ℕ) → Announces h len → bytes ≡ print_request h ++ body → length body < len
    → HasFault bytes (CutShort (length bytes))
cut_in_body bytes body h len x e less = record {
  front = Some (front_of h body);
  is_front = announced_front bytes body h len x e;
  first =
      let said = x.len_is in
      first-append (head_signs (length (print_request h)) (length h.fields) (Some h)) (sign (CutShort (length bytes)) (nat_lt (length body) (body_length h)) ∷ []) x.sound
      ∙ rw (lt-ltb (length body) (body_length h) (omega (arith, said, less)));
}

-- two announcements at the front of the same bytes
same_announced : (h g : RequestHead) (m n : ℕ) (r q : List ℕ) → print_request h ++ r ≡ print_request g ++ q → Announces h m → Announces g n
    → (h ≡ g) × (m ≡ n) × (r ≡ q)
same_announced h g m n r q e x y =
    let same = same_requests h g r q e x.head y.head in
    (same.0, x.len_is ∙ ap body_length same.0 ∙ sym y.len_is, same.1)

pub same_messages : (a r b q : List ℕ) (m n : Message) → a ++ r ≡ b ++ q → IsMessage a m → IsMessage b n → (m ≡ n) × (a ≡ b) × (r ≡ q)
same_messages a r b q m n e x y =
    let bytes : print_request x.h ++ (x.body ++ r) ≡ print_request y.h ++ (y.body ++ q) =
    sym (append_assoc (print_request x.h) x.body r) ∙ ap (λ z. z ++ r) (sym x.parts) ∙ e ∙ ap (λ z. z ++ q) y.parts ∙ append_assoc (print_request y.h) y.body q in
    let same = same_announced x.h y.h (length x.body) (length y.body) (x.body ++ r) (y.body ++ q) bytes x.announced y.announced in
    let bodies = same_fronts x.body r y.body q same.2 same.1 in
    let whole : a ≡ b = x.parts ∙ ap (λ z. print_request z ++ x.body) same.0 ∙ ap (λ z. print_request y.h ++ z) bodies.0 ∙ sym y.parts in (
      one_message y.h y.body m n (subst (λ z. IsMessageOf y.h z m) bodies.0 (subst (λ z. IsMessageOf z x.body m) same.0 x.says)) y.says,
      whole,
      bodies.1,
    )

-- ---- where no message stands in front

-- no front of the bytes is a message
abbrev pub HasNoMessage : List ℕ → Type 0
HasNoMessage bytes = (front rest : List ℕ) (m : Message) → bytes ≡ front ++ rest → ¬ (IsMessage front m)

no_message_at_fault : (bytes : List ℕ) (fault : WireFault) → HasFault bytes fault → HasNoMessage bytes
no_message_at_fault bytes fault f front rest m e x =
    let behind = x.body ++ rest in
    let parts : bytes ≡ print_request x.h ++ behind = e ∙ ap (λ z. z ++ rest) x.parts ∙ append_assoc (print_request x.h) x.body rest in
    let same = one_front bytes f.front (Some (front_of x.h behind)) f.is_front (announced_front bytes behind x.h (length x.body) x.announced parts) in
    let len = length-append x.body rest in
    let none = no_fault_before bytes behind x.h (length x.body) x.announced (omega (arith, len)) in
    let both : None ≡ Some fault = sym none ∙ ap (λ z. first_there (signs_of bytes z)) (sym same) ∙ f.first in
    cc

no_message_in_nothing : (bytes : List ℕ) → bytes ≡ [] → HasNoMessage bytes
no_message_in_nothing bytes nothing front rest m e x =
    let parts : [] ≡ print_request x.h ++ (x.body ++ rest) = sym nothing ∙ e ∙ ap (λ z. z ++ rest) x.parts ∙ append_assoc (print_request x.h) x.body rest in
    let len : 0 ≡ length (print_request x.h) + length (x.body ++ rest) = ap length parts ∙ length-append (print_request x.h) (x.body ++ rest) in
    let empty = nil_from_length (print_request x.h) (omega (arith, len)) in
    no_empty_head (length x.h.fields) (subst (λ z. IsHeadText z (length x.h.fields)) empty (announced_head x.h (length x.body) x.announced))

-- An end is no message.
pub no_message_at_end : (bytes : List ℕ) (end : End) → HasEnd bytes end → HasNoMessage bytes
no_message_at_end bytes Finished e = no_message_in_nothing bytes e
no_message_at_end bytes Closed e = absurd e
no_message_at_end bytes (Fault fault) e = no_message_at_fault bytes fault e

-- ---- one end

no_fault_of_nothing : (bytes : List ℕ) (fault : WireFault) → bytes ≡ [] → HasFault bytes fault → ⊥
no_fault_of_nothing bytes fault nothing x =
    let y = subst (λ z. HasFault z fault) nothing x in by y.front y.is_front y.first
  where
    by : (front : Option Front) → IsFront [] front → first_there (signs_of [] front) ≡ Some fault → ⊥
    by None is first = cc
    by (Some f) is first =
        let len : 0 ≡ length f.text + length f.rest = ap length is.parts ∙ length-append f.text f.rest in
        no_empty_head f.lines (subst (λ z. IsHeadText z f.lines) (nil_from_length f.text (omega (arith, len))) is.head)

one_fault : (bytes : List ℕ) (e f : WireFault) → HasFault bytes e → HasFault bytes f → e ≡ f
one_fault bytes e f x y =
    let same = one_front bytes x.front y.front x.is_front y.is_front in
    let both : Some e ≡ Some f = sym x.first ∙ ap (λ z. first_there (signs_of bytes z)) same ∙ y.first in
    cc

one_end : (bytes : List ℕ) (e f : End) → HasEnd bytes e → HasEnd bytes f → e ≡ f
one_end bytes Finished Finished x y = refl
one_end bytes Finished (Fault f) x y = absurd (no_fault_of_nothing bytes f x y)
one_end bytes (Fault e) Finished x y = absurd (no_fault_of_nothing bytes e y x)
one_end bytes (Fault e) (Fault f) x y = ap Fault (one_fault bytes e f x y)
one_end bytes Closed f x y = absurd x
one_end bytes e Closed x y = absurd y

-- ---- faults that are there

-- no head, and fewer bytes than a head may have
pub cut_in_head : (bytes : List ℕ) → HasNoFront bytes → length bytes < head_limit → bytes ≢ [] → HasFault bytes (CutShort (length bytes))
cut_in_head bytes none few some = record {
  front = None;
  is_front = none;
  first = rw (lt-leb head_limit (length bytes) few, lt-ltb 0 (length bytes) (above bytes some));
}
  where
    above : (bytes : List ℕ) → bytes ≢ [] → 0 < length bytes
    above [] some = absurd (some refl)
    above (b ∷ bs) some = omega arith

-- no head, and as many bytes
pub head_too_long : (bytes : List ℕ) → HasNoFront bytes → head_limit ≤ length bytes → HasFault bytes HeadTooLong
head_too_long bytes none long = record {
  front = None;
  is_front = none;
  first = rw (le-leb head_limit (length bytes) long);
}

-- a head that has a fault
pub fault_of_head : (bytes : List ℕ) (f : Front) (fault : WireFault) → Begins bytes f → first_there (head_signs (length f.text) f.lines f.read) ≡ Some fault → HasFault bytes fault
fault_of_head bytes f fault begins first = record {
  front = Some f;
  is_front = begins;
  first = first-front (head_signs (length f.text) f.lines f.read) (sign (CutShort (length bytes)) (nat_lt (length f.rest) (length_behind f.read)) ∷ []) fault first;
}

-- a front of the longer bytes that is no longer than the shorter ones is a front of these
front_of_front : (bytes more text rest : List ℕ) → bytes ++ more ≡ text ++ rest → length text ≤ length bytes → bytes ≡ text ++ drop (length text) bytes
front_of_front bytes more text rest e short =
    let here : take (length text) bytes ≡ text =
    sym (take-append-le (length text) bytes more short) ∙ ap (λ t. take (length text) t) e ∙ take_at text rest (length text) refl in
    sym (take-append-drop (length text) bytes) ∙ ap (λ t. t ++ drop (length text) bytes) here

-- A fault other than an input's end stays the fault, however the stream goes on.
pub fault_goes_on : (bytes more : List ℕ) (fault : WireFault) → IsNoCut fault → HasFault bytes fault → HasFault (bytes ++ more) fault
fault_goes_on bytes more fault stays x = by x.front x.is_front x.first
  where
    endless : (b : Bool) → nat_le head_limit (length bytes) ≡ b → HasNoFront bytes
        → (if b then Some HeadTooLong else first_there (sign (CutShort (length bytes)) (nat_lt 0 (length bytes)) ∷ [])) ≡ Some fault → HasFault (bytes ++ more) fault
    endless true e none first =
        let long = leb-true head_limit (length bytes) e in
        let same : HeadTooLong ≡ fault = cc in
        subst (λ (f : WireFault). HasFault (bytes ++ more) f) same
        (head_too_long (bytes ++ more)
        (λ text rest lines parts short. none text (drop (length text) bytes) lines (front_of_front bytes more text rest parts (omega (arith, short, long))) short)
        (let len = length-append bytes more in omega (arith, long, len)))
    endless false e none first = absurd (not_cut (length bytes) (nat_lt 0 (length bytes)) fault first stays)

    headed : (f : Front) → Begins bytes f
        → (first_there (head_signs (length f.text) f.lines f.read) ≡ Some fault)
        ⊎ ((first_there (head_signs (length f.text) f.lines f.read) ≡ None) × (first_there (sign (CutShort (length bytes)) (nat_lt (length f.rest) (length_behind f.read)) ∷ []) ≡ Some fault))
        → HasFault (bytes ++ more) fault
    headed f begins (inl first) =
        fault_of_head (bytes ++ more) (record f { rest = f.rest ++ more }) fault (record {
          parts = ap (λ z. z ++ more) begins.parts ∙ append_assoc f.text f.rest more;
          head = begins.head;
          short = begins.short;
          read = begins.read;
        }) first
    headed f begins (inr cut) = absurd (not_cut (length bytes) (nat_lt (length f.rest) (length_behind f.read)) fault cut.1 stays)

    by : (front : Option Front) → IsFront bytes front → first_there (signs_of bytes front) ≡ Some fault → HasFault (bytes ++ more) fault
    by None is first = endless (nat_le head_limit (length bytes)) refl is first
    by (Some f) is first =
        headed f is (first_either (head_signs (length f.text) f.lines f.read) (sign (CutShort (length bytes)) (nat_lt (length f.rest) (length_behind f.read)) ∷ []) fault first)

-- ---- one reading

after_once : (b : Bool) (ms ns : List Message) (e f : End) (P Q : Type 0) → MatchBool b ((ms ≡ []) × (e ≡ Closed)) P → MatchBool b ((ns ≡ []) × (f ≡ Closed)) Q
    → (P → Q → (ms ≡ ns) × (e ≡ f)) → (ms ≡ ns) × (e ≡ f)
after_once true ms ns e f P Q x y others = (x.0 ∙ sym y.0, x.1 ∙ sym y.1)
after_once false ms ns e f P Q x y others = others x y

-- Bytes have one list of messages and one end.
pub framed_once : (ms ns : List Message) (before : ℕ) (bytes : List ℕ) (e f : End) → FramedFrom before bytes ms e → FramedFrom before bytes ns f → (ms ≡ ns) × (e ≡ f)
framed_once [] [] before bytes e f x y = (refl, one_end bytes e f x y)
framed_once [] (n ∷ ns) before bytes e f x y = absurd (no_message_at_end bytes e x y.0 y.1 n y.3 y.2)
framed_once (m ∷ ms) [] before bytes e f x y = absurd (no_message_at_end bytes f y x.0 x.1 m x.3 x.2)
framed_once (m ∷ ms) (n ∷ ns) before bytes e f x y =
    let same = same_messages x.0 x.1 y.0 y.1 m n (sym x.3 ∙ y.3) x.2 y.2 in
    let moved = subst (λ z. MatchBool (closes before n) ((ms ≡ []) × (e ≡ Closed)) (FramedFrom (before + 1) z ms e)) same.2
    (subst (λ z. MatchBool (closes before z) ((ms ≡ []) × (e ≡ Closed)) (FramedFrom (before + 1) x.1 ms e)) same.0 x.4) in
    let others = after_once (closes before n) ms ns e f (FramedFrom (before + 1) y.1 ms e) (FramedFrom (before + 1) y.1 ns f) moved y.4
    (λ p q. framed_once ms ns (before + 1) y.1 e f p q) in
    (ap (λ z. z ∷ ms) same.0 ∙ ap (λ z. n ∷ z) others.0, others.1)

one_more : (before : ℕ) (m : Message) (ms : List Message) → before + 1 + length ms ≡ before + length (m ∷ ms)
one_more before m ms = omega arith

-- Messages in front of a reading, none of which closes, are messages of the whole.
pub spells_then_framed : (ms ns : List Message) (before : ℕ) (text rest : List ℕ) (e : End) → Spells ms text → StayOpen before ms
    → FramedFrom (before + length ms) rest ns e → FramedFrom before (text ++ rest) (ms ++ ns) e
spells_then_framed [] ns before text rest e x stay y =
    subst (λ z. FramedFrom before (z ++ rest) ns e) (sym x) (subst (λ n. FramedFrom n rest ns e) (omega arith) y)
spells_then_framed (m ∷ ms) ns before text rest e x stay y = (
  x.0,
  x.1 ++ rest,
  x.2,
  ap (λ z. z ++ rest) x.3 ∙ append_assoc x.0 x.1 rest,
  subst (λ b. MatchBool b ((ms ++ ns ≡ []) × (e ≡ Closed)) (FramedFrom (before + 1) (x.1 ++ rest) (ms ++ ns) e)) (sym stay.0)
      (spells_then_framed ms ns (before + 1) x.1 rest e x.4 stay.1 (subst (λ n. FramedFrom n rest ns e) (sym (one_more before m ms)) y)),
)

-- What stands in front of a reading's bytes, and doesn't close, stands in front of its messages.
pub reading_of_rest : (ms ns : List Message) (before : ℕ) (text rest : List ℕ) (e : End) → Spells ms text → StayOpen before ms
    → FramedFrom before (text ++ rest) ns e → (others : List Message) × (ns ≡ ms ++ others) × FramedFrom (before + length ms) rest others e
reading_of_rest [] ns before text rest e x stay y =
    (ns, refl, subst (λ n. FramedFrom n rest ns e) (omega arith) (subst (λ z. FramedFrom before (z ++ rest) ns e) x y))
reading_of_rest (m ∷ ms) [] before text rest e x stay y =
    absurd (no_message_at_end (text ++ rest) e y x.0 (x.1 ++ rest) m (ap (λ z. z ++ rest) x.3 ∙ append_assoc x.0 x.1 rest) x.2)
reading_of_rest (m ∷ ms) (n ∷ ns) before text rest e x stay y =
    let same = same_messages x.0 (x.1 ++ rest) y.0 y.1 m n (sym (append_assoc x.0 x.1 rest) ∙ ap (λ z. z ++ rest) (sym x.3) ∙ y.3) x.2 y.2 in
    let goes : FramedFrom (before + 1) y.1 ns e =
    subst (λ b. MatchBool b ((ns ≡ []) × (e ≡ Closed)) (FramedFrom (before + 1) y.1 ns e)) (ap (closes before) (sym same.0) ∙ stay.0) y.4 in
    let next = reading_of_rest ms ns (before + 1) x.1 rest e x.4 stay.1 (subst (λ z. FramedFrom (before + 1) z ns e) (sym same.2) goes) in (
      next.0,
      ap (λ z. z ∷ ns) (sym same.0) ∙ ap (λ z. m ∷ z) next.1,
      subst (λ k. FramedFrom k rest next.0 e) (one_more before m ms) next.2,
    )

-- One message more behind the others.
pub spells_more : (ms : List Message) (text bytes : List ℕ) (m : Message) → Spells ms text → IsMessage bytes m → Spells (ms ++ m ∷ []) (text ++ bytes)
spells_more [] text bytes m x y = (bytes, [], y, ap (λ z. z ++ bytes) x ∙ sym (append-nil bytes), refl)
spells_more (n ∷ ms) text bytes m x y = (x.0, x.1 ++ bytes, x.2, ap (λ z. z ++ bytes) x.3 ∙ append_assoc x.0 x.1 bytes, spells_more ms x.1 bytes m x.4 y)

-- None of them closes, and this one doesn't.
pub stay_more : (ms : List Message) (before : ℕ) (m : Message) → StayOpen before ms → closes (before + length ms) m ≡ false → StayOpen before (ms ++ m ∷ [])
stay_more [] before m stay goes = (subst (λ n. closes n m ≡ false) (omega arith) goes, tt)
stay_more (n ∷ ms) before m stay goes =
    (stay.0, stay_more ms (before + 1) m stay.1 (subst (λ k. closes k m ≡ false) (sym (one_more before n ms)) goes))
