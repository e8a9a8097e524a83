-- What stands first in a stream of which a front was searched.
use Rattle.std.proofs.Common.{◌≡◌, ◌≢◌, ℕ, zero, suc, ◌+◌, ◌-◌, ◌<◌, ◌≤◌, min, List, [], ◌∷◌, ◌++◌, length, take, drop, Some, refl, sym, ap, ◌∙◌, subst, arith, zero-add, append-nil, append_assoc, length-append, length-take, length-drop, Bool, true, false, nat_eq}
use Rattle.std.specs.Bool.{MatchBool}
use Rattle.std.proofs.lemmas.Bool.{eqb-false, or_parts}
use Rattle.std.proofs.lemmas.List.{take_at, drop_at, take-append-drop, take_all, take-take, drop-take}
use Rattle.httparse.specs.Grammar.{RequestHead, print_request}
use Rattle.http_wire.specs.Head.{head_limit}
use Rattle.http_wire.specs.Scan.{head_end, Passed}
use Rattle.http_wire.specs.Says.{IsMessageOf}
use Rattle.http_wire.specs.Announced.{IsSaid, IsRequest}
use Rattle.http_wire.specs.Stream.{Announces, IsMessage, HasFault, FramedFrom, Framed, Spells, StayOpen, HasEnd, closes, closes_at, reply_limit}
use Rattle.http_wire.specs.declared.head_scan.Progress.{Progress}
use Rattle.http_wire.specs.declared.message.Message.{Message}
use Rattle.http_wire.specs.declared.message.End.{End}
use Rattle.http_wire.specs.declared.message.End.TheVariants.{Closed}
use Rattle.http_wire.specs.declared.message.WireFault.TheVariants.{HeadTooLong, CutShort}
use Rattle.http_wire.specs.First.{IsFirstMessage}
use Rattle.http_wire.specs.declared.request.Request.{Request}
use Rattle.http_wire.proofs.SaysLaws.{message_for}
use Rattle.http_wire.proofs.ScanLaws.{head_at_end, end_of_head}
use Rattle.http_wire.proofs.HeadSearchLaws.{no_head_passed}
use Rattle.http_wire.proofs.NextLaws.{Front, front_at, announces}
use Rattle.http_wire.proofs.StreamLaws.{spells_then_framed, no_empty_head, spells_more, stay_more, cut_in_head, head_too_long}

-- the head that ends in a front ends in the whole
pub ends_in_whole : (stream : List ℕ) (m n k : ℕ) → head_end (take m stream) ≡ Some (n, k) → (head_end stream ≡ Some (n, k)) × (n ≤ m)
ends_in_whole stream m n k e =
    let x = head_at_end (take m stream) n k e in
    let bytes : stream ≡ x.0 ++ (x.1 ++ drop m stream) = sym (take-append-drop m stream) ∙ ap (λ z. z ++ drop m stream) x.2 ∙ append_assoc x.0 x.1 (drop m stream) in
    let found = ap head_end bytes ∙ end_of_head x.0 (x.1 ++ drop m stream) k x.4 in
    let n_is = x.3 in
    let len : min m (length stream) ≡ length x.0 + length x.1 = sym (length-take m stream) ∙ ap length x.2 ∙ length-append x.0 x.1 in
    (found ∙ ap (λ z. Some (z, k)) (sym n_is), omega (arith, n_is, len))

pub cut_where_short : (stream : List ℕ) (m : ℕ) (p : Progress) → Passed (take m stream) p → length stream ≤ m → length stream < head_limit → stream ≢ []
    → HasFault stream (CutShort (length stream))
cut_where_short stream m p passed whole short some =
    cut_in_head stream (no_head_passed stream p (subst (λ z. Passed z p) (take_all m stream whole) passed)) short some

pub long_where_none : (stream : List ℕ) (m : ℕ) (p : Progress) → Passed (take m stream) p → m ≡ head_limit → head_limit ≤ length stream → HasFault stream HeadTooLong
long_where_none stream m p passed is long =
    head_too_long stream
    (λ text rest lines e short head.
    let front : take m stream ≡ text ++ take (m - length text) rest =
    ap (λ z. take m z) e
    ∙ ap (λ n. take n (text ++ rest)) (let n : m ≡ length text + (m - length text) = omega (arith, is, short) in n)
    ∙ take_behind text rest (m - length text) in
    let len = length-take m stream in
    no_head_passed (take m stream) p passed text (take (m - length text) rest) lines front short head)
    long
  where
    take_behind : (text rest : List ℕ) (n : ℕ) → take (length text + n) (text ++ rest) ≡ text ++ take n rest
    take_behind text rest n =
        sym (take-append-drop (length text) (take (length text + n) (text ++ rest)))
        ∙ ap (λ z. z ++ drop (length text) (take (length text + n) (text ++ rest)))
        (take-take (length text) (length text + n) (text ++ rest) (omega arith) ∙ take_at text rest (length text) refl)
        ∙ ap (λ z. text ++ z) (drop-take (length text) n (text ++ rest) ∙ ap (λ z. take n z) (drop_at text rest (length text) refl))

pub first_message : (stream body : List ℕ) (n k : ℕ) (r : Request) (m : Message) → head_end stream ≡ Some (n, k) → n ≤ head_limit → (q : IsRequest (take n stream) k r)
    → n + r.len ≤ length stream → body ≡ take r.len (drop n stream) → IsMessageOf q.h body m → IsMessage (take (n + r.len) stream) m
first_message stream body n k r m e small q fits is means =
    let f = front_at stream n k e in
    let count : length body ≡ r.len = ap length is ∙ simp (length-take, length-drop) (omega arith) in
    record {
      h = q.h;
      body = body;
      announced = subst (λ z. Announces q.h z) (sym count) (announces stream n k r f small q);
      parts =
          sym (take-append-drop n (take (n + r.len) stream))
          ∙ ap (λ z. z ++ drop n (take (n + r.len) stream)) (take-take n (n + r.len) stream (omega arith) ∙ q.read.2)
          ∙ ap (λ z. print_request q.h ++ z) (drop-take n r.len stream ∙ sym is);
      says = means;
    }

pub some_head : (stream : List ℕ) (n k : ℕ) → head_end stream ≡ Some (n, k) → 0 < n
some_head stream n k e = above n (front_at stream n k e)
  where
    above : (n : ℕ) → Front stream n k → 0 < n
    above zero f = absurd (no_empty_head k f.head)
    above (suc n) f = omega arith

pub first_request : (stream : List ℕ) (n k : ℕ) (r : Request) → head_end stream ≡ Some (n, k) → n ≤ head_limit → IsRequest (take n stream) k r
    → n + r.len ≤ length stream → IsFirstMessage stream n r
first_request stream n k r e small q fits = record {
  some = some_head stream n k e;
  fits = fits;
  h = q.h;
  said = q.said;
  message = λ m says. first_message stream (take r.len (drop n stream)) n k r m e small q fits refl says;
}

-- ---- the messages so far

-- they stand in front of the rest, so many, and none of them closes
pub record SoFar (stream : List ℕ) (ms : List Message) (before : ℕ) (rest : List ℕ) : Type 0 where
  pub text : List ℕ
  pub spells : Spells ms text
  pub parts : stream ≡ text ++ rest
  pub stays : StayOpen 0 ms
  pub counted : before ≡ length ms
  pub few : before < reply_limit

pub so_far_none : (stream : List ℕ) → SoFar stream [] 0 stream
so_far_none stream = record { text = []; spells = refl; parts = refl; stays = tt; counted = refl; few = omega arith }

-- a reply that doesn't close isn't the last one
not_last : (before : ℕ) (close : Bool) → closes_at before close ≡ false → before < reply_limit → before + 1 < reply_limit
not_last before close goes few =
    let other = eqb-false (before + 1) reply_limit (or_parts close _ goes).1 in omega (arith, few, other)

-- a message closes where its head says so
closes_so : (h : RequestHead) (body : List ℕ) (m : Message) (r : Request) (before : ℕ) (ms : List Message) (b : Bool) → IsMessageOf h body m → IsSaid h r → before ≡ length ms
    → closes_at before r.close ≡ b → closes (length ms) m ≡ b
closes_so h body m r before ms b says said counted is =
    ap (λ c. closes_at (length ms) c) (says.close_is ∙ sym said.close) ∙ ap (λ n. closes_at n r.close) (sym counted) ∙ is

pub so_far_more : (stream : List ℕ) (ms : List Message) (before : ℕ) (rest : List ℕ) (m : Message) (head : ℕ) (r : Request) (body : List ℕ)
    → SoFar stream ms before rest → (f : IsFirstMessage rest head r) → IsMessage (take (head + r.len) rest) m → IsMessageOf f.h body m → closes_at before r.close ≡ false
    → SoFar stream (ms ++ m ∷ []) (before + 1) (drop (head + r.len) rest)
so_far_more stream ms before rest m head r body s f x says goes =
    let len = head + r.len in
    let counted = s.counted in
    record {
      text = s.text ++ take len rest;
      spells = spells_more ms s.text (take len rest) m s.spells x;
      parts = s.parts ∙ ap (λ z. s.text ++ z) (sym (take-append-drop len rest)) ∙ sym (append_assoc s.text (take len rest) (drop len rest));
      stays = stay_more ms 0 m s.stays (subst (λ n. closes n m ≡ false) (sym (zero-add (length ms))) (closes_so f.h body m r before ms false says f.said counted goes));
      counted = let more = length-append ms (m ∷ []) in omega (arith, more, counted);
      few = not_last before r.close goes s.few;
    }

pub so_far_all : (stream : List ℕ) (ms : List Message) (before : ℕ) (rest : List ℕ) (e : End) → SoFar stream ms before rest → HasEnd rest e → Framed stream ms e
so_far_all stream ms before rest e s x =
    subst (λ z. Framed z ms e) (sym s.parts)
    (subst (λ z. Framed (s.text ++ rest) z e) (append-nil ms) (spells_then_framed ms [] 0 s.text rest e s.spells s.stays x))

abbrev Nothing : List Message → Type 0
Nothing ms = (ms ≡ []) × (Closed ≡ Closed)

-- The message closes: it is the last one.
pub so_far_closed : (stream : List ℕ) (ms : List Message) (before : ℕ) (rest : List ℕ) (m : Message) (head : ℕ) (r : Request) (body : List ℕ)
    → SoFar stream ms before rest → (f : IsFirstMessage rest head r) → IsMessage (take (head + r.len) rest) m → IsMessageOf f.h body m → closes_at before r.close ≡ true
    → Framed stream (ms ++ m ∷ []) Closed
so_far_closed stream ms before rest m head r body s f x says last =
    let len = head + r.len in
    let closing = subst (λ n. closes n m ≡ true) (sym (zero-add (length ms))) (closes_so f.h body m r before ms true says f.said s.counted last) in
    subst (λ z. Framed z (ms ++ m ∷ []) Closed) (sym s.parts)
    (spells_then_framed ms (m ∷ []) 0 s.text rest Closed s.spells s.stays (
      take len rest,
      drop len rest,
      x,
      sym (take-append-drop len rest),
      subst (λ b. MatchBool b (Nothing []) (FramedFrom (0 + length ms + 1) (drop len rest) [] Closed)) (sym closing) (refl, refl),
    ))

pub not_empty : (xs : List ℕ) (b : Bool) → b ≡ nat_eq (length xs) 0 → b ≡ false → xs ≢ []
not_empty xs b is no_byte = λ e. eqb-false (length xs) 0 (sym is ∙ no_byte) (ap length e)

-- ---- messages that there are

-- one message more of those that there are
pub some_more : (stream rest now : List ℕ) (head before : ℕ) (r : Request) → (x : (ms : List Message) × SoFar stream ms before rest)
    → IsFirstMessage rest head r → closes_at before r.close ≡ false → now ≡ drop (head + r.len) rest → (ms : List Message) × SoFar stream ms (before + 1) now
some_more stream rest now head before r x first goes is =
    let body = take r.len (drop head rest) in
    let there = message_for first.h body in
    let m = there.0 in (
      x.0 ++ m ∷ [],
      subst (λ z. SoFar stream (x.0 ++ m ∷ []) (before + 1) z) (sym is)
          (so_far_more stream x.0 before rest m head r body x.1 first (first.message m there.1) there.1 goes),
    )

-- the last message of those that there are
pub some_closed : (stream rest : List ℕ) (head before : ℕ) (r : Request) → (x : (ms : List Message) × SoFar stream ms before rest)
    → IsFirstMessage rest head r → closes_at before r.close ≡ true → (ms : List Message) × Framed stream ms Closed
some_closed stream rest head before r x first last =
    let body = take r.len (drop head rest) in
    let there = message_for first.h body in
    let m = there.0 in
    (x.0 ++ m ∷ [], so_far_closed stream x.0 before rest m head r body x.1 first (first.message m there.1) there.1 last)
