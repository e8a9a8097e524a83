-- From the steps of reading a message to the answer.
use Rattle.std.proofs.Common.{◌≡◌, inl, inr, ℕ, ◌+◌, ◌<◌, ◌≤◌, true, List, [], ◌++◌, length, take, drop, Option, Some, Result, Ok, Err, refl, sym, ap, ◌∙◌, subst, arith, append-nil, append_assoc, length-append, length-drop}
use Rattle.std.proofs.lemmas.List.{take_at, take-append-drop, take-append-le, nil_from_length}
use Rattle.std.proofs.lemmas.Bool.{cases_lt}
use Rattle.std.specs.Prelude.{is_ok}
use Rattle.std.specs.Global.{Vec}
use Rattle.outside.specs.Ends.{Incoming}
use Rattle.outside.proofs.Taken.{gave_both}
use Rattle.httparse.specs.Grammar.{RequestHead, print_request}
use Rattle.http_wire.specs.Head.{IsHeadText, head_limit}
use Rattle.http_wire.specs.Form.{body_length, body_limit}
use Rattle.http_wire.specs.Faults.{first_there, head_signs}
use Rattle.http_wire.specs.Scan.{head_end}
use Rattle.http_wire.specs.Announced.{IsRequest, IsFaulty}
use Rattle.http_wire.specs.Stream.{Announces, IsRead, Begins, HasFault, IsUndecided}
use Rattle.http_wire.specs.Says.{IsMessageOf}
use Rattle.http_wire.specs.Held.{IsAnswer, CountsRead, CountsEnds, ends_by, Reading, message_limit}
use Rattle.http_wire.specs.Reads.{FindsHead, IsHeadAnswer, IsBodyAnswer, TakesBody}
use Rattle.http_wire.specs.declared.head_scan.HeadEnd.{HeadEnd}
use Rattle.http_wire.specs.declared.message.Message.{Message}
use Rattle.http_wire.specs.declared.message.WireFault.{WireFault}
use Rattle.http_wire.specs.declared.message.WireFault.TheVariants.{HeadTooLong, CutShort, ReadFault, Memory}
use Rattle.http_wire.specs.declared.request.Request.{Request}
use Rattle.http_wire.proofs.AnnouncedLaws.{read_lines}
use Rattle.http_wire.proofs.BodyLaws.{counted}
use Rattle.http_wire.proofs.FaultLaws.{IsOfHead, head_fault, short_body}
use Rattle.http_wire.proofs.ScanLaws.{head_at_end, end_of_head}
use Rattle.http_wire.proofs.StreamLaws.{fault_of_head, cut_in_body}

-- the head in front of the bytes
pub record Front (bytes : List ℕ) (n k : ℕ) : Type 0 where
  pub fits : n ≤ length bytes
  pub many : n ≡ length (take n bytes)
  pub head : IsHeadText (take n bytes) k
  pub ends : head_end (take n bytes) ≡ Some (length (take n bytes), k)

pub front_at : (bytes : List ℕ) (n k : ℕ) → head_end bytes ≡ Some (n, k) → Front bytes n k
front_at bytes n k e =
    let x = head_at_end bytes n k e in
    let same : take n bytes ≡ x.0 = ap (λ m. take m bytes) x.3 ∙ ap (λ z. take (length x.0) z) x.2 ∙ take_at x.0 x.1 (length x.0) refl in
    let whole : length bytes ≡ length x.0 + length x.1 = ap length x.2 ∙ length-append x.0 x.1 in
    let n_is = x.3 in
    record {
      fits = omega (arith, whole, n_is);
      many = x.3 ∙ ap length (sym same);
      head = subst (λ z. IsHeadText z k) (sym same) x.4;
      ends = subst (λ z. head_end z ≡ Some (length z, k)) (sym same) (ap head_end (sym (append-nil x.0)) ∙ end_of_head x.0 [] k x.4);
    }

pub front_short : (bytes : List ℕ) (n k : ℕ) → Front bytes n k → length bytes ≤ head_limit → n ≤ head_limit
front_short bytes n k f small = let fits = f.fits in omega (arith, fits, small)

-- A reading that ends with the search for a head: its answer is one to what was read so far.
pub reading_at_head : (held bytes now : List ℕ) (had left : Incoming) (f : Result (Option HeadEnd) WireFault)
    (r : Result (Option Message) WireFault) → FindsHead held had f bytes left → IsAnswer bytes r left.left now
    → CountsRead had.faults r left.faults → CountsEnds had.ends r left.ends
    → Reading (record { held = held; is_open = true }) had r left (record { held = now; is_open = is_ok r })
reading_at_head held bytes now had left f r x answer faults ends =
    let all = ap length x.read.behind in
    let both = length-append held x.read.got in
    let short = x.short in
    record {
      got = x.read.got;
      gave = x.read.gave;
      answer = subst (λ z. IsAnswer z r left.left now) x.read.behind answer;
      stays_open = refl;
      faults = faults;
      ends = ends;
      must_read = λ h.
          let same = ap length (x.must_read h).0 in
          (nil_from_length x.read.got (omega (arith, same, all, both)), (x.must_read h).1);
      bounded = omega (arith, all, short);
    }

search_fault : (bytes now : List ℕ) (left : Option (List ℕ)) (e : WireFault) → length bytes ≤ head_limit
    → IsHeadAnswer bytes left (Err e) → IsAnswer bytes (Err e) left now
search_fault bytes now left (CutShort have) short a = a
search_fault bytes now left HeadTooLong short a = (a, short)
search_fault bytes now left ReadFault short a = a
search_fault bytes now left fault short a = absurd a

-- The search found no head.
pub reading_at_head_fault : (held bytes : List ℕ) (had left : Incoming) (e : WireFault) (r : Result (Option Message) WireFault)
    → FindsHead held had (Err e) bytes left → r ≡ Err e
    → Reading (record { held = held; is_open = true }) had r left (record { held = bytes; is_open = is_ok r })
reading_at_head_fault held bytes had left e r x is =
    subst (λ z. Reading (record { held = held; is_open = true }) had z left (record { held = bytes; is_open = is_ok z })) (sym is)
    (reading_at_head held bytes bytes had left (Err e) (Err e) x (search_fault bytes bytes left.left e x.short x.answer)
    (counted (Option HeadEnd) (Option Message) had.faults left.faults e x.faults) x.ends)

-- ---- a head that has a fault

pub begins_at : (bytes : List ℕ) (n k : ℕ) (read : Option RequestHead) → Front bytes n k → n ≤ head_limit → IsRead (take n bytes) k read
    → Begins bytes (record { text = take n bytes; lines = k; read = read; rest = drop n bytes })
begins_at bytes n k read f small is = record {
  parts = sym (take-append-drop n bytes);
  head = f.head;
  short = let many = f.many in omega (arith, many, small);
  read = is;
}

pub faulty_head : (bytes : List ℕ) (n k : ℕ) (fault : WireFault) → Front bytes n k → n ≤ head_limit → IsFaulty (take n bytes) k fault → HasFault bytes fault
faulty_head bytes n k fault f small x =
    fault_of_head bytes (record { text = take n bytes; lines = k; read = x.read; rest = drop n bytes }) fault
    (begins_at bytes n k x.read f small x.is_read) x.first

-- a fault of a head is answered as one of the stream
answer_fault : (bytes now : List ℕ) (left : Option (List ℕ)) (fault : WireFault) → IsOfHead fault → HasFault bytes fault → length bytes ≤ head_limit
    → IsAnswer bytes (Err fault) left now
answer_fault bytes now left (CutShort have) of x short = absurd of
answer_fault bytes now left ReadFault of x short = absurd of
answer_fault bytes now left Memory of x short = absurd of
answer_fault bytes now left fault of x short = (x, short)

counted_fault : (before now : ℕ) (fault : WireFault) → IsOfHead fault → now ≡ before → CountsRead {T = Option Message} before (Err fault) now
counted_fault before now ReadFault of same = absurd of
counted_fault before now fault of same = same

-- a fault of a whole head reaches no end
whole_head : (before now : ℕ) (fault : WireFault) → IsOfHead fault → now ≡ before → CountsEnds {T = Message} before (Err fault) now
whole_head before now (CutShort have) of same = absurd of
whole_head before now fault of same = same

pub reading_at_faulty_head : (held bytes : List ℕ) (had left : Incoming) (end : HeadEnd) (fault : WireFault) (r : Result (Option Message) WireFault)
    → FindsHead held had (Ok (Some end)) bytes left → Front bytes end.len end.lines → IsFaulty (take end.len bytes) end.lines fault → r ≡ Err fault
    → Reading (record { held = held; is_open = true }) had r left (record { held = bytes; is_open = is_ok r })
reading_at_faulty_head held bytes had left end fault r x f faulty is =
    let of = head_fault (length (take end.len bytes)) end.lines faulty.read fault faulty.first in
    subst (λ z. Reading (record { held = held; is_open = true }) had z left (record { held = bytes; is_open = is_ok z })) (sym is)
    (reading_at_head held bytes bytes had left (Ok (Some end)) (Err fault) x
    (answer_fault bytes bytes left.left fault of (faulty_head bytes end.len end.lines fault f (front_short bytes end.len end.lines f x.short) faulty) x.short)
    (counted_fault had.faults left.faults fault of x.faults) (whole_head had.ends left.ends fault of x.ends))

-- ---- a head without a fault

pub announces : (bytes : List ℕ) (n k : ℕ) (r : Request) → Front bytes n k → n ≤ head_limit → (q : IsRequest (take n bytes) k r) → Announces q.h r.len
announces bytes n k r f small q = record {
  head = q.read.1;
  short = let printed = ap length q.read.2 in let many = f.many in omega (arith, printed, many, small);
  sound =
      let lines : k ≡ length q.h.fields = read_lines (take n bytes) (length (take n bytes)) k q.h f.ends (q.read.1, q.read.2 ∙ sym (append-nil (print_request q.h))) in
      ap (λ z. first_there (head_signs (length z) (length q.h.fields) (Some q.h))) (sym q.read.2)
      ∙ ap (λ c. first_there (head_signs (length (take n bytes)) c (Some q.h))) (sym lines) ∙ q.sound;
  len_is = q.len;
}

-- less is there than it announces
pub lacks : (bytes more : List ℕ) (n k : ℕ) (r : Request) → Front bytes n k → n ≤ head_limit → IsRequest (take n bytes) k r → length (bytes ++ more) < n + r.len
    → HasFault (bytes ++ more) (CutShort (length (bytes ++ more)))
lacks bytes more n k r f small q less =
    cut_in_body (bytes ++ more) (drop n (bytes ++ more)) q.h r.len (announces bytes n k r f small q)
    (sym (take-append-drop n (bytes ++ more)) ∙ ap (λ z. z ++ drop n (bytes ++ more)) (take-append-le n bytes more f.fits ∙ q.read.2))
    (let rest = length-drop n (bytes ++ more) in
    let fits = f.fits in
    let both = length-append bytes more in
    omega (arith, rest, fits, both, less))

-- a whole head alone
pub lacks_body : (stream : List ℕ) (n k : ℕ) (r : Request) → Front stream n k → n ≤ head_limit → IsRequest (take n stream) k r → length stream < n + r.len
    → HasFault stream (CutShort (length stream))
lacks_body stream n k r f small q less =
    let same = append-nil stream in
    subst (λ z. HasFault z (CutShort (length z))) same (lacks stream [] n k r f small q (subst (λ z. length z < n + r.len) (sym same) less))

-- a head without a fault, and how much there is of the message
pub record Framing (bytes : List ℕ) (n k : ℕ) (r : Request) : Type 0 where
  pub front : Front bytes n k
  pub small : n ≤ head_limit
  pub request : IsRequest (take n bytes) k r

pub framing_at : (bytes : List ℕ) (n k : ℕ) (r : Request) → head_end bytes ≡ Some (n, k) → length bytes ≤ head_limit
    → IsRequest (take n bytes) k r → Framing bytes n k r
framing_at bytes n k r e short q =
    let f = front_at bytes n k e in
    record { front = f; small = front_short bytes n k f short; request = q }

pub in_limits : (bytes : List ℕ) (n k : ℕ) (r : Request) → Framing bytes n k r → n + r.len ≤ message_limit
in_limits bytes n k r m =
    let small = m.small in
    let q = m.request in
    let len = q.len in
    let limit : body_length q.h ≤ body_limit = short_body (length (take n bytes)) k q.h q.sound in
    omega (arith, small, len, limit)

-- where nothing has to be read, all of the message is held
holds_all : (bytes : List ℕ) (n k : ℕ) (r : Request) → Framing bytes n k r → ¬ (IsUndecided bytes) → n + r.len ≤ length bytes
holds_all bytes n k r m decided =
    elim (cases_lt (length bytes) (n + r.len)) [
      | inl less ↦ absurd (decided (inr (lacks_body bytes n k r m.front m.small m.request less)))
      | inr fits ↦ fits
    ]

-- A reading that ends with the body: its answer is one to what was read in both steps.
reading_at_body : (held bytes now : List ℕ) (had between left : Incoming) (end : HeadEnd) (q : Request) (b : Result (Vec ℕ) WireFault)
    (r : Result (Option Message) WireFault) → FindsHead held had (Ok (Some end)) bytes between
    → Framing bytes end.len end.lines q → (t : TakesBody bytes between end.len q.len b now left)
    → IsAnswer (bytes ++ t.got) r left.left now → CountsRead had.faults r left.faults → CountsEnds had.ends r left.ends
    → Reading (record { held = held; is_open = true }) had r left (record { held = now; is_open = is_ok r })
reading_at_body held bytes now had between left end q b r x m t answer faults ends =
    let all = ap length x.read.behind in
    let both = length-append held x.read.got in
    let short = x.short in
    let limits = in_limits bytes end.len end.lines q m in
    let needed = t.needed in
    let whole : bytes ++ t.got ≡ held ++ (x.read.got ++ t.got) =
    ap (λ z. z ++ t.got) x.read.behind ∙ append_assoc held x.read.got t.got in
    record {
      got = x.read.got ++ t.got;
      gave = gave_both had.left x.read.got t.got between.left left.left x.read.gave t.gave;
      answer = subst (λ z. IsAnswer z r left.left now) whole answer;
      stays_open = refl;
      faults = faults;
      ends = ends;
      must_read = λ h.
          let same = x.must_read h in
          let len_is = ap length same.0 in
          let fits = holds_all bytes end.len end.lines q m (λ u. h (subst IsUndecided same.0 u)) in
          let none : length (x.read.got ++ t.got) ≡ 0 =
          (let got = length-append x.read.got t.got in omega (arith, got, len_is, all, both, needed, fits)) in
          (nil_from_length (x.read.got ++ t.got) none, t.must_read fits ∙ same.1);
      bounded = let len_is = ap length (sym whole) in let got = length-append bytes t.got in omega (arith, len_is, got, needed, short, limits);
    }

body_fault : (bytes more now : List ℕ) (left : Option (List ℕ)) (n k : ℕ) (q : Request) (e : WireFault) → Framing bytes n k q
    → IsBodyAnswer (bytes ++ more) n q.len now left (Err e) → IsAnswer (bytes ++ more) (Err e) left now
body_fault bytes more now left n k q (CutShort have) m b =
    (subst (λ c. HasFault (bytes ++ more) (CutShort c)) (sym b.0) (lacks bytes more n k q m.front m.small m.request b.1), b.2)
body_fault bytes more now left n k q ReadFault m b = inr (lacks bytes more n k q m.front m.small m.request b)
body_fault bytes more now left n k q Memory m b = tt
body_fault bytes more now left n k q fault m b = absurd b

-- The body didn't come.
pub reading_at_body_fault : (held bytes now : List ℕ) (had between left : Incoming) (end : HeadEnd) (q : Request) (e : WireFault)
    (r : Result (Option Message) WireFault) → FindsHead held had (Ok (Some end)) bytes between
    → Framing bytes end.len end.lines q → TakesBody bytes between end.len q.len (Err e) now left → r ≡ Err e
    → Reading (record { held = held; is_open = true }) had r left (record { held = now; is_open = is_ok r })
reading_at_body_fault held bytes now had between left end q e r x m t is =
    subst (λ z. Reading (record { held = held; is_open = true }) had z left (record { held = now; is_open = is_ok z })) (sym is)
    (reading_at_body held bytes now had between left end q (Err e) (Err e) x m t
    (body_fault bytes t.got now left.left end.len end.lines q e m t.answer)
    (counted (Vec ℕ) (Option Message) had.faults left.faults e
    (subst (λ z. CountsRead {T = Vec ℕ} z (Err e) left.faults) x.faults t.faults))
    (t.ends ∙ ap (ends_by e) x.ends))

-- There was no memory for the message, before its body was taken.
pub reading_at_no_memory : (held bytes : List ℕ) (had left : Incoming) (end : HeadEnd) (r : Result (Option Message) WireFault)
    → FindsHead held had (Ok (Some end)) bytes left → r ≡ Err Memory
    → Reading (record { held = held; is_open = true }) had r left (record { held = bytes; is_open = is_ok r })
reading_at_no_memory held bytes had left end r x is =
    subst (λ z. Reading (record { held = held; is_open = true }) had z left (record { held = bytes; is_open = is_ok z })) (sym is)
    (reading_at_head held bytes bytes had left (Ok (Some end)) (Err Memory) x tt x.faults x.ends)

-- The message is there.
pub reading_of_message : (held bytes now : List ℕ) (had between left : Incoming) (end : HeadEnd) (q : Request) (v : Vec ℕ) (means : Message)
    → FindsHead held had (Ok (Some end)) bytes between → Framing bytes end.len end.lines q → (a : IsRequest (take end.len bytes) end.lines q)
    → TakesBody bytes between end.len q.len (Ok v) now left → IsMessageOf a.h v.items means
    → Reading (record { held = held; is_open = true }) had (Ok (Some means)) left (record { held = now; is_open = true })
reading_of_message held bytes now had between left end q v means x m a t says =
    let h = a.h in
    let stream = bytes ++ t.got in
    let head : take end.len stream ≡ print_request h = take-append-le end.len bytes t.got m.front.fits ∙ a.read.2 in
    let parts : stream ≡ (print_request h ++ v.items) ++ now =
    t.answer.1 ∙ ap (λ z. z ++ (v.items ++ now)) head ∙ sym (append_assoc (print_request h) v.items now) in
    reading_at_body held bytes now had between left end q (Ok v) (Ok (Some means)) x m t (
      print_request h ++ v.items,
      record {
        h = h;
        body = v.items;
        announced = subst (λ z. Announces h z) (sym t.answer.0) (announces bytes end.len end.lines q m.front m.small a);
        parts = refl;
        says = says;
      },
      parts,
    )
    (t.faults ∙ x.faults) (t.ends ∙ x.ends)
