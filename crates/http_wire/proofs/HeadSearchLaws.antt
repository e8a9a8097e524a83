-- What a search that hasn't found the end says of the bytes that it passed.
use Rattle.std.proofs.Common.{◌≡◌, ◌≢◌, inl, inr, ℕ, ◌<◌, ◌≤◌, List, [], ◌∷◌, ◌++◌, length, take, nat_eq, cond, Bool, true, false, Option, Some, None, Result, Ok, Err, refl, sym, ap, ◌∙◌, subst, arith, append-nil, append_assoc, length-append}
use Rattle.std.proofs.lemmas.List.{nil_from_length, take_at}
use Rattle.std.proofs.lemmas.Bool.{eqb-true, eqb-false}
use Rattle.outside.specs.Bytes.{IsEnd}
use Rattle.outside.proofs.Taken.{gave_both, gave_nothing}
use Rattle.http_wire.specs.Head.{head_limit}
use Rattle.http_wire.specs.Scan.{head_end, Passed}
use Rattle.outside.specs.Ends.{Incoming}
use Rattle.http_wire.specs.Stream.{HasNoFront, HasFault, IsUndecided}
use Rattle.fault_counts.specs.Causes.{counted}
use Rattle.http_wire.specs.Held.{CountsRead, CountsEnds}
use Rattle.http_wire.specs.Reads.{IsRead, Fills, FindsHead, IsHeadAnswer}
use Rattle.http_wire.specs.declared.head_scan.Progress.{Progress}
use Rattle.http_wire.specs.declared.head_scan.HeadEnd.{HeadEnd}
use Rattle.http_wire.specs.declared.message.WireFault.{WireFault}
use Rattle.http_wire.specs.declared.message.WireFault.TheVariants.{HeadTooLong, CutShort, ReadFault}
use Rattle.http_wire.proofs.EndLaws.{some_read, none_read}
use Rattle.http_wire.proofs.ScanLaws.{end_of_head, scan_nothing}
use Rattle.http_wire.proofs.StreamLaws.{head_too_long, cut_in_head}

pub no_head_passed : (bytes : List ℕ) (p : Progress) → Passed bytes p → HasNoFront bytes
no_head_passed bytes p passed text rest count e short head =
    let found : head_end bytes ≡ Some (length text, count) = ap head_end e ∙ end_of_head text rest count head in
    let none : head_end bytes ≡ None = ap head_end (sym (append-nil bytes)) ∙ passed.goes [] ∙ scan_nothing p.place p.scanned p.lines in
    cc

pub endless : (bytes : List ℕ) (p : Progress) → Passed bytes p → p.scanned ≡ head_limit → HasFault bytes HeadTooLong
endless bytes p passed full =
    head_too_long bytes (no_head_passed bytes p passed) (let scanned = passed.scanned in omega (arith, scanned, full))

-- Where the end wasn't found, and the room isn't full, more has to be read.
pub undecided_passed : (bytes : List ℕ) (p : Progress) → Passed bytes p → p.scanned ≢ head_limit → length bytes ≤ head_limit
    → IsUndecided bytes
undecided_passed bytes p passed less short =
    undecided bytes (no_head_passed bytes p passed)
    (let scanned = passed.scanned in omega (arith, scanned, less, short))
  where
    undecided : (bytes : List ℕ) → HasNoFront bytes → length bytes < head_limit → IsUndecided bytes
    undecided [] none few = inl refl
    undecided (b ∷ bs) none few = inr (cut_in_head (b ∷ bs) none few (λ (e : b ∷ bs ≡ []). cc))

-- What a search has read. It read nothing where what was held decides.
pub record Searched (held : List ℕ) (had : Incoming) (now : List ℕ) (left : Incoming) : Type 0 where
  pub read : IsRead held had now left
  pub faults : left.faults ≡ had.faults
  pub ends : left.ends ≡ had.ends
  pub untouched : ¬ (IsUndecided held) → (now ≡ held) × (left ≡ had)

pub searched_nothing : (held : List ℕ) (had : Incoming) → Searched held had held had
searched_nothing held had = record {
  read = record { got = []; gave = gave_nothing had.left; behind = sym (append-nil held) };
  faults = refl;
  ends = refl;
  untouched = λ _. (refl, refl);
}

both : (held bytes now : List ℕ) (had between left : Incoming) → IsRead held had bytes between → IsRead bytes between now left
    → IsRead held had now left
both held bytes now had between left r s = record {
  got = r.got ++ s.got;
  gave = gave_both had.left r.got s.got between.left left.left r.gave s.gave;
  behind = s.behind ∙ ap (λ x. x ++ s.got) r.behind ∙ append_assoc held r.got s.got;
}

decides : (held bytes : List ℕ) (had between : Incoming) → Searched held had bytes between → IsUndecided bytes
    → ¬ (IsUndecided held) → ⊥
decides held bytes had between s undecided h = h (subst IsUndecided (s.untouched h).0 undecided)

pub searched_more : (held bytes now : List ℕ) (had between left : Incoming) (n : ℕ) → Searched held had bytes between
    → IsUndecided bytes → Fills bytes between (Ok n) now left → n ≢ 0 → Searched held had now left
searched_more held bytes now had between left n s undecided x some = record {
  read = both held bytes now had between left s.read x.read;
  faults = x.faults ∙ s.faults;
  ends = some_read between.ends left.ends n x.ends some ∙ s.ends;
  untouched = λ h. absurd (decides held bytes had between s undecided h);
}

nothing_read : (held now : List ℕ) (had left : Incoming) (r : IsRead held had now left) → length r.got ≡ 0 → now ≡ held
nothing_read held now had left r none =
    r.behind ∙ ap (λ x. held ++ x) (nil_from_length r.got none) ∙ append-nil held

at_fault : (held bytes now : List ℕ) (had between left : Incoming) (e : WireFault) → Searched held had bytes between
    → IsUndecided bytes → Fills bytes between (Err e) now left → length now ≤ head_limit → e ≡ ReadFault
    → FindsHead held had (Err ReadFault) now left
at_fault held bytes now had between left e s undecided x short is =
    let rose : CountsRead {T = ℕ} between.faults (Err ReadFault) left.faults =
    subst (λ z. CountsRead {T = ℕ} between.faults (Err z) left.faults) is x.faults in
    record {
      read = both held bytes now had between left s.read x.read;
      answer = subst IsUndecided (sym (nothing_read bytes now between left x.read x.many)) undecided;
      short = short;
      faults = subst (λ z. CountsRead {T = ℕ} z (Err ReadFault) left.faults) s.faults rose;
      ends = x.ends ∙ s.ends;
      must_read = λ h. absurd (decides held bytes had between s undecided h);
    }

pub finds_fault : (held bytes now : List ℕ) (had between left : Incoming) (e : WireFault) (r : Result (Option HeadEnd) WireFault)
    → Searched held had bytes between → IsUndecided bytes → Fills bytes between (Err e) now left → length now ≤ head_limit
    → r ≡ Err e → FindsHead held had r now left
finds_fault held bytes now had between left e r s undecided x short is =
    subst (λ z. FindsHead held had z now left) (sym (is ∙ ap Err x.fault))
    (at_fault held bytes now had between left e s undecided x short x.fault)

ended : (bytes : List ℕ) (n : ℕ) (left : Option (List ℕ)) (empty : Bool) → nat_eq n 0 ≡ empty → n ≡ length bytes
    → IsUndecided bytes → IsEnd left → IsHeadAnswer bytes left (cond empty (Ok None) (Err (CutShort n)))
ended bytes n left true e many undecided end =
    (nil_from_length bytes (sym many ∙ eqb-true n 0 e), end)
ended bytes n left false e many (inl nothing) end = absurd (eqb-false n 0 e (many ∙ ap length nothing))
ended bytes n left false e many (inr cut) end =
    (subst (λ k. HasFault bytes (CutShort k)) (sym many) cut, end)

stays : (before now n : ℕ) (empty : Bool) → now ≡ before
    → CountsRead before (cond empty (Ok (let none : Option HeadEnd = None in none)) (Err (CutShort n))) now
stays before now n true same = same
stays before now n false same = same

rises : (before now n : ℕ) (empty : Bool) → now ≡ counted before
    → CountsEnds before (cond empty (Ok (let none : Option HeadEnd = None in none)) (Err (CutShort n))) now
rises before now n true same = same
rises before now n false same = same

pub finds_end : (held bytes now : List ℕ) (had between left : Incoming) (n count : ℕ) (r : Result (Option HeadEnd) WireFault)
    → Searched held had bytes between → IsUndecided bytes → Fills bytes between (Ok count) now left → length now ≤ head_limit
    → n ≡ length bytes → count ≡ 0 → r ≡ cond (nat_eq n 0) (Ok None) (Err (CutShort n)) → FindsHead held had r now left
finds_end held bytes now had between left n count r s undecided x short many none is =
    let same : now ≡ bytes = nothing_read bytes now between left x.read (x.many ∙ none) in
    subst (λ z. FindsHead held had z now left) (sym is) (record {
      read = both held bytes now had between left s.read x.read;
      answer = subst (λ z. IsHeadAnswer z left.left (cond (nat_eq n 0) (Ok None) (Err (CutShort n)))) (sym same)
          (ended bytes n left.left (nat_eq n 0) refl many undecided (x.at_end none));
      short = short;
      faults = stays had.faults left.faults n (nat_eq n 0) (x.faults ∙ s.faults);
      ends = rises had.ends left.ends n (nat_eq n 0) (none_read between.ends left.ends count x.ends none ∙ ap counted s.ends);
      must_read = λ h. absurd (decides held bytes had between s undecided h);
    })

-- the search has come to an end without a read
pub finds_held : (held bytes : List ℕ) (had left : Incoming) (r : Result (Option HeadEnd) WireFault) → Searched held had bytes left
    → IsHeadAnswer bytes left.left r → length bytes ≤ head_limit → CountsRead had.faults r left.faults → CountsEnds had.ends r left.ends
    → FindsHead held had r bytes left
finds_held held bytes had left r s answer short faults ends =
    record { read = s.read; answer = answer; short = short; faults = faults; ends = ends; must_read = s.untouched }

-- what was passed stays so behind a read
pub passed_more : (bytes now : List ℕ) (between left : Incoming) (p : Progress) → Passed bytes p → IsRead bytes between now left
    → (p.scanned ≤ length now) × Passed (take p.scanned now) p
passed_more bytes now between left p passed r =
    let front : take p.scanned now ≡ bytes =
    ap (λ n. take n now) passed.scanned ∙ ap (λ x. take (length bytes) x) r.behind ∙ take_at bytes r.got (length bytes) refl in
    let len = ap length r.behind ∙ length-append bytes r.got in
    let scanned = passed.scanned in
    (omega (arith, len, scanned), subst (λ x. Passed x p) (sym front) passed)
