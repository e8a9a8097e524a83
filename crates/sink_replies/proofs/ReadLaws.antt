-- Reads one after the other.
use Rattle.std.proofs.Common.{◌≡◌, ℕ, ◌+◌, ◌-◌, ◌<◌, ◌≤◌, List, [], ◌++◌, length, take, drop, Result, Ok, Err, refl, sym, ap, ◌∙◌, subst, arith, append-nil, append_assoc, length-append, length-take}
use Rattle.std.proofs.Math.Seq.{take-add}
use Rattle.std.proofs.lemmas.List.{take-append-drop}
use Rattle.fault_counts.specs.Causes.{Rose, counted}
use Rattle.outside.specs.Bytes.{Gave}
use Rattle.outside.specs.Ends.{Incoming}
use Rattle.outside.proofs.Taken.{gave_both, gave_nothing}
use Rattle.sink_replies.specs.Judged.{IsInFront, IsBegun}
use Rattle.sink_replies.specs.Replies.{BeginsNoReply}
use Rattle.sink_replies.specs.declared.heads.ReplyHead.{ReplyHead}
use Rattle.sink_replies.specs.Reads.{ReadsInto, ReadsAt, Fills, FindsHead, Skips, SkipsBody}
use Rattle.sink_replies.specs.declared.reads.ReplyEnd.{ReplyEnd}
use Rattle.sink_replies.specs.declared.reads.ReplyEnd.TheVariants.{BadReply, Ended, ReadFault}

-- what was read behind what is held
pub fills_some : {T : Type 0} (room now held : List ℕ) (had left : Incoming) (at count : ℕ) (done : T) → take at room ≡ held
    → ReadsAt had at room (Ok count) now left → Fills {T = T} held had (Ok done) (take (at + count) now) left
fills_some room now held had left at count done is x =
    let some = x.read.count in
    let many : length (take count (drop at now)) ≡ count = simp length-take (omega (arith, some.1)) in
    record {
      got = take count (drop at now);
      gave = x.read.gave;
      some = omega (arith, many, some.0);
      behind = take-add at count now ∙ ap (λ z. z ++ take count (drop at now)) (x.kept ∙ is);
      faults = x.read.faults;
      ends = x.read.ends;
    }

-- nothing was read
pub fills_none : {T : Type 0} (room now held : List ℕ) (had left : Incoming) (at : ℕ) (e : ReplyEnd) (r : Result T ReplyEnd)
    → take at room ≡ held → r ≡ Err e → ReadsAt had at room (Err e) now left → Fills {T = T} held had r (take at now) left
fills_none {T} room now held had left at e r is was x =
    subst (λ (z : Result T ReplyEnd). Fills held had z (take at now) left) (sym was) (at_end e x)
  where
    at_end : (f : ReplyEnd) → ReadsAt had at room (Err f) now left → Fills {T = T} held had (Err f) (take at now) left
    at_end (BadReply end) y = absurd y.read.count
    at_end Ended y = record {
      got = [];
      gave = y.read.gave;
      some = (refl, y.read.count);
      behind = y.kept ∙ is ∙ sym (append-nil held);
      faults = y.read.faults;
      ends = y.read.ends;
    }
    at_end ReadFault y = record {
      got = [];
      gave = y.read.gave;
      some = refl;
      behind = y.kept ∙ is ∙ sym (append-nil held);
      faults = y.read.faults;
      ends = y.read.ends;
    }

-- ---- bytes that are passed over

-- of so many bytes so many are left to be passed over
pub record Passing (had : Incoming) (len left : ℕ) (now : Incoming) : Type 0 where
  pub got : List ℕ
  pub gave : Gave had.left got now.left
  pub sum : length got + left ≡ len
  pub faults : now.faults ≡ had.faults
  pub ends : now.ends ≡ had.ends

pub passing_none : (had : Incoming) (len : ℕ) → Passing had len len had
passing_none had len = record {
  got = [];
  gave = gave_nothing had.left;
  sum = omega arith;
  faults = refl;
  ends = refl;
}

pub passing_more : (had between now : Incoming) (room : List ℕ) (len left count : ℕ) → Passing had len left between
    → ReadsInto between (Ok count) room now → length room ≤ left → Passing had len (left - count) now
passing_more had between now room len left count p x fits =
    let some = x.count in
    let sum = p.sum in
    let many : length (p.got ++ take count room) ≡ length p.got + count =
    simp (length-append, length-take) (omega (arith, some.1)) in
    record {
      got = p.got ++ take count room;
      gave = gave_both had.left p.got (take count room) between.left now.left p.gave x.gave;
      sum = omega (arith, many, sum, some.1, fits);
      faults = x.faults ∙ p.faults;
      ends = x.ends ∙ p.ends;
    }

pub passed_all : {T : Type 0} (had now : Incoming) (len left : ℕ) (done : T) → Passing had len left now → left ≤ 0 → Skips {T = T} had len (Ok done) now
passed_all had now len left done p none =
    let sum = p.sum in
    record {
      got = p.got;
      gave = p.gave;
      answer = omega (arith, sum, none);
      faults = p.faults;
      ends = p.ends;
    }

pub passed_end : {T : Type 0} (had between now : Incoming) (room : List ℕ) (len left : ℕ) (e : ReplyEnd) (r : Result T ReplyEnd)
    → r ≡ Err e → Passing had len left between → 0 < left → ReadsInto between (Err e) room now → Skips {T = T} had len r now
passed_end {T} had between now room len left e r was p some x =
    subst (λ (z : Result T ReplyEnd). Skips had len z now) (sym was) (at_end e x)
  where
    at_end : (f : ReplyEnd) → ReadsInto between (Err f) room now → Skips {T = T} had len (Err f) now
    at_end (BadReply end) y = absurd y.count
    at_end Ended y =
        let sum = p.sum in
        let same = p.ends in
        record {
          got = p.got ++ [];
          gave = gave_both had.left p.got [] between.left now.left p.gave y.gave;
          answer = (let n = ap length (append-nil p.got) in omega (arith, n, sum, some), y.count);
          faults = y.faults ∙ p.faults;
          ends = y.ends ∙ ap counted same;
        }
    at_end ReadFault y =
        let sum = p.sum in
        record {
          got = p.got ++ [];
          gave = gave_both had.left p.got [] between.left now.left p.gave y.gave;
          answer = let n = ap length (append-nil p.got) in omega (arith, n, sum, some);
          faults = subst (λ z. (z ≤ now.faults) × Rose z now.faults) p.faults y.faults;
          ends = y.ends ∙ p.ends;
        }

-- ---- the bytes of a head

-- bytes were read behind those that were held, and nothing failed or ended
pub record Gathered (held : List ℕ) (had : Incoming) (now : List ℕ) (left : Incoming) : Type 0 where
  pub got : List ℕ
  pub gave : Gave had.left got left.left
  pub behind : now ≡ held ++ got
  pub faults : left.faults ≡ had.faults
  pub ends : left.ends ≡ had.ends
  pub must_read : ¬ (IsBegun held) → (got ≡ []) × (left ≡ had)

pub gathered_none : (held : List ℕ) (had : Incoming) → Gathered held had held had
gathered_none held had = record {
  got = [];
  gave = gave_nothing had.left;
  behind = sym (append-nil held);
  faults = refl;
  ends = refl;
  must_read = λ _. (refl, refl);
}

-- what was read is only read where what was held begins a head
needed : (held now : List ℕ) (had between : Incoming) → Gathered held had now between → IsBegun now → ¬ (¬ (IsBegun held))
needed held now had between p begun none =
    none (subst (λ z. IsBegun z) (p.behind ∙ ap (λ z. held ++ z) (p.must_read none).0 ∙ append-nil held) begun)

pub gathered_more : {T : Type 0} (held now later : List ℕ) (had between left : Incoming) (done : T) → Gathered held had now between
    → IsBegun now → Fills {T = T} now between (Ok done) later left → Gathered held had later left
gathered_more held now later had between left done p begun x = record {
  got = p.got ++ x.got;
  gave = gave_both had.left p.got x.got between.left left.left p.gave x.gave;
  behind = x.behind ∙ ap (λ z. z ++ x.got) p.behind ∙ append_assoc held p.got x.got;
  faults = x.faults ∙ p.faults;
  ends = x.ends ∙ p.ends;
  must_read = λ none. absurd (needed held now had between p begun none);
}

-- a head was found
pub found : (held now : List ℕ) (had left : Incoming) (head : ReplyHead) → Gathered held had now left → IsInFront now head
    → FindsHead held had (Ok head) now left
found held now had left head p x = record {
  got = p.got;
  gave = p.gave;
  behind = p.behind;
  answer = x;
  faults = p.faults;
  ends = p.ends;
  must_read = p.must_read;
}

-- a front of what is there begins no reply
pub found_none : (held now : List ℕ) (had left : Incoming) (end : ℕ) → Gathered held had now left
    → (end ≤ length now) × BeginsNoReply (take end now) → FindsHead held had (Err (BadReply end)) now left
found_none held now had left end p x = record {
  got = p.got;
  gave = p.gave;
  behind = p.behind;
  answer = x;
  faults = p.faults;
  ends = p.ends;
  must_read = p.must_read;
}

-- nothing more came
pub found_end : {T : Type 0} (held now later : List ℕ) (had between left : Incoming) (e : ReplyEnd) (r : Result ReplyHead ReplyEnd)
    → r ≡ Err e → Gathered held had now between → IsBegun now → Fills {T = T} now between (Err e) later left → FindsHead held had r later left
found_end {T} held now later had between left e r was p begun x =
    subst (λ (z : Result ReplyHead ReplyEnd). FindsHead held had z later left) (sym was) (at_end e x)
  where
    at_end : (f : ReplyEnd) → Fills {T = T} now between (Err f) later left → FindsHead held had (Err f) later left
    at_end (BadReply end) y = absurd y.some
    at_end Ended y =
        let same : later ≡ now = y.behind ∙ ap (λ z. now ++ z) y.some.0 ∙ append-nil now in
        record {
          got = p.got ++ y.got;
          gave = gave_both had.left p.got y.got between.left left.left p.gave y.gave;
          behind = y.behind ∙ ap (λ z. z ++ y.got) p.behind ∙ append_assoc held p.got y.got;
          answer = (subst (λ z. IsBegun z) (sym same) begun, y.some.1);
          faults = y.faults ∙ p.faults;
          ends = y.ends ∙ ap counted p.ends;
          must_read = λ none. absurd (needed held now had between p begun none);
        }
    at_end ReadFault y =
        let same : later ≡ now = y.behind ∙ ap (λ z. now ++ z) y.some ∙ append-nil now in
        record {
          got = p.got ++ y.got;
          gave = gave_both had.left p.got y.got between.left left.left p.gave y.gave;
          behind = y.behind ∙ ap (λ z. z ++ y.got) p.behind ∙ append_assoc held p.got y.got;
          answer = subst (λ z. IsBegun z) (sym same) begun;
          faults = subst (λ z. (z ≤ left.faults) × Rose z left.faults) p.faults y.faults;
          ends = y.ends ∙ p.ends;
          must_read = λ none. absurd (needed held now had between p begun none);
        }

-- ---- a body

-- all of it was held
pub skipped_held : {T : Type 0} (held now : List ℕ) (had : Incoming) (len : ℕ) (done : T) → len ≤ length held → now ≡ drop len held
    → SkipsBody {T = T} held had len (Ok done) now had
skipped_held held now had len done fits is = record {
  got = [];
  gave = gave_nothing had.left;
  answer = (
    take len held,
    simp length-take (omega arith),
    append-nil held ∙ sym (take-append-drop len held) ∙ ap (λ z. take len held ++ z) (sym is),
  );
  faults = refl;
  ends = refl;
  must_read = λ _. (refl, refl);
}

-- the rest of it was read
pub skipped_read : {T : Type 0} (held : List ℕ) (had left : Incoming) (len : ℕ) (r : Result T ReplyEnd) → length held < len
    → Skips had (len - length held) r left → SkipsBody held had len r [] left
skipped_read held had left len (Ok done) less x =
    let n = x.answer in
    record {
      got = x.got;
      gave = x.gave;
      answer = (
        held ++ x.got,
        (let both = length-append held x.got in omega (arith, both, n, less)),
        sym (append-nil (held ++ x.got)),
      );
      faults = x.faults;
      ends = x.ends;
      must_read = λ fits. absurd (omega (arith, fits, less));
    }
skipped_read held had left len (Err (BadReply end)) less x = absurd x.answer
skipped_read held had left len (Err Ended) less x =
    let n = x.answer.0 in
    record {
      got = x.got;
      gave = x.gave;
      answer = ((let both = length-append held x.got in omega (arith, both, n, less)), x.answer.1);
      faults = x.faults;
      ends = x.ends;
      must_read = λ fits. absurd (omega (arith, fits, less));
    }
skipped_read held had left len (Err ReadFault) less x =
    let n = x.answer in
    record {
      got = x.got;
      gave = x.gave;
      answer = let both = length-append held x.got in omega (arith, both, n, less);
      faults = x.faults;
      ends = x.ends;
      must_read = λ fits. absurd (omega (arith, fits, less));
    }
