-- A body that is filled read by read.
use Rattle.std.proofs.Common.{◌≡◌, ◌≢◌, ℕ, ◌+◌, ◌-◌, ◌<◌, ◌≤◌, List, [], ◌++◌, length, take, drop, Result, Ok, Err, refl, sym, ap, ◌∙◌, subst, arith, append-nil, append_assoc, length-append, length-take, length-drop}
use Rattle.std.proofs.lemmas.List.{take-append-drop, take-take, drop-take, drop-drop, drop_all, take_all, take-append-le}
use Rattle.std.specs.Prelude.{slice_range}
use Rattle.std.specs.Global.{Vec}
use Rattle.outside.specs.Bytes.{Gave}
use Rattle.outside.specs.Ends.{Incoming}
use Rattle.outside.proofs.Taken.{gave_both, gave_nothing}
use Rattle.http_wire.specs.Held.{CountsRead}
use Rattle.fault_counts.specs.Causes.{counted as count_up}
use Rattle.http_wire.specs.Reads.{ReadsAt, FillsBody, TakesBody}
use Rattle.http_wire.specs.declared.message.WireFault.{WireFault}
use Rattle.http_wire.specs.declared.message.WireFault.TheVariants.{CutShort, ReadFault, Memory}
use Rattle.http_wire.proofs.EndLaws.{some_read, none_read}

-- so many bytes of the body are there
pub record Filling (front : List ℕ) (had : Incoming) (at : ℕ) (body : List ℕ) (left : Incoming) : Type 0 where
  pub got : List ℕ
  pub gave : Gave had.left got left.left
  pub parts : take at body ≡ front ++ got
  pub there : at ≡ length front + length got
  pub faults : left.faults ≡ had.faults
  pub ends : left.ends ≡ had.ends

pub filling_none : (front : List ℕ) (had : Incoming) (at : ℕ) → at ≡ length front → Filling front had at front had
filling_none front had at is = record {
  got = [];
  gave = gave_nothing had.left;
  parts = take_all at front (omega (arith, is)) ∙ sym (append-nil front);
  there = omega (arith, is);
  faults = refl;
  ends = refl;
}

-- the room that was made behind them changes none of them
pub filling_room : (front : List ℕ) (had : Incoming) (at : ℕ) (body roomy : List ℕ) (left : Incoming) → Filling front had at body left
    → take at roomy ≡ take at body → Filling front had at roomy left
filling_room front had at body roomy left f same = record {
  got = f.got;
  gave = f.gave;
  parts = same ∙ f.parts;
  there = f.there;
  faults = f.faults;
  ends = f.ends;
}

take_both : (t n : ℕ) (xs : List ℕ) → take (t + n) xs ≡ take t xs ++ take n (drop t xs)
take_both t n xs =
    sym (take-append-drop t (take (t + n) xs))
    ∙ ap (λ x. x ++ drop t (take (t + n) xs)) (take-take t (t + n) xs (omega arith))
    ∙ ap (λ x. take t xs ++ x) (drop-take t n xs)

pub filling_more : (front body now : List ℕ) (had between left : Incoming) (at count : ℕ) → Filling front had at body between
    → ReadsAt between at body (Ok count) now left → count ≢ 0 → Filling front had (at + count) now left
filling_more front body now had between left at count f x some =
    let fits : at + count ≤ length now = x.bound in
    let more = take count (drop at now) in
    let many : length more ≡ count = simp (length-take, length-drop) (omega arith) in
    let there = f.there in
    record {
      got = f.got ++ more;
      gave = gave_both had.left f.got more between.left left.left f.gave x.gave;
      parts = take_both at count now ∙ ap (λ x. x ++ more) (x.kept ∙ f.parts) ∙ append_assoc front f.got more;
      there = let len : length (f.got ++ more) ≡ length f.got + length more = length-append f.got more in omega (arith, there, len, many);
      faults = x.faults ∙ f.faults;
      ends = some_read between.ends left.ends count x.ends some ∙ f.ends;
    }

-- nothing came, and it is the end
pub filled_end : {T : Type 0} (front body now last : List ℕ) (had between left : Incoming) (len head at count : ℕ)
    → Filling front had at body between → at < len → ReadsAt between at body (Ok count) now left → count ≡ 0
    → FillsBody {T = T} front had len head (Err (CutShort (head + at))) last left
filled_end front body now last had between left len head at count f less x none =
    let there = f.there in
    let more = take count (drop at now) in
    let nothing : length (f.got ++ more) ≡ length f.got =
    simp (length-append, length-take) (omega (arith, none)) in
    record {
      got = f.got ++ more;
      gave = gave_both had.left f.got more between.left left.left f.gave x.gave;
      answer = (omega (arith, there, nothing), omega (arith, there, nothing, less), x.at_end none);
      within = omega (arith, there, nothing, less);
      faults = x.faults ∙ f.faults;
      ends = none_read between.ends left.ends count x.ends none ∙ ap count_up f.ends;
    }

failed : {T : Type 0} (front body now last : List ℕ) (had between left : Incoming) (len head at : ℕ) (e : WireFault)
    → Filling front had at body between → at < len → ReadsAt between at body (Err e) now left → e ≡ ReadFault
    → FillsBody {T = T} front had len head (Err ReadFault) last left
failed front body now last had between left len head at e f less x is =
    let there = f.there in
    let nothing : length (f.got ++ []) ≡ length f.got = ap length (append-nil f.got) in
    let rose : CountsRead {T = ℕ} between.faults (Err ReadFault) left.faults =
    subst (λ z. CountsRead {T = ℕ} between.faults (Err z) left.faults) is x.faults in
    record {
      got = f.got ++ [];
      gave = gave_both had.left f.got [] between.left left.left f.gave x.gave;
      answer = omega (arith, there, nothing, less);
      within = omega (arith, there, nothing, less);
      faults = subst (λ z. CountsRead {T = ℕ} z (Err ReadFault) left.faults) f.faults rose;
      ends = x.ends ∙ f.ends;
    }

-- a read failed
pub filled_fault : {T : Type 0} (front body now last : List ℕ) (had between left : Incoming) (len head at : ℕ) (e : WireFault)
    (r : Result T WireFault) → Filling front had at body between → at < len
    → ReadsAt between at body (Err e) now left → r ≡ Err e → FillsBody front had len head r last left
filled_fault front body now last had between left len head at e r f less x is =
    subst (λ z. FillsBody front had len head z last left) (sym (is ∙ ap Err x.fault))
    (failed front body now last had between left len head at e f less x x.fault)

-- there was no memory for more
pub filled_no_memory : {T : Type 0} (front body last : List ℕ) (had left : Incoming) (len head at : ℕ) (r : Result T WireFault)
    → Filling front had at body left → at < len → r ≡ Err Memory → FillsBody front had len head r last left
filled_no_memory {T} front body last had left len head at r f less is =
    let there = f.there in
    subst (λ (z : Result T WireFault). FillsBody front had len head z last left) (sym is) (record {
      got = f.got;
      gave = f.gave;
      answer = tt;
      within = omega (arith, there, less);
      faults = f.faults;
      ends = f.ends;
    })

pub filled_all : {T : Type 0} (front body : List ℕ) (had left : Incoming) (len head at : ℕ) (done : T)
    → Filling front had at body left → at ≤ length body → length body ≤ len → len ≤ at → FillsBody front had len head (Ok done) body left
filled_all front body had left len head at done f inside bounded all =
    let there = f.there in
    record {
      got = f.got;
      gave = f.gave;
      answer = (sym (take_all at body (omega (arith, bounded, all))) ∙ f.parts, omega (arith, inside, bounded, all));
      within = omega (arith, there, inside, bounded);
      faults = f.faults;
      ends = f.ends;
    }

-- a count is the same whatever the call would have answered
pub counted : (T U : Type 0) (before now : ℕ) (e : WireFault) → CountsRead {T = T} before (Err e) now
    → CountsRead {T = U} before (Err e) now
counted T U before now ReadFault x = x
counted T U before now fault x = x

-- ---- a body taken from a stream

-- a part behind a head and before the rest
part_between : (xs : List ℕ) (head len : ℕ) → head + len ≤ length xs → xs ≡ take head xs ++ (slice_range xs head (head + len) ++ drop (head + len) xs)
part_between xs head len fits =
    let n : head + len - head ≡ len = omega arith in
    sym (take-append-drop head xs)
    ∙ ap (λ x. take head xs ++ x)
    (sym (take-append-drop len (drop head xs))
    ∙ ap (λ x. take len (drop head xs) ++ x) (drop-drop len head xs)
    ∙ ap (λ k. take k (drop head xs) ++ drop (head + len) xs) (sym n))

-- all of the body was held
pub taken_held : (held now : List ℕ) (had : Incoming) (head len : ℕ) (v : Vec ℕ) → head + len ≤ length held
    → v.items ≡ slice_range held head (head + len) → now ≡ drop (head + len) held → TakesBody held had head len (Ok v) now had
taken_held held now had head len v fits is after =
    let count : length (slice_range held head (head + len)) ≡ len = simp (length-take, length-drop) (omega arith) in
    record {
      got = [];
      gave = gave_nothing had.left;
      answer = (
        ap length is ∙ count,
        append-nil held ∙ part_between held head len fits
            ∙ ap (λ x. take head held ++ (x ++ drop (head + len) held)) (sym is)
            ∙ ap (λ x. take head held ++ (v.items ++ x)) (sym after)
            ∙ ap (λ x. take head x ++ (v.items ++ now)) (sym (append-nil held)),
      );
      faults = refl;
      ends = refl;
      needed = omega arith;
      must_read = λ _. refl;
    }

-- the rest of the body was read
pub taken_read : {T : Type 0} (held now front body : List ℕ) (had left : Incoming) (head stored len : ℕ) (done : T) (v : Vec ℕ)
    → head ≤ length held → stored ≡ length held - head → stored < len → front ≡ drop head held
    → FillsBody {T = T} front had len head (Ok done) body left → v.items ≡ body → now ≡ drop (head + stored) held
    → TakesBody held had head len (Ok v) now left
taken_read held now front body had left head stored len done v low is less begun f same after =
    let whole : length held ≤ head + stored = omega arith in
    let nothing : now ≡ [] = after ∙ drop_all (head + stored) held whole in
    let items : v.items ≡ drop head held ++ f.got = same ∙ f.answer.0 ∙ ap (λ x. x ++ f.got) begun in
    let many : len ≡ length held - head + length f.got =
    sym (ap length same ∙ f.answer.1) ∙ ap length items ∙ length-append (drop head held) f.got
    ∙ ap (λ n. n + length f.got) (length-drop head held) in
    record {
      got = f.got;
      gave = f.gave;
      answer = (
        ap length same ∙ f.answer.1,
        ap (λ x. x ++ f.got) (sym (take-append-drop head held)) ∙ append_assoc (take head held) (drop head held) f.got
            ∙ ap (λ x. take head held ++ x) (sym (append-nil (drop head held ++ f.got)))
            ∙ ap (λ x. take head held ++ (x ++ [])) (sym items)
            ∙ ap (λ x. take head held ++ (v.items ++ x)) (sym nothing)
            ∙ ap (λ x. x ++ (v.items ++ now)) (sym (take-append-le head held f.got low)),
      );
      faults = f.faults;
      ends = f.ends;
      needed = omega (arith, many);
      must_read = λ h. absurd (omega (arith, h, low, is, less));
    }
