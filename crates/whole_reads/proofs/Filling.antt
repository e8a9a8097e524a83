-- A room that is filled read by read.
use Rattle.std.proofs.Common.{◌≡◌, ◌≢◌, inl, inr, ℕ, ◌+◌, ◌<◌, ◌≤◌, List, [], ◌++◌, length, take, drop, Result, Ok, Err, refl, sym, ap, ◌∙◌, subst, arith, append-nil, append_assoc, length-append, length-take, length-drop}
use Rattle.std.proofs.lemmas.List.{take-append-drop, take-take, drop-take}
use Rattle.fault_counts.specs.Causes.{counted}
use Rattle.fault_counts.specs.declared.Failed.{Failed}
use Rattle.outside.specs.Bytes.{Gave}
use Rattle.outside.specs.Ends.{Incoming}
use Rattle.outside.proofs.EndLaws.{ends_stay, ends_rise}
use Rattle.outside.proofs.Taken.{gave_both, gave_nothing}
use Rattle.whole_reads.specs.Filled.{ReadsAt, Fills}
use Rattle.whole_reads.specs.declared.front.ReadEnd.{ReadEnd}
use Rattle.whole_reads.specs.declared.front.ReadEnd.TheVariants as end

-- so much of the room is filled
pub record Filling (start : List ℕ) (had : Incoming) (from at : ℕ) (room : List ℕ) (left : Incoming) : Type 0 where
  pub got : List ℕ
  pub gave : Gave had.left got left.left
  pub front : take at room ≡ take from start ++ got
  pub there : at ≡ from + length got
  pub within : at ≤ length room
  pub faults : left.faults ≡ had.faults

take_both : (t n : ℕ) (xs : List ℕ) → take (t + n) xs ≡ take t xs ++ take n (drop t xs)
take_both t n xs =
    sym (take-append-drop t (take (t + n) xs))
    ∙ ap (λ x. x ++ drop t (take (t + n) xs)) (take-take t (t + n) xs (omega arith))
    ∙ ap (λ x. take t xs ++ x) (drop-take t n xs)

pub filling_none : (room : List ℕ) (had : Incoming) (from : ℕ) → from ≤ length room → Filling room had from from room had
filling_none room had from low = record {
  got = [];
  gave = gave_nothing had.left;
  front = sym (append-nil (take from room));
  there = omega arith;
  within = low;
  faults = refl;
}

pub filling_more : (start room now : List ℕ) (had between left : Incoming) (from at count : ℕ) → Filling start had from at room between
    → ReadsAt between at room (Ok count) now left → Filling start had from (at + count) now left
filling_more start room now had between left from at count f x =
    let fits : at + count ≤ length now = x.bound in
    let more = take count (drop at now) in
    let many : length more ≡ count = simp (length-take, length-drop) (omega arith) in
    let there = f.there in
    record {
      got = f.got ++ more;
      gave = gave_both had.left f.got more between.left left.left f.gave x.gave;
      front = take_both at count now ∙ ap (λ x. x ++ more) (x.kept ∙ f.front) ∙ append_assoc (take from start) f.got more;
      there = let len : length (f.got ++ more) ≡ length f.got + length more = length-append f.got more in omega (arith, there, len, many);
      within = fits;
      faults = x.cause.kept ∙ f.faults;
    }

-- something came, so the end wasn't reached
pub ends_same : (ends : ℕ) (between left : Incoming) (room now : List ℕ) (at count : ℕ) → between.ends ≡ ends → ReadsAt between at room (Ok count) now left
    → count ≢ 0 → left.ends ≡ ends
ends_same ends between left room now at count before x some = x.ends ∙ ends_stay between.ends (drop at now) count some ∙ before

-- nothing came, and it is the end
pub filled_end : (start room now : List ℕ) (had between left : Incoming) (from at count : ℕ)
    → Filling start had from at room between → between.ends ≡ had.ends → at < length now → ReadsAt between at room (Ok count) now left → count ≡ 0
    → Fills start had from (Ok at) now left
filled_end start room now had between left from at count f ends less x none =
    let more = filling_more start room now had between left from at count f x in
    let there = more.there in
    let within = more.within in
    let same : at + count ≡ at = omega (arith, none) in
    record {
      got = more.got;
      gave = more.gave;
      bound = omega (arith, there, within);
      answer = (sym same ∙ there, ap (λ k. take k now) (sym same) ∙ more.front, λ less. x.at_end none);
      faults = more.faults;
      ends = inl (less, x.ends ∙ ends_rise between.ends (drop at now) count none (simp length-drop (omega (arith, less))) ∙ ap counted ends);
    }

-- a read failed
pub filled_fault : (start room now : List ℕ) (had between left : Incoming) (from at : ℕ) (e : Failed)
    (r : Result ℕ ReadEnd) → Filling start had from at room between → between.ends ≡ had.ends → at < length now
    → ReadsAt between at room (Err e) now left → r ≡ Err end.Failed → Fills start had from r now left
filled_fault start room now had between left from at e r f ends less x is =
    let there = f.there in
    let same = f.faults in
    let later = x.cause.later in
    let len : length (f.got ++ []) ≡ length f.got = ap length (append-nil f.got) in
    subst (λ z. Fills start had from z now left) (sym is) (record {
      got = f.got ++ [];
      gave = gave_both had.left f.got [] between.left left.left f.gave x.gave;
      bound = omega (arith, there, len, less);
      answer = omega (arith, there, len, less);
      faults = (omega (arith, same, later), rw (sym same) x.cause.failed);
      ends = x.ends ∙ ends;
    })

pub filled_all : (start room : List ℕ) (had left : Incoming) (from at : ℕ)
    → Filling start had from at room left → left.ends ≡ had.ends → length room ≤ at → Fills start had from (Ok at) room left
filled_all start room had left from at f ends all =
    let there = f.there in
    let within = f.within in
    record {
      got = f.got;
      gave = f.gave;
      bound = omega (arith, there, within);
      answer = (f.there, f.front, λ less. absurd (omega (arith, less, all)));
      faults = f.faults;
      ends = inr (omega (arith, within, all), ends);
    }
