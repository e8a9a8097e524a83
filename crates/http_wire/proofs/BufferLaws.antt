-- Bytes in a part of a room.
use Rattle.std.proofs.Common.{◌≡◌, ℕ, ◌+◌, ◌≤◌, List, [], ◌++◌, length, take, drop, Ok, Err, refl, sym, ap, ◌∙◌, subst, arith, append-nil, length-take, length-drop}
use Rattle.std.specs.Prelude.{slice_range}
use Rattle.std.proofs.lemmas.List.{take-append-drop, take-take, drop-take, drop-append-le, drop-drop}
use Rattle.std.proofs.lemmas.Slice.{between_is}
use Rattle.std.specs.Prelude.{Result}
use Rattle.outside.specs.Ends.{Incoming}
use Rattle.http_wire.specs.Reads.{ReadsAt, Fills}
use Rattle.http_wire.specs.declared.message.WireFault.{WireFault}

-- the first t and the n behind them
take_both : (t n : ℕ) (xs : List ℕ) → take (t + n) xs ≡ take t xs ++ take n (drop t xs)
take_both t n xs =
    sym (take-append-drop t (take (t + n) xs))
    ∙ ap (λ x. x ++ drop t (take (t + n) xs)) (take-take t (t + n) xs (omega arith))
    ∙ ap (λ x. take t xs ++ x) (drop-take t n xs)

-- a part depends on the bytes up to its end alone
same_part : (a b : List ℕ) (f t : ℕ) → take t a ≡ take t b → slice_range a f t ≡ slice_range b f t
same_part a b f t e = between_is a f t ∙ ap (λ x. drop f x) e ∙ sym (between_is b f t)

longer_part : (a b : List ℕ) (f t n : ℕ) → f ≤ t → t ≤ length a → take t a ≡ take t b → slice_range a f (t + n) ≡ slice_range b f t ++ take n (drop t a)
longer_part a b f t n low high e =
    let fits : f ≤ length (take t a) = simp length-take (omega arith) in
    between_is a f (t + n) ∙ ap (λ x. drop f x) (take_both t n a)
    ∙ drop-append-le f (take t a) (take n (drop t a)) fits
    ∙ ap (λ x. drop f x ++ take n (drop t a)) e
    ∙ ap (λ x. x ++ take n (drop t a)) (sym (between_is b f t))

-- one byte or more less in front
pub shorter_part : (xs : List ℕ) (from to count : ℕ) → slice_range xs (from + count) to ≡ drop count (slice_range xs from to)
shorter_part xs from to count =
    between_is xs (from + count) to ∙ sym (drop-drop count from (take to xs)) ∙ ap (λ x. drop count x) (sym (between_is xs from to))

-- the room's bytes at each step: moved to the front, and read into
pub record Rooms (items b1 r1 b2 r2 last held : List ℕ) (from to f t : ℕ) : Type 0 where
  pub view : slice_range items from to ≡ held
  pub b1_is : b1 ≡ items
  pub same : slice_range r1 f t ≡ slice_range b1 from to
  pub b2_is : b2 ≡ r1
  pub last_is : last ≡ r2

moved : {items b1 r1 b2 r2 last held : List ℕ} {from to f t : ℕ} → Rooms items b1 r1 b2 r2 last held from to f t
    → slice_range b2 f t ≡ held
moved {items} {b1} {r1} {b2} {r2} {last} {held} {from} {to} {f} {t} rooms =
    ap (λ x. slice_range x f t) rooms.b2_is ∙ rooms.same ∙ ap (λ x. slice_range x from to) rooms.b1_is ∙ rooms.view

-- where nothing is read
pub fills_none : {items b1 r1 b2 r2 last held : List ℕ} {from to f t : ℕ} (had left : Incoming) (e : WireFault)
    (r : Result ℕ WireFault) → Rooms items b1 r1 b2 r2 last held from to f t → ReadsAt had t b2 (Err e) r2 left → r ≡ Err e
    → Fills held had r (slice_range last f t) left
fills_none {items} {b1} {r1} {b2} {r2} {last} {held} {from} {to} {f} {t} had left e r rooms x is =
    let behind : slice_range last f t ≡ held =
    ap (λ x. slice_range x f t) rooms.last_is ∙ same_part r2 b2 f t x.kept ∙ moved rooms in
    subst (λ z. Fills held had z (slice_range last f t) left) (sym is) (record {
      read = record { got = []; gave = x.gave; behind = behind ∙ sym (append-nil held) };
      many = refl;
      at_end = tt;
      fault = x.fault;
      faults = x.faults;
      ends = x.ends;
    })

-- where bytes are read behind them
pub fills_some : {items b1 r1 b2 r2 last held : List ℕ} {from to f t : ℕ} (had left : Incoming) (n : ℕ)
    → Rooms items b1 r1 b2 r2 last held from to f t → f ≤ t → ReadsAt had t b2 (Ok n) r2 left
    → Fills held had (Ok n) (slice_range last f (t + n)) left
fills_some {items} {b1} {r1} {b2} {r2} {last} {held} {from} {to} {f} {t} had left n rooms low x =
    let fits : t + n ≤ length r2 = x.bound in
    let behind : slice_range last f (t + n) ≡ held ++ take n (drop t r2) =
    ap (λ x. slice_range x f (t + n)) rooms.last_is ∙ longer_part r2 b2 f t n low (omega arith) x.kept
    ∙ ap (λ x. x ++ take n (drop t r2)) (moved rooms) in
    record {
      read = record { got = take n (drop t r2); gave = x.gave; behind = behind };
      many = simp (length-take, length-drop) (omega arith);
      at_end = x.at_end;
      fault = tt;
      faults = x.faults;
      ends = x.ends;
    }
