-- Names of several parts.
use Rattle.std.proofs.Common.{◌≡◌, ℕ, suc, ◌+◌, true, false, nat_eq, cond, List, [], ◌∷◌, ◌++◌, length, drop, Option, Some, None, refl, arith, one-add}
use Rattle.std.specs.List.{common_prefix_len}
use Rattle.std.proofs.lemmas.Bool.{eqb-true, eq-eqb, ne_eqb}
use Rattle.std.proofs.lemmas.Bool.Decides.{nat_tests}
use Rattle.std.proofs.lemmas.List.{drop_at}
use Rattle.name_parts.specs.declared.faults.NameFault.{NameFault}
use Rattle.name_parts.specs.declared.faults.NameFault.TheVariants.{BadByte}
use Rattle.name_parts.specs.Sequences.{behind, unless_empty}

-- a text that has all of the literal begins with it
pub begins_with : (text literal : List ℕ) → common_prefix_len nat_eq text literal ≡ length literal → text ≡ literal ++ drop (length literal) text
begins_with text [] e = refl
begins_with [] (y ∷ ys) e = absurd (omega arith)
begins_with (x ∷ xs) (y ∷ ys) e =
    elim (nat_eq x y) as (λ t. nat_eq x y ≡ t → cond t (1 + common_prefix_len nat_eq xs ys) 0 ≡ suc (length ys) → (x ∷ xs) ≡ y ∷ (ys ++ drop (length ys) xs)) [
      | true ↦ λ is f. let same = eqb-true x y is in let rest = begins_with xs ys (omega arith) in cc
      | false ↦ λ is f. absurd (omega arith)
    ] refl e

pub common_with : (literal rest : List ℕ) → common_prefix_len nat_eq (literal ++ rest) literal ≡ length literal
common_with [] [] = refl
common_with [] (x ∷ xs) = refl
common_with (x ∷ xs) rest = rw (eq-eqb x x refl, common_with xs rest) (one-add (length xs))

pub behind-None : (literal rest : List ℕ) (fault : List ℕ → Option NameFault) → fault rest ≡ None → behind literal fault (literal ++ rest) ≡ None
unfolding behind
behind-None literal rest fault none =
    rw (common_with literal rest, eq-eqb (length literal) (length literal) refl, drop_at literal rest (length literal) refl, none) refl

pub unless_empty-cons : (fault : List ℕ → Option NameFault) (b : ℕ) (bs : List ℕ) → fault (b ∷ bs) ≡ None → unless_empty fault (b ∷ bs) ≡ None
unless_empty-cons fault b bs none = grind (arith, nat_tests)

-- a text that doesn't begin with the literal
pub behind-other : (literal text : List ℕ) (fault : List ℕ → Option NameFault) (f : NameFault) → f ≡ BadByte (common_prefix_len nat_eq text literal) → (common_prefix_len nat_eq text literal ≡ length literal → ⊥) → behind literal fault text ≡ Some f
unfolding behind
behind-other literal text fault f is other = rw (is, ne_eqb (common_prefix_len nat_eq text literal) (length literal) other) refl
