-- A text cut before its first such byte, and a text against a literal.
use Rattle.std.proofs.Common.{◌≡◌, ℕ, suc, ◌+◌, true, false, not, nat_eq, cond, List, [], ◌∷◌, ◌++◌, length, drop, None, refl, arith, one-add}
use Rattle.std.specs.Prelude.{◌==◌}
use Rattle.std.specs.List.{list_all, position_or_len, common_prefix_len}
use Rattle.std.proofs.lemmas.Bool.{and_parts, eqb-true, eq-eqb, not-true}
use Rattle.std.proofs.lemmas.Bool.Decides.{nat_tests}
use Rattle.name_parts.specs.Parts.{literal_bad_place}

-- what stands behind the cut begins with the byte
pub cut_is : (b : ℕ) (text : List ℕ) (c : ℕ) (rest : List ℕ) → drop (position_or_len (λ x. x == b) text) text ≡ c ∷ rest → c ≡ b
cut_is b [] c rest e = cc
cut_is b (x ∷ xs) c rest e =
    elim (x == b) as (λ t. (x == b) ≡ t → drop (cond (not t) (1 + position_or_len (λ y. y == b) xs) 0) (x ∷ xs) ≡ c ∷ rest → c ≡ b) [
      | true ↦ λ is f. let same = eqb-true x b is in cc
      | false ↦ λ is f. cut_is b xs c rest (rw (one-add (position_or_len (λ y. y == b) xs)) at f)
    ] refl e

-- a part without the byte, then the byte
pub cut_before : (b : ℕ) (part rest : List ℕ) → list_all (λ x. not (x == b)) part ≡ true → position_or_len (λ x. x == b) (part ++ b ∷ rest) ≡ length part
cut_before b [] rest e = rw (eq-eqb b b refl) refl
cut_before b (x ∷ xs) rest e =
    let parts = and_parts _ _ e in
    rw (not-true (x == b) parts.0, cut_before b xs rest parts.1) (one-add (length xs))

-- a part without the byte alone
pub no_cut : (b : ℕ) (part : List ℕ) → list_all (λ x. not (x == b)) part ≡ true → position_or_len (λ x. x == b) part ≡ length part
no_cut b [] e = refl
no_cut b (x ∷ xs) e =
    let parts = and_parts _ _ e in
    rw (not-true (x == b) parts.0, no_cut b xs parts.1) (one-add (length xs))

all_common : (xs ys : List ℕ) → common_prefix_len nat_eq xs ys ≡ length xs → common_prefix_len nat_eq xs ys ≡ length ys → xs ≡ ys
all_common [] [] e f = refl
all_common [] (y ∷ ys) e f = absurd (omega arith)
all_common (x ∷ xs) [] e f = absurd (omega arith)
all_common (x ∷ xs) (y ∷ ys) e f =
    elim (nat_eq x y) as (λ t. nat_eq x y ≡ t → cond t (1 + common_prefix_len nat_eq xs ys) 0 ≡ suc (length xs) → cond t (1 + common_prefix_len nat_eq xs ys) 0 ≡ suc (length ys) → (x ∷ xs) ≡ (y ∷ ys)) [
      | true ↦ λ is g h. let same = eqb-true x y is in let rest = all_common xs ys (omega arith) (omega arith) in cc
      | false ↦ λ is g h. absurd (omega arith)
    ] refl e f

common_itself : (xs : List ℕ) → common_prefix_len nat_eq xs xs ≡ length xs
common_itself [] = refl
common_itself (x ∷ xs) = rw (eq-eqb x x refl, common_itself xs) (one-add (length xs))

-- only the literal has no bad place against it
pub literal_bad_place-None : (literal text : List ℕ) → literal_bad_place literal text ≡ None → text ≡ literal
literal_bad_place-None literal text e = all_common text literal (grind (arith, nat_tests)) (grind (arith, nat_tests))

pub literal_bad_place-literal : (literal : List ℕ) → literal_bad_place literal literal ≡ None
literal_bad_place-literal literal = rw (common_itself literal, eq-eqb (length literal) (length literal) refl) refl
