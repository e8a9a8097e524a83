-- A list that is gone through from its front.
use Rattle.std.proofs.Common.{◌≡◌, ℕ, zero, suc, ◌+◌, List, [], ◌∷◌, ◌++◌, length, take, drop, refl, sym, ap, ◌∙◌, append_assoc, add-one, arith}
use Rattle.std.specs.Prelude.{Option, Some, None, option_map}
use Rattle.std.proofs.Common.{◌-◌, add-zero}
use Rattle.std.proofs.lemmas.List.{drop-drop, drop_all, take_rest}
use Rattle.tap_reader.specs.Lines.{lines}
use Rattle.tap_reader.specs.Counted.{counted}

pub drop_tail : {X : Type 0} (ys : List X) (n : ℕ) (x : X) (zs : List X) → x ∷ zs ≡ drop n ys → zs ≡ drop (n + 1) ys
drop_tail ys n x zs e = ap (drop 1) e ∙ drop-drop 1 n ys

take_suc : {X : Type 0} (n : ℕ) (ys : List X) (x : X) (zs : List X) → x ∷ zs ≡ drop n ys → take (suc n) ys ≡ take n ys ++ x ∷ []
take_suc zero [] x zs e = cc
take_suc zero (y ∷ ys) x zs e = let same : y ≡ x = cc in ap (λ z. z ∷ []) same
take_suc (suc n) [] x zs e = cc
take_suc (suc n) (y ∷ ys) x zs e = ap (λ l. y ∷ l) (take_suc n ys x zs e)

pub take_push : {X : Type 0} (n : ℕ) (ys : List X) (x : X) (zs : List X) → x ∷ zs ≡ drop n ys → take (n + 1) ys ≡ take n ys ++ x ∷ []
take_push n ys x zs e = ap (λ k. take k ys) (add-one n) ∙ take_suc n ys x zs e

pub map_in_front : {X : Type 0} (front : List X) (x : X) (r : Option (List X)) → option_map (λ b. front ++ b) (option_map (λ b. x ∷ b) r) ≡ option_map (λ b. (front ++ x ∷ []) ++ b) r
map_in_front front x None = refl
map_in_front front x (Some b) = ap Some (sym (append_assoc front (x ∷ []) b))

-- lines that are passed over change the number alone
pub counted_pass : (pass n : ℕ) (ls : List (List ℕ)) → counted n pass ls ≡ counted (n + pass) 0 (drop pass ls)
counted_pass zero n ls = ap (λ k. counted k 0 ls) (sym (add-zero n))
counted_pass (suc pass) n [] = refl
counted_pass (suc pass) n (l ∷ ls) =
    counted_pass pass (n + 1) ls ∙ ap (λ k. counted k 0 (drop pass ls)) (let e : (n + 1) + pass ≡ n + suc pass = omega arith in e)

-- where all lines are passed over, none counts
pub counted_all : (n : ℕ) (ls : List (List ℕ)) → counted n (length ls) ls ≡ []
counted_all n ls = counted_pass (length ls) n ls ∙ ap (counted (n + length ls) 0) (drop_all (length ls) ls (omega arith))

-- a text behind its end has no lines
pub lines_behind : (bytes : List ℕ) → lines (take (length bytes - length bytes) (drop (length bytes) bytes)) ≡ []
lines_behind bytes = ap lines (take_rest bytes (length bytes) ∙ drop_all (length bytes) bytes (omega arith))
