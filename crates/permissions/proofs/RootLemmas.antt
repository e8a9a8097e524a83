-- The name of a project's `@root`, as it is written.
use Rattle.std.proofs.Common.{◌≡◌, ℕ, ◌+◌, ◌≤◌, List, [], ◌∷◌, ◌++◌, length, take, sym, ap, subst, ◌∙◌, arith, append_assoc, length-append}
use Rattle.std.specs.Prelude.{◌==◌}
use Rattle.std.specs.List.{position_or_len}
use Rattle.std.proofs.lemmas.Bool.Decides.{nat_tests}
use Rattle.std.proofs.lemmas.List.{take_at}
use borrow.Rule.Slice.PartMut.{put_mid, post_of}
use Rattle.policy_checks.specs.NamesRealms.Realms.{IsRealm, project_len}

colon_before : (xs ys : List ℕ) → position_or_len (λ b. b == 58) (xs ++ 58 ∷ ys) ≤ length xs
colon_before [] ys = omega arith
colon_before (x ∷ xs) ys = grind (arith, nat_tests, colon_before xs ys)

-- a project has at most 100 bytes
pub project_most : (realm : List ℕ) → IsRealm realm → project_len realm ≤ 100
project_most realm is =
    subst (λ (r : List ℕ). project_len r ≤ 100) (sym is.parts) (omega (arith, colon_before is.project is.subrealm, is.is_project.most))

joined : (a r rest post : List ℕ) (n : ℕ) → length (a ++ r) ≡ n → take n (a ++ ((r ++ rest) ++ post)) ≡ a ++ r
joined a r rest post n len = ap (take n) (simp append_assoc) ∙ take_at (a ++ r) (rest ++ post) n len

-- a front, and after it a text
pub written : (a b r rest xs ys : List ℕ) (n k : ℕ) → length a ≡ n → xs ≡ a ++ b → ys ≡ r ++ rest → take (n + length r) (put_mid n k xs ys) ≡ a ++ r
written a b r rest xs ys n k len is is' =
    let front : take n xs ≡ a = ap (take n) is ∙ take_at a b n len in
    ap (take (n + length r)) (ap (λ (z : List ℕ). z ++ (ys ++ post_of n k xs)) front ∙ ap (λ (z : List ℕ). a ++ (z ++ post_of n k xs)) is')
    ∙ joined a r rest (post_of n k xs) (n + length r) (length-append a r ∙ ap (λ (m : ℕ). m + length r) len)
