-- A clock over no calls, and over one call more.
use Rattle.std.proofs.Common.{◌≡◌, ℤ, List, [], ◌∷◌, ◌++◌, length, refl, sym, ap, ◌∙◌, subst, append_assoc, arith, length-append}
use Rattle.record_desk.specs.Clocked.{IsClocked}

pub clocked_nothing : (tells : List ℤ → Type 0) → IsClocked tells [] tells
clocked_nothing tells [] others same told = (refl, told)
clocked_nothing tells (x ∷ xs) others same told = absurd (omega arith)

-- a list that isn't empty has a last item
split_last : (x : ℤ) (xs : List ℤ) → (front : List ℤ) × (last : ℤ) × (x ∷ xs ≡ front ++ last ∷ []) × (length front ≡ length xs)
split_last x [] = ([], x, refl, refl)
split_last x (y ∷ ys) =
    let rest = split_last y ys in
    (x ∷ rest.0, rest.1, ap (λ t. x ∷ t) rest.2, omega (arith, rest.3))

pub clocked_more : (tb tm tn : List ℤ → Type 0) (answers : List ℤ) (now : ℤ) → IsClocked tb answers tm
    → ((given : ℤ) (others : List ℤ) → tm (given ∷ others) → (now ≡ given) × tn others) → IsClocked tb (answers ++ now ∷ []) tn
clocked_more tb tm tn answers now before one [] others same told = absurd (omega (arith, same, length-append answers (now ∷ [])))
clocked_more tb tm tn answers now before one (x ∷ xs) others same told =
    let parts = split_last x xs in
    let whole : (x ∷ xs) ++ others ≡ parts.0 ++ (parts.1 ∷ others) = ap (λ t. t ++ others) parts.2 ∙ append_assoc parts.0 (parts.1 ∷ []) others in
    let short : length parts.0 ≡ length answers = omega (arith, same, parts.3, length-append answers (now ∷ [])) in
    let front = before parts.0 (parts.1 ∷ others) short (subst tb whole told) in
    let last = one parts.1 others front.1 in
    (ap (λ t. t ++ now ∷ []) front.0 ∙ ap (λ n. parts.0 ++ n ∷ []) last.0 ∙ sym parts.2, last.1)
