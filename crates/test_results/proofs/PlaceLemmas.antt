-- The places of holders.
use Rattle.std.proofs.Common.{◌≡◌, ◌≢◌, ◌+◌, ℕ, suc, Bool, true, false, List, [], ◌∷◌, ◌++◌, length, eqb, refl, ap, ◌∙◌, arith}
use Rattle.std.proofs.lemmas.Bool.{eq-eqb, ne_eqb}
use Rattle.std.proofs.lemmas.List.{append-nil}
use Rattle.test_results.specs.Places.{place_if, places_from, places_of}

if_append : (b : Bool) (place : ℕ) (xs ys : List ℕ) → place_if b place (xs ++ ys) ≡ place_if b place xs ++ ys
if_append true place xs ys = refl
if_append false place xs ys = refl

from_push : (holder place : ℕ) (holders : List ℕ) (other : ℕ)
    → places_from holder place (holders ++ other ∷ []) ≡ places_from holder place holders ++ place_if (eqb other holder) (place + length holders) []
from_push holder place [] other =
    let e : place ≡ place + 0 = omega arith in ap (λ p. place_if (eqb other holder) p []) e
from_push holder place (x ∷ xs) other =
    let e : suc place + length xs ≡ place + suc (length xs) = omega arith in
    let rest = places_from holder (suc place) xs in
    ap (λ ps. place_if (eqb x holder) place ps) (from_push holder (suc place) xs other)
    ∙ if_append (eqb x holder) place rest (place_if (eqb other holder) (suc place + length xs) [])
    ∙ ap (λ p. place_if (eqb x holder) place rest ++ place_if (eqb other holder) p []) e

-- a holder more
pub places_own : (holders : List ℕ) (holder : ℕ)
    → places_of (holders ++ holder ∷ []) holder ≡ places_of holders holder ++ length holders ∷ []
places_own holders holder =
    let e : 0 + length holders ≡ length holders = omega arith in
    from_push holder 0 holders holder
    ∙ ap (λ b. places_of holders holder ++ place_if b (0 + length holders) []) (eq-eqb holder holder refl)
    ∙ ap (λ p. places_of holders holder ++ p ∷ []) e

-- another holder more
pub places_others : (holders : List ℕ) (other holder : ℕ) → other ≢ holder
    → places_of (holders ++ other ∷ []) holder ≡ places_of holders holder
places_others holders other holder not =
    from_push holder 0 holders other
    ∙ ap (λ b. places_of holders holder ++ place_if b (0 + length holders) []) (ne_eqb other holder not)
    ∙ append-nil (places_of holders holder)
