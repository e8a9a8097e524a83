-- An escaped text is at most three times as long as what it spells.
use Rattle.std.proofs.Common.{◌≡◌, ℕ, ◌*◌, ◌≤◌, true, false, cond, List, [], ◌∷◌, length, arith, length-append}
use Rattle.std.specs.List.{flat_map}
use Rattle.name_parts.specs.Escapes.{escaped, is_plain, spelling}
use Rattle.name_parts.proofs.SpellingLemmas.{spelling-len}

few_for_one : (b : ℕ) → length (spelling b) ≤ 3
few_for_one b =
    elim (is_plain b) as (λ t. length (spelling b) ≡ cond t 1 3 → length (spelling b) ≤ 3) [
      | true ↦ λ e. omega (arith, e)
      | false ↦ λ e. omega (arith, e)
    ] (spelling-len b)

pub escaped_few : (bs : List ℕ) → length (escaped bs) ≤ 3 * length bs
unfolding escaped
escaped_few [] = omega arith
escaped_few (b ∷ bs) = omega (arith, length-append (spelling b) (flat_map spelling bs), few_for_one b, escaped_few bs)
