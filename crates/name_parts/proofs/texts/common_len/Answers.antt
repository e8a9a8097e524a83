use Rattle.std.proofs.Common.{◌≡◌, ℕ, List, [], ◌∷◌, drop, refl, arith, nat_eq}
use Rattle.std.specs.List.{common_prefix_len}
use Rattle.std.proofs.lemmas.List.{drop_all}
use Rattle.name_parts.proofs.texts.common_len.Goals as goal

common_prefix_len-nil : (xs : List ℕ) → common_prefix_len nat_eq xs [] ≡ 0
common_prefix_len-nil [] = refl
common_prefix_len-nil (x ∷ xs) = refl

pub returns-else-at-literal-clause-value : goal.returns-else-at-literal-clause-value
returns-else-at-literal-clause-value c =
    let none : drop c.loop-at.at c.args.literal.now ≡ [] = drop_all c.loop-at.at c.args.literal.now (omega arith) in
    let zero = common_prefix_len-nil (drop c.loop-at.at c.args.text.now) in
    omega (arith, rw (none, zero) at c.loop-at.invariant.1)
