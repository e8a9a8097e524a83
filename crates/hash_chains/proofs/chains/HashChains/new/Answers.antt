use Rattle.std.proofs.Common.{ℕ, [], List, Option, sym, ap, subst}
use Rattle.std.specs.Prelude.{nat_eq}
use Rattle.std.specs.HashMap.{get}
use Rattle.hash_chains.specs.Chains.{IsChained}
use Rattle.hash_chains.proofs.ChainLemmas.{chained_none}
use Rattle.hash_chains.proofs.PlaceLemmas.{chained_held, hashes_held}
use Rattle.std.specs.Map.{lookup}
use Rattle.hash_chains.proofs.chains.HashChains.new.Goals as goal

pub invariant_of-result : goal.invariant_of-result
invariant_of-result c =
    let latest = get nat_eq c.new.result in
    chained_held [] c.new.result c.new-2.result.items
    (subst (λ (os : List (Option ℕ)). IsChained [] latest os) (sym c.new-2.ensures.items)
    (chained_none latest (λ hash. ap (lookup (nat_eq hash)) c.new.ensures.empty)))

pub returns : goal.returns
returns c =
    let latest = get nat_eq c.new.result in
    hashes_held [] c.new.result c.new-2.result.items
    (subst (λ (os : List (Option ℕ)). IsChained [] latest os) (sym c.new-2.ensures.items)
    (chained_none latest (λ hash. ap (lookup (nat_eq hash)) c.new.ensures.empty)))
