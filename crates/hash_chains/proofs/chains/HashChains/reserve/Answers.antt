use Rattle.std.proofs.Common.{ℕ, List, Option, sym, ap, ◌∙◌, subst}
use Rattle.std.specs.Prelude.{nat_eq}
use Rattle.std.specs.HashMap.{get, keys}
use Rattle.hash_chains.specs.Chains.{IsChained, hashes_in}
use Rattle.hash_chains.proofs.ChainLemmas.{chained_again}
use Rattle.hash_chains.proofs.PlaceLemmas.{chained_held, hashes_held}
use Rattle.hash_chains.specs.Chains.{ChainsState}
use Rattle.hash_chains.proofs.chains.HashChains.reserve.Goals as goal

pub invariant_of-self-2 : goal.invariant_of-self-2
invariant_of-self-2 c =
    let inside = c.self.inside in
    let old = get nat_eq inside.latest in
    let hashes = hashes_in old inside.earlier.items (keys inside.latest) in
    let map = c.reserve.new.self in
    chained_held hashes map c.reserve-2.new.self.items
    (subst (λ (os : List (Option ℕ)). IsChained hashes (get nat_eq map) os) (sym c.reserve-2.ensures.items)
    (chained_again hashes old (get nat_eq map) inside.earlier.items c.reserve.ensures.entries.2 c.self.invariant))

pub returns-clause-hashes : goal.returns-clause-hashes
returns-clause-hashes c =
    let inside = c.self.inside in
    let old = get nat_eq inside.latest in
    let hashes = hashes_in old inside.earlier.items (keys inside.latest) in
    let map = c.reserve.new.self in
    hashes_held hashes map c.reserve-2.new.self.items
    (subst (λ (os : List (Option ℕ)). IsChained hashes (get nat_eq map) os) (sym c.reserve-2.ensures.items)
    (chained_again hashes old (get nat_eq map) inside.earlier.items c.reserve.ensures.entries.2 c.self.invariant))
    ∙ ap (λ (s : ChainsState). s.hashes) c.self.view_is
