use Rattle.std.proofs.Common.{◌≡◌, ◌∷◌, ◌++◌, ℕ, [], List, Option, Some, cond, eqb, length, sym, ap, ◌∙◌, subst, arith}
use Rattle.std.specs.Prelude.{nat_eq}
use Rattle.std.specs.HashMap.{get, keys}
use Rattle.hash_chains.specs.Chains.{IsChained, hashes_in}
use Rattle.hash_chains.proofs.ChainLemmas.{chained_push}
use Rattle.hash_chains.proofs.PlaceLemmas.{chained_held, hashes_held}
use Rattle.hash_chains.specs.Chains.{ChainsState}
use Rattle.hash_chains.proofs.chains.HashChains.push.Goals as goal

pub invariant_of-self : goal.invariant_of-self
invariant_of-self c =
    let inside = c.self.inside in
    let latest = get nat_eq inside.latest in
    let hashes = hashes_in latest inside.earlier.items (keys inside.latest) in
    let map = c.insert.new.self in
    let place : c.len-place.result ≡ length hashes = omega (arith, c.len-place.ensures, inside.earlier.ok.0, c.self.invariant.count) in
    let earlier = c.push_reserved.ensures.items ∙ ap (λ o. inside.earlier.items ++ o ∷ []) c.in-Ok.ensures.old in
    chained_held (hashes ++ c.args.hash ∷ []) map c.push_reserved.new.self.items
    (subst (λ (os : List (Option ℕ)). IsChained (hashes ++ c.args.hash ∷ []) (get nat_eq map) os) (sym earlier)
    (chained_push hashes c.args.hash latest (get nat_eq map) inside.earlier.items c.self.invariant
    (λ (q : ℕ). c.in-Ok.ensures.updates.0 q ∙ ap (λ n. cond (eqb c.args.hash q) (Some n) (latest q)) place)))

pub returns-in-Ok-clause-hashes : goal.returns-in-Ok-clause-hashes
returns-in-Ok-clause-hashes c =
    let inside = c.self.inside in
    let latest = get nat_eq inside.latest in
    let hashes = hashes_in latest inside.earlier.items (keys inside.latest) in
    let map = c.insert.new.self in
    let place : c.len-place.result ≡ length hashes = omega (arith, c.len-place.ensures, inside.earlier.ok.0, c.self.invariant.count) in
    let earlier = c.push_reserved.ensures.items ∙ ap (λ o. inside.earlier.items ++ o ∷ []) c.in-Ok.ensures.old in
    hashes_held (hashes ++ c.args.hash ∷ []) map c.push_reserved.new.self.items
    (subst (λ (os : List (Option ℕ)). IsChained (hashes ++ c.args.hash ∷ []) (get nat_eq map) os) (sym earlier)
    (chained_push hashes c.args.hash latest (get nat_eq map) inside.earlier.items c.self.invariant
    (λ (q : ℕ). c.in-Ok.ensures.updates.0 q ∙ ap (λ n. cond (eqb c.args.hash q) (Some n) (latest q)) place)))
    ∙ ap (λ (s : ChainsState). s.hashes ++ c.args.hash ∷ []) c.self.view_is
