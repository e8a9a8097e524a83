use Rattle.std.proofs.Common.{◌≡◌, ◌<◌, ℕ, true, length, Some, None, sym, subst, ◌∙◌, arith}
use Rattle.std.specs.Prelude.{◌↔◌}
use Rattle.permissions.specs.Granting.{Granting}
use Rattle.permissions.specs.Grants.{IsBoundFrom}
use Rattle.permissions.specs.Ranks.{IsBoundOn, rank_at}
use Rattle.permissions.specs.Rights.{binds_user}
use Rattle.permissions.proofs.RightLemmas.{bound_over_ranks, rank_granted}
use Rattle.permissions.proofs.granted.Granted.binds_from.Goals as goal

pub is_bound-requires-clause-come : goal.is_bound-requires-clause-come
is_bound-requires-clause-come c =
    let i = c.self.inside in
    let is : rank_at i.ranks.now c.args.place ≡ Some c.in-Some.rank = sym c.rank_of.ensures ∙ c.in-Some.is in (
      rank_granted i.policy.now i.ranks.now i.ranked.now c.self.invariant.rights i.caller i.permission c.args.place c.in-Some.rank is,
      λ place there low. omega (arith, there, c.self.invariant.all),
    )

pub returns-in-Some : goal.returns-in-Some
returns-in-Some c =
    let i = c.self.inside in
    let is : rank_at i.ranks.now c.args.place ≡ Some c.in-Some.rank = sym c.rank_of.ensures ∙ c.in-Some.is in
    subst (λ (h : Granting). (c.is_bound.result ≡ true) ↔ IsBoundFrom h.policy c.args.place h.caller h.permission) c.self.view_is
    (bound_over_ranks i.policy.now i.ranks.now i.ranked.now c.self.invariant.rights i.caller i.permission c.args.place c.in-Some.rank is c.is_bound.result
    (subst (λ (u : ℕ). (c.is_bound.result ≡ true) ↔ IsBoundOn i.ranked.now.rows.items (binds_user i.ranked.now u i.permission) c.in-Some.rank) c.place.ensures
    c.is_bound.ensures))

pub returns-in-None : goal.returns-in-None
returns-in-None c =
    let i = c.self.inside in
    let low : c.args.place < length i.policy.now.realms = subst (λ (h : Granting). c.args.place < length h.policy.realms) (sym c.self.view_is) c.requires in
    let ranked = c.self.invariant.rights.all c.args.place low in
    let none : None ≡ rank_at i.ranks.now c.args.place = sym c.in-None.is ∙ c.rank_of.ensures in
    let never : None ≡ Some ranked.0 = none ∙ ranked.1 in
    absurd cc
