use Rattle.std.proofs.Common.{◌≡◌, List, Option, Some, None, ℕ, sym, ap, subst, ◌∙◌}
use Rattle.std.proofs.lemmas.List.{length-map}
use Rattle.policy_tables.specs.declared.tables.PolicyTables.{PolicyTables}
use Rattle.permissions.specs.Ranks.{rank_at}
use Rattle.permissions.specs.Rights.{AreRights}
use Rattle.permissions.proofs.ReachLemmas.{length-graph_of}
use Rattle.permissions.proofs.RightLemmas.{bound_over_ranks, rank_few}
use Rattle.permissions.proofs.rights.Rights.binds_from.Goals as goal

pub binds_from-requires-clause-start : goal.binds_from-requires-clause-start
binds_from-requires-clause-start c =
    let i = c.self.inside in
    let is : rank_at i.ranks.items c.args.place ≡ Some c.in-Some.rank =
    sym (c.in-Some.ensures ∙ ap (λ (rs : List (Option ℕ)). rank_at rs c.args.place) c.as_slice.ensures.value) in
    rank_few i.book i.ranks.items i.ranked c.self.invariant c.args.ask.user c.args.ask.permission c.args.place c.in-Some.rank is
    (length-graph_of i.book ∙ length-map i.book.realms (λ r. r.name))

pub returns-in-Some : goal.returns-in-Some
returns-in-Some c =
    let i = c.self.inside in
    let rights : AreRights c.args.self.now i.ranks.items i.ranked =
    subst (λ (t : PolicyTables). AreRights t i.ranks.items i.ranked) c.self.view_is c.self.invariant in
    let is : rank_at i.ranks.items c.args.place ≡ Some c.in-Some.rank =
    sym (c.in-Some.ensures ∙ ap (λ (rs : List (Option ℕ)). rank_at rs c.args.place) c.as_slice.ensures.value) in
    bound_over_ranks c.args.self.now i.ranks.items i.ranked rights c.args.ask.user c.args.ask.permission c.args.place c.in-Some.rank is c.binds_from.result c.binds_from.ensures

pub returns-in-None : goal.returns-in-None
returns-in-None c =
    let i = c.self.inside in
    let rights : AreRights c.args.self.now i.ranks.items i.ranked =
    subst (λ (t : PolicyTables). AreRights t i.ranks.items i.ranked) c.self.view_is c.self.invariant in
    let ranked = rights.all c.args.place c.requires in
    let none : None ≡ rank_at i.ranks.items c.args.place =
    c.in-None.ensures ∙ ap (λ (rs : List (Option ℕ)). rank_at rs c.args.place) c.as_slice.ensures.value in
    let no : None ≡ Some ranked.0 = none ∙ ranked.1 in
    absurd cc
