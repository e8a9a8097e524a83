use Rattle.std.proofs.Common.{◌≡◌, List, ℕ, length, sym, ap, subst, ◌∙◌, arith}
use Rattle.std.proofs.lemmas.List.{length-map}
use Rattle.permissions.specs.Graph.{graph_of}
use Rattle.permissions.specs.Grants.{AreGrants}
use Rattle.permissions.specs.declared.grants.Grants.{Grants}
use Rattle.permissions.specs.Ranks.{AreRanked, IsFalling, rank_at}
use Rattle.permissions.specs.Rights.{AreShortcuts}
use Rattle.permissions.proofs.RankLemmas.{some_of}
use Rattle.permissions.proofs.ReachLemmas.{length-graph_of}
use Rattle.permissions.proofs.policy.ranked_rights.Goals as goal

pub all_shortcuts-requires : goal.all_shortcuts-requires
all_shortcuts-requires c = subst IsFalling (sym c.as_slice-2.ensures.value) c.in_ok-ranking.ensures.ranked.falling

pub invariant_of-result : goal.invariant_of-result
invariant_of-result c =
    let t = c.args.book in
    let r = c.in_ok-ranking.ranking in
    let ranked : AreRanked (graph_of t) r.ranks.items r.places.items r.rows.items =
    subst (λ (g : List (List ℕ)). AreRanked g r.ranks.items r.places.items r.rows.items) c.requires.graph c.in_ok-ranking.ensures.ranked in
    let count : length c.args.graph.now ≡ length t.realms =
    ap length c.requires.graph ∙ length-graph_of t ∙ length-map t.realms (λ r. r.name) in
    record {
      places = r.places.items;
      ranks_are = ranked;
      all = λ place low. some_of (rank_at r.ranks.items place) (c.in_ok-ranking.ensures.all place (omega (arith, low, count)));
      grants_are = subst (λ (ps : List ℕ). AreGrants t ps (length ps) c.in_ok-grants.grants.items) c.as_slice.ensures.value c.in_ok-grants.ensures;
      members_are = c.in_ok-members.ensures;
      shortcuts_are = subst (λ (rows : List (List ℕ)). AreShortcuts rows c.in_ok-grants.grants.items c.in_ok-shortcuts.shortcuts) c.as_slice-2.ensures.value
          (subst (λ (gs : List Grants). AreShortcuts c.as_slice-2.result.now gs c.in_ok-shortcuts.shortcuts) c.as_slice-3.ensures.value
          c.in_ok-shortcuts.ensures.are);
      shortcuts_count = c.in_ok-shortcuts.ensures.count ∙ ap length c.as_slice-2.ensures.value;
      few = c.requires.few;
    }
