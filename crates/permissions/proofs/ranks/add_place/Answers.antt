use Rattle.std.proofs.Common.{rules, ◌≡◌, ℕ, List, map, length, set, Option, Some, None, sym, ap, ◌∙◌}
use Rattle.std.specs.Prelude.{unwrap_or}
use Rattle.permissions.specs.Graph.{edges}
use Rattle.permissions.specs.Ranks.{rank_at}
use Rattle.permissions.proofs.RankLemmas.{ranked_more, none_of}
use Rattle.permissions.proofs.ranks.add_place.Goals as goal

pub returns-clause-ranked : goal.returns-clause-ranked
returns-clause-ranked c =
    let graph = c.args.graph.now in
    let place = c.args.place in
    let ranks = c.args.ranking.now.ranks.items in
    let places = c.args.ranking.now.places.items in
    let none : rank_at ranks place ≡ None =
    sym (c.rank_of.ensures ∙ ap (λ (rs : List (Option ℕ)). rank_at rs place) c.as_slice.ensures.value)
    ∙ none_of c.rank_of.result (sym c.is_some.ensures ∙ c.if-is_some.false) in
    let row_is : c.in_ok-row.row ≡ map (λ q. unwrap_or (rank_at ranks q) 0) (edges graph place) =
    c.in_ok-row.ensures
    ∙ ap (λ (rs : List (Option ℕ)). map (λ q. unwrap_or (rank_at rs q) 0) c.edges_of.result.now) c.as_slice-2.ensures.value
    ∙ ap (map (λ q. unwrap_or (rank_at ranks q) 0)) c.edges_of.ensures in
    let count : c.len-rank.result ≡ length places = search rules in
    ranked_more graph ranks places c.args.ranking.now.rows.items c.requires.ranked place c.in_ok-row.row c.requires.within none c.requires.known row_is
    (set ranks place (Some c.len-rank.result)) c.push-2.new.self.items c.push.new.self.items (ap (λ (n : ℕ). set ranks place (Some n)) count) c.in_ok-push-2.ensures.items
    c.in_ok-push.ensures.items
