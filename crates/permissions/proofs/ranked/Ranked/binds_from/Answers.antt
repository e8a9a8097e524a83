use Rattle.std.proofs.Common.{◌≡◌, List, ℕ, [], sym, ap, ◌∙◌}
use Rattle.permissions.specs.Graph.{edges}
use Rattle.permissions.specs.Rights.{binds_user}
use Rattle.permissions.proofs.AskLemmas.{bound_here, none_in}
use Rattle.permissions.proofs.ranked.Ranked.binds_from.Goals as goal

pub returns-then-is_empty : goal.returns-then-is_empty
returns-then-is_empty c =
    let r = c.args.self.now in
    let nowhere : edges r.rows.items c.args.start ≡ [] =
    sym (c.edges_of.ensures ∙ ap (λ (rows : List (List ℕ)). edges rows c.args.start) c.as_slice.ensures.value)
    ∙ none_in c.edges_of.result.now (sym c.is_empty.ensures ∙ c.if-is_empty.true) in
    bound_here r.rows.items (binds_user r c.args.ask.user c.args.ask.permission) c.args.start c.binds_at.result nowhere c.binds_at.ensures
