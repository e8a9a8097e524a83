use Rattle.std.proofs.Common.{◌≡◌, ℕ, List, true, false, inl, inr, sym, ap, subst, ◌∙◌}
use Rattle.permissions.specs.Graph.{edges}
use Rattle.permissions.specs.Ranks.{IsOneBoundOn}
use Rattle.permissions.specs.Rights.{binds_user}
use Rattle.permissions.proofs.ShortcutLemmas.{bound_itself, bound_led, here_or_led}
use Rattle.permissions.proofs.ranked.Ranked.mark_of.Goals as goal

pub returns-then-is_one_bound : goal.returns-then-is_one_bound
returns-then-is_one_bound c =
    let r = c.args.self.now in
    let bound = binds_user r c.args.ask.user c.args.ask.permission in
    let leads : c.edges_of.result.now ≡ edges r.rows.items c.args.rank =
    c.edges_of.ensures ∙ ap (λ (rows : List (List ℕ)). edges rows c.args.rank) c.as_slice.ensures.value in (
      λ e. bound_led r.rows.items bound c.args.rank (subst (IsOneBoundOn r.rows.items bound) leads (c.is_one_bound.ensures.0 e)),
      λ w. c.if-is_one_bound.true,
    )

pub returns-else-is_one_bound : goal.returns-else-is_one_bound
returns-else-is_one_bound c =
    let r = c.args.self.now in
    let bound = binds_user r c.args.ask.user c.args.ask.permission in
    let leads : c.edges_of.result.now ≡ edges r.rows.items c.args.rank =
    c.edges_of.ensures ∙ ap (λ (rows : List (List ℕ)). edges rows c.args.rank) c.as_slice.ensures.value in (
      λ e. bound_itself r.rows.items bound c.args.rank (sym c.gives_at.ensures ∙ e),
      λ w. elim (here_or_led r.rows.items bound c.args.rank w) [
        | inl here ↦ c.gives_at.ensures ∙ here
        | inr one ↦
            let no : false ≡ true = sym c.if-is_one_bound.false ∙ c.is_one_bound.ensures.1 (subst (IsOneBoundOn r.rows.items bound) (sym leads) one) in
            absurd cc
      ],
    )
