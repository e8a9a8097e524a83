use Rattle.std.proofs.Common.{◌≤◌, ℕ, length, subst}
use Rattle.serde_json.specs.View.{view}
use Rattle.field_kinds.proofs.ListLaws.{limit_kept}
use Rattle.field_kinds.proofs.limited_lists.LimitedListForm.read.Goals as goal

pub invariant_of-result : goal.invariant_of-result
invariant_of-result g c =
    subst (λ (n : ℕ). length c.in_ok-list.list ≤ n) c.most.ensures
    (limit_kept g.T.Form.means c.most.result (view c.args.value.now) c.in_ok-list.list c.too_many.result c.in_default.is c.too_many.ensures c.in_ok-list.ensures.ok.1)
