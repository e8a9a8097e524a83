use Rattle.std.proofs.Common.{◌≡◌, true, false, length, subst}
use Rattle.std.specs.Bool.{IsTrue}
use Rattle.serde_json.proofs.Views.{view-Object}
use Rattle.field_kinds.proofs.ObjectLaws.{some_members}
use Rattle.field_kinds.proofs.outside_profile.NoMessageForm.read.Goals as goal

differ : false ≡ true → ⊥
differ e = cc

pub returns-else-is_empty-2-clause-err : goal.returns-else-is_empty-2-clause-err
returns-else-is_empty-2-clause-err c =
    let some = λ (z : length c.in-Object.map.entries ≡ 0). differ (subst IsTrue c.if-is_empty-2.false ((c.is_empty-in-Object.ensures).1 z)) in
    rw (c.in-Object.is, view-Object c.in-Object.map, some_members c.in-Object.map.entries some) c.left_out-else-is_empty-2.ensures
