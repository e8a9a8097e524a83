use Rattle.serde_json.specs.View.{view}
use Rattle.invocation_forms.proofs.MaskLaws.{mask_is}
use Rattle.invocation_forms.proofs.updates.read_changes.Goals as goal

pub returns-clause-ok : goal.returns-clause-ok
returns-clause-ok c = rw (mask_is (view c.args.value.now) c.args.mask c.requires) at c.read_beside.ensures.ok

pub returns-clause-err : goal.returns-clause-err
returns-clause-err c = rw (mask_is (view c.args.value.now) c.args.mask c.requires) at c.read_beside.ensures.err
