use Rattle.std.proofs.Common.{false, List, subst}
use Rattle.names_realms.specs.declared.pairs.Pair.{Pair}
use Rattle.json_fields.specs.Kinds.{never_empty}
use Rattle.field_kinds.specs.PairKinds.Tags.{a_tag, IsTag, tag_data}
use Rattle.json_fields.specs.Writing.{AllWritten}
use Rattle.invocation_forms.proofs.UpdateLaws.{changed_written}
use Rattle.invocation_forms.proofs.updates.changed_value.Goals as goal

pub returns-clause-again : goal.returns-clause-again
returns-clause-again c =
    changed_written c.args.id.now c.args.new_deadline.now c.args.new_tags.now c.in_ok-put_name.ensures.again c.in_ok-write_optional.ensures.again
    (subst (λ (tags : List Pair). AllWritten a_tag IsTag never_empty (λ _. false) tag_data tags) c.listed.ensures c.in_ok-write_list.ensures.again)
