use Rattle.std.proofs.Common.{false, List, subst}
use Rattle.names_realms.specs.declared.pairs.Pair.{Pair}
use Rattle.json_fields.specs.Kinds.{never_empty}
use Rattle.field_kinds.specs.PairKinds.Tags.{a_tag, IsTag, tag_data}
use Rattle.json_fields.specs.Writing.{AllWritten}
use Rattle.form_fields.specs.Kinds.{moment_kind, realm_kind, tag_kind}
use Rattle.form_fields.proofs.KindLaws.{all_form, moment_lawful, realm_lawful, some_form, tag_data_lawful, written_form}
use Rattle.invocation_forms.proofs.CreateLaws.{new_lawful}
use Rattle.invocation_forms.proofs.create.NewInvocation.write.Goals as goal

pub returns-clause-again : goal.returns-clause-again
returns-clause-again c =
    let new = c.args.self.now in
    let tags = subst (λ (tags : List Pair). AllWritten a_tag IsTag never_empty (λ _. false) tag_data tags) c.as_slice.ensures c.in_ok-write_list.ensures.again in
    new_lawful.again new
    (record {
      realm = written_form realm_kind realm_lawful new.realm c.in_ok-write_required.ensures.again;
      deadline = some_form moment_kind moment_lawful new.deadline c.in_ok-write_optional.ensures.again;
      tags = all_form (tag_kind tag_data) tag_data_lawful new.tags tags;
    })
