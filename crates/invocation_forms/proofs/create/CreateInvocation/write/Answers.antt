use Rattle.std.proofs.Common.{Result, Ok, Err, OnOk}
use Rattle.name_parts.specs.declared.alphabets.Alphabet.TheVariants as alphabet
use Rattle.name_parts.specs.declared.parts.PartForm.TheVariants.{Letters}
use Rattle.form_fields.specs.Fields.{object_kind}
use Rattle.form_fields.specs.Kinds.{part_kind, request_id_kind}
use Rattle.form_fields.proofs.KindLaws.{part_lawful, request_id_lawful, some_form, written_form}
use Rattle.form_fields.proofs.RequestLaws.{read_again}
use Rattle.invocation_forms.specs.Create.{create_form, new_form}
use Rattle.invocation_forms.proofs.CreateLaws.{create_are, create_fields, create_made, new_fields, new_lawful}
use Rattle.invocation_forms.proofs.create.CreateInvocation.write.Goals as goal

both : {T E P Q R : Type 0} (r : Result T E) → (P → Q → R) → OnOk r P → OnOk r Q → OnOk r R
both (Ok t) f p q = f p q
both (Err e) f p q = tt

pub returns-clause-again : goal.returns-clause-again
returns-clause-again c =
    let q = c.args.self.now in
    both c.create_value.result
    (λ n w. read_again create_form create_fields create_made create_are q
    (record {
      request_id = some_form request_id_kind request_id_lawful q.request_id n;
      id = written_form (part_kind (Letters alphabet.Invocation)) (part_lawful (Letters alphabet.Invocation)) q.id w;
      invocation = written_form (object_kind new_form new_fields) new_lawful q.invocation c.in_ok-new.ensures.again;
    }))
    c.create_value.ensures.number c.create_value.ensures.id
