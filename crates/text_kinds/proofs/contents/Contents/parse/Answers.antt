use Rattle.std.proofs.Common.{Option, refl, sym, ap, subst, ◌∙◌}
use Rattle.std.proofs.lemmas.Result.{IfOk-weaker, IfErr-weaker}
use Rattle.base64.specs.Engines.{standard}
use Rattle.base64.specs.GeneralPurpose.{encode_of}
use Rattle.json_fields.specs.Faults.{Says}
use Rattle.json_fields.specs.Texts.{bad_value}
use Rattle.json_fields.specs.declared.whys.Why.{Why}
use Rattle.text_kinds.proofs.ContentLaws.{why_decoded, why_refused, few, only_base64}
use Rattle.text_kinds.proofs.contents.Contents.parse.Goals as goal

pub returns-in-Ok-clause-ok : goal.returns-in-Ok-clause-ok
returns-in-Ok-clause-ok c =
    let why = why_decoded c.args.text.now c.in-Ok.bytes.items c.in-Ok.ensures.ok in
    let exact = c.in-Ok.ensures.exact (refl, refl) in
    IfOk-weaker c.kept.result _ _ (λ x h. (why ∙ few c.in-Ok.bytes.items h.1, exact ∙ ap (encode_of standard) (sym h.0))) c.kept.ensures.ok

pub returns-in-Ok-clause-err : goal.returns-in-Ok-clause-err
returns-in-Ok-clause-err c =
    let why = why_decoded c.args.text.now c.in-Ok.bytes.items c.in-Ok.ensures.ok in
    IfErr-weaker c.kept.result _ _ (λ e says. subst (λ (w : Option Why). Says e (bad_value w)) (sym why) says) c.kept.ensures.err

pub returns-in-Ok-clause-spelling : goal.returns-in-Ok-clause-spelling
returns-in-Ok-clause-spelling c = only_base64 c.args.text.now

pub returns-in-Err-OutOfMemory-clause-spelling : goal.returns-in-Err-OutOfMemory-clause-spelling
returns-in-Err-OutOfMemory-clause-spelling c = only_base64 c.args.text.now

pub returns-in-Err-DecodeError-clause-err : goal.returns-in-Err-DecodeError-clause-err
returns-in-Err-DecodeError-clause-err c =
    let failed = rw c.in-Err-DecodeError.field-0-is at c.in-Err-DecodeError.ensures.err in
    rw (why_refused c.args.text.now c.in-Err-DecodeError.field-0-0 failed) c.refused.ensures
