use Rattle.std.proofs.Common.{◌≡◌, List, ℕ, sym, subst, ◌∙◌}
use Rattle.name_parts.specs.Parts.{IsPart}
use Rattle.name_parts.specs.Escapes.{escaped}
use Rattle.name_parts.proofs.PartLemmas.{IsPart-utf8}
use Rattle.name_parts.proofs.EscapeLemmas.{right_value}
use Rattle.name_parts.proofs.escapes.read_escaped.Goals as goal

pub text_of-requires : goal.text_of-requires
text_of-requires c =
    let value = c.as_slice.result.now in
    let right = right_value c.args.form c.args.text.now value c.first_bad.result c.in_default.ensures.none (c.as_slice.ensures.value ∙ c.in_ok-value.ensures) c.first_bad.ensures.place (sym c.fault_of_spellings.ensures.value ∙ c.in_default-fault_of_spellings.is) in
    IsPart-utf8 c.args.form c.in_ok-value.value.items (subst (λ (v : List ℕ). IsPart c.args.form v) c.as_slice.ensures.value right.1)

pub returns-clause-ok : goal.returns-clause-ok
returns-clause-ok c =
    let value = c.as_slice.result.now in
    let right = right_value c.args.form c.args.text.now value c.first_bad.result c.in_default.ensures.none (c.as_slice.ensures.value ∙ c.in_ok-value.ensures) c.first_bad.ensures.place (sym c.fault_of_spellings.ensures.value ∙ c.in_default-fault_of_spellings.is) in
    subst (λ (v : List ℕ). (c.args.text.now ≡ escaped v) × IsPart c.args.form v) (c.as_slice.ensures.value ∙ sym c.text_of.ensures) right
