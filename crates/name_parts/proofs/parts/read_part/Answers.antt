use Rattle.std.proofs.Common.{◌≡◌, Some, sym, ◌∙◌}
use Rattle.name_parts.specs.Parts.{part_fault}
use Rattle.name_parts.proofs.PartLemmas.{part_fault-None, IsPart-part_fault, IsPart-utf8}
use Rattle.name_parts.proofs.parts.read_part.Goals as goal

pub returns-in-Some-clause-refused : goal.returns-in-Some-clause-refused
returns-in-Some-clause-refused c _ part =
    let none = IsPart-part_fault c.args.form c.args.text.now part in
    let some : part_fault c.args.form c.args.text.now ≡ Some c.in-Some.fault = sym c.fault_of_part.ensures.value ∙ c.in-Some.is in
    cc

pub owned_text-requires : goal.owned_text-requires
owned_text-requires c =
    IsPart-utf8 c.args.form c.args.text.now (part_fault-None c.args.form c.args.text.now (sym c.fault_of_part.ensures.value ∙ c.in_default.is))

pub returns-clause-ok : goal.returns-clause-ok
returns-clause-ok c =
    (c.in_ok-text.ensures, part_fault-None c.args.form c.args.text.now (sym c.fault_of_part.ensures.value ∙ c.in_default.is))
