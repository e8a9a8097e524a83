use Rattle.std.proofs.Common.{length, sym, ◌∙◌, subst}
use Rattle.junit_parts.specs.Reports.{HasFault}
use Rattle.junit_parts.specs.declared.faults.JunitFault.{JunitFault}
use Rattle.junit_reader.proofs.FaultLemmas.{flaw_first, never_memory, text_first}
use Rattle.junit_reader.proofs.answers.fault_of.Goals as goal

pub returns-then-ends_before-clause-fault : goal.returns-then-ends_before-clause-fault
returns-then-ends_before-clause-fault c = text_first c.args.bytes.now c.args.flaw c.text_place-text.result c.requires.flaw c.text_place-text.ensures (sym c.ends_before.ensures ∙ c.if-ends_before.true)

pub returns-else-ends_before-clause-fault : goal.returns-else-ends_before-clause-fault
returns-else-ends_before-clause-fault c =
    let P : JunitFault → Type 0 = λ f. HasFault c.args.bytes.now f in
    subst P (sym c.told.ensures) (flaw_first c.args.bytes.now c.args.flaw c.text_place-text.result c.requires.short c.requires.flaw c.text_place-text.ensures (sym c.ends_before.ensures ∙ c.if-ends_before.false))

pub returns-else-ends_before-clause-sure : goal.returns-else-ends_before-clause-sure
returns-else-ends_before-clause-sure c = λ e. never_memory (length c.args.bytes.now) c.args.flaw (sym c.told.ensures ∙ e)
