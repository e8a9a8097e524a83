use Rattle.std.proofs.Common.{arith, ap}
use Rattle.junit_parts.specs.Reports.HasFault.{no_text}
use Rattle.junit_parts.specs.declared.faults.JunitFault.TheVariants.{NotText}
use Rattle.junit_reader.proofs.answers.answer_of.Goals as goal

pub returns-then-text-bytes-clause-err : goal.returns-then-text-bytes-clause-err
returns-then-text-bytes-clause-err c = λ other.
    let read = rw c.in-Ok.is at c.requires.document in
    no_text (omega (arith, c.if-text-bytes.true, c.text_place-text.ensures)) c.in-Ok.cases.items read (ap NotText c.text_place-text.ensures)
