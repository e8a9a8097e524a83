use Rattle.junit_reader.proofs.answers.fault_for.Goals as goal

pub fault_of-requires-clause-flaw : goal.fault_of-requires-clause-flaw
fault_of-requires-clause-flaw c = rw c.in-Flawed.is at c.requires.flaw
