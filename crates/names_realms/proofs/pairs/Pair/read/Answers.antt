use Rattle.std.proofs.Common.{◌≡◌, Some, sym, ◌∙◌}
use Rattle.names_realms.specs.Pairs.{pair_fault}
use Rattle.names_realms.proofs.PairLemmas.{pair_fault-None, pair-fault}
use Rattle.names_realms.proofs.pairs.Pair.read.Goals as goal

pub returns-in-Some-clause-refused : goal.returns-in-Some-clause-refused
returns-in-Some-clause-refused c _ is =
    let none = pair-fault c.args.key.now c.args.value.now is.0 is.1 in
    let some : pair_fault c.args.key.now c.args.value.now ≡ Some c.in-Some.fault = sym c.fault_of_pair.ensures ∙ c.in-Some.is in
    cc

pub returns-clause-grammar : goal.returns-clause-grammar
returns-clause-grammar c =
    pair_fault-None c.args.key.now c.args.value.now (sym c.fault_of_pair.ensures ∙ c.in_default.is)
