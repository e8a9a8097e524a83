use Rattle.names_realms.proofs.ResultNameLemmas.{IsResultName-fault}
use Rattle.names_realms.proofs.result_names.ResultName.parse.Goals as goal

pub returns-in-Err-clause-refused : goal.returns-in-Err-clause-refused
returns-in-Err-clause-refused c real name is =
    let some = c.in-Err.ensures.fault real in
    let none = IsResultName-fault name c.args.text.now is in cc
