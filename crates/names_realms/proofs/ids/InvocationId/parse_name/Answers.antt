use Rattle.names_realms.proofs.InvocationNameLemmas.{IsInvocationName-fault}
use Rattle.names_realms.proofs.ids.InvocationId.parse_name.Goals as goal

pub returns-in-Err-clause-refused : goal.returns-in-Err-clause-refused
returns-in-Err-clause-refused c real id is =
    let some = c.in-Err.ensures.fault real in
    let none = IsInvocationName-fault id c.args.text.now is in cc
