use Rattle.permissions.proofs.GrantLemmas.{no_grant}
use Rattle.permissions.proofs.grants.no_grants.Goals as goal

pub returns : goal.returns
returns c = λ u p t. no_grant t u p c.new.result c.new-2.result.items c.new.ensures.empty c.new-2.ensures.items
