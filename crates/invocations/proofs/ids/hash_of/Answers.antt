use Rattle.std.proofs.Common.{rules}
use Rattle.invocations.specs.Hashes.{hash_of}
use Rattle.invocations.proofs.ids.hash_of.Goals as goal

pub returns : goal.returns
unfolding hash_of
returns c = search rules
