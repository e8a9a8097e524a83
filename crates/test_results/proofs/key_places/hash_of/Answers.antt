use Rattle.std.proofs.Common.{rules}
use Rattle.test_results.specs.Hashes.{hash_of}
use Rattle.test_results.proofs.key_places.hash_of.Goals as goal

pub returns : goal.returns
unfolding hash_of
returns c = search rules
