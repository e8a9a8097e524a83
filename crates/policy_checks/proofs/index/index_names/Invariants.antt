use Rattle.std.proofs.Common.{map, take}
use Rattle.policy_checks.specs.Index.{IsIndexOf}
use Rattle.policy_checks.proofs.index.index_names.Given as goal

abbrev pub invariant-loop-place : goal.invariant-loop-place
invariant-loop-place g l = IsIndexOf l.index (map g.T.Named.name_of (take l.place l.rows))
