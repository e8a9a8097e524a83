use Rattle.std.proofs.Common.{◌++◌, take}
use Rattle.std.specs.List.{flat_map}
use Rattle.sha2.specs.Hashers.{Holds256}
use Rattle.page_tokens.specs.Tokens.{line}
use Rattle.page_tokens.proofs.query.Query.of.Given as goal

abbrev pub invariant-loop-i : goal.invariant-loop-i
invariant-loop-i l = Holds256 l.hasher (line l.method ++ flat_map line (take l.i l.names))
