use Rattle.std.proofs.Common.{length}
use Rattle.http_wire.proofs.PlainLaws.{SoFar}
use Rattle.http_wire.proofs.plain.read_stream.Given as goal

abbrev pub invariant-messages : goal.invariant-messages
invariant-messages l = SoFar l.stream l.messages.items l.before l.rest

abbrev pub decreases-messages : goal.decreases-messages
decreases-messages l = length l.rest
