use Rattle.std.proofs.Common.{List, length}
use Rattle.http_wire.specs.declared.message.Message.{Message}
use Rattle.http_wire.proofs.PlainLaws.{SoFar}
use Rattle.http_wire.proofs.laws.there_is_a_reading.Given as goal

abbrev pub invariant-messages : goal.invariant-messages
invariant-messages l = (ms : List Message) × SoFar l.stream ms l.before l.rest

abbrev pub decreases-messages : goal.decreases-messages
decreases-messages l = length l.rest
