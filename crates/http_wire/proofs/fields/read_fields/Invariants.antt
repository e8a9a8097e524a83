use Rattle.std.proofs.Common.{map, take}
use Rattle.httparse.specs.Spans.{header_bytes}
use Rattle.http_wire.specs.Found.{AreFound}
use Rattle.http_wire.proofs.fields.read_fields.Given as goal

abbrev pub invariant-loop-header : goal.invariant-loop-header
invariant-loop-header l = AreFound l.fields (map (header_bytes l.head) (take l.header-index l.headers))
