use Rattle.std.proofs.Common.{map, take, codes}
use Rattle.httparse.specs.Spans.{header_bytes}
use Rattle.http_wire.specs.Form.{values_of}
use Rattle.sink_replies.specs.Found.{IsFound}
use Rattle.sink_replies.proofs.lengths.lengths_in.Given as goal

abbrev pub invariant-loop-header : goal.invariant-loop-header
invariant-loop-header l = IsFound l.found (values_of (codes "content-length") (map (header_bytes l.head) (take l.header-index l.headers)))
