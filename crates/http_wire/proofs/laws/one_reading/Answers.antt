use Rattle.http_wire.proofs.StreamLaws.{framed_once}
use Rattle.http_wire.proofs.laws.one_reading.Goals as goal

pub returns-clause-messages : goal.returns-clause-messages
returns-clause-messages c bytes ms ns e f x y = (framed_once ms ns 0 bytes e f x y).0

pub returns-clause-end : goal.returns-clause-end
returns-clause-end c bytes ms ns e f x y = (framed_once ms ns 0 bytes e f x y).1
