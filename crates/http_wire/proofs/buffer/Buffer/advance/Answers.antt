use Rattle.std.proofs.Common.{ap, ◌∙◌, drop}
use Rattle.http_wire.proofs.BufferLaws.{shorter_part}
use Rattle.http_wire.proofs.buffer.Buffer.advance.Goals as goal

pub returns : goal.returns
returns c = shorter_part c.self.inside.room.items c.self.inside.from c.self.inside.to c.args.count ∙ ap (λ x. drop c.args.count x) c.self.view_is
