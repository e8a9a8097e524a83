use Rattle.std.proofs.Common.{inr}
use Rattle.http_workers.proofs.FramingLaws.{served}
use Rattle.http_workers.proofs.connection.serve_connection.Goals as goal

pub returns-in-Ok-clause-serves : goal.returns-in-Ok-clause-serves
returns-in-Ok-clause-serves g c = inr (served _ _ _ _ _ c.serve_messages.ensures.connection)
