use Rattle.sink_uploads.specs.Dialled.Dial.{visited}
use Rattle.sink_uploads.proofs.dial.dial_with.Goals as goal

pub returns-in-Ok-clause-dialled : goal.returns-in-Ok-clause-dialled
returns-in-Ok-clause-dialled g c =
    let v = c.visit-visited.ensures.carried in (
      visited c.in-Ok.link c.visit-visited.new.link v.0,
      (g.X.Dialer.dials c.connect.new.self, c.in-Ok.ensures, c.give_back.ensures, v.1),
      v.2,
      v.3,
    )
