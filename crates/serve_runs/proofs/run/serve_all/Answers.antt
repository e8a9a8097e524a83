use Rattle.serve_runs.proofs.StatusLaws.{serve_says}
use Rattle.serve_runs.proofs.run.serve_all.Goals as goal

pub returns-clause-status : goal.returns-clause-status
returns-clause-status g c =
    serve_says g.A.Door.tells g.A.L.Link.ends g.A.L.Link.holds c.serve_told.result.0 _ _ _ _ _ _ c.serve_told.ensures
