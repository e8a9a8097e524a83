use Rattle.rdb_program.proofs.service.serve_doors.Goals as goal

pub returns-in-Ok : goal.returns-in-Ok
returns-in-Ok g c = λ words input are.
    c.serve_over.ensures words (g.I.Source.ends c.args.config.now) (g.I.Source.ends c.read_policy.new.config) input are c.in-Ok.ensures
