use Rattle.std.proofs.Common.{ℕ, None, Ok, subst}
use Rattle.workload_turns.specs.Courses.{ReadsPages}
use Rattle.workload_turns.proofs.RunLaws.{whole_run}
use Rattle.workload_turns.proofs.run.run_load.Goals as goal

pub returns-in-Ok-clause-run : goal.returns-in-Ok-clause-run
returns-in-Ok-clause-run g c =
    whole_run g.T.Teller.stands c.args.teller.now c.change_all.new.teller c.read_pages.new.teller c.nothing-tally.result c.change_all.new.tally c.read_pages.new.tally
    c.args.asking.secret.now c.args.number c.args.count c.nothing-tally.ensures c.in_default.ensures.asks
    (subst (λ (i : ℕ). ReadsPages g.T.Teller.stands i c.change_all.new.teller c.change_all.new.tally None (Ok tt) c.read_pages.new.teller c.read_pages.new.tally)
    c.saturating_sub.ensures c.in-Ok.ensures.reads)
