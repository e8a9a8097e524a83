use Rattle.std.proofs.Common.{Ok, Err, Option, ◌∙◌, subst}
use Rattle.page_tokens.specs.declared.kinds.VerdictCursor.{VerdictCursor}
use Rattle.workload_turns.specs.Courses.{IsTurned}
use Rattle.workload_turns.specs.declared.stops.Stop.TheVariants.{Memory}
use Rattle.workload_turns.proofs.PageLaws.{reads_last, reads_none, turns_on}
use Rattle.workload_turns.proofs.pages.Pages.read.Goals as goal

pub returns-in-Ok-None-clause-reads : goal.returns-in-Ok-None-clause-reads
returns-in-Ok-None-clause-reads g c =
    let i = c.args.self.now.number in
    c.pages.invariant.goes (Ok tt) c.turn.new.teller c.turn.new.tally
    (reads_last g.T.Teller.stands i c.pages.teller c.turn.new.teller c.pages.tally c.turn.new.tally c.pages.behind
    (subst (λ (n : Option VerdictCursor). IsTurned g.T.Teller.stands i c.pages.teller c.pages.tally c.pages.behind n c.turn.new.teller c.turn.new.tally)
    c.in-Ok-None.field-0-is c.in-Ok-None.ensures.ok))

pub pages-preserved : goal.pages-preserved
pages-preserved g c =
    let i = c.args.self.now.number in
    record {
      stands = c.in-Ok-Some.ensures.stands;
      holds = c.in-Ok-Some.ensures.holds ∙ c.pages.invariant.holds;
      goes = turns_on g.T.Teller.stands i c.args.teller.now c.pages.teller c.turn.new.teller c.args.tally.now c.pages.tally c.turn.new.tally c.pages.behind
          c.in-Ok-Some.next c.pages.invariant.goes
          (subst (λ (n : Option VerdictCursor). IsTurned g.T.Teller.stands i c.pages.teller c.pages.tally c.pages.behind n c.turn.new.teller c.turn.new.tally)
          c.in-Ok-Some.field-0-is c.in-Ok-Some.ensures.ok);
    }

pub returns-clause-reads : goal.returns-clause-reads
returns-clause-reads g c =
    c.pages.invariant.goes (Err Memory) c.pages.teller c.pages.tally
    (reads_none g.T.Teller.stands c.args.self.now.number c.pages.teller c.pages.tally c.pages.behind)
