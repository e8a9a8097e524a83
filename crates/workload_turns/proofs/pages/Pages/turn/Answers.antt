use Rattle.std.proofs.Common.{[], ◌∷◌, Option, Result, Err, IfErr, sym, ap, ◌∙◌, subst}
use Rattle.std.proofs.lemmas.Result.{err_from_is_err_and}
use Rattle.call_forms.specs.declared.asked.Asked.{Asked}
use Rattle.call_forms.specs.declared.forms.Told.TheVariants.{Made, Standin as Instead}
use Rattle.page_tokens.specs.declared.kinds.VerdictCursor.{VerdictCursor}
use Rattle.workload_turns.specs.Courses.{Advances, ReadsPages}
use Rattle.workload_turns.specs.Pages.{IsNext}
use Rattle.workload_turns.specs.Tallies.{Counts}
use Rattle.workload_turns.specs.declared.stops.Stop.{Stop}
use Rattle.workload_turns.specs.declared.tally.Tally.{Tally}
use Rattle.workload_turns.proofs.PageLaws.{reads_none, reads_standin, reads_unread}
use Rattle.workload_turns.proofs.TallyLaws.{counts_both}
use Rattle.workload_turns.proofs.pages.Pages.turn.Goals as goal

pub returns-in_err-asked-clause-err : goal.returns-in_err-asked-clause-err
returns-in_err-asked-clause-err g c =
    let p = err_from_is_err_and c.from_residual.result c.from_residual.ensures.1 in
    let i = c.args.self.now.number in
    subst (λ (r : Result (Option VerdictCursor) Stop). IfErr r
    (λ stop. ReadsPages g.T.Teller.stands i c.args.teller.now c.args.tally.now c.args.behind (Err stop) c.args.teller.now c.args.tally.now))
    (sym (p.1 ∙ ap Err p.2)) (reads_none g.T.Teller.stands i c.args.teller.now c.args.tally.now c.args.behind)

pub returns-in-Err-clause-err : goal.returns-in-Err-clause-err
returns-in-Err-clause-err g c =
    let told = c.in-Err.ensures.advances in
    reads_standin g.T.Teller.stands c.args.self.now.number c.args.teller.now c.ask.new.teller c.args.tally.now c.ask.new.tally c.args.behind told.0 c.in-Err.stop told.1
    (subst (λ (q : Asked). Advances g.T.Teller.stands c.args.teller.now (record { asked = q; told = Instead told.0 } ∷ []) c.ask.new.teller) c.in_ok-asked.ensures told.2)
    c.in-Err.ensures.counts

pub returns-in-Ok-read_page-clause-ok : goal.returns-in-Ok-read_page-clause-ok
returns-in-Ok-read_page-clause-ok g c =
    let read = c.in-Ok-read_page.ensures in
    record {
      answer = c.in-Ok.answer;
      page = read.0;
      shows = read.1;
      next_is = subst (λ q. IsNext q read.0.next c.in-Ok-read_page.next) c.requires.query read.2;
      advances = subst (λ (q : Asked). Advances g.T.Teller.stands c.args.teller.now (record { asked = q; told = Made c.in-Ok.answer } ∷ []) c.ask.new.teller)
          c.in_ok-asked.ensures c.in-Ok.ensures.advances;
      counts = counts_both c.args.tally.now c.ask.new.tally c.read_page.new.tally 1 0 [] read.0.verdicts c.in-Ok.ensures.counts read.3;
    }

pub returns-clause-err : goal.returns-clause-err
returns-clause-err g c =
    reads_unread g.T.Teller.stands c.args.self.now.number c.args.teller.now c.ask.new.teller c.args.tally.now c.read_page.new.tally c.args.behind c.in-Ok.answer
    (subst (λ (q : Asked). Advances g.T.Teller.stands c.args.teller.now (record { asked = q; told = Made c.in-Ok.answer } ∷ []) c.ask.new.teller)
    c.in_ok-asked.ensures c.in-Ok.ensures.advances)
    (subst (λ (t : Tally). Counts c.args.tally.now 1 [] t) (sym c.in-Err-read_page.ensures) c.in-Ok.ensures.counts)
