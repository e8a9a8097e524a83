use Rattle.std.proofs.Common.{codes, sym, ◌∙◌}
use Rattle.std.proofs.lemmas.Result.{err_from_is_err_and}
use Rattle.program_words.specs.Grammar.{check_options}
use Rattle.program_words.specs.declared.command.Command.TheVariants.{Check}
use Rattle.program_words.proofs.Answering.{check_plain}
use Rattle.program_words.proofs.WordLists.{if_said, told_refused}
use Rattle.program_words.proofs.reading.read_check.Goals as goal

pub returns-in_err-found-clause-refused : goal.returns-in_err-found-clause-refused
returns-in_err-found-clause-refused c = λ is journal a.
    let p = err_from_is_err_and c.from_residual.result c.from_residual.ensures.1 in
    let fault = told_refused c.from_residual.result p.0 c.in_err-found.field-0.0 p.1 p.2 is in
    c.in_err-found.ensures.refused (codes "check") check_options a.givens check_plain c.in-Ok.ensures.app (cc) a.words_are

pub returns-in-Some-clause-ok : goal.returns-in-Some-clause-ok
returns-in-Some-clause-ok c =
    let found = c.in_ok-found.ensures.ok (codes "check") check_options c.requires.0 check_plain c.in-Ok.ensures.app c.requires.1 in
    if_said _ (Check c.in-Some.journal.now) _ c.check_of.ensures.value (record {
      givens = found.0;
      words_are = found.1;
      journal_is = sym (found.2 (codes "journal")) ∙ sym c.in-Some.ensures;
    })
