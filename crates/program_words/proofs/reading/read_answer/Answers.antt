use Rattle.std.proofs.Common.{codes, sym, ◌∙◌}
use Rattle.std.proofs.lemmas.Result.{err_from_is_err_and}
use Rattle.program_words.specs.Grammar.{answer_options}
use Rattle.program_words.specs.declared.command.Command.TheVariants.{Answer}
use Rattle.program_words.proofs.Answering.{answer_plain}
use Rattle.program_words.proofs.WordLists.{if_said, told_refused}
use Rattle.program_words.proofs.reading.read_answer.Goals as goal

pub returns-in_err-found-clause-refused : goal.returns-in_err-found-clause-refused
returns-in_err-found-clause-refused c = λ is config journal a.
    let p = err_from_is_err_and c.from_residual.result c.from_residual.ensures.1 in
    let fault = told_refused c.from_residual.result p.0 c.in_err-found.field-0.0 p.1 p.2 is in
    c.in_err-found.ensures.refused (codes "answer") answer_options a.givens answer_plain c.in-Ok.ensures.app (cc) a.words_are

pub returns-in-Some-Some-clause-ok : goal.returns-in-Some-Some-clause-ok
returns-in-Some-Some-clause-ok c =
    let found = c.in_ok-found.ensures.ok (codes "answer") answer_options c.requires.0 answer_plain c.in-Ok.ensures.app c.requires.1 in
    if_said _ (Answer c.in-Some-Some.config.now c.in-Some-Some.journal.now) _ c.answer_of.ensures.value (record {
      givens = found.0;
      words_are = found.1;
      config_is = sym (found.2 (codes "config")) ∙ sym c.in-Some-Some.ensures;
      journal_is = sym (found.2 (codes "journal")) ∙ sym c.in-Some-Some.ensures';
    })
