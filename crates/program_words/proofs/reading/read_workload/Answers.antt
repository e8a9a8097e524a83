use Rattle.std.proofs.Common.{◌≡◌, codes, sym, ap, ◌∙◌, Err}
use Rattle.std.proofs.lemmas.Result.{err_from_is_err_and}
use Rattle.clap.specs.Words.{first_value, found_of}
use Rattle.program_words.specs.Options.{value_of}
use Rattle.program_words.specs.Grammar.{workload_options}
use Rattle.program_words.specs.declared.command.WordFault.TheVariants.{Refused}
use Rattle.program_words.proofs.Answering.{workload_plain, same_words, workload_through}
use Rattle.program_words.proofs.WordLists.{told_refused}
use Rattle.program_words.proofs.reading.read_workload.Goals as goal

pub returns-in_err-found-clause-refused : goal.returns-in_err-found-clause-refused
returns-in_err-found-clause-refused c = λ is workload a.
    let p = err_from_is_err_and c.from_residual.result c.from_residual.ensures.1 in
    let fault = told_refused c.from_residual.result p.0 c.in_err-found.field-0.0 p.1 p.2 is in
    c.in_err-found.ensures.refused (codes "workload") workload_options a.givens workload_plain c.in-Ok.ensures.app (cc) a.words_are

pub returns-in-Ok-workload_of-clause-ok : goal.returns-in-Ok-workload_of-clause-ok
returns-in-Ok-workload_of-clause-ok c =
    let found = c.in_ok-found.ensures.ok (codes "workload") workload_options c.requires.0 workload_plain c.in-Ok.ensures.app c.requires.1 in
    record {
      givens = found.0;
      words_are = found.1;
      values_are = workload_through (first_value (found_of c.in_ok-found.found)) (λ n. value_of n found.0) c.in-Ok-workload_of.load found.2
          c.in-Ok-workload_of.ensures.ok;
    }

pub returns-clause-refused : goal.returns-clause-refused
returns-clause-refused c = λ is workload a.
    let found = c.in_ok-found.ensures.ok (codes "workload") workload_options c.requires.0 workload_plain c.in-Ok.ensures.app c.requires.1 in
    let givens = same_words (codes "workload") workload_options _ a.givens found.0 workload_plain a.words_are found.1 in
    let fault : c.in-Err.fault ≡ Refused = cc in
    c.in-Err.ensures.refused (ap Err fault) workload
    (workload_through (λ n. value_of n a.givens) (first_value (found_of c.in_ok-found.found)) workload
    (λ n. ap (value_of n) givens ∙ sym (found.2 n)) a.values_are)
