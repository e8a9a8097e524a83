use Rattle.std.proofs.Common.{◌≡◌, codes, sym, ap, ◌∙◌, Err}
use Rattle.std.proofs.lemmas.Result.{err_from_is_err_and}
use Rattle.clap.specs.Words.{first_value, found_of}
use Rattle.program_words.specs.Options.{value_of}
use Rattle.program_words.specs.Grammar.{serve_options}
use Rattle.program_words.specs.declared.command.WordFault.TheVariants.{Refused}
use Rattle.program_words.proofs.Answering.{serve_plain, same_words, serve_through}
use Rattle.program_words.proofs.WordLists.{told_refused}
use Rattle.program_words.proofs.reading.read_serve.Goals as goal

pub returns-in_err-found-clause-refused : goal.returns-in_err-found-clause-refused
returns-in_err-found-clause-refused c = λ is serve a.
    let p = err_from_is_err_and c.from_residual.result c.from_residual.ensures.1 in
    let fault = told_refused c.from_residual.result p.0 c.in_err-found.field-0.0 p.1 p.2 is in
    c.in_err-found.ensures.refused (codes "serve") serve_options a.givens serve_plain c.in-Ok.ensures.app (cc) a.words_are

pub returns-in-Ok-serve_of-clause-ok : goal.returns-in-Ok-serve_of-clause-ok
returns-in-Ok-serve_of-clause-ok c =
    let found = c.in_ok-found.ensures.ok (codes "serve") serve_options c.requires.0 serve_plain c.in-Ok.ensures.app c.requires.1 in
    record {
      givens = found.0;
      words_are = found.1;
      values_are = serve_through (first_value (found_of c.in_ok-found.found)) (λ n. value_of n found.0) c.in-Ok-serve_of.serve found.2
          c.in-Ok-serve_of.ensures.ok;
    }

pub returns-clause-refused : goal.returns-clause-refused
returns-clause-refused c = λ is serve a.
    let found = c.in_ok-found.ensures.ok (codes "serve") serve_options c.requires.0 serve_plain c.in-Ok.ensures.app c.requires.1 in
    let givens = same_words (codes "serve") serve_options _ a.givens found.0 serve_plain a.words_are found.1 in
    let fault : c.in-Err.fault ≡ Refused = cc in
    c.in-Err.ensures.refused (ap Err fault) serve
    (serve_through (λ n. value_of n a.givens) (first_value (found_of c.in_ok-found.found)) serve
    (λ n. ap (value_of n) givens ∙ sym (found.2 n)) a.values_are)
