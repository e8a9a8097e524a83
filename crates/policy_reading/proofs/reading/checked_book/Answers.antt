use Rattle.std.proofs.Common.{sym, ap, ◌∙◌}
use Rattle.std.proofs.lemmas.Result.{err_from_is_err_and}
use Rattle.permissions.specs.Faults.{text_fault}
use Rattle.policy_reading.specs.Reading.{text}
use Rattle.permissions.proofs.FaultLemmas.{entries_first}
use Rattle.policy_reading.proofs.reading.checked_book.Goals as goal

pub returns-in_err-check_entries-clause-err : goal.returns-in_err-check_entries-clause-err
returns-in_err-check_entries-clause-err c =
    let p = err_from_is_err_and c.from_residual.result c.from_residual.ensures.1 in
    rw (p.1, p.2) (λ n. text _ (entries_first c.args.tables _ (c.in_err-check_entries.ensures n)))

pub returns-in_err-check_texts-clause-err : goal.returns-in_err-check_texts-clause-err
returns-in_err-check_texts-clause-err c =
    let p = err_from_is_err_and c.from_residual-in_err-check_texts.result c.from_residual-in_err-check_texts.ensures.1 in
    rw (p.1, p.2) (λ n. text _ (ap text_fault (sym c.in_ok-book.ensures) ∙ c.in_err-check_texts.ensures n))
