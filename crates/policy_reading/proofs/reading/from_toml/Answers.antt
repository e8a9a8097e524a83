use Rattle.std.proofs.Common.{subst}
use Rattle.std.proofs.lemmas.Result.{err_from_is_err_and, IfErr-weaker}
use Rattle.toml.specs.View.{table_view}
use Rattle.policy_tables.specs.declared.tables.PolicyTables.{PolicyTables}
use Rattle.policy_reading.specs.Reading.{IsTablesFault, size, toml, shape, tables}
use Rattle.policy_reading.proofs.reading.from_toml.Goals as goal

pub returns-in_err-check_size-clause-err : goal.returns-in_err-check_size-clause-err
returns-in_err-check_size-clause-err c =
    let p = err_from_is_err_and c.from_residual.result c.from_residual.ensures.1 in
    rw (p.1, p.2, c.in_err-check_size.ensures.err.1) (λ _. size c.in_err-check_size.ensures.err.0)

pub returns-in_err-document-clause-err : goal.returns-in_err-document-clause-err
returns-in_err-document-clause-err c =
    let p = err_from_is_err_and c.from_residual-in_err-document.result c.from_residual-in_err-document.ensures.1 in
    rw (p.1, p.2) (λ n. let h = c.in_err-document.ensures.err n in rw h.0 (toml c.in_ok-check_size.ensures.ok h.1))

pub returns-in_err-tables-clause-err : goal.returns-in_err-tables-clause-err
returns-in_err-tables-clause-err c =
    let p = err_from_is_err_and c.from_residual-in_err-tables.result c.from_residual-in_err-tables.ensures.1 in
    rw (p.1, p.2) (λ n. shape c.in_ok-check_size.ensures.ok (table_view c.in_ok-document.document) c.in_ok-document.ensures.ok _ (c.in_err-tables.ensures.fault n))

pub returns-clause-err : goal.returns-clause-err
returns-clause-err c =
    IfErr-weaker c.policy_of.result _ _
    (λ y h n. tables c.in_ok-check_size.ensures.ok (table_view c.in_ok-document.document) c.in_ok-document.ensures.ok c.in_ok-tables.ensures.fault y
    (subst (λ (t : PolicyTables). IsTablesFault t y) c.in_ok-tables.ensures.tables (h n)))
    c.policy_of.ensures.err
