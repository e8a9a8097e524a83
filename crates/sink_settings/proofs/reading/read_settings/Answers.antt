use Rattle.std.proofs.Common.{sym, ap, ◌∙◌}
use Rattle.std.proofs.lemmas.Result.{err_from_is_err_and}
use Rattle.toml.specs.View.{table_view}
use Rattle.sink_settings.specs.Settings.{size, toml, shape, forms, form_fault}
use Rattle.sink_settings.proofs.reading.read_settings.Goals as goal

pub returns-in_err-check_size-clause-err : goal.returns-in_err-check_size-clause-err
returns-in_err-check_size-clause-err c =
    let p = err_from_is_err_and c.from_residual.result c.from_residual.ensures.1 in
    rw (p.1, p.2, c.in_err-check_size.ensures.err.1) (λ _. size c.in_err-check_size.ensures.err.0)

pub returns-in_err-document-clause-err : goal.returns-in_err-document-clause-err
returns-in_err-document-clause-err c =
    let p = err_from_is_err_and c.from_residual-in_err-document.result c.from_residual-in_err-document.ensures.1 in
    rw (p.1, p.2) (λ n. let h = c.in_err-document.ensures.err n in rw h.0 (toml c.in_ok-check_size.ensures.ok h.1))

pub returns-in_err-settings-clause-err : goal.returns-in_err-settings-clause-err
returns-in_err-settings-clause-err c =
    let p = err_from_is_err_and c.from_residual-in_err-settings.result c.from_residual-in_err-settings.ensures.1 in
    rw (p.1, p.2) (λ n. shape c.in_ok-check_size.ensures.ok (table_view c.in_ok-document.document) c.in_ok-document.ensures.ok _ (c.in_err-settings.ensures.fault n))

pub returns-in_err-check_forms-clause-err : goal.returns-in_err-check_forms-clause-err
returns-in_err-check_forms-clause-err c =
    let p = err_from_is_err_and c.from_residual-in_err-check_forms.result c.from_residual-in_err-check_forms.ensures.1 in
    rw (p.1, p.2) (λ n. forms c.in_ok-check_size.ensures.ok (table_view c.in_ok-document.document) c.in_ok-document.ensures.ok c.in_ok-settings.ensures.fault _
    (ap form_fault (sym c.in_ok-settings.ensures.settings) ∙ c.in_err-check_forms.ensures n))
