use Rattle.std.proofs.Common.{ap, ◌∙◌, ◌++◌, codes, decimal}
use Rattle.sink_runs.specs.Reports as reports
use Rattle.sink_settings.specs.Faults as settings
use Rattle.sink_runs.proofs.ending.put_end.Goals as goal

pub returns-in-ConfigRefused-clause-items : goal.returns-in-ConfigRefused-clause-items
returns-in-ConfigRefused-clause-items c =
    let line = c.args.line.now.items in
    let text = codes "configuration refused: " in
    rw c.in-ConfigRefused.is
    (c.put_named.ensures.items
    ∙ (ap (λ n. line ++ (text ++ (decimal n ++ (codes " " ++ c.name.result.now)))) c.number.ensures
    ∙ ap (λ t. line ++ (text ++ (decimal (settings.fault_number c.in-ConfigRefused.fault) ++ (codes " " ++ t)))) c.name.ensures))

pub returns-in-InputFault-clause-items : goal.returns-in-InputFault-clause-items
returns-in-InputFault-clause-items c = rw c.in-InputFault.is c.put-in-InputFault.ensures

pub returns-in-ReportRefused-clause-items : goal.returns-in-ReportRefused-clause-items
returns-in-ReportRefused-clause-items c =
    let line = c.args.line.now.items in
    let text = codes "report refused: " in
    rw c.in-ReportRefused.is
    (c.put_named-in-ReportRefused.ensures.items
    ∙ (ap (λ n. line ++ (text ++ (decimal n ++ (codes " " ++ c.name-in-ReportRefused.result.now)))) c.number-in-ReportRefused.ensures
    ∙ ap (λ t. line ++ (text ++ (decimal (reports.fault_number c.in-ReportRefused.fault) ++ (codes " " ++ t)))) c.name-in-ReportRefused.ensures.name))
