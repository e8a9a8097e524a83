use Rattle.std.proofs.Common.{◌≡◌, ◌∙◌, sym, subst, List, length, drop}
use Rattle.std.specs.List.{AllZip}
use Rattle.trial_callers.specs.Callings.{HasAskedOwn}
use Rattle.trial_callers.specs.declared.callers.Caller.{Caller}
use Rattle.trial_callers.proofs.CallerLaws.{zip_all, filled}
use Rattle.trial_callers.proofs.callers.ask_all.Goals as goal

pub returns : goal.returns
returns g c =
    let callers = c.args.callers in
    let done = c.ask_each.new.callers in
    let full : length done ≡ callers.len = c.ask_each.auto.callers ∙ c.as_mut_slice.ensures.len in
    let Did = HasAskedOwn g.T.Teller.stands in
    subst (λ (all : List (Caller g.row.T.Denot)). AllZip Did callers.items all) (sym (filled callers.len done (drop (length done) callers.items) full))
    (zip_all Did callers.items c.as_mut_slice.result.now done c.as_mut_slice.ensures.value c.ask_each.auto.callers c.ask_each.ensures)
