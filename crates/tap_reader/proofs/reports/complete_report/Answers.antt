use Rattle.std.proofs.Common.{◌≡◌, Bool, subst, true, map, sym, ap, ◌∙◌}
use Rattle.std.specs.Prelude.{Some, None, fold, option_to_list, is_some, ◌||◌}
use Rattle.std.specs.List.{list_any}
use Rattle.tap_reader.specs.Streams.{earlier, first_fault, is_bail, plan_of}
use Rattle.tap_reader.specs.Completing.{at_level}
use Rattle.tap_reader.specs.Naming.{named}
use Rattle.tap_reader.specs.Entries.{line_of}
use Rattle.tap_reader.specs.CompletingViews.{state_of}
use Rattle.tap_reader.proofs.OutcomeLemmas.{Wrote, earlier_none, not_false, reads_cases, reads_fault, reads_no_plan, tree_in, wrote_cases, wrote_end, wrote_fault}
use Rattle.tap_reader.proofs.reports.complete_report.Goals as goal

pub returns-in-Some-clause-err : goal.returns-in-Some-clause-err
returns-in-Some-clause-err c =
    let ls = map line_of c.args.entries.now in
    let s = state_of c.in_ok-streams.streams in
    let first : first_fault ls (tree_in ls) ≡ Some c.in-Some.fault =
    sym (wrote_fault c.is_none.result ls s c.in_ok-streams.ensures)
    ∙ ap (λ o. fold earlier s.fault (option_to_list o)) (sym c.find_alone-alone.ensures)
    ∙ sym c.earlier_of.ensures ∙ c.in-Some.is in
    λ _. reads_fault ls c.in-Some.fault first

pub returns-then-not-has_end-clause-err : goal.returns-then-not-has_end-clause-err
returns-then-not-has_end-clause-err c =
    let ls = map line_of c.args.entries.now in
    let s = state_of c.in_ok-streams.streams in
    let first : first_fault ls (tree_in ls) ≡ None =
    sym (wrote_fault c.is_none.result ls s c.in_ok-streams.ensures)
    ∙ ap (λ o. fold earlier s.fault (option_to_list o)) (sym c.find_alone-alone.ensures)
    ∙ sym c.earlier_of.ensures ∙ c.in_default.is in
    λ _. reads_no_plan ls first
    (sym (wrote_end c.is_none.result ls s c.in_ok-streams.ensures)
    ∙ sym (ap (λ xs. is_some (plan_of (at_level 0 (map line_of xs))) || list_any (λ l. is_bail l.said) ls) c.deref.ensures.value) ∙ sym c.has_end.ensures ∙ c.if-not-has_end.true)

pub returns-clause-ok : goal.returns-clause-ok
returns-clause-ok c =
    let ls = map line_of c.args.entries.now in
    let s = state_of c.in_ok-streams.streams in
    let first : first_fault ls (tree_in ls) ≡ None =
    sym (wrote_fault c.is_none.result ls s c.in_ok-streams.ensures)
    ∙ ap (λ o. fold earlier s.fault (option_to_list o)) (sym c.find_alone-alone.ensures)
    ∙ sym c.earlier_of.ensures ∙ c.in_default.is in
    let alone : c.find_alone-alone.result ≡ None = earlier_none s.fault c.find_alone-alone.result (sym c.earlier_of.ensures ∙ c.in_default.is) in
    let fill : c.is_none.result ≡ true = not_false c.is_none.result (sym c.is_none.ensures ∙ ap is_some alone) in
    let wrote : Wrote true ls s = let P : Bool → Type 0 = λ f. Wrote f ls s in subst P fill c.in_ok-streams.ensures in
    reads_cases ls (named s.lines) first
    (sym (wrote_end c.is_none.result ls s c.in_ok-streams.ensures)
    ∙ sym (ap (λ xs. is_some (plan_of (at_level 0 (map line_of xs))) || list_any (λ l. is_bail l.said) ls) c.deref.ensures.value) ∙ sym c.has_end.ensures ∙ c.if-not-has_end.false)
    (wrote_cases ls s wrote)
