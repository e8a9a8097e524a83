use Rattle.std.proofs.Common.{◌≡◌, ◌-◌, ◌+◌, ◌<◌, ◌++◌, ℕ, false, List, length, get_or, sym, ap, ◌∙◌, map, drop, take}
use Rattle.std.specs.Prelude.{fold, option_to_list, Some}
use Rattle.std.specs.List.{list_any}
use Rattle.std.proofs.lemmas.List.{take_rest}
use Rattle.tap_reader.specs.declared.entries.Entry.{Entry}
use Rattle.tap_reader.specs.Streams.{earlier, fault_of, plan_of, says_number}
use Rattle.tap_reader.specs.Entries.{line_of}
use Rattle.tap_reader.specs.Completing.{at_level, filled, missing_line, missing_lines, own}
use Rattle.tap_reader.specs.CompletingViews.{state_of}
use Rattle.tap_reader.specs.MarkWords.{unmarked}
use Rattle.tap_reader.proofs.StreamLemmas.{closed_as, st}
use Rattle.tap_reader.proofs.RunLemmas.{missing_marked}
use Rattle.tap_reader.proofs.completing.Streams.close.Goals as goal

pub returns-in_ok-push_missing : goal.returns-in_ok-push_missing
returns-in_ok-push_missing c =
    let s = state_of c.args.self.now in
    let es : List Entry = c.args.self.now.entries.items in
    let level = c.args.level in
    let start = c.run_start-start.result in
    let count = c.in-Some.count in
    let marks = c.in_ok-marks.marks.items in
    let here = at_level level (map line_of (drop start es)) in
    let cut : (xs : List Entry) → xs ≡ es → take (length xs - start) (drop start xs) ≡ drop start es = λ xs e. take_rest xs start ∙ ap (drop start) e in
    let own_is : own level (map line_of es) ≡ here =
    ap (λ xs. own level (map line_of xs)) (sym c.deref.ensures.value) ∙ c.run_start-start.ensures.own
    ∙ ap (λ xs. at_level level (map line_of (drop start xs))) c.deref.ensures.value in
    let plan_is : plan_of here ≡ Some count =
    ap (λ xs. plan_of (at_level level (map line_of xs))) (sym (cut c.deref-2.result.now c.deref-2.ensures.value)) ∙ sym c.plan_at-plan.ensures ∙ c.in-Some.is in
    let fault_is : c.fault_at-fault.result ≡ fault_of here =
    c.fault_at-fault.ensures ∙ ap (λ xs. fault_of (at_level level (map line_of xs))) (cut c.deref-3.result.now c.deref-3.ensures.value) in
    let marks_are : (i : ℕ) → i < count → get_or marks i false ≡ list_any (λ l. says_number (1 + i) l.said) here =
    λ i p. c.in_ok-marks.ensures.marks i p ∙ ap (λ xs. list_any (λ l. says_number (1 + i) l.said) (at_level level (map line_of xs))) (cut c.deref-4.result.now c.deref-4.ensures.value) in
    let lines_are : map line_of c.push_missing.new.entries.items ≡ map line_of es ++ missing_lines level here =
    c.in_ok-push_missing.ensures
    ∙ ap (λ m. map line_of es ++ map (missing_line level) (unmarked 1 m)) c.deref-5.ensures.value
    ∙ ap (λ ls. map line_of es ++ ls) (missing_marked level count here marks plan_is c.in_ok-marks.ensures.len marks_are) in
    let filled_is : missing_lines level here ≡ filled c.args.fill level here = ap (λ f. filled f level here) (sym c.if-fill.true) in
    ap (λ ls. st ls c.earlier_of-self.result) (lines_are ∙ ap (λ ls. map line_of es ++ ls) filled_is)
    ∙ ap (st (map line_of es ++ filled c.args.fill level here)) (c.earlier_of-self.ensures ∙ ap (λ f. fold earlier s.fault (option_to_list f)) fault_is)
    ∙ sym (closed_as c.args.fill level s here own_is)
