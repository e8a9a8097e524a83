use Rattle.std.proofs.Common.{◌≡◌, ◌+◌, List, ◌++◌, map, Option, Some, option_and_then, codes, sym, ap, ◌∙◌, arith}
use Rattle.serde_json.specs.Data.{Data}
use Rattle.serde_json.specs.Find.{as_array, get}
use Rattle.serde_json.specs.View.{view}
use Rattle.serde_json.proofs.Views.{view-Array}
use Rattle.json_fields.proofs.ListLaws.{list_of_view}
use Rattle.workload_turns.specs.Pages.{listed, verdicts_of}
use Rattle.workload_turns.specs.Tallies.{tally_of}
use Rattle.workload_turns.proofs.pages.count_page.Goals as goal

pub returns-in-Some-Array : goal.returns-in-Some-Array
returns-in-Some-Array c = λ n earlier is.
    let found : get (codes "testVariants") (view c.args.page.now) ≡ Some (view c.in-Some-Array.field-0.now) = sym c.in-Some-Array.ensures in
    let shown : verdicts_of (view c.args.page.now) ≡ map view c.as_slice.result.now =
    ap (λ (o : Option Data). listed (option_and_then as_array o)) found
    ∙ rw (c.in-Some-Array.field-0-is, view-Array c.in-Some-Array.verdicts, list_of_view c.in-Some-Array.verdicts.items) (ap (map view) (sym (c.as_slice.ensures.value ∙ ap (λ v. v.items) c.in-Some-Array.verdicts-is))) in
    let same : n ≡ n + 0 = omega arith in
    c.count_verdicts.ensures n earlier is ∙ ap (λ m. tally_of m (earlier ++ map view c.as_slice.result.now)) same
    ∙ ap (λ (l : List Data). tally_of (n + 0) (earlier ++ l)) (sym shown)
