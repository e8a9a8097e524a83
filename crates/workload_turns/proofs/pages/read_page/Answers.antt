use Rattle.std.proofs.Common.{inl, inr, Option, refl, subst, MatchOption}
use Rattle.serde_json.specs.Data.{Data}
use Rattle.serde_json.specs.View.{view}
use Rattle.serde_json.specs.declared.value.Value.{Value}
use Rattle.workload_turns.specs.Pages.{ShowsJson, no_page, page_of}
use Rattle.workload_turns.proofs.TallyLaws.{counts_none}
use Rattle.workload_turns.proofs.pages.read_page.Goals as goal

pub returns-in_default : goal.returns-in_default
returns-in_default c =
    let none = subst (λ (o : Option Value). MatchOption o ((d : Data) → ¬ ShowsJson c.args.answer.now d) (λ value. ShowsJson c.args.answer.now (view value)))
    c.in_default.is c.in_ok-page.ensures in
    (no_page, inr (none, refl), refl, counts_none c.args.tally.now)

pub returns : goal.returns
returns c =
    let page = c.in-Some.page in
    let shows = subst (λ (o : Option Value). MatchOption o ((d : Data) → ¬ ShowsJson c.args.answer.now d) (λ value. ShowsJson c.args.answer.now (view value)))
    c.in-Some.is c.in_ok-page.ensures in
    (page_of (view page), inl (view page, shows, refl), c.in_ok-next.ensures, c.count_page.ensures)
