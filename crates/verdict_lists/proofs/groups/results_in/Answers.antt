use Rattle.std.proofs.Common.{◌++◌, ◌∷◌, [], List, ℕ, get_or, sym, ap, ◌∙◌}
use Rattle.verdict_lists.specs.declared.entries.Entry.TheVariants.{Result}
use Rattle.verdict_lists.specs.Entries.{result_in}
use Rattle.verdict_lists.specs.Groups.{results_in}
use Rattle.verdict_lists.proofs.TallyLemmas.{picked_more}
use Rattle.verdict_lists.proofs.groups.results_in.Goals as goal

pub loop-entry-preserved : goal.loop-entry-preserved
loop-entry-preserved c =
    let entries = c.args.entries.now in
    let i = c.loop-entry.entry-index in
    c.in_ok-add_result.ensures ∙ ap (λ (l : List ℕ). l ++ results_in (get_or entries i (Result 0) ∷ [])) c.loop-entry.invariant
    ∙ sym (picked_more result_in entries i (Result 0) c.loop-entry-test.true)
