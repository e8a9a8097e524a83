use Rattle.std.proofs.Common.{◌&&◌, sym, ap, ◌∙◌}
use Rattle.std.specs.List.{list_all}
use Rattle.verdict_lists.specs.Statuses.{is_expected, is_skipped, is_unexpected}
use Rattle.verdict_lists.specs.World.{results_at}
use Rattle.std.proofs.Common.{get_or, [], ◌∷◌}
use Rattle.verdict_lists.proofs.TallyLemmas.{all_more}
use Rattle.verdict_lists.proofs.status.tally_of.Goals as goal

pub loop-place-preserved : goal.loop-place-preserved
loop-place-preserved c =
    let rows = c.args.rows.now in
    let places = c.args.places.now in
    let i = c.loop-place.place-index in
    let e = c.tally_with-tally.ensures in
    record {
      unexpected = e.unexpected ∙ ap (λ b. b && list_all is_unexpected (results_at rows (get_or places i 0 ∷ []))) c.loop-place.invariant.unexpected
          ∙ sym (all_more is_unexpected rows places i c.loop-place-test.true);
      skipped = e.skipped ∙ ap (λ b. b && list_all is_skipped (results_at rows (get_or places i 0 ∷ []))) c.loop-place.invariant.skipped
          ∙ sym (all_more is_skipped rows places i c.loop-place-test.true);
      expected = e.expected ∙ ap (λ b. b && list_all is_expected (results_at rows (get_or places i 0 ∷ []))) c.loop-place.invariant.expected
          ∙ sym (all_more is_expected rows places i c.loop-place-test.true);
    }
