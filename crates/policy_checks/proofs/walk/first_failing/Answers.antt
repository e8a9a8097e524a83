use Rattle.std.proofs.Common.{None, ap, ◌∙◌}
use Rattle.policy_checks.specs.Spots.{all_spots, with_spots}
use Rattle.policy_checks.proofs.SpotLemmas.{with_spots-failing}
use Rattle.policy_checks.proofs.walk.first_failing.Goals as goal

pub returns : goal.returns
returns c =
    let t = c.args.book.now in
    c.into_least.ensures
    ∙ c.in_ok-look_at_tables.ensures
    ∙ ap (λ least. with_spots t c.args.check least (all_spots t)) c.new-notes.ensures.least
    ∙ with_spots-failing t c.args.check None (all_spots t)
