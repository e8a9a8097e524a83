use Rattle.std.proofs.Common.{rules}
use Rattle.request_rules.proofs.PlaceLaws.{missing_later}
use Rattle.request_rules.proofs.locating.first_missing_of.Goals as goal

pub loop-at-preserved : goal.loop-at-preserved
loop-at-preserved c = λ rows are found rest.
    c.loop-at.invariant rows are found
    (missing_later rows c.args.ids.now c.args.places.now c.loop-at.at c.loop-at-test.true are (search rules) found rest)
