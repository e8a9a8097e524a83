use Rattle.std.proofs.Common.{◌≡◌, ◌∷◌, ◌++◌, take, ◌∙◌}
use Rattle.std.specs.Fmt.{decimal}
use Rattle.report_ids.proofs.DigitLemmas.{numbered_is_id}
use Rattle.report_ids.proofs.digests.ReportDigest.result_id.Goals as goal

pub unreachable-requires : goal.unreachable-requires
unreachable-requires c =
    let digits = c.self.inside.text in
    let is : c.as_slice.result.now ≡ take 8 digits ++ 45 ∷ decimal c.args.number = c.as_slice.ensures.value ∙ c.in_ok-text.ensures in
    c.in-Err.ensures.refused c.in_default.not-Memory (rw is (numbered_is_id digits c.args.number c.self.invariant.0 c.self.invariant.1 c.ranges.number.fits))
