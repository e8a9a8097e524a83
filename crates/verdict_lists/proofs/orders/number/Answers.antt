use Rattle.std.proofs.Common.{◌≡◌, ◌<◌, List, Some, length, take, get_or, sym, ap, ◌∙◌, subst, arith}
use Rattle.std.specs.List.{count_by, slice_get}
use Rattle.std.proofs.lemmas.List.{get_or_default, length-map}
use Rattle.std.proofs.lemmas.Option.{slice_get-get_or}
use Rattle.verdict_lists.specs.declared.verdict.Verdict.{Verdict}
use Rattle.verdict_lists.specs.Groups.{plain}
use Rattle.lists.specs.Orders.{IsRising}
use Rattle.verdict_lists.specs.Verdicts.{is_like, verdict_order}
use Rattle.verdict_lists.specs.World.{world_of}
use Rattle.verdict_lists.proofs.NumberLemmas.{numbered_set, plain_set, rising_plain}
use Rattle.verdict_lists.proofs.orders.number.Goals as goal

pub ordinal_at-ordinal-requires-clause-rise : goal.ordinal_at-ordinal-requires-clause-rise
ordinal_at-ordinal-requires-clause-rise c =
    let world = world_of c.args.view.now in
    subst (IsRising (verdict_order world)) (sym c.as_slice.ensures.value)
    (rising_plain world c.args.verdicts.now.items c.loop-at.verdicts.items c.loop-at.invariant.plain c.requires)

pub loop-at-preserved : goal.loop-at-preserved
loop-at-preserved c =
    let world = world_of c.args.view.now in
    let xs = c.loop-at.verdicts.items in
    let at = c.loop-at.at in
    let r = c.index_mut-verdict.result.now in
    let n = c.ordinal_at-ordinal.result in
    let v : Verdict = record { status = r.status; label = r.label; results = r.results; exonerations = r.exonerations; ordinal = n } in
    let same_len = ap length c.loop-at.invariant.plain in
    let within : at < length xs = omega (arith, same_len, length-map xs plain, length-map c.args.verdicts.now.items plain) in
    let is : r ≡ get_or xs at r = c.index_mut-verdict.ensures.value in
    let there : slice_get xs at ≡ Some r = slice_get-get_or xs at r within ∙ ap Some (sym is) in
    let counts : n ≡ count_by (is_like world r) (take at xs) =
    subst (λ (ys : List Verdict). (w : Verdict) → slice_get ys at ≡ Some w → n ≡ count_by (is_like world w) (take at ys)) c.as_slice.ensures.value c.ordinal_at-ordinal.ensures r there in
    record {
      plain = plain_set xs at v within (ap plain (is ∙ get_or_default xs at r v within)) ∙ c.loop-at.invariant.plain;
      numbered = numbered_set world xs at v within c.loop-at.invariant.numbered counts;
    }
