use Rattle.std.proofs.Common.{◌≡◌, ◌≤◌, ◌+◌, ◌-◌, true, false, length, take, sym, ap, ◌∙◌, arith}
use Rattle.std.specs.List.{count_by}
use Rattle.std.proofs.lemmas.Option.{get_or_from_slice_get}
use Rattle.verdict_lists.specs.declared.verdict.Verdict.{Verdict}
use Rattle.verdict_lists.specs.Verdicts.{is_like}
use Rattle.verdict_lists.specs.World.{world_of}
use Rattle.verdict_lists.proofs.NumberLemmas.{last_count, last_rise, last_small, last_split, like_last, unlike_last}
use Rattle.verdict_lists.proofs.orders.ordinal_at.Goals as goal

pub overflow_add-result : goal.overflow_add-result
overflow_add-result c =
    let small = last_small (world_of c.args.view.now) c.args.verdicts.now c.args.at c.index-verdicts-at.result c.if-at-eq0.false
    (omega (arith, c.requires.within)) c.index-verdicts-at.is c.requires.before in
    omega (arith, small, c.requires.within, c.requires.few)

pub returns-then-is_like : goal.returns-then-is_like
returns-then-is_like c verdict there =
    let world = world_of c.args.view.now in
    let xs = c.args.verdicts.now in
    let at = c.args.at in
    let u = c.index-verdicts-at.result in
    let v = c.index-verdicts-at-2.result in
    let within : at ≤ length xs = omega (arith, c.requires.within) in
    let like : is_like world u v ≡ true = sym c.is_like.ensures ∙ c.if-is_like.true in
    let same : v ≡ verdict = c.index-verdicts-at-2.is ∙ get_or_from_slice_get xs at verdict v there in
    ap (λ n. n + 1) (last_count world xs at u c.if-at-eq0.false within c.index-verdicts-at.is c.requires.before)
    ∙ sym (like_last world (take (at - 1) xs) u v like)
    ∙ ap (count_by (is_like world v)) (sym (last_split xs at u c.if-at-eq0.false within c.index-verdicts-at.is))
    ∙ ap (λ (w : Verdict). count_by (is_like world w) (take at xs)) same

pub returns-else-is_like : goal.returns-else-is_like
returns-else-is_like c verdict there =
    let world = world_of c.args.view.now in
    let xs = c.args.verdicts.now in
    let at = c.args.at in
    let u = c.index-verdicts-at.result in
    let v = c.index-verdicts-at-2.result in
    let within : at ≤ length xs = omega (arith, c.requires.within) in
    let unlike : is_like world u v ≡ false = sym c.is_like.ensures ∙ c.if-is_like.false in
    let same : v ≡ verdict = c.index-verdicts-at-2.is ∙ get_or_from_slice_get xs at verdict v there in
    sym (unlike_last world (take (at - 1) xs) u v
    (last_rise world xs at u v c.if-at-eq0.false c.requires.within c.index-verdicts-at.is c.index-verdicts-at-2.is c.requires.rise) unlike)
    ∙ ap (count_by (is_like world v)) (sym (last_split xs at u c.if-at-eq0.false within c.index-verdicts-at.is))
    ∙ ap (λ (w : Verdict). count_by (is_like world w) (take at xs)) same
