use Rattle.std.proofs.Common.{◌≡◌, length, take, drop, true, false, nat_eq, sym, ap, ◌∙◌}
use Rattle.std.specs.List.{starts_with}
use Rattle.junit_parts.proofs.ByteLemmas.{found_at, not_at, never}
use Rattle.junit_parts.proofs.bytes.parted_at.Goals as goal

pub returns-then-starts_with-clause-parted : goal.returns-then-starts_with-clause-parted
returns-then-starts_with-clause-parted c =
    let at = c.loop-at.at in
    let bytes = c.args.bytes.now in
    let mark = c.args.mark.now in
    let is : starts_with nat_eq (drop at bytes) mark ≡ true = ap (λ r. starts_with nat_eq r mark) (sym c.split_at.ensures.back) ∙ sym c.starts_with.ensures.value ∙ c.if-starts_with.true in
    let front : c.split_at.result.0.now ≡ take at bytes = c.split_at.ensures.front in
    let behind : c.split_at-then-starts_with.result.1.now ≡ drop (length mark) (drop at bytes) = c.split_at-then-starts_with.ensures.back ∙ ap (drop (length mark)) c.split_at.ensures.back in
    rw (front, behind) (found_at mark at bytes c.loop-at-test.true c.loop-at.invariant is)

pub loop-at-preserved : goal.loop-at-preserved
loop-at-preserved c =
    let at = c.loop-at.at in
    let bytes = c.args.bytes.now in
    let mark = c.args.mark.now in
    let is : starts_with nat_eq (drop at bytes) mark ≡ false = ap (λ r. starts_with nat_eq r mark) (sym c.split_at.ensures.back) ∙ sym c.starts_with.ensures.value ∙ c.if-starts_with.false in
    not_at mark at bytes c.loop-at-test.true c.loop-at.invariant is

pub returns-clause-parted : goal.returns-clause-parted
returns-clause-parted c = never c.args.mark.now c.loop-at.at c.args.bytes.now c.loop-at-test.false c.loop-at.invariant
