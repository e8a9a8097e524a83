use Rattle.std.proofs.Common.{sym, ap, subst, ◌∙◌, arith}
use Rattle.junit_parts.specs.Tags.{are_distinct}
use Rattle.junit_parts.proofs.TagLemmas.{HasNames, name_held, name_is_new, name_repeats, negated, denied, none_left, nothing_held}
use Rattle.junit_parts.proofs.tags.are_distinct.Goals as goal

pub loop-at-init : goal.loop-at-init
loop-at-init c =
    let none = none_left c.args.attributes.now in
    record {
      within = omega arith;
      distinct = ap are_distinct none;
      names = subst (HasNames c.new-behind.result) (sym none) (nothing_held c.new-behind.result c.new-behind.ensures.empty);
    }

pub returns-then-not-branch : goal.returns-then-not-branch
returns-then-not-branch c =
    let at = c.loop-at in
    sym (name_repeats at.behind c.args.attributes.now at.at _ c.loop-at-test.true at.invariant.within at.invariant.names
    (negated _ (sym c.in_ok-insert.ensures.added ∙ c.if-not-branch.true)))

pub loop-at-preserved : goal.loop-at-preserved
loop-at-preserved c =
    let at = c.loop-at in
    let attributes = c.args.attributes.now in
    record {
      within = omega arith;
      distinct = name_is_new at.behind attributes at.at _ c.loop-at-test.true at.invariant.within at.invariant.names at.invariant.distinct
          (denied _ (sym c.in_ok-insert.ensures.added ∙ c.if-not-branch.false));
      names = name_held at.behind c.insert.new.self attributes at.at _ c.loop-at-test.true at.invariant.within at.invariant.names c.in_ok-insert.ensures.updates.0;
    }
