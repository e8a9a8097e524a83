use Rattle.std.proofs.Common.{◌≡◌, ◌+◌, ◌-◌, ℕ, List, true, false, refl, sym, ap, subst, ◌∙◌, arith}
use Rattle.permissions.specs.Graph.{edges}
use Rattle.permissions.specs.Rights.{IsLooked, binds_user}
use Rattle.permissions.proofs.AskLemmas.{looked_first, looked_on, looked_past, none_bound, one_bound}
use Rattle.permissions.proofs.ranked.Ranked.walk.Goals as goal

pub loop-left-init : goal.loop-left-init
loop-left-init c =
    let r = c.args.self.now in
    record {
      len = refl;
      left = omega arith;
      looked = looked_first r.rows.items (binds_user r c.args.ask.user c.args.ask.permission) c.args.start c.args.marks.now c.requires.marks;
    }

pub returns-then-binds_at : goal.returns-then-binds_at
returns-then-binds_at c =
    let r = c.args.self.now in (
      λ _. one_bound r.rows.items (binds_user r c.args.ask.user c.args.ask.permission) c.args.start c.loop-left.left (c.loop-left.left - 1) c.loop-left.marks c.loop-left.invariant.looked
          c.if-marks-left.true (sym c.binds_at.ensures ∙ c.if-binds_at.true),
      λ _. refl,
    )

pub loop-left-preserved-then-marks-left : goal.loop-left-preserved-then-marks-left
loop-left-preserved-then-marks-left c =
    let r = c.args.self.now in
    let bound = binds_user r c.args.ask.user c.args.ask.permission in
    let back : IsLooked r.rows.items bound c.args.start (c.loop-left.left - 1 + 1) c.loop-left.marks =
    subst (λ (n : ℕ). IsLooked r.rows.items bound c.args.start n c.loop-left.marks) (omega arith) c.loop-left.invariant.looked in
    record {
      len = c.mark_all.ensures.len ∙ c.loop-left.invariant.len;
      left = omega (arith, c.loop-left.invariant.left);
      looked =
          looked_on r.rows.items bound c.args.start (c.loop-left.left - 1) c.loop-left.marks back c.mark_all.new.marks c.edges_of.result.now c.requires.falling
          (omega (arith, c.loop-left.invariant.left, c.requires.start, c.loop-left.invariant.len)) c.mark_all.ensures.len
          (c.edges_of.ensures ∙ ap (λ (rows : List (List ℕ)). edges rows (c.loop-left.left - 1)) c.as_slice.ensures.value) c.mark_all.ensures.marks c.if-marks-left.true
          (sym c.binds_at.ensures ∙ c.if-binds_at.false);
    }

pub loop-left-preserved : goal.loop-left-preserved
loop-left-preserved c =
    let r = c.args.self.now in
    let bound = binds_user r c.args.ask.user c.args.ask.permission in
    let back : IsLooked r.rows.items bound c.args.start (c.loop-left.left - 1 + 1) c.loop-left.marks =
    subst (λ (n : ℕ). IsLooked r.rows.items bound c.args.start n c.loop-left.marks) (omega arith) c.loop-left.invariant.looked in
    record {
      len = c.loop-left.invariant.len;
      left = omega (arith, c.loop-left.invariant.left);
      looked = looked_past r.rows.items bound c.args.start (c.loop-left.left - 1) c.loop-left.marks back c.if-marks-left.false;
    }

pub returns : goal.returns
returns c =
    let r = c.args.self.now in
    let bound = binds_user r c.args.ask.user c.args.ask.permission in
    let ended : c.loop-left.left ≡ 0 = omega (arith, c.loop-left-test.false) in
    let looked : IsLooked r.rows.items bound c.args.start 0 c.loop-left.marks =
    subst (λ (n : ℕ). IsLooked r.rows.items bound c.args.start n c.loop-left.marks) ended c.loop-left.invariant.looked in
    (λ no. let f : false ≡ true = no in absurd cc, λ w. absurd (none_bound r.rows.items bound c.args.start c.loop-left.marks looked w))
