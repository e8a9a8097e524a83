use Rattle.std.specs.Borrow.{Bor}
use Rattle.std.specs.Prelude.{nat_lt, string_bytes}
use Rattle.artifacts.specs.declared.artifact.Artifact.{Artifact}
use Rattle.artifact_replies.proofs.ListTexts.{opened, rows_more, closed}
use Rattle.artifact_replies.proofs.listed.append_rows.Goals as goal

pub loop-i-init : goal.loop-i-init
loop-i-init c = opened (λ (b : Bor Artifact). b.now) c.args.rows.now (string_bytes c.args.out.now) (string_bytes c.append.new.out) c.in_ok-append.ensures

pub loop-i-preserved : goal.loop-i-preserved
loop-i-preserved c =
    rows_more (λ (b : Bor Artifact). b.now) c.args.rows.now c.loop-i.i c.index-rows-i.result _ _ _ _ c.loop-i-test.true c.index-rows-i.is c.loop-i.invariant
    c.in_ok-append_comma.ensures c.in_ok-append_line.ensures

pub returns : goal.returns
returns c =
    closed (λ (b : Bor Artifact). b.now) c.args.rows.now c.loop-i.i (nat_lt 0 c.loop-i.i) (string_bytes c.loop-i.out) _ _ c.loop-i-test.false c.loop-i.invariant c.in_ok-append-2.ensures
