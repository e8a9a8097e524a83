use Rattle.std.proofs.Common.{◌≡◌, ◌+◌, ℕ, List, ◌++◌, drop, length, arith, refl, sym, ap, ◌∙◌}
use Rattle.std.proofs.lemmas.List.{take-append-drop, take_all}
use Rattle.http_wire.specs.Scan.{head_end, scan, after_step}
use Rattle.http_wire.proofs.ScanLaws.{scan_next}
use Rattle.http_wire.proofs.head_scan.search_on.Goals as goal
use Rattle.http_wire.proofs.head_scan.search_on.Goals.{in-To, in-EndsLine}

pub loop-i-init : goal.loop-i-init
loop-i-init c = record { few = c.requires.passed.few; goes = c.requires.passed.goes }

pub returns-in-EndsHead : goal.returns-in-EndsHead
returns-in-EndsHead c =
    let i = c.loop-i.i in
    let bytes = c.args.bytes.now in
    let at = scan_next c.loop-i.place i c.loop-i.lines bytes i (drop (i + 1) bytes) c.loop-i-test.true c.loop-i.invariant.goes in
    ap head_end (sym (take-append-drop (i + 1) bytes)) ∙ at ∙ rw (sym c.next_step.ensures) (rw c.in-EndsHead.is)

pub loop-i-preserved : goal.loop-i-preserved
loop-i-preserved c =
    let on = λ (rest : List ℕ).
    scan_next c.loop-i.place c.loop-i.i c.loop-i.lines c.args.bytes.now c.loop-i.i rest c.loop-i-test.true c.loop-i.invariant.goes
    ∙ ap (λ s. after_step s c.loop-i.i c.loop-i.lines (λ q m j. scan q m j rest)) (sym c.next_step.ensures) in
    let few = c.loop-i.invariant.few in
    elim c.match-next_step.branch [
      | in-To w ↦ record { few = omega arith; goes = λ rest. rw (w.place-is, w.lines-is) (on rest ∙ rw w.in-To.is) }
      | in-EndsLine w ↦ record { few = omega arith; goes = λ rest. rw (w.place-is, w.lines-is) (on rest ∙ rw w.in-EndsLine.is) }
    ]

pub returns : goal.returns
returns c =
    let whole : c.loop-i.i ≡ length c.args.bytes.now = omega arith in
    let all = take_all c.loop-i.i c.args.bytes.now (omega arith) in
    record {
      scanned = refl;
      few = omega (arith, c.loop-i.invariant.few);
      goes = λ rest. ap (λ x. head_end (x ++ rest)) (sym all) ∙ c.loop-i.invariant.goes rest ∙ ap (λ n. scan c.loop-i.place n c.loop-i.lines rest) whole;
    }
