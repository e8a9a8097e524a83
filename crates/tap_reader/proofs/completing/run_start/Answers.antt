use Rattle.std.proofs.Common.{◌≡◌, [], sym, ap, ◌∙◌, drop, map, arith}
use Rattle.tap_reader.specs.Entries.{line_of}
use Rattle.tap_reader.specs.Completing.{at_level}
use Rattle.tap_reader.proofs.RunLemmas.{own_run, run_from}
use Rattle.tap_reader.proofs.completing.run_start.Goals as goal

pub returns-else-entries-start-clause-own : goal.returns-else-entries-start-clause-own
returns-else-entries-start-clause-own c =
    run_from c.args.entries.now c.args.level c.loop-start.start _ c.loop-start-test.true c.loop-start.invariant.within c.if-entries-start.false c.loop-start.invariant.levels

pub returns-after-loop-start-clause-own : goal.returns-after-loop-start-clause-own
returns-after-loop-start-clause-own c =
    let es = c.args.entries.now in
    let level = c.args.level in
    let zero : c.loop-start.start ≡ 0 = omega arith in
    let all : map line_of (drop c.loop-start.start es) ≡ map line_of es = ap (λ k. map line_of (drop k es)) zero in
    own_run level [] (map line_of es) (rw all at c.loop-start.invariant.levels) ∙ ap (at_level level) (sym all)
