use Rattle.std.proofs.Common.{◌≡◌, ◌+◌, length, take, sym, ap, ◌∙◌, arith}
use Rattle.std.proofs.lemmas.List.{length-take-le}
use Rattle.tap_reader.specs.Lines.{lines}
use Rattle.tap_reader.specs.Counted.{counted, found_in, lines_found}
use Rattle.tap_reader.proofs.ReadingLemmas.{counted_pass, counted_all, lines_behind}
use Rattle.tap_reader.proofs.reading.take_point.Goals as goal

pub returns-in_ok-push-in-Whole-clause-rest : goal.returns-in_ok-push-in-Whole-clause-rest
returns-in_ok-push-in-Whole-clause-rest c =
    let ls = lines c.args.behind.now in
    let n = c.args.number + 1 in
    let count = c.in-Whole.lines in
    let body = take count (lines c.in-Whole.body.now) in
    let len : length body + 2 ≡ count + 2 = omega (arith, length-take-le count (lines c.in-Whole.body.now) c.in-Whole.ensures.1) in
    let found : lines_found (found_in c.args.level ls) ls ≡ count + 2 = ap (λ x. lines_found x ls) c.in-Whole.ensures.0 ∙ len in
    ap (counted (n + (count + 2)) 0) c.in-Whole.ensures.2 ∙ sym (counted_pass (count + 2) n ls) ∙ ap (λ k. counted n k ls) (sym found)

pub returns-in_ok-push-in-Endless-2-clause-rest : goal.returns-in_ok-push-in-Endless-2-clause-rest
returns-in_ok-push-in-Endless-2-clause-rest c =
    let ls = lines c.args.behind.now in
    let n = c.args.number + 1 in
    let found : lines_found (found_in c.args.level ls) ls ≡ length ls = ap (λ x. lines_found x ls) c.in-Endless.ensures in
    ap (counted n 0) (lines_behind c.args.behind.now) ∙ sym (counted_all n ls) ∙ ap (λ k. counted n k ls) (sym found)
