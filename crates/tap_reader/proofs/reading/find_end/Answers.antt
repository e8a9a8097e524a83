use Rattle.std.proofs.Common.{◌≡◌, true, false, [], ◌∷◌, ◌++◌, length, take, drop, refl, sym, ap, ◌∙◌, arith, codes, append-nil}
use Rattle.std.specs.Prelude.{Some, option_map}
use Rattle.tap_reader.specs.Lines.{lines}
use Rattle.tap_reader.specs.LineForms.{is_mark}
use Rattle.tap_reader.specs.Counted.{until_end}
use Rattle.tap_reader.proofs.ReadingLemmas.{drop_tail, take_push, map_in_front}
use Rattle.tap_reader.proofs.reading.find_end.Goals as goal

pub returns-then-is_mark_of-clause-body : goal.returns-then-is_mark_of-clause-body
returns-then-is_mark_of-clause-body c =
    let all = lines c.args.text.now in
    let level = c.args.level in
    let n = c.loop-line.count in
    let x = c.in-Some.line.now in
    let yes : is_mark (codes "...") level x ≡ true = sym c.is_mark_of.ensures ∙ c.if-is_mark_of.true in
    let here : until_end level (lines c.loop-line.rest.now) ≡ Some [] = ap (until_end level) c.in-Some.ensures.lines ∙ rw yes refl in
    c.loop-line.invariant.body ∙ ap (option_map (λ b. take n all ++ b)) here ∙ ap Some (append-nil (take n all))

pub returns-then-is_mark_of-clause-count : goal.returns-then-is_mark_of-clause-count
returns-then-is_mark_of-clause-count c =
    omega (arith, ap length c.in-Some.ensures.lines, c.loop-line.invariant.count)

pub returns-then-is_mark_of-clause-within : goal.returns-then-is_mark_of-clause-within
returns-then-is_mark_of-clause-within c =
    omega (arith, c.in-Some.ensures.shorter, c.loop-line.invariant.within)

pub returns-then-is_mark_of-clause-rest : goal.returns-then-is_mark_of-clause-rest
returns-then-is_mark_of-clause-rest c =
    let is = sym c.in-Some.ensures.lines ∙ c.loop-line.invariant.rest in
    drop_tail (lines c.args.text.now) c.loop-line.count c.in-Some.line.now (lines c.in-Some.behind.now) is

pub loop-line-preserved : goal.loop-line-preserved
loop-line-preserved c =
    let all = lines c.args.text.now in
    let level = c.args.level in
    let n = c.loop-line.count in
    let x = c.in-Some.line.now in
    let zs = lines c.in-Some.behind.now in
    let is : x ∷ zs ≡ drop n all = sym c.in-Some.ensures.lines ∙ c.loop-line.invariant.rest in
    let no : is_mark (codes "...") level x ≡ false = sym c.is_mark_of.ensures ∙ c.if-is_mark_of.false in
    let here : until_end level (lines c.loop-line.rest.now) ≡ option_map (λ b. x ∷ b) (until_end level zs) = ap (until_end level) c.in-Some.ensures.lines ∙ rw no refl in
    record {
      rest = drop_tail all n x zs is;
      body = c.loop-line.invariant.body ∙ ap (option_map (λ b. take n all ++ b)) here ∙ map_in_front (take n all) x (until_end level zs) ∙ ap (λ front. option_map (λ b. front ++ b) (until_end level zs)) (sym (take_push n all x zs is));
      within = omega (arith, c.in-Some.ensures.shorter);
      count = omega (arith, ap length c.in-Some.ensures.lines, c.loop-line.invariant.count);
    }
