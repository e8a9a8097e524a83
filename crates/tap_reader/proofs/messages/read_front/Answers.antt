use Rattle.std.proofs.Common.{◌≡◌, ◌≤◌, ◌++◌, ◌∷◌, [], length, take, drop, sym, ap, ◌∙◌, arith}
use Rattle.std.specs.Prelude.{◌==◌}
use Rattle.std.proofs.lemmas.List.{take_all, length-drop}
use Rattle.tap_reader.specs.Lines.{lines}
use Rattle.tap_reader.specs.MessageWords.{front_of, parted}
use Rattle.tap_reader.proofs.MessageLemmas.{front_push}
use Rattle.tap_reader.proofs.ReadingLemmas.{drop_tail}
use Rattle.tap_reader.proofs.messages.read_front.Goals as goal

pub loop-at-preserved : goal.loop-at-preserved
loop-at-preserved c =
    let all = lines c.args.diagnostic.now in
    let at = c.loop-at.at in
    let level = c.args.level in
    let line = c.in-Some.line.now in
    let rest = lines c.in-Some.behind.now in
    let is : line ∷ rest ≡ drop at all = sym c.in-Some.ensures.lines ∙ c.loop-at.invariant.rest in
    record {
      within = omega (arith, ap length is, length-drop at all);
      rest = drop_tail all at line rest is;
      front =
          c.in_ok-append_line-in-Some.ensures.front
          ∙ ap (λ x. take 1024 (x ++ parted (at == 0) c.unindent.result.now)) c.loop-at.invariant.front
          ∙ ap (λ x. take 1024 (front_of level (take at all) ++ parted (at == 0) x)) c.unindent.ensures
          ∙ front_push level at all line rest is c.loop-at.invariant.within;
      most = c.in_ok-append_line-in-Some.ensures.most;
    }

pub returns-in-None : goal.returns-in-None
returns-in-None c =
    let all = lines c.args.diagnostic.now in
    let at = c.loop-at.at in
    let none : drop at all ≡ [] = sym c.loop-at.invariant.rest ∙ ap lines c.in-None.ensures.lines in
    let end : length all ≤ at = omega (arith, ap length none, length-drop at all) in
    c.loop-at.invariant.front ∙ ap (front_of c.args.level) (take_all at all end ∙ sym (take_all c.args.count all (omega (arith, c.loop-at-test.true))))
