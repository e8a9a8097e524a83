use Rattle.std.proofs.Common.{◌≡◌, ◌++◌, ◌<◌, true, false, length, sym, ap, subst, ◌∙◌}
use Rattle.std.specs.Prelude.{◌==◌}
use Rattle.std.proofs.lemmas.List.{nil_from_length}
use Rattle.junit_parts.specs.Bytes.{behind_white}
use Rattle.junit_reader.specs.Fronts.{IsKept}
use Rattle.junit_reader.proofs.FrontLemmas.{behind_both, behind_first, no_front, some_front}
use Rattle.junit_reader.proofs.own_text.OwnText.push.Goals as goal

pub returns-in_ok-grow : goal.returns-in_ok-grow
returns-in_ok-grow c = λ all is.
    let text = c.args.text.now in
    let empty : (length c.args.self.now.front.items == 0) ≡ true = ap (λ b. length b == 0) (sym c.as_slice.ensures.value) ∙ sym c.is_empty.ensures ∙ c.if-is_empty.true in
    let none : length (behind_white all) ≡ 0 = no_front c.args.self.now.front.items (behind_white all) is.bytes empty in
    let same : behind_white all ++ c.behind_white.result.now ≡ behind_white (all ++ text) =
    ap (λ t. t ++ c.behind_white.result.now) (nil_from_length (behind_white all) none) ∙ c.behind_white.ensures.value ∙ sym (behind_both all text none) in
    subst (λ t. IsKept c.grow.new.self t) same (c.in_ok-grow.ensures (behind_white all) is)

pub returns-in_ok-grow-2 : goal.returns-in_ok-grow-2
returns-in_ok-grow-2 c = λ all is.
    let text = c.args.text.now in
    let full : (length c.args.self.now.front.items == 0) ≡ false = ap (λ b. length b == 0) (sym c.as_slice.ensures.value) ∙ sym c.is_empty.ensures ∙ c.if-is_empty.false in
    let some : 0 < length (behind_white all) = some_front c.args.self.now.front.items (behind_white all) is.bytes full in
    subst (λ t. IsKept c.grow-else-is_empty.new.self t) (sym (behind_first all text some)) (c.in_ok-grow-2.ensures (behind_white all) is)
