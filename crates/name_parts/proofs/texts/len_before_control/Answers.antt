use Rattle.std.proofs.Common.{◌≡◌, ◌-◌, false, length, take, drop, sym, ap, ◌∙◌, arith}
use Rattle.std.proofs.lemmas.List.{take_all, length-drop}
use Rattle.name_parts.specs.Parts.{begins_control}
use Rattle.name_parts.proofs.TextLemmas.{control_place-step}
use Rattle.name_parts.proofs.texts.len_before_control.Goals as goal

pub loop-at-preserved : goal.loop-at-preserved
loop-at-preserved c =
    let text = c.args.text.now in
    let at = c.loop-at.at in
    let rest : take (length text - at) (drop at text) ≡ drop at text = take_all (length text - at) (drop at text) (omega (arith, length-drop at text)) in
    let none : begins_control (drop at text) ≡ false = sym (ap begins_control rest) ∙ sym c.is_control_here.ensures ∙ c.if-not-is_control_here.true in
    (omega arith, omega (arith, control_place-step text at c.loop-at-test.true none, c.loop-at.invariant.1))
