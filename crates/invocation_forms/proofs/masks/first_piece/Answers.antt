use Rattle.std.proofs.Common.{◌+◌, ◌-◌, ◌<◌, ◌≤◌, ◌==◌, length, drop, length-drop, arith}
use Rattle.std.specs.List.{position_or_len}
use Rattle.std.proofs.lemmas.List.{take_all}
use Rattle.std.proofs.lemmas.List.Splits.{slice_split_first}
use Rattle.invocation_forms.proofs.MaskLaws.{last_piece}
use Rattle.invocation_forms.proofs.masks.first_piece.Goals as goal

pub returns-then-end-text-clause-first : goal.returns-then-end-text-clause-first
returns-then-end-text-clause-first c =
    let text = c.args.text.now in
    let end = c.len_before-end.result in
    let place = c.len_before-end.ensures.place in
    let within : position_or_len (λ b. b == 44) text < length text = omega (arith, place) in
    rw (take_all (length text - (end + 1)) (drop (end + 1) text) (omega (arith, length-drop (end + 1) text)), place) (slice_split_first (λ b. b == 44) text 0 within)

pub returns-else-end-text-clause-first : goal.returns-else-end-text-clause-first
returns-else-end-text-clause-first c =
    let place = c.len_before-end.ensures.place in
    let beyond : length c.args.text.now ≤ position_or_len (λ b. b == 44) c.args.text.now = omega (arith, place) in
    last_piece c.args.text.now beyond
