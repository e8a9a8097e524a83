use Rattle.std.proofs.Common.{◌≡◌, suc, ◌+◌, ◌-◌, ◌<◌, [], ◌∷◌, length, take, drop, sym, ap, ◌∙◌, arith, add-one}
use Rattle.std.proofs.lemmas.Bool.Decides.{nat_tests}
use Rattle.std.proofs.lemmas.List.{take_rest, drop_all}
use Rattle.tap_reader.specs.Lines.{lines}
use Rattle.tap_reader.proofs.LineLemmas.{line_len, line_len_is, first_line, last_lines}
use Rattle.tap_reader.proofs.lines.split_line.Goals as goal

pub returns-then-end-text-clause-lines : goal.returns-then-end-text-clause-lines
returns-then-end-text-clause-lines c =
    let text = c.args.text.now in
    let end = c.len_before-end.result in
    let n : line_len text ≡ length text = line_len_is text ∙ sym c.len_before-end.ensures.place ∙ c.if-end-text.true in
    let some : 0 < length text = grind (arith, nat_tests, c.is_empty.ensures, c.if-is_empty.false) in
    let none : take (length text - end) (drop end text) ≡ [] = take_rest text end ∙ drop_all end text (omega arith) in
    last_lines text some n ∙ sym (ap (λ xs. text ∷ lines xs) none)

pub returns-clause-lines : goal.returns-clause-lines
returns-clause-lines c =
    let text = c.args.text.now in
    let end = c.len_before-end.result in
    let n : line_len text ≡ end = line_len_is text ∙ sym c.len_before-end.ensures.place in
    let less : line_len text < length text = grind (arith, c.if-end-text.false, c.len_before-end.ensures.within) in
    let rest : take (length text - (end + 1)) (drop (end + 1) text) ≡ drop (suc end) text = take_rest text (end + 1) ∙ ap (λ k. drop k text) (add-one end) in
    first_line text less ∙ rw (n, rest) (ap (λ x. x ∷ lines (drop (suc end) text)) (sym c.without_return_of.ensures))
