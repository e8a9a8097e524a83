use Rattle.std.proofs.Common.{◌≡◌, ◌-◌, ◌++◌, List, ℕ, length, take, drop, sym, ap, ◌∙◌, arith}
use Rattle.std.proofs.lemmas.List.{take_all, length-drop}
use Rattle.name_parts.proofs.SequenceLemmas.{begins_with}
use Rattle.name_parts.proofs.sequences.rest_behind.Goals as goal

pub returns-then-at-literal-clause-ok : goal.returns-then-at-literal-clause-ok
returns-then-at-literal-clause-ok c =
    let text = c.args.text.now in
    let literal = c.args.literal.now in
    let at = c.common_len-at.result in
    let rest : take (length text - at) (drop at text) ≡ drop at text = take_all (length text - at) (drop at text) (omega (arith, length-drop at text)) in
    let whole = begins_with text literal (sym c.common_len-at.ensures.value ∙ c.if-at-literal.true) in
    whole ∙ ap (λ n. literal ++ drop n text) (sym c.if-at-literal.true) ∙ ap (λ (r : List ℕ). literal ++ r) (sym rest)
