use Rattle.std.proofs.Common.{List, ℕ, ◌++◌, get_or, sym, ap, ◌∙◌, append-nil, append_assoc}
use Rattle.name_parts.specs.Escapes.{spelling}
use Rattle.name_parts.proofs.SpellingLemmas.{escaped-nil, escaped-more}
use Rattle.name_parts.proofs.escapes.append_spellings.Goals as goal

pub loop-byte-init : goal.loop-byte-init
loop-byte-init c = sym (append-nil c.args.out.now.items) ∙ ap (λ (t : List ℕ). c.args.out.now.items ++ t) (sym escaped-nil)

pub loop-byte-preserved : goal.loop-byte-preserved
loop-byte-preserved c =
    c.in_ok-append_spelling.ensures.ok ∙ ap (λ (t : List ℕ). t ++ spelling (get_or c.args.bytes.now c.loop-byte.byte-index 0)) c.loop-byte.invariant
    ∙ append_assoc c.args.out.now.items _ _ ∙ ap (λ (t : List ℕ). c.args.out.now.items ++ t) (sym (escaped-more c.args.bytes.now c.loop-byte.byte-index c.loop-byte-test.true))
