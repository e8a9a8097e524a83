use Rattle.std.proofs.Common.{◌≡◌, ◌++◌, ◌∷◌, [], take, refl, sym, ap, ◌∙◌}
use Rattle.tap_reader.specs.MessageWords.{parted}
use Rattle.tap_reader.proofs.MessageLemmas.{take_both}
use Rattle.tap_reader.proofs.messages.append_line.Goals as goal

pub returns-clause-front : goal.returns-clause-front
returns-clause-front c =
    let out = c.args.out.now.items in
    let line = c.args.line.now in
    let is : parted c.args.is_first line ≡ 10 ∷ line = rw c.if-is_first.false refl in
    let e : take 1024 (out ++ parted c.args.is_first line) ≡ take 1024 (c.append_front-2.new.out.items ++ line) =
    ap (λ p. take 1024 (out ++ p)) is ∙ sym (take_both 1024 out (10 ∷ []) line) ∙ ap (λ x. take 1024 (x ++ line)) (sym c.in_ok-append_front.ensures.front) in
    rw e c.append_front-3.ensures.front
