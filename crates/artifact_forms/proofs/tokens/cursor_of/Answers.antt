use Rattle.std.proofs.Common.{ℕ, List, subst}
use Rattle.artifact_forms.specs.Tokens.{Tells}
use Rattle.artifact_forms.proofs.TokenLaws.{told_right}
use Rattle.artifact_forms.proofs.tokens.cursor_of.Goals as goal

pub returns-in-Ok-clause-ok : goal.returns-in-Ok-clause-ok
returns-in-Ok-clause-ok c =
    let is = subst (λ (t : List ℕ). Tells c.args.query.now t c.in-Ok.cursor) c.as_bytes.ensures.value c.in-Ok.ensures.ok in
    (told_right c.args.query.now c.args.text.now c.in-Ok.cursor c.as_slice-hash.ensures.len is, is)
