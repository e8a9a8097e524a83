-- A text that a writer was handed, with the text of a value behind it.
use Rattle.std.proofs.Common.{◌≡◌, ℕ, List, [], ◌++◌, ap, ◌∙◌}
use Rattle.json.specs.Print.{print}
use Rattle.json.specs.Token.{Token}
use Rattle.json.specs.Written.{Written}
use Rattle.serde_json.specs.Data.{Data}
use Rattle.serde_json.specs.Written.{compact_text}
use Rattle.serde_json.proofs.Texts.{print-outline}
use Rattle.token_texts.specs.Tokens.{tokens_of, IsAdded}

pub text_done : (d : Data) (text whole : List ℕ) (first last : Written) → first.before ≡ text → first.tokens ≡ [] → IsAdded first last (tokens_of d)
    → whole ≡ last.before ++ print last.tokens → whole ≡ text ++ compact_text d
text_done d text whole first last before none done is =
    let tokens : last.tokens ≡ tokens_of d = done.tokens ∙ ap (λ (ts : List Token). ts ++ tokens_of d) none in
    is ∙ ap (λ (old : List ℕ). old ++ print last.tokens) (done.before ∙ before) ∙ ap (λ (ts : List Token). text ++ print ts) tokens ∙ ap (λ (t : List ℕ). text ++ t) (print-outline d)
