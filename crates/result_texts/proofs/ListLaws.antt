-- The object whose one member is a list, and lists of tags.
use Rattle.std.proofs.Common.{◌≡◌, ℕ, List, [], ◌∷◌, ◌++◌, refl, sym}
use Rattle.json.specs.Print.{print}
use Rattle.json.specs.Token.{begin_object, end_object}
use Rattle.json.specs.Written.{Written}
use Rattle.serde_json.specs.Data.{Data, object, no_members}
use Rattle.serde_json.specs.Written.{compact_text}
use Rattle.json_fields.specs.Names.{NameForm}
use Rattle.json_fields.specs.Writing.{put_list}
use Rattle.json_fields.specs.NamesRealms.declared.pairs.Pair.{Pair}
use Rattle.result_forms.specs.Shown.{tags_shown}
use Rattle.token_texts.specs.Shown.{pair_data}
use Rattle.token_texts.specs.Tokens.{tokens_of, member_tokens, list_shown, IsAdded}
use Rattle.token_texts.proofs.TextLaws.{text_done}
use Rattle.token_texts.proofs.TokenLaws.{added_as}

pub shown_list : (tags : List Pair) → list_shown pair_data tags ≡ tags_shown tags
shown_list [] = refl
shown_list (tag ∷ tags) = refl

batch_tokens : {A : Type 0} (n : NameForm) (json : A → Data) (xs : List A)
    → tokens_of (object (put_list n json xs no_members)) ≡ begin_object ∷ (member_tokens n.camel (list_shown json xs) ++ end_object ∷ [])
batch_tokens n json [] = refl
batch_tokens n json (x ∷ xs) = refl

pub batch_done : {A : Type 0} (n : NameForm) (json : A → Data) (xs : List A) (text whole : List ℕ) (first last : Written) → first.before ≡ text → first.tokens ≡ []
    → IsAdded first last (begin_object ∷ (member_tokens n.camel (list_shown json xs) ++ end_object ∷ [])) → whole ≡ last.before ++ print last.tokens
    → whole ≡ text ++ compact_text (object (put_list n json xs no_members))
batch_done n json xs text whole first last before none done is =
    text_done (object (put_list n json xs no_members)) text whole first last before none (added_as (sym (batch_tokens n json xs)) done) is
