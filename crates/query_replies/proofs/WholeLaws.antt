-- A row that is seen whole is shown as the reply to its batch shows it.
use Rattle.std.proofs.Common.{◌≡◌, ℕ, List, [], ◌∷◌, length, take, Option, Some, refl, ap, ◌∙◌, arith}
use Rattle.std.specs.List.{flat_map}
use Rattle.serde_json.specs.Data.{Data, string}
use Rattle.hex.specs.Hex.{encode_lower, encode_with}
use Rattle.names_realms.specs.Variants.{label_of, pair_bytes}
use Rattle.names_realms.specs.declared.pairs.Pair.{Pair}
use Rattle.sha2.specs.Sha256.{sha256}
use Rattle.sha2.proofs.Facts256.{length-sha256}
use Rattle.form_fields.specs.Members.{object_of}
use Rattle.result_forms.specs.Names as field
use Rattle.result_forms.specs.Replies.{name_of_result}
use Rattle.result_forms.specs.Results.{result_members}
use Rattle.result_forms.specs.Shown.{text_shown, unless_empty}
use Rattle.result_forms.proofs.NameTextLaws.{label_utf8}
use Rattle.result_forms.proofs.ShownLaws.{as_text-utf8}
use Rattle.query_replies.specs.Laws.{WholeIsShownAsRecorded}

some_digits : (bs : List ℕ) → length bs ≡ 32 → take 16 (encode_lower bs) ≡ [] → ⊥
unfolding encode_with
some_digits [] size e = absurd (omega arith)
some_digits (b ∷ bs) size e = cc

some_label : (pairs : List Pair) → label_of pairs ≡ [] → ⊥
unfolding label_of
some_label pairs e = some_digits (sha256 (flat_map pair_bytes pairs)) (length-sha256 (flat_map pair_bytes pairs)) e

some_text : (text : List ℕ) → (text ≡ [] → ⊥) → unless_empty text ≡ Some (string text)
some_text [] some = absurd (some refl)
some_text (b ∷ bs) some = refl

label_shown : (pairs : List Pair) → text_shown (label_of pairs) ≡ Some (string (label_of pairs))
label_shown pairs = ap unless_empty (as_text-utf8 (label_of pairs) (label_utf8 pairs)) ∙ some_text (label_of pairs) (some_label pairs)

pub whole_as_recorded : WholeIsShownAsRecorded
whole_as_recorded id row =
    ap (λ (label : Option Data). object_of ((field.name, Some (string (name_of_result id row))) ∷ (field.variant_hash, label) ∷ result_members row)) (label_shown row.variant)
