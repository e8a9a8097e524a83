-- Page tokens of a query, as a lawful kind.
use Rattle.std.proofs.Common.{◌≡◌, ◌+◌, ℕ, cond, Bool, true, false, List, [], ◌∷◌, ◌++◌, length, drop, Option, Some, None, option_map, Ok, refl, sym, ap, subst, ◌∙◌, arith}
use Rattle.std.specs.Prelude.{nat_eq}
use Rattle.std.specs.List.{starts_with, flat_map}
use Rattle.std.specs.Option.{option_or}
use Rattle.std.specs.Str.{IsUtf8}
use Rattle.sha2.proofs.Facts256.{length-sha256}
use Rattle.base64.specs.Engines.{standard}
use Rattle.base64.specs.GeneralPurpose.{encode_of, decoded_of, IsBytes}
use Rattle.base64.proofs.EngineFacts.{encode_of-nil}
use Rattle.page_tokens.specs.declared.faults.TokenFault.TheVariants.{BadForm, OtherQuery}
use Rattle.page_tokens.specs.declared.kinds.ArtifactCursor.{ArtifactCursor}
use Rattle.page_tokens.specs.Cursors.{artifact_parts, artifact_contents}
use Rattle.page_tokens.specs.Keys.{AreContents, key_bytes}
use Rattle.page_tokens.specs.Tokens.{IsToken, bytes_fault, decoded_fault, front_place, line, query_hash, rest_place}
use Rattle.page_tokens.proofs.TokenLemmas.{encoded_fault, no_fault, one_told, only_tokens}
use Rattle.form_fields.specs.Fields.{Kind}
use Rattle.form_fields.specs.Kinds.{string_kind}
use Rattle.form_fields.specs.Laws.{IsLawfulKind}
use Rattle.form_fields.proofs.TextLaws.{string_lawful}
use Rattle.artifact_forms.specs.Tokens.{list_query, told, token_why, Tells, token_text}
use Rattle.artifact_forms.proofs.DecodedBytes.{decoded_are}
use Rattle.artifact_forms.proofs.FieldLaws.{decodes}

query_size : (method : List ℕ) (names : List (List ℕ)) → length (query_hash method names) ≡ 32
unfolding query_hash
query_size method names = length-sha256 (flat_map line (method ∷ names))

pub list_query_size : (parent : List ℕ) → length (list_query parent) ≡ 32
list_query_size parent = query_size _ (parent ∷ [])

-- ---- one place at most

tells_one : (query text : List ℕ) (c d : ArtifactCursor) → Tells query text c → Tells query text d → c ≡ d
tells_one query text c d h k =
    let both = one_told query query 3 artifact_parts (artifact_contents c) (artifact_contents d) text refl h k in
    let same : c.artifact ∷ [] ≡ d.artifact ∷ [] = both.1 in
    let one : c.artifact ≡ d.artifact = cc in
    λ i. record { artifact = one i }

-- the text of a place has no fault
pub told_right : (query text : List ℕ) (c : ArtifactCursor) → length query ≡ 32 → Tells query text c → token_why query text ≡ None
told_right query text c size is = ap told (no_fault query 3 artifact_parts (artifact_contents c) text size is)

-- ---- a text without a fault tells a place

untold_bytes : (p : Option ℕ) (t : Bool) (r : Option ℕ)
    → told (option_or (option_map BadForm p) (option_or (cond t None (Some OtherQuery)) (option_map (λ n. BadForm (33 + n)) r))) ≡ None
    → option_or (option_map BadForm p) (option_or (cond t None (Some OtherQuery)) (option_map (λ n. BadForm (33 + n)) r)) ≡ None
untold_bytes (Some n) t r e = absurd cc
untold_bytes None false r e = absurd cc
untold_bytes None true (Some n) e = absurd cc
untold_bytes None true None e = refl

no_bytes_fault : (query bytes : List ℕ) → told (bytes_fault query 3 artifact_parts bytes) ≡ None → bytes_fault query 3 artifact_parts bytes ≡ None
unfolding bytes_fault
no_bytes_fault query bytes e =
    untold_bytes (front_place bytes) (starts_with nat_eq (drop 1 bytes) query) (rest_place 3 artifact_parts (drop 33 bytes)) e

held : (contents : List (List ℕ)) → AreContents artifact_parts contents → (c : ArtifactCursor) × (artifact_contents c ≡ contents)
held [] are = absurd are
held (id ∷ []) are = (record { artifact = id }, refl)
held (id ∷ more ∷ rest) are = absurd (are.1)

told_place : (query text : List ℕ) (o : Option (List ℕ)) → length query ≡ 32 → IsUtf8 text → decoded_of standard text ≡ o
    → told (decoded_fault query 3 artifact_parts o) ≡ None → (c : ArtifactCursor) × Tells query text c
told_place query text None size utf8 e h = absurd cc
told_place query text (Some bytes) size utf8 e h =
    let are = decoded_are text bytes utf8 e in
    let none : bytes_fault query 3 artifact_parts bytes ≡ None = no_bytes_fault query bytes h in
    let token = only_tokens query 3 artifact_parts bytes size are.0 (encoded_fault query 3 artifact_parts bytes are.0 ∙ none) in
    let has = held token.0 token.1.are in
    let whole : IsToken query 3 artifact_parts (artifact_contents has.0) (encode_of standard bytes) =
    subst (λ (contents : List (List ℕ)). IsToken query 3 artifact_parts contents (encode_of standard bytes)) (sym has.1) token.1 in
    (has.0, subst (λ (t : List ℕ). Tells query t has.0) (sym are.1) whole)

-- ---- the kind

no_encoding : (b : ℕ) (bytes : List ℕ) → IsBytes (b ∷ bytes) → [] ≡ encode_of standard (b ∷ bytes) → ⊥
no_encoding b bytes are e =
    let both : Ok (b ∷ bytes) ≡ Ok [] = sym (decodes [] (b ∷ bytes) e are) ∙ decodes [] [] (sym (encode_of-nil standard)) (λ i. omega arith) in
    absurd cc

abbrev pub token_kind : List ℕ → Kind ArtifactCursor
token_kind query = string_kind (token_why query) (Tells query) (λ c. Tells query (token_text query c) c) (token_text query)

pub token_lawful : (query : List ℕ) → length query ≡ 32 → IsLawfulKind (token_kind query)
token_lawful query size =
    string_lawful (token_why query) (Tells query) (λ c. Tells query (token_text query c) c) (token_text query)
    (λ c is. no_encoding 1 (query ++ 3 ∷ key_bytes artifact_parts (artifact_contents c)) is.bytes is.spelling)
    (tells_one query)
    (λ s utf8 none. told_place query s (decoded_of standard s) size utf8 refl none)
    (λ s c is. subst (λ (t : List ℕ). Tells query t c) is.spelling is)
    (λ c is. (told_right query (token_text query c) c size is, is))
