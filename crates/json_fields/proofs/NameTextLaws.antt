-- The names of results, artifacts and what holds them are UTF-8, and so each is a text.
use Rattle.std.proofs.Common.{◌≡◌, ℕ, ◌<◌, ◌/◌, ◌%◌, if◌then◌else◌, nat_lt, Bool, true, false, List, [], ◌∷◌, codes, refl, arith}
use Rattle.std.specs.List.{list_all}
use Rattle.std.specs.Fmt.{digit_glyph}
use Rattle.std.specs.Str.{IsAscii, IsUtf8}
use Rattle.std.proofs.lemmas.Bool.Decides.{nat_tests}
use Rattle.std.proofs.lemmas.Str.{IsAscii-append, IsUtf8-append, IsUtf8-from_ascii}
use Rattle.std.proofs.lemmas.Str.Ascii.{IsAscii-nil, IsAscii-cons}
use Rattle.percent_encoding.specs.Percent.{percent_encode_byte}
use Rattle.names_realms.specs.NameParts.Escapes.{escaped, is_plain, spelling}
use Rattle.names_realms.proofs.NameParts.PartLemmas.{IsPart-utf8, ascii_literal}
use Rattle.names_realms.specs.declared.result_names.ResultName.{ResultName}
use Rattle.names_realms.specs.declared.parents.Parent.{Parent}
use Rattle.names_realms.specs.declared.parents.Parent.TheVariants.{Invocation, Result}
use Rattle.names_realms.specs.declared.artifact_names.ArtifactName.{ArtifactName}
use Rattle.names_realms.specs.ResultNames.{IsResultName, result_name}
use Rattle.names_realms.specs.Parents.{IsParentName, parent_name}
use Rattle.names_realms.specs.ArtifactNames.{IsArtifactName, artifact_name}

digit-ascii : (d : ℕ) → d < 16 → digit_glyph true d < 128
digit-ascii d few = grind (arith, nat_tests)

below-16 : (n : ℕ) → n % 16 < 16
below-16 n = omega arith

escape-ascii : (b : ℕ) → IsAscii (percent_encode_byte b)
unfolding percent_encode_byte
escape-ascii b =
    let low : digit_glyph true (b % 16) < 128 = digit-ascii (b % 16) (below-16 b) in
    let high : digit_glyph true (b / 16 % 16) < 128 = digit-ascii (b / 16 % 16) (below-16 (b / 16)) in
    let low_there = IsAscii-cons (digit_glyph true (b % 16)) [] low IsAscii-nil in
    let both_there = IsAscii-cons (digit_glyph true (b / 16 % 16)) (digit_glyph true (b % 16) ∷ []) high low_there in
    IsAscii-cons 37 (digit_glyph true (b / 16 % 16) ∷ digit_glyph true (b % 16) ∷ []) (omega arith) both_there

plain-ascii : (b : ℕ) → is_plain b ≡ true → b < 128
plain-ascii b e = grind (arith, nat_tests)

spelled-ascii : (b : ℕ) (t : Bool) → is_plain b ≡ t → IsAscii (if t then b ∷ [] else percent_encode_byte b)
spelled-ascii b true e = IsAscii-cons b [] (plain-ascii b e) IsAscii-nil
spelled-ascii b false e = escape-ascii b

spelling-ascii : (b : ℕ) → IsAscii (spelling b)
unfolding spelling
spelling-ascii b = spelled-ascii b (is_plain b) refl

escaped-ascii : (bs : List ℕ) → IsAscii (escaped bs)
unfolding escaped
escaped-ascii [] = IsAscii-nil
escaped-ascii (b ∷ bs) = IsAscii-append (spelling b) _ (spelling-ascii b) (escaped-ascii bs)

pub escaped_utf8 : (bs : List ℕ) → IsUtf8 (escaped bs)
escaped_utf8 bs = IsUtf8-from_ascii (escaped bs) (escaped-ascii bs)

-- what is written out
literal-utf8 : (text : List ℕ) → list_all (λ b. nat_lt b 128) text ≡ true → IsUtf8 text
literal-utf8 text e = IsUtf8-from_ascii text (ascii_literal text e)

pub result_name_utf8 : (r : ResultName) → IsResultName r (result_name r) → IsUtf8 (result_name r)
unfolding result_name
result_name_utf8 r is =
    let id : IsUtf8 r.result = IsPart-utf8 _ _ is.result in
    let tail = IsUtf8-append (codes "/results/") r.result (literal-utf8 (codes "/results/") refl) id in
    let test = IsUtf8-append (escaped r.test) _ (escaped_utf8 r.test) tail in
    let tests = IsUtf8-append (codes "/tests/") _ (literal-utf8 (codes "/tests/") refl) test in
    IsUtf8-append (codes "invocations/") _ (literal-utf8 (codes "invocations/") refl) (IsUtf8-append r.invocation _ (IsPart-utf8 _ _ is.invocation) tests)

pub parent_name_utf8 : (p : Parent) → IsParentName p (parent_name p) → IsUtf8 (parent_name p)
parent_name_utf8 (Invocation id) is = IsUtf8-append (codes "invocations/") _ (literal-utf8 (codes "invocations/") refl) (IsPart-utf8 _ _ is.1)
parent_name_utf8 (Result name) is = result_name_utf8 name is

pub artifact_name_utf8 : (a : ArtifactName) → IsArtifactName a (artifact_name a) → IsUtf8 (artifact_name a)
unfolding artifact_name
artifact_name_utf8 a is =
    let tail = IsUtf8-append (codes "/artifacts/") _ (literal-utf8 (codes "/artifacts/") refl) (escaped_utf8 a.artifact) in
    IsUtf8-append (parent_name a.parent) _ (parent_name_utf8 a.parent is.parent) tail
