-- What is read as a construct is one, and each construct is read.
use Rattle.std.proofs.Common.{◌≡◌, ◌<◌, ℕ, Bool, true, false, not, nat_eq, List, [], ◌∷◌, ◌++◌, length, take, drop, Some, refl, sym, ap, subst, ◌∙◌, arith}
use Rattle.std.specs.Prelude.{◌==◌, codes}
use Rattle.std.specs.List.{list_all, prefix_len, starts_with}
use Rattle.std.proofs.lemmas.Bool.Decides.{nat_tests}
use Rattle.std.proofs.lemmas.List.{take-append-drop}
use Rattle.junit_parts.specs.Bytes.{begins_name, behind_white, byte_from, name_from, parted_at, starts_name}
use Rattle.junit_parts.specs.Constructs.{Text, Reference, Data, Comment, Token, Stands, Opens, Whole, Closes, Entity, Doctype, Instruction, character_from, comment_from, data_from, declared_from, doctype_from, end_from, instruction_from, marked_from, markup_from, meant, start_from, token_from}
use Rattle.junit_parts.specs.Grammar.{IsComment, IsEnclosed, IsEndTag, IsReference, IsTag, IsText, Spells, is_text_byte, stops_text}
use Rattle.junit_parts.specs.Laws.{ReadIsSpelled, SpelledIsRead}
use Rattle.junit_parts.specs.References.{meaning_of, reference_from}
use Rattle.junit_parts.specs.Tags.{TagText}
use Rattle.junit_parts.specs.declared.references.Meaning.{Meaning}
use Rattle.junit_parts.specs.declared.references.Meaning.TheVariants.{Character, Foreign}
use Rattle.junit_parts.proofs.ElementLemmas.{IsElement, begins_on, opens_met, start_read, whole_met}
use Rattle.junit_parts.proofs.ElementLemmas.IsElement.{opens, whole}
use Rattle.junit_parts.proofs.GrammarLemmas.{bind_some, byte_met, byte_read, ends_name, if_some, name_met, name_read, same_some, white_front, white_met, white_read}
use Rattle.junit_parts.proofs.MarkLemmas.{enclosed_of, parted_met, starts}
use Rattle.junit_parts.proofs.MeaningLemmas.{meaning_met, meaning_read}
use Rattle.junit_parts.proofs.RunLemmas.{and_both, by_bool, if_false, if_true, leads, met_front, met_rest, one_more, taken_pass}

-- What a reader gives is the construct of these bytes.
abbrev Given : List ℕ → Token × List ℕ → Type 0
Given bytes r = Spells bytes r.0 r.1

enclosed_at : (opening text mark bytes rest other : List ℕ) → IsEnclosed opening text mark bytes rest → rest ≡ other → IsEnclosed opening text mark bytes other
enclosed_at opening text mark bytes rest other is e = let P : List ℕ → Type 0 = λ x. IsEnclosed opening text mark bytes x in subst P e is

end_read : (bytes inner : List ℕ) (r : Token × List ℕ) → bytes ≡ codes "</" ++ inner → end_from inner ≡ Some r → Given bytes r
unfolding end_from
end_read bytes inner r is e =
    let name = bind_some (name_from inner) _ r e in
    let rest = bind_some (byte_from 62 (behind_white name.0.1)) _ r name.2 in
    let found : (Closes name.0.0, rest.0) ≡ r = same_some _ r rest.2 in
    let named = name_read inner name.0 name.1 in
    let white = white_read name.0.1 in
    let split : name.0.1 ≡ white_front name.0.1 ++ 62 ∷ rest.0 = white.1 ∙ ap (λ (x : List ℕ). white_front name.0.1 ++ x) (byte_read 62 (behind_white name.0.1) rest.0 rest.1) in
    let P : Token × List ℕ → Type 0 = Given bytes in
    subst P found (record {
      white = white_front name.0.1;
      named = named.0;
      is_white = white.0;
      spelled = is ∙ ap (λ (x : List ℕ). codes "</" ++ x) (named.1 ∙ ap (λ (x : List ℕ). name.0.0 ++ x) split);
    })

comment_read : (bytes inner : List ℕ) (r : Token × List ℕ) → bytes ≡ codes "<!--" ++ inner → comment_from inner ≡ Some r → Given bytes r
unfolding comment_from
comment_read bytes inner r is e =
    let parts = bind_some (parted_at (codes "--") inner) _ r e in
    let rest = bind_some (byte_from 62 parts.0.1) _ r parts.2 in
    let found : (Stands Comment, rest.0) ≡ r = same_some _ r rest.2 in
    let P : Token × List ℕ → Type 0 = Given bytes in
    let whole = enclosed_of (codes "<!--") (codes "--") bytes inner parts.0 is parts.1 in
    subst P found (record { text = parts.0.0; enclosed = enclosed_at (codes "<!--") parts.0.0 (codes "--") bytes parts.0.1 (62 ∷ rest.0) whole (byte_read 62 parts.0.1 rest.0 rest.1) })

data_read : (bytes inner : List ℕ) (r : Token × List ℕ) → bytes ≡ codes "<![CDATA[" ++ inner → data_from inner ≡ Some r → Given bytes r
unfolding data_from
data_read bytes inner r is e =
    let parts = bind_some (parted_at (codes "]]>") inner) _ r e in
    let found : (Stands (Data parts.0.0), parts.0.1) ≡ r = same_some _ r parts.2 in
    let P : Token × List ℕ → Type 0 = Given bytes in
    subst P found (enclosed_of (codes "<![CDATA[") (codes "]]>") bytes inner parts.0 is parts.1)

doctype_read : (bytes inner : List ℕ) (r : Token × List ℕ) → bytes ≡ codes "<!DOCTYPE" ++ inner → doctype_from inner ≡ Some r → Given bytes r
unfolding doctype_from
doctype_read bytes inner r is e =
    let parts = bind_some (parted_at (codes ">") inner) _ r e in
    let found : (Doctype, parts.0.1) ≡ r = same_some _ r parts.2 in
    let P : Token × List ℕ → Type 0 = Given bytes in
    subst P found (parts.0.0, enclosed_of (codes "<!DOCTYPE") (codes ">") bytes inner parts.0 is parts.1)

instruction_read : (bytes inner : List ℕ) (r : Token × List ℕ) → bytes ≡ codes "<?" ++ inner → instruction_from inner ≡ Some r → Given bytes r
unfolding instruction_from
instruction_read bytes inner r is e =
    let parts = bind_some (parted_at (codes "?>") inner) _ r e in
    let found : (Instruction, parts.0.1) ≡ r = same_some _ r parts.2 in
    let P : Token × List ℕ → Type 0 = Given bytes in
    subst P found (parts.0.0, enclosed_of (codes "<?") (codes "?>") bytes inner parts.0 is parts.1)

marked_read : (bytes inner : List ℕ) (r : Token × List ℕ) → bytes ≡ codes "<!" ++ inner → marked_from inner ≡ Some r → Given bytes r
marked_read bytes inner r is e =
    by_bool (starts_with nat_eq inner (codes "[CDATA["))
    (λ one. data_read bytes (drop 7 inner) r (is ∙ ap (λ (x : List ℕ). codes "<!" ++ x) (starts inner (codes "[CDATA[") one)) (sym (if_true (starts_with nat_eq inner (codes "[CDATA[")) _ _ one) ∙ e))
    (λ other.
    let two = if_some (starts_with nat_eq inner (codes "DOCTYPE")) _ r (sym (if_false (starts_with nat_eq inner (codes "[CDATA[")) _ _ other) ∙ e) in
    doctype_read bytes (drop 7 inner) r (is ∙ ap (λ (x : List ℕ). codes "<!" ++ x) (starts inner (codes "DOCTYPE") two.0)) two.1)

declared_read : (bytes inner : List ℕ) (r : Token × List ℕ) → bytes ≡ codes "<!" ++ inner → declared_from inner ≡ Some r → Given bytes r
unfolding declared_from
declared_read bytes inner r is e =
    by_bool (starts_with nat_eq inner (codes "--"))
    (λ one. comment_read bytes (drop 2 inner) r (is ∙ ap (λ (x : List ℕ). codes "<!" ++ x) (starts inner (codes "--") one)) (sym (if_true (starts_with nat_eq inner (codes "--")) _ _ one) ∙ e))
    (λ other. marked_read bytes inner r is (sym (if_false (starts_with nat_eq inner (codes "--")) _ _ other) ∙ e))

element_read : (bytes inner rest : List ℕ) (token : Token) → bytes ≡ 60 ∷ inner → IsElement inner token rest → Spells bytes token rest
element_read bytes inner rest token is (opens tag same tagged) = let P : Token → Type 0 = λ t. Spells bytes t rest in subst P (sym same) (inner, is, tagged)
element_read bytes inner rest token is (whole tag same tagged) = let P : Token → Type 0 = λ t. Spells bytes t rest in subst P (sym same) (inner, is, tagged)

is_byte : (b c : ℕ) → (b == c) ≡ true → b ≡ c
is_byte b c e = grind (arith, nat_tests, e)

markup_read : (bytes inner : List ℕ) (r : Token × List ℕ) → bytes ≡ 60 ∷ inner → markup_from inner ≡ Some r → Given bytes r
unfolding markup_from
markup_read bytes [] r is e = absurd cc
markup_read bytes (b ∷ bs) r is e =
    by_bool (b == 47)
    (λ one. end_read bytes bs r (is ∙ ap (λ x. 60 ∷ x ∷ bs) (is_byte b 47 one)) (sym (if_true (b == 47) _ _ one) ∙ e))
    (λ no. let e = sym (if_false (b == 47) _ _ no) ∙ e in
    by_bool (b == 33)
    (λ one. declared_read bytes bs r (is ∙ ap (λ x. 60 ∷ x ∷ bs) (is_byte b 33 one)) (sym (if_true (b == 33) _ _ one) ∙ e))
    (λ no. let e = sym (if_false (b == 33) _ _ no) ∙ e in
    by_bool (b == 63)
    (λ one. instruction_read bytes bs r (is ∙ ap (λ x. 60 ∷ x ∷ bs) (is_byte b 63 one)) (sym (if_true (b == 63) _ _ one) ∙ e))
    (λ no. element_read bytes (b ∷ bs) r.1 r.0 is (start_read (b ∷ bs) r (sym (if_false (b == 63) _ _ no) ∙ e)))))

meant_read : (bytes rest : List ℕ) (m : Meaning) → IsReference bytes m rest → Spells bytes (meant m) rest
meant_read bytes rest (Character c) is = is
meant_read bytes rest Foreign is = is

pub reference_read : (bytes inner : List ℕ) (r : Meaning × List ℕ) → bytes ≡ 38 ∷ inner → reference_from inner ≡ Some r → IsReference bytes r.0 r.1
unfolding reference_from
reference_read bytes inner r is e =
    let parts = bind_some (parted_at (59 ∷ []) inner) _ r e in
    let meaning = bind_some (meaning_of parts.0.0) _ r parts.2 in
    let pair : (meaning.0, parts.0.1) ≡ r = same_some _ r meaning.2 in
    let Q : Meaning × List ℕ → Type 0 = λ x. IsReference bytes x.0 x.1 in
    subst Q pair (record { body = parts.0.0; enclosed = enclosed_of (codes "&") (codes ";") bytes inner parts.0 is parts.1; means = meaning_read parts.0.0 meaning.0 meaning.1 })

character_read : (bytes inner : List ℕ) (r : Token × List ℕ) → bytes ≡ 38 ∷ inner → character_from inner ≡ Some r → Given bytes r
unfolding character_from
character_read bytes inner r is e =
    let found = bind_some (reference_from inner) _ r e in
    let same : (meant found.0.0, found.0.1) ≡ r = same_some _ r found.2 in
    let P : Token × List ℕ → Type 0 = Given bytes in
    subst P same (meant_read bytes found.0.1 found.0.0 (reference_read bytes inner found.0 is found.1))

negated : (b : Bool) → b ≡ false → not b ≡ true
negated true e = absurd cc
negated false e = refl

stopped : (rest : List ℕ) → stops_text rest ≡ true → leads is_text_byte rest ≡ false
stopped [] e = refl
stopped (b ∷ bs) e = by_bool (is_text_byte b) (λ is. absurd (let no : false ≡ true = sym (ap not is) ∙ e in cc)) (λ other. other)

text_stops : (bytes : List ℕ) → stops_text (drop (prefix_len is_text_byte bytes) bytes) ≡ true
text_stops [] = refl
text_stops (b ∷ bs) =
    by_bool (is_text_byte b)
    (λ is. let more = one_more (prefix_len is_text_byte bs) in rw is (rw more (text_stops bs)))
    (λ other. rw other (negated (is_text_byte b) other))

text_read : (b : ℕ) (bs : List ℕ) (r : Token × List ℕ) → (b == 60) ≡ false → (b == 38) ≡ false
    → Some (Stands (Text (take (prefix_len is_text_byte (b ∷ bs)) (b ∷ bs))), drop (prefix_len is_text_byte (b ∷ bs)) (b ∷ bs)) ≡ Some r → Given (b ∷ bs) r
text_read b bs r one two e =
    let n = prefix_len is_text_byte (b ∷ bs) in
    let found : (Stands (Text (take n (b ∷ bs))), drop n (b ∷ bs)) ≡ r = same_some _ r e in
    let here : is_text_byte b ≡ true = rw (one, two) refl in
    let some : 0 < length (take n (b ∷ bs)) = let more = one_more (prefix_len is_text_byte bs) in rw here (rw more (omega arith)) in
    let P : Token × List ℕ → Type 0 = Given (b ∷ bs) in
    subst P found (record {
      some = some;
      kept = taken_pass is_text_byte is_text_byte (λ x. refl) (b ∷ bs);
      stops = text_stops (b ∷ bs);
      spelled = sym (take-append-drop n (b ∷ bs));
    })

token_read : (bytes : List ℕ) (r : Token × List ℕ) → token_from bytes ≡ Some r → Given bytes r
unfolding token_from
token_read [] r e = absurd cc
token_read (b ∷ bs) r e =
    by_bool (b == 60)
    (λ one. markup_read (b ∷ bs) bs r (ap (λ x. x ∷ bs) (is_byte b 60 one)) (sym (if_true (b == 60) _ _ one) ∙ e))
    (λ no.
    let e = sym (if_false (b == 60) _ _ no) ∙ e in
    by_bool (b == 38)
    (λ one. character_read (b ∷ bs) bs r (ap (λ x. x ∷ bs) (is_byte b 38 one)) (sym (if_true (b == 38) _ _ one) ∙ e))
    (λ other. text_read b bs r no other (sym (if_false (b == 38) _ _ other) ∙ e)))

pub read_is_spelled : ReadIsSpelled
read_is_spelled bytes rest token e = token_read bytes (token, rest) e

-- the other way round

met : (bytes other rest : List ℕ) (token : Token) → bytes ≡ other → token_from other ≡ Some (token, rest) → token_from bytes ≡ Some (token, rest)
met bytes other rest token is e = ap token_from is ∙ e

text_met : (bytes text rest : List ℕ) → IsText bytes text rest → token_from bytes ≡ Some (Stands (Text text), rest)
unfolding token_from
text_met bytes [] rest is = absurd (let some = is.some in omega (arith, some))
text_met bytes (t ∷ text) rest is =
    let all : List ℕ = (t ∷ text) ++ rest in
    let first : is_text_byte t ≡ true = (and_both (is_text_byte t) (list_all is_text_byte text) is.kept).0 in
    let one : (t == 60) ≡ false = grind (arith, nat_tests, first) in
    let two : (t == 38) ≡ false = grind (arith, nat_tests, first) in
    let stops : leads is_text_byte rest ≡ false = stopped rest is.stops in
    let front : take (prefix_len is_text_byte all) all ≡ t ∷ text = met_front is_text_byte is_text_byte (λ x. refl) (t ∷ text) rest is.kept stops in
    let behind : drop (prefix_len is_text_byte all) all ≡ rest = met_rest is_text_byte is_text_byte (λ x. refl) (t ∷ text) rest is.kept stops in
    ap token_from is.spelled ∙ if_false (t == 60) _ _ one ∙ if_false (t == 38) _ _ two
    ∙ ap (λ (x : List ℕ). Some (Stands (Text x), drop (prefix_len is_text_byte all) all)) front ∙ ap (λ (x : List ℕ). Some (Stands (Text (t ∷ text)), x)) behind

-- what stands behind the `&` of a reference
abbrev pub behind_and : List ℕ → List ℕ → List ℕ
behind_and body rest = body ++ 59 ∷ rest

pub reference_found : (bytes rest : List ℕ) (m : Meaning) (is : IsReference bytes m rest) → reference_from (behind_and is.body rest) ≡ Some (m, rest)
unfolding reference_from
reference_found bytes rest m is =
    let parts : parted_at (59 ∷ []) (is.body ++ 59 ∷ rest) ≡ Some (is.body, rest) = parted_met (codes ";") is.body rest (omega arith) is.enclosed.first in
    let meaning : meaning_of is.body ≡ Some m = meaning_met is.body m is.means in
    rw parts (rw meaning refl)

reference_met : (bytes rest : List ℕ) (m : Meaning) → IsReference bytes m rest → token_from bytes ≡ Some (meant m, rest)
unfolding token_from character_from
reference_met bytes rest m is = let found = reference_found bytes rest m is in ap token_from is.enclosed.spelled ∙ rw found refl

data_met : (bytes text rest : List ℕ) → IsEnclosed (codes "<![CDATA[") text (codes "]]>") bytes rest → token_from bytes ≡ Some (Stands (Data text), rest)
unfolding token_from markup_from declared_from data_from
data_met bytes text rest is =
    let parts : parted_at (codes "]]>") (text ++ (codes "]]>" ++ rest)) ≡ Some (text, rest) = parted_met (codes "]]>") text rest (omega arith) is.first in
    ap token_from is.spelled ∙ rw parts refl

comment_met : (bytes rest : List ℕ) → IsComment bytes rest → token_from bytes ≡ Some (Stands Comment, rest)
unfolding token_from markup_from declared_from comment_from
comment_met bytes rest is =
    let parts : parted_at (codes "--") (is.text ++ (codes "--" ++ 62 ∷ rest)) ≡ Some (is.text, 62 ∷ rest) = parted_met (codes "--") is.text (62 ∷ rest) (omega arith) is.enclosed.first in
    ap token_from is.enclosed.spelled ∙ rw parts (rw (byte_met 62 rest) refl)

doctype_met : (bytes text rest : List ℕ) → IsEnclosed (codes "<!DOCTYPE") text (codes ">") bytes rest → token_from bytes ≡ Some (Doctype, rest)
unfolding token_from markup_from declared_from doctype_from
doctype_met bytes text rest is =
    let parts : parted_at (codes ">") (text ++ (codes ">" ++ rest)) ≡ Some (text, rest) = parted_met (codes ">") text rest (omega arith) is.first in
    ap token_from is.spelled ∙ rw parts refl

instruction_met : (bytes text rest : List ℕ) → IsEnclosed (codes "<?") text (codes "?>") bytes rest → token_from bytes ≡ Some (Instruction, rest)
unfolding token_from markup_from instruction_from
instruction_met bytes text rest is =
    let parts : parted_at (codes "?>") (text ++ (codes "?>" ++ rest)) ≡ Some (text, rest) = parted_met (codes "?>") text rest (omega arith) is.first in
    ap token_from is.spelled ∙ rw parts refl

end_met : (bytes name rest : List ℕ) → IsEndTag bytes name rest → token_from bytes ≡ Some (Closes name, rest)
unfolding token_from markup_from end_from
end_met bytes name rest is =
    let behind : List ℕ = is.white ++ 62 ∷ rest in
    let read : name_from (name ++ behind) ≡ Some (name, behind) = name_met name behind is.named (ends_name is.white (62 ∷ rest) is.is_white refl) in
    let white : behind_white behind ≡ 62 ∷ rest = white_met is.white (62 ∷ rest) is.is_white refl in
    ap token_from is.spelled ∙ rw read (rw white (rw (byte_met 62 rest) refl))

-- what begins with a name is a tag
tag_met : (inner rest : List ℕ) (token : Token) → begins_name inner ≡ true → start_from inner ≡ Some (token, rest) → token_from (60 ∷ inner) ≡ Some (token, rest)
unfolding token_from markup_from
tag_met [] rest token begins e = absurd (let no : false ≡ true = begins in cc)
tag_met (b ∷ bs) rest token begins e =
    let first : starts_name b ≡ true = begins in
    let one : (b == 47) ≡ false = grind (arith, nat_tests, first) in
    let two : (b == 33) ≡ false = grind (arith, nat_tests, first) in
    let three : (b == 63) ≡ false = grind (arith, nat_tests, first) in
    if_false (b == 47) _ _ one ∙ if_false (b == 33) _ _ two ∙ if_false (b == 63) _ _ three ∙ e

begins : (inner ending : List ℕ) (tag : TagText) → IsTag inner tag ending → begins_name inner ≡ true
begins inner ending tag is = ap begins_name is.spelled ∙ begins_on tag.name is.behind is.named.begins

pub spelled_is_read : SpelledIsRead
spelled_is_read bytes rest (Stands (Text text)) is = text_met bytes text rest is
spelled_is_read bytes rest (Stands (Reference c)) is = reference_met bytes rest (Character c) is
spelled_is_read bytes rest (Stands (Data text)) is = data_met bytes text rest is
spelled_is_read bytes rest (Stands Comment) is = comment_met bytes rest is
spelled_is_read bytes rest (Opens tag) is = met bytes (60 ∷ is.0) rest (Opens tag) is.1 (tag_met is.0 rest (Opens tag) (begins is.0 (62 ∷ rest) tag is.2) (opens_met is.0 rest tag is.2))
spelled_is_read bytes rest (Whole tag) is = met bytes (60 ∷ is.0) rest (Whole tag) is.1 (tag_met is.0 rest (Whole tag) (begins is.0 (47 ∷ 62 ∷ rest) tag is.2) (whole_met is.0 rest tag is.2))
spelled_is_read bytes rest (Closes name) is = end_met bytes name rest is
spelled_is_read bytes rest Entity is = reference_met bytes rest Foreign is
spelled_is_read bytes rest Doctype is = doctype_met bytes is.0 rest is.1
spelled_is_read bytes rest Instruction is = instruction_met bytes is.0 rest is.1
