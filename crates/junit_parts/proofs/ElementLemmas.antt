-- What is read as a tag is one, and each tag is read.
use Rattle.std.proofs.Common.{◌≡◌, ◌<◌, ◌≤◌, ℕ, zero, suc, ◌+◌, Bool, true, false, not, ◌&&◌, nat_lt, List, [], ◌∷◌, ◌++◌, length, map, Some, refl, sym, ap, subst, ◌∙◌, arith, length-append}
use Rattle.std.specs.Prelude.{◌==◌}
use Rattle.std.specs.List.{list_all}
use Rattle.std.proofs.lemmas.Bool.Decides.{nat_tests}
use Rattle.std.proofs.lemmas.List.Folds.{length-prefix_len}
use Rattle.junit_parts.specs.Bytes.{begins_name, behind_white, byte_from, continues_name, is_white, name_from, run_len, starts_name}
use Rattle.junit_parts.specs.Constructs.{Token, Opens, Whole, ended, start_from}
use Rattle.junit_parts.specs.Grammar.{AreAttributes, IsAttribute, IsName, IsTag, IsWhite}
use Rattle.junit_parts.specs.Tags.{AttributeText, TagText, are_distinct, attribute_from, attributes_from, has_attribute, tag_from}
use Rattle.junit_parts.proofs.RunLemmas.{and_both, by_bool, if_true, if_false, leads, met_len, twice_not}
use Rattle.junit_parts.proofs.GrammarLemmas.{attribute_met, attribute_read, bind_some, byte_met, byte_read, ends_name, if_some, name_met, name_read, same_some, white_ends, white_front, white_met, white_read}

-- attributes

some_white : (bytes : List ℕ) → nat_lt 0 (run_len is_white bytes) ≡ true → 0 < length (white_front bytes)
some_white bytes some = let len : length (white_front bytes) ≡ run_len is_white bytes = length-prefix_len (λ x. not (not (is_white x))) bytes in grind (arith, nat_tests, len, some)

pub attributes_read : (n : ℕ) (bytes : List ℕ) (r : List AttributeText × List ℕ) → attributes_from n bytes ≡ Some r → AreAttributes bytes r.0 r.1
unfolding attributes_from
attributes_read zero bytes r e =
    let P : List AttributeText × List ℕ → Type 0 = λ x. AreAttributes bytes x.0 x.1 in
    subst P (same_some _ r e) refl
attributes_read (suc n) bytes r e =
    let P : List AttributeText × List ℕ → Type 0 = λ x. AreAttributes bytes x.0 x.1 in
    by_bool (has_attribute bytes)
    (λ has.
    let first = bind_some (attribute_from (behind_white bytes)) _ r (sym (if_true (has_attribute bytes) _ _ has) ∙ e) in
    let others = bind_some (attributes_from n first.0.1) _ r first.2 in
    let both = and_both (nat_lt 0 (run_len is_white bytes)) (begins_name (behind_white bytes)) has in
    let white = white_read bytes in
    subst P (same_some _ r others.2) (
      first.0.1,
      record {
        white = white_front bytes;
        middle = behind_white bytes;
        some = some_white bytes both.0;
        is_white = white.0;
        spelled = white.1;
        attribute = attribute_read (behind_white bytes) first.0.1 first.0.0 first.1;
      },
      attributes_read n first.0.1 others.0 others.1,
    ))
    (λ none. subst P (same_some _ r (sym (if_false (has_attribute bytes) _ _ none) ∙ e)) refl)

-- a name begins with no white space, and goes on however it is followed
pub name_is_dark : (b : ℕ) → starts_name b ≡ true → is_white b ≡ false
name_is_dark b is = grind (arith, nat_tests, is)

dark_first : (name rest : List ℕ) → begins_name name ≡ true → leads is_white (name ++ rest) ≡ false
dark_first [] rest is = absurd cc
dark_first (b ∷ bs) rest is = name_is_dark b is

pub begins_on : (name rest : List ℕ) → begins_name name ≡ true → begins_name (name ++ rest) ≡ true
begins_on [] rest is = absurd cc
begins_on (b ∷ bs) rest is = is

-- bytes that begin with a name
record Named (bytes : List ℕ) : Type 0 where
  dark : leads is_white bytes ≡ false
  begins : begins_name bytes ≡ true

named : (bytes rest : List ℕ) (a : AttributeText) → IsAttribute bytes a rest → Named bytes
named bytes rest a is =
    let behind : List ℕ = is.before ++ 61 ∷ (is.behind ++ is.quote ∷ (a.value ++ is.quote ∷ rest)) in
    rw is.spelled (record { dark = dark_first a.name behind is.named.begins; begins = begins_on a.name behind is.named.begins })

white_len_met : (white rest : List ℕ) → IsWhite white → leads is_white rest ≡ false → run_len is_white (white ++ rest) ≡ length white
white_len_met white rest is stops = met_len is_white (λ x. not (not (is_white x))) (λ x. twice_not (is_white x)) white rest is stops

both_hold : (a b : Bool) → a ≡ true → b ≡ true → (a && b) ≡ true
both_hold true b one two = two
both_hold false b one two = absurd cc

next_has : (white middle : List ℕ) → 0 < length white → IsWhite white → Named middle → has_attribute (white ++ middle) ≡ true
next_has white middle some is is_named =
    let len = white_len_met white middle is is_named.dark in
    let behind = white_met white middle is is_named.dark in
    let positive : nat_lt 0 (length white) ≡ true = grind (arith, nat_tests, some) in
    both_hold (nat_lt 0 (run_len is_white (white ++ middle))) (begins_name (behind_white (white ++ middle))) (ap (nat_lt 0) len ∙ positive) (ap begins_name behind ∙ is_named.begins)

shorter : (a b c : ℕ) → 0 < a → c ≤ b → c < a + b
shorter a b c some few = omega arith

attribute_len : (bytes rest : List ℕ) (a : AttributeText) → IsAttribute bytes a rest → length rest ≤ length bytes
attribute_len bytes rest a is =
    let q = is.quote in
    rw is.spelled
    (omega (
      arith,
      length-append a.name (is.before ++ 61 ∷ (is.behind ++ q ∷ (a.value ++ q ∷ rest))),
      length-append is.before (61 ∷ (is.behind ++ q ∷ (a.value ++ q ∷ rest))),
      length-append is.behind (q ∷ (a.value ++ q ∷ rest)),
      length-append a.value (q ∷ rest),
    ))

pub attributes_met : (n : ℕ) (bytes rest : List ℕ) (attributes : List AttributeText) → length bytes ≤ n → AreAttributes bytes attributes rest → has_attribute rest ≡ false
    → attributes_from n bytes ≡ Some (attributes, rest)
unfolding attributes_from
attributes_met zero bytes rest [] few are none = ap (λ (x : List ℕ). let none_of : List AttributeText = [] in Some (none_of, x)) are
attributes_met (suc n) bytes rest [] few are none =
    let here : has_attribute bytes ≡ false = ap has_attribute are ∙ none in
    if_false (has_attribute bytes) _ _ here ∙ ap (λ (x : List ℕ). let none_of : List AttributeText = [] in Some (none_of, x)) are
attributes_met zero bytes rest (a ∷ attributes) few are none =
    let next = are.1 in
    absurd (omega (arith, few, next.some, ap length next.spelled, length-append next.white next.middle))
attributes_met (suc n) bytes rest (a ∷ attributes) few are none =
    let next = are.1 in
    let is = named next.middle are.0 a next.attribute in
    let has : has_attribute bytes ≡ true = ap has_attribute next.spelled ∙ next_has next.white next.middle next.some next.is_white is in
    let middle : behind_white bytes ≡ next.middle = ap behind_white next.spelled ∙ white_met next.white next.middle next.is_white is.dark in
    let first : attribute_from (behind_white bytes) ≡ Some (a, are.0) = ap attribute_from middle ∙ attribute_met next.middle are.0 a next.attribute in
    let fewer : length are.0 ≤ n = omega (arith, few, next.some, ap length next.spelled, length-append next.white next.middle, attribute_len next.middle are.0 a next.attribute) in
    let others : attributes_from n are.0 ≡ Some (attributes, rest) = attributes_met n are.0 rest attributes fewer are.2 none in
    if_true (has_attribute bytes) _ _ has ∙ rw first (rw others refl)

white_leads : (white middle : List ℕ) → 0 < length white → IsWhite white → leads continues_name (white ++ middle) ≡ false
white_leads [] middle some is = absurd (omega arith)
white_leads (w ∷ white) middle some is = white_ends w (and_both (is_white w) (list_all is_white white) is).0

-- tags

record WasTag (bytes : List ℕ) (tag : TagText) (rest : List ℕ) : Type 0 where
  behind : List ℕ
  named : IsName tag.name
  spelled : bytes ≡ tag.name ++ behind
  attributes : AreAttributes behind tag.attributes rest
  distinct : are_distinct (map (λ a. a.name) tag.attributes) ≡ true

tag_read : (bytes : List ℕ) (r : TagText × List ℕ) → tag_from bytes ≡ Some r → WasTag bytes r.0 r.1
unfolding tag_from
tag_read bytes r e =
    let name = bind_some (name_from bytes) _ r e in
    let attributes = bind_some (attributes_from (length name.0.1) name.0.1) _ r name.2 in
    let found = if_some (are_distinct (map (λ a. a.name) attributes.0.0)) _ r attributes.2 in
    let is = name_read bytes name.0 name.1 in
    let P : TagText × List ℕ → Type 0 = λ x. WasTag bytes x.0 x.1 in
    subst P (same_some _ r found.1) (record {
      behind = name.0.1;
      named = is.0;
      spelled = is.1;
      attributes = attributes_read (length name.0.1) name.0.1 attributes.0 attributes.1;
      distinct = found.0;
    })

-- what was read behind `<` as a start tag, or as the tag of an element without content
pub data IsElement (inner : List ℕ) (token : Token) (rest : List ℕ) : Type 0 where
  opens : (tag : TagText) → token ≡ Opens tag → IsTag inner tag (62 ∷ rest) → IsElement inner token rest
  whole : (tag : TagText) → token ≡ Whole tag → IsTag inner tag (47 ∷ 62 ∷ rest) → IsElement inner token rest

tag_of : (bytes ending rest : List ℕ) (tag : TagText) → WasTag bytes tag rest → behind_white rest ≡ ending → IsTag bytes tag ending
tag_of bytes ending rest tag was ends =
    let white = white_read rest in
    let split : rest ≡ white_front rest ++ ending = white.1 ∙ ap (λ (x : List ℕ). white_front rest ++ x) ends in
    let P : List ℕ → Type 0 = λ x. AreAttributes was.behind tag.attributes x in
    record {
      behind = was.behind;
      last = white_front rest;
      named = was.named;
      spelled = was.spelled;
      attributes = subst P split was.attributes;
      distinct = was.distinct;
      white = white.0;
    }

ended_read : (bytes ending rest : List ℕ) (tag : TagText) (r : Token × List ℕ) → WasTag bytes tag rest → behind_white rest ≡ ending → ended tag ending ≡ Some r → IsElement bytes r.0 r.1
ended_read bytes [] rest tag r was is e = absurd cc
ended_read bytes (b ∷ bs) rest tag r was is e =
    by_bool (b == 62)
    (λ one.
    let found : (Opens tag, bs) ≡ r = same_some _ r (sym (if_true (b == 62) _ _ one) ∙ e) in
    let byte : b ≡ 62 = grind (arith, nat_tests, one) in
    let ending : behind_white rest ≡ 62 ∷ r.1 = is ∙ ap (λ x. x ∷ bs) byte ∙ ap (λ (x : Token × List ℕ). 62 ∷ x.1) found in
    opens tag (sym (ap (λ (x : Token × List ℕ). x.0) found)) (tag_of bytes (62 ∷ r.1) rest tag was ending))
    (λ other.
    let two = if_some (b == 47) _ r (sym (if_false (b == 62) _ _ other) ∙ e) in
    let close = bind_some (byte_from 62 bs) _ r two.1 in
    let found : (Whole tag, close.0) ≡ r = same_some _ r close.2 in
    let byte : b ≡ 47 = grind (arith, nat_tests, two.0) in
    let ending : behind_white rest ≡ 47 ∷ 62 ∷ r.1 = is ∙ ap (λ x. x ∷ bs) byte ∙ ap (λ (x : List ℕ). 47 ∷ x) (byte_read 62 bs close.0 close.1) ∙ ap (λ (x : Token × List ℕ). 47 ∷ 62 ∷ x.1) found in
    whole tag (sym (ap (λ (x : Token × List ℕ). x.0) found)) (tag_of bytes (47 ∷ 62 ∷ r.1) rest tag was ending))

pub start_read : (bytes : List ℕ) (r : Token × List ℕ) → start_from bytes ≡ Some r → IsElement bytes r.0 r.1
unfolding start_from
start_read bytes r e =
    let tag = bind_some (tag_from bytes) _ r e in
    ended_read bytes (behind_white tag.0.1) tag.0.1 tag.0.0 r (tag_read bytes tag.0 tag.1) refl tag.2

-- what ends a tag is no white space, begins no name and goes on with none
abbrev pub Ending : List ℕ → Type 0
Ending ending = (leads is_white ending ≡ false) × (begins_name ending ≡ false) × (leads continues_name ending ≡ false)

never : (b : Bool) → (b && false) ≡ false
never true = refl
never false = refl

no_more : (last ending : List ℕ) → IsWhite last → Ending ending → has_attribute (last ++ ending) ≡ false
no_more last ending white is =
    let behind = white_met last ending white is.0 in
    let none : begins_name (behind_white (last ++ ending)) ≡ false = ap begins_name behind ∙ is.1 in
    rw none (never (nat_lt 0 (run_len is_white (last ++ ending))))

ends_on : (behind rest : List ℕ) (attributes : List AttributeText) → AreAttributes behind attributes rest → leads continues_name rest ≡ false → leads continues_name behind ≡ false
ends_on behind rest [] are stops = ap (leads continues_name) are ∙ stops
ends_on behind rest (a ∷ attributes) are stops =
    let next = are.1 in
    ap (leads continues_name) next.spelled ∙ white_leads next.white next.middle next.some next.is_white

pub tag_met : (bytes ending : List ℕ) (tag : TagText) → IsTag bytes tag ending → Ending ending → (behind : List ℕ) × (behind_white behind ≡ ending) × (tag_from bytes ≡ Some (tag, behind))
unfolding tag_from
tag_met bytes ending tag is ends =
    let behind = is.last ++ ending in
    let stops = ends_on is.behind behind tag.attributes is.attributes (ends_name is.last ending is.white ends.2) in
    let name : name_from (tag.name ++ is.behind) ≡ Some (tag.name, is.behind) = name_met tag.name is.behind is.named stops in
    let attributes : attributes_from (length is.behind) is.behind ≡ Some (tag.attributes, behind) = attributes_met (length is.behind) is.behind behind tag.attributes (omega arith) is.attributes (no_more is.last ending is.white ends) in
    let distinct : are_distinct (map (λ a. a.name) tag.attributes) ≡ true = is.distinct in
    (behind, white_met is.last ending is.white ends.0, rw is.spelled (rw name (rw attributes (if_true (are_distinct (map (λ a. a.name) tag.attributes)) _ _ distinct))))

pub opens_met : (bytes rest : List ℕ) (tag : TagText) → IsTag bytes tag (62 ∷ rest) → start_from bytes ≡ Some (Opens tag, rest)
unfolding start_from
opens_met bytes rest tag is =
    let met = tag_met bytes (62 ∷ rest) tag is (refl, refl, refl) in
    rw met.2 (ap (ended tag) met.1)

pub whole_met : (bytes rest : List ℕ) (tag : TagText) → IsTag bytes tag (47 ∷ 62 ∷ rest) → start_from bytes ≡ Some (Whole tag, rest)
unfolding start_from
whole_met bytes rest tag is =
    let met = tag_met bytes (47 ∷ 62 ∷ rest) tag is (refl, refl, refl) in
    rw met.2 (ap (ended tag) met.1 ∙ rw (byte_met 62 rest) refl)
