-- The tokens of an object: those of its members that are there, in byte order of their names, in
-- whichever order the definition lists them.
use Rattle.std.proofs.Common.{◌≡◌, ℕ, Bool, true, false, List, [], ◌∷◌, ◌++◌, Option, Some, None, option_map, refl, sym, ap, subst, ◌∙◌}
use Rattle.std.specs.Prelude.{⊤, ◌&&◌}
use Rattle.std.specs.Ordering.{nat_cmp, match_ordering}
use Rattle.std.specs.Cmp.Lexicographic.{slice_cmp}
use Rattle.std.specs.declared.cmp.Ordering.{Ordering}
use Rattle.std.specs.declared.cmp.Ordering.TheVariants.{Less, Equal, Greater}
use Rattle.std.proofs.lemmas.Bool.{and_parts}
use Rattle.json.specs.Token.{Token, key, begin_object, end_object}
use Rattle.json.specs.Tree.{members_tokens}
use Rattle.serde_json.specs.Data.{Data, Members, no_members, member, put, object}
use Rattle.serde_json.specs.Written.{members_outline}
use Rattle.pair_kinds.specs.JsonFields.Names.{NameForm}
use Rattle.pair_kinds.specs.JsonFields.Writing.{put_optional, put_list}
use Rattle.token_texts.specs.Tokens.{tokens_of, member_tokens, list_shown}

abbrev pub Listed : Type 0
Listed = List (NameForm × Option Data)

-- a member beside others; nothing where it has no value
abbrev pub put_some : NameForm → Option Data → Members → Members
put_some n o ms = put_optional n (λ (d : Data). d) o ms

abbrev pub put_all : Listed → Members → Members
put_all [] ms = ms
put_all (m ∷ rest) ms = put_some m.0 m.1 (put_all rest ms)

-- a member that may be unset, and one that is a list
pub optional_is : {A : Type 0} (n : NameForm) (json : A → Data) (o : Option A) (ms : Members) → put_optional n json o ms ≡ put_some n (option_map json o) ms
optional_is n json None ms = refl
optional_is n json (Some a) ms = refl

pub list_is : {A : Type 0} (n : NameForm) (json : A → Data) (xs : List A) (ms : Members) → put_list n json xs ms ≡ put_some n (list_shown json xs) ms
list_is n json [] ms = refl
list_is n json (x ∷ xs) ms = refl

-- a name stands before those of the members
abbrev pub is_below : List ℕ → Listed → Bool
is_below k [] = true
is_below k (m ∷ rest) = match_ordering (slice_cmp nat_cmp k m.0.camel) (is_below k rest) false false

abbrev pub are_rising : Listed → Bool
are_rising [] = true
are_rising (m ∷ rest) = is_below m.0.camel rest && are_rising rest

-- a member at its place among those that rise
abbrev pub place : NameForm × Option Data → Listed → Listed
place x [] = x ∷ []
place x (m ∷ rest) = match_ordering (slice_cmp nat_cmp x.0.camel m.0.camel) (x ∷ m ∷ rest) (x ∷ m ∷ rest) (m ∷ place x rest)

abbrev pub in_order : Listed → Listed
in_order [] = []
in_order (m ∷ rest) = place m (in_order rest)

-- they rise, once they are in order
abbrev pub can_rise : Listed → Bool
can_rise [] = true
can_rise (m ∷ rest) = can_rise rest && are_rising (place m (in_order rest))

-- ---- members that stand behind a name

abbrev FirstBehind : List ℕ → Members → Type 0
FirstBehind k no_members = ⊤
FirstBehind k (member l d ms) = slice_cmp nat_cmp k l ≡ Less

put_first : (k : List ℕ) (d : Data) (ms : Members) → FirstBehind k ms → put k d ms ≡ member k d ms
put_first k d no_members behind = refl
put_first k d (member l e ms) behind = rw behind refl

behind_at : (o : Ordering) (k m l : List ℕ) (d e : Data) (ms more : Members) → slice_cmp nat_cmp k m ≡ Less → slice_cmp nat_cmp k l ≡ Less
    → FirstBehind k (match_ordering o (member m d (member l e ms)) (member l d ms) (member l e more))
behind_at Less k m l d e ms more one two = one
behind_at Equal k m l d e ms more one two = two
behind_at Greater k m l d e ms more one two = two

behind_put : (k m : List ℕ) (d : Data) (ms : Members) → slice_cmp nat_cmp k m ≡ Less → FirstBehind k ms → FirstBehind k (put m d ms)
behind_put k m d no_members less behind = less
behind_put k m d (member l e ms) less behind = behind_at (slice_cmp nat_cmp m l) k m l d e ms (put m d ms) less behind

behind_some : (k : List ℕ) (n : NameForm) (o : Option Data) (ms : Members) → slice_cmp nat_cmp k n.camel ≡ Less → FirstBehind k ms → FirstBehind k (put_some n o ms)
behind_some k n None ms less behind = behind
behind_some k n (Some d) ms less behind = behind_put k n.camel d ms less behind

below_parts : (o : Ordering) (b : Bool) → match_ordering o b false false ≡ true → (o ≡ Less) × (b ≡ true)
below_parts Less b e = (refl, e)
below_parts Equal b e = absurd cc
below_parts Greater b e = absurd cc

behind_all : (k : List ℕ) (rest : Listed) → is_below k rest ≡ true → FirstBehind k (put_all rest no_members)
behind_all k [] below = tt
behind_all k (m ∷ rest) below =
    let p = below_parts (slice_cmp nat_cmp k m.0.camel) (is_below k rest) below in
    behind_some k m.0 m.1 (put_all rest no_members) p.0 (behind_all k rest p.1)

-- ---- the order of the members in the definition

past : (n m : NameForm) (d e : Data) (ms : Members) → slice_cmp nat_cmp n.camel m.camel ≡ Greater → FirstBehind m.camel ms → FirstBehind m.camel (put n.camel d ms)
    → put n.camel d (put m.camel e ms) ≡ put m.camel e (put n.camel d ms)
past n m d e ms greater here there =
    let inner : put n.camel d (member m.camel e ms) ≡ member m.camel e (put n.camel d ms) = rw greater refl in
    ap (put n.camel d) (put_first m.camel e ms here) ∙ inner ∙ sym (put_first m.camel e (put n.camel d ms) there)

past_some : (n m : NameForm) (o p : Option Data) (ms : Members) → slice_cmp nat_cmp n.camel m.camel ≡ Greater → FirstBehind m.camel ms
    → FirstBehind m.camel (put_some n o ms) → put_some n o (put_some m p ms) ≡ put_some m p (put_some n o ms)
past_some n m None p ms greater here there = refl
past_some n m (Some d) None ms greater here there = refl
past_some n m (Some d) (Some e) ms greater here there = past n m d e ms greater here there

placed_at : (o : Ordering) (x m : NameForm × Option Data) (rest : Listed) → slice_cmp nat_cmp x.0.camel m.0.camel ≡ o → are_rising (m ∷ rest) ≡ true
    → are_rising (match_ordering o (x ∷ m ∷ rest) (x ∷ m ∷ rest) (m ∷ place x rest)) ≡ true
    → (are_rising rest ≡ true → are_rising (place x rest) ≡ true → put_some x.0 x.1 (put_all rest no_members) ≡ put_all (place x rest) no_members)
    → put_some x.0 x.1 (put_all (m ∷ rest) no_members) ≡ put_all (match_ordering o (x ∷ m ∷ rest) (x ∷ m ∷ rest) (m ∷ place x rest)) no_members
placed_at Less x m rest is rising then further = refl
placed_at Equal x m rest is rising then further = refl
placed_at Greater x m rest is rising then further =
    let one = and_parts (is_below m.0.camel rest) (are_rising rest) rising in
    let two = and_parts (is_below m.0.camel (place x rest)) (are_rising (place x rest)) then in
    let same : put_some x.0 x.1 (put_all rest no_members) ≡ put_all (place x rest) no_members = further one.1 two.1 in
    let there : FirstBehind m.0.camel (put_some x.0 x.1 (put_all rest no_members)) =
    subst (FirstBehind m.0.camel) (sym same) (behind_all m.0.camel (place x rest) two.0) in
    past_some x.0 m.0 x.1 m.1 (put_all rest no_members) is (behind_all m.0.camel rest one.0) there ∙ ap (put_some m.0 m.1) same

placed : (x : NameForm × Option Data) (ms : Listed) → are_rising ms ≡ true → are_rising (place x ms) ≡ true
    → put_some x.0 x.1 (put_all ms no_members) ≡ put_all (place x ms) no_members
placed x [] rising then = refl
placed x (m ∷ rest) rising then =
    placed_at (slice_cmp nat_cmp x.0.camel m.0.camel) x m rest refl rising then (λ one two. placed x rest one two)

rising_once : (ms : Listed) → can_rise ms ≡ true → are_rising (in_order ms) ≡ true
rising_once [] can = refl
rising_once (m ∷ rest) can = (and_parts (can_rise rest) (are_rising (place m (in_order rest))) can).1

pub same_members : (ms : Listed) → can_rise ms ≡ true → put_all ms no_members ≡ put_all (in_order ms) no_members
same_members [] can = refl
same_members (m ∷ rest) can =
    let p = and_parts (can_rise rest) (are_rising (place m (in_order rest))) can in
    ap (put_some m.0 m.1) (same_members rest p.0) ∙ placed m (in_order rest) (rising_once rest p.0) p.1

-- ---- tokens

abbrev pub all_tokens : Listed → List Token
all_tokens [] = end_object ∷ []
all_tokens (m ∷ rest) = member_tokens m.0.camel m.1 ++ all_tokens rest

one_more : (n : NameForm) (o : Option Data) (ms : Members) (ts : List Token) → FirstBehind n.camel ms → members_tokens (members_outline ms) ≡ ts
    → members_tokens (members_outline (put_some n o ms)) ≡ member_tokens n.camel o ++ ts
one_more n None ms ts behind e = e
one_more n (Some d) ms ts behind e = rw (put_first n.camel d ms behind) (ap (λ (more : List Token). key n.camel ∷ (tokens_of d ++ more)) e)

rising_tokens : (ms : Listed) → are_rising ms ≡ true → members_tokens (members_outline (put_all ms no_members)) ≡ all_tokens ms
rising_tokens [] rising = refl
rising_tokens (m ∷ rest) rising =
    let p = and_parts (is_below m.0.camel rest) (are_rising rest) rising in
    one_more m.0 m.1 (put_all rest no_members) (all_tokens rest) (behind_all m.0.camel rest p.0) (rising_tokens rest p.1)

pub object_tokens : (ms : Listed) → can_rise ms ≡ true → tokens_of (object (put_all ms no_members)) ≡ begin_object ∷ all_tokens (in_order ms)
object_tokens ms can =
    ap (λ (more : Members). begin_object ∷ members_tokens (members_outline more)) (same_members ms can)
    ∙ ap (λ (ts : List Token). begin_object ∷ ts) (rising_tokens (in_order ms) (rising_once ms can))
