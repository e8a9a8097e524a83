-- The text of an object whose members rise by their names, a member at a time.
use Rattle.std.proofs.Common.{◌≡◌, ℕ, Bool, true, false, List, [], ◌∷◌, ◌++◌, Option, Some, None, refl, ap, ◌∙◌, append_assoc}
use Rattle.std.specs.Prelude.{⊤}
use Rattle.std.specs.Ordering.{nat_cmp}
use Rattle.std.specs.Cmp.Lexicographic.{slice_cmp}
use Rattle.std.specs.declared.cmp.Ordering.TheVariants.{Less}
use Rattle.json.specs.Print.{quoted}
use Rattle.serde_json.specs.Data.{Data, Members, no_members, member, put}
use Rattle.serde_json.specs.Written.{comma_if, compact_text, members_text}
use Rattle.json_fields.specs.Names.{NameForm}
use Rattle.artifact_forms.specs.FormFields.Members.{put_some, put_all, object_of}
use Rattle.artifact_replies.specs.Texts.{member_text}

-- a name stands before those of the members
abbrev pub IsBelow : List ℕ → List (NameForm × Option Data) → Type 0
IsBelow k [] = ⊤
IsBelow k (m ∷ rest) = (slice_cmp nat_cmp k m.0.camel ≡ Less) × IsBelow k rest

abbrev pub AreRising : List (NameForm × Option Data) → Type 0
AreRising [] = ⊤
AreRising (m ∷ rest) = IsBelow m.0.camel rest × AreRising rest

before : (k l : List ℕ) (d e : Data) (ms : Members) → slice_cmp nat_cmp k l ≡ Less → put k d (member l e ms) ≡ member k d (member l e ms)
before k l d e ms less = rw less refl

step : (k : List ℕ) (d : Data) (n : NameForm) (o : Option Data) (ms : Members) → slice_cmp nat_cmp k n.camel ≡ Less → put k d ms ≡ member k d ms
    → ((e : Data) → put n.camel e ms ≡ member n.camel e ms) → put k d (put_some n o ms) ≡ member k d (put_some n o ms)
step k d n None ms less mine next = mine
step k d n (Some e) ms less mine next = rw (next e) (before k n.camel d e ms less)

put_front : (k : List ℕ) (d : Data) (rest : List (NameForm × Option Data)) → IsBelow k rest → AreRising rest
    → put k d (put_all rest no_members) ≡ member k d (put_all rest no_members)
put_front k d [] below rising = refl
put_front k d (m ∷ rest) below rising =
    step k d m.0 m.1 (put_all rest no_members) below.0 (put_front k d rest below.1 rising.1) (λ e. put_front m.0.camel e rest rising.0 rising.1)

-- the text of members that may be left out, with the closing brace
abbrev text_then : Bool → NameForm → Option Data → List ℕ → List ℕ → List ℕ
text_then later n None same others = same
text_then later n (Some d) same others = comma_if later ++ (quoted n.camel ++ 58 ∷ (compact_text d ++ others))

abbrev texts : Bool → List (NameForm × Option Data) → List ℕ
texts later [] = 125 ∷ []
texts later (m ∷ rest) = text_then later m.0 m.1 (texts later rest) (texts true rest)

one_text : (later : Bool) (n : NameForm) (o : Option Data) (ms : Members) (same others : List ℕ)
    → ((d : Data) → put n.camel d ms ≡ member n.camel d ms) → members_text later ms ≡ same → members_text true ms ≡ others
    → members_text later (put_some n o ms) ≡ text_then later n o same others
one_text later n None ms same others front one two = one
one_text later n (Some d) ms same others front one two = rw (front d, two) refl

all_texts : (later : Bool) (members : List (NameForm × Option Data)) → AreRising members → members_text later (put_all members no_members) ≡ texts later members
all_texts later [] rising = refl
all_texts later (m ∷ rest) rising =
    one_text later m.0 m.1 (put_all rest no_members) (texts later rest) (texts true rest) (λ d. put_front m.0.camel d rest rising.0 rising.1)
    (all_texts later rest rising.1) (all_texts true rest rising.1)

-- a member in front of others
in_front : (later : Bool) (k others : List ℕ) (d : Data) → comma_if later ++ (quoted k ++ 58 ∷ (compact_text d ++ others)) ≡ member_text later k (Some d) ++ others
in_front later k others d = simp append_assoc

more : (n : NameForm) (o : Option Data) (others : List ℕ) → text_then true n o others others ≡ member_text true n.camel o ++ others
more n None others = refl
more n (Some d) others = in_front true n.camel others d

-- what stands behind a member that is there
abbrev pub joined : List (NameForm × Option Data) → List ℕ
joined [] = 125 ∷ []
joined (m ∷ rest) = member_text true m.0.camel m.1 ++ joined rest

rest_joined : (members : List (NameForm × Option Data)) → texts true members ≡ joined members
rest_joined [] = refl
rest_joined (m ∷ rest) = more m.0 m.1 (texts true rest) ∙ ap (λ (t : List ℕ). member_text true m.0.camel m.1 ++ t) (rest_joined rest)

-- an object whose first member is there
pub object_text : (n : NameForm) (d : Data) (rest : List (NameForm × Option Data)) → AreRising ((n, Some d) ∷ rest)
    → compact_text (object_of ((n, Some d) ∷ rest)) ≡ 123 ∷ (member_text false n.camel (Some d) ++ joined rest)
object_text n d rest rising =
    ap (λ (t : List ℕ). 123 ∷ t) (all_texts false ((n, Some d) ∷ rest) rising ∙ in_front false n.camel (texts true rest) d
    ∙ ap (λ (t : List ℕ). member_text false n.camel (Some d) ++ t) (rest_joined rest))
