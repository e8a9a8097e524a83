-- What stands behind a construct is shorter than what begins with it.
use Rattle.std.proofs.Common.{◌≡◌, ◌<◌, ◌≤◌, ◌+◌, ℕ, zero, suc, Bool, true, false, not, ◌||◌, cond, nat_eq, List, [], ◌∷◌, length, map, take, drop, Option, Some, None, refl, ap, ◌∙◌, arith, length-drop}
use Rattle.std.specs.Prelude.{if◌then◌else◌, ◌==◌, codes}
use Rattle.std.specs.List.{position_or_len, starts_with}
use Rattle.junit_parts.specs.Bytes.{◌>>=◌, behind_white, byte_from, continues_name, is_white, name_from, parted_at, run_len, starts_name}
use Rattle.junit_parts.specs.Constructs.{Token, character_from, comment_from, data_from, declared_from, doctype_from, end_from, ended, instruction_from, marked_from, markup_from, start_from, token_from}
use Rattle.junit_parts.specs.References.{meaning_of, reference_from}
use Rattle.junit_parts.specs.Tags.{TagText, are_distinct, attribute_from, attributes_from, closed_by, has_attribute, is_quote, quoted_from, tag_from}

bind_some : {A B : Type 0} (o : Option A) (f : A → Option B) (y : B) → (o >>= f) ≡ Some y → (x : A) × (o ≡ Some x) × (f x ≡ Some y)
bind_some None f y e = absurd cc
bind_some (Some x) f y e = (x, refl, e)

if_some : {A : Type 0} (b : Bool) (o : Option A) (y : A) → (if b then o else None) ≡ Some y → o ≡ Some y
if_some true o y e = e
if_some false o y e = absurd cc

choice : {A : Type 0} (P : A → Type 0) (b : Bool) (o p : Option A) (y : A) → (if b then o else p) ≡ Some y → (o ≡ Some y → P y) → (p ≡ Some y → P y) → P y
choice P true o p y e one two = one e
choice P false o p y e one two = two e

-- what is read leaves at most so many bytes
abbrev Leaves : {A : Type 0} → ℕ → Option (A × List ℕ) → Type 0
Leaves {A} n o = (r : A × List ℕ) → o ≡ Some r → length r.1 ≤ n

given : {A : Type 0} (n : ℕ) (x : A) (rest : List ℕ) → length rest ≤ n → Leaves n (Some (x, rest))
given n x rest few r e = let same : rest ≡ r.1 = cc in omega (arith, few, ap length same)

drop_few : (n : ℕ) (xs : List ℕ) → length (drop n xs) ≤ length xs
drop_few n xs = omega (arith, length-drop n xs)

name_leaves : (bytes : List ℕ) → Leaves (length bytes) (name_from bytes)
unfolding name_from
name_leaves [] r e = absurd cc
name_leaves (b ∷ bs) r e =
    let n = run_len continues_name (b ∷ bs) in
    given (length (b ∷ bs)) (take n (b ∷ bs)) (drop n (b ∷ bs)) (drop_few n (b ∷ bs)) r (if_some (starts_name b) _ r e)

byte_leaves : (c : ℕ) (bytes rest : List ℕ) → byte_from c bytes ≡ Some rest → length rest < length bytes
unfolding byte_from
byte_leaves c [] rest e = absurd cc
byte_leaves c (b ∷ bs) rest e = let is : Some bs ≡ Some rest = if_some (b == c) (Some bs) rest e in let same : bs ≡ rest = cc in omega (arith, ap length same)

white_few : (bytes : List ℕ) → length (behind_white bytes) ≤ length bytes
white_few bytes = drop_few (run_len is_white bytes) bytes

parted_leaves : (mark bytes : List ℕ) → Leaves (length bytes) (parted_at mark bytes)
unfolding parted_at
parted_leaves mark [] r e = absurd cc
parted_leaves mark (b ∷ bs) r e =
    choice (λ x. length x.1 ≤ length (b ∷ bs)) (starts_with nat_eq (b ∷ bs) mark) _ _ r e
    (λ one. given (length (b ∷ bs)) [] (drop (length mark) (b ∷ bs)) (drop_few (length mark) (b ∷ bs)) r one)
    (λ two.
    let parts = bind_some (parted_at mark bs) (λ p. Some (b ∷ p.0, p.1)) r two in
    let few = parted_leaves mark bs parts.0 parts.1 in
    given (length (b ∷ bs)) (b ∷ parts.0.0) parts.0.1 (omega (arith, few)) r parts.2)

closed_leaves : (quote n : ℕ) (bytes : List ℕ) → Leaves (length bytes) (closed_by quote n bytes)
closed_leaves quote n bytes r e =
    let parts = bind_some (byte_from quote (drop n bytes)) (λ rest. Some (take n bytes, rest)) r e in
    given (length bytes) (take n bytes) parts.0 (omega (arith, byte_leaves quote (drop n bytes) parts.0 parts.1, drop_few n bytes)) r parts.2

quoted_leaves : (bytes : List ℕ) → Leaves (length bytes) (quoted_from bytes)
unfolding quoted_from
quoted_leaves [] r e = absurd cc
quoted_leaves (q ∷ bs) r e =
    let few = closed_leaves q (position_or_len (λ b. b == q || b == 60) bs) bs r (if_some (is_quote q) _ r e) in omega (arith, few)

attribute_leaves : (bytes : List ℕ) → Leaves (length bytes) (attribute_from bytes)
unfolding attribute_from
attribute_leaves bytes r e =
    let name = bind_some (name_from bytes) _ r e in
    let equals = bind_some (byte_from 61 (behind_white name.0.1)) _ r name.2 in
    let value = bind_some (quoted_from (behind_white equals.0)) _ r equals.2 in
    given (length bytes) _ value.0.1
    (omega (arith, name_leaves bytes name.0 name.1, white_few name.0.1, byte_leaves 61 (behind_white name.0.1) equals.0 equals.1, white_few equals.0, quoted_leaves (behind_white equals.0) value.0 value.1)) r value.2

attributes_leave : (n : ℕ) (bytes : List ℕ) → Leaves (length bytes) (attributes_from n bytes)
unfolding attributes_from
attributes_leave zero bytes r e = given (length bytes) [] bytes (omega arith) r e
attributes_leave (suc n) bytes r e =
    choice (λ x. length x.1 ≤ length bytes) (has_attribute bytes) _ _ r e
    (λ one.
    let first = bind_some (attribute_from (behind_white bytes)) _ r one in
    let others = bind_some (attributes_from n first.0.1) _ r first.2 in
    given (length bytes) _ others.0.1
    (omega (arith, white_few bytes, attribute_leaves (behind_white bytes) first.0 first.1, attributes_leave n first.0.1 others.0 others.1)) r others.2)
    (λ two. given (length bytes) [] bytes (omega arith) r two)

tag_leaves : (bytes : List ℕ) → Leaves (length bytes) (tag_from bytes)
unfolding tag_from
tag_leaves bytes r e =
    let name = bind_some (name_from bytes) _ r e in
    let attributes = bind_some (attributes_from (length name.0.1) name.0.1) _ r name.2 in
    given (length bytes) _ attributes.0.1
    (omega (arith, name_leaves bytes name.0 name.1, attributes_leave (length name.0.1) name.0.1 attributes.0 attributes.1)) r
    (if_some (are_distinct (map (λ a. a.name) attributes.0.0)) _ r attributes.2)

ended_leaves : (tag : TagText) (bytes : List ℕ) → Leaves (length bytes) (ended tag bytes)
ended_leaves tag [] r e = absurd cc
ended_leaves tag (b ∷ bs) r e =
    choice (λ x. length x.1 ≤ length (b ∷ bs)) (b == 62) _ _ r e
    (λ one. given (length (b ∷ bs)) _ bs (omega arith) r one)
    (λ two.
    let rest = bind_some (byte_from 62 bs) _ r (if_some (b == 47) _ r two) in
    given (length (b ∷ bs)) _ rest.0 (omega (arith, byte_leaves 62 bs rest.0 rest.1)) r rest.2)

start_leaves : (bytes : List ℕ) → Leaves (length bytes) (start_from bytes)
unfolding start_from
start_leaves bytes r e =
    let tag = bind_some (tag_from bytes) _ r e in
    omega (arith, tag_leaves bytes tag.0 tag.1, white_few tag.0.1, ended_leaves tag.0.0 (behind_white tag.0.1) r tag.2)

end_leaves : (bytes : List ℕ) → Leaves (length bytes) (end_from bytes)
unfolding end_from
end_leaves bytes r e =
    let name = bind_some (name_from bytes) _ r e in
    let rest = bind_some (byte_from 62 (behind_white name.0.1)) _ r name.2 in
    given (length bytes) _ rest.0 (omega (arith, name_leaves bytes name.0 name.1, white_few name.0.1, byte_leaves 62 (behind_white name.0.1) rest.0 rest.1)) r rest.2

comment_leaves : (bytes : List ℕ) → Leaves (length bytes) (comment_from bytes)
unfolding comment_from
comment_leaves bytes r e =
    let parts = bind_some (parted_at (codes "--") bytes) _ r e in
    let rest = bind_some (byte_from 62 parts.0.1) _ r parts.2 in
    given (length bytes) _ rest.0 (omega (arith, parted_leaves (codes "--") bytes parts.0 parts.1, byte_leaves 62 parts.0.1 rest.0 rest.1)) r rest.2

data_leaves : (bytes : List ℕ) → Leaves (length bytes) (data_from bytes)
unfolding data_from
data_leaves bytes r e = let parts = bind_some (parted_at (codes "]]>") bytes) _ r e in given (length bytes) _ parts.0.1 (parted_leaves (codes "]]>") bytes parts.0 parts.1) r parts.2

doctype_leaves : (bytes : List ℕ) → Leaves (length bytes) (doctype_from bytes)
unfolding doctype_from
doctype_leaves bytes r e = let parts = bind_some (parted_at (codes ">") bytes) _ r e in given (length bytes) _ parts.0.1 (parted_leaves (codes ">") bytes parts.0 parts.1) r parts.2

instruction_leaves : (bytes : List ℕ) → Leaves (length bytes) (instruction_from bytes)
unfolding instruction_from
instruction_leaves bytes r e = let parts = bind_some (parted_at (codes "?>") bytes) _ r e in given (length bytes) _ parts.0.1 (parted_leaves (codes "?>") bytes parts.0 parts.1) r parts.2

marked_leaves : (bytes : List ℕ) → Leaves (length bytes) (marked_from bytes)
marked_leaves bytes r e =
    choice (λ x. length x.1 ≤ length bytes) (starts_with nat_eq bytes (codes "[CDATA[")) _ _ r e
    (λ one. omega (arith, data_leaves (drop 7 bytes) r one, drop_few 7 bytes))
    (λ two. omega (arith, doctype_leaves (drop 7 bytes) r (if_some (starts_with nat_eq bytes (codes "DOCTYPE")) _ r two), drop_few 7 bytes))

declared_leaves : (bytes : List ℕ) → Leaves (length bytes) (declared_from bytes)
unfolding declared_from
declared_leaves bytes r e =
    choice (λ x. length x.1 ≤ length bytes) (starts_with nat_eq bytes (codes "--")) _ _ r e
    (λ one. omega (arith, comment_leaves (drop 2 bytes) r one, drop_few 2 bytes)) (λ two. marked_leaves bytes r two)

markup_leaves : (bytes : List ℕ) → Leaves (length bytes) (markup_from bytes)
unfolding markup_from
markup_leaves [] r e = absurd cc
markup_leaves (b ∷ bs) r e =
    choice (λ x. length x.1 ≤ length (b ∷ bs)) (b == 47) _ _ r e
    (λ one. omega (arith, end_leaves bs r one))
    (λ two.
    choice (λ x. length x.1 ≤ length (b ∷ bs)) (b == 33) _ _ r two
    (λ three. omega (arith, declared_leaves bs r three))
    (λ four.
    choice (λ x. length x.1 ≤ length (b ∷ bs)) (b == 63) _ _ r four
    (λ five. omega (arith, instruction_leaves bs r five)) (λ six. start_leaves (b ∷ bs) r six)))

character_leaves : (bytes : List ℕ) → Leaves (length bytes) (character_from bytes)
unfolding character_from reference_from
character_leaves bytes r e =
    let found = bind_some (reference_from bytes) _ r e in
    let parts = bind_some (parted_at (59 ∷ []) bytes) _ found.0 found.1 in
    let meaning = bind_some (meaning_of parts.0.0) _ found.0 parts.2 in
    let behind : length found.0.1 ≤ length bytes = given (length bytes) meaning.0 parts.0.1 (parted_leaves (59 ∷ []) bytes parts.0 parts.1) found.0 meaning.2 in
    given (length bytes) _ found.0.1 behind r found.2

text_leaves : (b : ℕ) (bs : List ℕ) (r : Token × List ℕ) (t : Token) → (b == 60) ≡ false → (b == 38) ≡ false
    → Some (t, drop (position_or_len (λ c. c == 60 || c == 38) (b ∷ bs)) (b ∷ bs)) ≡ Some r → length r.1 < length (b ∷ bs)
text_leaves b bs r t one two e =
    let m = position_or_len (λ c. c == 60 || c == 38) bs in
    let some : position_or_len (λ c. c == 60 || c == 38) (b ∷ bs) ≡ 1 + m = ap (λ x. cond (not (x || (b == 38))) (1 + m) 0) one ∙ ap (λ x. cond (not x) (1 + m) 0) two in
    let same : drop (position_or_len (λ c. c == 60 || c == 38) (b ∷ bs)) (b ∷ bs) ≡ r.1 = cc in
    omega (arith, some, length-drop (position_or_len (λ c. c == 60 || c == 38) (b ∷ bs)) (b ∷ bs), ap length same)

choice_is : {A : Type 0} (P : A → Type 0) (b : Bool) (o p : Option A) (y : A) → (if b then o else p) ≡ Some y → (b ≡ true → o ≡ Some y → P y) → (b ≡ false → p ≡ Some y → P y) → P y
choice_is P true o p y e one two = one refl e
choice_is P false o p y e one two = two refl e

pub token_leaves : (bytes : List ℕ) (r : Token × List ℕ) → token_from bytes ≡ Some r → length r.1 < length bytes
unfolding token_from
token_leaves [] r e = absurd cc
token_leaves (b ∷ bs) r e =
    choice_is (λ x. length x.1 < length (b ∷ bs)) (b == 60) _ _ r e
    (λ is one. omega (arith, markup_leaves bs r one))
    (λ other two.
    choice_is (λ x. length x.1 < length (b ∷ bs)) (b == 38) _ _ r two
    (λ is three. omega (arith, character_leaves bs r three)) (λ another four. text_leaves b bs r _ other another four))
