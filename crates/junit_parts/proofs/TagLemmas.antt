-- Attributes, one in front of the others, and names that differ from all behind them.
use Rattle.std.proofs.Common.{◌≡◌, ℕ, zero, suc, ◌+◌, ◌-◌, ◌<◌, ◌≤◌, Bool, true, false, not, ◌||◌, ◌&&◌, cond, List, [], ◌∷◌, ◌++◌, length, map, drop, Option, Some, None, refl, sym, ap, ◌∙◌, arith, append_assoc, get_or}
use Rattle.std.specs.Borrow.{Bor}
use Rattle.std.specs.Ordering.{is_eq, nat_cmp}
use Rattle.std.specs.declared.cmp.Ordering.{Ordering}
use Rattle.std.specs.BTreeSet.{BTreeSet, contains}
use Rattle.std.specs.BTreeMap.{is_at}
use Rattle.std.specs.Cmp.Lexicographic.{slice_cmp, texts_ties}
use Rattle.std.specs.List.{list_any}
use Rattle.std.specs.Str.{bytes_eq}
use Rattle.std.proofs.lemmas.List.{append-nil, drop_more}
use Rattle.junit_parts.specs.Bytes.{◌>>=◌, behind_white}
use Rattle.junit_parts.specs.Tags.{AttributeText, are_distinct, attribute_from, attribute_text, attributes_from, has_attribute}
use Rattle.junit_parts.specs.declared.tags.Attribute.{Attribute}
use Rattle.junit_parts.specs.declared.unread.Unread.{Unread}
use Rattle.junit_parts.specs.declared.unread.Unread.TheVariants.{Memory, Broken}
use Rattle.junit_parts.specs.Answers.{Fails}

-- these attributes in front of those that are read
abbrev pub put_in_front : List AttributeText → Option (List AttributeText × List ℕ) → Option (List AttributeText × List ℕ)
put_in_front front read = read >>= λ r. Some (front ++ r.0, r.1)

abbrev pub names_of : List Attribute → List (List ℕ)
names_of attributes = map (λ (a : AttributeText). a.name) (map attribute_text attributes)

regroup : (front : List AttributeText) (a : AttributeText) (read : Option (List AttributeText × List ℕ)) → put_in_front front (read >>= λ others. Some (a ∷ others.0, others.1)) ≡ put_in_front (front ++ a ∷ []) read
regroup front a None = refl
regroup front a (Some r) = ap (λ (xs : List AttributeText). Some (xs, r.1)) (sym (append_assoc front (a ∷ []) r.0))

no_attribute : has_attribute [] ≡ false
no_attribute = refl

pub some_bytes : (bytes : List ℕ) → has_attribute bytes ≡ true → 0 < length bytes
some_bytes [] has = absurd (let both : false ≡ true = sym no_attribute ∙ has in cc)
some_bytes (b ∷ bs) has = omega arith

abbrev Whole : Type 0
Whole = Option (List AttributeText × List ℕ)

pub one_more : (n : ℕ) (front : List AttributeText) (a : AttributeText) (bytes rest : List ℕ) (whole : Whole) → length bytes ≤ n → put_in_front front (attributes_from n bytes) ≡ whole
    → has_attribute bytes ≡ true → attribute_from (behind_white bytes) ≡ Some (a, rest) → length rest < length bytes
    → (m : ℕ) × (length rest ≤ m) × (put_in_front (front ++ a ∷ []) (attributes_from m rest) ≡ whole)
unfolding attributes_from
one_more zero front a bytes rest whole few so_far has read shorter = absurd (omega arith)
one_more (suc m) front a bytes rest whole few so_far has read shorter =
    let one : put_in_front front (attributes_from (suc m) bytes) ≡ put_in_front (front ++ a ∷ []) (attributes_from m rest) = rw (has, read) (regroup front a (attributes_from m rest)) in
    (m, omega arith, sym one ∙ so_far)

pub breaks_off : (e : Unread) (n : ℕ) (front : List AttributeText) (bytes : List ℕ) (whole : Whole) → length bytes ≤ n → put_in_front front (attributes_from n bytes) ≡ whole
    → has_attribute bytes ≡ true → Fails e (attribute_from (behind_white bytes)) → Fails e whole
unfolding attributes_from
breaks_off Memory n front bytes whole few so_far has read = tt
breaks_off Broken zero front bytes whole few so_far has read = let some = some_bytes bytes has in absurd (omega arith)
breaks_off Broken (suc m) front bytes whole few so_far has read =
    let one : put_in_front front (attributes_from (suc m) bytes) ≡ None = rw (has, read) refl in
    sym so_far ∙ one

pub all_read : (n : ℕ) (front : List AttributeText) (bytes : List ℕ) (whole : Whole) → put_in_front front (attributes_from n bytes) ≡ whole → has_attribute bytes ≡ false → whole ≡ Some (front, bytes)
unfolding attributes_from
all_read zero front bytes whole so_far has = sym so_far ∙ ap (λ (xs : List AttributeText). Some (xs, bytes)) (append-nil front)
all_read (suc m) front bytes whole so_far has =
    let one : put_in_front front (attributes_from (suc m) bytes) ≡ Some (front, bytes) = rw has (ap (λ (xs : List AttributeText). Some (xs, bytes)) (append-nil front)) in
    sym so_far ∙ one

-- a set of names that stand behind a place
abbrev pub HasNames : BTreeSet (Bor (List ℕ)) → List (List ℕ) → Type 0
HasNames s names = (q : Bor (List ℕ)) → contains (λ (x y : Bor (List ℕ)). slice_cmp nat_cmp x.now y.now) s q ≡ list_any (λ other. bytes_eq other q.now) names

pub compared : (name q : List ℕ) (more : Bool) → cond (is_eq (slice_cmp nat_cmp name q)) true more ≡ (bytes_eq name q || more)
compared name q more = ap (λ b. cond b true more) (sym (texts_ties name q)) ∙ elim (bytes_eq name q) as (λ b. cond b true more ≡ (b || more)) [ true ↦ refl | false ↦ refl ]

pub repeated : (name : List ℕ) (names : List (List ℕ)) → list_any (λ other. bytes_eq other name) names ≡ true → are_distinct (name ∷ names) ≡ false
repeated name names any = rw any refl

pub distinct_too : (name : List ℕ) (names : List (List ℕ)) → list_any (λ other. bytes_eq other name) names ≡ false → are_distinct names ≡ true → are_distinct (name ∷ names) ≡ true
distinct_too name names any others = rw (any, others) refl

-- names in front of some that stand twice
pub repeated_behind : (n : ℕ) (names : List (List ℕ)) → are_distinct (drop n names) ≡ false → are_distinct names ≡ false
repeated_behind zero names twice = twice
repeated_behind (suc n) [] twice = twice
repeated_behind (suc n) (name ∷ names) twice = rw (repeated_behind n names twice) (elim (list_any (λ other. bytes_eq other name) names) as (λ b. (not b && false) ≡ false) [ true ↦ refl | false ↦ refl ])

map_drop : (n : ℕ) (attributes : List Attribute) → drop n (names_of attributes) ≡ names_of (drop n attributes)
map_drop zero attributes = refl
map_drop (suc n) [] = refl
map_drop (suc n) (a ∷ attributes) = map_drop n attributes

pub none_left : (attributes : List Attribute) → drop (length attributes) (names_of attributes) ≡ []
none_left [] = refl
none_left (a ∷ attributes) = none_left attributes

pub name_at : (attributes : List Attribute) (at : ℕ) (d : Attribute) → at < length attributes → drop at (names_of attributes) ≡ (get_or attributes at d).name.now ∷ drop (at + 1) (names_of attributes)
name_at attributes at d within =
    map_drop at attributes ∙ ap names_of (drop_more attributes at d within) ∙ ap (λ (xs : List (List ℕ)). (get_or attributes at d).name.now ∷ xs) (sym (map_drop (at + 1) attributes))

pub nothing_held : (s : BTreeSet (Bor (List ℕ))) → s.keys ≡ [] → HasNames s []
nothing_held s none q = ap (list_any (is_at (λ (k : Bor (List ℕ)). slice_cmp nat_cmp q.now k.now))) none

abbrev by_bytes : Bor (List ℕ) → Bor (List ℕ) → Ordering
by_bytes x y = slice_cmp nat_cmp x.now y.now

behind_it : (attributes : List Attribute) (at : ℕ) → 0 < at → drop (at - 1 + 1) (names_of attributes) ≡ drop at (names_of attributes)
behind_it attributes at some = let same : at - 1 + 1 ≡ at = omega arith in ap (λ n. drop n (names_of attributes)) same

pub name_repeats : (s : BTreeSet (Bor (List ℕ))) (attributes : List Attribute) (at : ℕ) (d : Attribute) → 0 < at → at ≤ length attributes → HasNames s (drop at (names_of attributes))
    → contains by_bytes s (get_or attributes (at - 1) d).name ≡ true → are_distinct (names_of attributes) ≡ false
name_repeats s attributes at d some within held there =
    let a = get_or attributes (at - 1) d in
    let split : drop (at - 1) (names_of attributes) ≡ a.name.now ∷ drop at (names_of attributes) = name_at attributes (at - 1) d (omega arith) ∙ ap (λ (xs : List (List ℕ)). a.name.now ∷ xs) (behind_it attributes at some) in
    repeated_behind (at - 1) (names_of attributes) (ap are_distinct split ∙ repeated a.name.now (drop at (names_of attributes)) (sym (held a.name) ∙ there))

pub name_is_new : (s : BTreeSet (Bor (List ℕ))) (attributes : List Attribute) (at : ℕ) (d : Attribute) → 0 < at → at ≤ length attributes → HasNames s (drop at (names_of attributes))
    → are_distinct (drop at (names_of attributes)) ≡ true → contains by_bytes s (get_or attributes (at - 1) d).name ≡ false → are_distinct (drop (at - 1) (names_of attributes)) ≡ true
name_is_new s attributes at d some within held distinct there =
    let a = get_or attributes (at - 1) d in
    let split : drop (at - 1) (names_of attributes) ≡ a.name.now ∷ drop at (names_of attributes) = name_at attributes (at - 1) d (omega arith) ∙ ap (λ (xs : List (List ℕ)). a.name.now ∷ xs) (behind_it attributes at some) in
    ap are_distinct split ∙ distinct_too a.name.now (drop at (names_of attributes)) (sym (held a.name) ∙ there) distinct

pub name_held : (s n : BTreeSet (Bor (List ℕ))) (attributes : List Attribute) (at : ℕ) (d : Attribute) → 0 < at → at ≤ length attributes → HasNames s (drop at (names_of attributes))
    → ((q : Bor (List ℕ)) → contains by_bytes n q ≡ cond (is_at (λ (y : Bor (List ℕ)). slice_cmp nat_cmp (get_or attributes (at - 1) d).name.now y.now) q) true (contains by_bytes s q))
    → HasNames n (drop (at - 1) (names_of attributes))
name_held s n attributes at d some within held updates q =
    let a = get_or attributes (at - 1) d in
    let split : drop (at - 1) (names_of attributes) ≡ a.name.now ∷ drop at (names_of attributes) = name_at attributes (at - 1) d (omega arith) ∙ ap (λ (xs : List (List ℕ)). a.name.now ∷ xs) (behind_it attributes at some) in
    updates q ∙ ap (λ more. cond (is_eq (slice_cmp nat_cmp a.name.now q.now)) true more) (held q)
    ∙ compared a.name.now q.now (list_any (λ other. bytes_eq other q.now) (drop at (names_of attributes)))
    ∙ ap (list_any (λ other. bytes_eq other q.now)) (sym split)

pub negated : (b : Bool) → not b ≡ false → b ≡ true
negated true e = refl
negated false e = sym e

pub denied : (b : Bool) → not b ≡ true → b ≡ false
denied true e = sym e
denied false e = refl
