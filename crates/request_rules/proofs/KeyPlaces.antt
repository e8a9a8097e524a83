-- The place of the row with a key, in a table that has each key once.
use Rattle.std.proofs.Common.{◌≡◌, ◌<◌, ℕ, Bool, true, false, cond, List, [], ◌∷◌, length, get_or, map, Option, Some, None, option_map, refl, sym, ap, ◌∙◌, subst, inl, inr, arith}
use Rattle.std.specs.Prelude.{◌&&◌, nat_lt, position, slice_get, Contains, MatchOption}
use Rattle.std.proofs.lemmas.Bool.{cases_Bool, lt-ltb}
use Rattle.std.proofs.lemmas.List.Quantifiers.{position-Some}
use Rattle.std.proofs.lemmas.List.Sums.{position_or_len_is}
use Rattle.std.proofs.lemmas.Option.{get_or_from_slice_get, none-some, same_Some, slice_get-get_or, slice_get-map, slice_get_within}
use Rattle.request_rules.proofs.PlaceLaws.{slice_get-Contains}

-- whether a row has a key is decided
pub record Decides {R K : Type 0} (key_of : R → K) (has : K → R → Bool) : Type 0 where
  pub is : (key : K) (row : R) → has key row ≡ true → key_of row ≡ key
  pub own : (key : K) (row : R) → key_of row ≡ key → has key row ≡ true

pub both_true : (a b : Bool) → (a && b) ≡ true → (a ≡ true) × (b ≡ true)
both_true true b e = (refl, e)
both_true false b e = let no : false ≡ true = e in absurd cc

pub all_true : (a b c : Bool) → a ≡ true → b ≡ true → c ≡ true → (a && (b && c)) ≡ true
all_true a b c e f g = ap (λ (x : Bool). x && (b && c)) e ∙ (ap (λ (x : Bool). x && c) f ∙ g)

-- the row that has the key that stands at a place
row_with : {R K : Type 0} (key_of : R → K) (key : K) (o : Option R) → option_map key_of o ≡ Some key
    → (row : R) × (o ≡ Some row) × (key_of row ≡ key)
row_with key_of key None e = absurd (none-some key e)
row_with key_of key (Some row) e = (row, refl, same_Some (key_of row) key e)

-- the key stands where a row has it
stands_at : {R K : Type 0} (key_of : R → K) (has : K → R → Bool) → Decides key_of has → (held : List R) (key : K) (i : ℕ) (d : R) → i < length held
    → has key (get_or held i d) ≡ true → slice_get (map key_of held) i ≡ Some key
stands_at {R} {K} key_of has decides held key i d lt hit =
    slice_get-map key_of held i ∙ (ap (option_map key_of) (slice_get-get_or held i d lt)
    ∙ ap (λ (k : K). Some k) (decides.is key (get_or held i d) hit))

none_found : {R K : Type 0} (key_of : R → K) (has : K → R → Bool) → Decides key_of has → (held : List R) (key : K) (o : Option ℕ)
    → position (has key) held ≡ o → (¬ Contains (map key_of held) key) → o ≡ None
none_found key_of has decides held key None e absent = refl
none_found key_of has decides [] key (Some i) e absent = let no : None ≡ Some i = e in absurd cc
none_found key_of has decides (row ∷ rows) key (Some i) e absent =
    let at = position-Some (has key) (row ∷ rows) i row e in
    absurd (absent (slice_get-Contains (map key_of (row ∷ rows)) i key (stands_at key_of has decides (row ∷ rows) key i row at.0 at.1)))

some_found : {R K : Type 0} (key_of : R → K) (has : K → R → Bool) → Decides key_of has → (held : List R) (key : K) (place : ℕ)
    → ((i j : ℕ) → slice_get (map key_of held) i ≡ Some key → slice_get (map key_of held) j ≡ Some key → i ≡ j)
    → slice_get (map key_of held) place ≡ Some key → position (has key) held ≡ Some place
some_found {R} {K} key_of has decides held key place unique is =
    let there = row_with key_of key (slice_get held place) (sym (slice_get-map key_of held place) ∙ is) in
    let row = there.0 in
    let lt = slice_get_within held place row there.1 in
    let before : (k : ℕ) → k < place → has key (get_or held k row) ≡ false = λ k below.
    elim (cases_Bool (has key (get_or held k row))) [
      | inl hit ↦ let same = unique k place (stands_at key_of has decides held key k row (omega arith) hit) is in absurd (omega (arith, same))
      | inr miss ↦ miss
    ] in
    let own : has key (get_or held place row) ≡ true =
    decides.own key (get_or held place row) (ap key_of (get_or_from_slice_get held place row row there.1) ∙ there.2) in
    let at = position_or_len_is (has key) held place row (omega arith) before (λ _. own) in
    ap (λ (n : ℕ). cond (nat_lt n (length held)) (Some n) None) at
    ∙ ap (λ (b : Bool). cond b (Some place) None) (lt-ltb place (length held) lt)

-- the place that a table finds for a key is the place of the first row with this key
pub place_found : {R K : Type 0} (key_of : R → K) (has : K → R → Bool) → Decides key_of has → (held : List R) (key : K) (o : Option ℕ)
    → ((i j : ℕ) → slice_get (map key_of held) i ≡ Some key → slice_get (map key_of held) j ≡ Some key → i ≡ j)
    → MatchOption o (¬ Contains (map key_of held) key) (λ place. slice_get (map key_of held) place ≡ Some key)
    → o ≡ position (has key) held
place_found key_of has decides held key None unique absent =
    sym (none_found key_of has decides held key (position (has key) held) refl absent)
place_found key_of has decides held key (Some place) unique is = sym (some_found key_of has decides held key place unique is)

-- a row stands at the place of a key, and it has it
pub placed_row : {R K : Type 0} (key_of : R → K) (has : K → R → Bool) → Decides key_of has → (held : List R) (key : K) (i : ℕ)
    → position (has key) held ≡ Some i → (row : R) × (slice_get held i ≡ Some row) × (key_of row ≡ key)
placed_row key_of has decides [] key i e = let no : None ≡ Some i = e in absurd cc
placed_row key_of has decides (row ∷ rows) key i e =
    let at = position-Some (has key) (row ∷ rows) i row e in (
      get_or (row ∷ rows) i row,
      slice_get-get_or (row ∷ rows) i row at.0,
      decides.is key (get_or (row ∷ rows) i row) at.1,
    )
