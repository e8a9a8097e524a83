-- The hash of each place, as the map and the links have it.
use Rattle.std.proofs.Common.{◌≡◌, ◌⊎◌, ◌<◌, ◌≤◌, IsSome, ℕ, zero, suc, Bool, true, false, eqb, List, [], ◌∷◌, ◌++◌, length, take, get_or, Contains, Option, Some, None, refl, sym, ap, ◌∙◌, subst, inl, inr, arith}
use Rattle.std.specs.HashMap.{HashMap, get, keys}
use Rattle.std.specs.List.{slice_get}
use Rattle.std.specs.Prelude.{nat_eq}
use Rattle.std.proofs.lemmas.Map.Views.{Contains-keys_from_lookup}
use Rattle.std.proofs.Math.Seq.{take-length, take-suc}
use Rattle.std.proofs.lemmas.Bool.{cases_eq, cases_lt, eqb-true, eq-eqb, ne_eqb, cond-true, cond-false}
use Rattle.std.proofs.lemmas.Option.{same_Some, slice_get-get_or, slice_get_within}
use Rattle.hash_chains.specs.Chains.{IsChained, IsLast, before_in, leads_to, hash_among, hashes_below, hashes_in}

either : (b : Bool) → (b ≡ true) ⊎ (b ≡ false)
either true = inl refl
either false = inr refl

before_last : (hashes : List ℕ) (latest : ℕ → Option ℕ) (earlier : List (Option ℕ)) (place hash : ℕ) → IsChained hashes latest earlier
    → slice_get hashes place ≡ Some hash → IsLast hashes place hash (before_in earlier place)
before_last hashes latest earlier place hash chained at =
    let within : place < length earlier = omega (arith, slice_get_within hashes place hash at, chained.count) in
    chained.links place hash (before_in earlier place) at (slice_get-get_or earlier place None within)

-- a walk comes to each place with its hash
leads : (hashes : List ℕ) (latest : ℕ → Option ℕ) (earlier : List (Option ℕ)) → IsChained hashes latest earlier
    → (steps end hash : ℕ) (found : Option ℕ) → end ≤ steps → IsLast hashes end hash found
    → (place : ℕ) → place < end → slice_get hashes place ≡ Some hash → leads_to earlier steps found place ≡ true
leads hashes latest earlier chained steps end hash None enough h place below at = absurd (h place below at)
leads hashes latest earlier chained zero end hash (Some here) enough h place below at = absurd (omega (arith, below, enough))
leads hashes latest earlier chained (suc steps) end hash (Some here) enough h place below at =
    let rest = leads_to earlier steps (before_in earlier here) place in
    elim (cases_eq here place) [
      | inl same ↦ cond-true (eqb here place) true rest (eq-eqb here place same)
      | inr other ↦ elim (cases_lt here place) [
        | inl lt ↦ absurd (h.2 place lt below at)
        | inr ge ↦ cond-false (eqb here place) true rest (ne_eqb here place other)
            ∙ leads hashes latest earlier chained steps here hash (before_in earlier here) (let low = h.0 in omega arith)
            (before_last hashes latest earlier here hash chained h.1) place (omega arith) at
      ]
    ]

-- and to no other
led : (hashes : List ℕ) (latest : ℕ → Option ℕ) (earlier : List (Option ℕ)) → IsChained hashes latest earlier
    → (steps end hash : ℕ) (found : Option ℕ) → IsLast hashes end hash found
    → (place : ℕ) → leads_to earlier steps found place ≡ true → slice_get hashes place ≡ Some hash
led hashes latest earlier chained steps end hash None h place e = let no : false ≡ true = e in cc
led hashes latest earlier chained zero end hash (Some here) h place e = let no : false ≡ true = e in cc
led hashes latest earlier chained (suc steps) end hash (Some here) h place e =
    elim (cases_eq here place) [
      | inl same ↦ ap (λ n. slice_get hashes n) (sym same) ∙ h.1
      | inr other ↦ led hashes latest earlier chained steps here hash (before_in earlier here)
          (before_last hashes latest earlier here hash chained h.1) place
          (sym (cond-false (eqb here place) true (leads_to earlier steps (before_in earlier here) place) (ne_eqb here place other)) ∙ e)
    ]

among : (hashes : List ℕ) (latest : ℕ → Option ℕ) (earlier : List (Option ℕ)) → IsChained hashes latest earlier
    → (keys : List ℕ) (place hash : ℕ) → slice_get hashes place ≡ Some hash → (k : ℕ) → k < length keys → get_or keys k hash ≡ hash
    → hash_among latest earlier keys place ≡ hash
among hashes latest earlier chained [] place hash at k within is = absurd (omega arith)
among hashes latest earlier chained (key ∷ keys) place hash at zero within is =
    let here : slice_get hashes place ≡ Some key = at ∙ ap (λ (n : ℕ). Some n) (sym is) in
    let led_here = leads hashes latest earlier chained (length earlier) (length hashes) key (latest key) (omega (arith, chained.count))
    (chained.lasts key) place (slice_get_within hashes place key here) here in
    cond-true (leads_to earlier (length earlier) (latest key) place) key (hash_among latest earlier keys place) led_here ∙ is
among hashes latest earlier chained (key ∷ keys) place hash at (suc k) within is =
    elim (either (leads_to earlier (length earlier) (latest key) place)) [
      | inl led_here ↦ cond-true (leads_to earlier (length earlier) (latest key) place) key (hash_among latest earlier keys place) led_here
          ∙ same_Some key hash (sym (led hashes latest earlier chained (length earlier) (length hashes) key (latest key) (chained.lasts key) place led_here) ∙ at)
      | inr not ↦ cond-false (leads_to earlier (length earlier) (latest key) place) key (hash_among latest earlier keys place) not
          ∙ among hashes latest earlier chained keys place hash at k (omega arith) is
    ]

below : (hashes : List ℕ) (latest : ℕ → Option ℕ) (earlier : List (Option ℕ)) (keys : List ℕ) → IsChained hashes latest earlier
    → ((place hash : ℕ) → slice_get hashes place ≡ Some hash → Contains keys hash) → (n : ℕ) → n ≤ length hashes
    → hashes_below latest earlier keys n ≡ take n hashes
below hashes latest earlier keys chained held zero within = refl
below hashes latest earlier keys chained held (suc n) within =
    let at = slice_get-get_or hashes n 0 (omega arith) in
    let key = held n (get_or hashes n 0) at in
    ap (λ (hs : List ℕ). hs ++ hash_among latest earlier keys n ∷ []) (below hashes latest earlier keys chained held n (omega arith))
    ∙ ap (λ h. take n hashes ++ h ∷ []) (among hashes latest earlier chained keys n (get_or hashes n 0) at key.0 key.1 key.2)
    ∙ sym (take-suc hashes n 0 (omega arith))

some_last : (hashes : List ℕ) (hash place : ℕ) (found : Option ℕ) → IsLast hashes (length hashes) hash found → slice_get hashes place ≡ Some hash
    → IsSome found
some_last hashes hash place None h at = absurd (h place (slice_get_within hashes place hash at) at)
some_last hashes hash place (Some last) h at = refl

-- the hash of each place is told, where the map has all of them as keys
pub hashes_are : (hashes : List ℕ) (latest : ℕ → Option ℕ) (earlier : List (Option ℕ)) (keys : List ℕ) → IsChained hashes latest earlier
    → ((hash : ℕ) → IsSome (latest hash) → Contains keys hash) → hashes_in latest earlier keys ≡ hashes
unfolding hashes_in
hashes_are hashes latest earlier keys chained held =
    ap (λ n. hashes_below latest earlier keys n) chained.count
    ∙ below hashes latest earlier keys chained
    (λ place hash at. held hash (some_last hashes hash place (latest hash) (chained.lasts hash) at)) (length hashes) (omega arith)
    ∙ take-length hashes

-- so they are in a map and its links

held_key : {S : Type 0} (map : HashMap ℕ ℕ S) (hash : ℕ) → IsSome (get nat_eq map hash) → Contains (keys map) hash
held_key map hash found = Contains-keys_from_lookup {eq = nat_eq} (λ x y e. eqb-true x y e) hash map.entries found

pub hashes_held : {S : Type 0} (hashes : List ℕ) (map : HashMap ℕ ℕ S) (earlier : List (Option ℕ)) → IsChained hashes (get nat_eq map) earlier
    → hashes_in (get nat_eq map) earlier (keys map) ≡ hashes
hashes_held hashes map earlier chained = hashes_are hashes (get nat_eq map) earlier (keys map) chained (held_key map)

pub chained_held : {S : Type 0} (hashes : List ℕ) (map : HashMap ℕ ℕ S) (earlier : List (Option ℕ)) → IsChained hashes (get nat_eq map) earlier
    → IsChained (hashes_in (get nat_eq map) earlier (keys map)) (get nat_eq map) earlier
chained_held hashes map earlier chained =
    subst (λ (hs : List ℕ). IsChained hs (get nat_eq map) earlier) (sym (hashes_held hashes map earlier chained)) chained
