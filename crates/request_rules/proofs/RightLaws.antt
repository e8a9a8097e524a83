-- Rights in the realms of several invocations, one invocation at a time.
use Rattle.std.proofs.Common.{◌≡◌, ◌<◌, ◌+◌, ℕ, List, [], ◌∷◌, ◌++◌, length, map, take, drop, get_or, refl, add-one, Option, Some, None, sym, subst, ◌∙◌, ap}
use Rattle.request_demands.specs.declared.grants.Grant.{Grant}
use Rattle.std.proofs.Math.Seq.{take-suc}
use Rattle.std.proofs.lemmas.List.{map-append}
use Rattle.invocations.specs.declared.invocation.Invocation.{Invocation}
use Rattle.request_rules.specs.Rights.{Right, right, rights_here, rights_in, rights_of}
use Rattle.request_rules.specs.Named.{row_at}
use Rattle.request_demands.specs.Order.{FirstOf}
use Rattle.request_rules.proofs.Firsts.{drop_at, first_in_front, first_in_more}

module _ (Holds : Right → Type 0) (rows : List Invocation) (takes : List Grant) (places : List (Option ℕ)) (i : ℕ) (place : Option ℕ)
    (lt : i < length places) (at : get_or places i place ≡ place) where
  abbrev rest : List (Option ℕ)
  rest = drop (i + 1) places

  opened : place ∷ rest ≡ drop i places
  opened = sym (drop_at places i place lt ∙ ap (λ (x : Option ℕ). x ∷ rest) at)

  pub rights_here_first : (x : Right) → FirstOf Holds (rights_of (row_at rows place) takes) (Some x)
      → FirstOf Holds (rights_in rows takes (drop i places)) (Some x)
  rights_here_first x first =
      subst (λ (l : List (Option ℕ)). FirstOf Holds (rights_in rows takes l) (Some x)) opened
      (first_in_front Holds (rights_of (row_at rows place) takes) (rights_in rows takes rest) x first)

  pub rights_on : FirstOf Holds (rights_of (row_at rows place) takes) None → (found : Option Right)
      → FirstOf Holds (rights_in rows takes rest) found → FirstOf Holds (rights_in rows takes (drop i places)) found
  rights_on none found first =
      subst (λ (l : List (Option ℕ)). FirstOf Holds (rights_in rows takes l) found) opened
      (first_in_more Holds (rights_of (row_at rows place) takes) (rights_in rows takes rest) found none first)

-- the rights to the grants from one on in a realm, where the caller has the right to this one
pub here_on : (Holds : Right → Type 0) (realm : List ℕ) (takes : List Grant) (i : ℕ) (grant : Grant) → i < length takes
    → get_or takes i grant ≡ grant → FirstOf Holds (right grant realm ∷ []) None → (found : Option Right)
    → FirstOf Holds (rights_here (Some realm) (drop (i + 1) takes)) found → FirstOf Holds (rights_here (Some realm) (drop i takes)) found
here_on Holds realm takes i grant lt at none found first =
    let opened : drop i takes ≡ grant ∷ drop (i + 1) takes =
    drop_at takes i grant lt ∙ ap (λ (g : Grant). g ∷ drop (i + 1) takes) at in
    subst (λ (l : List Grant). FirstOf Holds (rights_here (Some realm) l) found) (sym opened)
    (first_in_more Holds (right grant realm ∷ []) (rights_here (Some realm) (drop (i + 1) takes)) found none first)

-- the first right of the same invocations, for the same permissions
pub rights_same : (Holds : Right → Type 0) (rows : List Invocation) (found : Option Right) (takes these : List Grant)
    (places those : List (Option ℕ)) → takes ≡ these → places ≡ those → FirstOf Holds (rights_in rows takes places) found
    → FirstOf Holds (rights_in rows these those) found
rights_same Holds rows found takes these places those e f first =
    subst (λ (ts : List Grant). FirstOf Holds (rights_in rows ts those) found) e
    (subst (λ (ps : List (Option ℕ)). FirstOf Holds (rights_in rows takes ps) found) f first)

-- what is found of one permission more
pub found_more : {A B : Type 0} → (f : A → B) (old new : List A) (x : A) (all : List B) (i : ℕ) (y : B) → i < length all
    → map f old ≡ take i all → new ≡ old ++ x ∷ [] → f x ≡ get_or all i y → map f new ≡ take (i + 1) all
found_more {A} {B} f old new x all i y lt old_is new_is is =
    let more : take (i + 1) all ≡ take i all ++ get_or all i y ∷ [] = rw (add-one, take-suc all i y) refl in
    ap (map f) new_is ∙ (map-append f old (x ∷ []) ∙ (ap (λ (l : List B). l ++ f x ∷ []) old_is
    ∙ (ap (λ (z : B). take i all ++ z ∷ []) is ∙ sym more)))
