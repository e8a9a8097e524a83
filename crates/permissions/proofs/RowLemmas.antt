-- Who is bound from places, and the definition of who is allowed what.
use Rattle.std.proofs.Common.{◌≡◌, ℕ, Bool, true, false, ◌||◌, List, [], ◌∷◌, length, Option, Some, None, refl, sym, ap, ◌∙◌, inl, inr, eq-eqb}
use Rattle.std.specs.Prelude.{◌==◌, ◌↔◌}
use Rattle.std.specs.List.{list_any}
use Rattle.std.proofs.lemmas.Bool.{or_cases, or_left, or_right}
use Rattle.policy_checks.specs.declared.permission.Permission.{Permission}
use Rattle.policy_tables.specs.declared.tables.PolicyTables.{PolicyTables}
use Rattle.permissions.specs.Allows.{binds_in, binds, root_of, Allows}
use Rattle.policy_checks.specs.Checks.{realm_names}
use Rattle.permissions.specs.Grants.{bindings_at, IsBoundFrom, IsBoundByName}
use Rattle.policy_checks.specs.Index.{place_of}
use Rattle.permissions.specs.Reach.{IsWalk}
use Rattle.permissions.proofs.GrantLemmas.{realm_place}
use Rattle.permissions.proofs.ReachLemmas.{PlacesWalk, walk_over_places, walk_over_names, not_there-extended, no_walk}

pub differ : (a b : ℕ) → (a == b) ≡ false → a ≡ b → ⊥
differ a b e h = let yes_it_is : (a == b) ≡ true = eq-eqb a b h in let no : false ≡ true = sym e ∙ yes_it_is in cc

-- from a place to the names
pub bound_by_name : (t : PolicyTables) (u : ℕ) (p : Permission) (name : List ℕ) (place : ℕ) → place_of name (realm_names t) ≡ Some place → IsBoundFrom t place u p → IsBoundByName t name u p
bound_by_name t u p name place is w = elim w.reached [
  | inl here ↦ record {
    to = name;
    reached = record { path = []; walk = refl };
    bound = ap (list_any (binds_in t u p)) (sym (realm_place name t.realms w.to (is ∙ ap Some here))) ∙ w.bound;
  }
  | inr on ↦
      let (b, path, len, end, walk) = walk_over_names t name place (on.first ∷ on.others) w.to is on.walk in
      record { to = b; reached = record { path = path; walk = walk }; bound = ap (list_any (binds_in t u p)) (sym (realm_place b t.realms w.to end)) ∙ w.bound }
]

-- a realm that isn't there binds nobody
none_bound : (t : PolicyTables) (u : ℕ) (p : Permission) (name : List ℕ) → place_of name (realm_names t) ≡ None → binds t u p name ≡ true → ⊥
none_bound t u p name none e = let no : false ≡ true = sym (ap (λ r. list_any (binds_in t u p) r.bindings) (not_there-extended name t.realms none)) ∙ e in cc

known_place : (t : PolicyTables) (u : ℕ) (p : Permission) (name : List ℕ) → binds t u p name ≡ true → (q : ℕ) × (place_of name (realm_names t) ≡ Some q)
known_place t u p name e = known (place_of name (realm_names t)) refl where
  known : (o : Option ℕ) → place_of name (realm_names t) ≡ o → (q : ℕ) × (place_of name (realm_names t) ≡ Some q)
  known (Some q) is = (q, is)
  known None none = absurd (none_bound t u p name none e)

-- and back
pub bound_by_place : (t : PolicyTables) (u : ℕ) (p : Permission) (name : List ℕ) (place : ℕ) → place_of name (realm_names t) ≡ Some place → IsBoundByName t name u p → IsBoundFrom t place u p
bound_by_place t u p name place is w =
    let (q, end) = known_place t u p w.to w.bound in
    let bound : list_any (binds_in t u p) (bindings_at t.realms q) ≡ true = ap (list_any (binds_in t u p)) (realm_place w.to t.realms q end) ∙ w.bound in
    from_walk q bound (walk_over_places t name w.to w.reached.path place q is end w.reached.walk) where
      from_walk : (q : ℕ) → list_any (binds_in t u p) (bindings_at t.realms q) ≡ true → PlacesWalk t place q (length w.reached.path) → IsBoundFrom t place u p
      from_walk q bound ([], len, walk) = record { to = q; reached = inl walk; bound = bound }
      from_walk q bound (x ∷ xs, len, walk) = record { to = q; reached = inr (record { first = x; others = xs; walk = walk }); bound = bound }

pub unknown_bound : (t : PolicyTables) (u : ℕ) (p : Permission) (name : List ℕ) → place_of name (realm_names t) ≡ None → IsBoundByName t name u p → ⊥
unknown_bound t u p name none w = from_path w.reached.path w.reached.walk where
  from_path : (path : List (List ℕ)) → IsWalk t name path w.to → ⊥
  from_path [] same = none_bound t u p name none (ap (binds t u p) same ∙ w.bound)
  from_path (x ∷ xs) walk = no_walk t name name x xs none walk.0

-- the two walks together
pub allowed : (t : PolicyTables) (u : ℕ) (p : Permission) (realm : List ℕ) (own root : Bool) → ((own ≡ true) ↔ IsBoundByName t realm u p) → ((root ≡ true) ↔ IsBoundByName t (root_of realm) u p)
    → ((own || root) ≡ true) ↔ Allows t u p realm
allowed t u p realm own root h h' = (
  λ e. elim (or_cases own root e) [
    | inl a ↦ let w = h.0 a in record { name = w.to; asked = inl w.reached; bound = w.bound }
    | inr b ↦ let w = h'.0 b in record { name = w.to; asked = inr w.reached; bound = w.bound }
  ],
  λ w. elim w.asked [
    | inl a ↦ or_left own root (h.1 (record { to = w.name; reached = a; bound = w.bound }))
    | inr b ↦ or_right own root (h'.1 (record { to = w.name; reached = b; bound = w.bound }))
  ],
)

pub bound_over_names : (t : PolicyTables) (u : ℕ) (p : Permission) (name : List ℕ) (place : ℕ) (b : Bool) → place_of name (realm_names t) ≡ Some place
    → ((b ≡ true) ↔ IsBoundFrom t place u p) → (b ≡ true) ↔ IsBoundByName t name u p
bound_over_names t u p name place b is h = (λ e. bound_by_name t u p name place is (h.0 e), λ w. h.1 (bound_by_place t u p name place is w))

pub not_bound : (t : PolicyTables) (u : ℕ) (p : Permission) (name : List ℕ) → None ≡ place_of name (realm_names t) → (false ≡ true) ↔ IsBoundByName t name u p
not_bound t u p name none = (λ e. cc, λ w. absurd (unknown_bound t u p name (sym none) w))
