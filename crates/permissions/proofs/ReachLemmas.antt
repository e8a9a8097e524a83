-- A walk over names is a walk over their places.
use Rattle.std.proofs.Common.{◌≡◌, ℕ, suc, zero, ◌<◌, Bool, true, false, cond, ◌||◌, List, [], ◌∷◌, length, map, get_or, Option, Some, None, option_map, refl, sym, ap, subst, ◌∙◌, inl, inr, arith, eq-eqb}
use Rattle.std.specs.Prelude.{◌==◌, ◌⊎◌, is_some}
use Rattle.std.proofs.lemmas.List.{length-map}
use Rattle.std.specs.Str.{bytes_eq}
use Rattle.std.specs.Cmp.Lexicographic.{bytes_decides}
use Rattle.std.proofs.lemmas.Bool.{cases_Bool, eqb-true}
use Rattle.policy_tables.specs.declared.tables.RealmTable.{RealmTable}
use Rattle.policy_tables.specs.declared.tables.PolicyTables.{PolicyTables}
use Rattle.policy_tables.specs.Entries.{with_entry}
use Rattle.policy_checks.specs.Index.{place_of}
use Rattle.policy_checks.specs.Checks.{is_there, realm_names}
use Rattle.policy_checks.proofs.IndexLemmas.{not_there}
use Rattle.policy_checks.proofs.PlaceLemmas.{place_step, place_of-within, place_of-name}
use Rattle.permissions.specs.Graph.{has, edges, IsGraph, IsWalkOn, ReachesOn, places_in, graph_from, graph_of}
use Rattle.permissions.specs.Reach.{realm_at, extended, IsWalk, ReachesItself}

-- the places that a place leads to are those that its realm extends
edges_from : (names : List (List ℕ)) (a : List ℕ) (realms : List RealmTable) (p : ℕ) → place_of a (map (λ r. r.name) realms) ≡ Some p
    → edges (graph_from names realms) p ≡ places_in names (realm_at a realms).extends
edges_from names a [] p e = let no : None ≡ Some p = e in cc
edges_from names a (r ∷ rs) p e = elim (place_step (bytes_eq a r.name) (place_of a (map (λ r. r.name) rs)) p e) [
  | inl h ↦ ap (λ (i : ℕ). edges (graph_from names (r ∷ rs)) i) h.1 ∙ rw h.0
  | inr h ↦ let (q, is, next) = h.1 in ap (λ (i : ℕ). edges (graph_from names (r ∷ rs)) i) next ∙ edges_from names a rs q is ∙ rw h.0
]

pub edges_of-graph : (t : PolicyTables) (a : List ℕ) (p : ℕ) → place_of a (realm_names t) ≡ Some p → edges (graph_of t) p ≡ places_in (realm_names t) (extended t a)
unfolding graph_of
edges_of-graph t a p e = edges_from (realm_names t) a t.realms p e

-- a realm that isn't there extends none
pub not_there-extended : (a : List ℕ) (realms : List RealmTable) → place_of a (map (λ r. r.name) realms) ≡ None → realm_at a realms ≡ record { name = a; extends = []; bindings = [] }
not_there-extended a [] e = refl
not_there-extended a (r ∷ rs) e = let none = not_there (bytes_eq a r.name) (place_of a (map (λ r. r.name) rs)) e in rw none.0 (not_there-extended a rs none.1)

in_entry : (o : Option ℕ) (q : ℕ) (ps : List ℕ) → has q (with_entry o ps) ≡ true → (o ≡ Some q) ⊎ (has q ps ≡ true)
in_entry None q ps e = inr e
in_entry (Some p) q ps e = elim (cases_Bool (p == q)) [ inl h ↦ inl (ap Some (eqb-true p q h)) | inr h ↦ inr (sym (ap (λ b. b || has q ps) h) ∙ e) ]

in_more : (o : Option ℕ) (q : ℕ) (ps : List ℕ) → has q ps ≡ true → has q (with_entry o ps) ≡ true
in_more None q ps e = e
in_more (Some p) q ps e = elim (cases_Bool (p == q)) [ inl h ↦ rw h | inr h ↦ rw (h, e) ]

there_later : (x y : List ℕ) (ys : List (List ℕ)) → is_there x ys ≡ true → is_there x (y ∷ ys) ≡ true
there_later x y ys e = later (bytes_eq x y) (place_of x ys) e where
  later : (t : Bool) (o : Option ℕ) → is_some o ≡ true → is_some (cond t (Some 0) (option_map suc o)) ≡ true
  later true o e = refl
  later false (Some q) e = refl
  later false None e = e

there_split : (x y : List ℕ) (ys : List (List ℕ)) → is_there x (y ∷ ys) ≡ true → (x ≡ y) ⊎ (is_there x ys ≡ true)
there_split x y ys e = split (bytes_eq x y) (place_of x ys) (bytes_decides x y).0 e where
  split : (t : Bool) (o : Option ℕ) → (t ≡ true → x ≡ y) → is_some (cond t (Some 0) (option_map suc o)) ≡ true → (x ≡ y) ⊎ (is_some o ≡ true)
  split true o same e = inl (same refl)
  split false (Some q) same e = inr refl
  split false None same e = inr e

-- a place that is led to is that of a realm that is extended
pub in_places : (names xs : List (List ℕ)) (q : ℕ) → has q (places_in names xs) ≡ true → (x : List ℕ) × (is_there x xs ≡ true) × (place_of x names ≡ Some q)
in_places names [] q e = let no : false ≡ true = e in cc
in_places names (x ∷ xs) q e = elim (in_entry (place_of x names) q (places_in names xs) e) [
  | inl here ↦ (x, ap is_some (ap (λ t. cond t (Some 0) (option_map suc (place_of x xs))) ((bytes_decides x x).1 refl)), here)
  | inr later ↦ let (y, there, is) = in_places names xs q later in (y, there_later y x xs there, is)
]

pub of_places : (names xs : List (List ℕ)) (x : List ℕ) (q : ℕ) → is_there x xs ≡ true → place_of x names ≡ Some q → has q (places_in names xs) ≡ true
of_places names [] x q e is = let no : false ≡ true = e in cc
of_places names (y ∷ ys) x q e is = elim (there_split x y ys e) [
  | inl same ↦ rw (sym (ap (λ z. place_of z names) same) ∙ is, eq-eqb q q refl)
  | inr later ↦ in_more (place_of y names) q (places_in names ys) (of_places names ys x q later is)
]

-- each place that is led to is a realm's
graph_from-within : (names : List (List ℕ)) (realms : List RealmTable) (p q : ℕ) → has q (edges (graph_from names realms) p) ≡ true → q < length names
graph_from-within names [] p q e = let no : false ≡ true = e in cc
graph_from-within names (r ∷ rs) zero q e = let (x, there, is) = in_places names r.extends q e in place_of-within x names q is
graph_from-within names (r ∷ rs) (suc p) q e = graph_from-within names rs p q e

pub length-graph_of : (t : PolicyTables) → length (graph_of t) ≡ length (realm_names t)
unfolding graph_of
length-graph_of t = simp length-map

pub edge-within : (t : PolicyTables) (p q : ℕ) → has q (edges (graph_of t) p) ≡ true → q < length (realm_names t)
unfolding graph_of
edge-within t p q e = graph_from-within (realm_names t) t.realms p q e

pub graph-IsGraph : (t : PolicyTables) → IsGraph (graph_of t)
graph-IsGraph t p q e = rw (length-graph_of t) (edge-within t p q e)

-- nothing is in the list of a realm that isn't there
pub no_walk : (t : PolicyTables) (a b x : List ℕ) (xs : List (List ℕ)) → place_of a (realm_names t) ≡ None → is_there x (extended t a) ≡ true → ⊥
no_walk t a b x xs none there =
    let no : false ≡ true = sym (ap (λ r. is_there x r.extends) (not_there-extended a t.realms none)) ∙ there in cc

-- no walk leads from a realm that isn't there to one that is
no_way : (t : PolicyTables) (x b : List ℕ) (q : ℕ) (xs : List (List ℕ)) → place_of x (realm_names t) ≡ None → place_of b (realm_names t) ≡ Some q → IsWalk t x xs b → ⊥
no_way t x b q [] none is same = let no : None ≡ Some q = sym none ∙ ap (λ y. place_of y (realm_names t)) same ∙ is in cc
no_way t x b q (y ∷ ys) none is w = no_walk t x b y ys none w.0

-- from a walk over names the walk over their places
abbrev pub PlacesWalk : PolicyTables → ℕ → ℕ → ℕ → Type 0
PlacesWalk t p q n = (ps : List ℕ) × (length ps ≡ n) × IsWalkOn (graph_of t) p ps q

pub walk_over_places : (t : PolicyTables) (a b : List ℕ) (path : List (List ℕ)) (p q : ℕ) → place_of a (realm_names t) ≡ Some p → place_of b (realm_names t) ≡ Some q
    → IsWalk t a path b → PlacesWalk t p q (length path)
walk_over_places t a b [] p q is is' w =
    let same : Some p ≡ Some q = sym is ∙ ap (λ x. place_of x (realm_names t)) w ∙ is' in
    ([], refl, cc)
walk_over_places t a b (x ∷ xs) p q is is' w = known (λ r here. walk_over_places t x b xs r q here is' w.1) (place_of x (realm_names t)) refl where
  known : ((r : ℕ) → place_of x (realm_names t) ≡ Some r → PlacesWalk t r q (length xs)) → (o : Option ℕ) → place_of x (realm_names t) ≡ o → PlacesWalk t p q (length (x ∷ xs))
  known others (Some r) here =
      let (ps, len, rest) = others r here in
      let leads : has r (edges (graph_of t) p) ≡ true = ap (has r) (edges_of-graph t a p is) ∙ of_places (realm_names t) (extended t a) x r w.0 here in
      (r ∷ ps, ap suc len, (leads, rest))
  known others None none = absurd (no_way t x b q xs none is' w.1)

-- from a walk over places the walk over their names
abbrev pub NamesWalk : PolicyTables → List ℕ → ℕ → ℕ → Type 0
NamesWalk t a q n = (b : List ℕ) × (path : List (List ℕ)) × (length path ≡ n) × (place_of b (realm_names t) ≡ Some q) × IsWalk t a path b

pub walk_over_names : (t : PolicyTables) (a : List ℕ) (p : ℕ) (ps : List ℕ) (q : ℕ) → place_of a (realm_names t) ≡ Some p → IsWalkOn (graph_of t) p ps q → NamesWalk t a q (length ps)
walk_over_names t a p [] q is w = (a, [], refl, is ∙ ap Some w, refl)
walk_over_names t a p (r ∷ rs) q is w =
    let (x, there, here) = in_places (realm_names t) (extended t a) r (sym (ap (has r) (edges_of-graph t a p is)) ∙ w.0) in
    let (b, path, len, end, walk) = walk_over_names t x r rs q here w.1 in
    (b, x ∷ path, ap suc len, end, (there, walk))

-- a name is that of its place alone
pub same_place : (t : PolicyTables) (a b : List ℕ) (p : ℕ) → place_of a (realm_names t) ≡ Some p → place_of b (realm_names t) ≡ Some p → a ≡ b
same_place t a b p is is' = sym (place_of-name a (realm_names t) p is) ∙ place_of-name b (realm_names t) p is'

-- a realm that reaches itself is there, and so does its place
pub itself_over_places : (t : PolicyTables) (a : List ℕ) → ReachesItself t a → (p : ℕ) × (place_of a (realm_names t) ≡ Some p) × ReachesOn (graph_of t) p p
itself_over_places t a w = known (place_of a (realm_names t)) refl where
  known : (o : Option ℕ) → place_of a (realm_names t) ≡ o → (p : ℕ) × (place_of a (realm_names t) ≡ Some p) × ReachesOn (graph_of t) p p
  known None none = absurd (no_walk t a a w.first w.others none w.walk.0)
  known (Some p) is = (p, is, some_walk (walk_over_places t a a (w.first ∷ w.others) p p is is w.walk)) where
    some_walk : PlacesWalk t p p (length (w.first ∷ w.others)) → ReachesOn (graph_of t) p p
    some_walk ([], len, walk) = absurd (omega (arith, len))
    some_walk (x ∷ xs, len, walk) = record { first = x; others = xs; walk = walk }

pub itself_over_names : (t : PolicyTables) (a : List ℕ) (p : ℕ) → place_of a (realm_names t) ≡ Some p → ReachesOn (graph_of t) p p → ReachesItself t a
itself_over_names t a p is w = some_walk (walk_over_names t a p (w.first ∷ w.others) p is w.walk) where
  some_walk : NamesWalk t a p (length (w.first ∷ w.others)) → ReachesItself t a
  some_walk (b, [], len, end, walk) = absurd (omega (arith, len))
  some_walk (b, x ∷ xs, len, end, walk) =
      record { first = x; others = xs; walk = subst (λ (c : List ℕ). IsWalk t a (x ∷ xs) c) (same_place t b a p end is) walk }

-- a place that is reached is that of its name
pub last_edge : (graph : List (List ℕ)) (p : ℕ) (x : ℕ) (xs : List ℕ) (q : ℕ) → IsWalkOn graph p (x ∷ xs) q → (r : ℕ) × (has q (edges graph r) ≡ true)
last_edge graph p x [] q w = (p, subst (λ (s : ℕ). has s (edges graph p) ≡ true) w.1 w.0)
last_edge graph p x (y ∷ ys) q w = last_edge graph x y ys q w.1

-- a place that is led to is that of its name
edge_from : (names : List (List ℕ)) (realms : List RealmTable) (p q : ℕ) → has q (edges (graph_from names realms) p) ≡ true → place_of (get_or names q []) names ≡ Some q
edge_from names [] p q e = let no : false ≡ true = e in cc
edge_from names (r ∷ rs) zero q e = let (x, there, is) = in_places names r.extends q e in ap (λ y. place_of y names) (place_of-name x names q is) ∙ is
edge_from names (r ∷ rs) (suc p) q e = edge_from names rs p q e

edge-name : (t : PolicyTables) (p q : ℕ) → has q (edges (graph_of t) p) ≡ true → place_of (get_or (realm_names t) q []) (realm_names t) ≡ Some q
unfolding graph_of
edge-name t p q e = edge_from (realm_names t) t.realms p q e

pub reached-name : (t : PolicyTables) (p q : ℕ) → ReachesOn (graph_of t) p q → place_of (get_or (realm_names t) q []) (realm_names t) ≡ Some q
reached-name t p q w = let (r, e) = last_edge (graph_of t) p w.first w.others q w.walk in edge-name t r q e
