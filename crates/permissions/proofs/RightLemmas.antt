-- What is bound by ranks is bound by places.
use Rattle.std.proofs.Common.{◌≡◌, ℕ, zero, suc, ◌<◌, ◌≤◌, Bool, true, false, ◌||◌, ◌&&◌, List, [], ◌∷◌, length, map, get_or, Option, Some, refl, sym, ap, subst, ◌∙◌, inl, inr, arith, ltb, ltb-true, ltb-false}
use Rattle.std.specs.Prelude.{◌⊎◌, ◌↔◌, unwrap_or}
use Rattle.std.specs.List.{list_any}
use Rattle.std.specs.Ordering.{nat_cmp}
use Rattle.std.specs.BTreeMap.{get}
use Rattle.std.specs.BTreeSet.{contains}
use Rattle.std.proofs.lemmas.Bool.{cases_Bool}
use Rattle.std.proofs.lemmas.List.{get_or_past, length-map}
use Rattle.policy_checks.specs.declared.permission.Permission.{Permission}
use Rattle.policy_checks.specs.Places.{members_at_place}
use Rattle.policy_tables.specs.declared.tables.PolicyTables.{PolicyTables}
use Rattle.permissions.specs.declared.grants.GroupGrant.{GroupGrant}
use Rattle.permissions.specs.declared.grants.Grants.{Grants}
use Rattle.permissions.specs.declared.members.Members.{Members}
use Rattle.permissions.specs.declared.ranked.Ranked.{Ranked}
use Rattle.permissions.specs.Allows.{is_user}
use Rattle.permissions.specs.Graph.{IsWalkOn, ReachesOn, graph_of}
use Rattle.permissions.specs.Grants.{AreMembers, IsBoundFrom, bound_at, gives_member, granted, is_member}
use Rattle.permissions.specs.Masks.{has_bit}
use Rattle.permissions.specs.Ranks.{IsBoundOn, place_at, rank_at}
use Rattle.permissions.specs.Rights.{AreRights, binds_user, gives_user, grants_user}
use Rattle.permissions.proofs.RankLemmas.{over_places, over_ranks, few_ranks}

map_ext : {A : Type 0} (f g : A → Bool) (xs : List A) → ((x : A) → f x ≡ g x) → map f xs ≡ map g xs
map_ext f g [] same = refl
map_ext f g (x ∷ xs) same = ap (λ (b : Bool). b ∷ map f xs) (same x) ∙ ap (λ (bs : List Bool). g x ∷ bs) (map_ext f g xs same)

any_ext : {A : Type 0} (f g : A → Bool) (xs : List A) → ((x : A) → f x ≡ g x) → list_any f xs ≡ list_any g xs
any_ext f g [] same = refl
any_ext f g (x ∷ xs) same = ap (λ (b : Bool). b || list_any f xs) (same x) ∙ ap (λ (b : Bool). g x || b) (any_ext f g xs same)

within_true : {A : Type 0} (f : A → Bool) (xs : List A) (i : ℕ) → get_or (map f xs) i false ≡ true → i < length xs
within_true f [] i e = let no : false ≡ true = e in absurd cc
within_true f (x ∷ xs) zero e = omega arith
within_true f (x ∷ xs) (suc i) e = omega (arith, within_true f xs i e)

-- members by the places of groups, also of groups that aren't there

members_over : (t : PolicyTables) (members : List Members) → AreMembers t t.groups (length t.groups) members → (group u : ℕ)
    → is_member members group u ≡ list_any (is_user t u) (members_at_place t.groups group)
members_over t members h group u = elim (cases_Bool (ltb group (length t.groups))) [
  | inl low ↦ h.same group u (ltb-true group (length t.groups) low)
  | inr past ↦
      let there : length t.groups ≤ group = ltb-false group (length t.groups) past in
      get_or_past (map (λ m. contains nat_cmp m.places u) members) group false (omega (arith, there, h.count, length-map members (λ m. contains nat_cmp m.places u)))
      ∙ sym (ap (list_any (is_user t u)) (get_or_past (map (λ g. g.members) t.groups) group [] (omega (arith, there, length-map t.groups (λ g. g.members)))))
]

module _ (t : PolicyTables) (ranks : List (Option ℕ)) (ranked : Ranked) (h : AreRights t ranks ranked) (u : ℕ) (p : Permission) where
  gives_over : (g : GroupGrant) → gives_user ranked.members.items u p g ≡ gives_member t u p g
  gives_over g = ap (λ (b : Bool). b && has_bit g.mask p) (members_over t ranked.members.items h.members_are g.group u)

  grants_over : (g : Grants) → grants_user ranked.members.items u p g ≡ granted t u p g
  grants_over g =
      ap (λ (b : Bool). has_bit (unwrap_or (get nat_cmp g.users u) 0) p || b)
      (any_ext (gives_user ranked.members.items u p) (gives_member t u p) g.groups.items gives_over)

  binds_over : (rank : ℕ) → rank < length h.places → binds_user ranked u p rank ≡ bound_at t t.realms u p (place_at h.places rank)
  binds_over rank low =
      ap (λ (bs : List Bool). get_or bs rank false) (map_ext (grants_user ranked.members.items u p) (granted t u p) ranked.grants.items grants_over)
      ∙ h.grants_are.same rank u p low

  reached_by : (graph : List (List ℕ)) (a : ℕ) (xs : List ℕ) (b : ℕ) → IsWalkOn graph a xs b → (a ≡ b) ⊎ ReachesOn graph a b
  reached_by graph a [] b w = inl w
  reached_by graph a (x ∷ xs) b w = inr (record { first = x; others = xs; walk = w })

  walk_of : (graph : List (List ℕ)) (a b : ℕ) → (a ≡ b) ⊎ ReachesOn graph a b → (xs : List ℕ) × IsWalkOn graph a xs b
  walk_of graph a b (inl e) = ([], e)
  walk_of graph a b (inr on) = (on.first ∷ on.others, on.walk)

  module _ (place rank : ℕ) (is : rank_at ranks place ≡ Some rank) where
    to_places : IsBoundOn ranked.rows.items (binds_user ranked u p) rank → IsBoundFrom t place u p
    to_places w =
        let right = h.ranks_are.right place rank is in
        let low : w.to < length h.places =
        omega (arith, within_true (grants_user ranked.members.items u p) ranked.grants.items w.to w.is, h.grants_are.count) in
        let way = over_places (graph_of t) ranks h.places ranked.rows.items h.ranks_are rank w.path w.to w.walk in
        let from : IsWalkOn (graph_of t) place (map (place_at h.places) w.path) (place_at h.places w.to) =
        subst (λ (a : ℕ). IsWalkOn (graph_of t) a (map (place_at h.places) w.path) (place_at h.places w.to)) right.1 way in
        record {
          to = place_at h.places w.to;
          reached = reached_by (graph_of t) place (map (place_at h.places) w.path) (place_at h.places w.to) from;
          bound = sym (binds_over w.to low) ∙ w.is;
        }

    to_ranks : IsBoundFrom t place u p → IsBoundOn ranked.rows.items (binds_user ranked u p) rank
    to_ranks w =
        let right = h.ranks_are.right place rank is in
        let way = walk_of (graph_of t) place w.to w.reached in
        let from : IsWalkOn (graph_of t) (place_at h.places rank) way.0 w.to =
        subst (λ (a : ℕ). IsWalkOn (graph_of t) a way.0 w.to) (sym right.1) way.1 in
        let (j, xs, walk, low, end) = over_ranks (graph_of t) ranks h.places ranked.rows.items h.ranks_are rank right.0 way.0 w.to from in
        record {
          to = j;
          path = xs;
          walk = walk;
          is = binds_over j low ∙ ap (bound_at t t.realms u p) end ∙ w.bound;
        }

    pub bound_over_ranks : (b : Bool) → (b ≡ true) ↔ IsBoundOn ranked.rows.items (binds_user ranked u p) rank → (b ≡ true) ↔ IsBoundFrom t place u p
    bound_over_ranks b both = (λ e. to_places (both.0 e), λ w. both.1 (to_ranks w))

    -- a rank is low enough for the marks
    pub rank_few : length (graph_of t) ≡ length t.realms → rank < 65536
    rank_few len = omega (arith, (h.ranks_are.right place rank is).0, few_ranks (graph_of t) ranks h.places ranked.rows.items h.ranks_are, len, h.few)

    -- and has a shortcut
    pub rank_granted : rank < length ranked.shortcuts.of_ranks.items
    rank_granted = omega (arith, (h.ranks_are.right place rank is).0, h.ranks_are.rows_count, h.shortcuts_count)
