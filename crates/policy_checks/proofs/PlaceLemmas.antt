-- The place of a name, and what stands there.
use Rattle.std.proofs.Common.{◌≡◌, ℕ, suc, ◌<◌, Bool, true, false, cond, List, [], ◌∷◌, length, map, get_or, Option, Some, None, option_map, refl, sym, ap, ◌∙◌, inl, inr, arith}
use Rattle.std.specs.Prelude.{◌⊎◌}
use Rattle.std.specs.Str.{bytes_eq}
use Rattle.std.specs.Cmp.Lexicographic.{bytes_decides}
use Rattle.policy_tables.specs.declared.tables.Group.{Group}
use Rattle.policy_tables.specs.declared.tables.Role.{Role}
use Rattle.policy_checks.specs.Index.{place_of}
use Rattle.policy_checks.specs.Places.{role_at, group_at, role_texts_at, members_at_place}
use Rattle.policy_checks.proofs.IndexLemmas.{not_there}

-- the first place of a name is that of the first of the names, or one in the rest
pub place_step : (t : Bool) (o : Option ℕ) (q : ℕ) → cond t (Some 0) (option_map suc o) ≡ Some q → ((t ≡ true) × (q ≡ 0)) ⊎ ((t ≡ false) × ((r : ℕ) × (o ≡ Some r) × (q ≡ suc r)))
place_step true o q e = inl (refl, cc)
place_step false None q e = let no : None ≡ Some q = e in cc
place_step false (Some r) q e = let is : Some (suc r) ≡ Some q = e in inr (refl, (r, refl, cc))

-- it is within, and has the name
pub place_of-within : (x : List ℕ) (names : List (List ℕ)) (q : ℕ) → place_of x names ≡ Some q → q < length names
place_of-within x [] q e = let no : None ≡ Some q = e in cc
place_of-within x (n ∷ ns) q e = elim (place_step (bytes_eq x n) (place_of x ns) q e) [
  | inl h ↦ omega (arith, h.1)
  | inr h ↦ let (r, is, next) = h.1 in omega (arith, next, place_of-within x ns r is)
]

pub place_of-name : (x : List ℕ) (names : List (List ℕ)) (q : ℕ) → place_of x names ≡ Some q → get_or names q [] ≡ x
place_of-name x [] q e = let no : None ≡ Some q = e in cc
place_of-name x (n ∷ ns) q e = elim (place_step (bytes_eq x n) (place_of x ns) q e) [
  | inl h ↦ ap (λ (i : ℕ). get_or (n ∷ ns) i []) h.1 ∙ sym ((bytes_decides x n).0 h.0)
  | inr h ↦ let (r, is, next) = h.1 in ap (λ (i : ℕ). get_or (n ∷ ns) i []) next ∙ place_of-name x ns r is
]

-- what stands at the place of a name is that of the name
pub role_place : (name : List ℕ) (roles : List Role) (p : ℕ) → place_of name (map (λ r. r.name) roles) ≡ Some p → role_texts_at roles p ≡ (role_at name roles).permissions
role_place name [] p e = let no : None ≡ Some p = e in cc
role_place name (r ∷ rs) p e = elim (place_step (bytes_eq name r.name) (place_of name (map (λ r. r.name) rs)) p e) [
  | inl h ↦ ap (λ (i : ℕ). role_texts_at (r ∷ rs) i) h.1 ∙ rw h.0
  | inr h ↦ let (q, is, next) = h.1 in ap (λ (i : ℕ). role_texts_at (r ∷ rs) i) next ∙ role_place name rs q is ∙ rw h.0
]

pub role_none : (name : List ℕ) (roles : List Role) → place_of name (map (λ r. r.name) roles) ≡ None → [] ≡ (role_at name roles).permissions
role_none name [] e = refl
role_none name (r ∷ rs) e = let none = not_there (bytes_eq name r.name) (place_of name (map (λ r. r.name) rs)) e in rw none.0 (role_none name rs none.1)

pub group_place : (name : List ℕ) (groups : List Group) (p : ℕ) → place_of name (map (λ g. g.name) groups) ≡ Some p → members_at_place groups p ≡ (group_at name groups).members
group_place name [] p e = let no : None ≡ Some p = e in cc
group_place name (r ∷ rs) p e = elim (place_step (bytes_eq name r.name) (place_of name (map (λ g. g.name) rs)) p e) [
  | inl h ↦ ap (λ (i : ℕ). members_at_place (r ∷ rs) i) h.1 ∙ rw h.0
  | inr h ↦ let (q, is, next) = h.1 in ap (λ (i : ℕ). members_at_place (r ∷ rs) i) next ∙ group_place name rs q is ∙ rw h.0
]

pub group_none : (name : List ℕ) (groups : List Group) → place_of name (map (λ g. g.name) groups) ≡ None → [] ≡ (group_at name groups).members
group_none name [] e = refl
group_none name (r ∷ rs) e = let none = not_there (bytes_eq name r.name) (place_of name (map (λ g. g.name) rs)) e in rw none.0 (group_none name rs none.1)
