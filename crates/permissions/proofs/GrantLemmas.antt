-- Bits of permissions, and the bindings at the place of a name.
use Rattle.std.proofs.Common.{◌≡◌, ℕ, ◌+◌, ◌<◌, ◌^◌, ◌/◌, max, bit_and, Bool, true, false, cond, ◌||◌, ◌&&◌, List, [], ◌∷◌, ◌++◌, map, length, take, get_or, nat_cmp, BTreeMap, bit_or, Option, Some, None, refl, sym, ap, ◌∙◌, inl, inr, arith, eq-eqb}
use Rattle.std.specs.Prelude.{◌==◌, ◌≢◌, unwrap_or}
use Rattle.std.specs.Int.{bit_at}
use Rattle.std.specs.Str.{bytes_eq}
use Rattle.std.proofs.lemmas.Bool.{cases_Bool, eqb-true}
use Rattle.std.proofs.lemmas.Bool.Decides.{nat_tests}
use Rattle.std.proofs.lemmas.Nat.Bits.{bit_at_or, bit_at-lt, bit_at-zero, bit_at-pow_same, bit_at-pow_other, shr_and_one}
use Rattle.std.specs.Cmp.{both_ways}
use Rattle.std.specs.Cmp.Lexicographic.{bytes_decides}
use Rattle.std.specs.List.{slice_get}
use Rattle.policy_checks.specs.declared.permission.Permission.{Permission}
use Rattle.policy_checks.specs.declared.permission.Permission.TheVariants.{CreateInvocation, CreateWithReservedId, GetInvocation, IncludeInvocation, GetTestResult, ListTestResults, ListLimitedTestResults, GetTestExoneration, ListTestExonerations, ListLimitedTestExonerations, GetArtifact, ListArtifacts}
use Rattle.policy_checks.specs.Permissions.{permission_text, permission_of, every_permission}
use Rattle.policy_tables.specs.declared.tables.RealmTable.{RealmTable}
use Rattle.std.specs.Ordering.{is_eq}
use Rattle.std.specs.BTreeMap.{get}
use Rattle.std.specs.List.{list_any}
use Rattle.std.proofs.lemmas.List.Folds.{list_any-append, list_any_more}
use Rattle.policy_tables.specs.declared.tables.PolicyTables.{PolicyTables}
use Rattle.policy_checks.specs.Checks.{group_names}
use Rattle.policy_checks.proofs.PlaceLemmas.{group_place, group_none}
use Rattle.permissions.specs.Allows.{is_user, has_this_user}
use Rattle.permissions.specs.declared.grants.GroupGrant.{GroupGrant}
use Rattle.permissions.specs.Grants.{gives_member, bindings_at}
use Rattle.permissions.specs.Masks.{has_bit}
use Rattle.policy_checks.specs.Index.{place_of}
use Rattle.permissions.specs.Masks.{permission_number}
use Rattle.permissions.specs.Reach.{realm_at}
use Rattle.policy_checks.proofs.PlaceLemmas.{place_step}

pub has_bit-zero : (p : Permission) → has_bit 0 p ≡ false
unfolding has_bit
has_bit-zero p = ap (λ b. b == 1) (bit_at-zero (permission_number p))

or_tests : (x y : ℕ) → x < 2 → y < 2 → (max x y == 1) ≡ ((x == 1) || (y == 1))
or_tests x y a b = grind (arith, nat_tests)

pub has_bit-or : (a b : ℕ) (p : Permission) → has_bit (bit_or a b) p ≡ (has_bit a p || has_bit b p)
unfolding has_bit
has_bit-or a b p = ap (λ n. n == 1) (bit_at_or a b (permission_number p)) ∙ or_tests _ _ (bit_at-lt a (permission_number p)) (bit_at-lt b (permission_number p))

false_if_not : (a b : ℕ) → (a == b) ≡ false → b ≢ a
false_if_not a b e h = let yes_it_is : (a == b) ≡ true = eq-eqb a b (sym h) in let no : false ≡ true = sym e ∙ yes_it_is in cc

one_bit : (k i : ℕ) → (bit_at (2 ^ k) i == 1) ≡ (k == i)
one_bit k i = elim (cases_Bool (k == i)) [
  | inl e ↦ ap (λ n. n == 1) (ap (bit_at (2 ^ k)) (sym (eqb-true k i e)) ∙ bit_at-pow_same k) ∙ sym e
  | inr e ↦ ap (λ n. n == 1) (bit_at-pow_other k i (false_if_not k i e)) ∙ sym e
]

-- permissions with one number are those with one text

of_number : ℕ → Option Permission
of_number n = slice_get every_permission n

numbered : (p : Permission) → of_number (permission_number p) ≡ Some p
unfolding of_number permission_number
numbered CreateInvocation = refl
numbered CreateWithReservedId = refl
numbered GetInvocation = refl
numbered IncludeInvocation = refl
numbered GetTestResult = refl
numbered ListTestResults = refl
numbered ListLimitedTestResults = refl
numbered GetTestExoneration = refl
numbered ListTestExonerations = refl
numbered ListLimitedTestExonerations = refl
numbered GetArtifact = refl
numbered ListArtifacts = refl

named : (p : Permission) → permission_of (permission_text p) ≡ Some p
unfolding permission_of
named CreateInvocation = refl
named CreateWithReservedId = refl
named GetInvocation = refl
named IncludeInvocation = refl
named GetTestResult = refl
named ListTestResults = refl
named ListLimitedTestResults = refl
named GetTestExoneration = refl
named ListTestExonerations = refl
named ListLimitedTestExonerations = refl
named GetArtifact = refl
named ListArtifacts = refl

same_some : (q p : Permission) → Some q ≡ Some p → q ≡ p
same_some q p e = cc

number_is_text : (q p : Permission) → (permission_number q == permission_number p) ≡ bytes_eq (permission_text q) (permission_text p)
number_is_text q p = both_ways _ _ by_number by_text where
  by_number : (permission_number q == permission_number p) ≡ true → bytes_eq (permission_text q) (permission_text p) ≡ true
  by_number e =
      let same : Some q ≡ Some p = sym (numbered q) ∙ ap of_number (eqb-true _ _ e) ∙ numbered p in
      (bytes_decides (permission_text q) (permission_text p)).1 (ap permission_text (same_some q p same))

  by_text : bytes_eq (permission_text q) (permission_text p) ≡ true → (permission_number q == permission_number p) ≡ true
  by_text e =
      let same : Some q ≡ Some p = sym (named q) ∙ ap permission_of ((bytes_decides (permission_text q) (permission_text p)).0 e) ∙ named p in
      eq-eqb _ _ (ap permission_number (same_some q p same))

pub has_bit-pow : (q p : Permission) → has_bit (2 ^ permission_number q) p ≡ bytes_eq (permission_text q) (permission_text p)
unfolding has_bit
has_bit-pow q p = one_bit (permission_number q) (permission_number p) ∙ number_is_text q p

-- the bindings at the place of a name are those of the name
pub realm_place : (name : List ℕ) (realms : List RealmTable) (p : ℕ) → place_of name (map (λ r. r.name) realms) ≡ Some p → bindings_at realms p ≡ (realm_at name realms).bindings
realm_place name [] p e = let no : None ≡ Some p = e in cc
realm_place name (r ∷ rs) p e = elim (place_step (bytes_eq name r.name) (place_of name (map (λ r. r.name) rs)) p e) [
  | inl h ↦ ap (λ (i : ℕ). bindings_at (r ∷ rs) i) h.1 ∙ rw h.0
  | inr h ↦ let (q, is, next) = h.1 in ap (λ (i : ℕ). bindings_at (r ∷ rs) i) next ∙ realm_place name rs q is ∙ rw h.0
]

-- the lowest bit after a shift
pub low_bit : (n i k : ℕ) → k ≡ i → (bit_and (n / 2 ^ k) 1 == 1) ≡ (bit_at n i == 1)
low_bit n i k e = ap (λ b. b == 1) (shr_and_one n k ∙ ap (bit_at n) e)

-- grants to a user more, and to a group more

cmp_is_eq : (a b : ℕ) → is_eq (nat_cmp a b) ≡ (a == b)
cmp_is_eq a b = grind (arith, nat_tests)

or_false : (b : Bool) → b ≡ (b || false)
or_false true = refl
or_false false = refl

or_assoc : (a b c : Bool) → (a || (b || c)) ≡ ((a || b) || c)
or_assoc true b c = refl
or_assoc false b c = refl

user_bits : (t : Bool) (old : Option ℕ) (mask before : ℕ) (p : Permission) → (t ≡ true → before ≡ unwrap_or old 0)
    → has_bit (unwrap_or (cond t (Some (bit_or before mask)) old) 0) p ≡ (has_bit (unwrap_or old 0) p || (t && has_bit mask p))
user_bits true old mask before p is = has_bit-or before mask p ∙ ap (λ n. has_bit n p || has_bit mask p) (is refl)
user_bits false old mask before p is = or_false _

pub user_more : (m n : BTreeMap ℕ ℕ) (user mask before u : ℕ) (p : Permission) → before ≡ unwrap_or (get nat_cmp m user) 0
    → get nat_cmp n u ≡ cond (is_eq (nat_cmp user u)) (Some (bit_or before mask)) (get nat_cmp m u)
    → has_bit (unwrap_or (get nat_cmp n u) 0) p ≡ (has_bit (unwrap_or (get nat_cmp m u) 0) p || ((user == u) && has_bit mask p))
user_more m n user mask before u p is new =
    ap (λ o. has_bit (unwrap_or o 0) p) (new ∙ ap (λ b. cond b (Some (bit_or before mask)) (get nat_cmp m u)) (cmp_is_eq user u))
    ∙ user_bits (user == u) (get nat_cmp m u) mask before p (λ e. is ∙ ap (λ v. unwrap_or (get nat_cmp m v) 0) (eqb-true user u e))

pub group_more : (t : PolicyTables) (u : ℕ) (p : Permission) (name : List ℕ) (group mask : ℕ) (b : Bool) (xs ys : List GroupGrant) → place_of name (group_names t) ≡ Some group
    → ys ≡ xs ++ record { group = group; mask = mask } ∷ []
    → (b || list_any (gives_member t u p) ys) ≡ ((b || list_any (gives_member t u p) xs) || (has_this_user t u (Some name) && has_bit mask p))
group_more t u p name group mask b xs ys is e =
    ap (λ zs. b || list_any (gives_member t u p) zs) e
    ∙ ap (λ c. b || c) (list_any-append (gives_member t u p) xs (record { group = group; mask = mask } ∷ []))
    ∙ ap (λ c. b || (list_any (gives_member t u p) xs || c)) (sym (or_false _))
    ∙ ap (λ ms. b || (list_any (gives_member t u p) xs || (list_any (is_user t u) ms && has_bit mask p))) (group_place name t.groups group is)
    ∙ or_assoc b (list_any (gives_member t u p) xs) _

pub group_less : (t : PolicyTables) (u : ℕ) (p : Permission) (name : List ℕ) (mask : ℕ) (b : Bool) → place_of name (group_names t) ≡ None
    → b ≡ (b || (has_this_user t u (Some name) && has_bit mask p))
group_less t u p name mask b none = or_false b ∙ ap (λ ms. b || (list_any (is_user t u) ms && has_bit mask p)) (group_none name t.groups none)

or_and_more : (a b c m : Bool) → ((a || (b && m)) || (c && m)) ≡ (a || ((b || c) && m))
or_and_more true b c m = refl
or_and_more false true c true = refl
or_and_more false true true false = refl
or_and_more false true false false = refl
or_and_more false false c m = refl

-- one text more of a binding
pub principals_more : (f : List ℕ → Bool) (texts : List (List ℕ)) (i : ℕ) (text : List ℕ) (first now after m : Bool) → i < length texts → text ≡ get_or texts i text
    → now ≡ (first || (list_any f (take i texts) && m)) → after ≡ (now || (f text && m)) → after ≡ (first || (list_any f (take (i + 1) texts) && m))
principals_more f texts i text first now after m within is before step =
    step ∙ ap (λ b. b || (f text && m)) before ∙ or_and_more first _ _ m
    ∙ ap (λ b. first || (b && m)) (ap (λ x. list_any f (take i texts) || f x) is ∙ sym (list_any_more f texts i text within))

pub no_grant : (t : PolicyTables) (u : ℕ) (p : Permission) (users : BTreeMap ℕ ℕ) (groups : List GroupGrant) → users.entries ≡ [] → groups ≡ []
    → (has_bit (unwrap_or (get nat_cmp users u) 0) p || list_any (gives_member t u p) groups) ≡ false
no_grant t u p users groups e f = rw (e, f, has_bit-zero p)
