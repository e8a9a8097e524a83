-- The names of the users of a policy without a fault are of their form.
use Rattle.std.proofs.Common.{◌≡◌, ℕ, ◌<◌, Bool, true, false, cond, List, [], ◌∷◌, ◌++◌, length, map, Option, Some, None, refl, sym, ap, ◌∙◌, subst, inl, inr}
use Rattle.std.specs.Prelude.{◌+◌, not, codes}
use Rattle.std.specs.List.{All}
use Rattle.std.proofs.lemmas.Bool.{cases_Bool}
use Rattle.std.proofs.lemmas.List.{length-map}
use Rattle.std.proofs.lemmas.List.Elements.{All-cons, All-nil}
use Rattle.policy_tables.specs.declared.findings.Finding.{Finding}
use Rattle.policy_tables.specs.declared.tables.PolicyTables.{PolicyTables}
use Rattle.policy_tables.specs.declared.tables.User.{User}
use Rattle.policy_checks.specs.declared.texts.Check.TheVariants.{Form}
use Rattle.policy_checks.specs.Checks.{is_name, is_token, is_faulty}
use Rattle.policy_checks.specs.Spots.{Spot, failing, all_spots, spots_of, user_spots, group_spots, role_spots, realm_spots}
use Rattle.policy_checks.proofs.PlaceLemmas.{place_of-within}
use Rattle.permissions.specs.Faults.{IsSound, check_fault, checked, entries_fault}
use Rattle.permissions.proofs.FaultLemmas.{none_before, none_behind, not_mapped, no_finding, first_passes}
use Rattle.request_demands.specs.Settings.{Settings, HasNames, caller_of, caller_name}

-- where no text fails, none of the others fails either
others_pass : (b : Bool) (f : Finding) (fs : List Finding) → cond b (f ∷ fs) fs ≡ [] → fs ≡ []
others_pass true f fs e = let no : f ∷ fs ≡ [] = e in cc
others_pass false f fs e = e

tail_passes : (t : PolicyTables) (s : Spot) (ss : List Spot) → failing t Form (s ∷ ss) ≡ [] → failing t Form ss ≡ []
tail_passes t s ss e = others_pass (is_faulty t Form s.kind s.found.text) s.found (failing t Form ss) e

front_passes : (t : PolicyTables) (xs ys : List Spot) → failing t Form (xs ++ ys) ≡ [] → failing t Form xs ≡ []
front_passes t [] ys e = refl
front_passes t (x ∷ xs) ys e = elim (cases_Bool (is_faulty t Form x.kind x.found.text)) [
  | inl bad ↦ let no : x.found ∷ failing t Form (xs ++ ys) ≡ [] = sym (ap (λ b. cond b (x.found ∷ failing t Form (xs ++ ys)) (failing t Form (xs ++ ys))) bad) ∙ e in cc
  | inr good ↦ ap (λ b. cond b (x.found ∷ failing t Form xs) (failing t Form xs)) good ∙ front_passes t xs ys (tail_passes t x (xs ++ ys) e)
]

user_passes : (t : PolicyTables) (path : List ℕ) (n : ℕ) (u : User) (others : List Spot)
    → failing t Form (user_spots path n u ++ others) ≡ [] → failing t Form others ≡ []
user_passes t path n u others e =
    others_pass (not (is_token u.token)) _ (failing t Form others) (others_pass (not (is_name u.name)) _ _ e)

names_pass : (t : PolicyTables) (path : List ℕ) (n : ℕ) (us : List User) → failing t Form (spots_of user_spots path n us) ≡ []
    → All (λ name. is_name name ≡ true) (map (λ u. u.name) us)
names_pass t path n [] e = All-nil (λ name. is_name name ≡ true)
names_pass t path n (u ∷ us) e =
    All-cons (λ name. is_name name ≡ true) u.name (map (λ u. u.name) us) (first_passes (is_name u.name) _ _ e)
    (names_pass t path (n + 1) us (user_passes t path n u (spots_of user_spots path (n + 1) us) e))

pub names_of_sound : (t : PolicyTables) → IsSound t → HasNames (record { policy = t })
unfolding checked
names_of_sound t sound =
    let users : List Spot = spots_of user_spots (codes "user") 0 t.users in
    let others : List Spot =
    spots_of group_spots (codes "group") 0 t.groups
    ++ (spots_of role_spots (codes "role") 0 t.roles ++ spots_of realm_spots (codes "realm") 0 t.realms) in
    let form : checked t Form ≡ None = none_before _ _ (none_behind (entries_fault t) _ sound.texts) in
    let none : failing t Form (all_spots t) ≡ [] = no_finding (failing t Form (all_spots t)) (not_mapped (check_fault Form) _ form) in
    names_pass t (codes "user") 0 t.users (front_passes t users others (others_pass _ _ _ none))

-- a caller is one of the users, and has a name
pub caller_is_there : (s : Settings) (bearer : Option (List ℕ)) (caller : ℕ) → caller_of s bearer ≡ Some caller → caller < length s.policy.users
caller_is_there s None caller e = let no : None ≡ Some caller = e in cc
caller_is_there s (Some token) caller e =
    subst (λ (n : ℕ). caller < n) (length-map s.policy.users (λ u. u.token)) (place_of-within token (map (λ u. u.token) s.policy.users) caller e)

pub name_is : (s : Settings) (caller : ℕ) → HasNames s → caller < length s.policy.users → is_name (caller_name s caller) ≡ true
name_is s caller names there =
    names caller [] (subst (λ (n : ℕ). caller < n) (sym (length-map s.policy.users (λ u. u.name))) there)
