-- The first fault of tables.
use Rattle.std.proofs.Common.{◌≡◌, ◌≤◌, Bool, true, false, cond, List, [], ◌∷◌, Option, Some, None, option_map, refl, sym, ap, ◌∙◌, inl, inr, arith, length, ltb}
use Rattle.std.specs.Prelude.{not}
use Rattle.std.specs.Option.{option_or}
use Rattle.std.proofs.lemmas.Bool.{cases_Bool, and_parts, ltb-false}
use Rattle.policy_tables.specs.Entries.{entries}
use Rattle.policy_tables.specs.declared.findings.Finding.{Finding}
use Rattle.policy_tables.specs.declared.tables.PolicyTables.{PolicyTables}
use Rattle.policy_tables.specs.Findings.{goes_before, least_with, least_of}
use Rattle.policy_checks.specs.declared.texts.Check.TheVariants.{Form}
use Rattle.policy_checks.specs.Checks.{has_secret_length, is_hex_text, is_secret}
use Rattle.permissions.specs.declared.faults.PolicyFault.{PolicyFault}
use Rattle.permissions.specs.Faults.{entries_fault, check_fault, checked, text_fault}

or_first : (o p : Option PolicyFault) (f : PolicyFault) → o ≡ Some f → option_or o p ≡ Some f
or_first o p f e = ap (λ q. option_or q p) e

-- too many entries come before all that is wrong in the texts
pub entries_first : (t : PolicyTables) (f : PolicyFault) → entries_fault t ≡ Some f → text_fault t ≡ Some f
entries_first t f e = or_first (entries_fault t) _ f e

-- what comes to nothing, from its parts
pub none_before : (o p : Option PolicyFault) → option_or o p ≡ None → o ≡ None
none_before None p e = refl
none_before (Some f) p e = e

pub none_behind : (o p : Option PolicyFault) → option_or o p ≡ None → p ≡ None
none_behind None p e = e
none_behind (Some f) p e = let no : Some f ≡ None = e in cc

pub not_mapped : (g : Finding → PolicyFault) (o : Option Finding) → option_map g o ≡ None → o ≡ None
not_mapped g None e = refl
not_mapped g (Some f) e = let no : Some (g f) ≡ None = e in cc

-- a finding is kept, or a lesser one
kept : (f : Finding) (fs : List Finding) → least_with (Some f) fs ≡ None → ⊥
kept f [] e = let no : Some f ≡ None = e in cc
kept f (g ∷ gs) e = elim (cases_Bool (goes_before g.path (Some f))) [
  | inl y ↦ kept g gs (sym (ap (λ b. least_with (cond b (Some g) (Some f)) gs) y) ∙ e)
  | inr n ↦ kept f gs (sym (ap (λ b. least_with (cond b (Some g) (Some f)) gs) n) ∙ e)
]

pub no_finding : (fs : List Finding) → least_of fs ≡ None → fs ≡ []
no_finding [] e = refl
no_finding (f ∷ fs) e = absurd (kept f fs e)

pub first_passes : (b : Bool) (f : Finding) (fs : List Finding) → cond (not b) (f ∷ fs) fs ≡ [] → b ≡ true
first_passes true f fs e = refl
first_passes false f fs e = let no : f ∷ fs ≡ [] = e in cc

-- where no text is refused, the secret is the hex text of some bytes
pub secret_is_hex : (t : PolicyTables) → text_fault t ≡ None → is_hex_text t.secret ≡ true
unfolding checked
secret_is_hex t e =
    let form : checked t Form ≡ None = none_before _ _ (none_behind (entries_fault t) _ e) in
    let none = no_finding _ (not_mapped (check_fault Form) _ form) in
    (and_parts (has_secret_length t.secret) (is_hex_text t.secret) (first_passes (is_secret t.secret) _ _ none)).1

-- and there are no more realms than entries
not_too_many : (b : Bool) (f : PolicyFault) → cond b (Some f) None ≡ None → b ≡ false
not_too_many true f e = let no : Some f ≡ None = e in cc
not_too_many false f e = refl

pub few_realms : (t : PolicyTables) → text_fault t ≡ None → length t.realms ≤ 65536
few_realms t e =
    let few : ltb 65536 (entries t) ≡ false = not_too_many _ _ (none_before _ _ e) in
    omega (arith, ltb-false 65536 (entries t) few)
