-- A text is a realm just where it has no fault.
use Rattle.std.proofs.Common.{◌≡◌, ℕ, Bool, true, false, List, Some, sym, ◌∙◌}
use Rattle.std.specs.Prelude.{◌≢◌, IfOk, Result, Ok, Err}
use Rattle.std.specs.declared.alloc.AllocError.{AllocError}
use Rattle.names_realms.specs.NameParts.declared.faults.NameFault.{NameFault}
use Rattle.names_realms.specs.NameParts.declared.faults.NameFault.TheVariants.{Memory}
use Rattle.names_realms.specs.Realms.{IsRealm, realm_fault}
use Rattle.names_realms.proofs.RealmLemmas.{IsRealm-realm_fault}
use Rattle.policy_checks.specs.Checks.{is_realm_name}

pub formed : (text : List ℕ) → IsRealm text → true ≡ is_realm_name text
unfolding is_realm_name
formed text is = rw (IsRealm-realm_fault text is)

pub not_formed : (text : List ℕ) (f : NameFault) → realm_fault text ≡ Some f → false ≡ is_realm_name text
unfolding is_realm_name
not_formed text f e = rw e

pub refused : (r : Result Bool AllocError) (text : List ℕ) (f : NameFault) → IfOk r (λ b. (false ≡ b) × (f ≢ Memory)) → (f ≢ Memory → realm_fault text ≡ Some f) → IfOk r (λ b. b ≡ is_realm_name text)
refused (Ok b) text f answer fault = sym answer.0 ∙ not_formed text f (fault answer.1)
refused (Err e) text f answer fault = tt
