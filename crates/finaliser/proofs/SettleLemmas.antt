-- States that are set, and how many aren't final.
use Rattle.std.proofs.Common.{◌≡◌, ◌↔◌, ◌<◌, ◌+◌, ℕ, zero, suc, Bool, true, false, not, IsTrue, List, [], ◌∷◌, ◌++◌, set, Some, None, refl, sym, ap, ◌∙◌, subst, arith}
use Rattle.std.proofs.lemmas.Option.{same_Some}
use Rattle.names_realms.specs.declared.states.State.{State}
use Rattle.names_realms.specs.declared.states.State.TheVariants.{Active, Finalizing, Finalized}
use Rattle.finaliser.specs.Marks.{unfinal}
use Rattle.finaliser.specs.Settling.{IsIn}

pub unfinal_set : (states : List State) (n : ℕ) → IsIn Finalizing states n → unfinal (set states n Finalized) + 1 ≡ unfinal states
unfinal_set [] n e = let no : None ≡ Some Finalizing = e in cc
unfinal_set (s ∷ states) zero e = subst (λ x. unfinal states + 1 ≡ unfinal (x ∷ states)) (sym (same_Some s Finalizing e)) (omega arith)
unfinal_set (Active ∷ states) (suc n) e = let more = unfinal_set states n e in omega arith
unfinal_set (Finalizing ∷ states) (suc n) e = let more = unfinal_set states n e in omega arith
unfinal_set (Finalized ∷ states) (suc n) e = unfinal_set states n e

pub unfinal_some : (states : List State) (n : ℕ) → IsIn Finalizing states n → 0 < unfinal states
unfinal_some states n e = omega (arith, unfinal_set states n e)

pub unfinal_retired : (states : List State) (n : ℕ) → IsIn Active states n → unfinal (set states n Finalizing) ≡ unfinal states
unfinal_retired [] n e = refl
unfinal_retired (s ∷ states) zero e = subst (λ x. suc (unfinal states) ≡ unfinal (x ∷ states)) (sym (same_Some s Active e)) refl
unfinal_retired (Active ∷ states) (suc n) e = ap suc (unfinal_retired states n e)
unfinal_retired (Finalizing ∷ states) (suc n) e = ap suc (unfinal_retired states n e)
unfinal_retired (Finalized ∷ states) (suc n) e = unfinal_retired states n e

pub unfinal_push : (states : List State) → unfinal (states ++ Active ∷ []) ≡ unfinal states + 1
unfinal_push [] = refl
unfinal_push (Active ∷ states) = let more = unfinal_push states in omega arith
unfinal_push (Finalizing ∷ states) = let more = unfinal_push states in omega arith
unfinal_push (Finalized ∷ states) = unfinal_push states

-- a state that is set and set back
pub set_back : (states : List State) (n : ℕ) (other state : State) → IsIn state states n → set (set states n other) n state ≡ states
set_back [] n other state e = refl
set_back (s ∷ states) zero other state e = ap (λ x. x ∷ states) (sym (same_Some s state e))
set_back (s ∷ states) (suc n) other state e = ap (λ xs. s ∷ xs) (set_back states n other state e)

pub not_marked : (mark : Bool) (R : Type 0) → (mark ≡ true → R) → (R → mark ≡ true) → IsTrue (not mark) ↔ (¬ R)
not_marked true R f g = (λ t r. let no : false ≡ true = t in cc, λ none. absurd (none (f refl)))
not_marked false R f g = (λ t r. let no : false ≡ true = g r in cc, λ none. refl)
