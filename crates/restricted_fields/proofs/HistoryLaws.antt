-- Calls that read, one after the other, of worlds that look alike.
use Rattle.std.proofs.Common.{ℤ, [], ◌∷◌, sym, ap, ◌∙◌, subst}
use Rattle.call_forms.specs.declared.asked.Asked.{Asked}
use Rattle.call_forms.specs.declared.forms.Answer.{Answer}
use Rattle.call_forms.specs.declared.forms.Told.{Told}
use Rattle.call_forms.specs.declared.forms.Told.TheVariants.{Made}
use Rattle.request_demands.specs.Settings.{Settings}
use Rattle.service_effects.specs.Service.{ServiceWorld}
use Rattle.service_laws.specs.ServiceCore.History.{Entry, Leads, Tells}
use Rattle.service_laws.specs.ServiceCore.Step.{Step}
use Rattle.restricted_fields.specs.Alike.{LookAlike}
use Rattle.restricted_fields.specs.Laws.{IsMade, UnseenChangesNoHistory}
use Rattle.restricted_fields.proofs.StepLaws.{unseen_changes_no_answer}

-- an entry that was answered is a step
step_of : (s : Settings) (w : ServiceWorld) (e : Entry) (after : ServiceWorld) → Leads s w e after → (made : IsMade e.told)
    → Step s w e.moment e.asked after made.0
step_of s w e after leads made = subst (λ (told : Told). Tells s w e told after) made.1 leads.tells

pub unseen_changes_no_history : UnseenChangesNoHistory
unseen_changes_no_history s caller one other [] [] end also like same this that = (
  tt,
  subst (λ (v : ServiceWorld). LookAlike s.policy caller v also) (sym this)
      (subst (λ (x : ServiceWorld). LookAlike s.policy caller one x) (sym that) like),
)
unseen_changes_no_history s caller one other [] (f ∷ k) end also like same this that = absurd same
unseen_changes_no_history s caller one other (e ∷ h) [] end also like same this that = absurd same
unseen_changes_no_history s caller one other (e ∷ h) (f ∷ k) end also like same this that =
    let both = same.0 in
    let step = step_of s one e this.0 this.1 both.made in
    let mirror : Step s other e.moment e.asked that.0 both.also_made.0 =
    subst (λ (asked : Asked). Step s other e.moment asked that.0 both.also_made.0) (sym both.asked)
    (subst (λ (moment : ℤ). Step s other moment f.asked that.0 both.also_made.0) (sym both.moment)
    (step_of s other f that.0 that.1 both.also_made)) in
    let alike = unseen_changes_no_answer s caller one other e.moment e.asked this.0 that.0 both.made.0 both.also_made.0 like both.reader
    step mirror in
    let rest = unseen_changes_no_history s caller this.0 that.0 h k end also alike.1 same.1 this.2 that.2 in
    ((both.made.1 ∙ (ap (λ (answer : Answer). Made answer) alike.0 ∙ sym both.also_made.1), rest.0), rest.1)
