use Rattle.std.proofs.Common.{◌≡◌, ℕ, List, Option, None, Some, MatchOption, sym, subst}
use Rattle.std.proofs.lemmas.Result.{IfOk-weaker}
use Rattle.call_forms.specs.declared.forms.Answer.{Answer}
use Rattle.serde_json.specs.Data.{Data}
use Rattle.serde_json.specs.View.{view}
use Rattle.serde_json.specs.declared.value.Value.{Value}
use Rattle.workload_turns.specs.Pages.{HasJson, ShowsJson}
use Rattle.workload_turns.proofs.pages.shown_in.Goals as goal

shows : (answer : Answer) (body : List ℕ) → body ≡ answer.body → answer.status ≡ 200 → (found : Option Value)
    → MatchOption found ((d : Data) → ¬ HasJson body d) (λ v. HasJson body (view v))
    → MatchOption found ((d : Data) → ¬ ShowsJson answer d) (λ v. ShowsJson answer (view v))
shows answer body is fine None none = λ d s. none d (subst (λ (b : List ℕ). HasJson b d) (sym is) s.1)
shows answer body is fine (Some v) has = (fine, subst (λ (b : List ℕ). HasJson b (view v)) is has)

pub returns : goal.returns
returns c =
    IfOk-weaker c.json_in.result _ _ (shows c.args.answer.now c.as_slice.result.now c.as_slice.ensures c.if-answer-ne200.false) c.json_in.ensures
