-- What is kept for numbers.
use Rattle.std.proofs.Common.{◌≡◌, ◌≢◌, ℕ, List, [], ◌∷◌, Option, Some, None, refl, sym, ap, ◌∙◌, inl, inr, arith}
use Rattle.std.specs.Prelude.{slice_get}
use Rattle.std.specs.Str.{bytes_eq}
use Rattle.std.specs.Cmp.Lexicographic.{bytes_decides}
use Rattle.std.proofs.lemmas.Bool.{cases_Bool, false≢true}
use Rattle.std.proofs.lemmas.Option.{none-some, same_Some}
use Rattle.kept_replies.specs.declared.reply.KeptReply.{KeptReply}
use Rattle.kept_replies.specs.Kept.{IsFree, IsWord, place_for}
use Rattle.kept_replies.proofs.FirstLemmas.{none_is_free, place_holds_for}
use Rattle.message_forms.specs.TextKinds.Texts.{IsRequestId}
use Rattle.artifacts.specs.declared.new_artifact.NewArtifact.{NewArtifact}
use Rattle.call_forms.specs.declared.asked.Asked.{Asked}
use Rattle.message_forms.specs.declared.requests.Request.{Request}
use Rattle.message_forms.specs.declared.requests.Request.TheVariants as asks
use Rattle.message_forms.specs.Forms.{IsOfForm}
use Rattle.request_demands.specs.declared.numbers.NumberCheck.{NumberCheck}
use Rattle.request_demands.specs.declared.numbers.NumberCheck.TheVariants.{New, Repeat, Reused}
use Rattle.request_demands.specs.Demands.{Demand, demand_of, of_artifacts}
use Rattle.request_demands.specs.Numbered.{IsNumbered, IsRepeatOf, digest_of, kept_at, kept_for, place_kept}

-- what is found at the place of a number
pub kept_there : (kept : List KeptReply) (name : List ℕ) (d : Demand) (number : List ℕ) (place : ℕ) → d.number ≡ Some number
    → place_for name number kept ≡ Some place → kept_for kept name d ≡ slice_get kept place
kept_there kept name d number place e at =
    ap (λ (n : Option (List ℕ)). kept_at kept (place_kept kept name n)) e ∙ ap (kept_at kept) at

pub none_kept : (kept : List KeptReply) (name : List ℕ) (d : Demand) (number : List ℕ) → d.number ≡ Some number
    → place_for name number kept ≡ None → kept_for kept name d ≡ None
none_kept kept name d number e at =
    ap (λ (n : Option (List ℕ)). kept_at kept (place_kept kept name n)) e ∙ ap (kept_at kept) at

pub unnumbered : (kept : List KeptReply) (name : List ℕ) (d : Demand) → d.number ≡ None → kept_for kept name d ≡ None
unnumbered kept name d e = ap (λ (n : Option (List ℕ)). kept_at kept (place_kept kept name n)) e

-- a number has no blank
pub inked_word : (text : List ℕ) → IsRequestId text → IsWord text
inked_word text is = λ k d lt same.
    let within = is.bytes k d lt in
    omega (arith, within.0, same)

-- the number that a batch of artifacts demands
number_of_artifacts : (number : Option (List ℕ)) (rows : List NewArtifact) → (of_artifacts number rows).number ≡ number
number_of_artifacts number [] = refl
number_of_artifacts number (first ∷ others) = refl

pub number_is_word : (request : Request) (number : List ℕ) → IsOfForm request → (demand_of request).number ≡ Some number → IsWord number
number_is_word (asks.CreateInvocation q) number form e = inked_word number (form.request_id number e)
number_is_word (asks.BatchCreateTestResults q) number form e = inked_word number (form.request_id number e)
number_is_word (asks.BatchCreateTestExonerations q) number form e = inked_word number (form.request_id number e)
number_is_word (asks.BatchCreateArtifacts q) number form e = inked_word number (form.request_id number (sym (number_of_artifacts q.request_id q.requests) ∙ e))
number_is_word _ number form e = absurd (none-some number e)

-- what was checked to be no repeat is none
pub fresh_as : (kept : List KeptReply) (name : List ℕ) (asked : Asked) (d : Demand) (check : NumberCheck) → IsNumbered kept name asked d check
    → ((place : ℕ) → check ≢ Repeat place) → (k : KeptReply) → ¬ IsRepeatOf kept name asked d k
fresh_as kept name asked d New none other k is = none-some k (sym none ∙ is.found)
fresh_as kept name asked d (Repeat place) at other k is = other place refl
fresh_as kept name asked d Reused at other k is =
    at.1.other (ap (λ (r : KeptReply). r.digest) (same_Some at.0 k (sym at.1.found ∙ is.found)) ∙ is.same)
