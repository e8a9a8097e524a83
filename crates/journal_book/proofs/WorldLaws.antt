-- Commands lead on, and what images have of it.
use Rattle.std.proofs.Common.{◌≡◌, ◌⊎◌, inl, inr, ⊎_elim, ℕ, List, [], ◌∷◌, ◌++◌, refl, sym, subst, ◌∙◌}
use Rattle.disks.specs.Parts.{Image}
use Rattle.result_journal.specs.Journals.{ReadsAs, PartBeforeOrAfter, begun_part}
use Rattle.result_journal.specs.Grammar.{Bodies}
use Rattle.journal_book.specs.Worlds.{HasNext, HasWorld, Leads, Play}

pub leads_on : {W : Type 0} (plays : Play W) (w : W) (commands : List (List ℕ)) (x : W) (command : List ℕ) (next : W)
    → Leads plays w commands x → plays x command next → Leads plays w (commands ++ command ∷ []) next
leads_on plays w [] x command next leads step = (next, subst (λ v. plays v command next) leads step, refl)
leads_on plays w (c ∷ cs) x command next leads step =
    (leads.0, leads.1, leads_on plays leads.0 cs x command next leads.2 step)

-- commands lead to one world
pub one_end : {W : Type 0} (plays : Play W) → ((w : W) (command : List ℕ) (v x : W) → plays w command v → plays w command x → v ≡ x)
    → (w : W) (commands : List (List ℕ)) (x y : W) → Leads plays w commands x → Leads plays w commands y → x ≡ y
one_end plays one w [] x y leads also = leads ∙ sym also
one_end {W} plays one w (c ∷ cs) x y leads also =
    let same : leads.0 ≡ also.0 = one w c leads.0 also.0 leads.1 also.1 in
    one_end plays one also.0 cs x y (subst (λ (v : W). Leads plays v cs x) same leads.2) also.2

-- an image that reads as these commands, or as these and one more
pub either_world : {W : Type 0} (plays : Play W) (first w : W) (commands : List (List ℕ)) (command : List ℕ) (image : Image)
    → Leads plays first commands w → ((next : W) × plays w command next) → PartBeforeOrAfter begun_part commands command image
    → HasWorld plays first w image ⊎ HasNext plays first w command image
either_world plays first w commands command image leads next either =
    ⊎_elim (λ (before : ReadsAs commands image). inl (commands, before, leads))
    (λ (after : ReadsAs (commands ++ command ∷ []) image). inr (next.0, next.1, (commands ++ command ∷ [], after, leads_on plays first commands w command next.0 leads next.1)))
    either

pub same_bodies : (one other : List (List ℕ)) → Bodies one ≡ Bodies other → one ≡ other
same_bodies one other same = cc
