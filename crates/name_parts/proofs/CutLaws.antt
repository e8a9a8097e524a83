-- Texts that are one are cut at one byte.
use Rattle.std.proofs.Common.{◌≡◌, ℕ, true, not, List, ◌∷◌, ◌++◌, length, take, drop, refl, sym, ap, ◌∙◌}
use Rattle.std.specs.Prelude.{◌==◌}
use Rattle.std.specs.List.{list_all, position_or_len}
use Rattle.std.proofs.lemmas.List.{take_at, drop_at}
use Rattle.name_parts.proofs.CutLemmas.{cut_before}

-- none of the bytes is this one
abbrev pub Lacks : ℕ → List ℕ → Type 0
Lacks c bs = list_all (λ x. not (x == c)) bs ≡ true

pub cut_alike : (c : ℕ) (p q s t : List ℕ) → Lacks c p → Lacks c q → p ++ c ∷ s ≡ q ++ c ∷ t → (p ≡ q) × ((c ∷ s) ≡ (c ∷ t))
cut_alike c p q s t no_p no_q e =
    let same : length p ≡ length q = sym (cut_before c p s no_p) ∙ ap (position_or_len (λ x. x == c)) e ∙ cut_before c q t no_q in (
      sym (take_at p (c ∷ s) (length p) refl) ∙ ap (take (length p)) e ∙ take_at q (c ∷ t) (length p) (sym same),
      sym (drop_at p (c ∷ s) (length p) refl) ∙ ap (drop (length p)) e ∙ drop_at q (c ∷ t) (length p) (sym same),
    )
