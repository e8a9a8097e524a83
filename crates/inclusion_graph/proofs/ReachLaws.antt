-- What is reached over more edges, and that it can be told what is reached.
use Rattle.std.proofs.Common.{◌≡◌, ◌⊎◌, ℕ, zero, List, [], ◌∷◌, ◌++◌, refl, sym, ap, subst, inl, inr, arith}
use Rattle.std.specs.List.{All}
use Rattle.std.proofs.lemmas.Bool.{cases_eq}
use Rattle.std.proofs.lemmas.List.Elements.{All-contains, Contains-append_cases, Contains-append_left, Contains-append_right}
use Rattle.inclusion_graph.specs.declared.edge.Edge.{Edge}
use Rattle.inclusion_graph.specs.Edges.{HasEdge}
use Rattle.inclusion_graph.specs.Walks.{Reaches}
use Rattle.inclusion_graph.proofs.ListLemmas.{in_one}
use Rattle.inclusion_graph.proofs.WalkLemmas.{along, reaches_itself, reaches_more}

pub reaches_join : (edges : List Edge) (a b c : ℕ) → Reaches edges a b → Reaches edges b c → Reaches edges a c
reaches_join edges a b c first second =
    along edges (Reaches edges a) (λ x y so edge. reaches_more edges a x y so edge) second.0 b c second.1 first

pub reaches_over : (edges others : List Edge) → ((a b : ℕ) → HasEdge edges a b → HasEdge others a b)
    → (a b : ℕ) → Reaches edges a b → Reaches others a b
reaches_over edges others more a b h =
    along edges (Reaches others a) (λ x y so edge. reaches_more others a x y so (more x y edge)) h.0 a b h.1 (reaches_itself others a)

pub reaches_appended : (edges new : List Edge) (a b : ℕ) → Reaches edges a b → Reaches (edges ++ new) a b
reaches_appended edges new a b h =
    reaches_over edges (edges ++ new) (λ x y edge. Contains-append_left edges new (record { from = x; to = y }) edge) a b h

-- by new edges from one node alone, nothing more is reached but from that node
pub reaches_split : (edges new : List Edge) (p : ℕ) → All (λ (e : Edge). e.from ≡ p) new → (a b : ℕ) → Reaches (edges ++ new) a b
    → Reaches edges a b ⊎ Reaches edges a p
reaches_split edges new p from a b h =
    let Was : ℕ → Type 0 = λ x. Reaches edges a x ⊎ Reaches edges a p in
    along (edges ++ new) Was
    (λ x y so edge. elim so [
      | inl here ↦ elim (Contains-append_cases edges new (record { from = x; to = y }) edge) [
        | inl old ↦ inl (reaches_more edges a x y here old)
        | inr more ↦ inr (subst (Reaches edges a) (All-contains (λ (e : Edge). e.from ≡ p) new (record { from = x; to = y }) from more) here)
      ]
      | inr there ↦ inr there
    ])
    h.0 a b h.1 (inl (reaches_itself edges a))

no_edge : (a b : ℕ) → Reaches [] a b → a ≡ b
no_edge a b h =
    along [] (λ x. a ≡ x) (λ x y so edge. absurd (omega (arith, edge.1))) h.0 a b h.1 refl

head_or_tail : (e : Edge) (edges : List Edge) (x y : ℕ) → HasEdge (e ∷ edges) x y
    → ((e.from ≡ x) × (e.to ≡ y)) ⊎ HasEdge edges x y
head_or_tail e edges x y edge =
    elim (Contains-append_cases (e ∷ []) edges (record { from = x; to = y }) edge) [
      | inl here ↦
          let same = in_one e (record { from = x; to = y }) here in
          inl (ap (λ (d : Edge). d.from) same, ap (λ (d : Edge). d.to) same)
      | inr there ↦ inr there
    ]

-- a walk goes over an edge, or it doesn't
by_edge : (e : Edge) (edges : List Edge) (a b : ℕ) → Reaches (e ∷ edges) a b
    → Reaches edges a b ⊎ (Reaches edges a e.from × Reaches edges e.to b)
by_edge e edges a b h =
    let Was : ℕ → Type 0 = λ x. Reaches edges a x ⊎ (Reaches edges a e.from × Reaches edges e.to x) in
    along (e ∷ edges) Was
    (λ x y so edge. elim so [
      | inl here ↦ elim (head_or_tail e edges x y edge) [
        | inl is ↦ inr (subst (Reaches edges a) (sym is.0) here, subst (Reaches edges e.to) is.1 (reaches_itself edges e.to))
        | inr old ↦ inl (reaches_more edges a x y here old)
      ]
      | inr there ↦ elim (head_or_tail e edges x y edge) [
        | inl is ↦ inr (there.0, subst (Reaches edges e.to) is.1 (reaches_itself edges e.to))
        | inr old ↦ inr (there.0, reaches_more edges e.to x y there.1 old)
      ]
    ])
    h.0 a b h.1 (inl (reaches_itself edges a))

tail_reaches : (e : Edge) (edges : List Edge) (a b : ℕ) → Reaches edges a b → Reaches (e ∷ edges) a b
tail_reaches e edges a b h =
    reaches_over edges (e ∷ edges) (λ x y edge. Contains-append_right (e ∷ []) edges (record { from = x; to = y }) edge) a b h

head_edge : (e : Edge) (edges : List Edge) → HasEdge (e ∷ edges) e.from e.to
head_edge e edges = (zero, omega arith, refl)

pub reaches_or_not : (edges : List Edge) (a b : ℕ) → Reaches edges a b ⊎ (Reaches edges a b → ⊥)
reaches_or_not [] a b =
    elim (cases_eq a b) [ inl same ↦ inl (subst (Reaches [] a) same (reaches_itself [] a)) | inr other ↦ inr (λ h. other (no_edge a b h)) ]
reaches_or_not (e ∷ edges) a b =
    elim (reaches_or_not edges a b) [
      | inl yes_ ↦ inl (tail_reaches e edges a b yes_)
      | inr no_ ↦ elim (reaches_or_not edges a e.from) [
        | inr never ↦ inr (λ h. elim (by_edge e edges a b h) [ inl old ↦ no_ old | inr both ↦ never both.0 ])
        | inl begins ↦ elim (reaches_or_not edges e.to b) [
          | inr never ↦ inr (λ h. elim (by_edge e edges a b h) [ inl old ↦ no_ old | inr both ↦ never both.1 ])
          | inl ends ↦ inl (reaches_join (e ∷ edges) a e.to b
              (reaches_more (e ∷ edges) a e.from e.to (tail_reaches e edges a e.from begins) (head_edge e edges))
              (tail_reaches e edges e.to b ends))
        ]
      ]
    ]
