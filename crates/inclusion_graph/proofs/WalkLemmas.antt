-- Walks that grow at either end.
use Rattle.std.proofs.Common.{◌≡◌, ℕ, List, [], ◌∷◌, ◌++◌, Some, None, refl, sym, ◌∙◌, subst}
use Rattle.std.proofs.lemmas.Option.{same_Some}
use Rattle.inclusion_graph.specs.declared.edge.Edge.{Edge}
use Rattle.inclusion_graph.specs.Edges.{HasEdge}
use Rattle.inclusion_graph.specs.Walks.{IsWalk, first_of, last_of, Leads, Reaches}

pub leads_one : (edges : List Edge) (a : ℕ) → Leads edges (a ∷ []) a a
leads_one edges a = record { is_walk = tt; begins = refl; ends = refl }

pub leads_cons : (edges : List Edge) (walk : List ℕ) (n a b : ℕ) → HasEdge edges n a → Leads edges walk a b → Leads edges (n ∷ walk) n b
leads_cons edges [] n a b e h = absurd h.is_walk
leads_cons edges (x ∷ rest) n a b e h = record {
  is_walk = (subst (HasEdge edges n) (sym (same_Some x a h.begins)) e, h.is_walk);
  begins = refl;
  ends = h.ends;
}

walk_push : (edges : List Edge) (walk : List ℕ) (a b : ℕ) → IsWalk edges walk → last_of walk ≡ Some a → HasEdge edges a b
    → IsWalk edges (walk ++ b ∷ [])
walk_push edges [] a b h last e = absurd h
walk_push edges (x ∷ []) a b h last e = (subst (λ y. HasEdge edges y b) (sym (same_Some x a last)) e, tt)
walk_push edges (x ∷ (y ∷ rest)) a b h last e = (h.0, walk_push edges (y ∷ rest) a b h.1 last e)

last_push : (walk : List ℕ) (b : ℕ) → last_of (walk ++ b ∷ []) ≡ Some b
last_push [] b = refl
last_push (x ∷ []) b = refl
last_push (x ∷ (y ∷ rest)) b = last_push (y ∷ rest) b

first_push : (walk : List ℕ) (a b : ℕ) → first_of walk ≡ Some a → first_of (walk ++ b ∷ []) ≡ Some a
first_push [] a b e = let no : None ≡ Some a = e in cc
first_push (x ∷ rest) a b e = e

pub reaches_itself : (edges : List Edge) (a : ℕ) → Reaches edges a a
reaches_itself edges a = (a ∷ [], leads_one edges a)

pub reaches_more : (edges : List Edge) (a b c : ℕ) → Reaches edges a b → HasEdge edges b c → Reaches edges a c
reaches_more edges a b c h e = (
  h.0 ++ c ∷ [],
  record {
    is_walk = walk_push edges h.0 b c h.1.is_walk h.1.ends e;
    begins = first_push h.0 a c h.1.begins;
    ends = last_push h.0 c;
  },
)

-- what holds of a node and goes along edges holds of all that is reached
pub along : (edges : List Edge) (P : ℕ → Type 0) → ((a b : ℕ) → P a → HasEdge edges a b → P b) → (walk : List ℕ) (a b : ℕ)
    → Leads edges walk a b → P a → P b
along edges P step [] a b h p = absurd h.is_walk
along edges P step (x ∷ []) a b h p = subst P (sym (same_Some x a h.begins) ∙ same_Some x b h.ends) p
along edges P step (x ∷ (y ∷ rest)) a b h p =
    along edges P step (y ∷ rest) y b (record { is_walk = h.is_walk.1; begins = refl; ends = h.ends })
    (step a y p (subst (λ z. HasEdge edges z y) (same_Some x a h.begins) h.is_walk.0))
