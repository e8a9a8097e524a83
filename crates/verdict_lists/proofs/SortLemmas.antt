-- Lists that are gathered, and put in order.
use Rattle.std.proofs.Common.{◌≡◌, ◌⊎◌, ◌<◌, ℕ, zero, suc, List, [], ◌∷◌, Ordering, refl, sym, ap, ◌∙◌, subst, inl, inr, arith}
use Rattle.std.specs.Cmp.{IsTotalOrder}
use Rattle.std.specs.Ordering.{ordering_reverse}
use Rattle.std.specs.declared.cmp.Ordering.TheVariants.{Less, Equal, Greater}
use Rattle.std.proofs.lemmas.Bool.{cases_lt}
use Rattle.lists.specs.Orders.{IsRising}
use Rattle.verdict_lists.proofs.ListLemmas.{In, every_from, every_at}

-- the numbers below one that have a property which can be decided
pub gathered : (P : ℕ → Type 0) → ((n : ℕ) → P n ⊎ (P n → ⊥)) → (count : ℕ)
    → (xs : List ℕ) × ((n : ℕ) → In n xs → P n) × ((n : ℕ) → n < count → P n → In n xs)
gathered P decided zero = ([], λ n i. absurd i, λ n lt p. absurd (omega arith))
gathered P decided (suc count) =
    let r = gathered P decided count in
    elim (decided count) [
      | inl yes_ ↦ (
        count ∷ r.0,
        λ n i. elim i [ inl e ↦ subst P e yes_ | inr j ↦ r.1 n j ],
        λ n lt p. elim (cases_lt n count) [
          | inl below ↦ inr (r.2 n below p)
          | inr ge ↦ inl (let same : count ≡ n = omega arith in same)
        ],
      )
      | inr no_ ↦ (
        r.0,
        r.1,
        λ n lt p. elim (cases_lt n count) [
          | inl below ↦ r.2 n below p
          | inr ge ↦ absurd (no_ (let same : n ≡ count = omega arith in subst P same p))
        ],
      )
    ]

-- Values of a kind, of which two that are equal in an order are the same, one after the other put
-- into a list that rises.
module _ {X : Type 0} (Q : X → Type 0) (R : X → X → Ordering) (o : IsTotalOrder R) (same : (a b : X) → Q a → Q b → R a b ≡ Equal → a ≡ b) where
  pub record Put (xs : List X) : Type 0 where
    pub list : List X
    pub rise : IsRising R list
    pub from : (y : X) → In y list → In y xs
    pub to : (y : X) → In y xs → In y list

  put_by : (x z : X) (zs : List X) → Q x → ((y : X) → In y (z ∷ zs) → Q y) → IsRising R (z ∷ zs) → Put (x ∷ zs)
      → (order : Ordering) → R x z ≡ order → Put (x ∷ (z ∷ zs))
  put_by x z zs q qs h rest Less e = record {
    list = x ∷ (z ∷ zs);
    rise = (
      every_from (λ y. R x y ≡ Less) (z ∷ zs) (λ y i. elim i [
        | inl s ↦ subst (λ w. R x w ≡ Less) s e
        | inr j ↦ o.trans x z y e (every_at (λ w. R z w ≡ Less) zs h.0 y j)
      ]),
      h,
    );
    from = λ y i. i;
    to = λ y i. i;
  }
  put_by x z zs q qs h rest Equal e = record {
    list = z ∷ zs;
    rise = h;
    from = λ y i. inr i;
    to = λ y i. elim i [ inl s ↦ inl (sym (same x z q (qs z (inl refl)) e) ∙ s) | inr j ↦ j ];
  }
  put_by x z zs q qs h rest Greater e = record {
    list = z ∷ rest.list;
    rise = (
      every_from (λ y. R z y ≡ Less) rest.list (λ y i. elim (rest.from y i) [
        | inl s ↦ subst (λ w. R z w ≡ Less) s (o.antisymm z x ∙ ap ordering_reverse e)
        | inr j ↦ every_at (λ w. R z w ≡ Less) zs h.0 y j
      ]),
      rest.rise,
    );
    from = λ y i. elim i [ inl s ↦ inr (inl s) | inr j ↦ elim (rest.from y j) [ inl s ↦ inl s | inr k ↦ inr (inr k) ] ];
    to = λ y i. elim i [
      | inl s ↦ inr (rest.to y (inl s))
      | inr j ↦ elim j [ inl s ↦ inl s | inr k ↦ inr (rest.to y (inr k)) ]
    ];
  }

  put : (x : X) (xs : List X) → Q x → ((y : X) → In y xs → Q y) → IsRising R xs → Put (x ∷ xs)
  put x [] q qs h = record { list = x ∷ []; rise = (tt, tt); from = λ y i. i; to = λ y i. i }
  put x (z ∷ zs) q qs h = put_by x z zs q qs h (put x zs q (λ y i. qs y (inr i)) h.1) (R x z) refl

  pub in_order : (xs : List X) → ((y : X) → In y xs → Q y) → Put xs
  in_order [] qs = record { list = []; rise = tt; from = λ y i. i; to = λ y i. i }
  in_order (x ∷ xs) qs =
      let rest = in_order xs (λ y i. qs y (inr i)) in
      let all = put x rest.list (qs x (inl refl)) (λ y i. qs y (inr (rest.from y i))) rest.rise in
      record {
        list = all.list;
        rise = all.rise;
        from = λ y i. elim (all.from y i) [ inl s ↦ inl s | inr j ↦ inr (rest.from y j) ];
        to = λ y i. all.to y (elim i [ inl s ↦ inl s | inr j ↦ inr (rest.to y j) ]);
      }
