-- Whether an update changes a row can be told.
use Rattle.std.proofs.Common.{◌≡◌, ◌≢◌, ◌↔◌, ℕ, ℤ, Bool, true, not, nat_eq, List, Option, Some, None, unwrap_or, Decides, refl, sym, ap, ◌∙◌, inl, inr}
use Rattle.std.specs.Ordering.{int_eq}
use Rattle.std.specs.Cmp.Lexicographic.{pointwise, pointwise_decides}
use Rattle.std.proofs.lemmas.Bool.{cases_Bool, false≢true}
use Rattle.std.proofs.lemmas.Bool.Decides.{Decides-and, Decides-eqb, Decides-int_eq, Decides-not, Decides-or}
use Rattle.names_realms.specs.declared.pairs.Pair.{Pair}
use Rattle.invocations.specs.declared.invocation.Invocation.{Invocation}
use Rattle.invocation_world.specs.Changes.{are_other_tags, is_other_deadline, is_same_pair, is_update, updated}

same_bytes : (xs ys : List ℕ) → Decides (pointwise nat_eq xs ys) (xs ≡ ys)
same_bytes xs ys = pointwise_decides Decides-eqb xs ys

made_pair : List ℕ → List ℕ → Pair
made_pair key value = record { key = key; value = value }

pair_of : (a b : Pair) → a.key ≡ b.key → a.value ≡ b.value → a ≡ b
unfolding made_pair
pair_of a b key value = ap (λ k. made_pair k a.value) key ∙ ap (λ v. made_pair b.key v) value

pub same_pair : (a b : Pair) → Decides (is_same_pair a b) (a ≡ b)
same_pair a b =
    let both = Decides-and (pointwise nat_eq a.key b.key) (pointwise nat_eq a.value b.value) (same_bytes a.key b.key) (same_bytes a.value b.value) in (
      λ e. pair_of a b (both.0 e).0 (both.0 e).1,
      λ e. both.1 (ap (λ (p : Pair). p.key) e, ap (λ (p : Pair). p.value) e),
    )

other_deadline : (given : Option ℤ) (stands : ℤ) → Decides (is_other_deadline given stands) (unwrap_or given stands ≢ stands)
other_deadline None stands = (λ e. absurd (false≢true e), λ other. absurd (other refl))
other_deadline (Some given) stands = Decides-not (int_eq given stands) (Decides-int_eq given stands)

other_tags : (given : Option (List Pair)) (stand : List Pair) → Decides (are_other_tags given stand) (unwrap_or given stand ≢ stand)
other_tags None stand = (λ e. absurd (false≢true e), λ other. absurd (other refl))
other_tags (Some given) stand = Decides-not (pointwise is_same_pair given stand) (pointwise_decides same_pair given stand)

abbrev with_both : Invocation → ℤ → List Pair → Invocation
with_both row deadline tags = record row { deadline = deadline; tags = tags }

same_if_told : {A : Type 0} (b : Bool) (x y : A) → Decides b (x ≡ y) → (x ≢ y → ⊥) → x ≡ y
same_if_told b x y same not =
    elim (cases_Bool b) [ inl yes_ ↦ same.0 yes_ | inr no_ ↦ absurd (not (λ e. false≢true (sym no_ ∙ same.1 e))) ]

same_deadline : (given : Option ℤ) (stands : ℤ) → (unwrap_or given stands ≢ stands → ⊥) → unwrap_or given stands ≡ stands
same_deadline None stands not = refl
same_deadline (Some given) stands not =
    same_if_told (int_eq given stands) given stands (Decides-int_eq given stands) not

same_tags : (given : Option (List Pair)) (stand : List Pair) → (unwrap_or given stand ≢ stand → ⊥) → unwrap_or given stand ≡ stand
same_tags None stand not = refl
same_tags (Some given) stand not =
    let told = pointwise_decides same_pair given stand in
    same_if_told (pointwise is_same_pair given stand) given stand told not

unchanged : (deadline : Option ℤ) (tags : Option (List Pair)) (row : Invocation)
    → (unwrap_or deadline row.deadline ≢ row.deadline → ⊥) → (unwrap_or tags row.tags ≢ row.tags → ⊥) → updated deadline tags row ≡ row
unchanged deadline tags row first second =
    ap (λ d. with_both row d (unwrap_or tags row.tags)) (same_deadline deadline row.deadline first)
    ∙ ap (λ ts. with_both row row.deadline ts) (same_tags tags row.tags second)

pub update_told : (deadline : Option ℤ) (tags : Option (List Pair)) (row : Invocation)
    → (is_update deadline tags row ≡ true) ↔ (updated deadline tags row ≢ row)
update_told deadline tags row =
    let first = other_deadline deadline row.deadline in
    let second = other_tags tags row.tags in
    let either = Decides-or (is_other_deadline deadline row.deadline) (are_other_tags tags row.tags) first second in (
      λ e same. elim (either.0 e) [
        | inl other ↦ other (ap (λ (r : Invocation). r.deadline) same)
        | inr other ↦ other (ap (λ (r : Invocation). r.tags) same)
      ],
      λ other. elim (cases_Bool (is_update deadline tags row)) [
        | inl yes_ ↦ yes_
        | inr no_ ↦ absurd (other (unchanged deadline tags row (λ d. false≢true (sym no_ ∙ either.1 (inl d))) (λ t. false≢true (sym no_ ∙ either.1 (inr t)))))
      ],
    )
