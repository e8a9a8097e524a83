-- Each world has a list of verdicts, and one of results.
use Rattle.std.proofs.Common.{◌≡◌, ◌⊎◌, ◌<◌, ℕ, zero, suc, List, [], ◌∷◌, ◌++◌, map, length, Contains, Option, Some, None, refl, sym, ap, ◌∙◌, subst, inl, inr, arith}
use Rattle.std.specs.List.{count_by, flat_map, slice_get}
use Rattle.std.specs.Ordering.{nat_cmp}
use Rattle.std.specs.declared.cmp.Ordering.TheVariants.{Equal}
use Rattle.inclusion_graph.specs.declared.edge.Edge.{Edge}
use Rattle.inclusion_graph.specs.Walks.{IsReached, Reaches}
use Rattle.inclusion_graph.proofs.ReachLaws.{reaches_or_not}
use Rattle.lists.proofs.OrderLemmas.{nat_equal, then_equal}
use Rattle.verdict_lists.specs.declared.entries.Entry.{Entry}
use Rattle.verdict_lists.specs.declared.entries.Entry.TheVariants.{Result, Exoneration}
use Rattle.verdict_lists.specs.declared.verdict.Verdict.{Verdict}
use Rattle.verdict_lists.specs.World.{World, IsReachedResult, IsReachedExoneration}
use Rattle.verdict_lists.specs.Orders.{result_key_at}
use Rattle.verdict_lists.specs.Verdicts.{AreNumbered, IsVerdict, is_like, verdict_key, verdict_order}
use Rattle.verdict_lists.specs.Entries.{AreReached, IsReachedEntry, entry_order}
use Rattle.verdict_lists.specs.Groups.{made, plain, results_in, verdict_at}
use Rattle.verdict_lists.specs.Listing.{listed_order, names_order}
use Rattle.verdict_lists.specs.Laws.{HasList, HasListing}
use Rattle.verdict_lists.proofs.ListLemmas.{In, in_from, contains_from, in_left, in_right, in_either, in_map, from_map, in_flat, from_flat}
use Rattle.verdict_lists.proofs.OrderLemmas.{alike_from, entry_order_total, same_entry}
use Rattle.verdict_lists.proofs.VerdictLemmas.{equal_key, group, in_made, in_results, made_cases, made_is, some_in, verdict_order_total}
use Rattle.verdict_lists.proofs.ListingLemmas.{listed_order_total}
use Rattle.verdict_lists.proofs.LawLemmas.{same_plain, same_verdict}
use Rattle.verdict_lists.proofs.NumberLemmas.{are_numbered}
use Rattle.verdict_lists.proofs.SortLemmas.{gathered, in_order}

-- what is reached can be told
pub reached_or_not : (edges : List Edge) (roots : List ℕ) (node : ℕ) → IsReached edges roots node ⊎ (IsReached edges roots node → ⊥)
reached_or_not edges [] node = inr (λ h. absurd (in_from [] h.0 h.1))
reached_or_not edges (root ∷ roots) node = elim (reaches_or_not edges root node) [
  | inl yes_ ↦ inl (root, (zero, omega arith, refl), yes_)
  | inr no_ ↦ elim (reached_or_not edges roots node) [
    | inl more ↦ inl (more.0, contains_from (root ∷ roots) more.0 (inr (in_from roots more.0 more.1)), more.2)
    | inr never ↦ inr (λ h. elim (in_from (root ∷ roots) h.0 h.1) [
      | inl e ↦ no_ (subst (λ n. Reaches edges n node) (sym e) h.2)
      | inr i ↦ never (h.0, contains_from roots h.0 i, h.2)
    ])
  ]
]

pub got_within : {X : Type 0} (xs : List X) (k : ℕ) (x : X) → slice_get xs k ≡ Some x → k < length xs
got_within [] k x e = let never : None ≡ Some x = e in cc
got_within (y ∷ ys) zero x e = omega arith
got_within (y ∷ ys) (suc k) x e = let h = got_within ys k x e in omega arith

-- a row at a place whose holder is reached
abbrev IsHeld : {X : Type 0} → List X → (X → ℕ) → List Edge → List ℕ → ℕ → Type 0
IsHeld {X} rows holder edges roots place = (row : X) × (slice_get rows place ≡ Some row) × IsReached edges roots (holder row)

held_by_case : {X : Type 0} (rows : List X) (holder : X → ℕ) (edges : List Edge) (roots : List ℕ) (place : ℕ) (o : Option X) → slice_get rows place ≡ o
    → IsHeld rows holder edges roots place ⊎ (IsHeld rows holder edges roots place → ⊥)
held_by_case {X} rows holder edges roots place None e = inr (λ h. let never : None ≡ Some h.0 = sym e ∙ h.1 in cc)
held_by_case {X} rows holder edges roots place (Some row) e = elim (reached_or_not edges roots (holder row)) [
  | inl yes_ ↦ inl (row, e, yes_)
  | inr no_ ↦ inr (λ h.
      let both : Some row ≡ Some h.0 = sym e ∙ h.1 in
      let same : h.0 ≡ row = cc in
      no_ (subst (λ (x : X). IsReached edges roots (holder x)) same h.2))
]

held_or_not : {X : Type 0} (rows : List X) (holder : X → ℕ) (edges : List Edge) (roots : List ℕ) (place : ℕ)
    → IsHeld rows holder edges roots place ⊎ (IsHeld rows holder edges roots place → ⊥)
held_or_not rows holder edges roots place = held_by_case rows holder edges roots place (slice_get rows place) refl

-- all that is reached, in any order
some_entries : (world : World) (roots : List ℕ)
    → (entries : List Entry) × ((entry : Entry) → In entry entries → IsReachedEntry world roots entry) × ((entry : Entry) → IsReachedEntry world roots entry → In entry entries)
some_entries world roots =
    let r = gathered (IsReachedResult world roots) (held_or_not world.results (λ row. row.holder) world.edges roots) (length world.results) in
    let e = gathered (IsReachedExoneration world roots) (held_or_not world.exonerations (λ row. row.holder) world.edges roots) (length world.exonerations) in (
      map Result r.0 ++ map Exoneration e.0,
      λ entry i. elim (in_either (map Result r.0) (map Exoneration e.0) entry i) [
        | inl j ↦ let m = from_map Result r.0 entry j in subst (IsReachedEntry world roots) m.2 (r.1 m.0 m.1)
        | inr j ↦ let m = from_map Exoneration e.0 entry j in subst (IsReachedEntry world roots) m.2 (e.1 m.0 m.1)
      ],
      there world roots r.0 e.0 r.2 e.2,
    ) where
      there : (world : World) (roots rs es : List ℕ) → ((p : ℕ) → p < length world.results → IsReachedResult world roots p → In p rs)
          → ((p : ℕ) → p < length world.exonerations → IsReachedExoneration world roots p → In p es)
          → (entry : Entry) → IsReachedEntry world roots entry → In entry (map Result rs ++ map Exoneration es)
      there world roots rs es f g (Result p) h =
          in_left (map Result rs) (map Exoneration es) (Result p) (in_map Result rs p (f p (got_within world.results p h.0 h.1) h))
      there world roots rs es f g (Exoneration p) h =
          in_right (map Result rs) (map Exoneration es) (Exoneration p) (in_map Exoneration es p (g p (got_within world.exonerations p h.0 h.1) h))

has_entries : (world : World) (roots : List ℕ) → (entries : List Entry) × AreReached world roots entries
has_entries world roots =
    let some = some_entries world roots in
    let all = in_order (λ entry. Unit {0}) (entry_order world) (entry_order_total world) (λ a b q r e. same_entry world a b e) some.0 (λ entry i. tt) in (
      all.list,
      record {
        all = λ entry. (
          λ held. some.1 entry (all.from entry (in_from all.list entry held)),
          λ reached. contains_from all.list entry (all.to entry (some.2 entry reached)),
        );
        rise = all.rise;
      },
    )

-- verdicts with their ordinals
abbrev numbered : World → List Verdict → List Verdict → List Verdict
numbered world before [] = []
numbered world before (verdict ∷ verdicts) =
    record verdict { ordinal = count_by (is_like world verdict) before }
    ∷ numbered world (before ++ record verdict { ordinal = count_by (is_like world verdict) before } ∷ []) verdicts

numbered_are : (world : World) (before verdicts : List Verdict) → AreNumbered world before (numbered world before verdicts)
numbered_are world before [] = tt
numbered_are world before (verdict ∷ verdicts) =
    (refl, numbered_are world (before ++ record verdict { ordinal = count_by (is_like world verdict) before } ∷ []) verdicts)

numbered_plain : (world : World) (before verdicts : List Verdict) → map plain (numbered world before verdicts) ≡ map plain verdicts
numbered_plain world before [] = refl
numbered_plain world before (verdict ∷ verdicts) =
    ap (λ vs. plain verdict ∷ vs) (numbered_plain world (before ++ record verdict { ordinal = count_by (is_like world verdict) before } ∷ []) verdicts)

-- a verdict that has no ordinal yet
record IsUnnumbered (world : World) (roots : List ℕ) (verdict : Verdict) : Type 0 where
  is : IsVerdict world roots verdict
  none : verdict.ordinal ≡ 0

same_unnumbered : (world : World) (roots : List ℕ) (a b : Verdict) → IsUnnumbered world roots a → IsUnnumbered world roots b
    → verdict_order world a b ≡ Equal → a ≡ b
same_unnumbered world roots a b p q e =
    same_verdict a b (same_plain world roots a b p.is q.is (alike_from (verdict_key world a) (verdict_key world b) (equal_key world a b e))) (p.none ∙ sym q.none)

unnumbered : (world : World) (roots : List ℕ) (entries : List Entry) → AreReached world roots entries → (verdict : Verdict)
    → In verdict (flat_map (verdict_at world entries) entries) → IsUnnumbered world roots verdict
unnumbered world roots entries reached verdict i =
    let f = from_flat (verdict_at world entries) entries verdict i in
    let m = made_cases world (group world entries f.0) verdict f.2 in
    subst (IsUnnumbered world roots) m.1 (record { is = made_is world roots entries reached f.0 m.0; none = refl })

each_held : (world : World) (roots : List ℕ) (entries : List Entry) → AreReached world roots entries → (place : ℕ) → IsReachedResult world roots place
    → (verdict : Verdict) × In verdict (flat_map (verdict_at world entries) entries) × Contains verdict.results place
each_held world roots entries reached place r =
    let head : Entry = Result place in
    let g = group world entries head in
    let there = in_results world roots entries reached head place r (refl, refl) in (
      made world g,
      in_flat (verdict_at world entries) entries head (made world g) (in_from entries head ((reached.all head).1 r)) (in_made world g (some_in (results_in g) place there)),
      contains_from (results_in g) place there,
    )

pub has_list_is : HasList
has_list_is world roots =
    let e = has_entries world roots in
    let some = flat_map (verdict_at world e.0) e.0 in
    let own = unnumbered world roots e.0 e.1 in
    let all = in_order (IsUnnumbered world roots) (verdict_order world) (verdict_order_total world) (same_unnumbered world roots) some own in (
      numbered world [] all.list,
      are_numbered world roots all.list (numbered world [] all.list)
          (λ v i. (own v (all.from v i)).is)
          (λ place r. let h = each_held world roots e.0 e.1 place r in (h.0, all.to h.0 h.1, h.2))
          all.rise (numbered_plain world [] all.list) (numbered_are world [] all.list),
    )

pub has_listing_is : HasListing
has_listing_is world roots =
    let r = gathered (IsReachedResult world roots) (held_or_not world.results (λ row. row.holder) world.edges roots) (length world.results) in
    let all = in_order (λ p. Unit {0}) (listed_order world) (listed_order_total world)
    (λ a b p q e. nat_equal a b (then_equal (names_order (result_key_at world a) (result_key_at world b)) (nat_cmp a b) e).1) r.0 (λ p i. tt) in (
      all.list,
      record {
        all = λ place. (
          λ held. r.1 place (all.from place (in_from all.list place held)),
          λ reached. contains_from all.list place (all.to place (r.2 place (got_within world.results place reached.0 reached.1) reached)),
        );
        rise = all.rise;
      },
    )
