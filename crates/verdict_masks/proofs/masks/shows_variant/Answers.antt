use Rattle.std.proofs.Common.{◌≡◌, ℕ, List, length, get_or, sym, ap, ◌∙◌, subst, inl, inr, arith}
use Rattle.std.proofs.lemmas.Bool.{cases_lt, true≢false}
use Rattle.std.proofs.lemmas.List.{get_or_default}
use Rattle.verdict_lists.specs.World.{world_of}
use Rattle.verdict_masks.specs.Masks.{MaySeeResult}
use Rattle.verdict_masks.proofs.masks.shows_variant.Goals as goal

pub loop-place-preserved : goal.loop-place-preserved
loop-place-preserved c k lt seen =
    let P : ℕ → Type 0 = λ p. MaySeeResult (world_of c.args.view.now) c.args.granted.now.policy c.args.granted.now.caller p in
    let places = c.args.verdict.now.results in
    let i = c.loop-place.place-index in
    elim (cases_lt k i) [
      | inl less ↦ c.loop-place.invariant k less seen
      | inr ge ↦
          let same : k ≡ i = omega (arith, lt, ge) in
          true≢false (sym (c.if-may_see.ensures.1 (subst P (ap (λ n. get_or places n 0) same ∙ ap (λ (xs : List ℕ). get_or xs i 0) (sym c.as_slice-place-items.ensures)) seen)))
    ]

pub returns : goal.returns
returns c =
    let P : ℕ → Type 0 = λ p. MaySeeResult (world_of c.args.view.now) c.args.granted.now.policy c.args.granted.now.caller p in
    let places = c.args.verdict.now.results in
    let count : length c.as_slice-place-items.result.now ≡ length places = ap length c.as_slice-place-items.ensures in (
      λ never. absurd (true≢false (sym never)),
      λ held. absurd (c.loop-place.invariant held.1.0 (omega (arith, count, held.1.1, c.loop-place-test.false))
          (subst P (sym (get_or_default places held.1.0 0 held.0 held.1.1 ∙ held.1.2)) held.2)),
    )
