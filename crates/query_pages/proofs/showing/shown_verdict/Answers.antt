use Rattle.std.proofs.Common.{◌≡◌, ℕ, List, Some, map, take, get_or, MatchOption, refl, sym, ap, ◌∙◌, subst}
use Rattle.std.specs.List.{slice_get}
use Rattle.std.specs.Option.{option_copied}
use Rattle.names_realms.specs.declared.pairs.Pair.{Pair}
use Rattle.permissions.specs.Granting.{Granting}
use Rattle.verdict_lists.specs.Orders.{Key}
use Rattle.verdict_lists.specs.World.{world_of}
use Rattle.verdict_masks.specs.Masks.{ShowsVariant}
use Rattle.std.specs.List.{AllZip}
use Rattle.query_pages.specs.Seen.{seen_held}
use Rattle.query_pages.specs.Shown.{IsExplained, IsShownResult}
use Rattle.query_pages.proofs.RowLemmas.{first_key_is}
use Rattle.query_pages.proofs.showing.shown_verdict.Goals as goal

pub returns : goal.returns
returns c =
    let world = world_of c.args.view.now in
    let verdict = c.args.verdict.now in
    let row = c.row-first.result.now in
    let policy = c.args.rights.now.results.policy in
    let caller = c.args.rights.now.results.caller in
    let there : slice_get world.results (get_or verdict.results 0 0) ≡ Some row =
    subst (λ (xs : List ℕ). slice_get world.results (get_or xs 0 0) ≡ Some row) c.as_slice-places.ensures c.row-first.ensures in
    let key = first_key_is world verdict.results row c.requires.there.some there in
    let places : c.first_of-few.result.now ≡ take c.args.count verdict.results =
    c.first_of-few.ensures ∙ ap (λ (xs : List ℕ). take c.args.count xs) c.as_slice-places.ensures in
    let others = c.args.rights.now.exonerations in
    record {
      test = sym (ap (λ (k : Key). k.test) key);
      variant = subst (λ (p : List Pair). MatchOption (option_copied c.variant_of-variant.result) (ShowsVariant world policy caller verdict → ⊥)
          (λ pairs. ShowsVariant world policy caller verdict × (pairs ≡ p))) (sym (ap (λ (k : Key). k.pairs) key)) c.variant_of-variant.ensures;
      label = refl;
      status = refl;
      results = subst (λ (xs : List ℕ). AllZip (IsShownResult world policy caller) xs (map seen_held c.in_ok-results.results.items)) places c.in_ok-results.ensures;
      exonerations =
          subst (λ (xs : List ℕ). AllZip (IsExplained world policy caller) xs (map option_copied c.in_ok-exonerations.exonerations.items)) c.as_slice-others.ensures
          (subst (λ (g : Granting). AllZip (IsExplained world g.policy g.caller) c.as_slice-others.result.now (map option_copied c.in_ok-exonerations.exonerations.items))
          c.requires.rights.exonerations c.in_ok-exonerations.ensures);
    }
