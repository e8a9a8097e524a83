use Rattle.std.proofs.Common.{◌≡◌, List, length, sym, ap, ◌∙◌, subst}
use Rattle.std.specs.List.{All}
use Rattle.std.proofs.lemmas.List.{length-map, with_items_is}
use Rattle.artifacts.specs.declared.artifact.Artifact.{Artifact}
use Rattle.artifacts.specs.Artifacts.{HasItsHash}
use Rattle.artifacts.specs.Batches.{given, with_holder}
use Rattle.artifacts.proofs.RequestLemmas.{given_hashed}
use Rattle.artifacts.proofs.new_artifact.Digested.of_holder.Goals as goal

pub invariant_of-result : goal.invariant_of-result
invariant_of-result c =
    let rows = c.self.inside.rows in
    let holder = c.args.holder in
    let batch = given holder rows.items in
    let give_is : c.give.new.rows ≡ batch = c.give.ensures ∙ ap (λ (rs : List Artifact). given holder rs) c.deref_mut.ensures.value in
    let total : length batch ≡ length rows.items = length-map rows.items (with_holder holder) in
    let size : length c.give.new.rows ≡ rows.len = ap (λ (rs : List Artifact). length rs) give_is ∙ total ∙ sym rows.ok.0 in
    let all = with_items_is rows c.give.new.rows size ∙ give_is in (
      subst (λ (rs : List Artifact). All HasItsHash rs) (sym all) (given_hashed holder rows.items c.self.invariant.0),
      c.self.invariant.1 ∙ sym (ap (λ (rs : List Artifact). length rs) all ∙ total),
    )
