use Rattle.std.proofs.Common.{◌≡◌, ◌+◌, [], ◌∷◌, ◌++◌, List, length, refl, sym, ap, ◌∙◌, subst}
use Rattle.std.specs.List.{All}
use Rattle.std.proofs.lemmas.List.{length_push}
use Rattle.std.proofs.lemmas.List.Elements.{All-push}
use Rattle.artifacts.specs.declared.artifact.Artifact.{Artifact}
use Rattle.artifacts.specs.declared.new_artifact.Said.{Said}
use Rattle.artifacts.specs.Artifacts.{HasItsHash}
use Rattle.artifacts.specs.Requests.{artifact_of, said_of}
use Rattle.artifacts.proofs.new_artifact.Digested.push.Goals as goal

pub invariant_of-self-2 : goal.invariant_of-self-2
invariant_of-self-2 c =
    let rows = c.self.inside.rows.items in
    let said = c.self.inside.said.items in
    let new = artifact_of c.args.new in
    let all : c.push_reserved.new.self.items ≡ rows ++ new ∷ [] =
    c.push_reserved.ensures.items ∙ ap (λ (rs : List Artifact). rs ++ c.hashed.result ∷ []) c.reserve.ensures.items
    ∙ ap (λ (r : Artifact). rows ++ r ∷ []) c.hashed.ensures in
    let more : c.push_reserved-2.new.self.items ≡ said ++ said_of c.args.new ∷ [] =
    c.push_reserved-2.ensures.items ∙ ap (λ (ss : List Said). ss ++ said_of c.args.new ∷ []) c.reserve-2.ensures.items in (
      subst (λ (rs : List Artifact). All HasItsHash rs) (sym all) (All-push HasItsHash rows new c.self.invariant.0 refl),
      ap (λ (ss : List Said). length ss) more ∙ length_push said (said_of c.args.new) ∙ ap (λ n. n + 1) c.self.invariant.1
          ∙ sym (ap (λ (rs : List Artifact). length rs) all ∙ length_push rows new),
    )
