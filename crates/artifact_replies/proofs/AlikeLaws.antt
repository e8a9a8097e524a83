-- Lists of artifacts that are alike show the same.
use Rattle.std.proofs.Common.{◌≡◌, List, [], ◌∷◌, map, Some, refl, ap}
use Rattle.serde_json.specs.Data.{Data, array}
use Rattle.serde_json.specs.View.{items_of}
use Rattle.json_fields.specs.Fields.{Pairs}
use Rattle.artifacts.specs.declared.artifact.Artifact.{Artifact}
use Rattle.artifact_replies.specs.Replies.{line_data, rows_shown}
use Rattle.artifact_replies.specs.Laws.{AreAlike, ListsHideContents}

line_alike : (a b : Artifact) → AreAlike a b → line_data a ≡ line_data b
line_alike a b is = rw (is.name, is.content_type, is.size) refl

lines_alike : (rows others : List Artifact) → Pairs AreAlike rows others → map line_data rows ≡ map line_data others
lines_alike [] [] are = refl
lines_alike [] (b ∷ others) are = absurd are
lines_alike (a ∷ rows) [] are = absurd are
lines_alike (a ∷ rows) (b ∷ others) are =
    let one : line_data a ≡ line_data b = line_alike a b are.0 in
    let rest : map line_data rows ≡ map line_data others = lines_alike rows others are.1 in
    λ i. one i ∷ rest i

shown_alike : (rows others : List Artifact) → Pairs AreAlike rows others → rows_shown rows ≡ rows_shown others
shown_alike [] [] are = refl
shown_alike [] (b ∷ others) are = absurd are
shown_alike (a ∷ rows) [] are = absurd are
shown_alike (a ∷ rows) (b ∷ others) are = ap (λ (ds : List Data). Some (array (items_of ds))) (lines_alike (a ∷ rows) (b ∷ others) are)

pub lists_hide_contents : ListsHideContents
lists_hide_contents s t are same =
    let rows : rows_shown s.rows ≡ rows_shown t.rows = shown_alike s.rows t.rows are in
    rw (rows, same) refl
