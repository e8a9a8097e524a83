use Rattle.std.proofs.Common.{List, [], ◌∷◌, ◌++◌, map, take, sym, ap, ◌∙◌, arith}
use Rattle.std.proofs.lemmas.List.{take_all}
use Rattle.serde_json.specs.Data.{Data, array}
use Rattle.serde_json.specs.View.{items_of}
use Rattle.serde_json.proofs.Views.{view-Array}
use Rattle.artifacts.specs.declared.new_artifact.NewArtifact.{NewArtifact}
use Rattle.result_forms.proofs.MemberLaws.{data_more}
use Rattle.artifact_forms.specs.Batches.{element_data}
use Rattle.artifact_forms.proofs.written.list_value.Goals as goal

pub loop-row-preserved : goal.loop-row-preserved
loop-row-preserved c =
    c.in_ok-add_element.ensures ∙ ap (λ (ds : List Data). ds ++ element_data c.row-item.result ∷ []) c.loop-row.invariant
    ∙ ap (λ (a : NewArtifact). map element_data (take c.loop-row.row-index c.args.rows.now) ++ element_data a ∷ []) c.row-item.is
    ∙ sym (data_more element_data c.args.rows.now c.loop-row.row-index c.row-item.result c.loop-row-test.true)

pub returns : goal.returns
returns c =
    view-Array c.loop-row.list
    ∙ ap (λ (ds : List Data). array (items_of ds)) (c.loop-row.invariant ∙ ap (map element_data) (take_all c.loop-row.row-index c.args.rows.now (omega arith)))
