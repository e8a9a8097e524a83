use Rattle.std.proofs.Common.{ℕ, false, List, [], ◌∷◌, ◌++◌, map, take, sym, ap, subst, ◌∙◌, arith}
use Rattle.std.proofs.lemmas.List.{take_all}
use Rattle.serde_json.specs.Data.{Data, array}
use Rattle.serde_json.specs.View.{items_of}
use Rattle.serde_json.proofs.Views.{view-Array}
use Rattle.json_fields.specs.Kinds.{empty_text}
use Rattle.json_fields.specs.Writing.{IsWritten}
use Rattle.json_fields.proofs.WriteLaws.{written_more, values_more}
use Rattle.invocation_forms.specs.Named.{an_invocation_name, IsNameOf, name_data}
use Rattle.invocation_forms.proofs.name_values.names_value.Goals as goal

pub loop-id-preserved : goal.loop-id-preserved
loop-id-preserved c =
    let added = c.in_ok-add_name.ensures in
    record {
      values = added.values ∙ ap (λ (ds : List Data). ds ++ name_data c.id-item.result ∷ []) c.loop-id.invariant.values
          ∙ ap (λ (x : List ℕ). map name_data (take c.loop-id.id-index c.args.ids.now) ++ name_data x ∷ []) c.id-item.is
          ∙ sym (values_more an_invocation_name IsNameOf empty_text (λ _. false) name_data c.args.ids.now c.loop-id.id-index c.id-item.result c.loop-id-test.true);
      again = written_more an_invocation_name IsNameOf empty_text (λ _. false) name_data c.args.ids.now c.loop-id.id-index c.id-item.result c.loop-id-test.true c.loop-id.invariant.again
          (subst (λ (x : List ℕ). IsWritten an_invocation_name IsNameOf empty_text (λ _. false) x (name_data x)) c.id-item.is added.again);
    }

pub returns-clause-value : goal.returns-clause-value
returns-clause-value c =
    view-Array c.loop-id.list
    ∙ ap (λ (ds : List Data). array (items_of ds)) (c.loop-id.invariant.values ∙ ap (map name_data) (take_all c.loop-id.id-index c.args.ids.now (omega arith)))
