use Rattle.std.proofs.Common.{List, [], ◌∷◌, ◌++◌, map, take, sym, ap, subst, ◌∙◌, arith}
use Rattle.std.proofs.lemmas.List.{take_all}
use Rattle.serde_json.specs.Data.{Data, array}
use Rattle.serde_json.specs.View.{items_of}
use Rattle.serde_json.proofs.Views.{view-Array}
use Rattle.json_fields.specs.Writing.{IsWritten}
use Rattle.json_fields.proofs.WriteLaws.{written_more, values_more}
use Rattle.json_fields.proofs.writing.write_all.Goals as goal

pub loop-x-preserved : goal.loop-x-preserved
loop-x-preserved g c =
    let added = c.in_ok-add_written.ensures in
    record {
      values = added.values ∙ ap (λ (ds : List Data). ds ++ g.T.Written.json c.x-item.result ∷ []) c.loop-x.invariant.values
          ∙ ap (λ x. map g.T.Written.json (take c.loop-x.x-index c.args.xs.now) ++ g.T.Written.json x ∷ []) c.x-item.is
          ∙ sym (values_more g.T.Form.fault g.T.Form.means g.T.Form.empty g.T.Written.blank g.T.Written.json c.args.xs.now c.loop-x.x-index c.x-item.result c.loop-x-test.true);
      again = written_more g.T.Form.fault g.T.Form.means g.T.Form.empty g.T.Written.blank g.T.Written.json c.args.xs.now c.loop-x.x-index c.x-item.result c.loop-x-test.true c.loop-x.invariant.again
          (subst (λ x. IsWritten g.T.Form.fault g.T.Form.means g.T.Form.empty g.T.Written.blank x (g.T.Written.json x)) c.x-item.is added.again);
    }

pub returns-clause-value : goal.returns-clause-value
returns-clause-value g c =
    view-Array c.loop-x.list
    ∙ ap (λ (ds : List Data). array (items_of ds)) (c.loop-x.invariant.values ∙ ap (map g.T.Written.json) (take_all c.loop-x.x-index c.args.xs.now (omega arith)))
