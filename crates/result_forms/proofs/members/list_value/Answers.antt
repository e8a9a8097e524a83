use Rattle.std.proofs.Common.{List, [], ◌∷◌, ◌++◌, map, take, sym, ap, ◌∙◌, arith}
use Rattle.std.proofs.lemmas.List.{take_all}
use Rattle.serde_json.specs.Data.{Data, array}
use Rattle.serde_json.specs.View.{items_of}
use Rattle.serde_json.proofs.Views.{view-Array}
use Rattle.result_forms.proofs.MemberLaws.{data_more}
use Rattle.result_forms.proofs.members.list_value.Goals as goal

pub loop-x-preserved : goal.loop-x-preserved
loop-x-preserved g c =
    c.in_ok-add_shown.ensures ∙ ap (λ (ds : List Data). ds ++ g.T.Shown.shows c.x-item.result ∷ []) c.loop-x.invariant
    ∙ ap (λ x. map g.T.Shown.shows (take c.loop-x.x-index c.args.xs.now) ++ g.T.Shown.shows x ∷ []) c.x-item.is
    ∙ sym (data_more g.T.Shown.shows c.args.xs.now c.loop-x.x-index c.x-item.result c.loop-x-test.true)

pub returns : goal.returns
returns g c =
    view-Array c.loop-x.list
    ∙ ap (λ (ds : List Data). array (items_of ds)) (c.loop-x.invariant ∙ ap (map g.T.Shown.shows) (take_all c.loop-x.x-index c.args.xs.now (omega arith)))
