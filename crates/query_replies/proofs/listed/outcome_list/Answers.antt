use Rattle.std.proofs.Common.{List, [], ◌∷◌, ◌++◌, map, take, sym, ap, ◌∙◌, arith}
use Rattle.std.proofs.lemmas.List.{take_all}
use Rattle.serde_json.specs.Data.{Data, array}
use Rattle.serde_json.specs.View.{items_of}
use Rattle.serde_json.proofs.Views.{view-Array}
use Rattle.query_pages.specs.Seen.{seen_held}
use Rattle.query_pages.specs.declared.pages.HeldResult.{HeldResult}
use Rattle.query_replies.specs.Verdicts.{outcome_data}
use Rattle.query_replies.proofs.TextLaws.{seen_more}
use Rattle.query_replies.proofs.listed.outcome_list.Goals as goal

pub loop-held-preserved : goal.loop-held-preserved
loop-held-preserved c =
    c.in_ok-add_outcome.ensures ∙ ap (λ (ds : List Data). ds ++ outcome_data (seen_held c.held-item.result) ∷ []) c.loop-held.invariant
    ∙ ap (λ (x : HeldResult). map outcome_data (map seen_held (take c.loop-held.held-index c.args.results.now)) ++ outcome_data (seen_held x) ∷ []) c.held-item.is
    ∙ sym (seen_more outcome_data seen_held c.args.results.now c.loop-held.held-index c.held-item.result c.loop-held-test.true)

pub returns : goal.returns
returns c =
    view-Array c.loop-held.list
    ∙ ap (λ (ds : List Data). array (items_of ds)) (c.loop-held.invariant ∙ ap (λ (xs : List HeldResult). map outcome_data (map seen_held xs)) (take_all c.loop-held.held-index c.args.results.now (omega arith)))
