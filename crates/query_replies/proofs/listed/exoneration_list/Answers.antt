use Rattle.std.proofs.Common.{ℕ, Option, List, [], ◌∷◌, ◌++◌, map, take, sym, ap, ◌∙◌, arith}
use Rattle.std.specs.Borrow.{Bor}
use Rattle.std.specs.Option.{option_copied}
use Rattle.std.proofs.lemmas.List.{take_all}
use Rattle.serde_json.specs.Data.{Data, array}
use Rattle.serde_json.specs.View.{items_of}
use Rattle.serde_json.proofs.Views.{view-Array}
use Rattle.query_replies.specs.Verdicts.{exoneration_data}
use Rattle.query_replies.proofs.TextLaws.{seen_more}
use Rattle.query_replies.proofs.listed.exoneration_list.Goals as goal

pub loop-explanation-preserved : goal.loop-explanation-preserved
loop-explanation-preserved c =
    c.in_ok-add_exoneration.ensures ∙ ap (λ (ds : List Data). ds ++ exoneration_data (option_copied c.explanation-item.result) ∷ []) c.loop-explanation.invariant
    ∙ ap (λ (x : Option (Bor (List ℕ))). map exoneration_data (map option_copied (take c.loop-explanation.explanation-index c.args.explanations.now)) ++ exoneration_data (option_copied x) ∷ []) c.explanation-item.is
    ∙ sym (seen_more exoneration_data option_copied c.args.explanations.now c.loop-explanation.explanation-index c.explanation-item.result c.loop-explanation-test.true)

pub returns : goal.returns
returns c =
    view-Array c.loop-explanation.list
    ∙ ap (λ (ds : List Data). array (items_of ds)) (c.loop-explanation.invariant ∙ ap (λ (xs : List (Option (Bor (List ℕ)))). map exoneration_data (map option_copied xs)) (take_all c.loop-explanation.explanation-index c.args.explanations.now (omega arith)))
