use Rattle.std.proofs.Common.{◌++◌, ◌∷◌, [], map, take, sym, ap, ◌∙◌, append_assoc}
use Rattle.std.proofs.lemmas.List.{map-append, take_more}
use Rattle.serde_json.specs.View.{view}
use Rattle.workload_turns.specs.Tallies.{tally_of}
use Rattle.workload_turns.proofs.tally.Tally.count_verdicts.Goals as goal

pub loop-verdict-preserved : goal.loop-verdict-preserved
loop-verdict-preserved c = λ requests before is.
    let i = c.loop-verdict.verdict-index in
    let all = c.args.verdicts.now in
    let item = c.verdict-item.result in
    let seen = map view (take i all) in
    c.count_verdict.ensures requests (before ++ seen) (c.loop-verdict.invariant requests before is)
    ∙ ap (tally_of requests) (append_assoc before seen (view item ∷ [])
    ∙ ap (λ l. before ++ l) (sym (map-append view (take i all) (item ∷ []))
    ∙ ap (map view) (ap (λ x. take i all ++ x ∷ []) c.verdict-item.is ∙ sym (take_more all i item c.loop-verdict-test.true))))
