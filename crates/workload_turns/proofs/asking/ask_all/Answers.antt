use Rattle.std.proofs.Common.{◌+◌, [], ◌∷◌, drop, sym, ap, ◌∙◌}
use Rattle.std.proofs.lemmas.List.{drop_more}
use Rattle.std.proofs.Math.ListN.{drop_of_length-le}
use Rattle.workload_turns.proofs.CourseLaws.{asks_one, asks_standin, ends, finishes, goes_on}
use Rattle.workload_turns.proofs.asking.ask_all.Goals as goal

pub returns-in-Err-clause-asks : goal.returns-in-Err-clause-asks
returns-in-Err-clause-asks g c =
    let i = c.loop-asked.asked-index in
    let all = c.args.requests.now in
    let item = c.asked-item.result in
    let told = c.in-Err.ensures.advances in
    ends g.T.Teller.stands _ c.loop-asked.teller c.ask.new.teller _ c.loop-asked.tally c.ask.new.tally all (drop i all) (item ∷ []) (drop (i + 1) all) c.in-Err.stop
    c.loop-asked.invariant.goes (drop_more all i item c.loop-asked-test.true ∙ ap (λ x. x ∷ drop (i + 1) all) (sym c.asked-item.is))
    (asks_standin g.T.Teller.stands _ c.ask.new.teller c.loop-asked.tally c.ask.new.tally item [] told.0 c.in-Err.stop told.1 told.2 c.in-Err.ensures.counts)

pub loop-asked-preserved : goal.loop-asked-preserved
loop-asked-preserved g c =
    let i = c.loop-asked.asked-index in
    let all = c.args.requests.now in
    let item = c.asked-item.result in
    record {
      stands = c.in_default.ensures.stands;
      holds = c.in_default.ensures.holds ∙ c.loop-asked.invariant.holds;
      goes = goes_on g.T.Teller.stands _ c.loop-asked.teller c.ask.new.teller _ c.loop-asked.tally c.ask.new.tally all (drop i all) (item ∷ []) (drop (i + 1) all)
          c.loop-asked.invariant.goes (drop_more all i item c.loop-asked-test.true ∙ ap (λ x. x ∷ drop (i + 1) all) (sym c.asked-item.is))
          (asks_one g.T.Teller.stands _ c.ask.new.teller c.loop-asked.tally c.ask.new.tally item c.in_default.field-0 c.in_default.ensures.advances
          c.in_default.ensures.counts);
    }

pub returns-clause-asks : goal.returns-clause-asks
returns-clause-asks g c =
    finishes g.T.Teller.stands _ c.loop-asked.teller _ c.loop-asked.tally c.args.requests.now _ c.loop-asked.invariant.goes
    (drop_of_length-le c.args.requests.now c.loop-asked-test.false)
