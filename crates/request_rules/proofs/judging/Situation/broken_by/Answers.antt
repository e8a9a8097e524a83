use Rattle.request_rules.specs.Breaches.{case_of, held_by}
use Rattle.request_demands.specs.Settings.{caller_name}
use Rattle.request_rules.proofs.Firsts.{found_as}
use Rattle.request_rules.proofs.judging.Situation.broken_by.Goals as goal

pub returns-in-RequestIdReused : goal.returns-in-RequestIdReused
returns-in-RequestIdReused c = λ kept asked checked numbered.
    found_as (case_of c.args.self.now kept asked c.args.call.now.caller) c.args.demand.now c.args.rule _ c.request_id_reused.result c.in-RequestIdReused.is
    (c.request_id_reused.ensures kept (caller_name (record { policy = c.args.self.now.policy.now }) c.args.call.now.caller) asked numbered)

pub returns-in-NotFound : goal.returns-in-NotFound
returns-in-NotFound c = λ kept asked checked numbered.
    found_as (case_of c.args.self.now kept asked c.args.call.now.caller) c.args.demand.now c.args.rule _ c.not_found.result c.in-NotFound.is
    (c.not_found.ensures c.args.self.now.table.now.rows (held_by c.args.self.now) c.requires.located)

pub returns-in-NoUpdateToken : goal.returns-in-NoUpdateToken
returns-in-NoUpdateToken c = λ kept asked checked numbered.
    found_as (case_of c.args.self.now kept asked c.args.call.now.caller) c.args.demand.now c.args.rule _ c.no_update_token.result c.in-NoUpdateToken.is
    (c.no_update_token.ensures (record { policy = c.args.self.now.policy.now }) asked checked)

pub returns-in-BadUpdateToken : goal.returns-in-BadUpdateToken
returns-in-BadUpdateToken c = λ kept asked checked numbered.
    found_as (case_of c.args.self.now kept asked c.args.call.now.caller) c.args.demand.now c.args.rule _ c.bad_update_token.result c.in-BadUpdateToken.is
    (c.bad_update_token.ensures (record { policy = c.args.self.now.policy.now }) asked checked)

pub returns-in-Denied : goal.returns-in-Denied
returns-in-Denied c = λ kept asked checked numbered.
    found_as (case_of c.args.self.now kept asked c.args.call.now.caller) c.args.demand.now c.args.rule _ c.denied.result c.in-Denied.is
    c.denied.ensures

pub returns-in-NotActive : goal.returns-in-NotActive
returns-in-NotActive c = λ kept asked checked numbered.
    found_as (case_of c.args.self.now kept asked c.args.call.now.caller) c.args.demand.now c.args.rule _ c.not_active.result c.in-NotActive.is
    c.not_active.ensures

pub returns-in-DeadlineRange : goal.returns-in-DeadlineRange
returns-in-DeadlineRange c = λ kept asked checked numbered.
    found_as (case_of c.args.self.now kept asked c.args.call.now.caller) c.args.demand.now c.args.rule _ c.deadline_range.result c.in-DeadlineRange.is
    c.deadline_range.ensures

pub returns-in-Itself : goal.returns-in-Itself
returns-in-Itself c = λ kept asked checked numbered.
    found_as (case_of c.args.self.now kept asked c.args.call.now.caller) c.args.demand.now c.args.rule _ c.itself.result c.in-Itself.is
    c.itself.ensures

pub returns-in-TooMany : goal.returns-in-TooMany
returns-in-TooMany c = λ kept asked checked numbered.
    found_as (case_of c.args.self.now kept asked c.args.call.now.caller) c.args.demand.now c.args.rule _ c.too_many.result c.in-TooMany.is
    c.too_many.ensures

pub returns-in-Taken : goal.returns-in-Taken
returns-in-Taken c = λ kept asked checked numbered.
    found_as (case_of c.args.self.now kept asked c.args.call.now.caller) c.args.demand.now c.args.rule _ c.taken.result c.in-Taken.is
    (c.taken.ensures c.args.self.now.table.now.rows (held_by c.args.self.now) c.requires.located)

pub denied-requires-clause-places : goal.denied-requires-clause-places
denied-requires-clause-places c = (held_by c.args.self.now, c.requires.located)

pub not_active-requires : goal.not_active-requires
not_active-requires c = (held_by c.args.self.now, c.requires.located)
