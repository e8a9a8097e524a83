use Rattle.std.proofs.Common.{subst}
use Rattle.std.proofs.lemmas.Option.{slice_get_within}
use Rattle.request_effects.specs.RequestDemands.Numbered.{IsNumbered}
use Rattle.request_effects.specs.RequestDemands.Settings.{Settings, caller_name}
use Rattle.request_effects.specs.RequestDemands.Demands.{demand_of}
use Rattle.request_effects.proofs.RequestDemands.PolicyLaws.{caller_is_there}
use Rattle.service_core.specs.CoreState.{world_in}
use Rattle.service_core.specs.Judged.{TellsJudged}
use Rattle.service_core.proofs.ServeLaws.{numbered_in, repeats_as}
use Rattle.service_core.proofs.serving.Core.assess.Goals as goal

pub name_of-requires : goal.name_of-requires
name_of-requires c =
    let some = c.requires.call in
    caller_is_there (record { policy = c.args.policy.now }) some.0.bearer c.args.call.now.caller some.1.wants.caller_is

pub kept_answer-requires : goal.kept_answer-requires
kept_answer-requires c =
    let s : Settings = record { policy = c.args.policy.now } in
    let core = c.args.self.now in
    let some = c.requires.call in
    let numbered = numbered_in s _ core some.0 c.args.call.now _ c.in_ok-number.number c.self.view_is c.name_of.ensures
    (c.in_ok-number.ensures some.0 some.1.digest_is) in
    let at = subst (IsNumbered core.keeps.kept (caller_name s c.args.call.now.caller) some.0 (demand_of c.args.call.now.request)) c.in-Repeat.is numbered in
    slice_get_within core.keeps.kept c.in-Repeat.place at.0 at.2

pub returns-in_ok-kept_answer-in-Repeat : goal.returns-in_ok-kept_answer-in-Repeat
unfolding TellsJudged
returns-in_ok-kept_answer-in-Repeat c = λ asked is.
    let s : Settings = record { policy = c.args.policy.now } in
    let core = c.args.self.now in
    let numbered = numbered_in s _ core asked c.args.call.now _ c.in_ok-number.number c.self.view_is c.name_of.ensures
    (c.in_ok-number.ensures asked is.digest_is) in
    let at = subst (IsNumbered core.keeps.kept (caller_name s c.args.call.now.caller) asked (demand_of c.args.call.now.request)) c.in-Repeat.is numbered in
    repeats_as s (world_in core) c.args.moment asked c.args.call.now c.in-Repeat.place c.in_ok-kept_answer-in-Repeat.field-0 is at
    (c.in_ok-kept_answer-in-Repeat.ensures at.0 at.2)

pub judge-requires-clause-there : goal.judge-requires-clause-there
judge-requires-clause-there c =
    let some = c.requires.call in
    caller_is_there (record { policy = c.args.policy.now }) some.0.bearer c.args.call.now.caller some.1.wants.caller_is

pub judge-requires-in-Reused-clause-there : goal.judge-requires-in-Reused-clause-there
judge-requires-in-Reused-clause-there c =
    let some = c.requires.call in
    caller_is_there (record { policy = c.args.policy.now }) some.0.bearer c.args.call.now.caller some.1.wants.caller_is

pub returns-in-New : goal.returns-in-New
returns-in-New c = λ asked is.
    c.judge.ensures asked is
    (numbered_in (record { policy = c.args.policy.now }) _ c.args.self.now asked c.args.call.now _ c.in_ok-number.number c.self.view_is c.name_of.ensures
    (c.in_ok-number.ensures asked is.digest_is))

pub returns-in-Reused : goal.returns-in-Reused
returns-in-Reused c = λ asked is.
    c.judge-in-Reused.ensures asked is
    (numbered_in (record { policy = c.args.policy.now }) _ c.args.self.now asked c.args.call.now _ c.in_ok-number.number c.self.view_is c.name_of.ensures
    (c.in_ok-number.ensures asked is.digest_is))
