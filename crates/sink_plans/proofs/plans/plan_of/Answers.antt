use Rattle.std.proofs.Common.{◌<◌, ◌≤◌, ◌^◌, length, arith}
use Rattle.std.specs.Prelude.{All}
use Rattle.std.proofs.lemmas.List.Elements.{All-same}
use Rattle.report_ids.specs.Digests.{IsDigest, IsRequestName}
use Rattle.sink_plans.specs.Results.{IsPlain}
use Rattle.sink_plans.specs.Plans.{batches_of}
use Rattle.sink_plans.specs.declared.plans.SinkBatch.{SinkBatch}
use Rattle.sink_plans.proofs.PlanLemmas.{batches_few, batches_named, batches_plain}
use Rattle.sink_plans.proofs.plans.plan_of.Goals as goal

pub returns-clause-few : goal.returns-clause-few
returns-clause-few c =
    let digest = c.new-digest.result in
    All-same (λ (b : SinkBatch). length b.results ≤ 200) c.in_ok-batches.batches (batches_of digest c.args.prefix.now c.args.cases.items) c.in_ok-batches.ensures (batches_few digest c.args.prefix.now c.args.cases.items)

pub returns-clause-form : goal.returns-clause-form
returns-clause-form c =
    let digest = c.new-digest.result in
    let digits : IsDigest digest = rw c.new-digest.ensures.value c.new-digest.ensures.digits in
    let few : length c.args.cases.items < 2 ^ 63 = omega (arith, c.args.cases.small, c.args.cases.ok.0) in
    All-same (λ (b : SinkBatch). All IsPlain b.results) c.in_ok-batches.batches (batches_of digest c.args.prefix.now c.args.cases.items) c.in_ok-batches.ensures (batches_plain digest c.args.prefix.now c.args.cases.items digits c.utf8.prefix few)

pub returns-clause-names : goal.returns-clause-names
returns-clause-names c =
    let digest = c.new-digest.result in
    let digits : IsDigest digest = rw c.new-digest.ensures.value c.new-digest.ensures.digits in
    λ few. All-same (λ (b : SinkBatch). IsRequestName b.request_id) c.in_ok-batches.batches (batches_of digest c.args.prefix.now c.args.cases.items) c.in_ok-batches.ensures (batches_named digest c.args.prefix.now c.args.cases.items digits few)
