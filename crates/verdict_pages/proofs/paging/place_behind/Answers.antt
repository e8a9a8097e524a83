use Rattle.std.proofs.Common.{rules}
use Rattle.std.specs.Ordering.{is_le}
use Rattle.std.proofs.lemmas.List.Sorted.{IsPartitionPoint-from_clause}
use Rattle.verdict_lists.specs.declared.verdict.Verdict.{Verdict}
use Rattle.verdict_lists.specs.World.{world_of}
use Rattle.verdict_pages.specs.Keys.{by_verdict, place_seen, verdict_place}
use Rattle.verdict_pages.proofs.KeyLemmas.{by_verdict_total}
use Rattle.verdict_pages.proofs.PageLemmas.{behind_parted, parted_by}
use Rattle.verdict_pages.proofs.paging.place_behind.Goals as goal

pub returns-clause-behind : goal.returns-clause-behind
returns-clause-behind c =
    let key = verdict_place (world_of c.args.view.now) in
    let after = place_seen c.args.after.now in
    let list = c.args.list.now in
    let at = c.partition_point.result in
    let parts = IsPartitionPoint-from_clause (λ (v : Verdict). is_le (by_verdict (key v) after)) list at c.partition_point.ensures.partitioned
    (parted_by by_verdict key by_verdict_total list after c.requires) (λ a r f called. search rules) in
    behind_parted by_verdict key by_verdict_total list after at c.partition_point.ensures.bound parts
