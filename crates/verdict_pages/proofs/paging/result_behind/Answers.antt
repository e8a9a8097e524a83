use Rattle.std.proofs.Common.{ℕ, rules}
use Rattle.std.specs.Ordering.{is_le}
use Rattle.std.proofs.lemmas.List.Sorted.{IsPartitionPoint-from_clause}
use Rattle.verdict_lists.specs.World.{world_of}
use Rattle.verdict_pages.specs.Keys.{by_result, result_place, result_seen}
use Rattle.verdict_pages.proofs.KeyLemmas.{by_result_total}
use Rattle.verdict_pages.proofs.PageLemmas.{behind_parted, parted_by}
use Rattle.verdict_pages.proofs.paging.result_behind.Goals as goal

pub returns-clause-behind : goal.returns-clause-behind
returns-clause-behind c =
    let key = result_place (world_of c.args.view.now) in
    let after = result_seen c.args.after.now in
    let list = c.args.list.now in
    let at = c.partition_point.result in
    let parts = IsPartitionPoint-from_clause (λ (p : ℕ). is_le (by_result (key p) after)) list at c.partition_point.ensures.partitioned
    (parted_by by_result key by_result_total list after c.requires) (λ a r f called. search rules) in
    behind_parted by_result key by_result_total list after at c.partition_point.ensures.bound parts
