use Rattle.std.proofs.Common.{rules}
use Rattle.verdict_lists.specs.World.{world_of}
use Rattle.verdict_lists.proofs.ListLemmas.{sorted_by}
use Rattle.verdict_lists.proofs.ListingLemmas.{listed_order_total}
use Rattle.verdict_lists.proofs.listing.put_in_order.Goals as goal

pub returns-clause-sorted : goal.returns-clause-sorted
returns-clause-sorted c =
    sorted_by (listed_order_total (world_of c.args.view.now)) c.sort_unstable_by.new.self.items c.sort_unstable_by.ensures.sorted
    (λ a r g called. search rules)
