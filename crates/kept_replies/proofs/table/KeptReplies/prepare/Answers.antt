use Rattle.kept_replies.proofs.KeptLemmas.{invariant_same}
use Rattle.kept_replies.proofs.table.KeptReplies.prepare.Goals as goal

pub invariant_of-self-2 : goal.invariant_of-self-2
invariant_of-self-2 c =
    invariant_same c.self.inside.places.entries c.reserve-2.new.self.entries c.self.inside.replies.items c.reserve.new.self.items
    c.self.invariant c.reserve.ensures.items c.reserve-2.ensures.entries.2
