use Rattle.std.proofs.Common.{sym, ap, ◌∙◌}
use Rattle.kept_replies.specs.Kept.{KeptState, place_for}
use Rattle.kept_replies.proofs.FirstLemmas.{place_found}
use Rattle.kept_replies.proofs.table.KeptReplies.find.Goals as goal

pub returns : goal.returns
returns c =
    c.copied.ensures
    ∙ (place_found c.self.inside.places.entries c.self.inside.replies.items c.in_ok-key.key c.args.caller.now c.args.number.now _
    c.self.invariant c.requires c.in_ok-key.ensures (sym c.get.ensures.value)
    ∙ ap (λ (k : KeptState). place_for c.args.caller.now c.args.number.now k.kept) c.self.view_is)
