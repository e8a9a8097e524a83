use Rattle.std.proofs.Common.{◌≡◌, ◌∙◌, Some, sym, ap}
use Rattle.policy_checks.specs.Index.{found, place_of}
use Rattle.policy_checks.proofs.IndexLemmas.{found_at, found_after, found_pairs, place_of-new}
use Rattle.policy_checks.proofs.index.NameIndex.insert.Goals as goal

pub returns : goal.returns
returns c = λ names is none at q.
    let before = c.self.inside.places in
    let after = c.insert.new.self in
    let old : found_at q before ≡ place_of q names = sym (found_pairs q before.entries) ∙ ap (found q) c.self.view_is ∙ is q in
    found_pairs q after.entries
    ∙ found_after c.in_ok-key.key.items before after (Some c.args.place) c.in_ok-insert.ensures.updates q
    ∙ rw (c.in_ok-key.ensures.items, old, at) (place_of-new c.args.name.now q names none)
