use Rattle.std.proofs.Common.{rules}
use Rattle.std.specs.Prelude.{option_map}
use Rattle.std.proofs.lemmas.Fn.{always_returns_same}
use Rattle.artifacts.specs.Artifacts.{keys_of}
use Rattle.artifacts.specs.Cuts.{is_shown, stands_before}
use Rattle.artifacts.proofs.PageLemmas.{partitioned, shown_monotone}
use Rattle.artifacts.proofs.pages.start_of.Goals as goal

pub returns-clause-parts : goal.returns-clause-parts
returns-clause-parts c =
    let keys = keys_of c.args.rows.now in
    let parent = c.args.parent.now in
    let after = option_map (λ a. a.now) c.args.after in
    c.partition_point.ensures.partitioned (λ place. stands_before (is_shown after) keys parent place)
    (always_returns_same _ _ _ (λ a r g called. search rules))
    (partitioned (is_shown after) (shown_monotone after) keys parent c.args.places.now c.requires.held c.requires.rising)
