use Rattle.std.proofs.Common.{rules}
use Rattle.std.proofs.lemmas.Fn.{always_returns_same}
use Rattle.artifacts.specs.Artifacts.{keys_of}
use Rattle.artifacts.specs.Cuts.{every_id, stands_before}
use Rattle.artifacts.proofs.PageLemmas.{every_monotone, partitioned}
use Rattle.artifacts.proofs.pages.end_of.Goals as goal

pub returns-clause-parts : goal.returns-clause-parts
returns-clause-parts c =
    let keys = keys_of c.args.rows.now in
    let parent = c.args.parent.now in
    c.partition_point.ensures.partitioned (λ place. stands_before every_id keys parent place)
    (always_returns_same _ _ _ (λ a r g called. search rules))
    (partitioned every_id every_monotone keys parent c.args.places.now c.requires.held c.requires.rising)
