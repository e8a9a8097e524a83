use Rattle.field_kinds.proofs.OrderLaws.{only_memory}
use Rattle.field_kinds.proofs.variants.variant_of.Goals as goal

pub only_memory-requires : goal.only_memory-requires
only_memory-requires c = only_memory c.args.pairs.items c.in-Err.fault c.requires.ascending c.in-Err.ensures.fault
