use Rattle.std.proofs.Common.{arith}
use Rattle.std.proofs.lemmas.Slice.Zip.{AllZip-long}
use Rattle.served_desk.proofs.serving.work.Goals as goal

pub summed-workers-requires : goal.summed-workers-requires
summed-workers-requires g c =
    let long = AllZip-long _ _ _ c.in-Ok.ensures.ok in
    (c.requires.room.0, omega (arith, long, c.requires.room.1, c.in-Ok.worked.ok.0, c.args.workers.ok.0))
