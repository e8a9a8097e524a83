use Rattle.std.proofs.lemmas.Option.{slice_get_within}
use Rattle.names_realms.specs.declared.states.State.TheVariants.{Active}
use Rattle.finaliser.proofs.WaitLemmas.{includes_reaches}
use Rattle.finaliser.proofs.WatchLemmas.{aim_target, watch_read, watched_set}
use Rattle.finaliser.proofs.watches.waits.Goals as goal

pub returns-clause-watched : goal.returns-clause-watched
returns-clause-watched c =
    let edges = c.args.graph.now.edges in
    let states = c.args.states.now in
    let node = c.args.node in
    let watches = c.look.new.watches.items in
    let watch = c.index.result.now in
    let watched = c.look.ensures.watched in
    let read = watch_read edges states watches node watch watched c.requires.node c.index.ensures in
    let found = c.in-Some.ensures.found in
    watched_set edges states watches node (record { passed = watch.passed; aim = c.in-Some.aim }) watched
    (aim_target edges states node c.in-Some.aim watch (watched.each node watch read) found.0 (slice_get_within states c.in-Some.aim Active found.1))

pub returns-clause-reaches : goal.returns-clause-reaches
returns-clause-reaches c = λ yes_.
    includes_reaches c.args.graph.now.edges c.args.states.now c.args.node c.in-Some.aim c.in-Some.ensures.found.0 c.in-Some.ensures.found.1
