use Rattle.std.proofs.Common.{[]}
use Rattle.streams_table.proofs.serving.tell_served.Goals as goal

pub serve_connection-ended-requires : goal.serve_connection-ended-requires
serve_connection-ended-requires c = (record { asked = 0; alloc = c.args.alloc }, [], tt)
