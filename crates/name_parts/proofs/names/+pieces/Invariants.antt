use Rattle.std.proofs.Common.{◌+◌, ◌*◌, length}
use Rattle.name_parts.proofs.names.+pieces.Given as goal

abbrev pub decreases-read_pieces : goal.decreases-read_pieces
decreases-read_pieces l = 2 * length l.pieces.now

abbrev pub decreases-read_to_slash : goal.decreases-read_to_slash
decreases-read_to_slash l = 2 * length l.others.now + 1
