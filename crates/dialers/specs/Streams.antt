-- What contracts see of a link over a stream of the system.
use Rattle.std.specs.Prelude.{ℕ, None}
use Rattle.outside.specs.Ends.{Ends}
use Rattle.dialers.specs.Dials.{Dials}

-- How many reads failed and reached the end, and how many writes failed and took nothing.
pub record StreamCounts : Type 0 where
  pub read_faults : ℕ
  pub ends : ℕ
  pub write_faults : ℕ
  pub stalls : ℕ

-- What it tells: these, and nothing of the bytes.
abbrev pub stream_ends : StreamCounts → Ends
stream_ends counts = record {
  incoming = record { left = None; faults = counts.read_faults; ends = counts.ends };
  outgoing = record { written = None; faults = counts.write_faults; stalls = counts.stalls };
}

-- What a dialer tells that counts its faults alone.
abbrev pub untold : {L : Type 0} → ℕ → Dials L
untold faults = record { coming = None; returned = None; out = None; faults = faults }
