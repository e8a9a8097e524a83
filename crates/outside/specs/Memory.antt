-- What contracts see of the ends in memory.
use Rattle.std.specs.Prelude.{◌≡◌, ℕ, List, min, length, drop, Some, Result, Ok, Err, IfOk}
use Rattle.std.specs.List.{concat}
use Rattle.fault_counts.specs.Causes.{counted}
use Rattle.fault_counts.specs.Calls.{Calls, one_call_more}
use Rattle.outside.specs.Pieces.{pieces_after}
use Rattle.outside.specs.Ends.{Incoming, Outgoing, Ends, ends_after}
use Rattle.outside.specs.Output.{Output, output_after, output_ends}
use Rattle.fault_counts.specs.declared.Failed.{Failed}
use Rattle.fault_counts.specs.declared.schedule.Outcome.{Outcome}
use Rattle.fault_counts.specs.declared.schedule.Outcome.TheVariants.{Works, Fails, Stalls}

-- A source: its calls, the bytes that are left, how many reads failed, and how many reached the
-- end.
pub record SourceState : Type 0 where
  pub calls : Calls
  pub left : List ℕ
  pub faults : ℕ
  pub ends : ℕ

-- A sink: its calls, and what it took.
pub record SinkState : Type 0 where
  pub calls : Calls
  pub output : Output

-- A link: its calls, the pieces that are left, none of them empty, how many reads failed, how many
-- reached the end, and what it took.
pub record LinkState : Type 0 where
  pub calls : Calls
  pub pieces : List (List ℕ)
  pub read_faults : ℕ
  pub ends : ℕ
  pub output : Output

-- What each of them tells.
abbrev pub source_ends : SourceState → Incoming
source_ends source = record { left = Some source.left; faults = source.faults; ends = source.ends }

abbrev pub sink_ends : SinkState → Outgoing
sink_ends sink = output_ends sink.output

abbrev pub link_ends : LinkState → Ends
link_ends link = record {
  incoming = record {
    left = Some (concat link.pieces);
    faults = link.read_faults;
    ends = link.ends;
  };
  outgoing = output_ends link.output;
}

-- A read that works gives as many of the bytes at hand as fit into the room. Every other read
-- fails.
abbrev pub EndsRead : Outcome → List ℕ → List ℕ → Result ℕ Failed → Type 0
EndsRead Works at_hand room result = result ≡ Ok (min (length at_hand) (length room))
EndsRead Fails at_hand room result = IfOk result (λ count. ⊥)
EndsRead Stalls at_hand room result = IfOk result (λ count. ⊥)

abbrev pub source_after : SourceState → List ℕ → Result ℕ Failed → SourceState
source_after source room (Ok count) = record source {
  calls = one_call_more source.calls;
  left = drop count source.left;
  ends = ends_after source.ends room count;
}
source_after source room (Err e) =
    record source { calls = one_call_more source.calls; faults = counted source.faults }

abbrev pub sink_after : SinkState → List ℕ → Result ℕ Failed → SinkState
sink_after sink piece result =
    record { calls = one_call_more sink.calls; output = output_after sink.output piece result }

abbrev pub link_after_read : LinkState → List ℕ → Result ℕ Failed → LinkState
link_after_read link room (Ok count) = record link {
  calls = one_call_more link.calls;
  pieces = pieces_after count link.pieces;
  ends = ends_after link.ends room count;
}
link_after_read link room (Err e) =
    record link { calls = one_call_more link.calls; read_faults = counted link.read_faults }

abbrev pub link_after_write : LinkState → List ℕ → Result ℕ Failed → LinkState
link_after_write link piece result =
    record link { calls = one_call_more link.calls; output = output_after link.output piece result }
