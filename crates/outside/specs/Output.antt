-- Bytes that were written to an end in memory.
use Rattle.std.specs.Prelude.{◌≡◌, ℕ, zero, suc, List, [], ◌∷◌, ◌++◌, take, length, Some, Result, Ok, Err, IfOk}
use Rattle.fault_counts.specs.Causes.{counted}
use Rattle.outside.specs.Ends.{Outgoing}
use Rattle.fault_counts.specs.declared.Failed.{Failed}
use Rattle.fault_counts.specs.declared.schedule.Outcome.{Outcome}
use Rattle.fault_counts.specs.declared.schedule.Outcome.TheVariants.{Works, Fails, Stalls}

-- What was taken so far, and how often a write failed or took nothing.
pub record Output : Type 0 where
  pub written : List ℕ
  pub faults : ℕ
  pub stalls : ℕ

-- What it tells.
abbrev pub output_ends : Output → Outgoing
output_ends output = record {
  written = Some output.written;
  faults = output.faults;
  stalls = output.stalls;
}

abbrev pub nothing_written : Output
nothing_written = record { written = []; faults = 0; stalls = 0 }

-- The output after a write of a piece.
abbrev pub output_after : Output → List ℕ → Result ℕ Failed → Output
output_after output piece (Err e) = record output { faults = counted output.faults }
output_after output [] (Ok zero) = output
output_after output (b ∷ bs) (Ok zero) = record output { stalls = counted output.stalls }
output_after output piece (Ok (suc n)) =
    record output { written = output.written ++ take (suc n) piece }

-- A write that works takes the whole piece, or there is no memory for it.
abbrev pub EndsWrite : Outcome → List ℕ → Result ℕ Failed → Type 0
EndsWrite Works piece result = IfOk result (λ count. count ≡ length piece)
EndsWrite Fails piece result = IfOk result (λ count. ⊥)
EndsWrite Stalls [] result = IfOk result (λ count. ⊥)
EndsWrite Stalls (b ∷ bs) result = result ≡ Ok 0
