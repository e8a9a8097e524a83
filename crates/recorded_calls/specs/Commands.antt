-- What a command says, and its bytes.
use Rattle.std.specs.Prelude.{◌≡◌, ℕ, ◌+◌, ◌^◌, ◌<◌, ℤ, pos, ◌≤ℤ◌, unsigned_abs, true, List, ◌∷◌, ◌++◌, length}
use Rattle.std.specs.Int.{w16, w32, w64, to_le_bytes}
use Rattle.policy_checks.specs.Checks.{is_name}
use Rattle.recorded_calls.specs.declared.command.CallKind.{CallKind}
use Rattle.recorded_calls.specs.declared.command.CallKind.TheVariants.{CreateInvocation, UpdateInvocation, FinalizeInvocation, UpdateIncludedInvocations, BatchCreateTestResults, BatchCreateTestExonerations, BatchCreateArtifacts}
use Rattle.recorded_calls.specs.declared.command.RecordedCall.{RecordedCall}
use Rattle.recorded_calls.specs.declared.command.Command.{Command}
use Rattle.recorded_calls.specs.declared.command.Command.TheVariants as command

-- A call: for which method, at which moment in microseconds since 1970, from the caller of which
-- name, and with which body.
pub record CallSaid : Type 0 where
  pub kind : CallKind
  pub moment : ℤ
  pub caller : List ℕ
  pub body : List ℕ

-- What a command says: that due deadlines were carried out at a moment, or that a call changed
-- something.
pub data Said : Type 0 where
  ticked : (moment : ℤ) → Said
  called : (call : CallSaid) → Said

abbrev pub call_said : RecordedCall → CallSaid
call_said call = record {
  kind = call.kind;
  moment = call.moment;
  caller = call.caller.now;
  body = call.body.now;
}

abbrev pub said_by : Command → Said
said_by (command.Tick moment) = ticked moment
said_by (command.Call call) = called (call_said call)

-- From 1970-01-01T00:00:00Z to 9999-01-01T00:00:00Z, both included.
abbrev pub IsCallMoment : ℤ → Type 0
IsCallMoment moment = (pos 0 ≤ℤ moment) × (moment ≤ℤ pos 253_370_764_800_000_000)

-- A caller's name has the form of a user's name, whether or not there is such a user.
pub record IsCallSayable (call : CallSaid) : Type 0 where
  pub moment : IsCallMoment call.moment
  pub caller : is_name call.caller ≡ true
  pub body : length call.body < 2 ^ 32

abbrev pub IsSayable : Said → Type 0
IsSayable (ticked moment) = IsCallMoment moment
IsSayable (called call) = IsCallSayable call

-- the byte that says for which method a call was; 0 says that it was none
abbrev pub kind_byte : CallKind → ℕ
kind_byte CreateInvocation = 1
kind_byte UpdateInvocation = 2
kind_byte FinalizeInvocation = 3
kind_byte UpdateIncludedInvocations = 4
kind_byte BatchCreateTestResults = 5
kind_byte BatchCreateTestExonerations = 6
kind_byte BatchCreateArtifacts = 7

-- Numbers have their lowest byte first: a moment has eight, the length of a name two, and that of a
-- body four.
abbrev pub moment_bytes : ℤ → List ℕ
moment_bytes moment = to_le_bytes w64 (unsigned_abs moment)

abbrev pub name_bytes : List ℕ → List ℕ
name_bytes name = to_le_bytes w16 (length name) ++ name

abbrev pub body_bytes : List ℕ → List ℕ
body_bytes body = to_le_bytes w32 (length body) ++ body

-- the bytes of a command, with nothing after them
abbrev pub command_bytes : Said → List ℕ
command_bytes (ticked moment) = 0 ∷ moment_bytes moment
command_bytes (called call) =
    kind_byte call.kind
    ∷ (moment_bytes call.moment ++ (name_bytes call.caller ++ body_bytes call.body))

-- How many bytes the record of a call takes in a journal: one for its gate, four for the length of
-- its command, fifteen of the command beside the caller's name and the body, and these two.
abbrev pub record_length : List ℕ → List ℕ → ℕ
record_length name body = 20 + (length name + length body)

-- that of due deadlines
abbrev pub tick_length : ℕ
tick_length = 14

-- how many bytes the record takes of what is said
abbrev pub length_said : Said → ℕ
length_said (ticked moment) = tick_length
length_said (called call) = record_length call.caller call.body

-- The bytes are a command that says this.
pub record IsCommand (bytes : List ℕ) (said : Said) : Type 0 where
  pub sayable : IsSayable said
  pub form : bytes ≡ command_bytes said
