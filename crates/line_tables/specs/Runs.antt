-- What a run over a table reads and writes, and how it ends.
use Rattle.std.specs.Prelude.{◌≡◌, ◌<◌, ◌≤◌, ℕ, ◌⊎◌, List, length, Result, Ok, Err, String, ⊤}
use Rattle.std.specs.Str.{IsUtf8}
use Rattle.std.specs.String.{string_bytes}
use Rattle.std.specs.Global.{Vec}
use Rattle.std.specs.declared.alloc.Global.{Global}
use Rattle.outside.specs.Ends.{Incoming, Outgoing}
use Rattle.outside.specs.Whole.{WritesWhole}
use Rattle.outside.specs.declared.whole.WriteEnd.{WriteEnd}
use Rattle.whole_reads.specs.Front.{ReadsFront}
use Rattle.whole_reads.specs.declared.front.ReadEnd.{ReadEnd}
use Rattle.whole_reads.specs.declared.front.ReadEnd.TheVariants as read
use Rattle.line_tables.specs.Rows.{PrintsRows}
use Rattle.line_tables.specs.declared.run.TableEnd.{TableEnd}
use Rattle.line_tables.specs.declared.run.TableEnd.TheVariants.{Memory, Unread, NoText, Unwritten}

-- The exit status of each end.
abbrev pub status_of : TableEnd → ℕ
status_of Memory = 1
status_of Unread = 2
status_of NoText = 3
status_of Unwritten = 4

-- The text of what was read: its bytes, where they are UTF-8 and fewer than the bound.
abbrev pub IsTextOf : ℕ → Result (Vec ℕ) ReadEnd → Result (String Global) TableEnd → Type 0
IsTextOf bound (Ok bytes) (Ok text) =
    (string_bytes text ≡ bytes.items) × (length bytes.items < bound)
IsTextOf bound (Ok bytes) (Err NoText) = (bound ≤ length bytes.items) ⊎ (IsUtf8 bytes.items → ⊥)
IsTextOf bound (Ok bytes) (Err e) = ⊥
IsTextOf bound (Err read.Failed) (Err Unread) = ⊤
IsTextOf bound (Err read.Memory) (Err Memory) = ⊤
IsTextOf bound (Err e) r = ⊥

-- An input was read to its end, or up to the bound, and this is its text, or why there is none.
pub record ReadsText (bound : ℕ) (before : Incoming) (result : Result (String Global) TableEnd)
    (after : Incoming) : Type 0 where
  pub answer : Result (Vec ℕ) ReadEnd
  pub front : ReadsFront before bound answer after
  pub text : IsTextOf bound answer result

-- All of a text was written, or a front of it, where a write failed or took nothing.
abbrev pub WritesTold : Outgoing → List ℕ → Result (Unit {0}) TableEnd → Outgoing → Type 0
WritesTold before told (Ok done) after = WritesWhole {T = Unit {0}} before told (Ok done) after
WritesTold before told (Err Unwritten) after =
    (end : WriteEnd) × WritesWhole {T = Unit {0}} before told (Err end) after
WritesTold before told (Err e) after = ⊥

-- The input and the output of a run.
pub record Streams : Type 0 where
  pub input : Incoming
  pub output : Outgoing

-- What is made of a text: it is told and written; or there was no memory, and nothing was written.
abbrev pub TellsText : (List ℕ → List ℕ → Type 0) → List ℕ → Outgoing → Result (Unit {0}) TableEnd
    → Outgoing → Type 0
TellsText tells text before result after =
    ((result ≡ Err Memory) × (after ≡ before))
    ⊎ ((told : List ℕ) × PrintsRows tells text told × WritesTold before told result after)

-- What is made of an answer to reading: without a text nothing is written.
abbrev pub EndsRun : (List ℕ → List ℕ → Type 0) → Result (String Global) TableEnd → Outgoing
    → Result (Unit {0}) TableEnd → Outgoing → Type 0
EndsRun tells (Ok text) before result after =
    TellsText tells (string_bytes text) before result after
EndsRun tells (Err e) before result after = (result ≡ Err e) × (after ≡ before)

-- A run over a table: its text is read, and then told.
pub record RunsTable (tells : List ℕ → List ℕ → Type 0) (bound : ℕ) (before : Streams)
    (result : Result (Unit {0}) TableEnd) (after : Streams) : Type 0 where
  pub text : Result (String Global) TableEnd
  pub read : ReadsText bound before.input text after.input
  pub ends : EndsRun tells text before.output result after.output
