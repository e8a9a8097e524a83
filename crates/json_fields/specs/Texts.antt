-- Texts that are read by a grammar.
use Rattle.std.specs.Prelude.{◌≡◌, ℕ, List, Option, Some, None, Result, Ok, Err}
use Rattle.serde_json.specs.Data.{Data, null, boolean, number, string, array, object}
use Rattle.names_realms.specs.NameParts.declared.faults.NameFault.{NameFault}
use Rattle.names_realms.specs.MomentsSpans.MomentReading.{moment_of}
use Rattle.names_realms.specs.MomentsSpans.SpanReading.{span_of}
use Rattle.json_fields.specs.Faults.{here}
use Rattle.json_fields.specs.Whys.{why_of}
use Rattle.json_fields.specs.declared.faults.FieldFault.{FieldFault}
use Rattle.json_fields.specs.declared.faults.FaultKind.TheVariants.{WrongKind, BadValue}
use Rattle.json_fields.specs.declared.whys.Why.{Why}

-- what is told of a text that its grammar refuses
abbrev pub bad_value : Option Why → Option FieldFault
bad_value None = None
bad_value (Some why) = Some (here (BadValue why))

abbrev pub refused : Option NameFault → Option FieldFault
refused None = None
refused (Some f) = bad_value (why_of f)

-- a text, with the fault that its grammar says
abbrev pub a_text : (List ℕ → Option NameFault) → Data → Option FieldFault
a_text fault null = Some (here WrongKind)
a_text fault (boolean b) = Some (here WrongKind)
a_text fault (number n) = Some (here WrongKind)
a_text fault (string s) = refused (fault s)
a_text fault (array ds) = Some (here WrongKind)
a_text fault (object ms) = Some (here WrongKind)

-- the value that the text spells
abbrev pub IsText : {A : Type 0} → (List ℕ → A → Type 0) → Data → A → Type 0
IsText spells null a = ⊥
IsText spells (boolean b) a = ⊥
IsText spells (number n) a = ⊥
IsText spells (string s) a = spells s a
IsText spells (array ds) a = ⊥
IsText spells (object ms) a = ⊥

-- a text that is the value itself
abbrev pub IsSame : List ℕ → List ℕ → Type 0
IsSame text value = value ≡ text

-- what is wrong with a text that a reader judges
abbrev pub wrong_of : {A : Type 0} → Result A NameFault → Option NameFault
wrong_of (Ok a) = None
wrong_of (Err f) = Some f

-- What is wrong with a moment's text, and with a span's. That these are the faults of their
-- grammars is proved in `specs/Laws.antt`.
unfoldable pub moment_fault : List ℕ → Option NameFault
moment_fault text = wrong_of (moment_of text)

unfoldable pub span_fault : List ℕ → Option NameFault
span_fault text = wrong_of (span_of text)
