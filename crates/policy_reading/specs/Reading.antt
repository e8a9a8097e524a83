-- What a configuration's text is: a policy's tables, or its first fault.
use Rattle.std.specs.Prelude.{◌≡◌, ◌≢◌, ◌<◌, ◌≤◌, ℕ, List, length, Option, Some, None, option_map, IsUtf8, Result, MatchResult}
use Rattle.toml.specs.Data.{Members}
use Rattle.toml.specs.Parse.{parse_document}
use Rattle.policy_tables.specs.declared.tables.PolicyTables.{PolicyTables}
use Rattle.policy_tables.specs.Findings.{least_of}
use Rattle.policy_document.specs.Document.{shape_findings, tables_of}
use Rattle.permissions.specs.declared.faults.PolicyFault.{PolicyFault}
use Rattle.permissions.specs.declared.faults.PolicyFault.TheVariants.{NotToml, RealmCycle, TooMany, BadShape, Memory}
use Rattle.permissions.specs.Cycle.{HasNoCycle, IsLeastCycle}
use Rattle.permissions.specs.Faults.{text_fault, owners_fault, IsSound}

-- 4 MiB
abbrev pub most_bytes : ℕ
most_bytes = 4194304

-- the text is a TOML document with these members
abbrev pub IsToml : List ℕ → Members → Type 0
IsToml text t = IsUtf8 text × (parse_document text ≡ Some t)

-- the least path that isn't of the document's shape
unfoldable pub shape_fault : Members → Option PolicyFault
shape_fault t = option_map (λ f. BadShape f.path) (least_of (shape_findings t))

-- the first fault of tables: in their texts, then the least realm that reaches itself, then the
-- least token of two users
pub data IsTablesFault (t : PolicyTables) : PolicyFault → Type 0 where
  text : (f : PolicyFault) → text_fault t ≡ Some f → IsTablesFault t f
  cycle : (name : List ℕ) → text_fault t ≡ None → IsLeastCycle t name
      → IsTablesFault t (RealmCycle name)
  owners : (f : PolicyFault) → text_fault t ≡ None → HasNoCycle t → owners_fault t ≡ Some f
      → IsTablesFault t f

-- the first fault of a text: its size, that it is no TOML, its shape, then that of its tables
pub data IsFirstFault (text : List ℕ) : PolicyFault → Type 0 where
  size : most_bytes < length text → IsFirstFault text (TooMany (length text))
  toml : length text ≤ most_bytes → ((t : Members) → ¬ IsToml text t) → IsFirstFault text NotToml
  shape : length text ≤ most_bytes → (t : Members) → IsToml text t → (f : PolicyFault)
      → shape_fault t ≡ Some f → IsFirstFault text f
  tables : length text ≤ most_bytes → (t : Members) → IsToml text t → shape_fault t ≡ None
      → (f : PolicyFault) → IsTablesFault (tables_of t) f → IsFirstFault text f

-- a text without a fault, and its tables
pub record IsPolicyOf (text : List ℕ) (tables : PolicyTables) : Type 0 where
  pub size : length text ≤ most_bytes
  pub members : Members
  pub toml : IsToml text members
  pub shape : shape_fault members ≡ None
  pub same : tables ≡ tables_of members
  pub sound : IsSound tables

-- an answer that there is no fault, or that this is the one
abbrev pub Answers : {A : Type 0} → Result A PolicyFault → Option PolicyFault → Type 0
Answers r o = MatchResult r (λ _. o ≡ None) (λ f. f ≢ Memory → o ≡ Some f)
