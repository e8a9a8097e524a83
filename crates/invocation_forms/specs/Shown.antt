-- What replies show, and where it is shown as it stands: all of its texts are UTF-8, as JSON's are.
use Rattle.std.specs.Prelude.{if◌then◌else◌, ℕ, ℤ, List, [], All, Option}
use Rattle.std.specs.Str.{IsUtf8, is_utf8}
use Rattle.serde_json.specs.Data.{Data}
use Rattle.field_kinds.specs.PairKinds.Tags.{tag_data}
use Rattle.names_realms.specs.declared.pairs.Pair.{Pair}
use Rattle.names_realms.specs.declared.states.State.{State}

-- what a reply shows of an invocation
pub record InvocationShown : Type 0 where
  pub id : List ℕ
  pub realm : List ℕ
  pub creator : List ℕ
  pub created : ℤ
  pub deadline : ℤ
  pub started : Option ℤ
  pub finished : Option ℤ
  pub state : State
  pub tags : List Pair
  pub included : List (List ℕ)

abbrev pub IsUtf8Pair : Pair → Type 0
IsUtf8Pair pair = IsUtf8 pair.key × IsUtf8 pair.value

pub record IsShowableInvocation (s : InvocationShown) : Type 0 where
  pub creator : IsUtf8 s.creator
  pub tags : All IsUtf8Pair s.tags

-- A text as a reply shows it: its bytes, and none where they aren't UTF-8.
abbrev pub as_text : List ℕ → List ℕ
as_text bytes = if is_utf8 bytes then bytes else []

abbrev pub pair_shown : Pair → Pair
pair_shown pair = record { key = as_text pair.key; value = as_text pair.value }

abbrev pub pair_data : Pair → Data
pair_data pair = tag_data (pair_shown pair)
