-- Variants: `{"def":{key:value}}`.
use Rattle.std.specs.Prelude.{Bool, true, ◌&&◌, if◌then◌else◌, List, [], ◌∷◌, codes, Option, Some, None, is_some, unwrap_or, IsPermutation, All}
use Rattle.serde_json.specs.Data.{Data, null, boolean, number, string, array, object, Members, no_members, member}
use Rattle.serde_json.specs.Find.{as_str}
use Rattle.json_fields.specs.NamesRealms.declared.pairs.Pair.{Pair}
use Rattle.json_fields.specs.NamesRealms.declared.pairs.PairFault.{PairFault}
use Rattle.json_fields.specs.NamesRealms.declared.pairs.PairFault.TheVariants.{Key, Value, Memory}
use Rattle.json_fields.specs.NamesRealms.Pairs.{pair_fault, IsPairKey, IsPairValue}
use Rattle.json_fields.specs.NamesRealms.Variants.{IsAscending}
use Rattle.json_fields.specs.Names.{NameForm, word}
use Rattle.json_fields.specs.Faults.{here, first}
use Rattle.json_fields.specs.Fields.{optional, fault_of, set_at}
use Rattle.json_fields.specs.Kinds.{an_object}
use Rattle.json_fields.specs.Texts.{refused}
use Rattle.json_fields.specs.declared.faults.FieldFault.{FieldFault}
use Rattle.json_fields.specs.declared.faults.FaultKind.TheVariants.{WrongKind}

abbrev pub def_name : NameForm
def_name = word (codes "def")

-- whether each member is a text
abbrev pub all_texts : Members → Bool
all_texts no_members = true
all_texts (member k d ms) = is_some (as_str d) && all_texts ms

-- each name with its text, in the order of the members, which is that of the names' bytes
abbrev pub pairs_of : Members → List Pair
pairs_of no_members = []
pairs_of (member k d ms) = record { key = k; value = unwrap_or (as_str d) [] } ∷ pairs_of ms

-- what is told of a pair: the fault of its key or of its value
abbrev pub told : Option PairFault → Option FieldFault
told None = None
told (Some (Key f)) = refused (Some f)
told (Some (Value f)) = refused (Some f)
told (Some Memory) = None

-- the first fault of pairs, in each of which the key is judged before the value
abbrev pub pairs_fault : List Pair → Option FieldFault
pairs_fault [] = None
pairs_fault (p ∷ ps) = first (told (pair_fault p.key p.value)) (pairs_fault ps)

-- an object of texts, each a pair with its name
abbrev pub members_fault : Members → Option FieldFault
members_fault ms = if all_texts ms then pairs_fault (pairs_of ms) else Some (here WrongKind)

abbrev pub a_def : Data → Option FieldFault
a_def null = Some (here WrongKind)
a_def (boolean b) = Some (here WrongKind)
a_def (number n) = Some (here WrongKind)
a_def (string s) = Some (here WrongKind)
a_def (array ds) = Some (here WrongKind)
a_def (object ms) = members_fault ms

-- an object, whose pairs are at `def`; an unset one has none
abbrev pub variant_fields : List (Data → Option FieldFault)
variant_fields = an_object ∷ optional def_name a_def ∷ []

abbrev pub a_variant : Data → Option FieldFault
a_variant d = fault_of variant_fields d

-- the pairs at `def`
abbrev pub pairs_in : Data → List Pair
pairs_in null = []
pairs_in (boolean b) = []
pairs_in (number n) = []
pairs_in (string s) = []
pairs_in (array ds) = []
pairs_in (object ms) = pairs_of ms

abbrev pub pairs_at : Option Data → List Pair
pairs_at None = []
pairs_at (Some d) = pairs_in d

-- The variant has just these pairs, in the order of their keys.
pub record IsVariant (d : Data) (v : List Pair) : Type 0 where
  pub pairs : IsPermutation (pairs_at (set_at def_name d)) v
  pub order : IsAscending v

-- a key and a value of the grammar of pairs
abbrev pub IsPairOfGrammar : Pair → Type 0
IsPairOfGrammar p = IsPairKey p.key × IsPairValue p.value

-- each of the pairs is of the grammar
unfoldable pub AreOfGrammar : List Pair → Type 0
AreOfGrammar ps = All IsPairOfGrammar ps

-- the object of pairs, each a text under its key
abbrev pub def_members : List Pair → Members
def_members [] = no_members
def_members (p ∷ ps) = member p.key (string p.value) (def_members ps)

-- what is written of a variant; without pairs it has no `def`
abbrev pub variant_data : List Pair → Data
variant_data [] = object no_members
variant_data (p ∷ ps) = object (member def_name.camel (object (def_members (p ∷ ps))) no_members)
