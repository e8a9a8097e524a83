-- Tags: pairs of a key and a value, each an object of two texts.
use Rattle.std.specs.Prelude.{ℕ, ◌==◌, if◌then◌else◌, List, [], ◌∷◌, length, codes, Option}
use Rattle.serde_json.specs.Data.{Data, string, object, Members, no_members, put}
use Rattle.pair_kinds.specs.NamesRealms.declared.pairs.Pair.{Pair}
use Rattle.pair_kinds.specs.NamesRealms.Pairs.{IsPairKey, IsPairValue, pair_value_fault}
use Rattle.pair_kinds.specs.JsonFields.Names.{NameForm, word}
use Rattle.pair_kinds.specs.JsonFields.Fields.{or_empty, fault_of, text_at}
use Rattle.pair_kinds.specs.JsonFields.Kinds.{an_object}
use Rattle.pair_kinds.specs.JsonFields.Texts.{a_text, IsText, IsSame}
use Rattle.pair_kinds.specs.JsonFields.declared.faults.FieldFault.{FieldFault}
use Rattle.text_kinds.specs.TagTexts.{key_fault}

abbrev pub key_name : NameForm
key_name = word (codes "key")

abbrev pub value_name : NameForm
value_name = word (codes "value")

-- `{"key","value"}`, of which an unset one counts as the empty text; the key is judged first
abbrev pub tag_fields : List (Data → Option FieldFault)
tag_fields = an_object ∷ or_empty key_name (a_text key_fault)
    ∷ or_empty value_name (a_text pair_value_fault) ∷ []

unfoldable pub a_tag : Data → Option FieldFault
a_tag d = fault_of tag_fields d

pub record IsTag (d : Data) (tag : Pair) : Type 0 where
  pub key : IsText IsSame (text_at key_name d) tag.key
  pub value : IsText IsSame (text_at value_name d) tag.value

-- a key and a value, each in the grammar of pairs
abbrev pub IsPairOfGrammar : Pair → Type 0
IsPairOfGrammar pair = IsPairKey pair.key × IsPairValue pair.value

-- a text beside other members, left out where it is empty
abbrev pub put_filled : NameForm → List ℕ → Members → Members
put_filled n text ms = if length text == 0 then ms else put n.camel (string text) ms

-- what is written of a tag
abbrev pub tag_data : Pair → Data
tag_data tag =
    object (put key_name.camel (string tag.key) (put_filled value_name tag.value no_members))
