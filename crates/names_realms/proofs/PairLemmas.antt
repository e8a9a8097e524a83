-- Two texts have no fault just where they make a pair.
use Rattle.std.proofs.Common.{◌≡◌, ℕ, List, length, Option, Some, None, option_map, refl, arith}
use Rattle.std.specs.Option.{option_or}
use Rattle.std.specs.Str.{IsUtf8}
use Rattle.std.proofs.lemmas.Bool.{eq-eqb}
use Rattle.std.proofs.lemmas.Bool.Decides.{nat_tests}
use Rattle.std.proofs.lemmas.Str.{utf8_valid_len-IsUtf8}
use Rattle.name_parts.specs.declared.faults.NameFault.{NameFault}
use Rattle.name_parts.specs.declared.parts.PartForm.TheVariants.{PairKey}
use Rattle.names_realms.specs.declared.pairs.PairFault.{PairFault}
use Rattle.names_realms.specs.declared.pairs.PairFault.TheVariants.{Key, Value}
use Rattle.name_parts.specs.Parts.{part_fault}
use Rattle.names_realms.specs.Pairs.{IsPairKey, IsPairValue, utf8_place, pair_value_fault, pair_fault}
use Rattle.name_parts.proofs.PartLemmas.{part_fault-None, IsPart-part_fault, limited_fault-None, limited_fault-from}
use Rattle.name_parts.proofs.TextLemmas.{utf8_all}

key_none : (f : Option NameFault) (g : Option PairFault) → option_or (option_map Key f) g ≡ None → (f ≡ None) × (g ≡ None)
key_none None g e = (refl, e)
key_none (Some f) g e = cc

value_none : (f : Option NameFault) → option_map Value f ≡ None → f ≡ None
value_none None e = refl
value_none (Some f) e = cc

utf8_place-None : (text : List ℕ) → utf8_place text ≡ None → IsUtf8 text
utf8_place-None text e = utf8_all text (grind (arith, nat_tests))

pub pair_fault-None : (key value : List ℕ) → pair_fault key value ≡ None → IsPairKey key × IsPairValue value
pair_fault-None key value e =
    let both = key_none (part_fault PairKey key) (option_map Value (pair_value_fault value)) e in
    let few = limited_fault-None 256 (length value) (utf8_place value) (value_none (pair_value_fault value) both.1) in
    (part_fault-None PairKey key both.0, (utf8_place-None value few.1, few.0))

pub pair-fault : (key value : List ℕ) → IsPairKey key → IsPairValue value → pair_fault key value ≡ None
pair-fault key value is is' =
    let valid : utf8_place value ≡ None = rw (utf8_valid_len-IsUtf8 value is'.0, eq-eqb (length value) (length value) refl) refl in
    let none : pair_value_fault value ≡ None = limited_fault-from 256 (length value) (utf8_place value) is'.1 valid in
    rw (IsPart-part_fault PairKey key is, none) refl
