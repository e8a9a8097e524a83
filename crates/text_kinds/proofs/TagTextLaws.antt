-- The texts of tags: a value without a fault is of the grammar, and the other way round.
use Rattle.std.proofs.Common.{◌≡◌, ℕ, List, [], ◌∷◌, length, nat_lt, Option, Some, None, option_map, refl, sym, subst, arith}
use Rattle.json_fields.specs.NameParts.declared.faults.NameFault.{NameFault}
use Rattle.json_fields.specs.NamesRealms.Pairs.{IsPairKey, IsPairValue, pair_value_fault, pair_fault, utf8_place}
use Rattle.json_fields.specs.NamesRealms.declared.pairs.PairFault.TheVariants.{Value}
use Rattle.json_fields.proofs.NamesRealms.PairLemmas.{pair_fault-None, pair-fault}
use Rattle.json_fields.specs.Texts.{a_text, IsSame, IsText}
use Rattle.json_fields.proofs.FormLaws.{text_form, GivesForm}
use Rattle.json_fields.proofs.NameLaws.{limited_refused}

-- a value that has no fault as a value of a pair
pub value_good : (text : List ℕ) → pair_value_fault text ≡ None → IsPairValue text
value_good text none =
    let good : pair_fault (97 ∷ []) text ≡ None = rw none refl in
    (pair_fault-None (97 ∷ []) text good).1

value_none : (f : Option NameFault) → option_map Value f ≡ None → f ≡ None
value_none None e = refl
value_none (Some f) e = cc

pub value_right : (text : List ℕ) → IsPairValue text → pair_value_fault text ≡ None
value_right text is =
    let key : IsPairKey (97 ∷ []) = record { letters = refl; most = omega arith } in
    let e : option_map Value (pair_value_fault text) ≡ None = pair-fault (97 ∷ []) text key is in
    value_none (pair_value_fault text) e

pub value_form : GivesForm (a_text pair_value_fault) (IsText IsSame) IsPairValue
value_form = text_form pair_value_fault IsSame IsPairValue
    (λ s a none is. subst IsPairValue (sym is) (value_good s (limited_refused (length s) (nat_lt 256 (length s)) (utf8_place s) none)))
