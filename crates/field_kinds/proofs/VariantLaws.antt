-- Variants: what is written of one is read again.
use Rattle.std.proofs.Common.{◌≡◌, ℕ, zero, suc, ◌+◌, ◌<◌, true, false, List, [], ◌∷◌, ◌++◌, length, take, get_or, Some, None, Greater, nat_cmp, refl, ap, ◌∙◌, arith}
use Rattle.std.specs.Prelude.{All}
use Rattle.std.specs.Str.{IsUtf8}
use Rattle.std.specs.List.Sorted.{IsPermutation}
use Rattle.std.specs.Cmp.Lexicographic.{slice_cmp}
use Rattle.std.specs.Ordering.{ordering_reverse}
use Rattle.std.proofs.lemmas.Cmp.{nat_list_cmp_total}
use Rattle.std.proofs.lemmas.List.Sorted.{IsPermutation-refl, All-permutation}
use Rattle.serde_json.specs.Data.{Data, string, object, Members, no_members, member, put}
use Rattle.json_fields.specs.NamesRealms.declared.pairs.Pair.{Pair}
use Rattle.json_fields.specs.NamesRealms.Pairs.{pair_fault}
use Rattle.json_fields.specs.NamesRealms.Variants.{IsBefore, IsAscending}
use Rattle.json_fields.proofs.NamesRealms.PairLemmas.{pair-fault}
use Rattle.json_fields.specs.NameParts.declared.parts.PartForm.TheVariants.{PairKey}
use Rattle.json_fields.proofs.NameParts.PartLemmas.{IsPart-utf8}
use Rattle.json_fields.specs.Fields.{set_at, optional}
use Rattle.json_fields.specs.Kinds.{never_empty}
use Rattle.json_fields.specs.Writing.{IsWritten}
use Rattle.field_kinds.specs.Variants.{def_name, all_texts, pairs_of, pairs_fault, a_def, a_variant, IsVariant, IsPairOfGrammar, AreOfGrammar, def_members, variant_data}

behind : (p : Pair) (ps : List Pair) → IsAscending (p ∷ ps) → IsAscending ps
behind p [] rises = tt
behind p (q ∷ ps) rises = rises.1

-- a later pair has a later key
later : (p : Pair) (ps : List Pair) → IsAscending (p ∷ ps) → (i : ℕ) (d : Pair) → i < length ps → IsBefore p (get_or ps i d)
later p [] rises i d h = absurd (omega (arith, h))
later p (q ∷ ps) rises zero d h = rises.0
later p (q ∷ ps) rises (suc i) d h =
    nat_list_cmp_total.trans p.key q.key (get_or ps i d).key rises.0 (later q ps rises.1 i d (omega (arith, h)))

put_next : (ps : List Pair) (i : ℕ) (d : Pair) → IsAscending ps → i < length ps
    → put (get_or ps i d).key (string (get_or ps i d).value) (def_members (take i ps)) ≡ def_members (take (suc i) ps)
put_next [] i d rises h = absurd (omega (arith, h))
put_next (p ∷ ps) zero d rises h = refl
put_next (p ∷ ps) (suc i) d rises h =
    let above : slice_cmp nat_cmp (get_or ps i d).key p.key ≡ Greater =
    nat_list_cmp_total.antisymm (get_or ps i d).key p.key ∙ ap ordering_reverse (later p ps rises i d (omega (arith, h))) in
    rw above (ap (member p.key (string p.value)) (put_next ps i d (behind p ps rises) (omega (arith, h))))

-- a pair whose key is above those before it goes last
pub put_after : (ps : List Pair) (i : ℕ) (d : Pair) → IsAscending ps → i < length ps
    → put (get_or ps i d).key (string (get_or ps i d).value) (def_members (take i ps)) ≡ def_members (take (i + 1) ps)
put_after ps i d rises h = let next : i + 1 ≡ suc i = omega arith in rw next (put_next ps i d rises h)

texts_in : (ps : List Pair) → all_texts (def_members ps) ≡ true
texts_in [] = refl
texts_in (p ∷ ps) = texts_in ps

pairs_in_def : (ps : List Pair) → pairs_of (def_members ps) ≡ ps
pairs_in_def [] = refl
pairs_in_def (p ∷ ps) = ap (λ (rest : List Pair). p ∷ rest) (pairs_in_def ps)

right : (ps : List Pair) → All IsPairOfGrammar ps → pairs_fault ps ≡ None
right [] all = refl
right (p ∷ ps) all =
    let this = all 0 p (omega arith) in
    let none : pair_fault p.key p.value ≡ None = pair-fault p.key p.value this.0 this.1 in
    rw none (right ps (λ i d h. all (suc i) d (omega (arith, h))))

def_right : (ps : List Pair) → AreOfGrammar ps → a_def (object (def_members ps)) ≡ None
unfolding AreOfGrammar
def_right ps all = rw (texts_in ps, pairs_in_def ps) (right ps all)

at_def : (ms : Members) → set_at def_name (object (member def_name.camel (object ms) no_members)) ≡ Some (object ms)
unfolding set_at
at_def ms = refl

none_at : set_at def_name (object no_members) ≡ None
unfolding set_at
none_at = refl

def_fault : (ps : List Pair) (d : Data) → set_at def_name d ≡ Some (object (def_members ps)) → AreOfGrammar ps → optional def_name a_def d ≡ None
unfolding optional
def_fault ps d is all = rw (is, def_right ps all) refl

no_def : optional def_name a_def (object no_members) ≡ None
unfolding optional
no_def = rw none_at refl

pub variant_written : (ps : List Pair) → IsAscending ps → AreOfGrammar ps → IsWritten a_variant IsVariant never_empty (λ _. false) ps (variant_data ps)
variant_written [] rises all = record {
  is_set = refl;
  no_fault = rw no_def refl;
  meant = record { pairs = rw none_at (IsPermutation-refl []); order = tt };
  emptiness = refl;
}
variant_written (p ∷ ps) rises all = record {
  is_set = refl;
  no_fault = rw (def_fault (p ∷ ps) (variant_data (p ∷ ps)) (at_def (def_members (p ∷ ps))) all) refl;
  meant = record { pairs = rw (at_def (def_members (p ∷ ps)), pairs_in_def (p ∷ ps)) (IsPermutation-refl (p ∷ ps)); order = rises };
  emptiness = refl;
}

-- pairs of the grammar: none, one more, each of them, and in another order
all_more : (ps : List Pair) (p : Pair) → All IsPairOfGrammar ps → IsPairOfGrammar p → All IsPairOfGrammar (ps ++ p ∷ [])
all_more [] p all is zero d h = is
all_more [] p all is (suc i) d h = absurd (omega (arith, h))
all_more (q ∷ ps) p all is zero d h = all 0 q (omega arith)
all_more (q ∷ ps) p all is (suc i) d h = all_more ps p (λ j e k. all (suc j) e (omega (arith, k))) is i d (omega (arith, h))

pub of_nil : AreOfGrammar []
unfolding AreOfGrammar
of_nil = λ i d h. absurd (omega (arith, h))

pub grammar_more : (ps : List Pair) (p : Pair) → AreOfGrammar ps → IsPairOfGrammar p → AreOfGrammar (ps ++ p ∷ [])
unfolding AreOfGrammar
grammar_more ps p all is = all_more ps p all is

pub grammar_at : (ps : List Pair) (i : ℕ) (d : Pair) → AreOfGrammar ps → i < length ps → IsPairOfGrammar (get_or ps i d)
unfolding AreOfGrammar
grammar_at ps i d all h = all i d h

pub grammar_permutation : (ps qs : List Pair) → IsPermutation ps qs → AreOfGrammar ps → AreOfGrammar qs
unfolding AreOfGrammar
grammar_permutation ps qs same all = All-permutation IsPairOfGrammar ps qs same all

pub key_text : (p : Pair) → IsPairOfGrammar p → IsUtf8 p.key
key_text p is = IsPart-utf8 PairKey p.key is.0

pub data_nil : (ps : List Pair) → length ps ≡ 0 → variant_data ps ≡ object no_members
data_nil [] h = refl
data_nil (p ∷ ps) h = absurd (omega (arith, h))

pub data_some : (ps : List Pair) → (length ps ≡ 0 → ⊥) → variant_data ps ≡ object (put def_name.camel (object (def_members ps)) no_members)
data_some [] h = absurd (h refl)
data_some (p ∷ ps) h = refl
