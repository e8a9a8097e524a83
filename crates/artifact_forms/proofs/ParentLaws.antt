-- Parents, alone and beside the one that leads a batch, as lawful kinds.
use Rattle.std.proofs.Common.{◌≡◌, ℕ, Bool, true, false, if◌then◌else◌, List, ◌++◌, length, take, Option, Some, None, option_and_then}
use Rattle.std.proofs.Common.{refl, sym, ap, ◌∙◌, arith}
use Rattle.std.specs.Str.{bytes_eq}
use Rattle.std.proofs.lemmas.List.{take_at, take_all}
use Rattle.std.proofs.lemmas.Slice.Eq.{bytes_eq-Decides}
use Rattle.serde_json.specs.Data.{Data, null, boolean, number, string, array, object}
use Rattle.name_parts.specs.Sequences.{slash_place}
use Rattle.name_parts.proofs.CutLemmas.{cut_before, no_cut}
use Rattle.name_parts.proofs.ByteLemmas.{invocation_without_slash}
use Rattle.names_realms.specs.declared.parents.Parent.{Parent}
use Rattle.names_realms.specs.declared.parents.Parent.TheVariants as parent
use Rattle.names_realms.specs.ResultNames.{result_name}
use Rattle.names_realms.specs.Parents.{parent_fault, parent_name, IsParentName}
use Rattle.names_realms.proofs.NameLaws.{one_parent_named}
use Rattle.json_fields.specs.Names.{NameForm}
use Rattle.json_fields.specs.Faults.{here}
use Rattle.json_fields.specs.Fields.{filled, filled_at, member, set, set_at, Holds}
use Rattle.json_fields.specs.Kinds.{empty_text}
use Rattle.json_fields.specs.declared.faults.FaultKind.TheVariants.{BadValue}
use Rattle.json_fields.specs.declared.whys.Why.TheVariants.{Differs}
use Rattle.json_fields.proofs.FormLaws.{GivesForm, text_form}
use Rattle.json_fields.proofs.MeaningLaws.{first_left, first_right, text_one, text_there}
use Rattle.json_fields.proofs.SpellLaws.{parent_spelled}
use Rattle.form_fields.specs.Fields.{Kind}
use Rattle.form_fields.specs.Kinds.{text_kind}
use Rattle.form_fields.specs.Laws.{IsLawfulKind}
use Rattle.form_fields.proofs.KindLaws.{text_lawful}
use Rattle.result_forms.specs.Fields.{text_in}
use Rattle.result_forms.proofs.BatchLaws.{held_some, text_seen}
use Rattle.artifacts.specs.Orders.{invocation_of}
use Rattle.artifact_forms.specs.Parents.{a_parent, IsParentOf, invocation_part, a_same_invocation, a_parent_beside}
use Rattle.artifact_forms.proofs.NameThere.{parent_named}

-- a parent's name by its parts
named_again : (p : Parent) (text : List ℕ) → IsParentName p text → IsParentName p (parent_name p)
named_again (parent.Invocation id) text is = (refl, is.1)
named_again (parent.Result r) text is = record { spelling = refl; invocation = is.invocation; test = is.test; result = is.result }

name_is : (p : Parent) (text : List ℕ) → IsParentName p text → text ≡ parent_name p
name_is (parent.Invocation id) text is = is.0
name_is (parent.Result r) text is = is.spelling

parent_one : (d : Data) (p q : Parent) → IsParentOf d p → IsParentOf d q → p ≡ q
parent_one d p q h k = text_one (λ text x. IsParentName x text) (λ text x y e f. one_parent_named x y text e f) d p q h k

parent_there : (d : Data) → a_parent d ≡ None → (p : Parent) × IsParentOf d p
parent_there d h = text_there parent_fault (λ text p. IsParentName p text) parent_named d h

abbrev pub parent_kind : Kind Parent
parent_kind = text_kind parent_fault (λ text p. IsParentName p text) (λ p. IsParentName p (parent_name p)) parent_name

pub parent_lawful : IsLawfulKind parent_kind
parent_lawful =
    text_lawful parent_fault (λ text p. IsParentName p text) _ parent_name refl parent_one parent_there
    (text_form parent_fault (λ text p. IsParentName p text) _ (λ s p none is. named_again p s is)) parent_spelled

-- the text of a parent's field is the parent's name
pub text_of_parent : (n : NameForm) (d : Data) (p : Parent) → Holds IsParentOf (filled_at n empty_text d) p → text_in (set_at n d) ≡ parent_name p
text_of_parent n d p is =
    text_seen (λ text q. IsParentName q text) parent_name (λ s q named. name_is q s named) n d (Some p) (held_some IsParentOf (filled_at n empty_text d) p is)

-- ---- the invocation of a parent

up_to : (id rest : List ℕ) (n : ℕ) → n ≡ length id → take n (id ++ rest) ≡ id
up_to id rest n e = ap (λ (m : ℕ). take m (id ++ rest)) e ∙ take_at id rest (length id) refl

part_alone : (id : List ℕ) → IsParentName (parent.Invocation id) (parent_name (parent.Invocation id))
    → invocation_part (parent_name (parent.Invocation id)) ≡ id
part_alone id is =
    let place : slash_place id ≡ length id = no_cut 47 id (invocation_without_slash id is.1) in
    ap (λ (n : ℕ). take n id) place ∙ take_all (length id) id (omega arith)

pub part_of : (p : Parent) → IsParentName p (parent_name p) → invocation_part (parent_name p) ≡ invocation_of p
unfolding result_name
part_of (parent.Invocation id) is = part_alone id is
part_of (parent.Result r) is = up_to r.invocation _ _ (cut_before 47 r.invocation _ (invocation_without_slash r.invocation is.invocation))

-- ---- a parent beside the leader

differs_not : (b : Bool) → (if b then None else Some (here (BadValue Differs))) ≡ None → b ≡ true
differs_not true h = refl
differs_not false h = absurd cc

module _ (leader : List ℕ) where
  -- its invocation is the leader's
  same_part : (d : Data) (p : Parent) → a_same_invocation leader d ≡ None → IsParentOf d p → invocation_of p ≡ invocation_part leader
  same_part null p same is = absurd is
  same_part (boolean b) p same is = absurd is
  same_part (number n) p same is = absurd is
  same_part (string s) p same is =
      let equal : invocation_part s ≡ invocation_part leader =
      (bytes_eq-Decides (invocation_part s) (invocation_part leader)).0 (differs_not (bytes_eq (invocation_part s) (invocation_part leader)) same) in
      sym (part_of p (named_again p s is)) ∙ ap invocation_part (sym (name_is p s is)) ∙ equal
  same_part (array ds) p same is = absurd is
  same_part (object ms) p same is = absurd is

  beside_form : GivesForm (a_parent_beside leader) IsParentOf (λ p. IsParentName p (parent_name p) × (invocation_of p ≡ invocation_part leader))
  unfolding a_parent_beside
  beside_form d p none is =
      let right = first_left (a_parent d) (a_same_invocation leader d) none in
      let same = first_right (a_parent d) (a_same_invocation leader d) none in
      (parent_lawful.formed d p right is, same_part d p same is)

  right_alone : (d : Data) → a_parent_beside leader d ≡ None → a_parent d ≡ None
  unfolding a_parent_beside
  right_alone d none = first_left (a_parent d) (a_same_invocation leader d) none

  -- the name of a parent in the leader's invocation has no fault
  beside_right : (p : Parent) → IsParentName p (parent_name p) → invocation_of p ≡ invocation_part leader
      → a_parent_beside leader (string (parent_name p)) ≡ None
  unfolding a_parent_beside
  beside_right p is same =
      let equal : bytes_eq (invocation_part (parent_name p)) (invocation_part leader) ≡ true =
      (bytes_eq-Decides (invocation_part (parent_name p)) (invocation_part leader)).1 (part_of p is ∙ same) in
      rw ((parent_spelled p is).no_fault, equal) refl

  abbrev pub beside_kind : Kind Parent
  beside_kind = record {
    fault = a_parent_beside leader;
    means = IsParentOf;
    empty = empty_text;
    blank = λ p. false;
    OfForm = λ p. IsParentName p (parent_name p) × (invocation_of p ≡ invocation_part leader);
    json = λ p. string (parent_name p);
    levels = 0;
  }

  pub beside_kind_lawful : IsLawfulKind beside_kind
  beside_kind_lawful = record {
    one = parent_one;
    there = λ d is none. parent_there d (right_alone d none);
    formed = beside_form;
    told = λ d p none is. parent_lawful.told d p (right_alone d none) is;
    again = λ p is.
        let w = parent_lawful.again p is.0 in
        record { is_set = w.is_set; no_fault = beside_right p is.0 is.1; meant = w.meant; emptiness = w.emptiness };
    plain = parent_lawful.plain;
  }
