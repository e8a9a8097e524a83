-- Requests for another deadline or other tags.
use Rattle.std.proofs.Common.{◌≡◌, ◌==◌, ◌||◌, ◌&&◌, if◌then◌else◌, cond, ℕ, ℤ, Bool, true, false, List, [], ◌∷◌, codes, Option, Some, None, IfSome, unwrap_or, refl, sym, ap, subst, ◌∙◌, arith}
use Rattle.std.specs.List.{All, list_all, list_any, onto_first}
use Rattle.std.specs.Option.{ForSome, is_some}
use Rattle.std.specs.Str.{bytes_eq}
use Rattle.std.proofs.lemmas.Option.{none-some, same_Some}
use Rattle.moments_spans.specs.Moments.{moment_text, IsInYears}
use Rattle.moments_spans.specs.MomentGrammar.{IsMomentText}
use Rattle.names_realms.specs.Names.{invocation_name, IsInvocationId}
use Rattle.names_realms.specs.declared.pairs.Pair.{Pair}
use Rattle.serde_json.specs.Data.{Data, null, boolean, number, string, array, object, Members, no_members, put}
use Rattle.json_fields.specs.Names.{NameForm}
use Rattle.json_fields.specs.Fields.{member, required, optional, filled_at, set_at, fault_required, Holds}
use Rattle.json_fields.specs.Kinds.{an_object, a_list, empty_text, never_empty, HoldsList}
use Rattle.json_fields.specs.Texts.{a_text, IsText, moment_fault}
use Rattle.field_kinds.specs.PairKinds.Tags.{a_tag, IsTag, tag_data, IsPairOfGrammar}
use Rattle.json_fields.specs.Writing.{IsWritten, AllWritten, put_required, put_optional, put_list}
use Rattle.json_fields.specs.declared.faults.FieldFault.{FieldFault}
use Rattle.json_fields.specs.declared.names.Step.TheVariants.{Member}
use Rattle.json_fields.proofs.FormLaws.{GivesForm, moment_form, optional_list_form, required_form}
use Rattle.field_kinds.proofs.PairKinds.TagLaws.{tag_form, tag_one, tag_there, plain_tag}
use Rattle.json_fields.proofs.MeaningLaws.{first_left, first_right, moved_none, holds_one, list_one, moment_one, required_there, list_there, moment_there}
use Rattle.json_fields.proofs.PlainLaws.{IsPlain, plain-put, plain_text, no_members_plain, plain_object, plain-put_optional, plain-put_list}
use Rattle.json_fields.proofs.WriteLaws.{member_put, member_other, member_beside_optional, filled_found, required_found, list_written, kept_none, kept_set}
use Rattle.invocation_forms.specs.Names as name
use Rattle.invocation_forms.specs.Masks.{a_mask, pieces, can_be_updated, names, named_by, is_named, only_where, mask_in, HoldsWhere}
use Rattle.invocation_forms.specs.Named.{an_invocation_name, IsNameOf, a_named, IsNamed, name_data}
use Rattle.invocation_forms.specs.Updates.{a_changed, IsChanged, Given, IsGiven, HoldsChanged, some_changes, an_update_request, IsUpdate, mask_written, changed_data, update_members, update_data, ChangesSomething, IsUpdateOfForm, update_form, mask_for, IsReadAsChanged}
use Rattle.invocation_forms.specs.declared.masks.UpdateMask.{UpdateMask}
use Rattle.invocation_forms.specs.declared.updates.UpdateInvocation.{UpdateInvocation}
use Rattle.field_kinds.proofs.ReadValues.{IsReadValue}
use Rattle.field_kinds.proofs.RequestLaws.{IsLawful, plain_within}
use Rattle.field_kinds.proofs.ThereLaws.{there_required}
use Rattle.invocation_forms.proofs.NamedLaws.{named_one, named_there, named_formed}

-- a deadline in the years 1 to 9999, and tags of their grammar
abbrev IsGivenOfForm : Given → Type 0
IsGivenOfForm given = ForSome given.0 IsInYears × ForSome given.1 (All IsPairOfGrammar)

-- what a mask names means one thing
where_one : {A : Type 0} (named : Bool) (holds : A → Type 0) → ((a b : A) → holds a → holds b → a ≡ b)
    → (o p : Option A) → HoldsWhere named holds o → HoldsWhere named holds p → o ≡ p
where_one true holds law None p h k = absurd h
where_one true holds law (Some a) None h k = absurd k
where_one true holds law (Some a) (Some b) h k = ap Some (law a b h k)
where_one false holds law None None h k = refl
where_one false holds law None (Some b) h k = absurd k
where_one false holds law (Some a) p h k = absurd h

changed_one : (mask : UpdateMask) (d : Data) (a b : Given) → IsChanged mask d a.0 a.1 → IsChanged mask d b.0 b.1 → a ≡ b
changed_one mask d a b h k =
    let deadline : a.0 ≡ b.0 = where_one mask.deadline (Holds (IsText IsMomentText) (filled_at name.deadline empty_text d))
    (holds_one (IsText IsMomentText) moment_one (filled_at name.deadline empty_text d)) a.0 b.0 h.deadline_is k.deadline_is in
    let tags : a.1 ≡ b.1 = where_one mask.tags (HoldsList IsTag (set_at name.tags d))
    (list_one IsTag tag_one (set_at name.tags d)) a.1 b.1 h.tags_are k.tags_are in
    λ i. (deadline i, tags i)

-- what a mask names is there, where it has no fault
where_there : {A : Type 0} (named : Bool) (fault : Option FieldFault) (holds : A → Type 0) → (fault ≡ None → (a : A) × holds a)
    → only_where named fault ≡ None → (o : Option A) × HoldsWhere named holds o
where_there true fault holds law h = let there = law h in (Some there.0, there.1)
where_there false fault holds law h = (None, tt)

changed_there : (mask : UpdateMask) (d : Data) → a_changed mask d ≡ None → (given : Given) × IsChanged mask d given.0 given.1
unfolding a_changed
changed_there mask d h =
    let deadline = where_there mask.deadline _ (Holds (IsText IsMomentText) (filled_at name.deadline empty_text d))
    (required_there name.deadline empty_text (a_text moment_fault) (IsText IsMomentText) moment_there d) (first_left _ _ h) in
    let tags = where_there mask.tags _ (HoldsList IsTag (set_at name.tags d))
    (list_there name.tags a_tag IsTag tag_there d) (first_left _ _ (first_right _ _ h)) in
    ((deadline.0, tags.0), record { deadline_is = deadline.1; tags_are = tags.1 })

-- what a mask names has its form
where_form : {A : Type 0} (named : Bool) (fault : Option FieldFault) (holds P : A → Type 0)
    → (fault ≡ None → (a : A) → holds a → P a) → only_where named fault ≡ None → (o : Option A) → HoldsWhere named holds o → ForSome o P
where_form true fault holds P law none None h a e = absurd h
where_form true fault holds P law none (Some b) h a e = subst P (same_Some b a e) (law none b h)
where_form false fault holds P law none None h a e = absurd (none-some a e)
where_form false fault holds P law none (Some b) h a e = absurd h

changed_formed : (mask : UpdateMask) → GivesForm (a_changed mask) (IsGiven mask) IsGivenOfForm
unfolding a_changed
changed_formed mask d given none is = (
  where_form mask.deadline _ (Holds (IsText IsMomentText) (filled_at name.deadline empty_text d)) IsInYears
      (λ right z are. required_form name.deadline empty_text (a_text moment_fault) (IsText IsMomentText) IsInYears moment_form d z right are)
      (first_left _ _ none) given.0 is.deadline_is,
  where_form mask.tags _ (HoldsList IsTag (set_at name.tags d)) (All IsPairOfGrammar)
      (λ right ts are. optional_list_form name.tags a_tag IsTag IsPairOfGrammar tag_form d ts right are)
      (first_left _ _ (first_right _ _ none)) given.1 is.tags_are,
)

-- the request
update_one : (d : Data) (a b : UpdateInvocation) → IsUpdate d a → IsUpdate d b → a ≡ b
update_one d a b h k =
    let at : Option Data = filled_at name.invocation never_empty d in
    let ids : a.id ≡ b.id = holds_one IsNamed named_one at a.id b.id h.id_is k.id_is in
    let given = holds_one (IsGiven (mask_in d)) (changed_one (mask_in d)) at (a.deadline, a.tags) (b.deadline, b.tags) h.changed_is k.changed_is in
    λ x. record { id = ids x; deadline = (given x).0; tags = (given x).1 }

update_there : (d : Data) → IsReadValue d → an_update_request d ≡ None → (q : UpdateInvocation) × IsUpdate d q
unfolding an_update_request
update_there d read h =
    let one = first_right (an_object d) _ h in
    let two = first_right (required name.invocation never_empty a_named d) _ one in
    let three = first_right (required name.update_mask empty_text a_mask d) _ two in
    let id = there_required a_named IsNamed named_there name.invocation never_empty d read (first_left _ _ one) in
    let given = required_there name.invocation never_empty (a_changed (mask_in d)) (IsGiven (mask_in d))
    (changed_there (mask_in d)) d (first_left _ _ three) in
    (record { id = id.0; deadline = given.0.0; tags = given.0.1 }, record { id_is = id.1; changed_is = given.1 })

update_formed : GivesForm an_update_request IsUpdate IsUpdateOfForm
unfolding an_update_request
update_formed d q none is =
    let one = first_right (an_object d) _ none in
    let two = first_right (required name.invocation never_empty a_named d) _ one in
    let three = first_right (required name.update_mask empty_text a_mask d) _ two in
    let given = required_form name.invocation never_empty (a_changed (mask_in d)) (IsGiven (mask_in d))
    IsGivenOfForm (changed_formed (mask_in d)) d (q.deadline, q.tags)
    (first_left _ _ three) is.changed_is in
    record {
      id = required_form name.invocation never_empty a_named IsNamed IsInvocationId named_formed d q.id (first_left _ _ one) is.id_is;
      deadline = given.0;
      tags = given.1;
    }

-- A mask without a fault names a field.
onto_some : (b : ℕ) (ps : List (List ℕ)) → onto_first b ps ≡ [] → ⊥
onto_some b [] e = cc
onto_some b (p ∷ ps) e = cc

split_some : (b : ℕ) (t : Bool) (ps : List (List ℕ)) → cond t ([] ∷ ps) (onto_first b ps) ≡ [] → ⊥
split_some b true ps e = cc
split_some b false ps e = onto_some b ps e

pieces_some : (text : List ℕ) → pieces text ≡ [] → ⊥
pieces_some [] e = cc
pieces_some (b ∷ bs) e = split_some b (b == 44) (pieces bs) e

clash : (x y a b c : Bool) → ((x || y) && a) ≡ true → (x || b) ≡ false → (y || c) ≡ false → ⊥
clash true y a b c h d t = cc
clash false true a b c h d t = cc
clash false false a b c h d t = cc

none_named : (ps : List (List ℕ)) → list_all can_be_updated ps ≡ true → list_any (λ p. bytes_eq p (codes "deadline")) ps ≡ false
    → list_any (λ p. bytes_eq p (codes "tags")) ps ≡ false → ps ≡ []
none_named [] a d t = refl
none_named (p ∷ ps) a d t =
    absurd (clash (bytes_eq p (codes "deadline")) (bytes_eq p (codes "tags")) (list_all can_be_updated ps)
    (list_any (λ q. bytes_eq q (codes "deadline")) ps) (list_any (λ q. bytes_eq q (codes "tags")) ps) a d t)

all_good : (t : Bool) (f : FieldFault) → (if t then None else Some f) ≡ None → t ≡ true
all_good true f e = refl
all_good false f e = absurd cc

-- a mask without a fault names a field
mask_names_some : (o : Option Data) → fault_required name.update_mask a_mask o ≡ None → named_by (codes "deadline") o ≡ false
    → named_by (codes "tags") o ≡ false → ⊥
mask_names_some None h d t = cc
mask_names_some (Some null) h d t = cc
mask_names_some (Some (boolean b)) h d t = cc
mask_names_some (Some (number n)) h d t = cc
mask_names_some (Some (string s)) h d t =
    pieces_some s (none_named (pieces s) (all_good (list_all can_be_updated (pieces s)) _ (moved_none (Member name.update_mask) (a_mask (string s)) h)) d t)
mask_names_some (Some (array ds)) h d t = cc
mask_names_some (Some (object ms)) h d t = cc

unnamed : {A : Type 0} (named : Bool) (holds : A → Type 0) → HoldsWhere named holds None → named ≡ false
unnamed true holds h = absurd h
unnamed false holds h = refl

nothing_named : (mask : UpdateMask) (o : Option Data) → HoldsChanged mask o None None → (mask.deadline ≡ false) × (mask.tags ≡ false)
nothing_named mask None h = absurd h
nothing_named mask (Some d) h = (
  unnamed mask.deadline (Holds (IsText IsMomentText) (filled_at name.deadline empty_text d)) h.deadline_is,
  unnamed mask.tags (HoldsList IsTag (set_at name.tags d)) h.tags_are,
)

given_some : (d : Data) (o : Option ℤ) (p : Option (List Pair)) → an_update_request d ≡ None
    → HoldsChanged (mask_in d) (filled_at name.invocation never_empty d) o p → ChangesSomething o p
unfolding an_update_request required is_named
given_some d (Some z) p h is = tt
given_some d None (Some ts) h is = tt
given_some d None None h is =
    let one = first_right (an_object d) _ h in
    let two = first_right (required name.invocation never_empty a_named d) _ one in
    let none = nothing_named (mask_in d) (filled_at name.invocation never_empty d) is in
    mask_names_some (filled_at name.update_mask empty_text d) (first_left _ _ two) none.0 none.1

update_asked : GivesForm an_update_request IsUpdate (λ q. ChangesSomething q.deadline q.tags)
update_asked d q none is = given_some d q.deadline q.tags none is.changed_is

-- What is written.
some_from : {A : Type 0} (o : Option A) (P Q : A → Type 0) → ((a : A) → P a → Q a) → IfSome o P → IfSome o Q
some_from None P Q f h = tt
some_from (Some a) P Q f h = f a h

where_none : {A : Type 0} (o : Option A) (fault : Option FieldFault) → IfSome o (λ _. fault ≡ None) → only_where (is_some o) fault ≡ None
where_none None fault h = refl
where_none (Some a) fault h = h

where_held : {A : Type 0} (o : Option A) (holds : A → Type 0) → IfSome o holds → HoldsWhere (is_some o) holds o
where_held None holds h = tt
where_held (Some a) holds h = h

changed_plain : (id : List ℕ) (deadline : Option ℤ) (tags : Option (List Pair)) → IsPlain 3 (changed_data id deadline tags)
changed_plain id deadline tags =
    let behind : Members = put_list name.tags tag_data (unwrap_or tags []) no_members in
    let beside : Members = put_required name.name name_data id behind in
    let one = plain-put_list 1 name.tags tag_data (unwrap_or tags []) no_members plain_tag (no_members_plain 2) in
    let two = plain-put 2 name.name.camel (name_data id) behind (plain_text 2 (invocation_name id)) one in
    plain_object 2 (put_optional name.deadline (λ z. string (moment_text z)) deadline beside)
    (plain-put_optional 2 name.deadline (λ z. string (moment_text z)) deadline beside (λ z. plain_text 2 (moment_text z)) two)

update_plain : (mask : List ℕ) (changed : Data) → IsPlain 3 changed → IsPlain 4 (update_members mask changed)
update_plain mask changed h =
    let behind : Members = put name.invocation.camel changed no_members in
    plain_object 3 (put name.update_mask.camel (string mask) behind)
    (plain-put 3 name.update_mask.camel (string mask) behind (plain_text 3 mask)
    (plain-put 3 name.invocation.camel changed no_members h (no_members_plain 3)))

update_data_plain : (q : UpdateInvocation) → IsPlain 4 (update_data q)
update_data_plain q = update_plain (mask_written q.deadline q.tags) (changed_data q.id q.deadline q.tags) (changed_plain q.id q.deadline q.tags)

pub update_lawful : IsLawful update_form
update_lawful = record {
  one = update_one;
  there = update_there;
  formed = update_formed;
  asked = update_asked;
  plain = λ q. plain_within 4 68 (update_data q) (omega arith) (update_data_plain q);
}

-- the invocation in an update
module _ (id : List ℕ) (deadline : Option ℤ) (tags : Option (List Pair))
    (w : IsWritten an_invocation_name IsNameOf empty_text (λ _. false) id (name_data id))
    (v : IfSome deadline (λ z. IsWritten (a_text moment_fault) (IsText IsMomentText) empty_text (λ _. false) z (string (moment_text z))))
    (all : AllWritten a_tag IsTag never_empty (λ _. false) tag_data (unwrap_or tags [])) where
  abbrev tagged : Members
  tagged = put_list name.tags tag_data (unwrap_or tags []) no_members

  abbrev named : Members
  named = put_required name.name name_data id tagged

  abbrev changed : Members
  changed = put_optional name.deadline (λ z. string (moment_text z)) deadline named

  name_found : member name.name (object changed) ≡ Some (name_data id)
  name_found = member_beside_optional name.name name.deadline (λ z. string (moment_text z)) deadline named refl refl ∙ member_put name.name (name_data id) tagged

  tags_kept : member name.tags (object changed) ≡ member name.tags (object tagged)
  tags_kept = member_beside_optional name.tags name.deadline (λ z. string (moment_text z)) deadline named refl refl
      ∙ member_other name.tags name.name (name_data id) tagged refl refl

  deadline_said : (o : Option ℤ) → IfSome o (λ z. IsWritten (a_text moment_fault) (IsText IsMomentText) empty_text (λ _. false) z (string (moment_text z)))
      → let d : Data = object (put_optional name.deadline (λ z. string (moment_text z)) o named) in
      IfSome o (λ z. (required name.deadline empty_text (a_text moment_fault) d ≡ None) × Holds (IsText IsMomentText) (filled_at name.deadline empty_text d) z)
  deadline_said None h = tt
  deadline_said (Some z) h =
      let d : Data = object (put name.deadline.camel (string (moment_text z)) named) in
      let there = member_put name.deadline (string (moment_text z)) named in (
        required_found name.deadline d empty_text (a_text moment_fault) (string (moment_text z)) there refl h.emptiness h.no_fault,
        rw (filled_found name.deadline d empty_text (string (moment_text z)) there refl h.emptiness) h.meant,
      )

  tags_read : (optional name.tags (a_list a_tag) (object changed) ≡ None) × HoldsList IsTag (set_at name.tags (object changed)) (unwrap_or tags [])
  tags_read =
      let read = list_written a_tag IsTag never_empty (λ _. false) tag_data name.tags (unwrap_or tags []) no_members refl all in (
        kept_none name.tags (a_list a_tag) (object changed) (object tagged) tags_kept read.0,
        rw (kept_set name.tags (object changed) (object tagged) tags_kept) read.1,
      )

  tags_said : (o : Option (List Pair)) → unwrap_or o [] ≡ unwrap_or tags []
      → IfSome o (λ ts. (optional name.tags (a_list a_tag) (object changed) ≡ None) × HoldsList IsTag (set_at name.tags (object changed)) ts)
  tags_said None e = tt
  tags_said (Some ts) e = rw e tags_read

  pub changed_written : IsReadAsChanged (changed_data id deadline tags) id deadline tags
  unfolding a_named a_changed
  changed_written =
      let said = deadline_said deadline v in
      let given = tags_said tags refl in
      record {
        is_set = refl;
        no_fault = rw (required_found name.name (object changed) empty_text an_invocation_name (name_data id) name_found refl w.emptiness w.no_fault) refl;
        named = rw (filled_found name.name (object changed) empty_text (name_data id) name_found refl w.emptiness) w.meant;
        nothing_wrong = rw (
          where_none deadline (required name.deadline empty_text (a_text moment_fault) (object changed)) (some_from deadline _ _ (λ z h. h.0) said),
          where_none tags (optional name.tags (a_list a_tag) (object changed)) (some_from tags _ _ (λ ts h. h.0) given),
        ) refl;
        changed = record {
          deadline_is = where_held deadline (Holds (IsText IsMomentText) (filled_at name.deadline empty_text (object changed))) (some_from deadline _ _ (λ z h. h.1) said);
          tags_are = where_held tags (HoldsList IsTag (set_at name.tags (object changed))) (some_from tags _ _ (λ ts h. h.1) given);
        };
      }

-- what the mask of an update says of its fields
record IsMaskFor (deadline tags : Bool) (mask : List ℕ) : Type 0 where
  pub filled : empty_text (string mask) ≡ false
  pub good : a_mask (string mask) ≡ None
  pub deadline_named : names mask (codes "deadline") ≡ deadline
  pub tags_named : names mask (codes "tags") ≡ tags

mask_good : (deadline : Option ℤ) (tags : Option (List Pair)) → ChangesSomething deadline tags
    → IsMaskFor (is_some deadline) (is_some tags) (mask_written deadline tags)
mask_good (Some z) (Some ts) some = record { filled = refl; good = refl; deadline_named = refl; tags_named = refl }
mask_good (Some z) None some = record { filled = refl; good = refl; deadline_named = refl; tags_named = refl }
mask_good None (Some ts) some = record { filled = refl; good = refl; deadline_named = refl; tags_named = refl }
mask_good None None some = absurd some

-- an update by a mask
module _ (changed : Data) (id : List ℕ) (deadline : Option ℤ) (tags : Option (List Pair))
    (some : ChangesSomething deadline tags) (w : IsReadAsChanged changed id deadline tags) where
  abbrev mask : List ℕ
  mask = mask_written deadline tags

  abbrev update : Data
  update = update_members mask changed

  abbrev beneath : Members
  beneath = put name.invocation.camel changed no_members

  mask_there : member name.update_mask update ≡ Some (string mask)
  mask_there = member_put name.update_mask (string mask) beneath

  changed_there_too : member name.invocation update ≡ Some changed
  changed_there_too = member_other name.invocation name.update_mask (string mask) beneath refl refl ∙ member_put name.invocation changed no_members

  is_filled : filled_at name.invocation never_empty update ≡ Some changed
  is_filled = filled_found name.invocation update never_empty changed changed_there_too w.is_set refl

  found : (fault : Data → Option FieldFault) → fault changed ≡ None → required name.invocation never_empty fault update ≡ None
  found fault none = required_found name.invocation update never_empty fault changed changed_there_too w.is_set refl none

  named_written_in : (n : NameForm) (b : Bool) → empty_text (string mask) ≡ false → names mask n.camel ≡ b → is_named n update ≡ b
  unfolding is_named
  named_written_in n b filled is = rw (filled_found name.update_mask update empty_text (string mask) mask_there refl filled) is

  mask_read : mask_in update ≡ mask_for deadline tags
  mask_read =
      let facts = mask_good deadline tags some in
      let deadline_named = named_written_in name.deadline (is_some deadline) facts.filled facts.deadline_named in
      let tags_named = named_written_in name.tags (is_some tags) facts.filled facts.tags_named in
      λ i. record { deadline = deadline_named i; tags = tags_named i }

  changes_read : some_changes update ≡ None
  changes_read = found (a_changed (mask_in update)) (subst (λ (m : UpdateMask). a_changed m changed ≡ None) (sym mask_read) w.nothing_wrong)

  pub update_written : (an_update_request update ≡ None) × IsUpdate update (record { id = id; deadline = deadline; tags = tags })
  unfolding an_update_request
  update_written =
      let facts = mask_good deadline tags some in (
        rw (
          found a_named w.no_fault,
          required_found name.update_mask update empty_text a_mask (string mask) mask_there refl facts.filled facts.good,
          changes_read,
        ) refl,
        record {
          id_is = rw is_filled w.named;
          changed_is = rw is_filled (subst (λ (m : UpdateMask). IsChanged m changed deadline tags) (sym mask_read) w.changed);
        },
      )
