-- Requests to give an invocation another deadline or other tags, each where a mask names it.
use Rattle.std.specs.Prelude.{◌≡◌, ℕ, ℤ, List, [], ◌∷◌, All, codes, Option, Some, None, unwrap_or, ⊤}
use Rattle.std.specs.Option.{ForSome, is_some}
use Rattle.serde_json.specs.Data.{Data, string, object, no_members}
use Rattle.names_realms.specs.Names.{IsInvocationId}
use Rattle.names_realms.specs.declared.pairs.Pair.{Pair}
use Rattle.moments_spans.specs.Moments.{moment_text, IsInYears}
use Rattle.moments_spans.specs.MomentGrammar.{IsMomentText}
use Rattle.json_fields.specs.Fields.{required, optional, fault_of, filled_at, set, set_at, Holds}
use Rattle.json_fields.specs.Kinds.{an_object, a_list, empty_text, never_empty, HoldsList}
use Rattle.json_fields.specs.Texts.{a_text, IsText, moment_fault}
use Rattle.field_kinds.specs.PairKinds.Tags.{a_tag, tag_data, IsTag, IsPairOfGrammar}
use Rattle.json_fields.specs.Writing.{put_required, put_optional, put_list}
use Rattle.json_fields.specs.declared.faults.FieldFault.{FieldFault}
use Rattle.invocation_forms.specs.Masks.{a_mask, only_where, mask_in, HoldsWhere}
use Rattle.invocation_forms.specs.Named.{a_named, IsNamed, name_data}
use Rattle.invocation_forms.specs.Names as name
use Rattle.field_kinds.specs.Requests.{RequestForm}
use Rattle.invocation_forms.specs.declared.masks.UpdateMask.{UpdateMask}
use Rattle.invocation_forms.specs.declared.updates.UpdateInvocation.{UpdateInvocation}

-- Of the invocation in an update, beside the mask: its deadline, which must be set where the mask
-- names it, and its tags, of which unset ones are none. What the mask doesn't name isn't looked at.
abbrev pub changed_fields : UpdateMask → List (Data → Option FieldFault)
changed_fields mask =
    (λ d. only_where mask.deadline (required name.deadline empty_text (a_text moment_fault) d))
    ∷ (λ d. only_where mask.tags (optional name.tags (a_list a_tag) d))
    ∷ []

unfoldable pub a_changed : UpdateMask → Data → Option FieldFault
a_changed mask d = fault_of (changed_fields mask) d

pub record IsChanged (mask : UpdateMask) (d : Data) (deadline : Option ℤ)
    (tags : Option (List Pair)) : Type 0 where
  pub deadline_is : HoldsWhere mask.deadline
      (Holds (IsText IsMomentText) (filled_at name.deadline empty_text d)) deadline
  pub tags_are : HoldsWhere mask.tags (HoldsList IsTag (set_at name.tags d)) tags

-- the same of a deadline and tags as one
abbrev pub Given : Type 0
Given = Option ℤ × Option (List Pair)

abbrev pub IsGiven : UpdateMask → Data → Given → Type 0
IsGiven mask d given = IsChanged mask d given.0 given.1

abbrev pub HoldsChanged : UpdateMask → Option Data → Option ℤ → Option (List Pair) → Type 0
HoldsChanged mask o deadline tags = Holds (IsGiven mask) o (deadline, tags)

-- what a request says of its invocation beside its own mask
abbrev pub some_changes : Data → Option FieldFault
some_changes d = required name.invocation never_empty (a_changed (mask_in d)) d

-- of an update: an invocation, by its name; a mask; and of the invocation what the mask names
abbrev pub update_fields : List (Data → Option FieldFault)
update_fields =
    an_object
    ∷ required name.invocation never_empty a_named
    ∷ required name.update_mask empty_text a_mask
    ∷ some_changes
    ∷ []

unfoldable pub an_update_request : Data → Option FieldFault
an_update_request d = fault_of update_fields d

-- A value asks to give the invocation that it names a deadline and tags, each where its mask names
-- it.
pub record IsUpdate (d : Data) (q : UpdateInvocation) : Type 0 where
  pub id_is : Holds IsNamed (filled_at name.invocation never_empty d) q.id
  pub changed_is : HoldsChanged (mask_in d) (filled_at name.invocation never_empty d) q.deadline
      q.tags

-- What is written of the invocation, with what is unset or empty left out, and of the mask that
-- names what the update gives.
abbrev pub changed_data : List ℕ → Option ℤ → Option (List Pair) → Data
changed_data id deadline tags =
    object (put_optional name.deadline (λ z. string (moment_text z)) deadline
    (put_required name.name name_data id
    (put_list name.tags tag_data (unwrap_or tags []) no_members)))

abbrev pub mask_written : Option ℤ → Option (List Pair) → List ℕ
mask_written (Some deadline) (Some tags) = codes "deadline,tags"
mask_written (Some deadline) None = codes "deadline"
mask_written None (Some tags) = codes "tags"
mask_written None None = []

abbrev pub update_members : List ℕ → Data → Data
update_members mask changed =
    object (put_required name.update_mask (λ text. string text) mask
    (put_required name.invocation (λ d. d) changed no_members))

abbrev pub update_data : UpdateInvocation → Data
update_data q =
    update_members (mask_written q.deadline q.tags) (changed_data q.id q.deadline q.tags)

-- It gives a deadline or tags. No body asks for an update that gives neither.
abbrev pub ChangesSomething : Option ℤ → Option (List Pair) → Type 0
ChangesSomething (Some deadline) tags = ⊤
ChangesSomething None (Some tags) = ⊤
ChangesSomething None None = ⊥

pub record IsUpdateOfForm (q : UpdateInvocation) : Type 0 where
  pub id : IsInvocationId q.id
  pub deadline : ForSome q.deadline IsInYears
  pub tags : ForSome q.tags (All IsPairOfGrammar)

abbrev pub update_form : RequestForm UpdateInvocation
update_form = record {
  fault = an_update_request;
  means = IsUpdate;
  json = update_data;
  OfForm = IsUpdateOfForm;
  CanBeAsked = λ q. ChangesSomething q.deadline q.tags;
}

-- the mask that names just what is given
abbrev pub mask_for : Option ℤ → Option (List Pair) → UpdateMask
mask_for deadline tags = record { deadline = is_some deadline; tags = is_some tags }

-- What is written of the invocation in an update is read as its name, and beside that mask as the
-- deadline and the tags that are given.
pub record IsReadAsChanged (d : Data) (id : List ℕ) (deadline : Option ℤ)
    (tags : Option (List Pair)) : Type 0 where
  pub is_set : set d ≡ Some d
  pub no_fault : a_named d ≡ None
  pub named : IsNamed d id
  pub nothing_wrong : a_changed (mask_for deadline tags) d ≡ None
  pub changed : IsChanged (mask_for deadline tags) d deadline tags
