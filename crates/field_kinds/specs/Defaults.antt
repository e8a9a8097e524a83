-- Fields with a default: it is read where the field is unset, and left out where it is written.
use Rattle.std.specs.Prelude.{◌≡◌, ◌≢◌, ◌⊎◌, Option, Some, None}
use Rattle.serde_json.specs.Data.{Data, Members, object}
use Rattle.json_fields.specs.Names.{NameForm}
use Rattle.json_fields.specs.Fields.{optional, set_at}
use Rattle.json_fields.specs.Writing.{put_required}
use Rattle.json_fields.specs.declared.faults.FieldFault.{FieldFault}

-- the value of a field, or the default where it is unset
abbrev pub HoldsOr : {A : Type 0} → (Data → A → Type 0) → A → Option Data → A → Type 0
HoldsOr means default None a = a ≡ default
HoldsOr means default (Some d) a = means d a

-- The default is left out, and another value is put beside the members.
abbrev pub PutsUnless : {A : Type 0} → NameForm → (A → Data) → A → A → Members → Members → Type 0
PutsUnless n json default a before after =
    ((a ≡ default) × (after ≡ before)) ⊎ ((a ≢ default) × (after ≡ put_required n json a before))

-- The field of these members has no fault and is the value.
pub record IsReadAs {A : Type 0} (fault : Data → Option FieldFault) (means : Data → A → Type 0)
    (default : A) (n : NameForm) (ms : Members) (a : A) : Type 0 where
  pub no_fault : optional n fault (object ms) ≡ None
  pub held : HoldsOr means default (set_at n (object ms)) a
