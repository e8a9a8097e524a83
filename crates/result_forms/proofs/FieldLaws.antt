-- A field that counts as unset where its value is empty, and has a default.
use Rattle.std.proofs.Common.{◌≡◌, Bool, false, Option, Some, None, refl}
use Rattle.serde_json.specs.Data.{Data}
use Rattle.json_fields.specs.Names.{NameForm}
use Rattle.json_fields.specs.Fields.{member, set, filled_at}
use Rattle.json_fields.specs.declared.faults.FieldFault.{FieldFault}
use Rattle.json_fields.proofs.WriteLaws.{filled_found}
use Rattle.field_kinds.specs.Defaults.{HoldsOr}
use Rattle.field_kinds.specs.Filled.{optional_filled}

module _ {A : Type 0} (n : NameForm) (d : Data) (fault : Data → Option FieldFault) (means : Data → A → Type 0) where
  filled_none : (empty : Data → Bool) → member n d ≡ None → filled_at n empty d ≡ None
  unfolding filled_at
  filled_none empty none = rw none refl

  pub empty_default : (empty : Data → Bool) (default a : A) → member n d ≡ None → a ≡ default
      → (optional_filled n empty fault d ≡ None) × HoldsOr means default (filled_at n empty d) a
  empty_default empty default a none same = (rw (filled_none empty none) refl, rw (filled_none empty none) same)

  pub filled_other : (empty : Data → Bool) (default a : A) (x : Data) → member n d ≡ Some x → set x ≡ Some x → empty x ≡ false → fault x ≡ None → means x a
      → (optional_filled n empty fault d ≡ None) × HoldsOr means default (filled_at n empty d) a
  filled_other empty default a x there is_set e none meant = (
    rw (filled_found n d empty x there is_set e, none) refl,
    rw (filled_found n d empty x there is_set e) meant,
  )
