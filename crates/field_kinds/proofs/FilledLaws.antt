-- Fields that may be unset, null or empty.
use Rattle.std.proofs.Common.{◌≡◌, Bool, false, Option, Some, None, IfSome, refl, subst, ◌∙◌}
use Rattle.std.specs.Option.{ForSome}
use Rattle.std.specs.Prelude.{option_and_then}
use Rattle.std.proofs.lemmas.Option.{none-some, same_Some}
use Rattle.serde_json.specs.Data.{Data, null, boolean, number, string, array, object, Members, put}
use Rattle.json_fields.specs.Names.{NameForm}
use Rattle.json_fields.specs.Faults.{moved}
use Rattle.json_fields.specs.Fields.{set, filled, member, set_at, filled_at, fault_optional, optional, HoldsMaybe}
use Rattle.json_fields.specs.declared.faults.FieldFault.{FieldFault}
use Rattle.json_fields.specs.declared.names.Step.TheVariants.{Member}
use Rattle.json_fields.specs.Writing.{IsWritten, put_optional}
use Rattle.json_fields.proofs.FormLaws.{GivesForm}
use Rattle.json_fields.proofs.MeaningLaws.{moved_none}
use Rattle.json_fields.proofs.WriteLaws.{filled_found, member_put}
use Rattle.field_kinds.specs.Filled.{fault_in, if_filled, optional_filled}

carried : (n : NameForm) (fault : Data → Option FieldFault) (o : Option Data) → moved (Member n) (fault_in fault o) ≡ fault_optional n fault o
carried n fault None = refl
carried n fault (Some d) = refl

fault_by : (n : NameForm) (empty : Data → Bool) (fault : Data → Option FieldFault) (m : Option Data)
    → fault_optional n (if_filled empty fault) (option_and_then set m) ≡ fault_optional n fault (option_and_then (filled empty) m)
fault_by n empty fault None = refl
fault_by n empty fault (Some null) = refl
fault_by n empty fault (Some (boolean b)) = carried n fault (filled empty (boolean b))
fault_by n empty fault (Some (number x)) = carried n fault (filled empty (number x))
fault_by n empty fault (Some (string s)) = carried n fault (filled empty (string s))
fault_by n empty fault (Some (array ds)) = carried n fault (filled empty (array ds))
fault_by n empty fault (Some (object ms)) = carried n fault (filled empty (object ms))

pub filled_fault : (n : NameForm) (empty : Data → Bool) (fault : Data → Option FieldFault) (d : Data)
    → optional n (if_filled empty fault) d ≡ optional_filled n empty fault d
unfolding optional set_at filled_at
filled_fault n empty fault d = fault_by n empty fault (member n d)

some_by : {A B : Type 0} (means : Data → A → Type 0) (empty : Data → Bool) (of : B → Option A) (m : Option Data) (x : B)
    → HoldsMaybe (λ e y. HoldsMaybe means (filled empty e) (of y)) (option_and_then set m) (Some x)
    → HoldsMaybe means (option_and_then (filled empty) m) (of x)
some_by means empty of None x h = absurd h
some_by means empty of (Some null) x h = absurd h
some_by means empty of (Some (boolean b)) x h = h
some_by means empty of (Some (number n)) x h = h
some_by means empty of (Some (string s)) x h = h
some_by means empty of (Some (array ds)) x h = h
some_by means empty of (Some (object ms)) x h = h

pub some_filled : {A B : Type 0} (means : Data → A → Type 0) (empty : Data → Bool) (of : B → Option A) (n : NameForm) (d : Data) (x : B)
    → HoldsMaybe (λ e y. HoldsMaybe means (filled empty e) (of y)) (set_at n d) (Some x) → HoldsMaybe means (filled_at n empty d) (of x)
unfolding set_at filled_at
some_filled means empty of n d x h = some_by means empty of (member n d) x h

none_by : {A B : Type 0} (means : Data → A → Type 0) (other : Data → B → Type 0) (empty : Data → Bool) (m : Option Data)
    → HoldsMaybe other (option_and_then set m) None → HoldsMaybe means (option_and_then (filled empty) m) None
none_by means other empty None h = tt
none_by means other empty (Some null) h = tt
none_by means other empty (Some (boolean b)) h = absurd h
none_by means other empty (Some (number n)) h = absurd h
none_by means other empty (Some (string s)) h = absurd h
none_by means other empty (Some (array ds)) h = absurd h
none_by means other empty (Some (object ms)) h = absurd h

pub none_filled : {A B : Type 0} (means : Data → A → Type 0) (other : Data → B → Type 0) (empty : Data → Bool) (n : NameForm) (d : Data)
    → HoldsMaybe other (set_at n d) None → HoldsMaybe means (filled_at n empty d) None
unfolding set_at filled_at
none_filled means other empty n d h = none_by means other empty (member n d) h

-- A value without a fault means something, and what it means is of its form.
there_by : {A : Type 0} (n : NameForm) (fault : Data → Option FieldFault) (means : Data → A → Type 0)
    → ((d : Data) → fault d ≡ None → (a : A) × means d a) → (o : Option Data) → fault_optional n fault o ≡ None → (a : Option A) × HoldsMaybe means o a
there_by n fault means law None h = (None, tt)
there_by n fault means law (Some d) h = let there = law d (moved_none (Member n) (fault d) h) in (Some there.0, there.1)

pub filled_there : {A : Type 0} (n : NameForm) (empty : Data → Bool) (fault : Data → Option FieldFault) (means : Data → A → Type 0)
    → ((d : Data) → fault d ≡ None → (a : A) × means d a) → (d : Data) → optional_filled n empty fault d ≡ None
    → (a : Option A) × HoldsMaybe means (filled_at n empty d) a
filled_there n empty fault means law d h = there_by n fault means law (filled_at n empty d) h

form_by : {A : Type 0} (n : NameForm) (fault : Data → Option FieldFault) (means : Data → A → Type 0) (P : A → Type 0)
    → GivesForm fault means P → (o : Option Data) (a : Option A) → fault_optional n fault o ≡ None → HoldsMaybe means o a → ForSome a P
form_by n fault means P law None None none holds b e = absurd (none-some b e)
form_by n fault means P law None (Some a) none holds b e = absurd holds
form_by n fault means P law (Some d) None none holds b e = absurd holds
form_by n fault means P law (Some d) (Some a) none holds b e = subst P (same_Some a b e) (law d a (moved_none (Member n) (fault d) none) holds)

pub filled_form : {A : Type 0} (n : NameForm) (empty : Data → Bool) (fault : Data → Option FieldFault) (means : Data → A → Type 0) (P : A → Type 0)
    → GivesForm fault means P → (d : Data) (a : Option A) → optional_filled n empty fault d ≡ None → HoldsMaybe means (filled_at n empty d) a → ForSome a P
filled_form n empty fault means P law d a none holds = form_by n fault means P law (filled_at n empty d) a none holds

-- The member that counts is that of other members too.
pub filled_kept : (n : NameForm) (empty : Data → Bool) (d e : Data) → member n d ≡ member n e → filled_at n empty d ≡ filled_at n empty e
unfolding filled_at
filled_kept n empty d e same = rw same refl

filled_lost : (n : NameForm) (empty : Data → Bool) (d : Data) → member n d ≡ None → filled_at n empty d ≡ None
unfolding filled_at
filled_lost n empty d none = rw none refl

-- What is written of it beside members without its name is read again.
module _ {A : Type 0} (fault : Data → Option FieldFault) (means : Data → A → Type 0) (empty : Data → Bool) (blank : A → Bool) (json : A → Data) (n : NameForm) where
  pub filled_written : (o : Option A) (ms : Members) → member n (object ms) ≡ None
      → IfSome o (λ a. IsWritten fault means empty blank a (json a) × (blank a ≡ false))
      → let d : Data = object (put_optional n json o ms) in (optional_filled n empty fault d ≡ None) × HoldsMaybe means (filled_at n empty d) o
  filled_written None ms none w =
      let lost = filled_lost n empty (object ms) none in
      (rw lost refl, rw lost tt)
  filled_written (Some a) ms none w =
      let there = member_put n (json a) ms in
      let found = filled_found n (object (put n.camel (json a) ms)) empty (json a) there w.0.is_set (w.0.emptiness ∙ w.1) in
      (rw (found, w.0.no_fault) refl, rw found w.0.meant)
