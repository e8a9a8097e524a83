-- A field with a default is read again: it is left out, or it is put.
use Rattle.std.proofs.Common.{◌≡◌, ◌==◌, ℕ, not, Bool, true, false, List, [], ◌∷◌, length, Option, None, refl, sym, ap, subst, arith, eq-eqb}
use Rattle.std.specs.Prelude.{◌↔◌, IsPermutation}
use Rattle.std.specs.List.{All}
use Rattle.std.proofs.lemmas.Bool.{eqb-true, false≢true}
use Rattle.std.proofs.lemmas.List.Elements.{All-head, All-nil}
use Rattle.std.proofs.lemmas.List.Sorted.{All-permutation}
use Rattle.field_kinds.specs.declared.flags.Flag.{Flag}
use Rattle.serde_json.specs.Data.{Data, Members, object, put}
use Rattle.json_fields.specs.Names.{NameForm}
use Rattle.json_fields.specs.Fields.{member}
use Rattle.field_kinds.specs.Defaults.{IsReadAs}
use Rattle.json_fields.specs.Writing.{IsWritten, put_required}
use Rattle.json_fields.specs.declared.faults.FieldFault.{FieldFault}
use Rattle.json_fields.proofs.WriteLaws.{member_put, optional_found, optional_lost, set_found, set_lost}

module _ {A : Type 0} (fault : Data → Option FieldFault) (means : Data → A → Type 0) (default : A) (n : NameForm) where
  pub read_left_out : (a : A) (ms : Members) → a ≡ default → member n (object ms) ≡ None → IsReadAs fault means default n ms a
  read_left_out a ms same none = record {
    no_fault = optional_lost n (object ms) fault none;
    held = rw (set_lost n (object ms) none) same;
  }

  pub read_put : (empty : Data → Bool) (blank : A → Bool) (json : A → Data) (a : A) (before after : Members)
      → IsWritten fault means empty blank a (json a) → after ≡ put_required n json a before → IsReadAs fault means default n after a
  read_put empty blank json a before after w is =
      let there = member_put n (json a) before in
      subst (λ (ms : Members). IsReadAs fault means default n ms a) (sym is)
      (record {
        no_fault = optional_found n (object (put n.camel (json a) before)) fault (json a) there w.is_set w.no_fault;
        held = rw (set_found n (object (put n.camel (json a) before)) (json a) there w.is_set) w.meant;
      })

-- Which values the defaults are.
off : (b : Bool) → not b ≡ true → b ≡ false
off true e = absurd (false≢true e)
off false e = refl

pub flag_off : (x : Flag) → (not x.on ≡ true) ↔ (x ≡ record { on = false })
flag_off x = (λ e i. record { on = off x.on e i }, λ e. ap (λ (y : Flag). not y.on) e)

pub number_zero : (n : ℕ) → ((n == 0) ≡ true) ↔ (n ≡ 0)
number_zero n = (λ e. eqb-true n 0 e, λ e. eq-eqb n 0 e)

pub list_bare : {A : Type 0} (xs : List A) → ((length xs == 0) ≡ true) ↔ (xs ≡ [])
list_bare [] = (λ e. refl, λ e. refl)
list_bare (x ∷ xs) = (λ e. absurd (grind (arith, e)), λ e. absurd cc)

none_left : {A : Type 0} (xs : List A) → All (λ _. ⊥) xs → xs ≡ []
none_left [] all = refl
none_left (x ∷ xs) all = absurd (All-head (λ _. ⊥) x xs all)

pub of_none : {A : Type 0} (xs : List A) → IsPermutation [] xs → xs ≡ []
of_none xs same = none_left xs (All-permutation (λ _. ⊥) [] xs same (All-nil (λ _. ⊥)))
