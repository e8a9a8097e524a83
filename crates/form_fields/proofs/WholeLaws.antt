-- Whole numbers within a bound are a lawful kind, and so is a field of one, of which 0 is left out.
use Rattle.std.proofs.Common.{◌≡◌, ◌⊎◌, ◌≤◌, ◌==◌, inl, inr, nat_lt, if◌then◌else◌, ℕ, Bool, true, false, Option, Some, None, refl, sym, subst, ◌∙◌, arith}
use Rattle.std.proofs.lemmas.Bool.{eqb-true, ltb-false}
use Rattle.serde_json.specs.Data.{Data}
use Rattle.json_fields.specs.Names.{NameForm}
use Rattle.json_fields.specs.Faults.{here}
use Rattle.json_fields.specs.Kinds.{never_empty}
use Rattle.json_fields.specs.Writing.{IsWritten}
use Rattle.json_fields.specs.declared.faults.FaultKind.TheVariants.{BadValue}
use Rattle.json_fields.specs.declared.whys.Why.TheVariants.{OutOfRange}
use Rattle.json_fields.proofs.PlainLaws.{IsPlain}
use Rattle.field_kinds.specs.Numbers.{Said, no_number, no_whole, below_zero, says, said, beyond, a_whole, IsSaid}
use Rattle.form_fields.specs.Fields.{default_field}
use Rattle.form_fields.specs.Kinds.{unless_zero, whole_field, whole_kind}
use Rattle.form_fields.specs.Laws.{AreLawful, IsLawfulKind, MayBePlain}
use Rattle.form_fields.proofs.FieldLaws.{default_lawful}

said_one : (d : Data) (a b : ℕ) → IsSaid d a → IsSaid d b → a ≡ b
said_one d a b h k = let both : says a ≡ says b = sym h ∙ k in cc

said_some : (most : ℕ) (s : Said) → beyond most s ≡ None → (n : ℕ) × (s ≡ says n)
said_some most no_number h = absurd cc
said_some most no_whole h = absurd cc
said_some most below_zero h = absurd cc
said_some most (says n) h = (n, refl)

within : (most n : ℕ) (t : Bool) → nat_lt most n ≡ t → (if t then Some (here (BadValue OutOfRange)) else None) ≡ None → n ≤ most
within most n true e h = absurd cc
within most n false e h = ltb-false most n e

module _ (json : ℕ → Data) (plain : (n : ℕ) → IsPlain 0 (json n)) where
  zero_or_some : (n : ℕ) (t : Bool) → (n == 0) ≡ t
      → (((if t then None else Some (json n)) ≡ None) × (n ≡ 0)) ⊎ ((if t then None else Some (json n)) ≡ Some (json n))
  zero_or_some n true e = inl (refl, eqb-true n 0 e)
  zero_or_some n false e = inr refl

  unless_plain : (n : ℕ) (t : Bool) → MayBePlain 0 (if t then None else Some (json n))
  unless_plain n true = tt
  unless_plain n false = plain n

  -- what is written of a number within the bound has no float and is read again
  pub whole_lawful : (most : ℕ) → ((n : ℕ) → n ≤ most → IsWritten (a_whole most) IsSaid never_empty (λ _. false) n (json n)) → IsLawfulKind (whole_kind most json)
  whole_lawful most written = record {
    one = said_one;
    there = λ d is none. said_some most (said d) none;
    formed = λ d n none is. within most n (nat_lt most n) refl (subst (λ (s : Said). beyond most s ≡ None) is none);
    told = λ d n none is. refl;
    again = written;
    plain = plain;
  }

  pub whole_field_lawful : (n : NameForm) (most : ℕ) → ((k : ℕ) → k ≤ most → IsWritten (a_whole most) IsSaid never_empty (λ _. false) k (json k))
      → AreLawful (whole_field n most json)
  whole_field_lawful n most written =
      default_lawful n (whole_kind most json) (whole_lawful most written) 0 (unless_zero json) (omega arith) (λ k few. zero_or_some k (k == 0) refl)
      (λ k. unless_plain k (k == 0))
