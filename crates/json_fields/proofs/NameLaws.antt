-- A text that isn't refused as an invocation's name names one invocation.
use Rattle.std.proofs.Common.{◌≡◌, ◌≢◌, ℕ, ◌==◌, nat_lt, if◌then◌else◌, Bool, true, false, List, length, Option, Some, None, option_map, refl}
use Rattle.names_realms.specs.NameParts.declared.alphabets.Alphabet.TheVariants as alphabet
use Rattle.names_realms.specs.NameParts.declared.faults.NameFault.{NameFault}
use Rattle.names_realms.specs.NameParts.declared.faults.NameFault.TheVariants.{Empty, TooLong, BadByte, NotCanonical, OutOfRange, Memory}
use Rattle.names_realms.specs.NameParts.declared.parts.PartForm.{PartForm}
use Rattle.names_realms.specs.NameParts.Parts.{part_fault, unempty_fault, most_bytes, bad_place, shifted}
use Rattle.names_realms.specs.NameParts.Sequences.{unless_empty}
use Rattle.json_fields.specs.Texts.{refused}

pub limited_refused : (len : ℕ) (t : Bool) (bad : Option ℕ) → refused (if t then Some (TooLong len) else option_map BadByte bad) ≡ None
    → (if t then Some (TooLong len) else option_map BadByte bad) ≡ None
limited_refused len true bad h = absurd cc
limited_refused len false None h = refl
limited_refused len false (Some place) h = absurd cc

pub unless_refused : (t : Bool) (o : Option NameFault) → refused (if t then Some Empty else o) ≡ None → (t ≡ false) × (refused o ≡ None)
unless_refused true o h = absurd cc
unless_refused false o h = (refl, h)

pub part_refused : (form : PartForm) (text : List ℕ) → refused (part_fault form text) ≡ None → part_fault form text ≡ None
part_refused form text h =
    let rest = unless_refused (length text == 0) (unempty_fault form text) h in
    rw rest.0 (limited_refused (length text) (nat_lt (most_bytes form) (length text)) (bad_place form text) rest.1)

pub shifted_refused : (n : ℕ) (o : Option NameFault) → refused (option_map (shifted n) o) ≡ None → refused o ≡ None
shifted_refused n None h = refl
shifted_refused n (Some Empty) h = absurd cc
shifted_refused n (Some (TooLong len)) h = absurd cc
shifted_refused n (Some (BadByte at)) h = absurd cc
shifted_refused n (Some (NotCanonical at)) h = absurd cc
shifted_refused n (Some OutOfRange) h = absurd cc
shifted_refused n (Some Memory) h = refl

-- a fault that is never want of memory
pub told_refused : (o : Option NameFault) → o ≢ Some Memory → refused o ≡ None → o ≡ None
told_refused None told h = refl
told_refused (Some Empty) told h = absurd cc
told_refused (Some (TooLong len)) told h = absurd cc
told_refused (Some (BadByte at)) told h = absurd cc
told_refused (Some (NotCanonical at)) told h = absurd cc
told_refused (Some OutOfRange) told h = absurd cc
told_refused (Some Memory) told h = absurd (told refl)

pub whole_refused : (fault : List ℕ → Option NameFault) (text : List ℕ) → fault text ≢ Some Memory → refused (unless_empty fault text) ≡ None → fault text ≡ None
whole_refused fault text told h =
    let whole = unless_refused (length text == 0) (fault text) h in told_refused (fault text) told whole.1
