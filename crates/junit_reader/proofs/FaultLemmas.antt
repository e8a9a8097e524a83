-- Which fault is told: that the text ends, or a flaw.
use Rattle.std.proofs.Common.{◌≡◌, ◌<◌, ◌≤◌, ◌-◌, ◌&&◌, nat_lt, nat_le, ℕ, Bool, true, false, List, length, ◌⊎◌, inl, inr, refl, sym, ap, ◌∙◌, arith}
use Rattle.std.proofs.lemmas.Bool.{cases_Bool}
use Rattle.std.proofs.lemmas.Bool.Decides.{nat_tests}
use Rattle.junit_parts.specs.Reports.{HasFault, HasFlaw, document_of, text_place, told}
use Rattle.junit_parts.specs.Reports.HasFault.{flawed, text_ends}
use Rattle.junit_parts.specs.declared.faults.Cause.{Cause}
use Rattle.junit_parts.specs.declared.faults.Cause.TheVariants as cause
use Rattle.junit_parts.specs.declared.faults.Flaw.{Flaw}
use Rattle.junit_parts.specs.declared.faults.JunitFault.TheVariants.{NotText, Memory}

both_true : (a b : Bool) → (a && b) ≡ true → (a ≡ true) × (b ≡ true)
both_true true b e = (refl, e)
both_true false b e = absurd cc

pub text_first : (bytes : List ℕ) (flaw : Flaw) (text : ℕ) → HasFlaw (document_of bytes) flaw → text ≡ text_place bytes → (nat_lt text (length bytes) && nat_le text (length bytes - flaw.left)) ≡ true → HasFault bytes (NotText text)
text_first bytes flaw text has is e =
    let both = both_true (nat_lt text (length bytes)) (nat_le text (length bytes - flaw.left)) e in
    let one : text < length bytes = grind (arith, nat_tests, both.0) in
    let two : text ≤ length bytes - flaw.left = grind (arith, nat_tests, both.1) in
    text_ends (omega (arith, one, is)) flaw has (omega (arith, two, is)) (ap NotText is)

pub flaw_first : (bytes : List ℕ) (flaw : Flaw) (text : ℕ) → length bytes ≤ 67_108_864 → HasFlaw (document_of bytes) flaw → text ≡ text_place bytes → (nat_lt text (length bytes) && nat_le text (length bytes - flaw.left)) ≡ false → HasFault bytes (told (length bytes) flaw)
flaw_first bytes flaw text short has is e = flawed short flaw has (go (cases_Bool (nat_lt text (length bytes)))) refl where
  go : (nat_lt text (length bytes) ≡ true) ⊎ (nat_lt text (length bytes) ≡ false) → (length bytes ≤ text_place bytes) ⊎ (length bytes - flaw.left < text_place bytes)
  go (inl first) =
      let second : nat_le text (length bytes - flaw.left) ≡ false = sym (ap (λ b. b && nat_le text (length bytes - flaw.left)) first) ∙ e in
      let more : length bytes - flaw.left < text = grind (arith, nat_tests, second) in
      inr (omega (arith, more, is))
  go (inr first) = let less : length bytes ≤ text = grind (arith, nat_tests, first) in inl (omega (arith, less, is))

-- a flaw is told as itself, and not as want of memory
pub never_memory : (len : ℕ) (flaw : Flaw) → told len flaw ≡ Memory → ⊥
never_memory len flaw = go flaw.cause where
  go : (c : Cause) → told len (record { left = flaw.left; cause = c }) ≡ Memory → ⊥
  go cause.NotWellFormed e = cc
  go (cause.Unsupported what) e = cc
  go cause.NoRoot e = cc
  go cause.MissingName e = cc
  go cause.BadTime e = cc
  go cause.TooDeep e = cc
