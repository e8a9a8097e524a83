-- What the parts of each kind hold.
use Rattle.std.proofs.Common.{◌≡◌, ℕ, Bor, List, [], ◌∷◌, length, map, get_or, refl, arith}
use Rattle.name_parts.specs.Parts.{IsPart}
use Rattle.name_parts.specs.declared.parts.PartForm.TheVariants.{TestId}
use Rattle.page_tokens.specs.Keys.{AreContents}
use Rattle.page_tokens.specs.Cursors.{verdict_parts, result_parts}

pub record HoldsVerdict (held : List (Bor (List ℕ))) (d : Bor (List ℕ)) : Type 0 where
  pub size : length held ≡ 4
  pub status : length (get_or held 0 d).now ≡ 1
  pub test : IsPart TestId (get_or held 1 d).now
  pub label : length (get_or held 2 d).now ≡ 16
  pub ordinal : length (get_or held 3 d).now ≡ 4
  pub whole : map (λ c. c.now) held ≡ (get_or held 0 d).now ∷ (get_or held 1 d).now ∷ (get_or held 2 d).now ∷ (get_or held 3 d).now ∷ []

pub holds_verdict : (held : List (Bor (List ℕ))) (d : Bor (List ℕ)) → AreContents verdict_parts (map (λ c. c.now) held) → HoldsVerdict held d
holds_verdict [] d are = absurd are
holds_verdict (a ∷ []) d are = absurd are.1
holds_verdict (a ∷ b ∷ []) d are = absurd are.1.1
holds_verdict (a ∷ b ∷ e ∷ []) d are = absurd are.1.1.1
holds_verdict (a ∷ b ∷ e ∷ f ∷ []) d are =
    record { size = refl; status = are.0; test = are.1.0; label = are.1.1.0; ordinal = are.1.1.1.0; whole = refl }
holds_verdict (a ∷ b ∷ e ∷ f ∷ g ∷ held) d are = absurd are.1.1.1.1

pub one_byte : (bytes : List ℕ) → length bytes ≡ 1 → get_or bytes 0 0 ∷ [] ≡ bytes
one_byte [] size = absurd (omega arith)
one_byte (b ∷ []) size = refl
one_byte (b ∷ e ∷ bytes) size = absurd (omega arith)

-- what the key of a result holds, one after the other
pub each_of_result : (held : List (Bor (List ℕ))) (d : Bor (List ℕ)) → AreContents result_parts (map (λ c. c.now) held)
    → (get_or held 0 d).now ∷ (get_or held 1 d).now ∷ (get_or held 2 d).now ∷ [] ≡ map (λ c. c.now) held
each_of_result [] d are = absurd are
each_of_result (a ∷ []) d are = absurd are.1
each_of_result (a ∷ b ∷ []) d are = absurd are.1.1
each_of_result (a ∷ b ∷ e ∷ []) d are = refl
each_of_result (a ∷ b ∷ e ∷ f ∷ held) d are = absurd are.1.1.1
