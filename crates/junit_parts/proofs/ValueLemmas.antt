-- The text of a value, piece by piece, and the attribute of a name.
use Rattle.std.proofs.Common.{◌≡◌, ℕ, zero, suc, ◌+◌, ◌<◌, ◌≤◌, false, List, [], ◌∷◌, ◌++◌, length, map, drop, get_or, Some, Result, Ok, Err, encode_utf8, refl, sym, ap, subst, ◌∙◌, arith, append_assoc}
use Rattle.std.proofs.lemmas.Bool.Decides.{nat_tests}
use Rattle.std.specs.Prelude.{◌==◌, if◌then◌else◌}
use Rattle.std.specs.Str.{bytes_eq}
use Rattle.std.proofs.lemmas.List.{append-nil, drop_more}
use Rattle.junit_parts.specs.References.{reference_from}
use Rattle.junit_parts.specs.Tags.{attribute_text}
use Rattle.junit_parts.specs.Values.{behind_reference, flaw_in, put_text, reference_at, value_from, value_named}
use Rattle.junit_parts.specs.declared.faults.Flaw.{Flaw}
use Rattle.junit_parts.specs.declared.tags.Attribute.{Attribute}

abbrev Read : Type 0
Read = Result (List ℕ) Flaw

pub put_twice : (a b : List ℕ) (r : Read) → put_text a (put_text b r) ≡ put_text (a ++ b) r
put_twice a b (Ok t) = ap Ok (sym (append_assoc a b t))
put_twice a b (Err f) = refl

pub same_flaw : (a : List ℕ) (r : Read) → flaw_in (put_text a r) ≡ flaw_in r
same_flaw a (Ok t) = refl
same_flaw a (Err f) = refl

-- a byte that is no `&`
pub by_byte : (n b : ℕ) (bs : List ℕ) → (b == 38) ≡ false → value_from (suc n) (b ∷ bs) ≡ put_text (b ∷ []) (value_from n bs)
unfolding value_from
by_byte n b bs other = rw other refl

pub by_reference : (n c : ℕ) (bs rest : List ℕ) → reference_at (length (38 ∷ bs)) (reference_from bs) ≡ Ok (c, rest) → value_from (suc n) (38 ∷ bs) ≡ put_text (encode_utf8 c) (value_from n rest)
unfolding value_from
by_reference n c bs rest is = ap (behind_reference (λ r. value_from n r)) is

pub by_flaw : (n : ℕ) (bs : List ℕ) (flaw : Flaw) → reference_at (length (38 ∷ bs)) (reference_from bs) ≡ Err flaw → value_from (suc n) (38 ∷ bs) ≡ Err flaw
unfolding value_from
by_flaw n bs flaw is = ap (behind_reference (λ r. value_from n r)) is

pub no_bytes : (n : ℕ) → value_from n [] ≡ Ok []
unfolding value_from
no_bytes zero = refl
no_bytes (suc n) = refl

-- what is still to be read, with fuel enough
pub record Left (front rest : List ℕ) (whole : Read) : Type 0 where
  pub fuel : ℕ
  pub enough : length rest ≤ fuel
  pub same : put_text front (value_from fuel rest) ≡ whole

pub begun : (bytes : List ℕ) → Left [] bytes (value_from (length bytes) bytes)
begun bytes = record { fuel = length bytes; enough = omega arith; same = none (value_from (length bytes) bytes) } where
  none : (r : Read) → put_text [] r ≡ r
  none (Ok t) = refl
  none (Err f) = refl

pub left_byte : (front : List ℕ) (b : ℕ) (bs : List ℕ) (whole : Read) → Left front (b ∷ bs) whole → (b == 38) ≡ false → Left (front ++ b ∷ []) bs whole
left_byte front b bs whole left other = go left.fuel left.enough left.same where
  go : (n : ℕ) → length (b ∷ bs) ≤ n → put_text front (value_from n (b ∷ bs)) ≡ whole → Left (front ++ b ∷ []) bs whole
  go zero few same = absurd (omega arith)
  go (suc n) few same = record { fuel = n; enough = omega arith; same = sym (put_twice front (b ∷ []) (value_from n bs)) ∙ ap (put_text front) (sym (by_byte n b bs other)) ∙ same }

pub left_reference : (front : List ℕ) (c : ℕ) (bs rest : List ℕ) (whole : Read) → Left front (38 ∷ bs) whole → reference_at (length (38 ∷ bs)) (reference_from bs) ≡ Ok (c, rest) → length rest ≤ length bs → Left (front ++ encode_utf8 c) rest whole
left_reference front c bs rest whole left is within = go left.fuel left.enough left.same where
  go : (n : ℕ) → length (38 ∷ bs) ≤ n → put_text front (value_from n (38 ∷ bs)) ≡ whole → Left (front ++ encode_utf8 c) rest whole
  go zero few same = absurd (omega arith)
  go (suc n) few same = record { fuel = n; enough = omega arith; same = sym (put_twice front (encode_utf8 c) (value_from n rest)) ∙ ap (put_text front) (sym (by_reference n c bs rest is)) ∙ same }

pub left_flaw : (front : List ℕ) (bs : List ℕ) (flaw : Flaw) (whole : Read) → Left front (38 ∷ bs) whole → reference_at (length (38 ∷ bs)) (reference_from bs) ≡ Err flaw → whole ≡ Err flaw
left_flaw front bs flaw whole left is = go left.fuel left.enough left.same where
  go : (n : ℕ) → length (38 ∷ bs) ≤ n → put_text front (value_from n (38 ∷ bs)) ≡ whole → whole ≡ Err flaw
  go zero few same = absurd (omega arith)
  go (suc n) few same = sym same ∙ ap (put_text front) (by_flaw n bs flaw is)

pub left_none : (front rest : List ℕ) (whole : Read) → Left front rest whole → rest ≡ [] → whole ≡ Ok front
left_none front rest whole left none =
    sym left.same ∙ ap (λ r. put_text front (value_from left.fuel r)) none ∙ ap (put_text front) (no_bytes left.fuel) ∙ ap Ok (append-nil front)

pub named_at : (name : List ℕ) (attributes : List Attribute) (at : ℕ) (d : Attribute) → at < length attributes
    → value_named name (map attribute_text (drop at attributes)) ≡ (if bytes_eq (get_or attributes at d).name.now name then Some (get_or attributes at d).value.now else value_named name (map attribute_text (drop (at + 1) attributes)))
named_at name attributes at d within = ap (λ xs. value_named name (map attribute_text xs)) (drop_more attributes at d within)

pub is_other : (b : ℕ) → (b ≡ 38 → ⊥) → (b == 38) ≡ false
is_other b other = grind (arith, nat_tests, other)

pub left_at : (front rest text : List ℕ) (whole : Read) → Left front rest whole → rest ≡ text → Left front text whole
left_at front rest text whole left e = let P : List ℕ → Type 0 = λ t. Left front t whole in subst P e left
