-- The ids that tell a report's results and requests from those of every other report.
use Rattle.std.specs.Prelude.{◌≡◌, ℕ, ◌<◌, ◌≤◌, true, List, ◌∷◌, ◌++◌, length, take}
use Rattle.std.specs.List.{list_all}
use Rattle.std.specs.Fmt.{decimal}
use Rattle.name_parts.specs.Alphabets.{is_small, may_follow}
use Rattle.name_parts.specs.declared.alphabets.Alphabet.TheVariants.{Outcome}
use Rattle.sha2.specs.Sha256.{sha256}
use Rattle.hex.specs.Hex.{encode_lower}

-- The digest of a report that goes to an invocation: 64 lower-case hexadecimal digits over its id,
-- a newline and the report.
abbrev pub report_digest : List ℕ → List ℕ → List ℕ
report_digest invocation report = encode_lower (sha256 (invocation ++ 10 ∷ report))

-- 64 small letters and digits
abbrev pub IsDigest : List ℕ → Type 0
IsDigest text = (list_all is_small text ≡ true) × (length text ≡ 64)

-- So many of the digits, `-` and a number.
abbrev pub numbered : ℕ → List ℕ → ℕ → List ℕ
numbered count digest number = take count digest ++ 45 ∷ decimal number

-- The id of the result of the case with this number, counted from 1.
abbrev pub result_id_text : List ℕ → ℕ → List ℕ
result_id_text digest number = numbered 8 digest number

-- The id of the request of the batch with this number, counted from 1.
abbrev pub request_id_text : List ℕ → ℕ → List ℕ
request_id_text digest number = numbered 24 digest number

-- 1 to 36 small letters, digits and `- _ .`, as the id of a request may be
pub record IsRequestName (text : List ℕ) : Type 0 where
  pub letters : list_all (may_follow Outcome) text ≡ true
  pub some : 0 < length text
  pub most : length text ≤ 36
