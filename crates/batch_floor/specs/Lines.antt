-- The lines of an input, their replies, and what these come to.
use Rattle.std.specs.Prelude.{◌≡◌, ◌≢◌, ℕ, ◌-◌, ◌^◌, min, List, [], ◌∷◌, ◌++◌, length, Option, Some, None, is_some, is_none, option_map, unwrap_or, IsUtf8, All, codes, count_by, sum_by, flat_map, slice_index}
use Rattle.json.specs.Lex.{tokens}
use Rattle.json.specs.Print.{print}
use Rattle.serde_json.specs.Data.{Data}
use Rattle.serde_json.specs.Read.{read}
use Rattle.sha2.specs.Sha256.{sha256}
use Rattle.batch_floor.specs.declared.Sums.{Sums}

-- JSON without blanks that reads as the same value as a body
pub record ShowsAgain (body json : List ℕ) : Type 0 where
  pub value : Data
  pub is_read : read body ≡ Some value
  pub reads_back : read json ≡ Some value
  pub compact : json ≡ print (tokens json)

-- The reply to a body: behind the prefix its value again; none to what is no JSON.
abbrev pub IsReply : List ℕ → Option (List ℕ) → Type 0
IsReply body None = IsUtf8 body → read body ≡ None
IsReply body (Some reply) = IsUtf8 body
    × ((json : List ℕ) × ShowsAgain body json × (reply ≡ codes ")]}'\n" ++ json))

-- A line of an input, without its end, and its reply.
pub record Row : Type 0 where
  pub line : List ℕ
  pub reply : Option (List ℕ)

-- no end of a line stands in it
abbrev pub HasNoEnd : List ℕ → Type 0
HasNoEnd text = All (λ b. b ≢ 10) text

abbrev pub IsRow : Row → Type 0
IsRow row = HasNoEnd row.line × IsReply row.line row.reply

-- lines, each with its end
abbrev pub lines_of : List Row → List ℕ
lines_of rows = flat_map (λ (row : Row). row.line ++ 10 ∷ []) rows

-- These are the lines of an input. What stands behind the last end of a line is none.
pub record AreLines (input : List ℕ) (rows : List Row) : Type 0 where
  pub behind : List ℕ
  pub whole : input ≡ lines_of rows ++ behind
  pub each : All IsRow rows
  pub none_behind : HasNoEnd behind

-- a number, or the greatest u64 where it is more
abbrev pub up_to_most : ℕ → ℕ
up_to_most n = min n (2 ^ 64 - 1)

abbrev pub reply_length : Row → ℕ
reply_length row = unwrap_or (option_map length row.reply) 0

-- how many lines have a reply and how many have none, how long the replies are together, and the
-- sum of the first bytes of the lines' digests
abbrev pub sums_of : List Row → Sums
sums_of rows = record {
  bodies = up_to_most (count_by (λ (row : Row). is_some row.reply) rows);
  bad = up_to_most (count_by (λ (row : Row). is_none row.reply) rows);
  bytes = up_to_most (sum_by reply_length rows);
  digests = up_to_most (sum_by (λ (row : Row). slice_index (sha256 row.line) 0) rows);
}
