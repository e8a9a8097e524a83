-- What is counted.
use Rattle.std.specs.Prelude.{◌≡◌, ℕ, ◌+◌, ◌-◌, ◌^◌, min, Bool, false, List, ◌++◌, length, count_by, codes, Option, Some, None, option_and_then}
use Rattle.std.specs.Str.{bytes_eq}
use Rattle.serde_json.specs.Data.{Data}
use Rattle.serde_json.specs.Find.{as_str, get}
use Rattle.workload_turns.specs.declared.tally.Tally.{Tally}

-- a number, or the greatest of 64 bits where it is more
abbrev pub up_to_most : ℕ → ℕ
up_to_most n = min n (2 ^ 64 - 1)

abbrev pub is_text : List ℕ → Option (List ℕ) → Bool
is_text name None = false
is_text name (Some text) = bytes_eq text name

-- whether the status of a verdict has this name
abbrev pub has_status : List ℕ → Data → Bool
has_status name verdict = is_text name (option_and_then as_str (get (codes "status") verdict))

abbrev pub how_many : List ℕ → List Data → ℕ
how_many name verdicts = up_to_most (count_by (has_status name) verdicts)

-- so many requests, and these verdicts
abbrev pub tally_of : ℕ → List Data → Tally
tally_of requests verdicts = record {
  requests = up_to_most requests;
  verdicts = up_to_most (length verdicts);
  unexpected = how_many (codes "UNEXPECTED") verdicts;
  skipped = how_many (codes "UNEXPECTEDLY_SKIPPED") verdicts;
  flaky = how_many (codes "FLAKY") verdicts;
  exonerated = how_many (codes "EXONERATED") verdicts;
  expected = how_many (codes "EXPECTED") verdicts;
}

-- So many requests more were counted, and these verdicts more.
abbrev pub Counts : Tally → ℕ → List Data → Tally → Type 0
Counts before requests verdicts after =
    (n : ℕ) (earlier : List Data) → before ≡ tally_of n earlier
    → after ≡ tally_of (n + requests) (earlier ++ verdicts)
