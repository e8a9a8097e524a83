-- The code's own words for places of rows that are found by a hash of their ids.
use Rattle.std.specs.Prelude.{◌≡◌, ℕ, List, map}
use Rattle.std.specs.Hash.DefaultHasher as sip
use Rattle.hash_chains.specs.Chains.{ChainsState}
use Rattle.invocations.specs.declared.invocation.Invocation.{Invocation}
use Rattle.invocations.specs.Rows.{ids_of}

-- the hash of an id: SipHash of its text
unfoldable pub hash_of : List ℕ → ℕ
hash_of id = sip.finish (sip.write sip.initial id)

abbrev pub hashes_of : List (List ℕ) → List ℕ
hashes_of ids = map hash_of ids

-- the chains have the hash of each row's id
abbrev pub IsHashed : List Invocation → ChainsState → Type 0
IsHashed rows chains = chains.hashes ≡ hashes_of (ids_of rows)
