-- The code's own words for places of rows that are found by a hash of their keys.
use Rattle.std.specs.Prelude.{◌≡◌, ℕ, List, map, fold}
use Rattle.std.specs.Hash as fed
use Rattle.std.specs.Hash.DefaultHasher as sip
use Rattle.hash_chains.specs.Chains.{ChainsState}
use Rattle.test_results.specs.declared.result.TestResult.{TestResult}
use Rattle.test_results.specs.Results.{Key, keys_of}

-- the hash of a key: SipHash of its holder, its test's id, a byte that no id has, and its own id
unfoldable pub hash_of : Key → ℕ
hash_of key =
    let held = fold sip.write sip.initial (fed.u32 key.holder) in
    let tested = fold sip.write (sip.write held key.test) (fed.u8 0xff) in
    sip.finish (sip.write tested key.id)

abbrev pub hashes_of : List Key → List ℕ
hashes_of keys = map hash_of keys

-- the chains have the hash of each row's key
abbrev pub IsHashed : List TestResult → ChainsState → Type 0
IsHashed rows chains = chains.hashes ≡ hashes_of (keys_of rows)
