-- The values of the words of a service.
use Rattle.std.specs.Prelude.{◌≡◌, ℕ, ◌≤◌, List, Option, Some, codes, decimal, option_map}
use Rattle.std.specs.Option.{ForSome}
use Rattle.program_words.specs.declared.serve_words.ServeWords.{ServeWords}

abbrev pub most_workers : ℕ
most_workers = 64

abbrev pub most_connections : ℕ
most_connections = 1000000

-- no less than the least, and no more than the most
abbrev pub IsWithin : ℕ → ℕ → ℕ → Type 0
IsWithin least most n = (least ≤ n) × (n ≤ most)

-- at least one, and no more than the most
abbrev pub IsUpTo : ℕ → ℕ → Type 0
IsUpTo most n = IsWithin 1 most n

-- The values that the options have are these. A number is written as decimal digits, without a sign
-- or a leading zero; that of the connections may be left out.
pub record AreServeValues (value : List ℕ → Option (List ℕ)) (words : ServeWords) : Type 0 where
  pub config_is : value (codes "config") ≡ Some words.config
  pub journal_is : value (codes "journal") ≡ Some words.journal
  pub listen_is : value (codes "listen") ≡ Some words.listen
  pub workers_are : value (codes "workers") ≡ Some (decimal words.workers)
  pub some_workers : IsUpTo most_workers words.workers
  pub connections_are : value (codes "connections") ≡ option_map decimal words.connections
  pub some_connections : ForSome words.connections (IsUpTo most_connections)
