-- A wire as contracts see it.
use Rattle.std.specs.Prelude.{ℕ, Bool, List}

-- the bytes that were read and aren't answered yet, and whether more messages may come
pub record WireState : Type 0 where
  pub held : List ℕ
  pub is_open : Bool
