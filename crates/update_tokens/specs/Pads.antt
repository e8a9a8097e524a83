-- A machine of the code: the pads of a key, kept as hashers that were fed them.
use Rattle.std.specs.Prelude.{ℕ, List}
use Rattle.sha2.specs.Hashers.{Holds256}
use Rattle.update_tokens.specs.declared.hash.Pads.{Pads}
use Rattle.update_tokens.specs.Hash.{key_block, padded_with}

-- the hashers of a key hold its inner and its outer pad, and nothing behind them
pub record ArePads (key : List ℕ) (pads : Pads) : Type 0 where
  pub inner : Holds256 pads.inner (padded_with 0x36 (key_block key))
  pub outer : Holds256 pads.outer (padded_with 0x5c (key_block key))
