-- What was asked, and what was told.
use Rattle.std.specs.Prelude.{List}
use Rattle.call_forms.specs.declared.asked.Asked.{Asked}
use Rattle.call_forms.specs.declared.forms.Told.{Told}

pub record Exchange : Type 0 where
  pub asked : Asked
  pub told : Told

-- It stands for some list of exchanges, from some start.
abbrev pub StandsForSome : {T : Type 0} → (T → T → List Exchange → Type 0) → T → Type 0
StandsForSome {T} stands now = (first : T) × (before : List Exchange) × stands first now before
