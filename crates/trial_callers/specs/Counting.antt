-- What is counted of calls.
use Rattle.std.specs.Prelude.{◌≡◌, ℕ, ◌+◌, ◌==◌, ◌&&◌, Bool, true, false, if◌then◌else◌, List, [], ◌∷◌, ◌++◌, length, filter, bytes_eq}
use Rattle.call_forms.specs.declared.forms.Standin.TheVariants.{Memory, Spent, Unavailable}
use Rattle.call_forms.specs.declared.forms.Told.{Told}
use Rattle.call_forms.specs.declared.forms.Told.TheVariants.{Made, Standin as Instead}
use Rattle.tellers.specs.Exchange.{Exchange}
use Rattle.trial_callers.specs.declared.counts.Heard.{Heard}

-- whether a call had a turn: whether it was told anything but that none is left
abbrev pub had_turn : Told → Bool
had_turn (Made answer) = true
had_turn (Instead Unavailable) = true
had_turn (Instead Memory) = true
had_turn (Instead Spent) = false

-- those that had one
abbrev pub had_turns : List Exchange → List Exchange
had_turns exchanges = filter (λ x. had_turn x.told) exchanges

-- whether a call was accepted
abbrev pub is_accepted : Told → Bool
is_accepted (Made answer) = answer.status == 200
is_accepted (Instead standin) = false

-- whether both have a body, and the same one
abbrev pub has_body_of : Told → Told → Bool
has_body_of (Made one) (Made other) = bytes_eq one.body other.body
has_body_of (Made one) (Instead standin) = false
has_body_of (Instead standin) other = false

-- whether both were accepted, and show the same
abbrev pub shows_same : Told → Told → Bool
shows_same told other = (is_accepted told && is_accepted other) && has_body_of told other

-- what the last of some calls was told, if there is one
abbrev pub last_told : List Exchange → Told
last_told [] = Instead Memory
last_told (x ∷ []) = x.told
last_told (x ∷ y ∷ more) = last_told (y ∷ more)

-- Counted of creations, and of reads behind them: how many calls there were, how many of them had
-- a turn, how many creations were accepted, and how many reads showed just what the last creation
-- did.
pub record Counts (heard : Heard) (creations reads : List Exchange) : Type 0 where
  pub calls : heard.calls ≡ length creations + length reads
  pub turns : heard.turns ≡ length (had_turns creations) + length (had_turns reads)
  pub created : heard.created ≡ length (filter (λ x. is_accepted x.told) creations)
  pub own : heard.own ≡ length (filter (λ x. shows_same x.told (last_told creations)) reads)

-- Between one state of a teller and another it was asked just these exchanges: where it stood for
-- some before them, it now stands for those and these.
abbrev pub WasAsked : {T : Type 0} → (T → T → List Exchange → Type 0) → T → T → List Exchange
    → Type 0
WasAsked {T} stands old new exchanges =
    (first : T) (before : List Exchange) → stands first old before
    → stands first new (before ++ exchanges)

-- A teller was asked creations, and reads behind them, and this was counted.
pub record IsCounted {T : Type 0} (stands : T → T → List Exchange → Type 0) (old new : T)
    (heard : Heard) : Type 0 where
  pub creations : List Exchange
  pub reads : List Exchange
  pub asked : WasAsked stands old new (creations ++ reads)
  pub counts : Counts heard creations reads

-- A teller was asked just these exchanges in between, which were counted, and so were those of them
-- that had a turn.
pub record HasAskedAll {T : Type 0} (stands : T → T → List Exchange → Type 0) (old new : T)
    (heard : Heard) : Type 0 where
  pub exchanges : List Exchange
  pub asked : WasAsked stands old new exchanges
  pub calls : heard.calls ≡ length exchanges
  pub turns : heard.turns ≡ length (had_turns exchanges)

-- one where it is so
abbrev pub one_if : Bool → ℕ
one_if is = if is then 1 else 0

abbrev pub turn_of : Told → ℕ
turn_of told = one_if (had_turn told)
