-- What holds of the table between any two steps.
use Rattle.std.specs.Prelude.{◌≡◌, ◌⊎◌, ℕ, ◌+◌, ◌<◌, ◌≤◌, List, [], ◌∷◌, ◌++◌, map, length, Option, Some, None}
use mathlib.Core.Option.{Option as Maybe, none, some}
use lib.ListN.{get_elem?}
use Rattle.atomic_table.specs.Table.{State, Me}
use Rattle.atomic_table.specs.Seated.{TableId}
use Rattle.turnstile.specs.declared.board.Known.{Known}
use Rattle.turnstile.specs.declared.board.View.{View}
use Rattle.turnstile.specs.declared.board.Role.{Role}
use Rattle.turnstile.specs.declared.board.Role.TheVariants.{Idle, Waits, Holds, Ends}
use Rattle.turnstile.specs.Histories.{times, Begins, AtMost}
use Rattle.turnstile.specs.Seats.{names}

-- a word of tickets drawn, a word of turns passed, and one slot
abbrev pub HasShape : TableId → Type 0
HasShape z = (z.words ≡ 2) × (z.slots ≡ 1)

-- a seat at this table
abbrev pub IsOf : TableId → TableId → Type 0
IsOf seat table = (seat ≡ table) × HasShape table

-- ---- views

-- no seat is so
abbrev pub blank : {E : Type 0} → Known E
blank = record { number = 0; splits = 0; drawn = 0; ended = []; seen = [] }

abbrev pub first_of : {E : Type 0} → List (Known E) → Known E
first_of [] = blank
first_of (k ∷ ks) = k

abbrev pub own_of : {E : Type 0} → View E → Known E
own_of v = first_of v.known

abbrev pub role_of : {E : Type 0} → View E → Role
role_of v = v.role

abbrev pub idle : {E : Type 0} → Known E → View E
idle k = record { role = Idle; known = k ∷ [] }

abbrev pub waiting : {E : Type 0} → ℕ → Known E → View E
waiting t k = record { role = Waits t; known = k ∷ [] }

abbrev pub holding : {E : Type 0} → ℕ → Known E → View E
holding t k = record { role = Holds t; known = k ∷ [] }

abbrev pub ending : {E : Type 0} → ℕ → Known E → View E
ending t k = record { role = Ends t; known = k ∷ [] }

-- the view of a seat that was joined into another one
abbrev pub gone : {E : Type 0} → View E
gone = record { role = Idle; known = [] }

-- an idle seat with this number, which may split off so many
pub record IsSeat {S E : Type 0} (number splits : ℕ) (me : Me S (View E)) : Type 0 where
  pub is_idle : me ≡ (idle (own_of me.0), [])
  pub number_is : (own_of me.0).number ≡ number
  pub splits_are : (own_of me.0).splits ≡ splits
  pub few : splits ≤ 4294967296
  pub low : (own_of me.0).drawn ≤ 9223372036854775808

-- ---- tickets

abbrev pub ticket_of : Role → Option ℕ
ticket_of Idle = None
ticket_of (Waits t) = Some t
ticket_of (Holds t) = Some t
ticket_of (Ends t) = Some t

-- the ticket whose turn the role knows that it is
abbrev pub turn_of : Role → Option ℕ
turn_of Idle = None
turn_of (Waits t) = None
turn_of (Holds t) = Some t
turn_of (Ends t) = Some t

abbrev pub tickets_of : Role → ℕ
tickets_of Idle = 0
tickets_of (Waits t) = 1
tickets_of (Holds t) = 1
tickets_of (Ends t) = 1

abbrev pub HasTicket : List Role → ℕ → ℕ → Type 0
HasTicket roles i t = (r : Role) × (get_elem? roles i ≡ some r) × (ticket_of r ≡ Some t)

abbrev pub HasTurn : List Role → ℕ → ℕ → Type 0
HasTurn roles i t = (r : Role) × (get_elem? roles i ≡ some r) × (turn_of r ≡ Some t)

-- the numbers of all of them, added up
abbrev pub total : {A : Type 0} → (A → ℕ) → List A → ℕ
total f [] = 0
total f (x ∷ xs) = f x + total f xs

-- Tickets are different, lie between the turns passed and the tickets drawn, and are as many. Who
-- knows that it is its turn has the next one
pub record IsFair (drawn passed : ℕ) (roles : List Role) : Type 0 where
  pub room : drawn ≤ 9223372036854775809
  pub many : passed + total tickets_of roles ≡ drawn
  pub tickets : (i t : ℕ) → HasTicket roles i t → (passed ≤ t) × (t < drawn)
  pub turn : (i t : ℕ) → HasTurn roles i t → t ≡ passed
  pub apart : (i j t : ℕ) → HasTicket roles i t → HasTicket roles j t → i ≡ j

-- ---- where the value is

-- the value is out with the one that has the turn, or it was taken for good, and the slot is empty
abbrev pub IsTaken : {T : Type 0} → List (Maybe (Option T)) → Role → Type 0
IsTaken homes Idle = ⊥
IsTaken homes (Waits t) = ⊥
IsTaken homes (Holds t) = homes ≡ none ∷ []
IsTaken homes (Ends t) = homes ≡ some None ∷ []

-- the value is at home and stands for the history, or one that has the turn has taken it
abbrev pub IsPlaced : {T E : Type 0} → (T → List E → Type 0) → List (Maybe (Option T))
    → List Role → List E → Type 0
IsPlaced {T} stands homes roles log =
    ((v : T) × (homes ≡ some (Some v) ∷ []) × stands v log × ((i t : ℕ) → ¬ HasTurn roles i t))
    ⊎ ((i : ℕ) × (r : Role) × (get_elem? roles i ≡ some r) × IsTaken homes r)

-- ---- numbers, and what seats know

abbrev pub all_names : {E : Type 0} → List (Known E) → List ℕ
all_names [] = []
all_names (k ∷ ks) = names k ++ all_names ks

-- how often the number is a seat's own or an ended one
abbrev pub count : {E : Type 0} → ℕ → List (View E) → ℕ
count n views = total (λ v. times n (all_names v.known)) views

-- each number is there once at most, and numbers not yet split off are not there
abbrev pub HasNumbers : {E : Type 0} → ℕ → List (View E) → Type 0
HasNumbers split views = (n : ℕ) → (count n views ≤ 1) × (split < n → count n views ≡ 0)

-- What a seat knows is true, where so many tickets were drawn and so many seats split off, and this
-- is the history
pub record Knows {E : Type 0} (by : E → ℕ) (drawn split : ℕ) (log : List E)
    (k : Known E) : Type 0 where
  pub found : k.drawn ≤ drawn
  pub low : k.number ≤ split
  pub splitter : 0 < k.splits → k.number ≡ 0
  pub first : k.number ≡ 0 → split + k.splits ≡ 4294967296
  pub seen : Begins by (names k) log k.seen

abbrev pub AllKnow : {E : Type 0} → (E → ℕ) → ℕ → ℕ → List E → List (Known E) → Type 0
AllKnow by drawn split log [] = Unit {0}
AllKnow by drawn split log (k ∷ ks) = Knows by drawn split log k × AllKnow by drawn split log ks

-- and in its turn a seat knows the whole history
abbrev pub ViewKnows : {E : Type 0} → (E → ℕ) → ℕ → ℕ → List E → View E → Type 0
ViewKnows by drawn split log v =
    AllKnow by drawn split log v.known × ((t : ℕ) → turn_of v.role ≡ Some t → (own_of v).seen ≡ log)

pub record Kept {T E : Type 0} (stands : T → List E → Type 0) (by : E → ℕ)
    (s : State (Option T) (View E)) : Type 0 where
  pub drawn : ℕ
  pub passed : ℕ
  pub split : ℕ
  pub log : List E
  pub words : s.words ≡ drawn ∷ passed ∷ []
  pub long : length log ≡ passed
  pub fair : IsFair drawn passed (map role_of s.views)
  pub placed : IsPlaced stands s.homes (map role_of s.views) log
  pub numbers : HasNumbers split s.views
  pub older : AtMost by split log
  pub knows : (i : ℕ) (v : View E) → get_elem? s.views i ≡ some v → ViewKnows by drawn split log v
