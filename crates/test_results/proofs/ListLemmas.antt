-- Lists of places, and the room in them.
use Rattle.std.proofs.Common.{◌≡◌, ◌≢◌, ◌<◌, ◌≤◌, ◌+◌, ℕ, zero, suc, List, [], ◌∷◌, ◌++◌, length, map, get_or, set, min, Result, Ok, Err, refl, sym, ap, ◌∙◌, subst, arith}
use Rattle.std.specs.Result.{OnOk}

-- the least value past the end is no more than any
pub zero_past_end : {X : Type 0} (f : X → ℕ) (xs : List X) (x : X) (k : ℕ) → get_or (map f xs) k 0 ≤ get_or (map f (xs ++ x ∷ [])) k 0
zero_past_end f [] x k = omega arith
zero_past_end f (y ∷ ys) x zero = omega arith
zero_past_end f (y ∷ ys) x (suc k) = zero_past_end f ys x k

-- one value is another
pub mapped_same : {X Y : Type 0} (f : X → Y) (xs : List X) (i : ℕ) (x : X) (d : Y) → i < length xs → get_or (map f (set xs i x)) i d ≡ f x
mapped_same f [] i x d within = absurd (omega arith)
mapped_same f (y ∷ ys) zero x d within = refl
mapped_same f (y ∷ ys) (suc i) x d within = mapped_same f ys i x d (omega arith)

pub mapped_other : {X Y : Type 0} (f : X → Y) (xs : List X) (i k : ℕ) (x : X) (d : Y) → k ≢ i → get_or (map f (set xs i x)) k d ≡ get_or (map f xs) k d
mapped_other f [] i k x d other = refl
mapped_other f (y ∷ ys) zero zero x d other = absurd (other refl)
mapped_other f (y ∷ ys) zero (suc k) x d other = refl
mapped_other f (y ∷ ys) (suc i) zero x d other = refl
mapped_other f (y ∷ ys) (suc i) (suc k) x d other = mapped_other f ys i k x d (λ e. other (ap suc e))

pub mapped_at : {X Y : Type 0} (f : X → Y) (xs : List X) (k : ℕ) (x : X) (d : Y) → k < length xs → x ≡ get_or xs k x → get_or (map f xs) k d ≡ f x
mapped_at f [] k x d within e = absurd (omega arith)
mapped_at f (y ∷ ys) zero x d within e = ap f (sym e)
mapped_at f (y ∷ ys) (suc k) x d within e = mapped_at f ys k x d (omega arith) e

-- room where there is some is within the list
pub room_within : {X : Type 0} (f : X → ℕ) (xs : List X) (k : ℕ) → 0 < get_or (map f xs) k 0 → k < length xs
room_within f [] k room = absurd (omega arith)
room_within f (y ∷ ys) zero room = omega arith
room_within f (y ∷ ys) (suc k) room = let h = room_within f ys k room in omega arith

-- a value more, which is what a list has past its end
pub past_mapped : {X Y : Type 0} (f : X → Y) (xs : List X) (x : X) (d : Y) → f x ≡ d → (k : ℕ) → get_or (map f (xs ++ x ∷ [])) k d ≡ get_or (map f xs) k d
past_mapped f [] x d e zero = e
past_mapped f [] x d e (suc k) = refl
past_mapped f (y ∷ ys) x d e zero = refl
past_mapped f (y ∷ ys) x d e (suc k) = past_mapped f ys x d e k

-- the room in each list, when one list has as much as before, or one less
pub room_kept : {X : Type 0} (f : X → ℕ) (xs : List X) (i : ℕ) (old new : X) → old ≡ get_or xs i old → f old ≤ f new
    → (k : ℕ) → get_or (map f xs) k 0 ≤ get_or (map f (set xs i new)) k 0
room_kept f [] i old new e h k = omega arith
room_kept f (y ∷ ys) zero old new e h zero = subst (λ z. f z ≤ f new) e h
room_kept f (y ∷ ys) zero old new e h (suc k) = omega arith
room_kept f (y ∷ ys) (suc i) old new e h zero = omega arith
room_kept f (y ∷ ys) (suc i) old new e h (suc k) = room_kept f ys i old new e h k

pub room_used : {X : Type 0} (f : X → ℕ) (xs : List X) (i : ℕ) (old new : X) → old ≡ get_or xs i old → f old ≤ f new + 1
    → (k : ℕ) → get_or (map f xs) k 0 ≤ get_or (map f (set xs i new)) k 0 + 1
room_used f [] i old new e h k = omega arith
room_used f (y ∷ ys) zero old new e h zero = subst (λ z. f z ≤ f new + 1) e h
room_used f (y ∷ ys) zero old new e h (suc k) = omega arith
room_used f (y ∷ ys) (suc i) old new e h zero = omega arith
room_used f (y ∷ ys) (suc i) old new e h (suc k) = room_used f ys i old new e h k

-- one value is another with the same image
pub mapped_kept : {X Y : Type 0} (f : X → Y) (xs : List X) (i : ℕ) (old new : X) (d : Y) → old ≡ get_or xs i old → f new ≡ f old
    → (k : ℕ) → get_or (map f (set xs i new)) k d ≡ get_or (map f xs) k d
mapped_kept f [] i old new d e h k = refl
mapped_kept f (y ∷ ys) zero old new d e h zero = h ∙ ap f e
mapped_kept f (y ∷ ys) zero old new d e h (suc k) = refl
mapped_kept f (y ∷ ys) (suc i) old new d e h zero = refl
mapped_kept f (y ∷ ys) (suc i) old new d e h (suc k) = mapped_kept f ys i old new d e h k

-- what follows where a call answers Ok
pub on_ok : {T E : Type 0} (result : Result T E) (P Q : Type 0) → OnOk result P → (P → Q) → OnOk result Q
on_ok (Ok x) P Q p f = f p
on_ok (Err e) P Q p f = p

pub capped_room : (spare : ℕ) (rooms : List ℕ) (k : ℕ) → get_or (map (λ (room : ℕ). min spare room) rooms) k 0 ≡ min spare (get_or rooms k 0)
capped_room spare [] k = omega arith
capped_room spare (room ∷ rooms) zero = refl
capped_room spare (room ∷ rooms) (suc k) = capped_room spare rooms k
