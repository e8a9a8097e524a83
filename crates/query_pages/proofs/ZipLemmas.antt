-- Values that stand to others place by place.
use Rattle.std.proofs.Common.{◌≡◌, ◌<◌, ◌≤◌, ◌+◌, ℕ, zero, suc, List, [], ◌∷◌, ◌++◌, map, length, take, get_or, Some, None, refl, sym, ap, ◌∙◌, subst, inl, inr, arith}
use Rattle.std.proofs.lemmas.List.{map-append, take_more}
use Rattle.std.specs.List.{AllZip, slice_get}
use Rattle.verdict_lists.proofs.ListLemmas.{In}

pub zip_push : {X Y : Type 0} (so : X → Y → Type 0) (xs : List X) (ys : List Y) (x : X) (y : Y) → AllZip so xs ys → so x y
    → AllZip so (xs ++ x ∷ []) (ys ++ y ∷ [])
zip_push so [] [] x y h s = (s, tt)
zip_push so [] (b ∷ ys) x y h s = absurd h
zip_push so (a ∷ xs) [] x y h s = absurd h
zip_push so (a ∷ xs) (b ∷ ys) x y h s = (h.0, zip_push so xs ys x y h.1 s)

-- one value more, of a list of which so many stand to what was pushed
pub zip_more : {X Y Z : Type 0} (so : X → Y → Type 0) (f : Z → Y) (xs : List X) (i : ℕ) (d : X) (items more : List Z) (z : Z) → i < length xs
    → more ≡ items ++ z ∷ [] → AllZip so (take i xs) (map f items) → so (get_or xs i d) (f z) → AllZip so (take (i + 1) xs) (map f more)
zip_more {X} {Y} {Z} so f xs i d items more z within pushed h s =
    subst (λ l. AllZip so l (map f more)) (sym (take_more xs i d within))
    (subst (AllZip so (take i xs ++ get_or xs i d ∷ [])) (sym (ap (map f) pushed ∙ map-append f items (z ∷ [])))
    (zip_push so (take i xs) (map f items) (get_or xs i d) (f z) h s))

take_all : {X : Type 0} (xs : List X) (i : ℕ) → length xs ≤ i → take i xs ≡ xs
take_all [] zero h = refl
take_all [] (suc i) h = refl
take_all (x ∷ xs) zero h = absurd (omega arith)
take_all (x ∷ xs) (suc i) h = ap (λ l. x ∷ l) (take_all xs i (omega arith))

pub zip_all : {X Y : Type 0} (so : X → Y → Type 0) (xs : List X) (i : ℕ) (ys : List Y) → length xs ≤ i → AllZip so (take i xs) ys → AllZip so xs ys
zip_all so xs i ys h e = subst (λ l. AllZip so l ys) (take_all xs i h) e

pub zip_at : {X Y : Type 0} (so : X → Y → Type 0) (xs : List X) (ys : List Y) (k : ℕ) (x : X) (y : Y) → AllZip so xs ys → slice_get xs k ≡ Some x
    → slice_get ys k ≡ Some y → so x y
zip_at so [] ys k x y h e f = let never : None ≡ Some x = e in cc
zip_at so (a ∷ xs) [] k x y h e f = absurd h
zip_at {X} {Y} so (a ∷ xs) (b ∷ ys) zero x y h e f =
    let one : a ≡ x = cc in
    let two : b ≡ y = cc in
    subst (λ z. so z y) one (subst (so a) two h.0)
zip_at so (a ∷ xs) (b ∷ ys) (suc k) x y h e f = zip_at so xs ys k x y h.1 e f

-- what stands at a place of one list, and at that place of the other
pub zip_on : {X Y : Type 0} (so : X → Y → Type 0) (xs : List X) (ys : List Y) (k : ℕ) (x : X) → AllZip so xs ys → slice_get xs k ≡ Some x
    → (y : Y) × (slice_get ys k ≡ Some y) × so x y
zip_on so [] ys k x h e = let never : None ≡ Some x = e in cc
zip_on so (a ∷ xs) [] k x h e = absurd h
zip_on so (a ∷ xs) (b ∷ ys) zero x h e = let one : a ≡ x = cc in (b, refl, subst (λ z. so z b) one h.0)
zip_on so (a ∷ xs) (b ∷ ys) (suc k) x h e = zip_on so xs ys k x h.1 e

pub zip_back : {X Y : Type 0} (so : X → Y → Type 0) (xs : List X) (ys : List Y) (k : ℕ) (y : Y) → AllZip so xs ys → slice_get ys k ≡ Some y
    → (x : X) × (slice_get xs k ≡ Some x) × so x y
zip_back so [] [] k y h e = let never : None ≡ Some y = e in cc
zip_back so [] (b ∷ ys) k y h e = absurd h
zip_back so (a ∷ xs) [] k y h e = absurd h
zip_back so (a ∷ xs) (b ∷ ys) zero y h e = let two : b ≡ y = cc in (a, refl, subst (so a) two h.0)
zip_back so (a ∷ xs) (b ∷ ys) (suc k) y h e = zip_back so xs ys k y h.1 e

pub zip_once : {X : Type 0} (so : X → X → Type 0) (xs : List X) → ((x : X) → so x x) → AllZip so xs xs
zip_once so [] f = tt
zip_once so (x ∷ xs) f = (f x, zip_once so xs f)

-- a function that takes both values to the same takes both lists to the same
pub zip_map : {X Y : Type 0} (so : X → X → Type 0) (f : X → Y) (xs ys : List X) → ((a b : X) → so a b → f a ≡ f b) → AllZip so xs ys → map f xs ≡ map f ys
zip_map so f [] [] g h = refl
zip_map so f [] (b ∷ ys) g h = absurd h
zip_map so f (a ∷ xs) [] g h = absurd h
zip_map so f (a ∷ xs) (b ∷ ys) g h = ap (λ z. z ∷ map f xs) (g a b h.0) ∙ ap (λ zs. f b ∷ zs) (zip_map so f xs ys g h.1)

-- two lists whose values are the same, place by place, are one
pub zip_same : {X Y : Type 0} (so also : X → Y → Type 0) (xs : List X) (ys zs : List Y) → ((x : X) (y z : Y) → so x y → also x z → y ≡ z)
    → AllZip so xs ys → AllZip also xs zs → ys ≡ zs
zip_same so also [] [] [] f h k = refl
zip_same so also [] [] (z ∷ zs) f h k = absurd k
zip_same so also [] (y ∷ ys) zs f h k = absurd h
zip_same so also (x ∷ xs) [] zs f h k = absurd h
zip_same so also (x ∷ xs) (y ∷ ys) [] f h k = absurd k
zip_same so also (x ∷ xs) (y ∷ ys) (z ∷ zs) f h k = ap (λ a. a ∷ ys) (f x y z h.0 k.0) ∙ ap (λ as_. z ∷ as_) (zip_same so also xs ys zs f h.1 k.1)

-- each value has one that it stands to
pub zip_there : {X Y : Type 0} (so : X → Y → Type 0) (xs : List X) → ((x : X) → In x xs → (y : Y) × so x y) → (ys : List Y) × AllZip so xs ys
zip_there so [] f = ([], tt)
zip_there so (x ∷ xs) f =
    let own = f x (inl refl) in
    let rest = zip_there so xs (λ y i. f y (inr i)) in
    (own.0 ∷ rest.0, (own.1, rest.1))
