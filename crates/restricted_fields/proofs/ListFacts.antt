-- Lists whose values stand to each other place by place.
use Rattle.std.proofs.Common.{◌≡◌, ◌+◌, suc, Bool, true, inl, inr, not, cond, List, [], ◌∷◌, length, Some, None, refl, sym, ap, ◌∙◌, subst, nat_lt}
use Rattle.std.specs.List.{AllZip, find, position, position_or_len, prefix_len}
use Rattle.std.proofs.lemmas.Bool.{cases_Bool}

pub zip_as : {X Y : Type 0} (so also : X → Y → Type 0) (xs : List X) (ys : List Y) → ((x : X) (y : Y) → so x y → also x y)
    → AllZip so xs ys → AllZip also xs ys
zip_as so also [] [] f h = tt
zip_as so also [] (y ∷ ys) f h = absurd h
zip_as so also (x ∷ xs) [] f h = absurd h
zip_as so also (x ∷ xs) (y ∷ ys) f h = (f x y h.0, zip_as so also xs ys f h.1)

zip_length : {X Y : Type 0} (so : X → Y → Type 0) (xs : List X) (ys : List Y) → AllZip so xs ys → length xs ≡ length ys
zip_length so [] [] h = refl
zip_length so [] (y ∷ ys) h = absurd h
zip_length so (x ∷ xs) [] h = absurd h
zip_length so (x ∷ xs) (y ∷ ys) h = ap suc (zip_length so xs ys h.1)

zip_prefix : {X : Type 0} (so : X → X → Type 0) (test : X → Bool) (xs ys : List X) → ((a b : X) → so a b → test a ≡ test b)
    → AllZip so xs ys → prefix_len test xs ≡ prefix_len test ys
zip_prefix so test [] [] f h = refl
zip_prefix so test [] (y ∷ ys) f h = absurd h
zip_prefix so test (x ∷ xs) [] f h = absurd h
zip_prefix so test (x ∷ xs) (y ∷ ys) f h =
    ap (λ (b : Bool). cond b (1 + prefix_len test xs) 0) (f x y h.0)
    ∙ ap (λ n. cond (test y) (1 + n) 0) (zip_prefix so test xs ys f h.1)

-- the first value that passes a test stands at one place in both
pub zip_position : {X : Type 0} (so : X → X → Type 0) (test : X → Bool) (xs ys : List X) → ((a b : X) → so a b → test a ≡ test b)
    → AllZip so xs ys → position test xs ≡ position test ys
zip_position so test xs ys f h =
    let before = zip_prefix so (λ x. not (test x)) xs ys (λ a b s. ap not (f a b s)) h in
    ap (λ n. cond (nat_lt n (length xs)) (Some n) None) before
    ∙ ap (λ n. cond (nat_lt (position_or_len test ys) n) (Some (position_or_len test ys)) None) (zip_length so xs ys h)

-- what is found passes
pub found_passes : {X : Type 0} (test : X → Bool) (xs : List X) (x : X) → find test xs ≡ Some x → test x ≡ true
found_passes test [] x e = let never : None ≡ Some x = e in absurd cc
found_passes {X} test (y ∷ ys) x e = elim (cases_Bool (test y)) [
  | inl yes_ ↦
      let here : Some y ≡ Some x = sym (ap (λ (b : Bool). cond b (Some y) (find test ys)) yes_) ∙ e in
      let same : y ≡ x = cc in
      subst (λ (z : X). test z ≡ true) same yes_
  | inr no_ ↦ found_passes test ys x (sym (ap (λ (b : Bool). cond b (Some y) (find test ys)) no_) ∙ e)
]
