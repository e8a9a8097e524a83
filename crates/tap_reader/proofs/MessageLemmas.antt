-- Lists that are written as far as there is room.
use Rattle.std.proofs.Common.{◌≡◌, ℕ, zero, suc, ◌+◌, ◌-◌, ◌*◌, ◌≤◌, false, List, [], ◌∷◌, ◌++◌, length, map, take, drop, refl, sym, ap, ◌∙◌, append_assoc, arith}
use Rattle.std.specs.Prelude.{◌==◌}
use Rattle.std.specs.List.{join_with_byte}
use Rattle.std.proofs.lemmas.Bool.Decides.{nat_tests}
use Rattle.std.proofs.Math.Seq.{take-append-add}
use Rattle.std.proofs.lemmas.List.{length-append, length-map, length-take-le, map-append, take_all}
use Rattle.tap_reader.specs.Cases.{unindented}
use Rattle.tap_reader.specs.MessageWords.{front_of, parted}
use Rattle.tap_reader.proofs.ReadingLemmas.{take_push}

pub front_fits : (xs ys : List ℕ) (n : ℕ) → length xs ≤ n → length ys ≤ n - length xs → take n (xs ++ ys) ≡ xs ++ ys
front_fits xs ys n h k = take_all n (xs ++ ys) (omega (arith, length-append xs ys))

pub front_cut : (xs ys : List ℕ) (n : ℕ) → length xs ≤ n → take n (xs ++ ys) ≡ xs ++ take (n - length xs) ys
front_cut xs ys n h =
    ap (λ k. take k (xs ++ ys)) (let e : n ≡ length xs + (n - length xs) = omega arith in e) ∙ take-append-add xs ys (n - length xs)

pub take_again : (n : ℕ) (xs ys : List ℕ) → take n (take n xs ++ ys) ≡ take n (xs ++ ys)
take_again zero xs ys = refl
take_again (suc n) [] ys = refl
take_again (suc n) (x ∷ xs) ys = ap (λ l. x ∷ l) (take_again n xs ys)

pub take_both : (n : ℕ) (xs ys zs : List ℕ) → take n (take n (xs ++ ys) ++ zs) ≡ take n (xs ++ (ys ++ zs))
take_both n xs ys zs = take_again n (xs ++ ys) zs ∙ ap (take n) (append_assoc xs ys zs)

parted_some : (n : ℕ) (y : List ℕ) → parted (suc n == 0) y ≡ 10 ∷ y
parted_some n y = let e : (suc n == 0) ≡ false = grind (arith, nat_tests) in rw e refl

join_push : (xs : List (List ℕ)) (y : List ℕ) → join_with_byte 10 (xs ++ y ∷ []) ≡ join_with_byte 10 xs ++ parted (length xs == 0) y
join_push [] y = refl
join_push (x ∷ []) y = ap (λ l. x ++ l) (sym (parted_some 0 y))
join_push (x ∷ z ∷ zs) y =
    ap (λ l. x ++ (10 ∷ l)) (join_push (z ∷ zs) y ∙ ap (λ l. join_with_byte 10 (z ∷ zs) ++ l) (parted_some (length zs) y))
    ∙ sym (append_assoc x (10 ∷ join_with_byte 10 (z ∷ zs)) (10 ∷ y))
    ∙ ap (λ l. (x ++ (10 ∷ join_with_byte 10 (z ∷ zs))) ++ l) (sym (parted_some (length (z ∷ zs)) y))

-- the front of one line more
pub front_push : (level at : ℕ) (ls : List (List ℕ)) (line : List ℕ) (rest : List (List ℕ)) → line ∷ rest ≡ drop at ls → at ≤ length ls → take 1024 (front_of level (take at ls) ++ parted (at == 0) (unindented (4 * level + 2) line)) ≡ front_of level (take (at + 1) ls)
front_push level at ls line rest e within =
    let u = unindented (4 * level + 2) in
    let ms = map u (take at ls) in
    let len : length ms ≡ at = length-map (take at ls) u ∙ length-take-le at ls within in
    take_again 1024 (join_with_byte 10 ms) (parted (at == 0) (u line))
    ∙ ap (λ k. take 1024 (join_with_byte 10 ms ++ parted (k == 0) (u line))) (sym len)
    ∙ ap (take 1024) (sym (join_push ms (u line)))
    ∙ ap (λ xs. take 1024 (join_with_byte 10 xs)) (sym (map-append u (take at ls) (line ∷ [])))
    ∙ ap (λ xs. front_of level xs) (sym (take_push at ls line rest e))
