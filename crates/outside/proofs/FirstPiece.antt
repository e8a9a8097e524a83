-- A read of pieces, by the piece at hand and the others.
use Rattle.std.proofs.Common.{◌≡◌, ◌<◌, refl, sym, ◌∙◌, ap, ℕ, zero, suc, List, [], ◌∷◌, ◌++◌, length, take, drop, min, append_assoc, arith}
use Rattle.std.proofs.lemmas.List.{take-append-drop}
use Rattle.std.specs.List.{concat}
use Rattle.outside.specs.Pieces.{put_front, without_empty, first_piece, pieces_after}

-- The piece at hand is the first of those that aren't empty.
pub first_is : (current : List ℕ) (others pieces : List (List ℕ)) → without_empty (current ∷ others) ≡ pieces
    → (current ≡ [] → others ≡ []) → first_piece pieces ≡ current
first_is [] others pieces same passed =
    ap first_piece (sym same ∙ ap without_empty (passed refl))
first_is (b ∷ bs) others pieces same passed = ap first_piece (sym same)

drop_of_nothing : (n : ℕ) → drop n (let none : List ℕ = [] in none) ≡ []
drop_of_nothing zero = refl
drop_of_nothing (suc n) = refl

pub after_is : (current : List ℕ) (others pieces : List (List ℕ)) (count : ℕ) → without_empty (current ∷ others) ≡ pieces
    → (current ≡ [] → others ≡ []) → without_empty (drop count current ∷ others) ≡ pieces_after count pieces
after_is [] others pieces count same passed =
    let none : without_empty others ≡ [] = ap without_empty (passed refl) in
    ap (λ p. put_front p (without_empty others)) (drop_of_nothing count)
    ∙ (none ∙ ap (pieces_after count) (sym none ∙ same))
after_is (b ∷ bs) others pieces count same passed = ap (pieces_after count) same

-- Where there is no first piece there is none at all, since empty ones are passed over.
pub end_is : (pieces : List (List ℕ)) → first_piece (without_empty pieces) ≡ [] → without_empty pieces ≡ []
end_is [] none = refl
end_is ([] ∷ pieces) none = end_is pieces none
end_is ((b ∷ bs) ∷ pieces) none = cc

put_front_joins : (piece : List ℕ) (pieces : List (List ℕ)) → concat (put_front piece pieces) ≡ piece ++ concat pieces
put_front_joins [] pieces = refl
put_front_joins (b ∷ bs) pieces = refl

take_of_nothing : (n : ℕ) → take n (let none : List ℕ = [] in none) ≡ []
take_of_nothing zero = refl
take_of_nothing (suc n) = refl

-- What a read gave and what is left behind it are what was left before.
pub gave_of_first : (pieces : List (List ℕ)) (given : List ℕ) (count : ℕ) → given ≡ take count (first_piece pieces)
    → concat pieces ≡ given ++ concat (pieces_after count pieces)
gave_of_first [] given count e = sym (rw (e, take_of_nothing count) refl)
gave_of_first (piece ∷ pieces) given count e =
    rw (e, put_front_joins (drop count piece) pieces)
    (rw (← append_assoc) (rw (take-append-drop count piece) refl))

pub nothing_given : (piece room : List ℕ) (count : ℕ) → count ≡ min (length piece) (length room) → count ≡ 0
    → 0 < length room → piece ≡ []
nothing_given [] room count e none some = refl
nothing_given (b ∷ bs) room count e none some = absurd (omega arith)
