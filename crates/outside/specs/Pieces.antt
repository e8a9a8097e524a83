-- Bytes that wait to be read, in pieces.
use Rattle.std.specs.Prelude.{ℕ, List, [], ◌∷◌, drop}

-- The pieces with one in front, which is passed over where it is empty.
abbrev pub put_front : List ℕ → List (List ℕ) → List (List ℕ)
put_front [] pieces = pieces
put_front (b ∷ bs) pieces = (b ∷ bs) ∷ pieces

-- The pieces that aren't empty.
abbrev pub without_empty : List (List ℕ) → List (List ℕ)
without_empty [] = []
without_empty (piece ∷ pieces) = put_front piece (without_empty pieces)

-- The first piece, which is what a read can give.
abbrev pub first_piece : List (List ℕ) → List ℕ
first_piece [] = []
first_piece (piece ∷ pieces) = piece

-- The pieces when so many bytes of the first were read.
abbrev pub pieces_after : ℕ → List (List ℕ) → List (List ℕ)
pieces_after count [] = []
pieces_after count (piece ∷ pieces) = put_front (drop count piece) pieces
