-- The lines of a text, one more at a time.
use Rattle.std.proofs.Common.{◌≡◌, ◌≢◌, ◌∙◌, ℕ, ◌<◌, false, List, [], ◌∷◌, ◌++◌, length, get_or, refl, sym, ap, subst, eqb, All, inl, inr, Option, None, Bor, lit<}
use Rattle.std.proofs.lemmas.Grind.{flat_map-append}
use Rattle.std.proofs.lemmas.List.{append_assoc, append-nil}
use Rattle.std.proofs.lemmas.List.Elements.{All-nil, All-cons, All-append, All-from_get_or}
use Rattle.std.proofs.lemmas.Str.Pattern.{IsSplitOnceResult, split_parts}
use Rattle.line_tables.specs.Rows.{IsRow, Row, IsPrinted, PrintsRows, lines_of, printed_of}

-- Rows of the front of a text that were printed, up to the rest.
pub record ToldSoFar (tells : List ℕ → List ℕ → Type 0) (text rest printed : List ℕ) : Type 0 where
  pub rows : List Row
  pub lines : text ≡ lines_of rows ++ rest
  pub told : All (IsPrinted tells) rows
  pub whole : printed ≡ printed_of rows

pub told_none : (tells : List ℕ → List ℕ → Type 0) (text : List ℕ) → ToldSoFar tells text text []
told_none tells text = record { rows = []; lines = refl; told = All-nil (IsPrinted tells); whole = refl }

abbrev row_of : List ℕ → List ℕ → Row
row_of line printed = record { line = line; printed = printed }

lines_snoc : (rows : List Row) (line printed : List ℕ) → lines_of (rows ++ row_of line printed ∷ []) ≡ lines_of rows ++ (line ++ 10 ∷ [])
lines_snoc rows line printed =
    flat_map-append (λ (row : Row). row.line ++ 10 ∷ []) rows (row_of line printed ∷ [])
    ∙ ap (λ xs. lines_of rows ++ xs) (append-nil (line ++ 10 ∷ []))

printed_snoc : (rows : List Row) (line printed : List ℕ) → printed_of (rows ++ row_of line printed ∷ []) ≡ printed_of rows ++ printed
printed_snoc rows line printed =
    flat_map-append (λ (row : Row). row.printed) rows (row_of line printed ∷ [])
    ∙ ap (λ xs. printed_of rows ++ xs) (append-nil printed)

one_told : (tells : List ℕ → List ℕ → Type 0) (row : Row) → All (λ b. b ≢ 10) row.line → IsRow tells row.line row.printed
    → All (IsPrinted tells) (row ∷ [])
one_told tells row lacks is = All-cons (IsPrinted tells) row [] (lacks, is) (All-nil (IsPrinted tells))

pub told_more : (tells : List ℕ → List ℕ → Type 0) (text rest printed line behind row : List ℕ) → ToldSoFar tells text rest printed
    → rest ≡ line ++ 10 ∷ behind → All (λ b. b ≢ 10) line → IsRow tells line row → ToldSoFar tells text behind (printed ++ row)
told_more tells text rest printed line behind row so cut lacks is =
    let more = so.rows ++ row_of line row ∷ [] in
    record {
      rows = more;
      lines = so.lines ∙ ap (λ xs. lines_of so.rows ++ xs) (cut ∙ sym (append_assoc line (10 ∷ []) behind))
          ∙ sym (append_assoc (lines_of so.rows) (line ++ 10 ∷ []) behind)
          ∙ ap (λ xs. xs ++ behind) (sym (lines_snoc so.rows line row));
      told = All-append (IsPrinted tells) so.rows (row_of line row ∷ []) so.told (one_told tells (row_of line row) lacks is);
      whole = ap (λ xs. xs ++ row) so.whole ∙ sym (printed_snoc so.rows line row);
    }

pub told_all : (tells : List ℕ → List ℕ → Type 0) (text rest printed : List ℕ) → ToldSoFar tells text rest printed → rest ≡ []
    → PrintsRows tells text printed
told_all tells text rest printed so none = record {
  rows = so.rows;
  lines = inl (so.lines ∙ ap (λ xs. lines_of so.rows ++ xs) none ∙ append-nil (lines_of so.rows));
  told = so.told;
  whole = so.whole;
}

pub told_last : (tells : List ℕ → List ℕ → Type 0) (text rest printed row : List ℕ) → ToldSoFar tells text rest printed → rest ≢ []
    → All (λ b. b ≢ 10) rest → IsRow tells rest row → PrintsRows tells text (printed ++ row)
told_last tells text rest printed row so some lacks is = record {
  rows = so.rows ++ row_of rest row ∷ [];
  lines = inr (so.rows, row_of rest row, refl, some, so.lines);
  told = All-append (IsPrinted tells) so.rows (row_of rest row ∷ []) so.told (one_told tells (row_of rest row) lacks is);
  whole = ap (λ xs. xs ++ row) so.whole ∙ sym (printed_snoc so.rows rest row);
}

-- Text that has no end of a line at any place has none.
pub lacks_ends : (text : List ℕ) → ((i : ℕ) → i < length text → get_or text i 0 ≢ 10) → All (λ b. b ≢ 10) text
lacks_ends text none = All-from_get_or (λ b. b ≢ 10) text 0 none

-- Nor has text that isn't split at one.
pub lacks_none : (text : List ℕ) (r : Option (Bor (List ℕ) × Bor (List ℕ))) → IsSplitOnceResult 10 text r → r ≡ None
    → All (λ b. b ≢ 10) text
lacks_none text r h e =
    lacks_ends text (split_parts 10 text None (subst (λ (o : Option (Bor (List ℕ) × Bor (List ℕ))). IsSplitOnceResult 10 text o) e h) (lit< tt))

pub not_empty : (text : List ℕ) → eqb (length text) 0 ≡ false → text ≢ []
not_empty [] h = λ e. cc
not_empty (b ∷ bs) h = λ e. cc
