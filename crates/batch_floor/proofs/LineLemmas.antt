-- The lines of an input, one more at a time, and their sums.
use Rattle.std.proofs.Common.{◌≡◌, ◌≢◌, ◌∙◌, ℕ, ◌+◌, ◌-◌, ◌^◌, ◌<◌, min, List, [], ◌∷◌, ◌++◌, length, take, drop, get_or, refl, sym, ap, subst, All, Some, None, arith}
use Rattle.std.specs.Prelude.{sum_by}
use Rattle.std.proofs.lemmas.Bool.{eqb-true, eq-eqb}
use Rattle.std.proofs.lemmas.Grind.{flat_map-append}
use Rattle.std.proofs.lemmas.List.{append_assoc, append-nil, take-append-drop, drop_more, get_or-take, length-take}
use Rattle.std.proofs.lemmas.List.Elements.{All-nil, All-cons, All-append, All-from_get_or}
use Rattle.std.proofs.lemmas.List.Sums.{sum_by_push}
use Rattle.memchr.specs.Find.{IsFirstByte, is_byte}
use Rattle.batch_floor.specs.Lines.{Row, IsRow, HasNoEnd, IsReply, AreLines, sums_of, lines_of, up_to_most}
use Rattle.batch_floor.specs.declared.Sums.{Sums}

-- a sum that stops at the most, with one row more
pub sum_more : (f : Row → ℕ) (rows : List Row) (row : Row) (before after : ℕ) → before ≡ up_to_most (sum_by f rows)
    → after ≡ min (before + f row) (2 ^ 64 - 1) → after ≡ up_to_most (sum_by f (rows ++ row ∷ []))
sum_more f rows row before after was is =
    subst (λ n. after ≡ up_to_most n) (sym (sum_by_push f rows row)) (omega (arith, was, is))

-- and with one that adds nothing
pub sum_same : (f : Row → ℕ) (rows : List Row) (row : Row) (before : ℕ) → before ≡ up_to_most (sum_by f rows) → f row ≡ 0
    → before ≡ up_to_most (sum_by f (rows ++ row ∷ []))
sum_same f rows row before was none =
    subst (λ n. before ≡ up_to_most n) (sym (sum_by_push f rows row)) (omega (arith, was, none))

-- Rows of the front of an input, up to the rest, and their sums.
pub record SumsSoFar (input rest : List ℕ) (sums : Sums) : Type 0 where
  pub rows : List Row
  pub whole : input ≡ lines_of rows ++ rest
  pub each : All IsRow rows
  pub sums_are : sums ≡ sums_of rows

before_end : (text : List ℕ) (at : ℕ) → IsFirstByte (is_byte 10) text (Some at) → (i : ℕ) → i < length (take at text)
    → get_or (take at text) i 0 ≢ 10
before_end text at found i below e =
    let near : i < at = omega (arith, below, length-take at text) in
    found.0.before i (omega arith) near (eq-eqb _ _ (sym (get_or-take at text i 0 near) ∙ e))

-- the first line of a text that has one, and what is behind it
line_cut : (text : List ℕ) (at : ℕ) → IsFirstByte (is_byte 10) text (Some at)
    → (text ≡ take at text ++ 10 ∷ drop (at + 1) text) × HasNoEnd (take at text)
line_cut text at found = (
  sym (take-append-drop at text) ∙ ap (λ xs. take at text ++ xs) (drop_more text at 0 found.0.high
      ∙ ap (λ b. b ∷ drop (at + 1) text) (eqb-true _ _ found.1)),
  All-from_get_or (λ b. b ≢ 10) (take at text) 0 (before_end text at found),
)

lines_snoc : (rows : List Row) (row : Row) (rest : List ℕ) → lines_of rows ++ (row.line ++ 10 ∷ rest) ≡ lines_of (rows ++ row ∷ []) ++ rest
lines_snoc rows row rest =
    ap (λ xs. lines_of rows ++ xs) (sym (append_assoc row.line (10 ∷ []) rest))
    ∙ sym (append_assoc (lines_of rows) (row.line ++ 10 ∷ []) rest)
    ∙ ap (λ xs. xs ++ rest) (sym (flat_map-append (λ (r : Row). r.line ++ 10 ∷ []) rows (row ∷ [])
    ∙ ap (λ xs. lines_of rows ++ xs) (append-nil (row.line ++ 10 ∷ []))))

pub summed_none : (input : List ℕ) → SumsSoFar input input (sums_of [])
summed_none input = record { rows = []; whole = refl; each = All-nil IsRow; sums_are = refl }

-- one row more: the front of the rest, up to its first end of a line
pub summed_more : (input rest : List ℕ) (at : ℕ) (row : Row) (sums : Sums) (so : SumsSoFar input rest sums)
    → IsFirstByte (is_byte 10) rest (Some at) → row.line ≡ take at rest → IsReply row.line row.reply
    → (more : Sums) → more ≡ sums_of (so.rows ++ row ∷ []) → SumsSoFar input (drop (at + 1) rest) more
summed_more input rest at row sums so found is reply more are =
    let cut = line_cut rest at found in record {
      rows = so.rows ++ row ∷ [];
      whole = so.whole ∙ ap (λ xs. lines_of so.rows ++ xs) (cut.0 ∙ ap (λ xs. xs ++ 10 ∷ drop (at + 1) rest) (sym is))
          ∙ lines_snoc so.rows row (drop (at + 1) rest);
      each = All-append IsRow so.rows (row ∷ []) so.each
          (All-cons IsRow row [] (subst HasNoEnd (sym is) cut.1, reply) (All-nil IsRow));
      sums_are = are;
    }

-- what has no end of a line is behind the last one
pub summed_all : (input rest : List ℕ) (sums : Sums) → SumsSoFar input rest sums → IsFirstByte (is_byte 10) rest None
    → (rows : List Row) × AreLines input rows × (sums ≡ sums_of rows)
summed_all input rest sums so none = (
  so.rows,
  record {
    behind = rest;
    whole = so.whole;
    each = so.each;
    none_behind = All-from_get_or (λ b. b ≢ 10) rest 0 (λ i below e. none i (omega arith) below (eq-eqb _ _ e));
  },
  so.sums_are,
)
