-- The first line of a text, and the lines of the rest.
use Rattle.std.proofs.Common.{◌≡◌, ℕ, suc, ◌+◌, ◌<◌, Bool, true, false, cond, not, List, [], ◌∷◌, ◌++◌, length, take, drop, refl, ap, ◌∙◌, arith}
use Rattle.std.specs.Prelude.{◌==◌, ◌&&◌}
use Rattle.std.specs.List.{prefix_len, position_or_len}
use Rattle.tap_reader.specs.Lines.{lines, onto_first}
use Rattle.tap_reader.specs.LineWords.{without_return}

-- how many bytes stand before the first LF, or all
abbrev pub line_len : List ℕ → ℕ
line_len [] = 0
line_len (b ∷ bs) = cond (b == 10) 0 (suc (line_len bs))

line_len_step : (t : Bool) (n m : ℕ) → n ≡ m → cond t 0 (suc n) ≡ cond (not t) (1 + m) 0
line_len_step true n m e = refl
line_len_step false n m e = omega arith

pub line_len_is : (text : List ℕ) → line_len text ≡ position_or_len (λ b. b == 10) text
line_len_is [] = refl
line_len_is (b ∷ bs) = line_len_step (b == 10) (line_len bs) (prefix_len (λ x. not (x == 10)) bs) (line_len_is bs)

and_false : (t : Bool) → (t && false) ≡ false
and_false true = refl
and_false false = refl

abbrev Splits : List ℕ → Type 0
Splits text = lines text ≡ without_return (take (line_len text) text) ∷ lines (drop (suc (line_len text)) text)

-- the first of two bytes is no LF, and the second is none either
on_from : (b c : ℕ) (cs : List ℕ) → (b == 10) ≡ false → (c == 10) ≡ false → Splits (c ∷ cs) → Splits (b ∷ c ∷ cs)
on_from b c cs p q ih =
    let here : lines (b ∷ c ∷ cs) ≡ onto_first b (lines (c ∷ cs)) = rw (p, q, and_false (b == 13)) refl in
    let rest : line_len (c ∷ cs) ≡ suc (line_len cs) = rw q refl in
    let all : line_len (b ∷ c ∷ cs) ≡ suc (suc (line_len cs)) = rw (p, q) refl in
    let next : lines (c ∷ cs) ≡ without_return (c ∷ take (line_len cs) cs) ∷ lines (drop (suc (line_len cs)) cs) = rw rest at ih in
    here ∙ ap (onto_first b) next ∙ (rw all refl)

-- the second of two bytes is a LF
before_end : (b c : ℕ) (cs : List ℕ) (t : Bool) → (b == 10) ≡ false → (c == 10) ≡ true → (b == 13) ≡ t → Splits (b ∷ c ∷ cs)
before_end b c cs true p q r = rw (p, q, r) refl
before_end b c cs false p q r = rw (p, q, r) refl

two : (b c : ℕ) (cs : List ℕ) (s t : Bool) → (b == 10) ≡ s → (c == 10) ≡ t → Splits (c ∷ cs) → Splits (b ∷ c ∷ cs)
two b c cs true t p q ih = rw p refl
two b c cs false true p q ih = before_end b c cs (b == 13) p q refl
two b c cs false false p q ih = on_from b c cs p q ih

one : (b : ℕ) (t : Bool) → (b == 10) ≡ t → line_len (b ∷ []) < 1 → Splits (b ∷ [])
one b true p h = rw p refl
one b false p h = let e : line_len (b ∷ []) ≡ 1 = rw p refl in absurd (omega arith)

less_tail : (t : Bool) (n m : ℕ) → cond t 0 (suc n) < suc m → (t ≡ false → n < m)
less_tail true n m h e = cc
less_tail false n m h e = omega arith

first_of_two : (b c : ℕ) (cs : List ℕ) (t : Bool) → (b == 10) ≡ t → line_len (b ∷ c ∷ cs) < length (b ∷ c ∷ cs) → (line_len (c ∷ cs) < length (c ∷ cs) → Splits (c ∷ cs)) → Splits (b ∷ c ∷ cs)
first_of_two b c cs true p h ih = rw p refl
first_of_two b c cs false p h ih =
    two b c cs false (c == 10) p refl (ih (less_tail (b == 10) (line_len (c ∷ cs)) (length (c ∷ cs)) h p))

-- a line that ends at a LF, and the lines of the rest
pub first_line : (text : List ℕ) → line_len text < length text → Splits text
first_line [] h = absurd (omega arith)
first_line (b ∷ []) h = one b (b == 10) refl h
first_line (b ∷ c ∷ cs) h = first_of_two b c cs (b == 10) refl h (first_line (c ∷ cs))

suc_same : (t : Bool) (n m : ℕ) → cond t 0 (suc n) ≡ suc m → (t ≡ false) × (n ≡ m)
suc_same true n m h = absurd (omega arith)
suc_same false n m h = (refl, omega arith)

alone : (b : ℕ) (s : Bool) → (b == 13) ≡ s → (b == 10) ≡ false → lines (b ∷ []) ≡ (b ∷ []) ∷ []
alone b true p q = rw (q, p) refl
alone b false p q = rw (q, p) refl

-- a text without a LF is one line
pub last_line : (b : ℕ) (bs : List ℕ) → line_len (b ∷ bs) ≡ length (b ∷ bs) → lines (b ∷ bs) ≡ (b ∷ bs) ∷ []
last_line b [] h = alone b (b == 13) refl (suc_same (b == 10) 0 0 h).0
last_line b (c ∷ cs) h =
    let p = suc_same (b == 10) (line_len (c ∷ cs)) (length (c ∷ cs)) h in
    let q : (c == 10) ≡ false = (suc_same (c == 10) (line_len cs) (length cs) p.1).0 in
    let here : lines (b ∷ c ∷ cs) ≡ onto_first b (lines (c ∷ cs)) = rw (p.0, q, and_false (b == 13)) refl in
    here ∙ ap (onto_first b) (last_line c cs p.1)

pub last_lines : (text : List ℕ) → (0 < length text) → line_len text ≡ length text → lines text ≡ text ∷ []
last_lines [] n h = absurd (omega arith)
last_lines (b ∷ bs) n h = last_line b bs h

pub without_return-push : (bs : List ℕ) (b : ℕ) → without_return (bs ++ b ∷ []) ≡ cond (b == 13) bs (bs ++ b ∷ [])
without_return-push [] b = refl
without_return-push (c ∷ []) b = push_two (b == 13) b c refl
  where
    push_two : (t : Bool) (b c : ℕ) → (b == 13) ≡ t → without_return (c ∷ b ∷ []) ≡ cond (b == 13) (c ∷ []) (c ∷ b ∷ [])
    push_two true b c e = rw e refl
    push_two false b c e = rw e refl
without_return-push (c ∷ d ∷ ds) b = ap (λ xs. c ∷ xs) (without_return-push (d ∷ ds) b) ∙ push_cond (b == 13) c (d ∷ ds) (d ∷ ds ++ b ∷ [])
  where
    push_cond : (t : Bool) (c : ℕ) (xs ys : List ℕ) → (c ∷ cond t xs ys) ≡ cond t (c ∷ xs) (c ∷ ys)
    push_cond true c xs ys = refl
    push_cond false c xs ys = refl
