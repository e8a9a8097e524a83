-- Spaces at the front of a text, and the marks of diagnostics.
use Rattle.std.proofs.Common.{◌≡◌, ◌≢◌, ℕ, zero, suc, ◌+◌, ◌*◌, Bool, true, false, cond, List, [], ◌∷◌, ◌++◌, take, drop, replicate, refl, sym, ap, ◌∙◌, subst, append_assoc, arith}
use Rattle.std.specs.Prelude.{◌==◌, ◌&&◌, not}
use Rattle.std.specs.List.{position_or_len}
use Rattle.std.specs.Bool.{Decides}
use Rattle.std.specs.Str.{bytes_eq}
use Rattle.std.proofs.lemmas.Bool.Decides.{Decides-eqb, not_from_Decides}
use Rattle.std.proofs.lemmas.Slice.Eq.{bytes_eq-Decides}
use Rattle.std.proofs.lemmas.List.{drop_at, length-replicate}
use Rattle.tap_reader.specs.LineForms.{is_mark, spaces, unspaced}
use Rattle.tap_reader.specs.Cases.{unescaped}
use Rattle.tap_reader.specs.NameLengths.{after_run}

-- so many spaces
abbrev pub blanks : ℕ → List ℕ
blanks n = replicate n 32

-- a text that doesn't begin with a space
abbrev pub NoSpace : List ℕ → Type 0
NoSpace text = (rest : List ℕ) → text ≢ 32 ∷ rest

-- a test that fails
pub fails : (t : Bool) (P : Type 0) → Decides t P → (P → ⊥) → t ≡ false
fails true P d no_ = absurd (no_ (d.0 refl))
fails false P d no_ = refl

first-no_space : (b : ℕ) (bs : List ℕ) → NoSpace (b ∷ bs) → (b == 32) ≡ false
first-no_space b bs h = fails (b == 32) (b ≡ 32) (Decides-eqb b 32) (λ e. h bs (ap (λ x. x ∷ bs) e))

no_spaces : (rest : List ℕ) → NoSpace rest → spaces rest ≡ 0
no_spaces [] h = refl
no_spaces (b ∷ bs) h = rw (first-no_space b bs h) refl

pub spaces_of : (n : ℕ) (rest : List ℕ) → NoSpace rest → spaces (replicate n 32 ++ rest) ≡ n
spaces_of zero rest h = no_spaces rest h
spaces_of (suc n) rest h = omega (arith, spaces_of n rest h)

pub unspaced_of : (n : ℕ) (rest : List ℕ) → NoSpace rest → unspaced (replicate n 32 ++ rest) ≡ rest
unspaced_of n rest h =
    drop_at (replicate n 32) rest (spaces (replicate n 32 ++ rest)) (length-replicate n 32 ∙ sym (spaces_of n rest h))

pub head_is : (b : ℕ) (bs rest : List ℕ) → b ∷ bs ≡ 32 ∷ rest → b ≡ 32
head_is b bs rest e = cc

unspaced_step : (t : Bool) (b : ℕ) (bs : List ℕ) → (b == 32) ≡ t → NoSpace (unspaced bs) → NoSpace (drop (cond t (1 + spaces bs) 0) (b ∷ bs))
unspaced_step true b bs e h =
    let P : ℕ → Type 0 = λ k. NoSpace (drop k (b ∷ bs)) in
    subst P (let s : suc (spaces bs) ≡ 1 + spaces bs = omega arith in s) h
unspaced_step false b bs e h = λ rest same. not_from_Decides (b == 32) (Decides-eqb b 32) e (head_is b bs rest same)

nil-no_space : NoSpace []
nil-no_space rest e = cc

pub unspaced-no_space : (text : List ℕ) → NoSpace (unspaced text)
unspaced-no_space [] = nil-no_space
unspaced-no_space (b ∷ bs) = unspaced_step (b == 32) b bs refl (unspaced-no_space bs)

split_step : (t : Bool) (b : ℕ) (bs : List ℕ) → (b == 32) ≡ t → bs ≡ replicate (spaces bs) 32 ++ unspaced bs → b ∷ bs ≡ replicate (cond t (1 + spaces bs) 0) 32 ++ drop (cond t (1 + spaces bs) 0) (b ∷ bs)
split_step true b bs e h =
    let P : ℕ → Type 0 = λ k. b ∷ bs ≡ replicate k 32 ++ drop k (b ∷ bs) in
    subst P (let s : suc (spaces bs) ≡ 1 + spaces bs = omega arith in s)
    (ap (λ x. x ∷ bs) ((Decides-eqb b 32).0 e) ∙ ap (λ xs. 32 ∷ xs) h)
split_step false b bs e h = refl

-- a text is its spaces, and the rest
pub spaces_split : (text : List ℕ) → text ≡ replicate (spaces text) 32 ++ unspaced text
spaces_split [] = refl
spaces_split (b ∷ bs) = split_step (b == 32) b bs refl (spaces_split bs)

pub both : (s t : Bool) → (s && t) ≡ true → (s ≡ true) × (t ≡ true)
both true true e = (refl, refl)
both true false e = (refl, e)
both false t e = (e, absurd (cc))

pub both_true : (s t : Bool) → s ≡ true → t ≡ true → (s && t) ≡ true
both_true s t p q = rw p q

-- a mark is what its name says: so many spaces, and its bytes
pub mark_decides : (mark : List ℕ) (level : ℕ) (line : List ℕ) → NoSpace mark → Decides (is_mark mark level line) (line ≡ replicate (4 * level + 2) 32 ++ mark)
unfolding is_mark
mark_decides mark level line h =
    let k = 4 * level + 2 in (
      λ e.
          let p = both (spaces line == k) (bytes_eq (unspaced line) mark) e in
          spaces_split line ∙ ap (λ n. replicate n 32 ++ unspaced line) ((Decides-eqb (spaces line) k).0 p.0)
          ∙ ap (λ xs. replicate k 32 ++ xs) ((bytes_eq-Decides (unspaced line) mark).0 p.1),
      λ e. both_true (spaces line == k) (bytes_eq (unspaced line) mark)
          ((Decides-eqb (spaces line) k).1 (ap spaces e ∙ spaces_of k mark h))
          ((bytes_eq-Decides (unspaced line) mark).1 (ap unspaced e ∙ unspaced_of k mark h)),
    )

-- a byte that is no backslash stands for itself
unescaped_front : (b : ℕ) (bs : List ℕ) → (b == 92) ≡ false → unescaped (b ∷ bs) ≡ b ∷ unescaped bs
unescaped_front b [] e = refl
unescaped_front b (c ∷ cs) e = rw e refl

run_step : (t : Bool) (b : ℕ) (bs : List ℕ) (n : ℕ) → (b == 92) ≡ t → unescaped bs ≡ take n bs ++ unescaped (drop n bs) → unescaped (b ∷ bs) ≡ take (cond (not t) (1 + n) 0) (b ∷ bs) ++ unescaped (drop (cond (not t) (1 + n) 0) (b ∷ bs))
run_step true b bs n e h = refl
run_step false b bs n e h =
    let P : ℕ → Type 0 = λ k. unescaped (b ∷ bs) ≡ take k (b ∷ bs) ++ unescaped (drop k (b ∷ bs)) in
    subst P (let s : suc n ≡ 1 + n = omega arith in s) (unescaped_front b bs e ∙ ap (λ xs. b ∷ xs) h)

-- what stands before the first backslash stands for itself
pub unescaped_run : (text : List ℕ) → unescaped text ≡ take (position_or_len (λ b. b == 92) text) text ++ unescaped (drop (position_or_len (λ b. b == 92) text) text)
unescaped_run [] = refl
unescaped_run (b ∷ bs) = run_step (b == 92) b bs (position_or_len (λ b. b == 92) bs) refl (unescaped_run bs)

pub run_kept : (out text : List ℕ) → (out ++ take (position_or_len (λ b. b == 92) text) text) ++ unescaped (after_run text) ≡ out ++ unescaped text
unfolding after_run
run_kept out text =
    append_assoc out (take (position_or_len (λ b. b == 92) text) text) (unescaped (after_run text))
    ∙ ap (λ xs. out ++ xs) (sym (unescaped_run text))

pub after_run_is : (text : List ℕ) → drop (position_or_len (λ b. b == 92) text) text ≡ after_run text
unfolding after_run
after_run_is text = refl
