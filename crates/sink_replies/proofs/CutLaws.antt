-- Parts of texts, and white space around a value.
use Rattle.std.proofs.Common.{◌≡◌, ℕ, ◌<◌, ◌⊎◌, inl, inr, Bool, true, false, List, [], ◌∷◌, ◌++◌, length, drop, reverse, refl, sym, ap, ◌∙◌, subst, arith, append_assoc, append-nil, length-append}
use Rattle.std.proofs.lemmas.List.{take_at, drop_at, reverse-append, length-reverse}
use Rattle.std.proofs.lemmas.List.Elements.{All-take, All-drop}
use Rattle.std.specs.Prelude.{All}
use Rattle.httparse.specs.Grammar.{LineEnd, lf, crlf, print_end, is_ows, skip_ows, trim_ows}

-- where one text ends in another, which begins alike: inside it, or behind it
pub data Cut (a b c d : List ℕ) : Type 0 where
  inside : (x : ℕ) (m : List ℕ) → c ≡ a ++ x ∷ m → b ≡ x ∷ m ++ d → Cut a b c d
  behind : (m : List ℕ) → a ≡ c ++ m → m ++ b ≡ d → Cut a b c d

pub cut : (a b c d : List ℕ) → a ++ b ≡ c ++ d → Cut a b c d
cut a b [] d e = behind a refl e
cut [] b (x ∷ c) d e = inside x c refl e
cut (y ∷ a) b (x ∷ c) d e = further (cut a b c d cc)
  where
    head : y ≡ x
    head = cc

    further : Cut a b c d → Cut (y ∷ a) b (x ∷ c) d
    further (inside z m p q) = inside z m (ap (λ t. x ∷ t) p ∙ ap (λ w. w ∷ (a ++ z ∷ m)) (sym head)) q
    further (behind m p q) = behind m (ap (λ t. y ∷ t) p ∙ ap (λ w. w ∷ (c ++ m)) head) q

pub All-front : {X : Type 0} (P : X → Type 0) (xs ys : List X) → All P (xs ++ ys) → All P xs
All-front P xs ys h = subst (All P) (take_at xs ys (length xs) refl) (All-take P (length xs) (xs ++ ys) h)

pub All-back : {X : Type 0} (P : X → Type 0) (xs ys : List X) → All P (xs ++ ys) → All P ys
All-back P xs ys h = subst (All P) (drop_at xs ys (length xs) refl) (All-drop P (length xs) (xs ++ ys) h)

-- one element in two lists
pub split_one : {X : Type 0} (a b : List X) (v : X) → a ++ b ≡ v ∷ [] → ((a ≡ []) × (b ≡ v ∷ [])) ⊎ ((a ≡ v ∷ []) × (b ≡ []))
split_one [] b v e = inl (refl, e)
split_one (x ∷ []) b v e = let one : x ≡ v = cc in let none : b ≡ [] = cc in inr (ap (λ z. z ∷ []) one, none)
split_one (x ∷ y ∷ a) b v e = absurd (let n = ap length e in omega (arith, n))

pub no_append : {X : Type 0} (a b : List X) → a ++ b ≡ [] → (a ≡ []) × (b ≡ [])
no_append [] b e = (refl, e)
no_append (x ∷ a) b e = absurd cc

-- what is filled up again
pub refilled : (b m r : List ℕ) → b ++ drop (length b) (b ++ m ++ r) ≡ b ++ m ++ r
refilled b m r = let e = drop_at b (m ++ r) (length b) refl in
    ap (λ z. b ++ drop (length b) z) (append_assoc b m r) ∙ ap (λ z. b ++ z) e ∙ sym (append_assoc b m r)

-- ---- white space

-- one text ends with another
abbrev pub IsBack : List ℕ → List ℕ → Type 0
IsBack s t = (u : List ℕ) × (t ≡ u ++ s)

skipped_back : (x : List ℕ) → IsBack (skip_ows x) x
skipped_back [] = ([], refl)
skipped_back (b ∷ x) = by_test (skipped_back x) (is_ows b) refl
  where
    by_test : IsBack (skip_ows x) x → (t : Bool) → is_ows b ≡ t → IsBack (skip_ows (b ∷ x)) (b ∷ x)
    by_test back true ows = rw ows (b ∷ back.0, ap (λ z. b ∷ z) back.1)
    by_test back false other = rw other ([], refl)

skipped_more : (s t : List ℕ) → IsBack (skip_ows t) (skip_ows (s ++ t))
skipped_more [] t = ([], refl)
skipped_more (b ∷ s) t = by_test (skipped_more s t) (is_ows b) refl
  where
    by_test : IsBack (skip_ows t) (skip_ows (s ++ t)) → (w : Bool) → is_ows b ≡ w → IsBack (skip_ows t) (skip_ows (b ∷ s ++ t))
    by_test back true ows = rw ows back
    by_test back false other = let last = skipped_back t in
        rw other (b ∷ s ++ last.0, ap (λ z. b ∷ s ++ z) last.1 ∙ sym (append_assoc (b ∷ s) last.0 (skip_ows t)))

abbrev rtrim : List ℕ → List ℕ
rtrim x = reverse (skip_ows (reverse x))

-- what is trimmed at its end begins what a longer text is
rtrim_front : (a b : List ℕ) → (m : List ℕ) × (rtrim (a ++ b) ≡ rtrim a ++ m)
rtrim_front a b =
    let back = skipped_more (reverse b) (reverse a) in
    (reverse back.0, ap (λ z. reverse (skip_ows z)) (reverse-append a b) ∙ ap reverse back.1 ∙ reverse-append back.0 (skip_ows (reverse a)))

-- a text of white space, or one with another byte, from which nothing is skipped
data Skips (q : List ℕ) : Type 0 where
  white : ((r : List ℕ) → skip_ows (q ++ r) ≡ skip_ows r) → Skips q
  other : (c : ℕ) (u : List ℕ) → is_ows c ≡ false → skip_ows q ≡ c ∷ u → ((r : List ℕ) → skip_ows (q ++ r) ≡ skip_ows q ++ r) → Skips q

skip_cases : (q : List ℕ) → Skips q
skip_cases [] = white (λ r. refl)
skip_cases (b ∷ q) = by_test (skip_cases q) (is_ows b) refl
  where
    by_test : Skips q → (t : Bool) → is_ows b ≡ t → Skips (b ∷ q)
    by_test (white all) true ows = white (λ r. rw ows (all r))
    by_test (other c u isnt is some) true ows = other c u isnt (rw ows is) (λ r. rw ows (some r))
    by_test later false ows = other b q ows (rw ows refl) (λ r. rw ows refl)

skip_one : (c : ℕ) → is_ows c ≡ false → skip_ows (c ∷ []) ≡ c ∷ []
skip_one c isnt = rw isnt refl

kept_some : (c : ℕ) (u : List ℕ) → is_ows c ≡ false → 0 < length (rtrim (c ∷ u))
kept_some c u isnt =
    let back = skipped_more (reverse u) (c ∷ []) in
    let whole : skip_ows (reverse (c ∷ u)) ≡ back.0 ++ skip_ows (c ∷ []) = ap skip_ows (reverse-append (c ∷ []) u) ∙ back.1 in
    let one = ap length (skip_one c isnt) in
    let n = ap length whole in
    let both = length-append back.0 (skip_ows (c ∷ [])) in
    let same = length-reverse (skip_ows (reverse (c ∷ u))) in
    omega (arith, one, n, both, same)

-- A front of a value: white space, behind which a digit may follow; or it is trimmed to a front of what the whole is.
pub data Front (q : List ℕ) : Type 0 where
  blank : trim_ows (q ++ 48 ∷ []) ≡ 48 ∷ [] → trim_ows q ≡ [] → Front q
  begun : 0 < length (trim_ows q) → ((r : List ℕ) → (m : List ℕ) × (trim_ows (q ++ r) ≡ trim_ows q ++ m)) → Front q

pub trimmed_front : (q : List ℕ) → Front q
unfolding trim_ows
trimmed_front q = by_cases (skip_cases q)
  where
    by_cases : Skips q → Front q
    by_cases (white all) = blank (ap rtrim (all (48 ∷ []))) (ap rtrim (ap skip_ows (sym (append-nil q)) ∙ all []))
    by_cases (other c u isnt is some) =
        begun (subst (λ z. 0 < length (rtrim z)) (sym is) (kept_some c u isnt))
        (λ r. let front = rtrim_front (skip_ows q) r in (front.0, ap rtrim (some r) ∙ front.1))

-- a line's end is cut nowhere but behind its CR
pub data EndCut (e : LineEnd) (b : List ℕ) : Type 0 where
  before_end : b ≡ [] → EndCut e b
  behind_return : b ≡ 13 ∷ [] → e ≡ crlf → EndCut e b

pub end_cut : (e : LineEnd) (b : List ℕ) (z : ℕ) (m : List ℕ) → print_end e ≡ b ++ z ∷ m → EndCut e b
end_cut e [] z m p = before_end refl
end_cut lf (c ∷ b) z m p = absurd (let n = ap length p in let both = length-append (c ∷ b) (z ∷ m) in omega (arith, n, both))
end_cut crlf (c ∷ []) z m p = let first : c ≡ 13 = cc in behind_return (ap (λ x. x ∷ []) first) refl
end_cut crlf (c ∷ d ∷ b) z m p = absurd (let n = ap length p in let both = length-append (c ∷ d ∷ b) (z ∷ m) in omega (arith, n, both))
