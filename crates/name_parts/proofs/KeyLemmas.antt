-- A text has no bad place as a key just where it is one.
use Rattle.std.proofs.Common.{◌≡◌, ℕ, zero, suc, ◌+◌, ◌<◌, Bool, true, false, ◌&&◌, cond, List, [], ◌∷◌, Option, Some, None, option_map, refl, sym, ap, subst, ◌∙◌, arith, lit<, ◌⊎◌, inl, inr}
use Rattle.std.specs.Prelude.{◌==◌}
use Rattle.std.specs.List.{list_all, slice_split, onto_first}
use Rattle.std.specs.Char.{is_ascii_lowercase}
use Rattle.std.specs.Str.{IsAscii}
use Rattle.std.proofs.lemmas.Bool.{and_parts, and_from, cases_Bool}
use Rattle.std.proofs.lemmas.Bool.Decides.{nat_tests}
use Rattle.name_parts.specs.Parts.{is_key_byte, is_word, is_key, key_step, key_place_from}

abbrev slash : ℕ → Bool
slash b = b == 47

-- the words from the start of one on, or from behind a start
abbrev words_from : Bool → List (List ℕ) → Bool
words_from start [] = false
words_from start (w ∷ ws) = cond start (is_word w) (list_all is_key_byte w) && list_all is_word ws

next_None : (o : Option ℕ) → option_map (λ n. n + 1) o ≡ None → o ≡ None
next_None None e = refl
next_None (Some n) e = cc

-- one byte on
pub key_place-on : (start next : Bool) (b : ℕ) (bs : List ℕ) → key_step start b ≡ Some next → key_place_from start (b ∷ bs) ≡ option_map (λ n. n + 1) (key_place_from next bs)
key_place-on start next b bs e =
    subst (λ (o : Option Bool). elim o [ None ↦ Some 0 | Some n ↦ option_map (λ k. k + 1) (key_place_from n bs) ] ≡ option_map (λ n. n + 1) (key_place_from next bs)) (sym e) refl

pub key_place-stop : (start : Bool) (b : ℕ) (bs : List ℕ) → key_step start b ≡ None → key_place_from start (b ∷ bs) ≡ Some 0
key_place-stop start b bs e =
    subst (λ (o : Option Bool). ◌≡◌ {A = Option ℕ} (elim o as (λ _. Option ℕ) [ None ↦ Some 0 | Some n ↦ option_map (λ k. k + 1) (key_place_from n bs) ]) (Some 0)) (sym e) refl

cases_step : (o : Option Bool) → (o ≡ None) ⊎ ((next : Bool) × (o ≡ Some next))
cases_step None = inl refl
cases_step (Some next) = inr (next, refl)

-- which bytes start a word, stand in one or end one
starts : (b : ℕ) (next : Bool) → key_step true b ≡ Some next → (is_ascii_lowercase b ≡ true) × (slash b ≡ false) × (next ≡ false)
starts b next e = grind (arith, nat_tests)

goes_on : (b : ℕ) → key_step false b ≡ Some false → (is_key_byte b ≡ true) × (slash b ≡ false)
goes_on b e = grind (arith, nat_tests)

ends : (b : ℕ) → key_step false b ≡ Some true → slash b ≡ true
ends b e = grind (arith, nat_tests)

start_from : (b : ℕ) → is_ascii_lowercase b ≡ true → key_step true b ≡ Some false
start_from b e = rw e refl

go_from : (b : ℕ) → is_key_byte b ≡ true → key_step false b ≡ Some false
go_from b e = rw e refl

end_from : (b : ℕ) → slash b ≡ true → key_step false b ≡ Some true
end_from b e = grind (arith, nat_tests)

-- a list of words has one
abbrev parts_of : List (List ℕ) → List (List ℕ)
parts_of [] = [] ∷ []
parts_of (w ∷ ws) = w ∷ ws

parts_of-split : (text : List ℕ) → parts_of (slice_split slash text) ≡ slice_split slash text
parts_of-split [] = refl
parts_of-split (b ∷ bs) =
    elim (slash b) as (λ t. parts_of (cond t ([] ∷ slice_split slash bs) (onto_first b (slice_split slash bs))) ≡ cond t ([] ∷ slice_split slash bs) (onto_first b (slice_split slash bs))) [
      | true ↦ refl
      | false ↦ elim (slice_split slash bs) as (λ ws. parts_of (onto_first b ws) ≡ onto_first b ws) [ [] ↦ refl | w ∷ ws ↦ refl ]
    ]

-- a byte in front of the first word
in_word : (b : ℕ) (ws : List (List ℕ)) → is_key_byte b ≡ true → words_from false ws ≡ true → words_from false (onto_first b ws) ≡ true
in_word b [] k e = cc
in_word b (w ∷ ws) k e = let parts = and_parts _ _ e in and_from _ _ (and_from _ _ k parts.0) parts.1

at_start : (b : ℕ) (ws : List (List ℕ)) → is_ascii_lowercase b ≡ true → words_from false ws ≡ true → words_from true (onto_first b ws) ≡ true
at_start b [] k e = cc
at_start b (w ∷ ws) k e = let parts = and_parts _ _ e in and_from _ _ (and_from _ _ k parts.0) parts.1

off_word : (b : ℕ) (ws : List (List ℕ)) → words_from false (onto_first b ws) ≡ true → (is_key_byte b ≡ true) × (words_from false (parts_of ws) ≡ true)
off_word b [] e = let parts = and_parts _ _ e in ((and_parts _ _ parts.0).0, refl)
off_word b (w ∷ ws) e = let parts = and_parts _ _ e in ((and_parts _ _ parts.0).0, and_from _ _ (and_parts _ _ parts.0).1 parts.1)

off_start : (b : ℕ) (ws : List (List ℕ)) → words_from true (onto_first b ws) ≡ true → (is_ascii_lowercase b ≡ true) × (words_from false (parts_of ws) ≡ true)
off_start b [] e = let parts = and_parts _ _ e in ((and_parts _ _ parts.0).0, refl)
off_start b (w ∷ ws) e = let parts = and_parts _ _ e in ((and_parts _ _ parts.0).0, and_from _ _ (and_parts _ _ parts.0).1 parts.1)

all_words : (ws : List (List ℕ)) → words_from true ws ≡ true → list_all is_word ws ≡ true
all_words [] e = refl
all_words (w ∷ ws) e = e

cut : (b : ℕ) (bs : List ℕ) → slash b ≡ true → slice_split slash (b ∷ bs) ≡ [] ∷ slice_split slash bs
cut b bs e = rw e refl

uncut : (b : ℕ) (bs : List ℕ) → slash b ≡ false → slice_split slash (b ∷ bs) ≡ onto_first b (slice_split slash bs)
uncut b bs e = rw e refl

step_None : (start next : Bool) (b : ℕ) (bs : List ℕ) → key_step start b ≡ Some next → words_from next (slice_split slash bs) ≡ true → words_from start (slice_split slash (b ∷ bs)) ≡ true
step_None true true b bs step rest = let no = (starts b true step).2 in cc
step_None true false b bs step rest = let is = starts b false step in rw (uncut b bs is.1) (at_start b (slice_split slash bs) is.0 rest)
step_None false true b bs step rest = rw (cut b bs (ends b step)) (all_words (slice_split slash bs) rest)
step_None false false b bs step rest = let is = goes_on b step in rw (uncut b bs is.1) (in_word b (slice_split slash bs) is.0 rest)

key_place_from-None : (start : Bool) (text : List ℕ) → key_place_from start text ≡ None → words_from start (slice_split slash text) ≡ true
key_place_from-None true [] e = cc
key_place_from-None false [] e = refl
key_place_from-None start (b ∷ bs) e =
    elim (cases_step (key_step start b)) [
      | inl none ↦ let stop = key_place-stop start b bs none in cc
      | inr step ↦ step_None start step.0 b bs step.1 (key_place_from-None step.0 bs (next_None _ (sym (key_place-on start step.0 b bs step.1) ∙ e)))
    ]

pub key_place-None : (text : List ℕ) → key_place_from true text ≡ None → is_key text ≡ true
key_place-None text e = all_words (slice_split slash text) (key_place_from-None true text e)

-- all words of a text, of which there is one at least
some_words : (ws : List (List ℕ)) → list_all is_word (parts_of ws) ≡ true → words_from true (parts_of ws) ≡ true
some_words [] e = cc
some_words (w ∷ ws) e = e

from_all : (text : List ℕ) → list_all is_word (slice_split slash text) ≡ true → words_from true (slice_split slash text) ≡ true
from_all text e =
    rw (parts_of-split text) at (some_words (slice_split slash text) (rw (parts_of-split text) e))

ended : (start : Bool) (b : ℕ) (bs : List ℕ) → slash b ≡ true → words_from start ([] ∷ slice_split slash bs) ≡ true → (next : Bool) × (key_step start b ≡ Some next) × (words_from next (slice_split slash bs) ≡ true)
ended true b bs is_slash e = cc
ended false b bs is_slash e = (true, end_from b is_slash, from_all bs e)

going : (start : Bool) (b : ℕ) (bs : List ℕ) → words_from start (onto_first b (slice_split slash bs)) ≡ true → (next : Bool) × (key_step start b ≡ Some next) × (words_from next (slice_split slash bs) ≡ true)
going true b bs e = let is = off_start b (slice_split slash bs) e in (false, start_from b is.0, rw (parts_of-split bs) at is.1)
going false b bs e = let is = off_word b (slice_split slash bs) e in (false, go_from b is.0, rw (parts_of-split bs) at is.1)

-- the other way round
words-step : (start : Bool) (b : ℕ) (bs : List ℕ) → words_from start (slice_split slash (b ∷ bs)) ≡ true → (next : Bool) × (key_step start b ≡ Some next) × (words_from next (slice_split slash bs) ≡ true)
words-step start b bs e =
    elim (cases_Bool (slash b)) [
      | inl is_slash ↦ ended start b bs is_slash (rw (cut b bs is_slash) at e)
      | inr other ↦ going start b bs (rw (uncut b bs other) at e)
    ]

words_from-place : (start : Bool) (text : List ℕ) → words_from start (slice_split slash text) ≡ true → key_place_from start text ≡ None
words_from-place true [] e = cc
words_from-place false [] e = refl
words_from-place start (b ∷ bs) e =
    let step = words-step start b bs e in
    key_place-on start step.0 b bs step.1 ∙ ap (option_map (λ n. n + 1)) (words_from-place step.0 bs step.2)

pub key-place : (text : List ℕ) → is_key text ≡ true → key_place_from true text ≡ None
key-place text e = words_from-place true text (from_all text e)

step-ascii : (start next : Bool) (b : ℕ) → key_step start b ≡ Some next → b < 128
step-ascii true next b e = grind (arith, nat_tests)
step-ascii false next b e = grind (arith, nat_tests)

words-ascii : (start : Bool) (text : List ℕ) → words_from start (slice_split slash text) ≡ true → IsAscii text
words-ascii start [] e i = lit< tt
words-ascii start (b ∷ bs) e zero = let step = words-step start b bs e in step-ascii start step.0 b step.1
words-ascii start (b ∷ bs) e (suc i) = let step = words-step start b bs e in words-ascii step.0 bs step.2 i

pub key-ascii : (text : List ℕ) → is_key text ≡ true → IsAscii text
key-ascii text e = words-ascii true text (from_all text e)
