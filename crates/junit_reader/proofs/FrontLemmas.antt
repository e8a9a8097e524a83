-- Fronts of texts that go on, and that are cut.
use Rattle.std.proofs.Common.{◌≡◌, ℕ, zero, suc, ◌+◌, ◌-◌, ◌<◌, ◌≤◌, min, true, false, nat_lt, nat_le, List, [], ◌∷◌, ◌++◌, length, take, drop, Result, refl, sym, ap, subst, ◌∙◌, arith, inl, inr}
use Rattle.std.specs.Prelude.{slice_index, if◌then◌else◌, ◌==◌}
use Rattle.std.proofs.lemmas.Bool.{cases_Bool}
use Rattle.std.proofs.lemmas.Bool.Decides.{nat_tests}
use Rattle.std.proofs.lemmas.List.{get_or-take, length-take, take_all, take_min, take-take}
use Rattle.junit_parts.specs.Bytes.{behind_white, is_white, run_len}
use Rattle.junit_parts.specs.Cases.{told_by, told_first}
use Rattle.junit_reader.specs.Fronts.{IsKept, front}
use Rattle.junit_parts.specs.Messages.{boundary, cut, is_inner, solid_len, trimmed}
use Rattle.junit_reader.specs.declared.own_text.OwnText.{OwnText}
use Rattle.junit_reader.proofs.MessageLemmas.{solid_some}
use Rattle.junit_parts.proofs.ValueLemmas.{Left}
use Rattle.junit_parts.specs.declared.faults.Flaw.{Flaw}

-- what is still to be read of a value, where no more than the front of what was read is kept
pub record LeftFront (kept rest : List ℕ) (whole : Result (List ℕ) Flaw) : Type 0 where
  pub text : List ℕ
  pub same : kept ≡ front text
  pub left : Left text rest whole

take_both : (n : ℕ) (xs ys : List ℕ) → take n (xs ++ ys) ≡ take n xs ++ take (n - length (take n xs)) ys
take_both zero xs ys = refl
take_both (suc n) [] ys = let same : suc n ≡ suc n - 0 = omega arith in ap (λ k. take k ys) same
take_both (suc n) (x ∷ xs) ys =
    let same : n - length (take n xs) ≡ suc n - suc (length (take n xs)) = omega arith in
    ap (λ t. x ∷ t) (take_both n xs ys) ∙ ap (λ k. x ∷ (take n xs ++ take k ys)) same

-- what is kept of a text that goes on
pub front_grows : (kept text more : List ℕ) (room : ℕ) → kept ≡ front text → room ≡ 1025 - length kept
    → kept ++ take (min room (length more)) more ≡ front (text ++ more)
front_grows kept text more room is room_is =
    ap (λ t. kept ++ t) (take_min room more) ∙ ap (λ k. kept ++ take k more) (room_is ∙ ap (λ t. 1025 - length t) is)
    ∙ ap (λ t. t ++ take (1025 - length (front text)) more) is ∙ sym (take_both 1025 text more)

solid_behind : (xs ys : List ℕ) → nat_lt 0 (solid_len ys) ≡ true → solid_len (xs ++ ys) ≡ length xs + solid_len ys
solid_behind [] ys some = omega arith
solid_behind (x ∷ xs) ys some =
    let before : solid_len (xs ++ ys) ≡ length xs + solid_len ys = solid_behind xs ys some in
    let more : nat_lt 0 (solid_len (xs ++ ys)) ≡ true = grind (arith, nat_tests, before, some) in
    solid_some x (xs ++ ys) more ∙ omega (arith, before)

solid_still : (xs ys : List ℕ) → nat_lt 0 (solid_len ys) ≡ false → solid_len (xs ++ ys) ≡ solid_len xs
unfolding solid_len
solid_still [] ys none = grind (arith, nat_tests, none)
solid_still (x ∷ xs) ys none = ap (λ n. if nat_lt 0 n then suc n else (if is_white x then 0 else 1)) (solid_still xs ys none)

-- up to where the last byte stands that isn't white space, in a text that goes on
pub solid_grows : (text more : List ℕ) (len solid next : ℕ) → len ≡ length (front text) → solid ≡ solid_len more → nat_lt 0 solid ≡ true
    → next ≡ min 1025 (len + solid) → next ≡ min 1025 (solid_len (text ++ more))
solid_grows text more len solid next len_is solid_is some next_is =
    let behind : solid_len (text ++ more) ≡ length text + solid_len more = solid_behind text more (ap (nat_lt 0) (sym solid_is) ∙ some) in
    omega (arith, behind, len_is, solid_is, next_is, length-take 1025 text)

pub solid_stays : (text more : List ℕ) (solid : ℕ) → solid ≡ solid_len more → nat_lt 0 solid ≡ false → solid_len (text ++ more) ≡ solid_len text
solid_stays text more solid is none = solid_still text more (ap (nat_lt 0) (sym is) ∙ none)

white_here : (b : ℕ) (bs : List ℕ) → is_white b ≡ true → behind_white (b ∷ bs) ≡ behind_white bs
white_here b bs white = let more : run_len is_white (b ∷ bs) ≡ suc (run_len is_white bs) = rw white (omega arith) in ap (λ k. drop k (b ∷ bs)) more

solid_here : (b : ℕ) (bs : List ℕ) → is_white b ≡ false → behind_white (b ∷ bs) ≡ b ∷ bs
solid_here b bs solid = let none : run_len is_white (b ∷ bs) ≡ 0 = rw solid refl in ap (λ k. drop k (b ∷ bs)) none

-- white space in front goes on
pub behind_both : (all text : List ℕ) → length (behind_white all) ≡ 0 → behind_white (all ++ text) ≡ behind_white text
behind_both [] text none = refl
behind_both (b ∷ bs) text none =
    elim (cases_Bool (is_white b)) as (λ t. behind_white ((b ∷ bs) ++ text) ≡ behind_white text) [
      | inl white ↦ white_here b (bs ++ text) white ∙ behind_both bs text (sym (ap length (white_here b bs white)) ∙ none)
      | inr solid ↦ absurd (let some : length (b ∷ bs) ≡ 0 = sym (ap length (solid_here b bs solid)) ∙ none in omega (arith, some))
    ]

pub behind_first : (all text : List ℕ) → 0 < length (behind_white all) → behind_white (all ++ text) ≡ behind_white all ++ text
behind_first [] text some = absurd (omega (arith, some))
behind_first (b ∷ bs) text some =
    elim (cases_Bool (is_white b)) as (λ t. behind_white ((b ∷ bs) ++ text) ≡ behind_white (b ∷ bs) ++ text) [
      | inl white ↦ white_here b (bs ++ text) white ∙ behind_first bs text (subst (λ t. 0 < length t) (white_here b bs white) some) ∙ ap (λ t. t ++ text) (sym (white_here b bs white))
      | inr solid ↦ solid_here b (bs ++ text) solid ∙ ap (λ t. t ++ text) (sym (solid_here b bs solid))
    ]

boundary_within : (n : ℕ) (bytes : List ℕ) → boundary n bytes ≤ n
unfolding boundary
boundary_within zero bytes = omega arith
boundary_within (suc n) bytes =
    elim (cases_Bool (is_inner (slice_index bytes (suc n)))) as (λ t. boundary (suc n) bytes ≤ suc n) [
      | inl inner ↦ let before = boundary_within n bytes in rw inner (omega (arith, before))
      | inr outer ↦ rw outer (omega arith)
    ]

boundary_of_front : (n m : ℕ) (bytes : List ℕ) → n < m → boundary n (take m bytes) ≡ boundary n bytes
unfolding boundary
boundary_of_front zero m bytes less = refl
boundary_of_front (suc n) m bytes less =
    let here : slice_index (take m bytes) (suc n) ≡ slice_index bytes (suc n) = get_or-take m bytes (suc n) 0 less in
    ap (λ b. if is_inner b then boundary n (take m bytes) else suc n) here
    ∙ ap (λ k. if is_inner (slice_index bytes (suc n)) then k else suc n) (boundary_of_front n m bytes (omega arith))

cut_long : (bytes : List ℕ) → nat_le (length bytes) 1024 ≡ false → cut bytes ≡ take (boundary 1024 bytes) bytes
cut_long bytes many = rw many refl

-- the front is cut where the text is
pub cut_front : (text : List ℕ) → cut (front text) ≡ cut text
cut_front text =
    elim (cases_Bool (nat_le (length text) 1024)) as (λ t. cut (front text) ≡ cut text) [
      | inl few ↦ let within : length text ≤ 1025 = grind (arith, nat_tests, few) in ap cut (take_all 1025 text within)
      | inr many ↦
          let long : nat_le (length (front text)) 1024 ≡ false = grind (arith, nat_tests, many, length-take 1025 text) in
          cut_long (front text) long ∙ ap (λ k. take k (front text)) (boundary_of_front 1024 1025 text (omega arith))
          ∙ take-take (boundary 1024 text) 1025 text (omega (arith, boundary_within 1024 text)) ∙ sym (cut_long text many)
    ]

less_of_both : (m n : ℕ) (xs : List ℕ) → take m (take n xs) ≡ take (min m n) xs
less_of_both m n xs =
    elim (cases_Bool (nat_le m n)) as (λ t. take m (take n xs) ≡ take (min m n) xs) [
      | inl low ↦ let is : m ≤ n = grind (arith, nat_tests, low) in let same : m ≡ min m n = omega (arith, is) in take-take m n xs is ∙ ap (λ k. take k xs) same
      | inr high ↦
          let is : n < m = grind (arith, nat_tests, high) in
          let same : n ≡ min m n = omega (arith, is) in
          take_all m (take n xs) (omega (arith, is, length-take n xs)) ∙ ap (λ k. take k xs) same
    ]

solid_front : (bytes text : List ℕ) (solid : ℕ) → bytes ≡ front text → solid ≡ min 1025 (solid_len text) → take solid bytes ≡ front (take (solid_len text) text)
solid_front bytes text solid bytes_are solid_is =
    ap (λ b. take solid b) bytes_are ∙ ap (λ k. take k (front text)) solid_is
    ∙ take-take (min 1025 (solid_len text)) 1025 text (omega arith) ∙ sym (less_of_both 1025 (solid_len text) text)

-- what is told of what is kept is what is told of the texts
pub told_of_fronts : (own : OwnText) (message text : List ℕ) → IsKept own (behind_white text)
    → told_first (front message) (take own.solid own.front.items) ≡ told_by message text
told_of_fronts own [] text kept = ap cut (solid_front own.front.items (behind_white text) own.solid kept.bytes kept.solid) ∙ cut_front (trimmed text)
told_of_fronts own (b ∷ bs) text kept = cut_front (b ∷ bs)

pub no_front : (bytes text : List ℕ) → bytes ≡ front text → (length bytes == 0) ≡ true → length text ≡ 0
no_front bytes text is none = grind (arith, nat_tests, none, ap length is, length-take 1025 text)

pub some_front : (bytes text : List ℕ) → bytes ≡ front text → (length bytes == 0) ≡ false → 0 < length text
some_front bytes text is some = grind (arith, nat_tests, some, ap length is, length-take 1025 text)
