-- Framed bodies.
use Rattle.std.proofs.Common.{◌≡◌, inl, inr, ℕ, zero, suc, ◌+◌, ◌^◌, ◌<◌, ◌≤◌, List, [], ◌∷◌, ◌++◌, length, get_or, take, drop, take-append-drop, refl, sym, ◌∙◌, ap, arith, append_assoc, length-append}
use Rattle.std.proofs.Math.Seq.{drop-nil}
use Rattle.std.proofs.lemmas.Bool.{cases_lt}
use Rattle.std.proofs.lemmas.List.{take_at, length-take, length-take-le, drop_more, length-drop, get_or-take, get_or_past}
use Rattle.std.proofs.lemmas.Nat.{from_le_bytes-to_le_bytes_4, le_bytes_4}
use Rattle.std.specs.Int.{w32, to_le_bytes, from_le_bytes}
use Rattle.result_journal.specs.Grammar.{IsBody, framed, BeginsFramed}

pub length_word : (n : ℕ) → length (to_le_bytes w32 n) ≡ 4
length_word n = refl

pub length-framed : (body : List ℕ) → length (framed body) ≡ 4 + length body
length-framed body = length-append (to_le_bytes w32 (length body)) body

-- Two lists with fronts of one length are equal in both parts.
pub split_front : (a b c d : List ℕ) → length a ≡ length c → a ++ b ≡ c ++ d → (a ≡ c) × (b ≡ d)
split_front [] b [] d same e = (refl, e)
split_front [] b (y ∷ c) d same e = absurd (omega arith)
split_front (x ∷ a) b [] d same e = absurd (omega arith)
split_front (x ∷ a) b (y ∷ c) d same e =
    let heads : x ≡ y = cc in
    let tails : a ++ b ≡ c ++ d = cc in
    let parts = split_front a b c d (omega arith) tails in
    let fronts : a ≡ c = parts.0 in
    ((cc), parts.1)

-- What begins with two framed bodies begins with one.
pub one_frame : (a b : List ℕ) (x y : List ℕ) → IsBody a → IsBody b → framed a ++ x ≡ framed b ++ y →
    (a ≡ b) × (x ≡ y)
one_frame a b x y is_a is_b e =
    let whole : to_le_bytes w32 (length a) ++ (a ++ x) ≡ to_le_bytes w32 (length b) ++ (b ++ y) =
    sym (append_assoc (to_le_bytes w32 (length a)) a x) ∙ e ∙ append_assoc (to_le_bytes w32 (length b)) b y in
    let parts = split_front (to_le_bytes w32 (length a)) (a ++ x) (to_le_bytes w32 (length b)) (b ++ y) refl whole in
    let small_a : length a < 2 ^ 32 = omega (arith, is_a.few) in
    let small_b : length b < 2 ^ 32 = omega (arith, is_b.few) in
    let lengths : length a ≡ length b =
    sym (from_le_bytes-to_le_bytes_4 (length a) small_a)
    ∙ ap (λ (l : List ℕ). from_le_bytes w32 l) parts.0
    ∙ from_le_bytes-to_le_bytes_4 (length b) small_b in
    split_front a x b y lengths parts.1

-- What begins with a framed body says how long it is.
pub record FrameBounds (bytes : List ℕ) : Type 0 where
  pub some : 1 ≤ from_le_bytes w32 (take 4 bytes)
  pub few : from_le_bytes w32 (take 4 bytes) ≤ 2 ^ 23
  pub inside : 4 + from_le_bytes w32 (take 4 bytes) < length bytes

pub frame_bounds : (bytes : List ℕ) → BeginsFramed bytes → FrameBounds bytes
frame_bounds bytes f =
    let n = length f.body in
    let small : n < 2 ^ 32 = omega (arith, f.is_body.few) in
    let whole : bytes ≡ to_le_bytes w32 n ++ (f.body ++ f.gate ∷ f.rest) =
    f.form ∙ append_assoc (to_le_bytes w32 n) f.body (f.gate ∷ f.rest) in
    let size : from_le_bytes w32 (take 4 bytes) ≡ n =
    ap (λ (l : List ℕ). from_le_bytes w32 (take 4 l)) whole
    ∙ ap (λ (l : List ℕ). from_le_bytes w32 l) (take_at (to_le_bytes w32 n) (f.body ++ f.gate ∷ f.rest) 4 refl)
    ∙ from_le_bytes-to_le_bytes_4 n small in
    let long : length bytes ≡ 4 + n + (1 + length f.rest) =
    ap (λ (l : List ℕ). length l) f.form ∙ length-append (framed f.body) (f.gate ∷ f.rest)
    ∙ ap (λ (k : ℕ). k + length (f.gate ∷ f.rest)) (length-framed f.body)
    ∙ (omega arith) in
    record {
      some = omega (arith, f.is_body.some, size);
      few = omega (arith, f.is_body.few, size);
      inside = omega (arith, long, size);
    }

front_byte : (bytes : List ℕ) → ((k : ℕ) → get_or bytes k 0 < 256) → (n i : ℕ) → get_or (take n bytes) i 0 < 256
front_byte bytes are n i = elim (cases_lt i n) [
  | inl below ↦ rw (get_or-take n bytes i 0 below) (are i)
  | inr past ↦ rw (get_or_past (take n bytes) i 0 (omega (arith, length-take n bytes))) (omega arith)
]

pub drop_twice : (m n : ℕ) (bytes : List ℕ) → drop m (drop n bytes) ≡ drop (n + m) bytes
drop_twice m zero bytes = ap (λ (k : ℕ). drop k bytes) (omega arith)
drop_twice m (suc n) [] = drop-nil m ∙ sym (drop-nil (suc n + m))
drop_twice m (suc n) (b ∷ bytes) =
    drop_twice m n bytes ∙ ap (λ (k : ℕ). drop k (b ∷ bytes)) (let e : suc (n + m) ≡ suc n + m = omega arith in e)

-- Where the four bytes and the body and one byte more are there, a framed body stands.
pub frame_made : (bytes : List ℕ) (n : ℕ) → to_le_bytes w32 n ≡ take 4 bytes → 1 ≤ n → n ≤ 2 ^ 23 →
    4 + n < length bytes →
    (f : BeginsFramed bytes) × (f.body ≡ take n (drop 4 bytes)) × (f.gate ∷ f.rest ≡ drop (4 + n) bytes)
frame_made bytes n word some few inside =
    let body = take n (drop 4 bytes) in
    let size : length body ≡ n = length-take-le n (drop 4 bytes) (omega (arith, length-drop 4 bytes)) in
    let four : to_le_bytes w32 (length body) ≡ take 4 bytes = ap (λ (k : ℕ). to_le_bytes w32 k) size ∙ word in
    let tail : drop (4 + n) bytes ≡ get_or bytes (4 + n) 0 ∷ drop (4 + n + 1) bytes =
    drop_more bytes (4 + n) 0 inside in
    let rest_of : drop 4 bytes ≡ body ++ drop (4 + n) bytes =
    sym (take-append-drop n (drop 4 bytes)) ∙ ap (λ (l : List ℕ). body ++ l) (drop_twice n 4 bytes) in
    let whole : bytes ≡ framed body ++ drop (4 + n) bytes =
    sym (take-append-drop 4 bytes)
    ∙ ap (λ (l : List ℕ). l ++ drop 4 bytes) (sym four)
    ∙ ap (λ (l : List ℕ). to_le_bytes w32 (length body) ++ l) rest_of
    ∙ sym (append_assoc (to_le_bytes w32 (length body)) body (drop (4 + n) bytes)) in (
      record {
        body = body;
        gate = get_or bytes (4 + n) 0;
        rest = drop (4 + n + 1) bytes;
        is_body = record { some = omega (arith, size); few = omega (arith, size) };
        form = whole ∙ ap (λ (l : List ℕ). framed body ++ l) tail;
      },
      refl,
      sym tail,
    )

-- The four bytes of a length say it.
pub length_said : (bytes : List ℕ) → ((k : ℕ) → get_or bytes k 0 < 256) → 4 ≤ length bytes →
    to_le_bytes w32 (from_le_bytes w32 (take 4 bytes)) ≡ take 4 bytes
length_said bytes are_bytes four =
    le_bytes_4 (take 4 bytes) (from_le_bytes w32 (take 4 bytes)) (length-take-le 4 bytes four)
    (λ i. front_byte bytes are_bytes 4 i) refl
