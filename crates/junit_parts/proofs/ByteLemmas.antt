-- What stands before a mark, byte by byte; numbers that stop at a cap.
use Rattle.std.proofs.Common.{◌≡◌, ℕ, ◌+◌, ◌*◌, ◌<◌, ◌≤◌, min, not, Bool, nat_eq, true, false, List, [], ◌∷◌, ◌++◌, length, take, drop, Option, Some, None, refl, sym, ap, ◌∙◌, arith, append_assoc, ⊎_elim, ◌⊎◌, inl, inr, nat_le, get_or, length-drop}
use Rattle.std.proofs.lemmas.List.{append-nil, take_more, drop_more, nil_from_length}
use Rattle.std.proofs.Math.Nat.{mul-le-mul_left}
use Rattle.std.proofs.lemmas.Bool.{cases_Bool}
use Rattle.std.specs.List.{starts_with, position, position_or_len}
use Rattle.std.proofs.lemmas.Bool.Decides.{nat_tests}
use Rattle.std.proofs.lemmas.List.Sums.{prefix_len-le-length}
use Rattle.junit_parts.specs.Bytes.{◌>>=◌, parted_at}
use Rattle.junit_parts.specs.References.{digit_value, number_from}

-- so many bytes more in front of what stands before the mark
abbrev pub put_before : List ℕ → Option (List ℕ × List ℕ) → Option (List ℕ × List ℕ)
put_before front parts = parts >>= λ p. Some (front ++ p.0, p.1)

pub parted_here : (mark bs : List ℕ) → 0 < length bs → starts_with nat_eq bs mark ≡ true → parted_at mark bs ≡ Some ([], drop (length mark) bs)
unfolding parted_at
parted_here mark [] some is = absurd (omega arith)
parted_here mark (b ∷ bs) some is = rw is refl

put_cons : (b : ℕ) (front : List ℕ) (r : Option (List ℕ × List ℕ)) → put_before front (r >>= λ parts. Some (b ∷ parts.0, parts.1)) ≡ put_before (front ++ b ∷ []) r
put_cons b front None = refl
put_cons b front (Some p) = ap (λ x. Some (x, p.1)) (sym (append_assoc front (b ∷ []) p.0))

pub parted_next : (mark front bs : List ℕ) → 0 < length bs → starts_with nat_eq bs mark ≡ false
    → put_before front (parted_at mark bs) ≡ put_before (front ++ take 1 bs) (parted_at mark (drop 1 bs))
unfolding parted_at
parted_next mark front [] some is = absurd (omega arith)
parted_next mark front (b ∷ bs) some is = rw is (put_cons b front (parted_at mark bs))

pub parted_none : (mark : List ℕ) → parted_at mark [] ≡ None
unfolding parted_at
parted_none mark = refl

pub number_from_cons : (base so_far b : ℕ) (bs : List ℕ) → number_from base so_far (b ∷ bs) ≡ number_from base (base * so_far + digit_value b) bs
unfolding number_from
number_from_cons base so_far b bs = refl

pub number_from_none : (base so_far : ℕ) → number_from base so_far [] ≡ so_far
unfolding number_from
number_from_none base so_far = refl

-- no place where a test passes, so that all of the bytes stand before it
pub no_place : (p : ℕ → Bool) (xs : List ℕ) → None ≡ position p xs → length xs ≡ position_or_len p xs
no_place p xs e = grind (arith, nat_tests, prefix_len-le-length (λ x. not (p x)) xs, e)

stays : (base so_far cap : ℕ) (bs : List ℕ) → 1 ≤ base → cap ≤ so_far → cap ≤ number_from base so_far bs
unfolding number_from
stays base so_far cap [] some above = above
stays base so_far cap (b ∷ bs) some above =
    let more : so_far * 1 ≤ so_far * base = mul-le-mul_left so_far some in
    stays base (base * so_far + digit_value b) cap bs some (omega (arith, more))

or_above : (a b : ℕ) → (a ≤ b) ⊎ (b ≤ a)
or_above a b = elim (cases_Bool (nat_le a b)) as (λ t. (a ≤ b) ⊎ (b ≤ a)) [ inl is ↦ inl (grind (arith, nat_tests, is)) | inr is ↦ inr (grind (arith, nat_tests, is)) ]

-- the number that stopped at the cap goes on as the number does
pub capped : (base so_far cap : ℕ) (bs : List ℕ) → 1 ≤ base → min cap (number_from base (min so_far cap) bs) ≡ min cap (number_from base so_far bs)
capped base so_far cap bs some =
    ⊎_elim
    (λ (low : so_far ≤ cap). let same : min so_far cap ≡ so_far = omega arith in ap (λ v. min cap (number_from base v bs)) same)
    (λ (high : cap ≤ so_far).
    let same : min so_far cap ≡ cap = omega arith in
    let one : cap ≤ number_from base cap bs = stays base cap cap bs some (omega arith) in
    let two : cap ≤ number_from base so_far bs = stays base so_far cap bs some high in
    ap (λ v. min cap (number_from base v bs)) same ∙ omega (arith, one, two))
    (or_above so_far cap)

abbrev IsLater : List ℕ → ℕ → List ℕ → Type 0
IsLater mark at bytes = parted_at mark bytes ≡ put_before (take at bytes) (parted_at mark (drop at bytes))

pub found_at : (mark : List ℕ) (at : ℕ) (bytes : List ℕ) → at < length bytes → IsLater mark at bytes → starts_with nat_eq (drop at bytes) mark ≡ true
    → parted_at mark bytes ≡ Some (take at bytes, drop (length mark) (drop at bytes))
found_at mark at bytes within later is =
    let here = parted_here mark (drop at bytes) (omega (arith, length-drop at bytes)) is in
    later ∙ ap (put_before (take at bytes)) here ∙ ap (λ (t : List ℕ). Some (t, drop (length mark) (drop at bytes))) (append-nil (take at bytes))

pub not_at : (mark : List ℕ) (at : ℕ) (bytes : List ℕ) → at < length bytes → IsLater mark at bytes → starts_with nat_eq (drop at bytes) mark ≡ false
    → IsLater mark (at + 1) bytes
not_at mark at bytes within later is =
    let next = parted_next mark (take at bytes) (drop at bytes) (omega (arith, length-drop at bytes)) is in
    let one : drop at bytes ≡ get_or bytes at 0 ∷ drop (at + 1) bytes = drop_more bytes at 0 within in
    let front : take at bytes ++ take 1 (drop at bytes) ≡ take (at + 1) bytes = ap (λ t. take at bytes ++ take 1 t) one ∙ sym (take_more bytes at 0 within) in
    let behind : drop 1 (drop at bytes) ≡ drop (at + 1) bytes = ap (drop 1) one in
    later ∙ next ∙ ap (λ f. put_before f (parted_at mark (drop 1 (drop at bytes)))) front ∙ ap (λ t. put_before (take (at + 1) bytes) (parted_at mark t)) behind

pub never : (mark : List ℕ) (at : ℕ) (bytes : List ℕ) → length bytes ≤ at → IsLater mark at bytes → parted_at mark bytes ≡ None
never mark at bytes past later =
    let none : drop at bytes ≡ [] = nil_from_length (drop at bytes) (omega (arith, length-drop at bytes)) in
    later ∙ ap (λ t. put_before (take at bytes) (parted_at mark t)) none ∙ ap (put_before (take at bytes)) (parted_none mark)

pub number_ends : (base so_far cap at : ℕ) (digits : List ℕ) → length digits ≤ at → so_far ≤ cap → so_far ≡ min cap (number_from base so_far (drop at digits))
number_ends base so_far cap at digits past few =
    let none : drop at digits ≡ [] = nil_from_length (drop at digits) (omega (arith, length-drop at digits)) in
    let same : min cap so_far ≡ so_far = omega arith in
    sym (ap (λ ds. min cap (number_from base so_far ds)) none ∙ ap (min cap) (number_from_none base so_far) ∙ same)
