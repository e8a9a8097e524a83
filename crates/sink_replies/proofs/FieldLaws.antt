-- The lines of a head, and its one length.
use Rattle.std.proofs.Common.{◌≡◌, ℕ, ◌+◌, ◌<◌, ◌≤◌, ◌⊎◌, inl, inr, Bool, true, false, ◌&&◌, List, [], ◌∷◌, ◌++◌, length, drop, map, codes, refl, sym, ap, ◌∙◌, subst, arith, append_assoc, append-nil, length-append}
use Rattle.std.proofs.lemmas.Bool.{and_parts, leb-true, le-leb, lt-ltb}
use Rattle.std.proofs.lemmas.Grind.{flat_map-append}
use Rattle.std.proofs.lemmas.List.{take_at, drop_at, map-append, length-map, drop-map}
use Rattle.std.proofs.lemmas.Slice.Eq.{bytes_eq-Decides}
use Rattle.std.proofs.lemmas.Str.Parse.{digits_value-take-le}
use Rattle.std.specs.Prelude.{nat_lt, nat_le}
use Rattle.std.specs.List.{flat_map}
use Rattle.std.specs.Char.{to_ascii_lowercase, is_ascii_digit}
use Rattle.std.specs.Str.{str_eq_ignore_ascii_case, str_to_ascii_lowercase, all_ascii_digits}
use Rattle.std.specs.Str.Parse.{digits_value}
use Rattle.httparse.specs.Grammar.{Field, LineEnd, lf, crlf, print_end, print_field, print_section, field_value, trim_ows}
use Rattle.httparse.specs.Spans.{name_and_value}
use Rattle.http_wire.specs.Form.{values_of, value_if, is_length}
use Rattle.sink_replies.specs.Replies.{IsOneLength}
use Rattle.sink_replies.proofs.CutLaws.{split_one}

abbrev pub wanted : List ℕ
wanted = codes "content-length"

abbrev pub is_named : List ℕ → Bool
is_named name = str_eq_ignore_ascii_case name (codes "content-length")

abbrev pub values : List Field → List (List ℕ)
values fs = values_of (codes "content-length") (map name_and_value fs)

-- ---- the values of lines

pub values_append : (a b : List Field) → values (a ++ b) ≡ values a ++ values b
values_append a b =
    ap (values_of (codes "content-length")) (map-append name_and_value a b)
    ∙ flat_map-append (value_if (codes "content-length")) (map name_and_value a) (map name_and_value b)

value_named : (name value : List ℕ) → is_named name ≡ true → value_if (codes "content-length") (name, value) ≡ value ∷ []
value_named name value e = rw e refl

value_other : (name value : List ℕ) → is_named name ≡ false → value_if (codes "content-length") (name, value) ≡ []
value_other name value e = rw e refl

pub values_named : (f : Field) → is_named f.name ≡ true → values (f ∷ []) ≡ field_value f ∷ []
values_named f e = ap (λ z. z ++ []) (value_named f.name (field_value f) e)

pub values_other : (f : Field) → is_named f.name ≡ false → values (f ∷ []) ≡ []
values_other f e = ap (λ z. z ++ []) (value_other f.name (field_value f) e)

-- a line more that isn't the length
pub one_kept : (before : List Field) (g : Field) (n : ℕ) → IsOneLength (values before) n → is_named g.name ≡ false
    → IsOneLength (values (before ++ g ∷ [])) n
one_kept before g n one other =
    subst (λ vs. IsOneLength vs n) (sym (values_append before (g ∷ []) ∙ ap (λ z. values before ++ z) (values_other g other) ∙ append-nil (values before))) one

-- a line more that is
pub one_more : (before : List Field) (g : Field) (n : ℕ) → values before ≡ [] → is_named g.name ≡ true → IsOneLength (field_value g ∷ []) n
    → IsOneLength (values (before ++ g ∷ [])) n
one_more before g n none named one =
    subst (λ vs. IsOneLength vs n) (sym (values_append before (g ∷ []) ∙ ap (λ z. z ++ values (g ∷ [])) none ∙ values_named g named)) one

-- the line that announces no body
abbrev pub zero_line : Field
zero_line = record { name = codes "content-length"; raw = codes "0"; end = lf }

pub zero_is : field_value zero_line ≡ codes "0"
unfolding trim_ows
zero_is = refl

pub one_zero : IsOneLength (codes "0" ∷ []) 0
one_zero = record { value = codes "0"; alone = refl; digits = refl; len_is = refl; small = omega arith }

pub one_at_zero : (g : Field) → field_value g ≡ codes "0" → IsOneLength (field_value g ∷ []) 0
one_at_zero g is = subst (λ v. IsOneLength (v ∷ []) 0) (sym is) one_zero

pub one_last : (before : List Field) → values before ≡ [] → IsOneLength (values (before ++ zero_line ∷ [])) 0
one_last before none = one_more before zero_line 0 none refl (one_at_zero zero_line zero_is)

pub one_behind : (before : List Field) (g : Field) → values before ≡ [] → is_named g.name ≡ false
    → IsOneLength (values (before ++ g ∷ zero_line ∷ [])) 0
one_behind before g none other =
    subst (λ fs. IsOneLength (values fs) 0) (append_assoc before (g ∷ []) (zero_line ∷ []))
    (one_last (before ++ g ∷ []) (values_append before (g ∷ []) ∙ ap (λ z. z ++ values (g ∷ [])) none ∙ values_other g other))

-- ---- where the length stands

-- before a line, in it, or behind it
pub data Place (before : List Field) (f : Field) (after : List Field) : Type 0 where
  seen : (n : ℕ) → IsOneLength (values before) n → is_named f.name ≡ false → Place before f after
  here : (n : ℕ) → values before ≡ [] → is_named f.name ≡ true → IsOneLength (field_value f ∷ []) n → Place before f after
  later : (n : ℕ) → values before ≡ [] → is_named f.name ≡ false → IsOneLength (values after) n → Place before f after

pub place_of : (before : List Field) (f : Field) (after : List Field) (n : ℕ) → IsOneLength (values (before ++ f ∷ after)) n → Place before f after
place_of before f after n one = by_test (is_named f.name) refl
  where
    parts : values before ++ (values (f ∷ []) ++ values after) ≡ one.value ∷ []
    parts = ap (λ z. values before ++ z) (sym (values_append (f ∷ []) after)) ∙ sym (values_append before (f ∷ after)) ∙ one.alone

    alone : IsOneLength (one.value ∷ []) n
    alone = subst (λ vs. IsOneLength vs n) one.alone one

    by_test : (t : Bool) → is_named f.name ≡ t → Place before f after
    by_test true named =
        let whole : values before ++ ((field_value f ∷ []) ++ values after) ≡ one.value ∷ [] =
        ap (λ z. values before ++ (z ++ values after)) (sym (values_named f named)) ∙ parts in
        by_split whole (split_one (values before) ((field_value f ∷ []) ++ values after) one.value whole)
      where
        by_split : values before ++ ((field_value f ∷ []) ++ values after) ≡ one.value ∷ []
            → ((values before ≡ []) × ((field_value f ∷ []) ++ values after ≡ one.value ∷ []))
            ⊎ ((values before ≡ one.value ∷ []) × ((field_value f ∷ []) ++ values after ≡ [])) → Place before f after
        by_split whole (inl x) =
            let last = x.1 in
            let same : one.value ≡ field_value f = cc in
            here n x.0 named (subst (λ v. IsOneLength (v ∷ []) n) same alone)
        by_split whole (inr x) = absurd (let last = x.1 in cc)
    by_test false other =
        let whole : values before ++ values after ≡ one.value ∷ [] =
        ap (λ z. values before ++ (z ++ values after)) (sym (values_other f other)) ∙ parts in
        by_split (split_one (values before) (values after) one.value whole)
      where
        by_split : ((values before ≡ []) × (values after ≡ one.value ∷ [])) ⊎ ((values before ≡ one.value ∷ []) × (values after ≡ [])) → Place before f after
        by_split (inl x) = later n x.0 other (subst (λ vs. IsOneLength vs n) (sym x.1) alone)
        by_split (inr x) = seen n (subst (λ vs. IsOneLength vs n) (sym x.0) alone) other

-- ---- how long lines are

pub trim_nil : trim_ows [] ≡ []
unfolding trim_ows
trim_nil = refl

one_digits : (v : List ℕ) (n : ℕ) → IsOneLength (v ∷ []) n → is_length v ≡ true
one_digits v n one = let all = one.alone in let same : one.value ≡ v = cc in subst (λ z. is_length z ≡ true) same one.digits

pub length_some : (v : List ℕ) → is_length v ≡ true → 0 < length v
length_some [] e = absurd cc
length_some (c ∷ v) e = omega arith

-- its value isn't empty
pub raw_some : (f : Field) (n : ℕ) → IsOneLength (field_value f ∷ []) n → 0 < length f.raw
raw_some f n one = by_raw f.raw refl
  where
    by_raw : (r : List ℕ) → f.raw ≡ r → 0 < length r
    by_raw [] e = absurd (let some = length_some (field_value f) (one_digits (field_value f) n one) in
        let none = ap length (ap trim_ows e ∙ trim_nil) in omega (arith, some, none))
    by_raw (c ∷ r) e = omega arith

-- a text of the name, ASCII case aside
lowered : (name : List ℕ) → is_named name ≡ true → str_to_ascii_lowercase name ≡ codes "content-length"
lowered name e = (bytes_eq-Decides (str_to_ascii_lowercase name) (codes "content-length")).0 e

pub named_length : (name : List ℕ) → is_named name ≡ true → length name ≡ 14
named_length name e = let n = ap length (lowered name e) in let m = length-map name to_ascii_lowercase in omega (arith, n, m)

pub line_length : (f : Field) → length (print_field f) ≡ length f.name + (1 + length f.raw) + length (print_end f.end)
line_length f = let a = length-append (f.name ++ 58 ∷ f.raw) (print_end f.end) in let b = length-append f.name (58 ∷ f.raw) in omega (arith, a, b)

pub end_length : (e : LineEnd) → 0 < length (print_end e)
end_length crlf = omega arith
end_length lf = omega arith

pub section_parts : (f : Field) (fs : List Field) (last : LineEnd) → print_section (f ∷ fs) last ≡ print_field f ++ print_section fs last
section_parts f fs last = append_assoc (print_field f) (flat_map print_field fs) (print_end last)

pub section_some : (fs : List Field) (last : LineEnd) → 0 < length (print_section fs last)
section_some fs last = let a = length-append (flat_map print_field fs) (print_end last) in let b = end_length last in omega (arith, a, b)

pub section_length : (f : Field) (fs : List Field) (last : LineEnd) → length (print_section (f ∷ fs) last) ≡ length (print_field f) + length (print_section fs last)
section_length f fs last =
    let a = ap length (section_parts f fs last) in let b = length-append (print_field f) (print_section fs last) in omega (arith, a, b)

-- lines that have a length
pub section_long : (fs : List Field) (last : LineEnd) (n : ℕ) → IsOneLength (values fs) n → 18 ≤ length (print_section fs last)
section_long [] last n one = absurd (let e = one.alone in cc)
section_long (f ∷ fs) last n one = by_place (λ k x. section_long fs last k x) (place_of [] f fs n one)
  where
    by_place : ((k : ℕ) → IsOneLength (values fs) k → 18 ≤ length (print_section fs last)) → Place [] f fs → 18 ≤ length (print_section (f ∷ fs) last)
    by_place rest (seen k x other) = absurd (let e = x.alone in cc)
    by_place rest (here k none named x) =
        let name = named_length f.name named in
        let raw = raw_some f k x in
        let line = line_length f in
        let whole = section_length f fs last in
        let ends = end_length f.end in
        let some = section_some fs last in
        omega (arith, name, raw, line, whole, ends, some)
    by_place rest (later k none other x) =
        let whole = section_length f fs last in
        let more = rest k x in
        omega (arith, whole, more)

-- ---- names and values that are cut

-- the rest of the name in lower case ends it
pub renamed : (name b m : List ℕ) → is_named name ≡ true → name ≡ b ++ m → is_named (b ++ drop (length b) (codes "content-length")) ≡ true
renamed name b m named is =
    let low = str_to_ascii_lowercase in
    let whole : low b ++ low m ≡ codes "content-length" = sym (map-append to_ascii_lowercase b m) ∙ ap low (sym is) ∙ lowered name named in
    let same : length (low b) ≡ length b = length-map b to_ascii_lowercase in
    let rest : low m ≡ drop (length b) (codes "content-length") =
    sym (drop_at (low b) (low m) (length b) same) ∙ ap (drop (length b)) whole in
    let front : low (drop (length b) (codes "content-length")) ≡ low m =
    sym (drop-map to_ascii_lowercase (length b) (codes "content-length")) ∙ sym rest in
    (bytes_eq-Decides (low (b ++ drop (length b) (codes "content-length"))) (codes "content-length")).1
    (map-append to_ascii_lowercase b (drop (length b) (codes "content-length")) ∙ ap (λ z. low b ++ z) front ∙ whole)

-- a letter more is another name
pub longer_name : (b : List ℕ) → is_named b ≡ true → is_named (b ++ codes "x") ≡ false
longer_name b named = by_test (is_named (b ++ codes "x")) refl
  where
    by_test : (t : Bool) → is_named (b ++ codes "x") ≡ t → t ≡ false
    by_test true e = absurd (let n = named_length b named in let m = named_length (b ++ codes "x") e in
        let both = length-append b (codes "x") in omega (arith, n, m, both))
    by_test false e = refl

both_true : (x y : Bool) → x ≡ true → y ≡ true → (x && y) ≡ true
both_true x y e f = rw (e, f) refl

digits_front : (a b : List ℕ) → all_ascii_digits (a ++ b) ≡ true → all_ascii_digits a ≡ true
digits_front [] b e = refl
digits_front (c ∷ a) b e =
    let both = and_parts (is_ascii_digit c) (all_ascii_digits (a ++ b)) e in
    both_true (is_ascii_digit c) (all_ascii_digits a) both.0 (digits_front a b both.1)

-- a front of a length is a length, and no greater
pub length_front : (a b : List ℕ) (n : ℕ) → IsOneLength ((a ++ b) ∷ []) n → 0 < length a → (k : ℕ) × IsOneLength (a ∷ []) k
length_front a b n one some =
    let whole = one_digits (a ++ b) n one in
    let outer = and_parts (nat_lt 0 (length (a ++ b)) && nat_le (length (a ++ b)) 10) (all_ascii_digits (a ++ b)) whole in
    let inner = and_parts (nat_lt 0 (length (a ++ b))) (nat_le (length (a ++ b)) 10) outer.0 in
    let few = leb-true (length (a ++ b)) 10 inner.1 in
    let both = length-append a b in
    let all = one.alone in
    let same : one.value ≡ a ++ b = cc in
    let value : n ≡ digits_value 10 (a ++ b) = one.len_is ∙ ap (digits_value 10) same in
    let less = digits_value-take-le 10 (a ++ b) (length a) (omega arith) in
    let front = ap (digits_value 10) (take_at a b (length a) refl) in
    let small = one.small in (
      digits_value 10 a,
      record {
        value = a;
        alone = refl;
        digits = both_true (nat_lt 0 (length a) && nat_le (length a) 10) (all_ascii_digits a)
            (both_true (nat_lt 0 (length a)) (nat_le (length a) 10) (lt-ltb 0 (length a) some) (le-leb (length a) 10 (omega (arith, few, both))))
            (digits_front a b outer.1);
        len_is = refl;
        small = omega (arith, value, less, front, small);
      },
    )

-- a name that isn't it, and begins with it, has more bytes
pub unnamed_more : (name b m : List ℕ) → is_named b ≡ true → is_named name ≡ false → name ≡ b ++ m → 0 < length m
unnamed_more name b [] named other is = absurd (let same = ap is_named (is ∙ append-nil b) in let both : true ≡ false = sym named ∙ sym same ∙ other in cc)
unnamed_more name b (c ∷ m) named other is = omega arith

-- a value that begins with white space alone has more bytes
pub digits_more : (f : Field) (q m : List ℕ) (n : ℕ) → f.raw ≡ q ++ m → trim_ows q ≡ [] → IsOneLength (field_value f ∷ []) n → 0 < length m
digits_more f q [] n is none one =
    absurd (let some = length_some (field_value f) (one_digits (field_value f) n one) in
    let nothing = ap length (ap trim_ows (is ∙ append-nil q) ∙ none) in omega (arith, some, nothing))
digits_more f q (c ∷ m) n is none one = omega arith
