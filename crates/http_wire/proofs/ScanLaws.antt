-- The search finds the ends of heads: it ends where a head's text does, and nowhere else.
use Rattle.std.proofs.Common.{◌≡◌, ◌≢◌, ℕ, suc, ◌+◌, ◌<◌, inl, inr, Bool, true, false, cond, List, [], ◌∷◌, ◌++◌, length, take, get_or, Option, Some, None, refl, sym, ap, ◌∙◌, subst, arith, append_assoc, length-append, nat_eq}
use Rattle.std.proofs.lemmas.List.{take_more}
use Rattle.std.proofs.lemmas.Bool.{ne_eqb, eqb-true, eqb-false}
use Rattle.std.specs.List.{AllByRecursion}
use Rattle.http_wire.specs.Head.{line_bytes, lines_bytes, IsEmptyText, IsFilledText, IsHeadText}
use Rattle.http_wire.specs.Scan.{step_of, after_step, scan, head_end}
use Rattle.http_wire.specs.declared.head_scan.Place.{Place}
use Rattle.http_wire.specs.declared.head_scan.Place.TheVariants.{Before, BeforeCr, FirstLine, LineStart, LineCr, HeaderLine}
use Rattle.http_wire.specs.declared.head_scan.Step.TheVariants.{To, EndsLine, EndsHead}

-- one byte more in front of the rest
pub scan_next : (p : Place) (n k : ℕ) (bytes : List ℕ) (i : ℕ) (rest : List ℕ) → i < length bytes
    → ((rest : List ℕ) → head_end (take i bytes ++ rest) ≡ scan p n k rest)
    → head_end (take (i + 1) bytes ++ rest) ≡ after_step (step_of p (get_or bytes i 0)) n k (λ q m j. scan q m j rest)
unfolding scan
scan_next p n k bytes i rest h passed =
    ap head_end (ap (λ x. x ++ rest) (take_more bytes i 0 h) ∙ append_assoc (take i bytes) (get_or bytes i 0 ∷ []) rest)
    ∙ passed (get_or bytes i 0 ∷ rest)

pub scan_nothing : (p : Place) (n k : ℕ) → scan p n k [] ≡ None
unfolding scan
scan_nothing p n k = refl

-- ---- from a search's end to a head

-- header lines, and the empty line that ends a head
record IsSection (bytes : List ℕ) (count : ℕ) : Type 0 where
  headers : List (List ℕ)
  last : List ℕ
  lines : bytes ≡ lines_bytes headers ++ line_bytes last
  headers_filled : AllByRecursion IsFilledText headers
  last_empty : IsEmptyText last
  counted : count ≡ length headers

-- the rest of a line, and what follows it
record IsLineThen (bytes : List ℕ) (count : ℕ) : Type 0 where
  text : List ℕ
  tail : List ℕ
  parts : bytes ≡ text ++ 10 ∷ tail
  one_line : AllByRecursion (λ b. b ≢ 10) text
  section : IsSection tail count

-- a rest of a header line, which counts
record IsHeaderThen (bytes : List ℕ) (count : ℕ) : Type 0 where
  less : ℕ
  one_more : count ≡ suc less
  line : IsLineThen bytes less

-- what is left of a head at a place
abbrev Left : Place → List ℕ → ℕ → Type 0
Left Before bytes count = IsHeadText bytes count
Left BeforeCr bytes count = IsHeadText (13 ∷ bytes) count
Left FirstLine bytes count = IsLineThen bytes count
Left LineStart bytes count = IsSection bytes count
Left LineCr bytes count = IsSection (13 ∷ bytes) count
Left HeaderLine bytes count = IsHeaderThen bytes count

-- how a search that ends divides the bytes
record Ended (p : Place) (bytes : List ℕ) (n k m j : ℕ) : Type 0 where
  front : List ℕ
  rest : List ℕ
  count : ℕ
  parts : bytes ≡ front ++ rest
  at : m ≡ n + length front
  lines : j ≡ k + count
  left : Left p front count

empty_ends : IsSection (10 ∷ []) 0
empty_ends = record { headers = []; last = []; lines = refl; headers_filled = tt; last_empty = inl refl; counted = refl }

cr_ends : IsSection (13 ∷ 10 ∷ []) 0
cr_ends = record { headers = []; last = 13 ∷ []; lines = refl; headers_filled = tt; last_empty = inr refl; counted = refl }

-- a line that begins with these bytes
pub filled_one : (b : ℕ) (text : List ℕ) → b ≢ 10 → b ≢ 13 → AllByRecursion (λ x. x ≢ 10) text → IsFilledText (b ∷ text)
filled_one b text ten cr rest = record {
  one_line = (ten, rest);
  filled = λ (e : IsEmptyText (b ∷ text)). elim e [
    | inl nothing ↦ cc
    | inr alone ↦ cr (cc)
  ];
}

filled_two : (b : ℕ) (text : List ℕ) → b ≢ 10 → AllByRecursion (λ x. x ≢ 10) text → IsFilledText (13 ∷ b ∷ text)
filled_two b text ten rest = record {
  one_line = ((λ (e : 13 ≡ 10). omega arith), (ten, rest));
  filled = λ (e : IsEmptyText (13 ∷ b ∷ text)). elim e [
    | inl nothing ↦ cc
    | inr alone ↦ cc
  ];
}

header_line : (text tail : List ℕ) (count : ℕ) → IsFilledText text → IsSection tail count → IsSection (text ++ 10 ∷ tail) (suc count)
header_line text tail count filled s = record {
  headers = text ∷ s.headers;
  last = s.last;
  lines = ap (λ x. text ++ 10 ∷ x) s.lines ∙ sym (append_assoc text (10 ∷ []) (lines_bytes s.headers ++ line_bytes s.last))
      ∙ sym (append_assoc (line_bytes text) (lines_bytes s.headers) (line_bytes s.last));
  headers_filled = (filled, s.headers_filled);
  last_empty = s.last_empty;
  counted = ap suc s.counted;
}

first_line : (text tail : List ℕ) (count : ℕ) → IsFilledText text → IsSection tail count → IsHeadText (text ++ 10 ∷ tail) count
first_line text tail count filled s = record {
  before = [];
  first = text;
  headers = s.headers;
  last = s.last;
  lines = ap (λ x. text ++ 10 ∷ x) s.lines ∙ sym (append_assoc text (10 ∷ []) (lines_bytes s.headers ++ line_bytes s.last));
  before_empty = tt;
  first_filled = filled;
  headers_filled = s.headers_filled;
  last_empty = s.last_empty;
  counted = s.counted;
}

blank_line : (text tail : List ℕ) (count : ℕ) → IsEmptyText text → IsHeadText tail count → IsHeadText (text ++ 10 ∷ tail) count
blank_line text tail count empty h =
    let others = line_bytes h.first ++ (lines_bytes h.headers ++ line_bytes h.last) in
    record {
      before = text ∷ h.before;
      first = h.first;
      headers = h.headers;
      last = h.last;
      lines = ap (λ x. text ++ 10 ∷ x) h.lines ∙ sym (append_assoc text (10 ∷ []) (lines_bytes h.before ++ others))
          ∙ sym (append_assoc (line_bytes text) (lines_bytes h.before) others);
      before_empty = (empty, h.before_empty);
      first_filled = h.first_filled;
      headers_filled = h.headers_filled;
      last_empty = h.last_empty;
      counted = h.counted;
    }

-- one byte more in front
more : (p q : Place) (b : ℕ) (bs : List ℕ) (n k m j : ℕ) → Ended q bs (n + 1) k m j
    → ((front : List ℕ) (count : ℕ) → Left q front count → Left p (b ∷ front) count) → Ended p (b ∷ bs) n k m j
more p q b bs n k m j e f = record {
  front = b ∷ e.front;
  rest = e.rest;
  count = e.count;
  parts = ap (λ x. b ∷ x) e.parts;
  at = omega (arith, e.at);
  lines = e.lines;
  left = f e.front e.count e.left;
}

more_line : (b : ℕ) (bs : List ℕ) (n k m j : ℕ) → Ended LineStart bs (n + 1) (k + 1) m j
    → ((front : List ℕ) (count : ℕ) → IsSection front count → IsHeaderThen (b ∷ front) (suc count)) → Ended HeaderLine (b ∷ bs) n k m j
more_line b bs n k m j e f = record {
  front = b ∷ e.front;
  rest = e.rest;
  count = suc e.count;
  parts = ap (λ x. b ∷ x) e.parts;
  at = omega (arith, e.at);
  lines = omega (arith, e.lines);
  left = f e.front e.count e.left;
}

last_byte : (p : Place) (b : ℕ) (bs : List ℕ) (n k m j : ℕ) → Left p (b ∷ []) 0
    → ◌≡◌ {A = Option (ℕ × ℕ)} (Some (n + 1, k)) (Some (m, j)) → Ended p (b ∷ bs) n k m j
last_byte p b bs n k m j left e =
    let pair : ◌≡◌ {A = ℕ × ℕ} (n + 1, k) (m, j) = cc in
    let at : n + 1 ≡ m = ap (λ (x : ℕ × ℕ). x.0) pair in
    let lines : k ≡ j = ap (λ (x : ℕ × ℕ). x.1) pair in
    record { front = b ∷ []; rest = bs; count = 0; parts = refl; at = omega arith; lines = omega arith; left = left }

abbrev Hypothesis : List ℕ → Type 0
Hypothesis bs = (q : Place) (n k m j : ℕ) → scan q n k bs ≡ Some (m, j) → Ended q bs n k m j

is_at : (b c : ℕ) → nat_eq b c ≡ true → b ≡ c
is_at b c e = eqb-true b c e

not_at : (b c : ℕ) → nat_eq b c ≡ false → b ≢ c
not_at b c e = eqb-false b c e

-- the cases of a byte at each place
at_before : (b : ℕ) (bs : List ℕ) (n k m j : ℕ) (ten cr : Bool) → nat_eq b 10 ≡ ten → nat_eq b 13 ≡ cr → Hypothesis bs
    → after_step (cond ten (To Before) (cond cr (To BeforeCr) (To FirstLine))) n k (λ q m' j'. scan q m' j' bs) ≡ Some (m, j)
    → Ended Before (b ∷ bs) n k m j
at_before b bs n k m j true cr t c ih e =
    more Before Before b bs n k m j (ih Before (n + 1) k m j e)
    (λ front count h. subst (λ x. IsHeadText (x ∷ front) count) (sym (is_at b 10 t)) (blank_line [] front count (inl refl) h))
at_before b bs n k m j false true t c ih e =
    more Before BeforeCr b bs n k m j (ih BeforeCr (n + 1) k m j e)
    (λ front count h. subst (λ x. IsHeadText (x ∷ front) count) (sym (is_at b 13 c)) h)
at_before b bs n k m j false false t c ih e =
    more Before FirstLine b bs n k m j (ih FirstLine (n + 1) k m j e)
    (λ front count h. subst (λ x. IsHeadText (b ∷ x) count) (sym h.parts)
    (first_line (b ∷ h.text) h.tail count (filled_one b h.text (not_at b 10 t) (not_at b 13 c) h.one_line) h.section))

at_before_cr : (b : ℕ) (bs : List ℕ) (n k m j : ℕ) (ten : Bool) → nat_eq b 10 ≡ ten → Hypothesis bs
    → after_step (cond ten (To Before) (To FirstLine)) n k (λ q m' j'. scan q m' j' bs) ≡ Some (m, j)
    → Ended BeforeCr (b ∷ bs) n k m j
at_before_cr b bs n k m j true t ih e =
    more BeforeCr Before b bs n k m j (ih Before (n + 1) k m j e)
    (λ front count h. subst (λ x. IsHeadText (13 ∷ x ∷ front) count) (sym (is_at b 10 t)) (blank_line (13 ∷ []) front count (inr refl) h))
at_before_cr b bs n k m j false t ih e =
    more BeforeCr FirstLine b bs n k m j (ih FirstLine (n + 1) k m j e)
    (λ front count h. subst (λ x. IsHeadText (13 ∷ b ∷ x) count) (sym h.parts)
    (first_line (13 ∷ b ∷ h.text) h.tail count (filled_two b h.text (not_at b 10 t) h.one_line) h.section))

at_first : (b : ℕ) (bs : List ℕ) (n k m j : ℕ) (ten : Bool) → nat_eq b 10 ≡ ten → Hypothesis bs
    → after_step (cond ten (To LineStart) (To FirstLine)) n k (λ q m' j'. scan q m' j' bs) ≡ Some (m, j)
    → Ended FirstLine (b ∷ bs) n k m j
at_first b bs n k m j true t ih e =
    more FirstLine LineStart b bs n k m j (ih LineStart (n + 1) k m j e)
    (λ front count h. record { text = []; tail = front; parts = ap (λ x. x ∷ front) (is_at b 10 t); one_line = tt; section = h })
at_first b bs n k m j false t ih e =
    more FirstLine FirstLine b bs n k m j (ih FirstLine (n + 1) k m j e)
    (λ front count h. record { text = b ∷ h.text; tail = h.tail; parts = ap (λ x. b ∷ x) h.parts; one_line = (not_at b 10 t, h.one_line); section = h.section })

at_start : (b : ℕ) (bs : List ℕ) (n k m j : ℕ) (ten cr : Bool) → nat_eq b 10 ≡ ten → nat_eq b 13 ≡ cr → Hypothesis bs
    → after_step (cond ten EndsHead (cond cr (To LineCr) (To HeaderLine))) n k (λ q m' j'. scan q m' j' bs) ≡ Some (m, j)
    → Ended LineStart (b ∷ bs) n k m j
at_start b bs n k m j true cr t c ih e =
    last_byte LineStart b bs n k m j (subst (λ x. IsSection (x ∷ []) 0) (sym (is_at b 10 t)) empty_ends) e
at_start b bs n k m j false true t c ih e =
    more LineStart LineCr b bs n k m j (ih LineCr (n + 1) k m j e)
    (λ front count h. subst (λ x. IsSection (x ∷ front) count) (sym (is_at b 13 c)) h)
at_start b bs n k m j false false t c ih e =
    more LineStart HeaderLine b bs n k m j (ih HeaderLine (n + 1) k m j e)
    (λ front count h. let l = h.line in
    subst (λ x. IsSection (b ∷ x) count) (sym l.parts) (subst (λ x. IsSection (b ∷ (l.text ++ 10 ∷ l.tail)) x) (sym h.one_more)
    (header_line (b ∷ l.text) l.tail h.less (filled_one b l.text (not_at b 10 t) (not_at b 13 c) l.one_line) l.section)))

at_cr : (b : ℕ) (bs : List ℕ) (n k m j : ℕ) (ten : Bool) → nat_eq b 10 ≡ ten → Hypothesis bs
    → after_step (cond ten EndsHead (To HeaderLine)) n k (λ q m' j'. scan q m' j' bs) ≡ Some (m, j)
    → Ended LineCr (b ∷ bs) n k m j
at_cr b bs n k m j true t ih e =
    last_byte LineCr b bs n k m j (subst (λ x. IsSection (13 ∷ x ∷ []) 0) (sym (is_at b 10 t)) cr_ends) e
at_cr b bs n k m j false t ih e =
    more LineCr HeaderLine b bs n k m j (ih HeaderLine (n + 1) k m j e)
    (λ front count h. let l = h.line in
    subst (λ x. IsSection (13 ∷ b ∷ x) count) (sym l.parts) (subst (λ x. IsSection (13 ∷ b ∷ (l.text ++ 10 ∷ l.tail)) x) (sym h.one_more)
    (header_line (13 ∷ b ∷ l.text) l.tail h.less (filled_two b l.text (not_at b 10 t) l.one_line) l.section)))

at_header : (b : ℕ) (bs : List ℕ) (n k m j : ℕ) (ten : Bool) → nat_eq b 10 ≡ ten → Hypothesis bs
    → after_step (cond ten EndsLine (To HeaderLine)) n k (λ q m' j'. scan q m' j' bs) ≡ Some (m, j)
    → Ended HeaderLine (b ∷ bs) n k m j
at_header b bs n k m j true t ih e =
    more_line b bs n k m j (ih LineStart (n + 1) (k + 1) m j e)
    (λ front count h. record {
      less = count;
      one_more = refl;
      line = record { text = []; tail = front; parts = ap (λ x. x ∷ front) (is_at b 10 t); one_line = tt; section = h };
    })
at_header b bs n k m j false t ih e =
    more HeaderLine HeaderLine b bs n k m j (ih HeaderLine (n + 1) k m j e)
    (λ front count h. let l = h.line in record {
      less = h.less;
      one_more = h.one_more;
      line = record { text = b ∷ l.text; tail = l.tail; parts = ap (λ x. b ∷ x) l.parts; one_line = (not_at b 10 t, l.one_line); section = l.section };
    })

ends : (bs : List ℕ) → Hypothesis bs
unfolding scan
ends [] q n k m j e = absurd (let bad : ◌≡◌ {A = Option (ℕ × ℕ)} None (Some (m, j)) = e in cc)
ends (b ∷ bs) Before n k m j e = at_before b bs n k m j (nat_eq b 10) (nat_eq b 13) refl refl (ends bs) e
ends (b ∷ bs) BeforeCr n k m j e = at_before_cr b bs n k m j (nat_eq b 10) refl (ends bs) e
ends (b ∷ bs) FirstLine n k m j e = at_first b bs n k m j (nat_eq b 10) refl (ends bs) e
ends (b ∷ bs) LineStart n k m j e = at_start b bs n k m j (nat_eq b 10) (nat_eq b 13) refl refl (ends bs) e
ends (b ∷ bs) LineCr n k m j e = at_cr b bs n k m j (nat_eq b 10) refl (ends bs) e
ends (b ∷ bs) HeaderLine n k m j e = at_header b bs n k m j (nat_eq b 10) refl (ends bs) e

-- Where the search ends, a head's text ends.
pub head_at_end : (bytes : List ℕ) (n k : ℕ) → head_end bytes ≡ Some (n, k)
    → (text : List ℕ) × (rest : List ℕ) × (bytes ≡ text ++ rest) × (n ≡ length text) × IsHeadText text k
head_at_end bytes n k e =
    let x = ends bytes Before 0 0 n k e in
    (x.front, x.rest, x.parts, omega (arith, x.at), subst (λ c. IsHeadText x.front c) (let same : x.count ≡ k = omega (arith, x.lines) in same) x.left)

-- ---- from a head to a search's end

-- the places of a line: its start, behind a CR there, and in it
record PassesText (p cr q : Place) : Type 0 where
  plain : (b : ℕ) → nat_eq b 10 ≡ false → nat_eq b 13 ≡ false → step_of p b ≡ To q
  return : step_of p 13 ≡ To cr
  behind : (b : ℕ) → nat_eq b 10 ≡ false → step_of cr b ≡ To q
  inside : (b : ℕ) → nat_eq b 10 ≡ false → step_of q b ≡ To q

first_places : PassesText Before BeforeCr FirstLine
first_places = record { plain = λ b t c. rw (t, c); return = refl; behind = λ b t. rw t; inside = λ b t. rw t }

header_places : PassesText LineStart LineCr HeaderLine
header_places = record { plain = λ b t c. rw (t, c); return = refl; behind = λ b t. rw t; inside = λ b t. rw t }

one_step : (p q : Place) (b : ℕ) (bs : List ℕ) (n k : ℕ) → step_of p b ≡ To q → scan p n k (b ∷ bs) ≡ scan q (n + 1) k bs
unfolding scan
one_step p q b bs n k e = ap (λ s. after_step s n k (λ q m j. scan q m j bs)) e

inside_text : (q : Place) → ((b : ℕ) → nat_eq b 10 ≡ false → step_of q b ≡ To q) → (text tail : List ℕ) (n k : ℕ)
    → AllByRecursion (λ b. b ≢ 10) text → scan q n k (text ++ tail) ≡ scan q (n + length text) k tail
inside_text q goes [] tail n k all = ap (λ m. scan q m k tail) (let e : n ≡ n + 0 = omega arith in e)
inside_text q goes (b ∷ text) tail n k all =
    one_step q q b (text ++ tail) n k (goes b (ne_eqb b 10 all.0))
    ∙ inside_text q goes text tail (n + 1) k all.1
    ∙ ap (λ m. scan q m k tail) (let e : n + 1 + length text ≡ n + suc (length text) = omega arith in e)

behind_cr : (p cr q : Place) → PassesText p cr q → (text tail : List ℕ) (n k : ℕ) → AllByRecursion (λ b. b ≢ 10) text
    → ¬ (text ≡ []) → scan cr n k (text ++ tail) ≡ scan q (n + length text) k tail
behind_cr p cr q places [] tail n k all some = absurd (some refl)
behind_cr p cr q places (b ∷ text) tail n k all some =
    one_step cr q b (text ++ tail) n k (places.behind b (ne_eqb b 10 all.0))
    ∙ inside_text q places.inside text tail (n + 1) k all.1
    ∙ ap (λ m. scan q m k tail) (let e : n + 1 + length text ≡ n + suc (length text) = omega arith in e)

at_byte : (p cr q : Place) → PassesText p cr q → (b : ℕ) (text tail : List ℕ) (n k : ℕ) (is_cr : Bool) → nat_eq b 13 ≡ is_cr
    → IsFilledText (b ∷ text) → scan p n k (b ∷ (text ++ tail)) ≡ scan q (n + suc (length text)) k tail
at_byte p cr q places b text tail n k true e filled =
    let is : b ≡ 13 = is_at b 13 e in
    let rest : ¬ (text ≡ []) = λ nothing. filled.filled (inr (cc)) in
    one_step p cr b (text ++ tail) n k (ap (λ x. step_of p x) is ∙ places.return)
    ∙ behind_cr p cr q places text tail (n + 1) k filled.one_line.1 rest
    ∙ ap (λ m. scan q m k tail) (let e : n + 1 + length text ≡ n + suc (length text) = omega arith in e)
at_byte p cr q places b text tail n k false e filled =
    one_step p q b (text ++ tail) n k (places.plain b (ne_eqb b 10 filled.one_line.0) e)
    ∙ inside_text q places.inside text tail (n + 1) k filled.one_line.1
    ∙ ap (λ m. scan q m k tail) (let e : n + 1 + length text ≡ n + suc (length text) = omega arith in e)

passes_text : (p cr q : Place) → PassesText p cr q → (text tail : List ℕ) (n k : ℕ) → IsFilledText text
    → scan p n k (text ++ tail) ≡ scan q (n + length text) k tail
passes_text p cr q places [] tail n k filled = absurd (filled.filled (inl refl))
passes_text p cr q places (b ∷ text) tail n k filled = at_byte p cr q places b text tail n k (nat_eq b 13) refl filled

line_append : (text tail : List ℕ) → line_bytes text ++ tail ≡ text ++ 10 ∷ tail
line_append text tail = append_assoc text (10 ∷ []) tail

line_length : (text : List ℕ) → length (line_bytes text) ≡ length text + 1
line_length text = length-append text (10 ∷ [])

passes_first : (text tail : List ℕ) (n k : ℕ) → IsFilledText text
    → scan Before n k (line_bytes text ++ tail) ≡ scan LineStart (n + length (line_bytes text)) k tail
unfolding scan
passes_first text tail n k filled =
    ap (λ x. scan Before n k x) (line_append text tail)
    ∙ passes_text Before BeforeCr FirstLine first_places text (10 ∷ tail) n k filled
    ∙ ap (λ m. scan LineStart m k tail) (let e : n + length text + 1 ≡ n + length (line_bytes text) = omega (arith, line_length text) in e)

passes_header : (text tail : List ℕ) (n k : ℕ) → IsFilledText text
    → scan LineStart n k (line_bytes text ++ tail) ≡ scan LineStart (n + length (line_bytes text)) (k + 1) tail
unfolding scan
passes_header text tail n k filled =
    ap (λ x. scan LineStart n k x) (line_append text tail)
    ∙ passes_text LineStart LineCr HeaderLine header_places text (10 ∷ tail) n k filled
    ∙ ap (λ m. scan LineStart m (k + 1) tail) (let e : n + length text + 1 ≡ n + length (line_bytes text) = omega (arith, line_length text) in e)

at_blank : (text tail : List ℕ) (n k : ℕ) → IsEmptyText text
    → scan Before n k (line_bytes text ++ tail) ≡ scan Before (n + length (line_bytes text)) k tail
unfolding scan
at_blank text tail n k (inl e) = rw e
at_blank text tail n k (inr e) = rw e (ap (λ m. scan Before m k tail) (let e : n + 1 + 1 ≡ n + 2 = omega arith in e))

at_last : (text tail : List ℕ) (n k : ℕ) → IsEmptyText text
    → scan LineStart n k (line_bytes text ++ tail) ≡ Some (n + length (line_bytes text), k)
unfolding scan
at_last text tail n k (inl e) = rw e
at_last text tail n k (inr e) = rw e (ap (λ m. Some (m, k)) (let e : n + 1 + 1 ≡ n + 2 = omega arith in e))

passes_before : (texts : List (List ℕ)) (tail : List ℕ) (n k : ℕ) → AllByRecursion IsEmptyText texts
    → scan Before n k (lines_bytes texts ++ tail) ≡ scan Before (n + length (lines_bytes texts)) k tail
passes_before [] tail n k all = ap (λ m. scan Before m k tail) (let e : n ≡ n + 0 = omega arith in e)
passes_before (text ∷ texts) tail n k all =
    ap (λ x. scan Before n k x) (append_assoc (line_bytes text) (lines_bytes texts) tail)
    ∙ at_blank text (lines_bytes texts ++ tail) n k all.0
    ∙ passes_before texts tail (n + length (line_bytes text)) k all.1
    ∙ ap (λ m. scan Before m k tail)
    (let e : n + length (line_bytes text) + length (lines_bytes texts) ≡ n + length (line_bytes text ++ lines_bytes texts) = omega (arith, length-append (line_bytes text) (lines_bytes texts)) in e)

passes_headers : (texts : List (List ℕ)) (tail : List ℕ) (n k : ℕ) → AllByRecursion IsFilledText texts
    → scan LineStart n k (lines_bytes texts ++ tail) ≡ scan LineStart (n + length (lines_bytes texts)) (k + length texts) tail
passes_headers [] tail n k all =
    ap (λ (x : ℕ × ℕ). scan LineStart x.0 x.1 tail) (let a : n ≡ n + 0 = omega arith in let b : k ≡ k + 0 = omega arith in λ i. (a i, b i))
passes_headers (text ∷ texts) tail n k all =
    ap (λ x. scan LineStart n k x) (append_assoc (line_bytes text) (lines_bytes texts) tail)
    ∙ passes_header text (lines_bytes texts ++ tail) n k all.0
    ∙ passes_headers texts tail (n + length (line_bytes text)) (k + 1) all.1
    ∙ ap (λ (x : ℕ × ℕ). scan LineStart x.0 x.1 tail)
    (let a : n + length (line_bytes text) + length (lines_bytes texts) ≡ n + length (line_bytes text ++ lines_bytes texts) = omega (arith, length-append (line_bytes text) (lines_bytes texts)) in
    let b : k + 1 + length texts ≡ k + suc (length texts) = omega arith in
    λ i. (a i, b i))

-- A head's text ends a search, whatever follows it.
pub end_of_head : (text rest : List ℕ) (count : ℕ) → IsHeadText text count → head_end (text ++ rest) ≡ Some (length text, count)
end_of_head text rest count h =
    let tail = line_bytes h.last ++ rest in
    let after_first = lines_bytes h.headers ++ tail in
    let n1 = 0 + length (lines_bytes h.before) in
    let n2 = n1 + length (line_bytes h.first) in
    let n3 = n2 + length (lines_bytes h.headers) in
    ap (λ x. scan Before 0 0 x)
    (ap (λ x. x ++ rest) h.lines
    ∙ append_assoc (lines_bytes h.before) (line_bytes h.first ++ (lines_bytes h.headers ++ line_bytes h.last)) rest
    ∙ ap (λ x. lines_bytes h.before ++ x) (append_assoc (line_bytes h.first) (lines_bytes h.headers ++ line_bytes h.last) rest
    ∙ ap (λ x. line_bytes h.first ++ x) (append_assoc (lines_bytes h.headers) (line_bytes h.last) rest)))
    ∙ passes_before h.before (line_bytes h.first ++ after_first) 0 0 h.before_empty
    ∙ passes_first h.first after_first n1 0 h.first_filled
    ∙ passes_headers h.headers tail n2 0 h.headers_filled
    ∙ at_last h.last rest n3 (0 + length h.headers) h.last_empty
    ∙ (let whole : length text ≡ length (lines_bytes h.before) + (length (line_bytes h.first) + (length (lines_bytes h.headers) + length (line_bytes h.last))) =
    ap length h.lines ∙ simp length-append in
    let a : n3 + length (line_bytes h.last) ≡ length text = omega (arith, whole) in
    let b : 0 + length h.headers ≡ count = omega (arith, h.counted) in
    λ i. Some (a i, b i))
