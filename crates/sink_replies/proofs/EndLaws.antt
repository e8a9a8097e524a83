-- A head that isn't whole yet: where it goes on as a reply's, it does so with one of a few ends.
use Rattle.std.proofs.Common.{◌≡◌, ℕ, ◌+◌, ◌<◌, ◌≤◌, Bool, true, false, IsTrue, List, [], ◌∷◌, ◌++◌, length, drop, codes, refl, sym, ap, ◌∙◌, subst, arith, append_assoc, append-nil, length-append, length-drop, ◌-◌}
use Rattle.std.proofs.lemmas.Grind.{flat_map-append}
use Rattle.std.proofs.lemmas.List.{drop-drop, drop-append-le}
use Rattle.std.proofs.lemmas.List.Sums.{AllPass-from_list_all}
use Rattle.std.proofs.lemmas.List.Elements.{All-append, All-drop, All-cons, All-nil, All-head}
use Rattle.std.specs.Prelude.{All, Option}
use Rattle.std.specs.List.{flat_map}
use Rattle.httparse.specs.Grammar.{ResponseHead, IsResponseHead, Field, IsField, LineEnd, lf, crlf, print_end, print_blank, print_version, print_reason, reason_phrase, print_field, print_section, print_response, field_value, is_token_byte, is_value_byte, AllPass, trim_ows}
use Rattle.httparse.proofs.GrammarLemmas.{cons-append}
use Rattle.std.specs.Char.{is_ascii_digit}
use Rattle.sink_replies.specs.Replies.{IsOneLength, IsReplyHead, lengths_in}
use Rattle.sink_replies.specs.Ends.{IsHeadAlone, CanEnd, last_lines}
use Rattle.sink_replies.specs.Ends.CanEnd.{by_lines, by_field, by_name, by_letter}
use Rattle.sink_replies.proofs.CutLaws.{Cut, cut, no_append, EndCut, end_cut, All-front, All-back, Front, trimmed_front}
use Rattle.sink_replies.proofs.CutLaws.Cut.{inside, behind}
use Rattle.sink_replies.proofs.CutLaws.EndCut.{before_end, behind_return}
use Rattle.sink_replies.proofs.CutLaws.Front.{blank, begun}
use Rattle.sink_replies.proofs.FieldLaws.{values, is_named, one_kept, one_more, one_last, one_behind, one_at_zero, zero_line, Place, place_of, raw_some, named_length, line_length, end_length, section_length, section_some, section_long, section_parts, renamed, longer_name, length_front, zero_is, unnamed_more, digits_more}
use Rattle.sink_replies.proofs.FieldLaws.Place.{seen, here, later}

-- A reply's head begins with these bytes, and goes on with more.
pub record Begun (bytes more : List ℕ) : Type 0 where
  pub h : ResponseHead
  pub len : ℕ
  pub is_head : IsReplyHead h len
  pub parts : bytes ++ more ≡ print_response h

-- another head that ends no later
made : (bytes more s : List ℕ) (x : Begun bytes more) (k : ResponseHead) (n : ℕ) → IsResponseHead k → length k.fields ≤ 64
    → IsOneLength (lengths_in k) n → bytes ++ s ≡ print_response k → length s ≤ length more → IsHeadAlone (bytes ++ s)
made bytes more s x k n head few one is short = record {
  h = k;
  len = n;
  is_head = record {
    head = head;
    short = (
        let a = ap length is in let b = length-append bytes s in let c = length-append bytes more in let d = ap length x.parts in
        let e = x.is_head.short in omega (arith, a, b, c, d, e, short)
        );
    few = few;
    announced = one;
  };
  parts = is;
}

-- ---- the lines of fields

abbrev pub start : ResponseHead → List ℕ
start h = print_blank h.blank ++ print_version h.minor ++ 32 ∷ h.digits ++ print_reason h.reason ++ print_end h.line_end

abbrev pub lines : List Field → List ℕ
lines fs = flat_map print_field fs

printed : (h : ResponseHead) → print_response h ≡ start h ++ print_section h.fields h.last
unfolding print_response
printed h = refl

-- the bytes end in the lines of fields, behind these
record Lines (bytes more : List ℕ) : Type 0 where
  x : Begun bytes more
  before : List Field
  after : List Field
  fields : x.h.fields ≡ before ++ after
  b : List ℕ
  is : bytes ≡ start x.h ++ (flat_map print_field before ++ b)
  rest : b ++ more ≡ print_section after x.h.last

ok_all : (bytes more : List ℕ) (l : Lines bytes more) → All IsField (l.before ++ l.after)
ok_all bytes more l = subst (All IsField) l.fields l.x.is_head.head.fields

one_all : (bytes more : List ℕ) (l : Lines bytes more) → IsOneLength (values (l.before ++ l.after)) l.x.len
one_all bytes more l = subst (λ fs. IsOneLength (values fs) l.x.len) l.fields l.x.is_head.announced

few_all : (bytes more : List ℕ) (l : Lines bytes more) → length l.before + length l.after ≤ 64
few_all bytes more l =
    let a = ap length l.fields in let b = length-append l.before l.after in let c = l.x.is_head.few in omega (arith, a, b, c)

joined : (fs gs : List Field) (last : LineEnd) → lines fs ++ print_section gs last ≡ print_section (fs ++ gs) last
joined fs gs last = sym (append_assoc (lines fs) (lines gs) (print_end last)) ∙ ap (λ z. z ++ print_end last) (sym (flat_map-append print_field fs gs))

-- other lines behind those before
ended : (bytes more s : List ℕ) (l : Lines bytes more) (gs : List Field) (last : LineEnd) (n : ℕ) → l.b ++ s ≡ print_section gs last
    → All IsField gs → length l.before + length gs ≤ 64 → IsOneLength (values (l.before ++ gs)) n → length s ≤ length more → IsHeadAlone (bytes ++ s)
ended bytes more s l gs last n is all few one short =
    let h = l.x.h in
    let k : ResponseHead = record h { fields = l.before ++ gs; last = last } in
    let ok = l.x.is_head.head in
    made bytes more s l.x k n
    (record {
      minor = ok.minor;
      digits = ok.digits;
      reason = ok.reason;
      fields = All-append IsField l.before gs (All-front IsField l.before l.after (ok_all bytes more l)) all;
    })
    (let a = length-append l.before gs in omega (arith, a, few)) one whole short
  where
    whole : bytes ++ s ≡ print_response (record l.x.h { fields = l.before ++ gs; last = last })
    whole = ap (λ z. z ++ s) l.is ∙ append_assoc (start l.x.h) (lines l.before ++ l.b) s ∙ ap (λ z. start l.x.h ++ z) (append_assoc (lines l.before) l.b s ∙ ap (λ z. lines l.before ++ z) is ∙ joined l.before gs last) ∙ sym (printed (record l.x.h { fields = l.before ++ gs; last = last }))

-- ---- a line that is cut

record Cutting (bytes more : List ℕ) : Type 0 where
  l : Lines bytes more
  f : Field
  fs : List Field
  after_is : l.after ≡ f ∷ fs

ok_line : (bytes more : List ℕ) (c : Cutting bytes more) → IsField c.f
ok_line bytes more c =
    All-head IsField c.f c.fs (subst (All IsField) c.after_is (All-back IsField c.l.before c.l.after (ok_all bytes more c.l)))

place : (bytes more : List ℕ) (c : Cutting bytes more) → Place c.l.before c.f c.fs
place bytes more c =
    place_of c.l.before c.f c.fs c.l.x.len (subst (λ fs. IsOneLength (values (c.l.before ++ fs)) c.l.x.len) c.after_is (one_all bytes more c.l))

room : (bytes more : List ℕ) (c : Cutting bytes more) → length c.l.before + (1 + length c.fs) ≤ 64
room bytes more c = let a = ap length c.after_is in let b = few_all bytes more c.l in omega (arith, a, b)

left_over : (bytes more : List ℕ) (c : Cutting bytes more) → length c.l.b + length more
    ≡ length c.f.name + (1 + length c.f.raw) + length (print_end c.f.end) + length (print_section c.fs c.l.x.h.last)
left_over bytes more c =
    let a = ap length (c.l.rest ∙ ap (λ fs. print_section fs c.l.x.h.last) c.after_is) in
    let b = length-append c.l.b more in
    let d = section_length c.f c.fs c.l.x.h.last in
    let e = line_length c.f in
    omega (arith, a, b, d, e)

token_name : AllPass is_token_byte (codes "content-length")
unfolding is_token_byte
token_name = AllPass-from_list_all is_token_byte (codes "content-length") refl

token_letter : AllPass is_token_byte (codes "x")
unfolding is_token_byte
token_letter = AllPass-from_list_all is_token_byte (codes "x") refl

zero_digit : AllPass is_value_byte (codes "0")
zero_digit = AllPass-from_list_all is_value_byte (codes "0") refl

ok_zero : IsField zero_line
ok_zero = record { name = (omega arith, token_name); raw = zero_digit }

ok_one : (g : Field) → IsField g → All IsField (g ∷ [])
ok_one g ok = All-cons IsField g [] ok (All-nil IsField)

ok_two : (g : Field) → IsField g → All IsField (g ∷ zero_line ∷ [])
ok_two g ok = All-cons IsField g (zero_line ∷ []) ok (ok_one zero_line ok_zero)

some_lines : (fs : List Field) (n : ℕ) → IsOneLength (values fs) n → 0 < length fs
some_lines [] n one = absurd (let e = one.alone in cc)
some_lines (f ∷ fs) n one = omega arith

-- the bytes of a line that was filled up, in its name or its value
name_shape : (name b w r : List ℕ) (gs : List Field) (last : LineEnd) → name ≡ b ++ w
    → print_section (record { name = name; raw = r; end = lf } ∷ gs) last ≡ b ++ (w ++ 58 ∷ r ++ 10 ∷ print_section gs last)
name_shape name b w r gs last is =
    section_parts (record { name = name; raw = r; end = lf }) gs last
    ∙ ap (λ z. z ++ 58 ∷ r ++ 10 ∷ [] ++ print_section gs last) is ∙ regroup b w (58 ∷ r) (print_section gs last)
  where
    regroup : (a b c d : List ℕ) → ((a ++ b) ++ c ++ 10 ∷ []) ++ d ≡ a ++ (b ++ c ++ 10 ∷ d)
    regroup a b c d = simp append_assoc

value_shape : (name raw q r : List ℕ) (e : LineEnd) (gs : List Field) (last : LineEnd) → raw ≡ q ++ r
    → print_section (record { name = name; raw = raw; end = e } ∷ gs) last ≡ (name ++ 58 ∷ q) ++ (r ++ print_end e ++ print_section gs last)
value_shape name raw q r e gs last is =
    section_parts (record { name = name; raw = raw; end = e }) gs last
    ∙ ap (λ z. (name ++ 58 ∷ z) ++ print_end e ++ print_section gs last) is
    ∙ regroup name (58 ∷ q) r (print_end e) (print_section gs last)
  where
    regroup : (a b c d e : List ℕ) → (a ++ (b ++ c) ++ d) ++ e ≡ (a ++ b) ++ (c ++ d ++ e)
    regroup a b c d e = simp append_assoc

-- ---- the ends of a line that is cut

-- before its first byte
at_begin : (bytes more : List ℕ) (c : Cutting bytes more) → c.l.b ≡ [] → CanEnd bytes
at_begin bytes more c none = by_place (place bytes more c)
  where
    l : Lines bytes more
    l = c.l

    left : length more ≡ length c.f.name + (1 + length c.f.raw) + length (print_end c.f.end) + length (print_section c.fs c.l.x.h.last)
    left = let a = left_over bytes more c in let b = ap length none in omega (arith, a, b)

    many : length c.l.before + 1 ≤ 64
    many = let a = room bytes more c in omega (arith, a)

    zero : 18 ≤ length more → values c.l.before ≡ [] → CanEnd bytes
    zero enough nothing = by_lines 14 (omega arith)
        (ended bytes more (codes "content-length:0\n\n") c.l (zero_line ∷ []) lf 0 (ap (λ z. z ++ codes "content-length:0\n\n") none)
        (ok_one zero_line ok_zero) many (one_last c.l.before nothing) enough)

    by_place : Place c.l.before c.f c.fs → CanEnd bytes
    by_place (seen n one other) = by_lines 31 (omega arith)
        (ended bytes more (codes "\n") c.l [] lf n (ap (λ z. z ++ codes "\n") none) (All-nil IsField) (let a = many in omega (arith, a))
        (subst (λ fs. IsOneLength (values fs) n) (sym (append-nil c.l.before)) one) (let a = left in omega (arith, a)))
    by_place (here n nothing named one) =
        zero (let a = left in let b = named_length c.f.name named in let d = raw_some c.f n one in let e = end_length c.f.end in
        let g = section_some c.fs c.l.x.h.last in omega (arith, a, b, d, e, g)) nothing
    by_place (later n nothing other one) =
        zero (let a = left in let g = section_long c.fs c.l.x.h.last n one in omega (arith, a, g)) nothing

-- in its name
in_name : (bytes more : List ℕ) (c : Cutting bytes more) (m : List ℕ) → c.f.name ≡ c.l.b ++ m → 0 < length c.l.b → CanEnd bytes
in_name bytes more c m name_is some = by_place (is_named c.l.b) refl (place bytes more c)
  where
    b : List ℕ
    b = c.l.b

    left : length more ≡ length m + (1 + length c.f.raw) + length (print_end c.f.end) + length (print_section c.fs c.l.x.h.last)
    left = let a = left_over bytes more c in let n = ap length name_is in let d = length-append c.l.b m in omega (arith, a, n, d)

    many : length c.l.before + (1 + length c.fs) ≤ 64
    many = room bytes more c

    token : AllPass is_token_byte c.l.b
    token = All-front (λ x. IsTrue (is_token_byte x)) c.l.b m (subst (AllPass is_token_byte) name_is (ok_line bytes more c).name.1)

    ok_named : (w r : List ℕ) → AllPass is_token_byte w → AllPass is_value_byte r → IsField (record { name = c.l.b ++ w; raw = r; end = lf })
    ok_named w r ok fine = record {
      name = (
        (let n = length-append c.l.b w in omega (arith, n, some)),
        All-append (λ x. IsTrue (is_token_byte x)) c.l.b w token ok,
      );
      raw = fine;
    }

    ok_plain : (r : List ℕ) → AllPass is_value_byte r → IsField (record { name = c.l.b; raw = r; end = lf })
    ok_plain r fine = record { name = (some, token); raw = fine }

    nothing_raw : AllPass is_value_byte []
    nothing_raw = All-nil (λ x. IsTrue (is_value_byte x))

    -- the name is whole, and a digit is its value
    digit : is_named c.l.b ≡ true → values c.l.before ≡ [] → 4 ≤ length more → CanEnd bytes
    digit named nothing enough =
        let g : Field = record { name = c.l.b; raw = codes "0"; end = lf } in
        by_lines 28 (omega arith)
        (ended bytes more (codes ":0\n\n") c.l (g ∷ []) lf 0
        (sym (name_shape c.l.b c.l.b [] (codes "0") [] lf (sym (append-nil c.l.b)))) (ok_one g (ok_plain (codes "0") zero_digit))
        (let a = many in omega (arith, a)) (one_more c.l.before g 0 nothing named (one_at_zero g zero_value)) enough)
      where
        zero_value : field_value (record { name = c.l.b; raw = codes "0"; end = lf }) ≡ codes "0"
        zero_value = zero_is

    by_place : (t : Bool) → is_named c.l.b ≡ t → Place c.l.before c.f c.fs → CanEnd bytes
    by_place true named (seen n one other) =
        let g : Field = record { name = c.l.b ++ codes "x"; raw = []; end = lf } in
        by_letter (ended bytes more (codes "x:\n\n") c.l (g ∷ []) lf n
        (sym (name_shape (c.l.b ++ codes "x") c.l.b (codes "x") [] [] lf refl)) (ok_one g (ok_named (codes "x") [] token_letter nothing_raw))
        (let a = many in omega (arith, a)) (one_kept c.l.before g n one (longer_name c.l.b named)) enough)
      where
        enough : 4 ≤ length more
        enough = let rest = unnamed_more c.f.name c.l.b m named other name_is in
            let a = left in let e = end_length c.f.end in let s = section_some c.fs c.l.x.h.last in omega (arith, rest, a, e, s)
    by_place true named (here n nothing whole one) =
        digit named nothing (let a = left in let d = raw_some c.f n one in let e = end_length c.f.end in
        let s = section_some c.fs c.l.x.h.last in omega (arith, a, d, e, s))
    by_place true named (later n nothing other one) =
        digit named nothing (let a = left in let s = section_long c.fs c.l.x.h.last n one in omega (arith, a, s))
    by_place false named (seen n one other) =
        let g : Field = record { name = c.l.b; raw = []; end = lf } in
        by_name (ended bytes more (codes ":\n\n") c.l (g ∷ []) lf n (sym (name_shape c.l.b c.l.b [] [] [] lf (sym (append-nil c.l.b))))
        (ok_one g (ok_plain [] nothing_raw)) (let a = many in omega (arith, a)) (one_kept c.l.before g n one named)
        (let a = left in let e = end_length c.f.end in let s = section_some c.fs c.l.x.h.last in omega (arith, a, e, s)))
    by_place false named (here n nothing whole one) =
        let w = drop (length c.l.b) (codes "content-length") in
        let g : Field = record { name = c.l.b ++ w; raw = codes "0"; end = lf } in
        by_lines (14 + length c.l.b) (let a = long in omega (arith, a))
        (subst (λ s. IsHeadAlone (bytes ++ s)) (drop-drop (length c.l.b) 14 last_lines)
        (ended bytes more (drop (length c.l.b) (codes "content-length:0\n\n")) c.l (g ∷ []) lf 0
        (ap (λ z. c.l.b ++ z) (tail_is ∙ sym (append_assoc w (codes ":0") (codes "\n\n"))) ∙ sym (name_shape (c.l.b ++ w) c.l.b w (codes "0") [] lf refl))
        (ok_one g (ok_named w (codes "0") (All-drop (λ x. IsTrue (is_token_byte x)) (length c.l.b) (codes "content-length") token_name) zero_digit))
        (let a = many in omega (arith, a))
        (one_more c.l.before g 0 nothing (renamed c.f.name c.l.b m whole name_is) (one_at_zero g zero_is))
        (let a = left in let t = tail_length in let u = long in let d = raw_some c.f n one in let e = end_length c.f.end in
        let s = section_some c.fs c.l.x.h.last in omega (arith, a, t, u, d, e, s))))
      where
        long : length c.l.b + length m ≡ 14
        long = let n = ap length name_is in let d = length-append c.l.b m in let k = named_length c.f.name whole in omega (arith, n, d, k)

        tail_is : drop (length c.l.b) (codes "content-length:0\n\n") ≡ drop (length c.l.b) (codes "content-length") ++ codes ":0\n\n"
        tail_is = drop-append-le (length c.l.b) (codes "content-length") (codes ":0\n\n") (let a = long in omega (arith, a))

        tail_length : length (drop (length c.l.b) (codes "content-length:0\n\n")) ≡ 18 - length c.l.b
        tail_length = length-drop (length c.l.b) (codes "content-length:0\n\n")
    by_place false named (later n nothing other one) =
        let g : Field = record { name = c.l.b; raw = []; end = lf } in
        by_field (ended bytes more (codes ":\ncontent-length:0\n\n") c.l (g ∷ zero_line ∷ []) lf 0
        (sym (name_shape c.l.b c.l.b [] [] (zero_line ∷ []) lf (sym (append-nil c.l.b)))) (ok_two g (ok_plain [] nothing_raw))
        (let a = many in let f = some_lines c.fs n one in omega (arith, a, f)) (one_behind c.l.before g nothing named)
        (let a = left in let e = end_length c.f.end in let s = section_long c.fs c.l.x.h.last n one in omega (arith, a, e, s)))

-- behind its colon
in_value : (bytes more : List ℕ) (c : Cutting bytes more) (q m : List ℕ) → c.f.raw ≡ q ++ m → c.l.b ≡ c.f.name ++ 58 ∷ q → CanEnd bytes
in_value bytes more c q m raw_is b_is = by_place (place bytes more c)
  where
    left : length more ≡ length m + length (print_end c.f.end) + length (print_section c.fs c.l.x.h.last)
    left = let a = left_over bytes more c in let n = ap length raw_is in let d = length-append q m in
        let e = ap length b_is in let f = length-append c.f.name (58 ∷ q) in omega (arith, a, n, d, e, f)

    many : length c.l.before + (1 + length c.fs) ≤ 64
    many = room bytes more c

    fine : AllPass is_value_byte q
    fine = All-front (λ x. IsTrue (is_value_byte x)) q m (subst (AllPass is_value_byte) raw_is (ok_line bytes more c).raw)

    ok : (r : List ℕ) → AllPass is_value_byte r → IsField (record { name = c.f.name; raw = r; end = lf })
    ok r good = record { name = (ok_line bytes more c).name; raw = good }

    filled : (r : List ℕ) (gs : List Field) → c.l.b ++ (r ++ 10 ∷ [] ++ print_section gs lf)
        ≡ print_section (record { name = c.f.name; raw = q ++ r; end = lf } ∷ gs) lf
    filled r gs = ap (λ z. z ++ (r ++ 10 ∷ [] ++ print_section gs lf)) b_is ∙ sym (value_shape c.f.name (q ++ r) q r lf gs lf refl)

    plain : (gs : List Field) → c.l.b ++ (10 ∷ [] ++ print_section gs lf) ≡ print_section (record { name = c.f.name; raw = q; end = lf } ∷ gs) lf
    plain gs = ap (λ z. z ++ (10 ∷ [] ++ print_section gs lf)) b_is ∙ sym (value_shape c.f.name q q [] lf gs lf (sym (append-nil q)))

    by_place : Place c.l.before c.f c.fs → CanEnd bytes
    by_place (seen n one other) =
        let g : Field = record { name = c.f.name; raw = q; end = lf } in
        by_lines 30 (omega arith) (ended bytes more (codes "\n\n") c.l (g ∷ []) lf n (plain []) (ok_one g (ok q fine))
        (let a = many in omega (arith, a)) (one_kept c.l.before g n one other)
        (let a = left in let e = end_length c.f.end in let s = section_some c.fs c.l.x.h.last in omega (arith, a, e, s)))
    by_place (later n nothing other one) =
        let g : Field = record { name = c.f.name; raw = q; end = lf } in
        by_lines 13 (omega arith) (ended bytes more (codes "\ncontent-length:0\n\n") c.l (g ∷ zero_line ∷ []) lf 0 (plain (zero_line ∷ [])) (ok_two g (ok q fine))
        (let a = many in let f = some_lines c.fs n one in omega (arith, a, f)) (one_behind c.l.before g nothing other)
        (let a = left in let e = end_length c.f.end in let s = section_long c.fs c.l.x.h.last n one in omega (arith, a, e, s)))
    by_place (here n nothing named one) = by_front (trimmed_front q)
      where
        by_front : Front q → CanEnd bytes
        by_front (blank digit_is none) =
            let g : Field = record { name = c.f.name; raw = q ++ codes "0"; end = lf } in
            by_lines 29 (omega arith) (ended bytes more (codes "0\n\n") c.l (g ∷ []) lf 0 (filled (codes "0") [])
            (ok_one g (ok (q ++ codes "0") (All-append (λ x. IsTrue (is_value_byte x)) q (codes "0") fine zero_digit)))
            (let a = many in omega (arith, a)) (one_more c.l.before g 0 nothing named (one_at_zero g digit_is))
            (let a = left in let d = digits_more c.f q m n raw_is none one in let e = end_length c.f.end in
            let s = section_some c.fs c.l.x.h.last in omega (arith, a, d, e, s)))
        by_front (begun some front) =
            let g : Field = record { name = c.f.name; raw = q; end = lf } in
            let whole = front m in
            let short = length_front (trim_ows q) whole.0 n (subst (λ v. IsOneLength (v ∷ []) n) (ap trim_ows raw_is ∙ whole.1) one) some in
            by_lines 30 (omega arith) (ended bytes more (codes "\n\n") c.l (g ∷ []) lf short.0 (plain []) (ok_one g (ok q fine))
            (let a = many in omega (arith, a)) (one_more c.l.before g short.0 nothing named short.1)
            (let a = left in let e = end_length c.f.end in let s = section_some c.fs c.l.x.h.last in omega (arith, a, e, s)))

-- behind the CR at its end
behind_cr : (bytes more : List ℕ) (c : Cutting bytes more) → c.f.end ≡ crlf → c.l.b ≡ c.f.name ++ 58 ∷ c.f.raw ++ 13 ∷ [] → CanEnd bytes
behind_cr bytes more c end_is b_is = by_place (place bytes more c)
  where
    left : length more ≡ 1 + length (print_section c.fs c.l.x.h.last)
    left = let a = left_over bytes more c in let e = ap length b_is in let d = length-append (c.f.name ++ 58 ∷ c.f.raw) (13 ∷ []) in
        let f = length-append c.f.name (58 ∷ c.f.raw) in let g = ap (λ z. length (print_end z)) end_is in omega (arith, a, d, e, f, g)

    many : length c.l.before + (1 + length c.fs) ≤ 64
    many = room bytes more c

    g : Field
    g = record { name = c.f.name; raw = c.f.raw; end = crlf }

    ok : IsField (record { name = c.f.name; raw = c.f.raw; end = crlf })
    ok = record { name = (ok_line bytes more c).name; raw = (ok_line bytes more c).raw }

    filled : (gs : List Field) → c.l.b ++ (10 ∷ print_section gs lf) ≡ print_section (record { name = c.f.name; raw = c.f.raw; end = crlf } ∷ gs) lf
    filled gs = ap (λ z. z ++ 10 ∷ print_section gs lf) b_is ∙ append_assoc (c.f.name ++ 58 ∷ c.f.raw) (13 ∷ []) (10 ∷ print_section gs lf)
        ∙ sym (value_shape c.f.name c.f.raw c.f.raw [] crlf gs lf (sym (append-nil c.f.raw)))

    by_place : Place c.l.before c.f c.fs → CanEnd bytes
    by_place (seen n one other) =
        by_lines 30 (omega arith) (ended bytes more (codes "\n\n") c.l (record { name = c.f.name; raw = c.f.raw; end = crlf } ∷ []) lf n (filled [])
        (ok_one (record { name = c.f.name; raw = c.f.raw; end = crlf }) ok)
        (let a = many in omega (arith, a)) (one_kept c.l.before (record { name = c.f.name; raw = c.f.raw; end = crlf }) n one other)
        (let a = left in let s = section_some c.fs c.l.x.h.last in omega (arith, a, s)))
    by_place (here n nothing named one) =
        by_lines 30 (omega arith) (ended bytes more (codes "\n\n") c.l (record { name = c.f.name; raw = c.f.raw; end = crlf } ∷ []) lf n (filled [])
        (ok_one (record { name = c.f.name; raw = c.f.raw; end = crlf }) ok)
        (let a = many in omega (arith, a)) (one_more c.l.before (record { name = c.f.name; raw = c.f.raw; end = crlf }) n nothing named one)
        (let a = left in let s = section_some c.fs c.l.x.h.last in omega (arith, a, s)))
    by_place (later n nothing other one) =
        by_lines 13 (omega arith)
        (ended bytes more (codes "\ncontent-length:0\n\n") c.l (record { name = c.f.name; raw = c.f.raw; end = crlf } ∷ zero_line ∷ []) lf 0 (filled (zero_line ∷ []))
        (ok_two (record { name = c.f.name; raw = c.f.raw; end = crlf }) ok)
        (let a = many in let f = some_lines c.fs n one in omega (arith, a, f))
        (one_behind c.l.before (record { name = c.f.name; raw = c.f.raw; end = crlf }) nothing other)
        (let a = left in let s = section_long c.fs c.l.x.h.last n one in omega (arith, a, s)))

-- ---- the lines of fields that are cut anywhere

in_line : (bytes more : List ℕ) (c : Cutting bytes more) (y : ℕ) (m : List ℕ) → print_field c.f ≡ c.l.b ++ y ∷ m → CanEnd bytes
in_line bytes more c y m line_is = by_first c.l.b refl
  where
    whole : c.l.b ++ y ∷ m ≡ c.f.name ++ (58 ∷ (c.f.raw ++ print_end c.f.end))
    whole = sym line_is ∙ append_assoc c.f.name (58 ∷ c.f.raw) (print_end c.f.end)

    at_end : (b : List ℕ) → c.l.b ≡ c.f.name ++ 58 ∷ (c.f.raw ++ b) → EndCut c.f.end b → CanEnd bytes
    at_end b is (before_end none) =
        in_value bytes more c c.f.raw [] (sym (append-nil c.f.raw))
        (is ∙ ap (λ z. c.f.name ++ 58 ∷ z) (ap (λ z. c.f.raw ++ z) none ∙ append-nil c.f.raw))
    at_end b is (behind_return cr end_is) =
        behind_cr bytes more c end_is (is ∙ ap (λ z. c.f.name ++ 58 ∷ (c.f.raw ++ z)) cr ∙ sym (append_assoc c.f.name (58 ∷ c.f.raw) (13 ∷ [])))

    by_raw : (b : List ℕ) → c.l.b ≡ c.f.name ++ 58 ∷ b → Cut b (y ∷ m) c.f.raw (print_end c.f.end) → CanEnd bytes
    by_raw b is (inside z n raw_is rest) = in_value bytes more c b (z ∷ n) raw_is is
    by_raw b is (behind n b_is rest) = at_end n (is ∙ ap (λ z. c.f.name ++ 58 ∷ z) b_is) (end_cut c.f.end n y m (sym rest))

    by_colon : 0 < length c.l.b → (b : List ℕ) → c.l.b ≡ c.f.name ++ b → b ++ y ∷ m ≡ 58 ∷ (c.f.raw ++ print_end c.f.end) → CanEnd bytes
    by_colon some [] is rest = in_name bytes more c [] (sym (append-nil c.f.name) ∙ sym is ∙ sym (append-nil c.l.b)) some
    by_colon some (k ∷ b) is rest =
        let colon_is : k ≡ 58 = cc in
        let behind_is : b ++ y ∷ m ≡ c.f.raw ++ print_end c.f.end = cc in
        by_raw b (is ∙ ap (λ z. c.f.name ++ z ∷ b) colon_is) (cut b (y ∷ m) c.f.raw (print_end c.f.end) behind_is)

    by_name : 0 < length c.l.b → Cut c.l.b (y ∷ m) c.f.name (58 ∷ (c.f.raw ++ print_end c.f.end)) → CanEnd bytes
    by_name some (inside z n name_is rest) = in_name bytes more c (z ∷ n) name_is some
    by_name some (behind n b_is rest) = by_colon some n b_is rest

    by_first : (b : List ℕ) → c.l.b ≡ b → CanEnd bytes
    by_first [] is = at_begin bytes more c is
    by_first (k ∷ b) is =
        by_name (let n = ap length is in omega (arith, n)) (cut c.l.b (y ∷ m) c.f.name (58 ∷ (c.f.raw ++ print_end c.f.end)) whole)

-- behind the last line
in_last : (bytes more : List ℕ) (l : Lines bytes more) → l.after ≡ [] → 0 < length more → CanEnd bytes
in_last bytes more l none some = by_cut (cut l.b more (print_end l.x.h.last) [] whole)
  where
    whole : l.b ++ more ≡ print_end l.x.h.last ++ []
    whole = l.rest ∙ ap (λ fs. print_section fs l.x.h.last) none ∙ sym (append-nil (print_end l.x.h.last))

    one : IsOneLength (values (l.before ++ [])) l.x.len
    one = subst (λ fs. IsOneLength (values (l.before ++ fs)) l.x.len) none (one_all bytes more l)

    few : length l.before + 0 ≤ 64
    few = let a = few_all bytes more l in omega (arith, a)

    at_end : EndCut l.x.h.last l.b → CanEnd bytes
    at_end (before_end b_is) =
        by_lines 31 (omega arith) (ended bytes more (codes "\n") l [] lf l.x.len (ap (λ z. z ++ codes "\n") b_is) (All-nil IsField) few one (omega (arith, some)))
    at_end (behind_return b_is last_is) =
        by_lines 31 (omega arith) (ended bytes more (codes "\n") l [] crlf l.x.len (ap (λ z. z ++ codes "\n") b_is) (All-nil IsField) few one (omega (arith, some)))

    by_cut : Cut l.b more (print_end l.x.h.last) [] → CanEnd bytes
    by_cut (inside z m end_is rest) = at_end (end_cut l.x.h.last l.b z m end_is)
    by_cut (behind m b_is rest) = absurd (let n = ap length (no_append m more rest).1 in omega (arith, n, some))

pub in_lines : (bytes more : List ℕ) (x : Begun bytes more) (before after : List Field) (b : List ℕ) → x.h.fields ≡ before ++ after
    → bytes ≡ start x.h ++ (lines before ++ b) → b ++ more ≡ print_section after x.h.last → 0 < length more → CanEnd bytes
in_lines bytes more x before [] b fields is rest some =
    in_last bytes more (record { x = x; before = before; after = []; fields = fields; b = b; is = is; rest = rest }) refl some
in_lines bytes more x before (f ∷ fs) b fields is rest some =
    by_cut (λ m p q. in_lines bytes more x (before ++ f ∷ []) fs m (fields ∙ sym (append_assoc before (f ∷ []) fs)) (further m p) q some)
    (cut b more (print_field f) (print_section fs x.h.last) (rest ∙ section_parts f fs x.h.last))
  where
    further : (m : List ℕ) → b ≡ print_field f ++ m → bytes ≡ start x.h ++ (lines (before ++ f ∷ []) ++ m)
    further m p =
        is ∙ ap (λ z. start x.h ++ z) (ap (λ z. lines before ++ z) p ∙ sym (append_assoc (lines before) (print_field f) m)
        ∙ ap (λ z. z ++ m) (ap (λ z. lines before ++ z) (sym (append-nil (print_field f))) ∙ sym (flat_map-append print_field before (f ∷ []))))

    by_cut : ((m : List ℕ) → b ≡ print_field f ++ m → m ++ more ≡ print_section fs x.h.last → CanEnd bytes)
        → Cut b more (print_field f) (print_section fs x.h.last) → CanEnd bytes
    by_cut next (inside z m line_is rest_is) =
        in_line bytes more
        (record {
          l = record { x = x; before = before; after = f ∷ fs; fields = fields; b = b; is = is; rest = rest };
          f = f;
          fs = fs;
          after_is = refl;
        })
        z m line_is
    by_cut next (behind m b_is rest_is) = next m b_is rest_is

-- ---- the status line

abbrev pub behind_reason : ResponseHead → List ℕ
behind_reason h = print_end h.line_end ++ print_section h.fields h.last

abbrev pub behind_digits : ResponseHead → List ℕ
behind_digits h = print_reason h.reason ++ behind_reason h

abbrev pub behind_blank : ResponseHead → List ℕ
behind_blank h = print_version h.minor ++ 32 ∷ (h.digits ++ behind_digits h)

pub printed_right : (h : ResponseHead) → print_response h ≡ print_blank h.blank ++ behind_blank h
unfolding print_response
printed_right h =
    regroup (print_blank h.blank) (print_version h.minor) h.digits (print_reason h.reason) (print_end h.line_end) (print_section h.fields h.last)
  where
    regroup : (a b c d e f : List ℕ) → a ++ b ++ 32 ∷ c ++ d ++ e ++ f ≡ a ++ (b ++ 32 ∷ (c ++ (d ++ (e ++ f))))
    regroup a b c d e f = simp (append_assoc, cons-append)

-- a head of this status line, that announces no body
pub started : (bytes more s : List ℕ) (x : Begun bytes more) (before : List LineEnd) (minor : ℕ) (digits : List ℕ) (reason : Option (List ℕ)) (e : LineEnd)
    → minor ≤ 1 → (length digits ≡ 3) × AllPass is_ascii_digit digits → AllPass is_value_byte (reason_phrase reason)
    → bytes ++ s ≡ print_blank before ++ (print_version minor ++ 32 ∷ (digits ++ (print_reason reason ++ (print_end e ++ codes "content-length:0\n\n"))))
    → length s ≤ length more → IsHeadAlone (bytes ++ s)
started bytes more s x before minor digits reason e small three phrase is short =
    let k : ResponseHead = record { blank = before; minor = minor; digits = digits; reason = reason; line_end = e; fields = zero_line ∷ []; last = lf } in
    made bytes more s x k 0 (record { minor = small; digits = three; reason = phrase; fields = ok_one zero_line ok_zero })
    (omega arith) (one_last [] refl) (is ∙ sym (printed_right k)) short

pub section_enough : (bytes more : List ℕ) (x : Begun bytes more) → 18 ≤ length (print_section x.h.fields x.h.last)
section_enough bytes more x = section_long x.h.fields x.h.last x.len x.is_head.announced

pub reason_enough : (bytes more : List ℕ) (x : Begun bytes more) → 19 ≤ length (behind_reason x.h)
reason_enough bytes more x =
    let a = section_enough bytes more x in let b = end_length x.h.line_end in
    let c = length-append (print_end x.h.line_end) (print_section x.h.fields x.h.last) in omega (arith, a, b, c)

pub digits_enough : (bytes more : List ℕ) (x : Begun bytes more) → 19 ≤ length (behind_digits x.h)
digits_enough bytes more x =
    let a = reason_enough bytes more x in let c = length-append (print_reason x.h.reason) (behind_reason x.h) in omega (arith, a, c)

pub blank_enough : (bytes more : List ℕ) (x : Begun bytes more) → 31 ≤ length (behind_blank x.h)
blank_enough bytes more x =
    let a = digits_enough bytes more x in let c = length-append (print_version x.h.minor) (32 ∷ (x.h.digits ++ behind_digits x.h)) in
    let d = length-append x.h.digits (behind_digits x.h) in let e = x.is_head.head.digits.0 in omega (arith, a, c, d, e)
