-- What is read as an attribute is one, and each attribute is read.
use Rattle.std.proofs.Common.{◌≡◌, ℕ, suc, ◌-◌, Bool, true, false, not, ◌||◌, List, [], ◌∷◌, ◌++◌, length, take, drop, Option, Some, None, refl, sym, ap, subst, ◌∙◌, arith}
use Rattle.std.specs.Prelude.{if◌then◌else◌, ◌==◌}
use Rattle.std.specs.List.{list_all, prefix_len, position_or_len}
use Rattle.std.proofs.lemmas.Bool.Decides.{nat_tests}
use Rattle.std.proofs.lemmas.List.{take-append-drop}
use Rattle.junit_parts.specs.Bytes.{◌>>=◌, begins_name, behind_white, byte_from, continues_name, is_white, name_from, run_len, starts_name}
use Rattle.junit_parts.specs.Grammar.{IsAttribute, IsName, IsWhite}
use Rattle.junit_parts.specs.Tags.{AttributeText, attribute_from, closed_by, is_quote, quoted_from}
use Rattle.junit_parts.proofs.RunLemmas.{and_both, if_true, one_more, leads, Same, twice_not, taken_pass, met_front, met_rest}

pub bind_some : {A B : Type 0} (o : Option A) (f : A → Option B) (y : B) → (o >>= f) ≡ Some y → (x : A) × (o ≡ Some x) × (f x ≡ Some y)
bind_some None f y e = absurd cc
bind_some (Some x) f y e = (x, refl, e)

pub if_some : {A : Type 0} (b : Bool) (o : Option A) (y : A) → (if b then o else None) ≡ Some y → (b ≡ true) × (o ≡ Some y)
if_some true o y e = (refl, e)
if_some false o y e = absurd cc

pub same_some : {A : Type 0} (x y : A) → Some x ≡ Some y → x ≡ y
same_some x y e = cc

-- names

continued : (b : ℕ) → starts_name b ≡ true → continues_name b ≡ true
continued b is = rw is refl

pub name_read : (bytes : List ℕ) (r : List ℕ × List ℕ) → name_from bytes ≡ Some r → IsName r.0 × (bytes ≡ r.0 ++ r.1)
unfolding name_from
name_read [] r e = absurd cc
name_read (b ∷ bs) r e =
    let n = run_len continues_name (b ∷ bs) in
    let found = if_some (starts_name b) (Some (take n (b ∷ bs), drop n (b ∷ bs))) r e in
    let is : (take n (b ∷ bs), drop n (b ∷ bs)) ≡ r = same_some _ r found.1 in
    let q : ℕ → Bool = λ x. not (not (continues_name x)) in
    let here : q b ≡ true = twice_not (continues_name b) ∙ continued b found.0 in
    let begins : begins_name (take n (b ∷ bs)) ≡ true = let more = one_more (prefix_len q bs) in rw here (rw more found.0) in
    let P : List ℕ × List ℕ → Type 0 = λ x. IsName x.0 × (b ∷ bs ≡ x.0 ++ x.1) in
    subst P is (record { begins = begins; goes_on = taken_pass continues_name q (λ x. twice_not (continues_name x)) (b ∷ bs) }, sym (take-append-drop n (b ∷ bs)))

pub name_met : (name rest : List ℕ) → IsName name → leads continues_name rest ≡ false → name_from (name ++ rest) ≡ Some (name, rest)
unfolding name_from
name_met [] rest is stops = absurd (let no : false ≡ true = is.begins in cc)
name_met (b ∷ bs) rest is stops =
    let q : ℕ → Bool = λ x. not (not (continues_name x)) in
    let same : Same q continues_name = λ x. twice_not (continues_name x) in
    let first : starts_name b ≡ true = is.begins in
    let front : take (run_len continues_name ((b ∷ bs) ++ rest)) ((b ∷ bs) ++ rest) ≡ b ∷ bs = met_front continues_name q same (b ∷ bs) rest is.goes_on stops in
    let behind : drop (run_len continues_name ((b ∷ bs) ++ rest)) ((b ∷ bs) ++ rest) ≡ rest = met_rest continues_name q same (b ∷ bs) rest is.goes_on stops in
    if_true (starts_name b) _ _ first ∙ (ap (λ (x : List ℕ). Some (x, drop (run_len continues_name ((b ∷ bs) ++ rest)) ((b ∷ bs) ++ rest))) front ∙ ap (λ (x : List ℕ). Some (b ∷ bs, x)) behind)

-- white space, and a byte

abbrev pub white_front : List ℕ → List ℕ
white_front bytes = take (run_len is_white bytes) bytes

pub white_read : (bytes : List ℕ) → IsWhite (white_front bytes) × (bytes ≡ white_front bytes ++ behind_white bytes)
white_read bytes =
    (taken_pass is_white (λ x. not (not (is_white x))) (λ x. twice_not (is_white x)) bytes, sym (take-append-drop (run_len is_white bytes) bytes))

pub white_met : (white rest : List ℕ) → IsWhite white → leads is_white rest ≡ false → behind_white (white ++ rest) ≡ rest
white_met white rest is stops = met_rest is_white (λ x. not (not (is_white x))) (λ x. twice_not (is_white x)) white rest is stops

pub byte_read : (c : ℕ) (bytes rest : List ℕ) → byte_from c bytes ≡ Some rest → bytes ≡ c ∷ rest
unfolding byte_from
byte_read c [] rest e = absurd cc
byte_read c (b ∷ bs) rest e =
    let found = if_some (b == c) (Some bs) rest e in
    let one : b ≡ c = grind (arith, nat_tests, found.0) in
    let two : bs ≡ rest = same_some bs rest found.1 in
    ap (λ x. x ∷ bs) one ∙ ap (λ (x : List ℕ). c ∷ x) two

pub byte_met : (c : ℕ) (rest : List ℕ) → byte_from c (c ∷ rest) ≡ Some rest
unfolding byte_from
byte_met c rest = let same : (c == c) ≡ true = grind (arith, nat_tests) in rw same refl

-- values

abbrev pub kept_byte : ℕ → ℕ → Bool
kept_byte quote b = not (b == quote || b == 60)

pub record IsQuoted (bytes value rest : List ℕ) : Type 0 where
  pub quote : ℕ
  pub quoted : is_quote quote ≡ true
  pub kept : list_all (kept_byte quote) value ≡ true
  pub spelled : bytes ≡ quote ∷ (value ++ quote ∷ rest)

pub quoted_read : (bytes : List ℕ) (r : List ℕ × List ℕ) → quoted_from bytes ≡ Some r → IsQuoted bytes r.0 r.1
unfolding quoted_from
quoted_read [] r e = absurd cc
quoted_read (q ∷ bs) r e =
    let n = position_or_len (λ b. b == q || b == 60) bs in
    let found = if_some (is_quote q) (closed_by q n bs) r e in
    let rest = bind_some (byte_from q (drop n bs)) (λ rest. Some (take n bs, rest)) r found.1 in
    let is : (take n bs, rest.0) ≡ r = same_some _ r rest.2 in
    let P : List ℕ × List ℕ → Type 0 = λ x. IsQuoted (q ∷ bs) x.0 x.1 in
    let split : bs ≡ take n bs ++ q ∷ rest.0 = sym (take-append-drop n bs) ∙ ap (λ (x : List ℕ). take n bs ++ x) (byte_read q (drop n bs) rest.0 rest.1) in
    subst P is (record {
      quote = q;
      quoted = found.0;
      kept = taken_pass (kept_byte q) (kept_byte q) (λ x. refl) bs;
      spelled = ap (λ (x : List ℕ). q ∷ x) split;
    })

quote_stops : (q : ℕ) → kept_byte q q ≡ false
quote_stops q = let same : (q == q) ≡ true = grind (arith, nat_tests) in rw same refl

pub quoted_met : (bytes value rest : List ℕ) → IsQuoted bytes value rest → quoted_from bytes ≡ Some (value, rest)
unfolding quoted_from
quoted_met bytes value rest is =
    let q = is.quote in
    let stops : kept_byte q q ≡ false = quote_stops q in
    let text = value ++ q ∷ rest in
    let front : take (position_or_len (λ b. b == q || b == 60) text) text ≡ value = met_front (kept_byte q) (kept_byte q) (λ x. refl) value (q ∷ rest) is.kept stops in
    let behind : drop (position_or_len (λ b. b == q || b == 60) text) text ≡ q ∷ rest = met_rest (kept_byte q) (kept_byte q) (λ x. refl) value (q ∷ rest) is.kept stops in
    let first : is_quote q ≡ true = is.quoted in
    rw is.spelled (rw first (rw behind (rw front (rw (byte_met q rest) refl))))

-- attributes

less_one : (n : ℕ) → suc n - 1 ≡ n
less_one n = omega arith

pub attribute_read : (bytes rest : List ℕ) (a : AttributeText) → attribute_from bytes ≡ Some (a, rest) → IsAttribute bytes a rest
unfolding attribute_from
attribute_read bytes rest a e =
    let name = bind_some (name_from bytes) _ (a, rest) e in
    let equals = bind_some (byte_from 61 (behind_white name.0.1)) _ (a, rest) name.2 in
    let value = bind_some (quoted_from (behind_white equals.0)) _ (a, rest) equals.2 in
    let is = same_some _ (a, rest) value.2 in
    let named = name_read bytes name.0 name.1 in
    let quoted = quoted_read (behind_white equals.0) value.0 value.1 in
    let one = white_read name.0.1 in
    let two = white_read equals.0 in
    let before : name.0.1 ≡ white_front name.0.1 ++ 61 ∷ equals.0 = one.1 ∙ ap (λ (x : List ℕ). white_front name.0.1 ++ x) (byte_read 61 (behind_white name.0.1) equals.0 equals.1) in
    let behind : equals.0 ≡ white_front equals.0 ++ quoted.quote ∷ (value.0.0 ++ quoted.quote ∷ value.0.1) = two.1 ∙ ap (λ (x : List ℕ). white_front equals.0 ++ x) quoted.spelled in
    let P : AttributeText × List ℕ → Type 0 = λ x. IsAttribute bytes x.0 x.1 in
    let place : length (behind_white equals.0) - 1 ≡ length (value.0.0 ++ quoted.quote ∷ value.0.1) = ap (λ (x : List ℕ). length x - 1) quoted.spelled ∙ less_one (length (value.0.0 ++ quoted.quote ∷ value.0.1)) in
    subst P is (record {
      before = white_front name.0.1;
      behind = white_front equals.0;
      quote = quoted.quote;
      named = named.0;
      white_before = one.0;
      white_behind = two.0;
      quoted = quoted.quoted;
      kept = quoted.kept;
      place = place;
      spelled = named.1 ∙ ap (λ (x : List ℕ). name.0.0 ++ x) (before ∙ ap (λ (x : List ℕ). white_front name.0.1 ++ 61 ∷ x) behind);
    })

-- what stands behind white space, or at once, ends a name
pub white_ends : (b : ℕ) → is_white b ≡ true → continues_name b ≡ false
white_ends b is = grind (arith, nat_tests, is)

pub ends_name : (white rest : List ℕ) → IsWhite white → leads continues_name rest ≡ false → leads continues_name (white ++ rest) ≡ false
ends_name [] rest is stops = stops
ends_name (w ∷ white) rest is stops = white_ends w (and_both (is_white w) (list_all is_white white) is).0

pub quote_is_dark : (b : ℕ) → is_quote b ≡ true → is_white b ≡ false
quote_is_dark b is = grind (arith, nat_tests, is)

pub attribute_met : (bytes rest : List ℕ) (a : AttributeText) → IsAttribute bytes a rest → attribute_from bytes ≡ Some (a, rest)
unfolding attribute_from
attribute_met bytes rest a is =
    let q = is.quote in
    let value = q ∷ (a.value ++ q ∷ rest) in
    let behind = is.behind ++ value in
    let name : name_from (a.name ++ (is.before ++ 61 ∷ behind)) ≡ Some (a.name, is.before ++ 61 ∷ behind) = name_met a.name (is.before ++ 61 ∷ behind) is.named (ends_name is.before (61 ∷ behind) is.white_before refl) in
    let before : behind_white (is.before ++ 61 ∷ behind) ≡ 61 ∷ behind = white_met is.before (61 ∷ behind) is.white_before refl in
    let equals : behind_white behind ≡ value = white_met is.behind value is.white_behind (quote_is_dark q is.quoted) in
    let quoted : quoted_from value ≡ Some (a.value, rest) = quoted_met value a.value rest (record { quote = q; quoted = is.quoted; kept = is.kept; spelled = refl }) in
    let left : length value - 1 ≡ a.left = less_one (length (a.value ++ q ∷ rest)) ∙ sym is.place in
    rw is.spelled (rw name (rw before (rw (byte_met 61 behind) (rw equals (rw quoted (ap (λ n. let b : AttributeText = record { name = a.name; value = a.value; left = n } in Some (b, rest)) left))))))
