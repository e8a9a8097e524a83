-- The texts of the tokens of UTF-8 are UTF-8.
use Rattle.std.proofs.Common.{◌≡◌, ℕ, suc, ◌+◌, ◌<◌, Bool, true, false, cond, ◌==◌, List, [], ◌∷◌, ◌++◌, length, drop, get_or, Option, Some, None, inl, inr, refl, sym, subst, arith, append_assoc, length-append, IsUtf8}
use Rattle.std.specs.Prelude.{⊤}
use Rattle.std.proofs.lemmas.Bool.{cases_eq, ne_eqb}
use Rattle.std.proofs.lemmas.Str.{IsUtf8-drop, IsCharBoundary-after_ascii}
use Rattle.json.specs.Token.{Token, begin_object, end_object, begin_array, end_array, key, string, number, boolean, null, bad}
use Rattle.json.specs.Text.{plain, content}
use Rattle.json.specs.Word.{word, number_before, after_number, is_operator, is_space, head, ends_word}
use Rattle.json.specs.Lex.{Lexeme, token, comma, colon, Class, quote, backslash, operator, space, other, class, operator_lexeme, string_token, Mode, between, in_word, in_string, in_escape, lex_byte, lex, Place, fresh, after_value, after_comma, after_key, begins_colon, may_begin, may_close, if_allowed, place_token, punctuate, tokens}
use Rattle.field_kinds.proofs.TextLaws.{content_utf8}

abbrev pub HasText : Token → Type 0
HasText begin_object = ⊤
HasText end_object = ⊤
HasText begin_array = ⊤
HasText end_array = ⊤
HasText (key s) = IsUtf8 s
HasText (string s) = IsUtf8 s
HasText (number s) = ⊤
HasText (boolean b) = ⊤
HasText null = ⊤
HasText bad = ⊤

abbrev pub HaveTexts : List Token → Type 0
HaveTexts [] = ⊤
HaveTexts (t ∷ ts) = HasText t × HaveTexts ts

abbrev LexemeHasText : Lexeme → Type 0
LexemeHasText (token t) = HasText t
LexemeHasText comma = ⊤
LexemeHasText colon = ⊤

abbrev LexemesHaveTexts : List Lexeme → Type 0
LexemesHaveTexts [] = ⊤
LexemesHaveTexts (l ∷ ls) = LexemeHasText l × LexemesHaveTexts ls

-- what is left of a text in UTF-8
abbrev IsRestOf8 : List ℕ → Type 0
IsRestOf8 xs = (front : List ℕ) × IsUtf8 (front ++ xs)

next_rest : (x : ℕ) (xs : List ℕ) → IsRestOf8 (x ∷ xs) → IsRestOf8 xs
next_rest x xs r = (r.0 ++ x ∷ [], subst IsUtf8 (sym (append_assoc r.0 (x ∷ []) xs)) r.1)

byte_there : (front : List ℕ) (x : ℕ) (xs : List ℕ) → get_or (front ++ x ∷ xs) (length front) 0 ≡ x
byte_there [] x xs = refl
byte_there (y ∷ front) x xs = byte_there front x xs

past_front : (front : List ℕ) (x : ℕ) (xs : List ℕ) → drop (length front + 1) (front ++ x ∷ xs) ≡ xs
past_front [] x xs = refl
past_front (y ∷ front) x xs =
    let next : length (y ∷ front) + 1 ≡ suc (length front + 1) = omega arith in
    rw next (past_front front x xs)

-- what stands behind an ASCII byte
behind_byte : (x : ℕ) (xs : List ℕ) → x < 128 → IsRestOf8 (x ∷ xs) → IsUtf8 xs
behind_byte x xs small r =
    let whole : List ℕ = r.0 ++ x ∷ xs in
    let there : get_or whole (length r.0) 0 < 128 = subst (λ (b : ℕ). b < 128) (sym (byte_there r.0 x xs)) small in
    subst IsUtf8 (past_front r.0 x xs)
    (IsUtf8-drop whole (length r.0 + 1) r.1 (IsCharBoundary-after_ascii whole (length r.0) r.1 (omega (arith, length-append r.0 (x ∷ xs))) there))

no_quote : (a b c : Bool) → cond a backslash (cond b operator (cond c space other)) ≡ quote → ⊥
no_quote true b c e = cc
no_quote false true c e = cc
no_quote false false true e = cc
no_quote false false false e = cc

quote_is : (x : ℕ) → class x ≡ quote → x ≡ 34
quote_is x e = elim (cases_eq x 34) [
  | inl same ↦ same
  | inr differ ↦ absurd (no_quote (x == 92) (is_operator x) (is_space x) (rw (ne_eqb x 34 differ) at e))
]

string_text : (o : Option (List ℕ)) → ((s : List ℕ) → o ≡ Some s → IsUtf8 s) → HasText (string_token o)
string_text None h = tt
string_text (Some s) h = h s refl

either : (b : Bool) (t u : Token) → HasText t → HasText u → HasText (cond b t u)
either true t u p q = p
either false t u p q = q

number_text : (t : List ℕ) (o : Option (List ℕ)) → HasText (number_before t o)
number_text t None = tt
number_text t (Some r) = either (ends_word r) _ bad tt tt

word_text : (t : List ℕ) → HasText (word t)
unfolding word
word_text t =
    either (head t == 116) _ _ (either _ (boolean true) bad tt tt) (either (head t == 102) _ _ (either _ (boolean false) bad tt tt)
    (either (head t == 110) _ _ (either _ null bad tt tt) (number_text t (after_number t))))

one_of : (b : Bool) (t u : Lexeme) → LexemeHasText t → LexemeHasText u → LexemeHasText (cond b t u)
one_of true t u p q = p
one_of false t u p q = q

operator_text : (x : ℕ) → LexemeHasText (operator_lexeme x)
operator_text x =
    one_of (x == 123) _ _ tt (one_of (x == 125) _ _ tt (one_of (x == 91) _ _ tt (one_of (x == 93) _ _ tt (one_of (x == 44) _ _ tt tt))))

byte_texts : (m : Mode) (c : Class) (x : ℕ) (xs : List ℕ) → class x ≡ c → IsRestOf8 (x ∷ xs) → (k : Mode → List Lexeme) → ((next : Mode) → LexemesHaveTexts (k next))
    → LexemesHaveTexts (lex_byte m c x xs k)
byte_texts between quote x xs e r k h =
    let is : x ≡ 34 = quote_is x e in
    (string_text (content plain xs) (λ s g. content_utf8 xs s (behind_byte x xs (omega (arith, is)) r) g), h in_string)
byte_texts between backslash x xs e r k h = (tt, h in_word)
byte_texts between operator x xs e r k h = (operator_text x, h between)
byte_texts between space x xs e r k h = h between
byte_texts between other x xs e r k h = (word_text (x ∷ xs), h in_word)
byte_texts in_word quote x xs e r k h = h in_word
byte_texts in_word backslash x xs e r k h = h in_word
byte_texts in_word operator x xs e r k h = (operator_text x, h between)
byte_texts in_word space x xs e r k h = h between
byte_texts in_word other x xs e r k h = h in_word
byte_texts in_string quote x xs e r k h = h between
byte_texts in_string backslash x xs e r k h = h in_escape
byte_texts in_string operator x xs e r k h = h in_string
byte_texts in_string space x xs e r k h = h in_string
byte_texts in_string other x xs e r k h = h in_string
byte_texts in_escape c x xs e r k h = h in_string

lex_texts : (m : Mode) (xs : List ℕ) → IsRestOf8 xs → LexemesHaveTexts (lex m xs)
unfolding lex
lex_texts m [] r = tt
lex_texts m (x ∷ xs) r = byte_texts m (class x) x xs refl r (λ next. lex next xs) (λ next. lex_texts next xs (next_rest x xs r))

-- ---- commas and colons

allowed_texts : (b : Bool) (t : Token) (k : Place → List Token) (p : Place) → HasText t → HaveTexts (k p) → HaveTexts (if_allowed b t k p)
allowed_texts true t k p this rest = (this, rest)
allowed_texts false t k p this rest = (tt, tt)

placed_texts : (p : Place) (t : Token) (b : Bool) (k : Place → List Token) → HasText t → ((next : Place) → HaveTexts (k next)) → HaveTexts (place_token p t b k)
placed_texts p begin_object b k this h = allowed_texts (may_begin p) begin_object k fresh tt (h fresh)
placed_texts p end_object b k this h = allowed_texts (may_close p) end_object k after_value tt (h after_value)
placed_texts p begin_array b k this h = allowed_texts (may_begin p) begin_array k fresh tt (h fresh)
placed_texts p end_array b k this h = allowed_texts (may_close p) end_array k after_value tt (h after_value)
placed_texts p (key s) b k this h = (tt, tt)
placed_texts p (string s) true k this h = allowed_texts (may_begin p) (key s) k after_key this (h after_key)
placed_texts p (string s) false k this h = allowed_texts (may_begin p) (string s) k after_value this (h after_value)
placed_texts p (number s) b k this h = allowed_texts (may_begin p) (number s) k after_value tt (h after_value)
placed_texts p (boolean v) b k this h = allowed_texts (may_begin p) (boolean v) k after_value tt (h after_value)
placed_texts p null b k this h = allowed_texts (may_begin p) null k after_value tt (h after_value)
placed_texts p bad b k this h = (tt, tt)

punctuated_texts : (p : Place) (ls : List Lexeme) → LexemesHaveTexts ls → HaveTexts (punctuate p ls)
unfolding punctuate
punctuated_texts fresh [] h = tt
punctuated_texts after_value [] h = tt
punctuated_texts after_comma [] h = (tt, tt)
punctuated_texts after_key [] h = (tt, tt)
punctuated_texts fresh (token t ∷ ls) h = placed_texts fresh t (begins_colon ls) _ h.0 (λ next. punctuated_texts next ls h.1)
punctuated_texts after_value (token t ∷ ls) h = placed_texts after_value t (begins_colon ls) _ h.0 (λ next. punctuated_texts next ls h.1)
punctuated_texts after_comma (token t ∷ ls) h = placed_texts after_comma t (begins_colon ls) _ h.0 (λ next. punctuated_texts next ls h.1)
punctuated_texts after_key (token t ∷ ls) h = placed_texts after_key t (begins_colon ls) _ h.0 (λ next. punctuated_texts next ls h.1)
punctuated_texts fresh (comma ∷ ls) h = (tt, tt)
punctuated_texts after_value (comma ∷ ls) h = punctuated_texts after_comma ls h.1
punctuated_texts after_comma (comma ∷ ls) h = (tt, tt)
punctuated_texts after_key (comma ∷ ls) h = (tt, tt)
punctuated_texts fresh (colon ∷ ls) h = (tt, tt)
punctuated_texts after_value (colon ∷ ls) h = (tt, tt)
punctuated_texts after_comma (colon ∷ ls) h = (tt, tt)
punctuated_texts after_key (colon ∷ ls) h = punctuated_texts fresh ls h.1

pub tokens_texts : (text : List ℕ) → IsUtf8 text → HaveTexts (tokens text)
tokens_texts text u = punctuated_texts fresh (lex between text) (lex_texts between text ([], u))
