-- The first `#` behind a space, directives, and texts without the spaces at their ends.
use Rattle.std.proofs.Common.{◌≡◌, ◌≢◌, ℕ, zero, suc, ◌+◌, ◌-◌, ◌<◌, ◌≤◌, Bool, true, false, cond, List, [], ◌∷◌, ◌++◌, length, reverse, take, drop, replicate, get_or, codes, refl, sym, ap, ◌∙◌, subst, append-nil, arith}
use Rattle.std.specs.Prelude.{◌==◌, ◌&&◌, Option, Some, None}
use Rattle.std.specs.List.{suffix_len}
use Rattle.std.specs.Str.{bytes_eq, str_eq_ignore_ascii_case, str_to_ascii_lowercase}
use Rattle.std.specs.Char.{to_ascii_lowercase}
use Rattle.std.proofs.lemmas.Bool.Decides.{Decides-eqb}
use Rattle.std.proofs.lemmas.Slice.Eq.{bytes_eq-Decides}
use Rattle.std.proofs.lemmas.List.{drop_at, length-append, length-map, length-replicate, length-take, reverse-append, reverse-reverse, take-append-drop, take_at}
use Rattle.tap_reader.specs.declared.entries.Directive.{Directive}
use Rattle.tap_reader.specs.declared.entries.Directive.TheVariants as directive
use Rattle.tap_reader.specs.LineForms.{begins_word, directive_in, ends_word, hash_place, spaces, trimmed, unspaced}
use Rattle.tap_reader.specs.LineGrammar.{EndsWord, IsDirective, IsFirstHash, IsTrimmed, directive_word, last_from}
use Rattle.tap_reader.proofs.TextLemmas.{NoSpace, blanks, both, both_true, spaces_of, spaces_split, unspaced-no_space, unspaced_of}
use Rattle.tap_reader.proofs.WordLemmas.{word_is, word_of}

-- a `#` behind a space, in a text behind a byte
abbrev HashAt : ℕ → List ℕ → List ℕ → List ℕ → Type 0
HashAt c text before behind = (text ≡ before ++ 35 ∷ behind) × (last_from c before ≡ 32)

hash_found : (c : ℕ) (text : List ℕ) → hash_place c text < length text → HashAt c text (take (hash_place c text) text) (drop (suc (hash_place c text)) text)
hash_found c [] h = absurd (omega arith)
hash_found c (b ∷ bs) h = found_by (c == 32 && b == 35) c b bs refl h (hash_found b bs)
  where
    found_by : (t : Bool) (c b : ℕ) (bs : List ℕ) → (c == 32 && b == 35) ≡ t → cond t 0 (1 + hash_place b bs) < suc (length bs) → (hash_place b bs < length bs → HashAt b bs (take (hash_place b bs) bs) (drop (suc (hash_place b bs)) bs)) → HashAt c (b ∷ bs) (take (cond t 0 (1 + hash_place b bs)) (b ∷ bs)) (drop (suc (cond t 0 (1 + hash_place b bs))) (b ∷ bs))
    found_by true c b bs e h ih =
        let p = both (c == 32) (b == 35) e in (ap (λ x. x ∷ bs) ((Decides-eqb b 35).0 p.1), (Decides-eqb c 32).0 p.0)
    found_by false c b bs e h ih =
        let f = ih (omega (arith, h)) in
        let P : ℕ → Type 0 = λ k. HashAt c (b ∷ bs) (take k (b ∷ bs)) (drop (suc k) (b ∷ bs)) in
        subst P (let s : suc (hash_place b bs) ≡ 1 + hash_place b bs = omega arith in s) (ap (λ xs. b ∷ xs) f.0, f.1)

head_of : (x y : ℕ) (xs ys : List ℕ) → x ∷ xs ≡ y ∷ ys → x ≡ y
head_of x y xs ys e = cc

tail_of : (x y : ℕ) (xs ys : List ℕ) → x ∷ xs ≡ y ∷ ys → xs ≡ ys
tail_of x y xs ys e = cc

nil_some : (xs : List ℕ) (y : ℕ) (ys : List ℕ) → [] ≢ xs ++ y ∷ ys
nil_some [] y ys e = cc
nil_some (x ∷ xs) y ys e = cc

cond_most : (t : Bool) (n m : ℕ) → n ≤ m → cond t 0 (1 + n) ≤ suc m
cond_most true n m h = omega arith
cond_most false n m h = omega arith

hash_least : (c : ℕ) (text before behind : List ℕ) → HashAt c text before behind → hash_place c text ≤ length before
hash_least c [] before behind h = absurd (nil_some before 35 behind h.0)
hash_least c (x ∷ xs) [] behind h =
    let t : (c == 32 && x == 35) ≡ true = both_true (c == 32) (x == 35) ((Decides-eqb c 32).1 h.1) ((Decides-eqb x 35).1 (head_of x 35 xs behind h.0)) in
    rw t (omega arith)
hash_least c (x ∷ xs) (y ∷ ys) behind h =
    let same = head_of x y xs (ys ++ 35 ∷ behind) h.0 in
    cond_most (c == 32 && x == 35) (hash_place x xs) (length ys)
    (hash_least x xs ys behind (tail_of x y xs (ys ++ 35 ∷ behind) h.0, ap (λ b. last_from b ys) same ∙ h.1))

pub first_hash : (text : List ℕ) → hash_place 32 text < length text → IsFirstHash text (take (hash_place 32 text) text) (drop (hash_place 32 text + 1) text)
first_hash text h =
    let p = hash_place 32 text in
    let f = hash_found 32 text h in
    record {
      here = record {
        spelled = f.0 ∙ ap (λ k. take p text ++ 35 ∷ drop k text) (let s : suc p ≡ p + 1 = omega arith in s);
        space = f.1;
      };
      first = λ xs ys other. omega (arith, length-take p text, hash_least 32 text xs ys (other.spelled, other.space));
    }

pub first_hash_of : (text before behind : List ℕ) → IsFirstHash text before behind → (hash_place 32 text ≡ length before) × (hash_place 32 text < length text)
first_hash_of text before behind h =
    let p = hash_place 32 text in
    let most : p ≤ length before = hash_least 32 text before behind (h.here.spelled, h.here.space) in
    let len : length text ≡ length before + suc (length behind) = ap length h.here.spelled ∙ length-append before (35 ∷ behind) in
    let within : p < length text = omega (arith, most, len) in
    let own = first_hash text within in
    let least : length before ≤ length (take p text) = h.first (take p text) (drop (p + 1) text) own.here in
    (omega (arith, most, least, length-take p text), within)

-- directives

begins_is : (word text : List ℕ) → begins_word word text ≡ true → (str_eq_ignore_ascii_case (take (length word) text) word ≡ true) × EndsWord (drop (length word) text) (drop 1 (drop (length word) text))
begins_is word text e =
    let p = both (str_eq_ignore_ascii_case (take (length word) text) word) (ends_word (drop (length word) text)) e in
    (p.0, word_is (drop (length word) text) p.1)

directive_from : (text : List ℕ) (d : Directive) → length (directive_word d) ≡ 4 → begins_word (directive_word d) (unspaced text) ≡ true → IsDirective text d
directive_from text d len e =
    let n = length (directive_word d) in
    let p = begins_is (directive_word d) (unspaced text) e in
    record {
      indent = spaces text;
      word = take n (unspaced text);
      tail = drop n (unspaced text);
      rest = drop 1 (drop n (unspaced text));
      spelled = spaces_split text ∙ ap (λ xs. replicate (spaces text) 32 ++ xs) (sym (take-append-drop n (unspaced text)));
      in_any_case = p.0;
      ends = p.1;
    }

abbrev pub DirectiveIs : List ℕ → Option Directive → Type 0
DirectiveIs text None = Unit {0}
DirectiveIs text (Some d) = IsDirective text d

directive_by : (s t : Bool) (text : List ℕ) → begins_word (codes "SKIP") (unspaced text) ≡ s → begins_word (codes "TODO") (unspaced text) ≡ t → DirectiveIs text (cond s (Some directive.Skip) (cond t (Some directive.Todo) None))
directive_by true t text p q = directive_from text directive.Skip refl p
directive_by false true text p q = directive_from text directive.Todo refl q
directive_by false false text p q = tt

pub directive_is : (text : List ℕ) → DirectiveIs text (directive_in text)
unfolding directive_in
directive_is text = directive_by (begins_word (codes "SKIP") (unspaced text)) (begins_word (codes "TODO") (unspaced text)) text refl refl

lower_of : (word other : List ℕ) → str_eq_ignore_ascii_case word other ≡ true → str_to_ascii_lowercase word ≡ str_to_ascii_lowercase other
lower_of word other e = (bytes_eq-Decides (str_to_ascii_lowercase word) (str_to_ascii_lowercase other)).0 e

first_letter : (xs : List ℕ) → 115 ≤ get_or xs 0 0 → xs ≢ []
first_letter [] h e = absurd (omega arith)
first_letter (x ∷ xs) h e = cc

no_space_word : (word tail : List ℕ) → 115 ≤ get_or (str_to_ascii_lowercase word) 0 0 → NoSpace (word ++ tail)
no_space_word [] tail h = absurd (omega arith)
no_space_word (b ∷ bs) tail h = λ rest e.
    let same : b ≡ 32 = head_of b 32 (bs ++ tail) rest e in
    let low : to_ascii_lowercase b ≡ 32 = ap to_ascii_lowercase same in
    absurd (omega (arith, low, h))

letter_of : (d : Directive) (word : List ℕ) → str_eq_ignore_ascii_case word (directive_word d) ≡ true → (115 ≤ get_or (str_to_ascii_lowercase word) 0 0) × (length word ≡ 4)
letter_of directive.Skip word e =
    let same = lower_of word (codes "SKIP") e in
    (omega (arith, ap (λ xs. get_or xs 0 0) same), sym (length-map word to_ascii_lowercase) ∙ ap length same)
letter_of directive.Todo word e =
    let same = lower_of word (codes "TODO") e in
    (omega (arith, ap (λ xs. get_or xs 0 0) same), sym (length-map word to_ascii_lowercase) ∙ ap length same)

-- what stands behind the spaces of a directive
word_there : (text : List ℕ) (d : Directive) (h : IsDirective text d) → (take 4 (unspaced text) ≡ h.word) × (drop 4 (unspaced text) ≡ h.tail)
word_there text d h =
    let l = letter_of d h.word h.in_any_case in
    let at : unspaced text ≡ h.word ++ h.tail = ap unspaced h.spelled ∙ unspaced_of h.indent (h.word ++ h.tail) (no_space_word h.word h.tail l.0) in
    (ap (take 4) at ∙ take_at h.word h.tail 4 l.1, ap (drop 4) at ∙ drop_at h.word h.tail 4 l.1)

begins_own : (text : List ℕ) (d : Directive) (h : IsDirective text d) → (str_eq_ignore_ascii_case (take 4 (unspaced text)) (directive_word d) && ends_word (drop 4 (unspaced text))) ≡ true
begins_own text d h =
    let w = word_there text d h in
    both_true (str_eq_ignore_ascii_case (take 4 (unspaced text)) (directive_word d)) (ends_word (drop 4 (unspaced text)))
    (ap (λ xs. str_eq_ignore_ascii_case xs (directive_word d)) w.0 ∙ h.in_any_case)
    (ap ends_word w.1 ∙ (word_of h.tail h.rest h.ends).0)

-- a word of TODO is none of SKIP
no_skip : (text : List ℕ) (h : IsDirective text directive.Todo) → begins_word (codes "SKIP") (unspaced text) ≡ false
no_skip text h =
    let w = word_there text directive.Todo h in
    let e : str_eq_ignore_ascii_case (take 4 (unspaced text)) (codes "SKIP") ≡ false =
    ap (λ xs. str_eq_ignore_ascii_case xs (codes "SKIP")) w.0
    ∙ ap (λ xs. bytes_eq xs (str_to_ascii_lowercase (codes "SKIP"))) (lower_of h.word (codes "TODO") h.in_any_case) in
    rw e refl

pub directive_of : (text : List ℕ) (d : Directive) → IsDirective text d → directive_in text ≡ Some d
unfolding directive_in
directive_of text directive.Skip h =
    let e : begins_word (codes "SKIP") (unspaced text) ≡ true = begins_own text directive.Skip h in rw e refl
directive_of text directive.Todo h =
    let e : begins_word (codes "TODO") (unspaced text) ≡ true = begins_own text directive.Todo h in
    rw (no_skip text h, e) refl

-- texts without the spaces at their ends

abbrev space : List ℕ
space = 32 ∷ []

push-replicate : (n : ℕ) → blanks n ++ space ≡ space ++ blanks n
push-replicate zero = refl
push-replicate (suc n) = ap (λ xs. 32 ∷ xs) (push-replicate n)

reverse-replicate : (n : ℕ) → reverse (blanks n) ≡ blanks n
reverse-replicate zero = refl
reverse-replicate (suc n) =
    reverse-append space (blanks n) ∙ ap (λ xs. xs ++ space) (reverse-replicate n) ∙ push-replicate n

-- a text that ends with so many spaces, behind something that ends with none
ends_cut : (text inner : List ℕ) (n : ℕ) → text ≡ inner ++ replicate n 32 → NoSpace (reverse inner) → take (length text - suffix_len (λ b. b == 32) text) text ≡ inner
ends_cut text inner n e h =
    let back : reverse text ≡ replicate n 32 ++ reverse inner =
    ap reverse e ∙ reverse-append inner (replicate n 32) ∙ ap (λ xs. xs ++ reverse inner) (reverse-replicate n) in
    let count : suffix_len (λ b. b == 32) text ≡ n = ap spaces back ∙ spaces_of n (reverse inner) h in
    let len : length text ≡ length inner + n = ap length e ∙ length-append inner (replicate n 32) ∙ ap (λ k. length inner + k) (length-replicate n 32) in
    ap (take (length text - suffix_len (λ b. b == 32) text)) e
    ∙ take_at inner (replicate n 32) (length text - suffix_len (λ b. b == 32) text) (omega (arith, count, len))

-- each text is something that ends with no space, and spaces
ends_split : (text : List ℕ) → text ≡ reverse (unspaced (reverse text)) ++ replicate (spaces (reverse text)) 32
ends_split text =
    let r = reverse text in
    sym (reverse-reverse text) ∙ ap reverse (spaces_split r) ∙ reverse-append (replicate (spaces r) 32) (unspaced r)
    ∙ ap (λ xs. reverse (unspaced r) ++ xs) (reverse-replicate (spaces r))

front_no_space : (text inner back : List ℕ) → text ≡ inner ++ back → NoSpace text → NoSpace inner
front_no_space text inner back e h = λ rest same. h (rest ++ back) (e ∙ ap (λ xs. xs ++ back) same)

no_last : (inner : List ℕ) → NoSpace (reverse inner) → (front : List ℕ) → inner ≢ front ++ 32 ∷ []
no_last inner h front e = h (reverse front) (ap reverse e ∙ reverse-append front (32 ∷ []))

pub trimmed_is : (text : List ℕ) → IsTrimmed text (trimmed text)
unfolding trimmed
trimmed_is text =
    let u = unspaced text in
    let r = reverse u in
    let inner = reverse (unspaced r) in
    let n = spaces r in
    let split : u ≡ inner ++ replicate n 32 = ends_split u in
    let P : List ℕ → Type 0 = λ xs. NoSpace xs in
    let bare : NoSpace (reverse inner) = subst P (sym (reverse-reverse (unspaced r))) (unspaced-no_space r) in
    let cut : trimmed text ≡ inner = ends_cut u inner n split bare in
    let Q : List ℕ → Type 0 = λ xs. IsTrimmed text xs in
    subst Q (sym cut) (record {
      before = spaces text;
      behind = n;
      spelled = spaces_split text ∙ ap (λ xs. replicate (spaces text) 32 ++ xs) split;
      first = front_no_space u inner (replicate n 32) split (unspaced-no_space text);
      last = no_last inner bare;
    })

bare_back : (inner : List ℕ) → ((front : List ℕ) → inner ≢ front ++ 32 ∷ []) → NoSpace (reverse inner)
bare_back inner h rest e = h (reverse rest) (sym (reverse-reverse inner) ∙ ap reverse e ∙ reverse-append (32 ∷ []) rest)

trimmed_from : (text inner : List ℕ) (m n : ℕ) → text ≡ replicate m 32 ++ (inner ++ replicate n 32) → NoSpace inner → NoSpace (reverse inner) → trimmed text ≡ inner
unfolding trimmed
trimmed_from text [] m n e h k =
    let all : text ≡ blanks (m + n) ++ [] = e ∙ both_spaces m n in
    let none : unspaced text ≡ [] = ap unspaced all ∙ unspaced_of (m + n) [] h in
    ap (λ u. take (length u - suffix_len (λ b. b == 32) u) u) none
  where
    both_spaces : (m n : ℕ) → blanks m ++ blanks n ≡ blanks (m + n) ++ []
    both_spaces zero n = ap blanks (let s : n ≡ 0 + n = omega arith in s) ∙ sym (append-nil (blanks (0 + n)))
    both_spaces (suc m) n =
        ap (λ xs. 32 ∷ xs) (both_spaces m n) ∙ ap (λ k. blanks k ++ []) (let s : suc (m + n) ≡ suc m + n = omega arith in s)
trimmed_from text (b ∷ bs) m n e h k =
    let inner = b ∷ bs in
    let here : unspaced text ≡ inner ++ replicate n 32 = ap unspaced e ∙ unspaced_of m (inner ++ replicate n 32) (λ rest same. h bs (ap (λ x. x ∷ bs) (head_of b 32 (bs ++ replicate n 32) rest same))) in
    ends_cut (unspaced text) inner n here k

pub trimmed_of : (text inner : List ℕ) → IsTrimmed text inner → trimmed text ≡ inner
trimmed_of text inner t = trimmed_from text inner t.before t.behind t.spelled t.first (bare_back inner t.last)
