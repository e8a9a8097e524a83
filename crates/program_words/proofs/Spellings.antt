-- The words of the grammar, against the words as they are read one by one.
use Rattle.std.proofs.Common.{◌≡◌, ◌≢◌, ◌∙◌, refl, sym, ap, subst, ℕ, ◌==◌, ◌&&◌, ◌||◌, not, cond, Bool, true, false, List, [], ◌∷◌, ◌++◌, length, zero, suc, Option, Some, None, append_assoc, append-nil, arith, codes}
use Rattle.std.specs.Prelude.{if◌then◌else◌, nat_lt, flat_map}
use Rattle.std.specs.List.{list_all, list_any}
use Rattle.std.specs.Str.{bytes_eq}
use Rattle.std.proofs.lemmas.List.Concat.{flat_map-append}
use Rattle.std.proofs.lemmas.List.Folds.{list_all-append}
use Rattle.std.proofs.lemmas.Bool.{eqb-true, eqb-false}
use Rattle.std.specs.Prelude.{option_and_then}
use Rattle.clap.specs.Lexer.{long_of, long_of_rest, strip_byte, name_and_value}
use Rattle.clap.proofs.CutLemmas.{Lacks}
use Rattle.clap.proofs.LexerLemmas.{name_and_value-at, name_and_value-without}
use Rattle.clap.specs.Walk.{Text}
use Rattle.program_words.specs.Options.{OptionRow, Given, spelled, begins_with_dash, has_value, is_option, is_given, are_new}
use Rattle.program_words.specs.Clap.{is_stray}
use Rattle.program_words.proofs.Machine.{Stand, rest, waits, has, given, row_by, adds, added, settle, and_then, named, turn, after, IsKnown}
use Rattle.program_words.proofs.ClapRows.{row_named}
use Rattle.program_words.proofs.Steps.{IsPlainWord}
use Rattle.program_words.proofs.Walks.{Form, names, plain, form_of}

-- ---- what a part of the words gives, behind what was given before

pub record Gives (os : List OptionRow) (before : List Given) (words : List Text) (more : List Given) : Type 0 where
  pub in_words : words ≡ flat_map spelled more
  pub known : list_all (λ g. is_option os g.name) more ≡ true
  pub values : list_all has_value more ≡ true
  pub once : are_new before more ≡ true

pub both_true : (a b : Bool) → (a && b) ≡ true → (a ≡ true) × (b ≡ true)
both_true true b h = (refl, h)
both_true false b h = cc

pub and_true : (a b : Bool) → a ≡ true → b ≡ true → (a && b) ≡ true
and_true true b p q = q
and_true false b p q = cc

gives_none : (os : List OptionRow) (before : List Given) → Gives os before [] []
gives_none os before = record { in_words = refl; known = refl; values = refl; once = refl }

are_new-append : (before xs ys : List Given) → are_new before (xs ++ ys) ≡ (are_new before xs && are_new (before ++ xs) ys)
are_new-append before [] ys = ap (λ b. are_new b ys) (sym (append-nil before))
are_new-append before (x ∷ xs) ys =
    let one : are_new (before ++ x ∷ []) (xs ++ ys) ≡ (are_new (before ++ x ∷ []) xs && are_new (before ++ x ∷ xs) ys) =
    are_new-append (before ++ x ∷ []) xs ys ∙ ap (λ b. are_new (before ++ x ∷ []) xs && are_new b ys) (append_assoc before (x ∷ []) xs) in
    go (not (is_given before x.name)) one
  where
    go : (b : Bool) → are_new (before ++ x ∷ []) (xs ++ ys) ≡ (are_new (before ++ x ∷ []) xs && are_new (before ++ x ∷ xs) ys)
        → (b && are_new (before ++ x ∷ []) (xs ++ ys)) ≡ ((b && are_new (before ++ x ∷ []) xs) && are_new (before ++ x ∷ xs) ys)
    go true e = e
    go false e = refl

gives_both : (os : List OptionRow) (before : List Given) (w1 w2 : List Text) (m1 m2 : List Given) → Gives os before w1 m1 → Gives os (before ++ m1) w2 m2
    → Gives os before (w1 ++ w2) (m1 ++ m2)
gives_both os before w1 w2 m1 m2 a b = record {
  in_words = ap (λ w. w ++ w2) a.in_words ∙ ap (λ w. flat_map spelled m1 ++ w) b.in_words ∙ sym (flat_map-append spelled m1 m2);
  known = list_all-append (λ (g : Given). is_option os g.name) m1 m2 ∙ and_true _ _ a.known b.known;
  values = list_all-append has_value m1 m2 ∙ and_true _ _ a.values b.values;
  once = are_new-append before m1 m2 ∙ and_true _ _ a.once b.once;
}

is_row : (os : List OptionRow) (n : Text) (o : OptionRow) → row_by os n ≡ Some o → is_option os n ≡ true
is_row [] n o e = cc
is_row (x ∷ os) n o e = go (is_row os n o) (bytes_eq x.name n) e
  where
    go : (row_by os n ≡ Some o → is_option os n ≡ true) → (b : Bool) → cond b (Some x) (row_by os n) ≡ Some o → (b || is_option os n) ≡ true
    go others true e = refl
    go others false e = others e

pub row_of : (os : List OptionRow) (n : Text) → is_option os n ≡ true → (o : OptionRow) × (row_by os n ≡ Some o)
row_of [] n e = cc
row_of (x ∷ os) n e = go (row_of os n) (bytes_eq x.name n) e
  where
    go : (is_option os n ≡ true → (o : OptionRow) × (row_by os n ≡ Some o)) → (b : Bool) → (b || is_option os n) ≡ true → (o : OptionRow) × (cond b (Some x) (row_by os n) ≡ Some o)
    go others true e = (x, refl)
    go others false e = others e

-- one more, where it is new and has a value
gives_one : (os : List OptionRow) (before : List Given) (o : OptionRow) (v : Text) (j : Bool) → row_by os o.name ≡ Some o → adds before (given o v j) ≡ true
    → (j || not (begins_with_dash v)) ≡ true → Gives os before (spelled (given o v j)) (given o v j ∷ [])
gives_one os before o v j row new_one fits =
    let parts = both_true (not (is_given before o.name)) (nat_lt 0 (length v)) new_one in
    record {
      in_words = sym (append-nil (spelled (given o v j)));
      known = and_true _ _ (is_row os o.name o row) refl;
      values = and_true _ _ (and_true _ _ parts.1 fits) refl;
      once = and_true _ _ parts.0 refl;
    }

-- ---- words that are read give options

abbrev owed : Stand → List Text
owed rest = []
owed (waits o) = (codes "--" ++ o.name) ∷ []
owed (has o v) = (codes "--" ++ o.name) ∷ v ∷ []

-- the machine read these words, and then had these
pub record ReadMore (os : List OptionRow) (seen : List Given) (words : List Text) (all : List Given) : Type 0 where
  pub more : List Given
  pub all_is : all ≡ seen ++ more
  pub gives : Gives os seen words more

added_more : (os : List OptionRow) (seen all : List Given) (o : OptionRow) (v : Text) (j : Bool) → row_by os o.name ≡ Some o
    → (j || not (begins_with_dash v)) ≡ true → added seen (given o v j) ≡ Some all → ReadMore os seen (spelled (given o v j)) all
added_more os seen all o v j row fits e = go (adds seen (given o v j)) refl e
  where
    go : (b : Bool) → adds seen (given o v j) ≡ b → (if b then Some (seen ++ given o v j ∷ []) else None) ≡ Some all
        → ReadMore os seen (spelled (given o v j)) all
    go true is e = record { more = given o v j ∷ []; all_is = cc; gives = gives_one os seen o v j row is fits }
    go false is e = cc

settled_more : (os : List OptionRow) (seen all : List Given) (st : Stand) → IsKnown os st → settle seen st ≡ Some all → ReadMore os seen (owed st) all
settled_more os seen all rest known e = record { more = []; all_is = let same : seen ≡ all = cc in sym same ∙ sym (append-nil seen); gives = gives_none os seen }
settled_more os seen all (waits o) known e = cc
settled_more os seen all (has o v) known e = added_more os seen all o v false known.0 (ap not known.1) e

then_more : (os : List OptionRow) (seen between all : List Given) (w1 w2 : List Text) → ReadMore os seen w1 between → ReadMore os between w2 all
    → ReadMore os seen (w1 ++ w2) all
then_more os seen between all w1 w2 a b = record {
  more = a.more ++ b.more;
  all_is = b.all_is ∙ ap (λ x. x ++ b.more) a.all_is ∙ append_assoc seen a.more b.more;
  gives = gives_both os seen w1 w2 a.more b.more a.gives (subst (λ x. Gives os x w2 b.more) a.all_is b.gives);
}

-- ---- a text is a name, or a name, `=` and a value

pub data Cut (t : Text) : Type 0 where
  whole : Lacks 61 t → Cut t
  at : (xs ys : Text) → Lacks 61 xs → t ≡ xs ++ 61 ∷ ys → Cut t

lacks_nil : Lacks 61 []
lacks_nil i less = absurd (omega arith)

lacks_cons : (b : ℕ) (bs : Text) → b ≢ 61 → Lacks 61 bs → Lacks 61 (b ∷ bs)
lacks_cons b bs other l zero less = other
lacks_cons b bs other l (suc i) less = l i (omega arith)

cut_more : (b : ℕ) (bs : Text) → b ≢ 61 → Cut bs → Cut (b ∷ bs)
cut_more b bs other (whole l) = whole (lacks_cons b bs other l)
cut_more b bs other (at xs ys l e) = at (b ∷ xs) ys (lacks_cons b xs other l) (ap (λ x. b ∷ x) e)

pub cut_of : (t : Text) → Cut t
cut_of [] = whole lacks_nil
cut_of (b ∷ bs) = go (cut_of bs) (b == 61) refl
  where
    go : Cut bs → (c : Bool) → (b == 61) ≡ c → Cut (b ∷ bs)
    go others true e = at [] bs lacks_nil (ap (λ x. x ∷ bs) (eqb-true b 61 e))
    go others false e = cut_more b bs (eqb-false b 61 e) others

abbrev IsSpelledLong : Text → Text → Option Text → Type 0
IsSpelledLong w n None = w ≡ codes "--" ++ n
IsSpelledLong w n (Some x) = w ≡ codes "--" ++ (n ++ 61 ∷ x)

record IsTwoDashes (w : Text) (p : Text × Option Text) : Type 0 where
  pub t : Text
  pub word : w ≡ 45 ∷ 45 ∷ t
  pub parts : name_and_value t ≡ p

rest_of : (cs : Text) (p : Text × Option Text) → long_of_rest cs ≡ Some p → name_and_value cs ≡ p
rest_of [] p e = cc
rest_of (d ∷ ds) p e = cc

second_dash : (b : ℕ) (bs : Text) (p : Text × Option Text) → b ≡ 45 → option_and_then long_of_rest (strip_byte 45 bs) ≡ Some p → IsTwoDashes (b ∷ bs) p
second_dash b [] p is e = cc
second_dash b (c ∷ cs) p is e = go (c == 45) refl e
  where
    go : (t : Bool) → (c == 45) ≡ t → option_and_then long_of_rest (if t then Some cs else None) ≡ Some p → IsTwoDashes (b ∷ c ∷ cs) p
    go true f e = record { t = cs; word = ap (λ x. x ∷ c ∷ cs) is ∙ ap (λ x. 45 ∷ x ∷ cs) (eqb-true c 45 f); parts = rest_of cs p e }
    go false f e = cc

first_dash : (w : Text) (p : Text × Option Text) → long_of w ≡ Some p → IsTwoDashes w p
first_dash [] p e = cc
first_dash (b ∷ bs) p e = go (b == 45) refl e
  where
    go : (t : Bool) → (b == 45) ≡ t → option_and_then long_of_rest (option_and_then (strip_byte 45) (if t then Some bs else None)) ≡ Some p → IsTwoDashes (b ∷ bs) p
    go true f e = second_dash b bs p (eqb-true b 45 f) e
    go false f e = cc

spelled_cut : (w t n : Text) (v : Option Text) → w ≡ 45 ∷ 45 ∷ t → name_and_value t ≡ (n, v) → Cut t → IsSpelledLong w n v
spelled_cut w t n v is parts (whole l) =
    let p : (t, None) ≡ (n, v) = sym (name_and_value-without t l) ∙ parts in
    subst (λ (q : Text × Option Text). IsSpelledLong w q.0 q.1) p is
spelled_cut w t n v is parts (at xs ys l e) =
    let p : (xs, Some ys) ≡ (n, v) = sym (name_and_value-at xs ys l) ∙ ap name_and_value (sym e) ∙ parts in
    subst (λ (q : Text × Option Text). IsSpelledLong w q.0 q.1) p (is ∙ ap (λ x. 45 ∷ 45 ∷ x) e)

pub spelled_long : (w n : Text) (v : Option Text) → long_of w ≡ Some (n, v) → IsSpelledLong w n v
spelled_long w n v e =
    let d = first_dash w (n, v) e in
    spelled_cut w d.t n v d.word d.parts (cut_of d.t)

-- ---- what is read stands in the words

abbrev Later : List OptionRow → List Text → List Given → Type 0
Later os ws all = (s : List Given) (st : Stand) → IsKnown os st → after os s st ws ≡ Some all → ReadMore os s (owed st ++ ws) all

alone_more : (os : List OptionRow) (w n : Text) (ws : List Text) (seen s all : List Given) (st : Stand) (o : OptionRow) → Later os ws all → IsSpelledLong w n None
    → row_by os n ≡ Some o → ReadMore os seen (owed st) s → after os s (waits o) ws ≡ Some all → ReadMore os seen (owed st ++ (w ∷ ws)) all
alone_more os w n ws seen s all st o later is row front e =
    let name = row_named os n o row in
    let known : row_by os o.name ≡ Some o = ap (row_by os) name ∙ row in
    let behind : ReadMore os s ((codes "--" ++ o.name) ∷ ws) all = later s (waits o) known e in
    let word : codes "--" ++ o.name ≡ w = ap (λ x. codes "--" ++ x) name ∙ sym is in
    then_more os seen s all (owed st) (w ∷ ws) front (subst (λ x. ReadMore os s (x ∷ ws) all) word behind)

joined_more : (os : List OptionRow) (w n x : Text) (ws : List Text) (seen s all : List Given) (st : Stand) (o : OptionRow) → Later os ws all → IsSpelledLong w n (Some x)
    → row_by os n ≡ Some o → ReadMore os seen (owed st) s → and_then (added s (given o x true)) (λ t. after os t rest ws) ≡ Some all
    → ReadMore os seen (owed st ++ (w ∷ ws)) all
joined_more os w n x ws seen s all st o later is row front e = go (added s (given o x true)) refl e
  where
    go : (r : Option (List Given)) → added s (given o x true) ≡ r → and_then r (λ t. after os t rest ws) ≡ Some all → ReadMore os seen (owed st ++ (w ∷ ws)) all
    go None f e = cc
    go (Some t) f e =
        let name = row_named os n o row in
        let known : row_by os o.name ≡ Some o = ap (row_by os) name ∙ row in
        let one : ReadMore os s ((codes "--" ++ (o.name ++ 61 ∷ x)) ∷ []) t = added_more os s t o x true known refl f in
        let word : codes "--" ++ (o.name ++ 61 ∷ x) ≡ w = ap (λ y. codes "--" ++ (y ++ 61 ∷ x)) name ∙ sym is in
        then_more os seen s all (owed st) (w ∷ ws) front
        (then_more os s t all (w ∷ []) ws (subst (λ y. ReadMore os s (y ∷ []) t) word one) (later t rest tt e))

named_more : (os : List OptionRow) (w n : Text) (v : Option Text) (ws : List Text) (seen all : List Given) (st : Stand) → Later os ws all → IsSpelledLong w n v → IsKnown os st
    → (r : Option OptionRow) → row_by os n ≡ r → (s : Option (List Given)) → settle seen st ≡ s
    → named r v s (λ s t. after os s t ws) ≡ Some all → ReadMore os seen (owed st ++ (w ∷ ws)) all
named_more os w n v ws seen all st later is known None row s se e = cc
named_more os w n v ws seen all st later is known (Some o) row None se e = cc
named_more os w n None ws seen all st later is known (Some o) row (Some s) se e =
    alone_more os w n ws seen s all st o later is row (settled_more os seen s st known se) e
named_more os w n (Some x) ws seen all st later is known (Some o) row (Some s) se e =
    joined_more os w n x ws seen s all st o later is row (settled_more os seen s st known se) e

plain_more : (os : List OptionRow) (w : Text) (ws : List Text) (seen all : List Given) (st : Stand) → Later os ws all → IsPlainWord w → IsKnown os st
    → turn os seen st None w (λ s t. after os s t ws) ≡ Some all → ReadMore os seen (owed st ++ (w ∷ ws)) all
plain_more os w ws seen all rest later is known e = cc
plain_more os w ws seen all (has o v) later is known e = cc
plain_more os w ws seen all (waits o) later is known e = later seen (has o w) (known, is.no_dash) e

form_more : (os : List OptionRow) (w : Text) (ws : List Text) (seen all : List Given) (st : Stand) → Later os ws all → Form w → IsKnown os st
    → turn os seen st (long_of w) w (λ s t. after os s t ws) ≡ Some all → ReadMore os seen (owed st ++ (w ∷ ws)) all
form_more os w ws seen all st later (names n v is) known e =
    let read : turn os seen st (Some (n, v)) w (λ s t. after os s t ws) ≡ Some all =
    ap (λ (l : Option (Text × Option Text)). turn os seen st l w (λ s t. after os s t ws)) (sym is.long) ∙ e in
    named_more os w n v ws seen all st later (spelled_long w n v is.long) known (row_by os n) refl (settle seen st) refl read
form_more os w ws seen all st later (plain is) known e =
    plain_more os w ws seen all st later is known
    (ap (λ (l : Option (Text × Option Text)). turn os seen st l w (λ s t. after os s t ws)) (sym is.long) ∙ e)

or_false : (a b : Bool) → (a || b) ≡ false → (a ≡ false) × (b ≡ false)
or_false true b h = cc
or_false false b h = (refl, h)

pub reads_more : (os : List OptionRow) (ws : List Text) (all : List Given) → list_any is_stray ws ≡ false → Later os ws all
reads_more os [] all none seen st known e =
    subst (λ w. ReadMore os seen w all) (sym (append-nil (owed st))) (settled_more os seen all st known e)
reads_more os (w ∷ ws) all none seen st known e =
    let parts = or_false (is_stray w) (list_any is_stray ws) none in
    form_more os w ws seen all st (reads_more os ws all parts.1) (form_of w parts.0) known e
