-- Words of the grammar are read.
use Rattle.std.proofs.Common.{◌≡◌, ◌∙◌, refl, sym, ap, subst, ℕ, ◌&&◌, ◌||◌, not, cond, Bool, true, false, List, [], ◌∷◌, ◌++◌, length, Option, Some, None, append_assoc, append-nil, codes}
use Rattle.std.specs.Prelude.{if◌then◌else◌, nat_lt, flat_map}
use Rattle.std.specs.List.{list_all, list_any}
use Rattle.std.specs.Str.{bytes_eq}
use Rattle.clap.specs.Lexer.{long_of, has_byte}
use Rattle.clap.specs.Walk.{Text}
use Rattle.clap.proofs.CutLemmas.{Lacks, list_any-at}
use Rattle.clap.proofs.LexerLemmas.{name_and_value-at, name_and_value-without}
use Rattle.program_words.specs.Options.{OptionRow, Given, spelled, begins_with_dash, has_value, is_option, is_given, are_new}
use Rattle.program_words.specs.Clap.{are_names, is_name, is_named, is_stray}
use Rattle.program_words.proofs.Machine.{rest, waits, has, given, row_by, adds, and_then, named, turn, after}
use Rattle.program_words.proofs.ClapRows.{row_named}
use Rattle.program_words.proofs.Steps.{IsPlainWord}
use Rattle.program_words.proofs.Walks.{without_dash}
use Rattle.program_words.proofs.Spellings.{both_true, row_of, Cut, whole, at, cut_of}

not_at : (t xs ys : Text) → not (has_byte 61 t) ≡ true → t ≡ xs ++ 61 ∷ ys → ⊥
not_at t xs ys h e =
    let there : has_byte 61 t ≡ true = ap (has_byte 61) e ∙ list_any-at 61 xs ys in
    let bad : false ≡ true = ap not (sym there) ∙ h in
    cc

lacks_of : (t : Text) → not (has_byte 61 t) ≡ true → Cut t → Lacks 61 t
lacks_of t h (whole l) = l
lacks_of t h (at xs ys l e) = absurd (not_at t xs ys h e)

name_lacks : (t : Text) → is_name t ≡ true → Lacks 61 t
name_lacks [] h = cc
name_lacks (b ∷ bs) h = lacks_of (b ∷ bs) h (cut_of (b ∷ bs))

row_is_name : (os : List OptionRow) (n : Text) (o : OptionRow) → are_names os ≡ true → row_by os n ≡ Some o → is_name o.name ≡ true
row_is_name [] n o h e = cc
row_is_name (x ∷ os) n o h e =
    let parts = both_true (is_name x.name) (are_names os) h in
    go (row_is_name os n o parts.1) parts.0 (bytes_eq x.name n) e
  where
    go : (row_by os n ≡ Some o → is_name o.name ≡ true) → is_name x.name ≡ true → (b : Bool) → cond b (Some x) (row_by os n) ≡ Some o → is_name o.name ≡ true
    go others here true e = let same : x ≡ o = cc in ap (λ (y : OptionRow). is_name y.name) (sym same) ∙ here
    go others here false e = others e

-- ---- the words of one option

long_alone : (name : Text) → is_name name ≡ true → long_of (codes "--" ++ name) ≡ Some (name, None)
long_alone [] h = cc
long_alone (b ∷ bs) h = ap Some (name_and_value-without (b ∷ bs) (name_lacks (b ∷ bs) h))

long_joined : (name value : Text) → is_name name ≡ true → long_of (codes "--" ++ (name ++ 61 ∷ value)) ≡ Some (name, Some value)
long_joined [] value h = cc
long_joined (b ∷ bs) value h = ap Some (name_and_value-at (b ∷ bs) value (name_lacks (b ∷ bs) h))

named_not_stray : (b : ℕ) (bs : Text) → is_stray (codes "--" ++ b ∷ bs) ≡ false
named_not_stray b bs = refl

alone_not_stray : (name : Text) → is_name name ≡ true → is_stray (codes "--" ++ name) ≡ false
alone_not_stray [] h = cc
alone_not_stray (b ∷ bs) h = named_not_stray b bs

joined_not_stray : (name value : Text) → is_name name ≡ true → is_stray (codes "--" ++ (name ++ 61 ∷ value)) ≡ false
joined_not_stray [] value h = cc
joined_not_stray (b ∷ bs) value h = named_not_stray b (bs ++ 61 ∷ value)

plain_value : (v : Text) → begins_with_dash v ≡ false → IsPlainWord v
plain_value [] h = record { dashes = refl; long = refl; short = refl; no_dash = refl }
plain_value (b ∷ bs) h = without_dash b bs h

plain_not_stray : (v : Text) → begins_with_dash v ≡ false → is_stray v ≡ false
plain_not_stray [] h = refl
plain_not_stray (b ∷ bs) h = ap (λ t. t && not (is_named bs)) h

not_true : (b : Bool) → not b ≡ true → b ≡ false
not_true true h = cc
not_true false h = refl

-- ---- the machine over them

-- an option with its value is settled before what follows it
after_settled : (os : List OptionRow) (seen : List Given) (o : OptionRow) (v : Text) (ws : List Text) → adds seen (given o v false) ≡ true
    → after os seen (has o v) ws ≡ after os (seen ++ given o v false ∷ []) rest ws
after_settled os seen o v [] e = rw e refl
after_settled os seen o v (w ∷ ws) e = go (long_of w)
  where
    go : (l : Option (Text × Option Text)) → turn os seen (has o v) l w (λ s t. after os s t ws) ≡ turn os (seen ++ given o v false ∷ []) rest l w (λ s t. after os s t ws)
    go None = refl
    go (Some p) = ap (λ (s : Option (List Given)). named (row_by os p.0) p.1 s (λ s t. after os s t ws)) (ap (λ (b : Bool). if b then Some (seen ++ given o v false ∷ []) else None) e)

over_joined : (os : List OptionRow) (seen : List Given) (o : OptionRow) (v : Text) (ws : List Text) → row_by os o.name ≡ Some o → is_name o.name ≡ true
    → adds seen (given o v true) ≡ true
    → after os seen rest (spelled (given o v true) ++ ws) ≡ after os (seen ++ given o v true ∷ []) rest ws
over_joined os seen o v ws row name e =
    ap (λ (l : Option (Text × Option Text)). turn os seen rest l (codes "--" ++ (o.name ++ 61 ∷ v)) (λ s t. after os s t ws)) (long_joined o.name v name)
    ∙ ap (λ (r : Option OptionRow). named r (Some v) (Some seen) (λ s t. after os s t ws)) row
    ∙ ap (λ (b : Bool). and_then (if b then Some (seen ++ given o v true ∷ []) else None) (λ t. after os t rest ws)) e

over_apart : (os : List OptionRow) (seen : List Given) (o : OptionRow) (v : Text) (ws : List Text) → row_by os o.name ≡ Some o → is_name o.name ≡ true
    → adds seen (given o v false) ≡ true → begins_with_dash v ≡ false
    → after os seen rest (spelled (given o v false) ++ ws) ≡ after os (seen ++ given o v false ∷ []) rest ws
over_apart os seen o v ws row name e plain =
    ap (λ (l : Option (Text × Option Text)). turn os seen rest l (codes "--" ++ o.name) (λ s t. after os s t (v ∷ ws))) (long_alone o.name name)
    ∙ ap (λ (r : Option OptionRow). named r None (Some seen) (λ s t. after os s t (v ∷ ws))) row
    ∙ ap (λ (l : Option (Text × Option Text)). turn os seen (waits o) l v (λ s t. after os s t ws)) (plain_value v plain).long
    ∙ after_settled os seen o v ws e

over_one : (os : List OptionRow) (seen : List Given) (o : OptionRow) (v : Text) (j : Bool) (ws : List Text) → row_by os o.name ≡ Some o → is_name o.name ≡ true
    → adds seen (given o v j) ≡ true → (j || not (begins_with_dash v)) ≡ true
    → after os seen rest (spelled (given o v j) ++ ws) ≡ after os (seen ++ given o v j ∷ []) rest ws
over_one os seen o v true ws row name e fits = over_joined os seen o v ws row name e
over_one os seen o v false ws row name e fits = over_apart os seen o v ws row name e (not_true (begins_with_dash v) fits)

stray_one : (o : OptionRow) (v : Text) (j : Bool) (ws : List Text) → is_name o.name ≡ true → (j || not (begins_with_dash v)) ≡ true → list_any is_stray ws ≡ false
    → list_any is_stray (spelled (given o v j) ++ ws) ≡ false
stray_one o v true ws name fits none = ap (λ b. b || list_any is_stray ws) (joined_not_stray o.name v name) ∙ none
stray_one o v false ws name fits none =
    ap (λ b. b || (is_stray v || list_any is_stray ws)) (alone_not_stray o.name name)
    ∙ ap (λ b. b || list_any is_stray ws) (plain_not_stray v (not_true (begins_with_dash v) fits)) ∙ none

pub record IsReadAll (os : List OptionRow) (seen more : List Given) : Type 0 where
  pub read : after os seen rest (flat_map spelled more) ≡ Some (seen ++ more)
  pub none : list_any is_stray (flat_map spelled more) ≡ false

more_one : (os : List OptionRow) (seen : List Given) (o : OptionRow) (v : Text) (j : Bool) (gs : List Given) → row_by os o.name ≡ Some o → is_name o.name ≡ true
    → adds seen (given o v j) ≡ true → (j || not (begins_with_dash v)) ≡ true → IsReadAll os (seen ++ given o v j ∷ []) gs → IsReadAll os seen (given o v j ∷ gs)
more_one os seen o v j gs row name e fits later = record {
  read = over_one os seen o v j (flat_map spelled gs) row name e fits ∙ later.read ∙ ap Some (append_assoc seen (given o v j ∷ []) gs);
  none = stray_one o v j (flat_map spelled gs) name fits later.none;
}

and_is : (a b : Bool) → a ≡ true → b ≡ true → (a && b) ≡ true
and_is true b p q = q
and_is false b p q = cc

pub reads_all : (os : List OptionRow) (seen more : List Given) → are_names os ≡ true → list_all (λ g. is_option os g.name) more ≡ true
    → list_all has_value more ≡ true → are_new seen more ≡ true → IsReadAll os seen more
reads_all os seen [] names known values once = record { read = ap Some (sym (append-nil seen)); none = refl }
reads_all os seen (g ∷ gs) names known values once =
    let k = both_true (is_option os g.name) (list_all (λ g. is_option os g.name) gs) known in
    let v = both_true (has_value g) (list_all has_value gs) values in
    let fit = both_true (nat_lt 0 (length g.value)) (g.is_joined || not (begins_with_dash g.value)) v.0 in
    let n = both_true (not (is_given seen g.name)) (are_new (seen ++ g ∷ []) gs) once in
    let r = row_of os g.name k.0 in
    let o = r.0 in
    let same_name : o.name ≡ g.name = row_named os g.name o r.1 in
    let same : given o g.value g.is_joined ≡ g = ap (λ (m : Text). record { name = m; value = g.value; is_joined = g.is_joined }) same_name in
    let row : row_by os o.name ≡ Some o = ap (row_by os) same_name ∙ r.1 in
    let name : is_name o.name ≡ true = row_is_name os g.name o names r.1 in
    let new_one : adds seen (given o g.value g.is_joined) ≡ true = ap (adds seen) same ∙ and_is _ _ n.0 fit.0 in
    let later : IsReadAll os (seen ++ g ∷ []) gs = reads_all os (seen ++ g ∷ []) gs names k.1 v.1 n.1 in
    subst (λ (x : Given). IsReadAll os seen (x ∷ gs)) same
    (more_one os seen o g.value g.is_joined gs row name new_one fit.1 (subst (λ (x : Given). IsReadAll os (seen ++ x ∷ []) gs) (sym same) later))
