-- Clap's walk over all the words, and what it comes to.
use Rattle.std.proofs.Common.{◌≡◌, ◌≢◌, ◌∙◌, refl, sym, ap, subst, ℕ, ◌==◌, ◌&&◌, ◌||◌, inl, inr, not, Bool, true, false, List, [], ◌∷◌, drop, Option, Some, None}
use Rattle.std.specs.Prelude.{if◌then◌else◌, fold}
use Rattle.std.specs.List.{list_all, list_any}
use Rattle.clap.specs.Lexer.{long_of, name_and_value}
use Rattle.clap.specs.Walk.{Row, Rule, Text, Walk, Held, walked, settled, with_default, has_row, rows_after, nothing_held}
use Rattle.clap.specs.Kinds.{Kinds, or_else}
use Rattle.clap.specs.Takes as takes
use Rattle.clap.specs.Faults.{settle_fault, turn_fault, walk_fault, default_fault, defaults_fault, check_fault, level_fault, built_fault, fault_of}
use Rattle.clap.specs.Simple.{App, matches_of, names_of}
use Rattle.clap.proofs.FaultLemmas.{leaf_fault}
use Rattle.clap.specs.declared.error.kind.ErrorKind.TheVariants as kind
use Rattle.program_words.specs.Options.{OptionRow, Given, is_given}
use Rattle.program_words.specs.Clap.{made_app, is_named, is_stray}
use Rattle.program_words.proofs.Machine.{Stand, rest, turn, after, IsKnown}
use Rattle.program_words.proofs.ClapRows.{filled_rule, filled_rules, shape, rows_made, app_built, given_made, Agrees}
use Rattle.program_words.proofs.Steps.{walk_at, settle_agrees, Turned, IsLong, IsPlainWord, long_turned, plain_turned}

-- ---- the forms of a word

pub data Form (w : Text) : Type 0 where
  names : (n : Text) → (v : Option Text) → IsLong w n v → Form w
  plain : IsPlainWord w → Form w

pub without_dash : (b : ℕ) (bs : List ℕ) → (b == 45) ≡ false → IsPlainWord (b ∷ bs)
without_dash b bs e = record {
  dashes = rw e refl;
  long = rw e refl;
  short = rw e refl;
  no_dash = e;
}

with_dashes : (b c d : ℕ) (ds : List ℕ) → (b == 45) ≡ true → (c == 45) ≡ true
    → IsLong (b ∷ c ∷ d ∷ ds) (name_and_value (d ∷ ds)).0 (name_and_value (d ∷ ds)).1
with_dashes b c d ds e f = record { dashes = rw (e, f) refl; long = rw (e, f) refl }

behind_dash : (b : ℕ) (bs : List ℕ) → (b == 45) ≡ true → not (is_named bs) ≡ false → Form (b ∷ bs)
behind_dash b [] e h = cc
behind_dash b (c ∷ []) e h = cc
behind_dash b (c ∷ d ∷ ds) e h = go (c == 45) refl h
  where
    go : (t : Bool) → (c == 45) ≡ t → not t ≡ false → Form (b ∷ c ∷ d ∷ ds)
    go true f h = names _ _ (with_dashes b c d ds e f)
    go false f h = cc

pub form_of : (w : Text) → is_stray w ≡ false → Form w
form_of [] h = plain (record { dashes = refl; long = refl; short = refl; no_dash = refl })
form_of (b ∷ bs) h = go (b == 45) refl h
  where
    go : (t : Bool) → (b == 45) ≡ t → (t && not (is_named bs)) ≡ false → Form (b ∷ bs)
    go true e h = behind_dash b bs e h
    go false e h = plain (without_dash b bs e)

word_turned : (name : List ℕ) (os : List OptionRow) (seen : List Given) (st : Stand) (w : Text) → Form w → IsKnown os st
    → Turned os (turn_fault (shape name os) [] (walk_at seen st) w) (walked (filled_rules os) [] (walk_at seen st) w) (turn os seen st (long_of w) w)
word_turned name os seen st w (names n v is) known = long_turned name os seen st w n v is known
word_turned name os seen st w (plain is) known = plain_turned name os seen st w is known

-- ---- the walk

abbrev pub walk_end : List OptionRow → Walk → List Text → Held
walk_end os w ws = (fold (walked (filled_rules os) []) w ws).held

abbrev pub run_faults : List ℕ → List OptionRow → Walk → List Text → Kinds
run_faults name os w ws = or_else (walk_fault (shape name os) [] w ws) (settle_fault (filled_rules os) false (walk_end os w ws))

abbrev pub run_rows : List OptionRow → Walk → List Text → List Row
run_rows os w ws = (settled (filled_rules os) (walk_end os w ws)).rows

stops_agree : (t w s : Kinds) (rows : List Row) (r : Option (List Given)) → t ≢ [] → r ≡ None → Agrees (or_else (or_else t w) s) rows r
stops_agree [] w s rows r some none = absurd (some refl)
stops_agree (k ∷ ks) w s rows r some none = subst (λ x. Agrees (k ∷ ks) rows x) (sym none) (λ e. cc)

goes_agree : (t w s : Kinds) (rows : List Row) (r : Option (List Given)) → t ≡ [] → Agrees (or_else w s) rows r → Agrees (or_else (or_else t w) s) rows r
goes_agree [] w s rows r none h = h
goes_agree (k ∷ ks) w s rows r none h = cc

both_false : (a b : Bool) → (a || b) ≡ false → (a ≡ false) × (b ≡ false)
both_false true b h = cc
both_false false b h = (refl, h)

first_fault : (name : List ℕ) (os : List OptionRow) (w : Walk) (word : Text) (ws : List Text)
    → run_faults name os w (word ∷ ws) ≡ or_else (or_else (turn_fault (shape name os) [] w word) (walk_fault (shape name os) [] (walked (filled_rules os) [] w word) ws)) (settle_fault (filled_rules os) false (walk_end os (walked (filled_rules os) [] w word) ws))
unfolding walk_fault
first_fault name os w word ws = refl

no_fault : (name : List ℕ) (os : List OptionRow) (w : Walk) → run_faults name os w [] ≡ settle_fault (filled_rules os) false w.held
unfolding walk_fault
no_fault name os w = refl

pub walk_agrees : (name : List ℕ) (os : List OptionRow) (ws : List Text) (seen : List Given) (st : Stand) → list_any is_stray ws ≡ false → IsKnown os st
    → Agrees (run_faults name os (walk_at seen st) ws) (run_rows os (walk_at seen st) ws) (after os seen st ws)
walk_agrees name os [] seen st none known =
    subst (λ k. Agrees k (run_rows os (walk_at seen st) []) (after os seen st [])) (sym (no_fault name os (walk_at seen st))) (settle_agrees os seen st known)
walk_agrees name os (w ∷ ws) seen st none known =
    let parts = both_false (is_stray w) (list_any is_stray ws) none in
    subst (λ k. Agrees k (run_rows os (walk_at seen st) (w ∷ ws)) (after os seen st (w ∷ ws))) (sym (first_fault name os (walk_at seen st) w ws))
    (go (λ s t k. walk_agrees name os ws s t parts.1 k) (word_turned name os seen st w (form_of w parts.0) known))
  where
    go : ((s : List Given) (t : Stand) → IsKnown os t → Agrees (run_faults name os (walk_at s t) ws) (run_rows os (walk_at s t) ws) (after os s t ws))
        → Turned os (turn_fault (shape name os) [] (walk_at seen st) w) (walked (filled_rules os) [] (walk_at seen st) w) (turn os seen st (long_of w) w)
        → Agrees (or_else (or_else (turn_fault (shape name os) [] (walk_at seen st) w) (walk_fault (shape name os) [] (walked (filled_rules os) [] (walk_at seen st) w) ws))
        (settle_fault (filled_rules os) false (walk_end os (walked (filled_rules os) [] (walk_at seen st) w) ws)))
        (run_rows os (walked (filled_rules os) [] (walk_at seen st) w) ws) (after os seen st (w ∷ ws))
    go later (inl stops) = stops_agree _ _ _ _ _ stops.some (stops.nothing (λ s t. after os s t ws))
    go later (inr goes) =
        let one : Agrees (run_faults name os (walked (filled_rules os) [] (walk_at seen st) w) ws) (run_rows os (walked (filled_rules os) [] (walk_at seen st) w) ws) (after os goes.seen goes.st ws) =
        subst (λ (k : Walk). Agrees (run_faults name os k ws) (run_rows os k ws) (after os goes.seen goes.st ws)) (sym goes.now_is) (later goes.seen goes.st goes.known) in
        goes_agree _ _ _ _ _ goes.none
        (subst (λ (r : Option (List Given)). Agrees (run_faults name os (walked (filled_rules os) [] (walk_at seen st) w) ws) (run_rows os (walked (filled_rules os) [] (walk_at seen st) w) ws) r) (sym (goes.result_is (λ s t. after os s t ws))) one)

-- ---- after the walk

default_kept : (rows : List Row) (o : OptionRow) → with_default rows (filled_rule o) ≡ rows
default_kept rows o = go (has_row o.name rows)
  where
    go : (b : Bool) → (if b then rows else rows) ≡ rows
    go true = refl
    go false = refl

no_default : (rows : List Row) (o : OptionRow) → default_fault rows (filled_rule o) ≡ []
no_default rows o = go (has_row o.name rows)
  where
    go : (b : Bool) → (let none : Kinds = [] in if b || true then none else none) ≡ []
    go true = refl
    go false = refl

defaults_none : (rows : List Row) (os : List OptionRow) → defaults_fault rows (filled_rules os) ≡ []
unfolding defaults_fault
defaults_none rows [] = refl
defaults_none rows (o ∷ os) = rw (no_default rows o, default_kept rows o) (defaults_none rows os)

defaults_kept : (rows : List Row) (os : List OptionRow) → fold with_default rows (filled_rules os) ≡ rows
defaults_kept rows [] = refl
defaults_kept rows (o ∷ os) = ap (λ rs. fold with_default rs (filled_rules os)) (default_kept rows o) ∙ defaults_kept rows os

-- what is required was given
abbrev pub all_there : List Given → List OptionRow → Bool
all_there gs os = list_all (λ o. not o.is_required || is_given gs o.name) os

missing_is : (gs : List Given) (os : List OptionRow)
    → list_any (λ (a : Rule). a.required && not (takes.is_given a.id (rows_made gs))) (filled_rules os) ≡ not (all_there gs os)
missing_is gs [] = refl
missing_is gs (o ∷ os) = rw (given_made gs o.name) (go (missing_is gs os) o.is_required (is_given gs o.name))
  where
    go : list_any (λ (a : Rule). a.required && not (takes.is_given a.id (rows_made gs))) (filled_rules os) ≡ not (all_there gs os) → (r g : Bool)
        → ((r && not g) || list_any (λ (a : Rule). a.required && not (takes.is_given a.id (rows_made gs))) (filled_rules os)) ≡ not ((not r || g) && all_there gs os)
    go others true true = others
    go others true false = refl
    go others false g = others

or_else_nil : (a : Kinds) → or_else a [] ≡ a
or_else_nil [] = refl
or_else_nil (k ∷ ks) = refl

or_else_assoc : (a b c : Kinds) → or_else a (or_else b c) ≡ or_else (or_else a b) c
or_else_assoc [] b c = refl
or_else_assoc (k ∷ ks) b c = refl

abbrev pub all_faults : List ℕ → List OptionRow → List Text → Kinds
all_faults name os ws = or_else (run_faults name os (walk_at [] rest) ws) (check_fault (shape name os) (run_rows os (walk_at [] rest) ws) false)

level_is : (name : List ℕ) (os : List OptionRow) (ws : List Text) → level_fault (shape name os) [] nothing_held ws false [] ≡ all_faults name os ws
level_is name os ws =
    let rows = run_rows os (walk_at [] rest) ws in
    let tail : or_else (defaults_fault rows (filled_rules os)) (check_fault (shape name os) (fold with_default rows (filled_rules os)) false) ≡ check_fault (shape name os) rows false =
    ap (λ k. or_else k (check_fault (shape name os) (fold with_default rows (filled_rules os)) false)) (defaults_none rows os)
    ∙ ap (λ rs. check_fault (shape name os) rs false) (defaults_kept rows os) in
    ap (λ k. or_else (walk_fault (shape name os) [] (walk_at [] rest) ws) (or_else (settle_fault (filled_rules os) false (walk_end os (walk_at [] rest) ws)) k)) tail
    ∙ or_else_assoc (walk_fault (shape name os) [] (walk_at [] rest) ws) (settle_fault (filled_rules os) false (walk_end os (walk_at [] rest) ws)) (check_fault (shape name os) rows false)

pub fault_is : (name : List ℕ) (os : List OptionRow) (words : List Text) → fault_of (made_app name os) words ≡ all_faults name os (drop 1 words)
fault_is name os words =
    ap (λ (b : App). built_fault b nothing_held (drop 1 words)) (app_built name os)
    ∙ leaf_fault (record { top = shape name os; subs = [] }) nothing_held (drop 1 words) refl
    ∙ level_is name os (drop 1 words)

pub matches_are : (name : List ℕ) (os : List OptionRow) (words : List Text) → matches_of (made_app name os) words ≡ run_rows os (walk_at [] rest) (drop 1 words)
matches_are name os words =
    ap (λ (b : App). rows_after b.top.rules (names_of b) (drop 1 words)) (app_built name os)
    ∙ defaults_kept (run_rows os (walk_at [] rest) (drop 1 words)) os

abbrev missing_kinds : Bool → Kinds
missing_kinds there = if not there then kind.MissingRequiredArgument ∷ [] else []

check_is : (name : List ℕ) (os : List OptionRow) (gs : List Given) → check_fault (shape name os) (rows_made gs) false ≡ missing_kinds (all_there gs os)
check_is name os gs = rw (missing_is gs os) refl

-- Clap takes the words just where the machine does, with all that is required, and then has these rows.
pub record IsReading (name : List ℕ) (os : List OptionRow) (words : List Text) (gs : List Given) : Type 0 where
  pub read : after os [] rest (drop 1 words) ≡ Some gs
  pub there : all_there gs os ≡ true
  pub rows : matches_of (made_app name os) words ≡ rows_made gs

pub taken_reading : (name : List ℕ) (os : List OptionRow) (words : List Text) → list_any is_stray (drop 1 words) ≡ false
    → fault_of (made_app name os) words ≡ [] → (gs : List Given) × IsReading name os words gs
taken_reading name os words none taken =
    go (after os [] rest (drop 1 words)) refl (walk_agrees name os (drop 1 words) [] rest none tt) (sym (fault_is name os words) ∙ taken)
  where
    go : (r : Option (List Given)) → after os [] rest (drop 1 words) ≡ r
        → Agrees (run_faults name os (walk_at [] rest) (drop 1 words)) (run_rows os (walk_at [] rest) (drop 1 words)) r
        → all_faults name os (drop 1 words) ≡ [] → (gs : List Given) × IsReading name os words gs
    go None e agrees h = absurd (agrees (first_none (run_faults name os (walk_at [] rest) (drop 1 words)) _ h))
      where
        first_none : (a b : Kinds) → or_else a b ≡ [] → a ≡ []
        first_none [] b h = refl
        first_none (k ∷ ks) b h = h
    go (Some gs) e agrees h =
        let checked : missing_kinds (all_there gs os) ≡ [] =
        sym (check_is name os gs)
        ∙ (λ i. check_fault (shape name os) (sym agrees.1 i) false)
        ∙ sym (ap (λ k. or_else k (check_fault (shape name os) (run_rows os (walk_at [] rest) (drop 1 words)) false)) agrees.0)
        ∙ h in
        (gs, record { read = e; there = was_there (all_there gs os) checked; rows = matches_are name os words ∙ agrees.1 })
      where
        was_there : (b : Bool) → missing_kinds b ≡ [] → b ≡ true
        was_there true h = refl
        was_there false h = cc

pub read_taken : (name : List ℕ) (os : List OptionRow) (words : List Text) (gs : List Given) → list_any is_stray (drop 1 words) ≡ false
    → after os [] rest (drop 1 words) ≡ Some gs → all_there gs os ≡ true → fault_of (made_app name os) words ≡ []
read_taken name os words gs none e there =
    let agrees : Agrees (run_faults name os (walk_at [] rest) (drop 1 words)) (run_rows os (walk_at [] rest) (drop 1 words)) (Some gs) =
    subst (λ r. Agrees (run_faults name os (walk_at [] rest) (drop 1 words)) (run_rows os (walk_at [] rest) (drop 1 words)) r) e (walk_agrees name os (drop 1 words) [] rest none tt) in
    fault_is name os words
    ∙ ap (λ k. or_else k (check_fault (shape name os) (run_rows os (walk_at [] rest) (drop 1 words)) false)) agrees.0
    ∙ (λ i. check_fault (shape name os) (agrees.1 i) false)
    ∙ check_is name os gs
    ∙ ap missing_kinds there
