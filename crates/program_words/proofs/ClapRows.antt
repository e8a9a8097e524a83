-- What clap makes of the options, and of those that were given.
use Rattle.std.proofs.Common.{◌≡◌, ◌≢◌, ◌∙◌, refl, sym, ap, cond, ℕ, ◌||◌, Bool, true, false, List, [], ◌∷◌, ◌++◌, map, length, Option, Some, None, option_map}
use Rattle.std.specs.Prelude.{find, nat_lt}
use Rattle.std.specs.Option.{option_map_or}
use Rattle.std.specs.Str.{bytes_eq}
use Rattle.std.proofs.lemmas.Slice.Eq.{bytes_eq-Decides}
use Rattle.clap.specs.Walk.{Row, Rule, Text, at_row, has_row, first_of, arg_by_id, arg_by_long, arg_by_index, used, more_values}
use Rattle.clap.specs.Facts.{explicit_source}
use Rattle.clap.specs.Takes as takes
use Rattle.clap.specs.Kinds.{Kinds}
use Rattle.clap.specs.Faults.{use_fault}
use Rattle.clap.specs.Simple.{Shape, new_shape, filled_from, built}
use Rattle.clap.specs.declared.builder.value_parser.Reading.TheVariants as reading
use Rattle.clap.specs.declared.parser.matches.ValueSource.TheVariants.{CommandLine}
use Rattle.program_words.specs.Options.{OptionRow, Given, is_given, value_of}
use Rattle.program_words.specs.Clap.{made_rule, made_app}
use Rattle.program_words.proofs.Machine.{given, row_by, added}

-- ---- texts

pub text_is : (a b : List ℕ) → bytes_eq a b ≡ true → a ≡ b
text_is a b e = (bytes_eq-Decides a b).0 e

pub text_self : (a : List ℕ) → bytes_eq a a ≡ true
text_self a = (bytes_eq-Decides a a).1 refl

-- ---- the options

-- an option of the command that clap built
abbrev pub filled_rule : OptionRow → Rule
filled_rule o = record (made_rule o.name o.is_required) { range = Some (record { start_inclusive = 1; end_inclusive = 1 }) }

abbrev pub filled_rules : List OptionRow → List Rule
filled_rules = map filled_rule

abbrev pub shape : List ℕ → List OptionRow → Shape
shape name os = record (new_shape name) {
  rules = filled_rules os;
  disable_help_flag = true;
  disable_help_subcommand = true;
  is_built = true;
}

filled_all : (os : List OptionRow) → filled_from 1 (map (λ o. made_rule o.name o.is_required) os) ≡ filled_rules os
filled_all [] = refl
filled_all (o ∷ os) = ap (λ rs. filled_rule o ∷ rs) (filled_all os)

pub app_built : (name : List ℕ) (os : List OptionRow) → built (made_app name os) ≡ record { top = shape name os; subs = [] }
app_built name os = ap (λ rs. record { top = record (shape name os) { rules = rs }; subs = [] }) (filled_all os)

pub by_id : (os : List OptionRow) (n : List ℕ) → arg_by_id (filled_rules os) n ≡ option_map filled_rule (row_by os n)
by_id [] n = refl
by_id (o ∷ os) n = go (by_id os n) (bytes_eq o.name n)
  where
    go : arg_by_id (filled_rules os) n ≡ option_map filled_rule (row_by os n) → (b : Bool) → cond b (Some (filled_rule o)) (arg_by_id (filled_rules os) n) ≡ option_map filled_rule (cond b (Some o) (row_by os n))
    go others true = refl
    go others false = others

pub by_long : (os : List OptionRow) (n : List ℕ) → arg_by_long (filled_rules os) n ≡ option_map filled_rule (row_by os n)
by_long [] n = refl
by_long (o ∷ os) n = go (by_long os n) (bytes_eq o.name n)
  where
    go : arg_by_long (filled_rules os) n ≡ option_map filled_rule (row_by os n) → (b : Bool) → cond (b || false) (Some (filled_rule o)) (arg_by_long (filled_rules os) n) ≡ option_map filled_rule (cond b (Some o) (row_by os n))
    go others true = refl
    go others false = others

pub by_index : (os : List OptionRow) (i : ℕ) → arg_by_index (filled_rules os) i ≡ None
by_index [] i = refl
by_index (o ∷ os) i = by_index os i

pub row_named : (os : List OptionRow) (n : List ℕ) (o : OptionRow) → row_by os n ≡ Some o → o.name ≡ n
row_named [] n o e = cc
row_named (x ∷ os) n o e = go (row_named os n o) (bytes_eq x.name n) refl e
  where
    go : (row_by os n ≡ Some o → o.name ≡ n) → (b : Bool) → bytes_eq x.name n ≡ b → cond b (Some x) (row_by os n) ≡ Some o → o.name ≡ n
    go others true is e = let same : x ≡ o = cc in ap (λ (y : OptionRow). y.name) (sym same) ∙ text_is x.name n is
    go others false is e = others e

-- ---- what was given

abbrev pub row_made : Given → Row
row_made g = record { id = g.name; values = g.value ∷ []; count = None; source = Some CommandLine; reading = reading.AsWritten }

abbrev pub rows_made : List Given → List Row
rows_made = map row_made

pub rows_more : (gs : List Given) (g : Given) → rows_made gs ++ row_made g ∷ [] ≡ rows_made (gs ++ g ∷ [])
rows_more [] g = refl
rows_more (x ∷ gs) g = ap (λ rs. row_made x ∷ rs) (rows_more gs g)

pub has_made : (gs : List Given) (n : List ℕ) → has_row n (rows_made gs) ≡ is_given gs n
has_made [] n = refl
has_made (g ∷ gs) n = ap (λ b. bytes_eq g.name n || b) (has_made gs n)

pub given_made : (gs : List Given) (n : List ℕ) → takes.is_given n (rows_made gs) ≡ is_given gs n
given_made [] n = refl
given_made (g ∷ gs) n = go (given_made gs n) (bytes_eq g.name n)
  where
    go : takes.is_given n (rows_made gs) ≡ is_given gs n → (b : Bool) → option_map_or (λ (r : Row). explicit_source r.source) (cond b (Some (row_made g)) (find (λ (r : Row). bytes_eq r.id n) (rows_made gs))) false ≡ (b || is_given gs n)
    go others true = refl
    go others false = others

pub value_made : (gs : List Given) (n : List ℕ) → first_of n (rows_made gs) ≡ value_of n gs
value_made [] n = refl
value_made (g ∷ gs) n = go (value_made gs n) (bytes_eq g.name n) refl
  where
    go : first_of n (rows_made gs) ≡ value_of n gs → (b : Bool) → bytes_eq g.name n ≡ b → first_of n (rows_made (g ∷ gs)) ≡ value_of n (g ∷ gs)
    go others true e = rw e refl
    go others false e = rw e others

-- a row that isn't there is put at the end
pub at_no_row : (id : Text) (change : Row → List Row) (missing rows : List Row) → has_row id rows ≡ false → at_row id change missing rows ≡ rows ++ missing
at_no_row id change missing [] e = refl
at_no_row id change missing (r ∷ rs) e = go (at_no_row id change missing rs) (bytes_eq r.id id) e
  where
    go : (has_row id rs ≡ false → at_row id change missing rs ≡ rs ++ missing) → (b : Bool) → (b || has_row id rs) ≡ false → cond b (change r ++ rs) (r ∷ at_row id change missing rs) ≡ r ∷ (rs ++ missing)
    go others true e = cc
    go others false e = ap (λ xs. r ∷ xs) (others e)

-- ---- what clap does, against what was given

-- clap has no fault and these rows just where these were given
abbrev pub Agrees : Kinds → List Row → Option (List Given) → Type 0
Agrees faults rows None = faults ≢ []
Agrees faults rows (Some gs) = (faults ≡ []) × (rows ≡ rows_made gs)

append_nil : (rows : List Row) → rows ++ [] ≡ rows
append_nil [] = refl
append_nil (r ∷ rs) = ap (λ xs. r ∷ xs) (append_nil rs)

used_new : (o : OptionRow) (v : List ℕ) (j : Bool) (gs : List Given) → is_given gs o.name ≡ false
    → used (filled_rule o) (v ∷ []) (rows_made gs) ≡ rows_made (gs ++ given o v j ∷ [])
used_new o v j gs e =
    let none : has_row o.name (rows_made gs) ≡ false = has_made gs o.name ∙ e in
    let gone : at_row o.name (λ _. []) [] (rows_made gs) ≡ rows_made gs =
    at_no_row o.name (λ _. []) [] (rows_made gs) none ∙ append_nil (rows_made gs) in
    ap (λ rs. at_row o.name (more_values CommandLine (v ∷ [])) (row_made (given o v j) ∷ []) rs) gone
    ∙ at_no_row o.name (more_values CommandLine (v ∷ [])) (row_made (given o v j) ∷ []) (rows_made gs) none
    ∙ rows_more gs (given o v j)

pub use_agrees : (o : OptionRow) (v : List ℕ) (j : Bool) (gs : List Given)
    → Agrees (use_fault false (filled_rule o) (v ∷ []) (rows_made gs)) (used (filled_rule o) (v ∷ []) (rows_made gs)) (added gs (given o v j))
use_agrees o v j gs = go (is_given gs o.name) (nat_lt 0 (length v)) refl refl
  where
    go : (a b : Bool) → is_given gs o.name ≡ a → nat_lt 0 (length v) ≡ b
        → Agrees (use_fault false (filled_rule o) (v ∷ []) (rows_made gs)) (used (filled_rule o) (v ∷ []) (rows_made gs)) (added gs (given o v j))
    go true b p q = rw (has_made gs o.name, p) (λ e. cc)
    go false false p q = rw (has_made gs o.name, p, q) (λ e. cc)
    go false true p q = rw (has_made gs o.name, p, q) (refl, used_new o v j gs p)
