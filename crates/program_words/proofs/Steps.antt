-- One word of clap's walk.
use Rattle.std.proofs.Common.{◌≡◌, ◌≢◌, ◌∙◌, refl, sym, ap, subst, ℕ, ◌⊎◌, inl, inr, true, false, List, [], ◌∷◌, Option, Some, None, option_map}
use Rattle.std.specs.Option.{option_map_or}
use Rattle.std.specs.Str.{bytes_eq}
use Rattle.clap.specs.Lexer.{long_of, short_of}
use Rattle.clap.specs.Walk.{Held, Row, Rule, Text, Walk, Waiting, Step, idle, option, arg_by_id, arg_by_long, used, used_by_id, settled, walked, long_met, after_flag, after_step}
use Rattle.clap.specs.Kinds.{Kinds, or_else}
use Rattle.clap.specs.Faults.{use_fault, settle_fault, turn_fault, long_fault, step_fault}
use Rattle.program_words.specs.Options.{OptionRow, Given, begins_with_dash}
use Rattle.program_words.proofs.Machine.{Stand, rest, waits, has, given, row_by, added, settle, named, turn, IsKnown}
use Rattle.program_words.proofs.ClapRows.{filled_rule, filled_rules, shape, rows_made, by_id, by_long, by_index, row_named, text_self, Agrees, use_agrees}

abbrev pub pending_at : Stand → Option (Text × List Text)
pending_at rest = None
pending_at (waits o) = Some (o.name, [])
pending_at (has o v) = Some (o.name, v ∷ [])

abbrev pub waiting_at : Stand → Waiting
waiting_at rest = idle
waiting_at (waits o) = option o.name
waiting_at (has o v) = idle

abbrev pub walk_with : List Row → Stand → Walk
walk_with rows st = record {
  held = record { rows = rows; pending = pending_at st; skip = 0 };
  waiting = waiting_at st;
  position = 1;
  is_trailing = false;
  stopped = None;
}

abbrev pub walk_at : List Given → Stand → Walk
walk_at seen st = walk_with (rows_made seen) st

-- ---- what waits is used

found : (os : List OptionRow) (o : OptionRow) → row_by os o.name ≡ Some o → arg_by_id (filled_rules os) o.name ≡ Some (filled_rule o)
found os o known = by_id os o.name ∙ ap (option_map filled_rule) known

pub settle_agrees : (os : List OptionRow) (seen : List Given) (st : Stand) → IsKnown os st
    → Agrees (settle_fault (filled_rules os) false (walk_at seen st).held) (settled (filled_rules os) (walk_at seen st).held).rows (settle seen st)
settle_agrees os seen rest known = (refl, refl)
settle_agrees os seen (waits o) known =
    subst (λ (r : Option Rule). Agrees (option_map_or (λ (a : Rule). use_fault false a [] (rows_made seen)) r []) (used_by_id r [] (rows_made seen)) None)
    (sym (found os o known)) (λ e. cc)
settle_agrees os seen (has o v) known =
    subst (λ (r : Option Rule). Agrees (option_map_or (λ (a : Rule). use_fault false a (v ∷ []) (rows_made seen)) r []) (used_by_id r (v ∷ []) (rows_made seen)) (settle seen (has o v)))
    (sym (found os o known.0)) (use_agrees o v false seen)

-- ---- what a word comes to

abbrev pub Next : Type 0
Next = List Given → Stand → Option (List Given)

-- the walk has a fault, and nothing was given
pub record Stops (faults : Kinds) (result : Next → Option (List Given)) : Type 0 where
  pub some : faults ≢ []
  pub nothing : (n : Next) → result n ≡ None

-- both go on alike
pub record Goes (os : List OptionRow) (faults : Kinds) (now : Walk) (result : Next → Option (List Given)) : Type 0 where
  pub seen : List Given
  pub st : Stand
  pub none : faults ≡ []
  pub now_is : now ≡ walk_at seen st
  pub result_is : (n : Next) → result n ≡ n seen st
  pub known : IsKnown os st

abbrev pub Turned : List OptionRow → Kinds → Walk → (Next → Option (List Given)) → Type 0
Turned os faults now result = Stops faults result ⊎ Goes os faults now result

or_else_some : (a b : Kinds) → a ≢ [] → or_else a b ≢ []
or_else_some [] b h e = h refl
or_else_some (k ∷ ks) b h e = cc

or_else_none : (a b : Kinds) → a ≡ [] → b ≡ [] → or_else a b ≡ []
or_else_none [] b p q = q
or_else_none (k ∷ ks) b p q = cc

then_some : (a b : Kinds) → a ≡ [] → b ≢ [] → or_else a b ≢ []
then_some [] b p h = h
then_some (k ∷ ks) b p h = λ e. cc

-- an option joined to its value
long_some : (os : List OptionRow) (o : OptionRow) (x : Text) (faults : Kinds) (rows : List Row) (s : Option (List Given)) → Agrees faults rows s
    → Turned os (or_else (or_else faults (use_fault false (filled_rule o) (x ∷ []) rows)) []) (walk_with (used (filled_rule o) (x ∷ []) rows) rest) (named (Some o) (Some x) s)
long_some os o x faults rows None agrees = inl (record {
  some = or_else_some _ [] (or_else_some faults _ agrees);
  nothing = λ n. refl;
})
long_some os o x faults rows (Some seen) agrees =
    let there : Agrees (use_fault false (filled_rule o) (x ∷ []) rows) (used (filled_rule o) (x ∷ []) rows) (added seen (given o x true)) =
    subst (λ (rs : List Row). Agrees (use_fault false (filled_rule o) (x ∷ []) rs) (used (filled_rule o) (x ∷ []) rs) (added seen (given o x true))) (sym agrees.1) (use_agrees o x true seen) in
    go (added seen (given o x true)) refl there
  where
    go : (r : Option (List Given)) → added seen (given o x true) ≡ r
        → Agrees (use_fault false (filled_rule o) (x ∷ []) rows) (used (filled_rule o) (x ∷ []) rows) r
        → Turned os (or_else (or_else faults (use_fault false (filled_rule o) (x ∷ []) rows)) []) (walk_with (used (filled_rule o) (x ∷ []) rows) rest) (named (Some o) (Some x) (Some seen))
    go None e h = inl (record {
      some = or_else_some _ [] (then_some faults _ agrees.0 h);
      nothing = λ n. rw e refl;
    })
    go (Some now) e h = inr (record {
      seen = now;
      st = rest;
      none = or_else_none _ [] (or_else_none faults _ agrees.0 h.0) refl;
      now_is = ap (λ rs. walk_with rs rest) h.1;
      result_is = λ n. rw e refl;
      known = tt;
    })

-- an option alone
long_none : (os : List OptionRow) (o : OptionRow) (faults : Kinds) (rows : List Row) (s : Option (List Given)) → row_by os o.name ≡ Some o → Agrees faults rows s
    → Turned os (or_else faults []) (walk_with rows (waits o)) (named (Some o) None s)
long_none os o faults rows None known agrees = inl (record {
  some = or_else_some faults [] agrees;
  nothing = λ n. refl;
})
long_none os o faults rows (Some seen) known agrees = inr (record {
  seen = seen;
  st = waits o;
  none = or_else_none faults [] agrees.0 refl;
  now_is = ap (λ rs. walk_with rs (waits o)) agrees.1;
  result_is = λ n. refl;
  known = known;
})

-- ---- a word that names an option

pub record IsLong (w n : Text) (v : Option Text) : Type 0 where
  pub dashes : bytes_eq w (45 ∷ 45 ∷ []) ≡ false
  pub long : long_of w ≡ Some (n, v)

abbrev long_step : List Rule → Stand → Text → Option Rule → Option Text → Held → Held × Step
long_step c st w a v h = after_flag c (waiting_at st) w (long_met c a v h).0 (long_met c a v h).1

abbrev long_turn_fault : List ℕ → List OptionRow → List Given → Stand → Text → Option Rule → Option Text → Kinds
long_turn_fault name os seen st w a v =
    let h = (walk_at seen st).held in
    or_else (long_fault (filled_rules os) false a v h)
    (step_fault (shape name os) 1 (long_step (filled_rules os) st w a v h).0 (long_step (filled_rules os) st w a v h).1)

abbrev long_walk : List OptionRow → List Given → Stand → Text → Option Rule → Option Text → Walk
long_walk os seen st w a v =
    let h = (walk_at seen st).held in
    after_step (filled_rules os) w (walk_at seen st) (long_step (filled_rules os) st w a v h).0 (long_step (filled_rules os) st w a v h).1

long_fault_is : (name : List ℕ) (os : List OptionRow) (seen : List Given) (st : Stand) (w n : Text) (v : Option Text) → IsLong w n v
    → turn_fault (shape name os) [] (walk_at seen st) w ≡ long_turn_fault name os seen st w (arg_by_long (filled_rules os) n) v
long_fault_is name os seen rest w n v is = rw (is.dashes, is.long) refl
long_fault_is name os seen (waits o) w n v is = rw (is.dashes, is.long) refl
long_fault_is name os seen (has o x) w n v is = rw (is.dashes, is.long) refl

long_walk_is : (os : List OptionRow) (seen : List Given) (st : Stand) (w n : Text) (v : Option Text) → IsLong w n v
    → walked (filled_rules os) [] (walk_at seen st) w ≡ long_walk os seen st w (arg_by_long (filled_rules os) n) v
unfolding walked
long_walk_is os seen rest w n v is = rw (is.dashes, is.long) refl
long_walk_is os seen (waits o) w n v is = rw (is.dashes, is.long) refl
long_walk_is os seen (has o x) w n v is = rw (is.dashes, is.long) refl

long_by_row : (name : List ℕ) (os : List OptionRow) (seen : List Given) (st : Stand) (w n : Text) (v : Option Text) (r : Option OptionRow)
    → row_by os n ≡ r → IsKnown os st
    → Turned os (long_turn_fault name os seen st w (option_map filled_rule r) v) (long_walk os seen st w (option_map filled_rule r) v) (named r v (settle seen st))
long_by_row name os seen st w n v None is known = inl (record { some = λ e. cc; nothing = λ m. refl })
long_by_row name os seen st w n (Some x) (Some o) is known = long_some os o x _ _ _ (settle_agrees os seen st known)
long_by_row name os seen st w n None (Some o) is known =
    let named_so : row_by os o.name ≡ Some o = ap (row_by os) (row_named os n o is) ∙ is in
    long_none os o _ _ _ named_so (settle_agrees os seen st known)

pub long_turned : (name : List ℕ) (os : List OptionRow) (seen : List Given) (st : Stand) (w n : Text) (v : Option Text) → IsLong w n v → IsKnown os st
    → Turned os (turn_fault (shape name os) [] (walk_at seen st) w) (walked (filled_rules os) [] (walk_at seen st) w) (turn os seen st (long_of w) w)
long_turned name os seen st w n v is known =
    let base = long_by_row name os seen st w n v (row_by os n) refl known in
    let arg = by_long os n in
    let one : Turned os (long_turn_fault name os seen st w (arg_by_long (filled_rules os) n) v) (long_walk os seen st w (arg_by_long (filled_rules os) n) v) (named (row_by os n) v (settle seen st)) =
    subst (λ (a : Option Rule). Turned os (long_turn_fault name os seen st w a v) (long_walk os seen st w a v) (named (row_by os n) v (settle seen st))) (sym arg) base in
    let two : Turned os (turn_fault (shape name os) [] (walk_at seen st) w) (long_walk os seen st w (arg_by_long (filled_rules os) n) v) (named (row_by os n) v (settle seen st)) =
    subst (λ (k : Kinds). Turned os k (long_walk os seen st w (arg_by_long (filled_rules os) n) v) (named (row_by os n) v (settle seen st))) (sym (long_fault_is name os seen st w n v is)) one in
    let three : Turned os (turn_fault (shape name os) [] (walk_at seen st) w) (walked (filled_rules os) [] (walk_at seen st) w) (named (row_by os n) v (settle seen st)) =
    subst (λ (k : Walk). Turned os (turn_fault (shape name os) [] (walk_at seen st) w) k (named (row_by os n) v (settle seen st))) (sym (long_walk_is os seen st w n v is)) two in
    subst (λ (l : Option (Text × Option Text)). Turned os (turn_fault (shape name os) [] (walk_at seen st) w) (walked (filled_rules os) [] (walk_at seen st) w) (turn os seen st l w)) (sym is.long) three

-- ---- a word that begins with no dash

pub record IsPlainWord (w : Text) : Type 0 where
  pub dashes : bytes_eq w (45 ∷ 45 ∷ []) ≡ false
  pub long : long_of w ≡ None
  pub short : short_of w ≡ None
  pub no_dash : begins_with_dash w ≡ false

stray_turn : (name : List ℕ) (os : List OptionRow) (seen : List Given) (w : Text) → IsPlainWord w
    → turn_fault (shape name os) [] (walk_at seen rest) w ≢ []
stray_turn name os seen w is = rw (is.dashes, is.long, is.short, by_index os 1) (λ e. cc)

stray_after : (name : List ℕ) (os : List OptionRow) (seen : List Given) (o : OptionRow) (v : List ℕ) (w : Text) → IsPlainWord w
    → turn_fault (shape name os) [] (walk_at seen (has o v)) w ≢ []
stray_after name os seen o v w is = rw (is.dashes, is.long, is.short, by_index os 1) (λ e. cc)

value_fault : (name : List ℕ) (os : List OptionRow) (seen : List Given) (o : OptionRow) (w : Text) → IsPlainWord w
    → turn_fault (shape name os) [] (walk_at seen (waits o)) w ≡ []
value_fault name os seen o w is = rw (is.dashes, is.long, is.short) refl

value_walk : (os : List OptionRow) (seen : List Given) (o : OptionRow) (w : Text) → IsPlainWord w → row_by os o.name ≡ Some o
    → walked (filled_rules os) [] (walk_at seen (waits o)) w ≡ walk_at seen (has o w)
unfolding walked
value_walk os seen o w is known = rw (is.dashes, is.long, is.short, found os o known, text_self o.name) refl

pub plain_turned : (name : List ℕ) (os : List OptionRow) (seen : List Given) (st : Stand) (w : Text) → IsPlainWord w → IsKnown os st
    → Turned os (turn_fault (shape name os) [] (walk_at seen st) w) (walked (filled_rules os) [] (walk_at seen st) w) (turn os seen st (long_of w) w)
plain_turned name os seen rest w is known = inl (record { some = stray_turn name os seen w is; nothing = λ n. rw is.long refl })
plain_turned name os seen (has o v) w is known = inl (record { some = stray_after name os seen o v w is; nothing = λ n. rw is.long refl })
plain_turned name os seen (waits o) w is known = inr (record {
  seen = seen;
  st = has o w;
  none = value_fault name os seen o w is;
  now_is = value_walk os seen o w is known;
  result_is = λ n. rw is.long refl;
  known = (known, is.no_dash);
})
