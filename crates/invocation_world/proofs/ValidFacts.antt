-- What keeps a world valid.
use Rattle.std.proofs.Common.{◌≡◌, ◌⊎◌, ◌≤◌, ℕ, ℤ, pos, ◌≤ℤ◌, ◌<ℤ◌, List, [], length, Option, Some, None, option_map, refl, sym, ap, ◌∙◌, subst, inl, inr, arith}
use Rattle.std.specs.List.{All, slice_get}
use Rattle.std.specs.Option.{IsSomeAnd}
use Rattle.std.proofs.lemmas.Int.{ints, by_lt_z}
use Rattle.std.proofs.lemmas.Bool.{cases_eq}
use Rattle.std.proofs.lemmas.List.{length-map}
use Rattle.std.proofs.lemmas.Option.{same_Some, slice_get-map}
use Rattle.names_realms.specs.declared.states.State.{State}
use Rattle.names_realms.specs.declared.states.State.TheVariants.{Active, Finalizing, Finalized}
use Rattle.inclusion_graph.specs.declared.edge.Edge.{Edge}
use Rattle.finaliser.specs.Settling.{ReachesActive}
use Rattle.invocations.specs.declared.invocation.Invocation.{Invocation}
use Rattle.invocations.specs.Due.{IsDue}
use Rattle.invocations.specs.Rows.{IsInState, IsTable, begun, ended, ids_of, states_of, with_changed}
use Rattle.invocation_world.specs.World.{World, IsCallMoment, IsInclusion, IsRow, IsStage, IsUntil, IsValid}
use Rattle.invocation_world.specs.Advancing.{AreQuiet, all_begun, begun_if_due}
use Rattle.invocation_world.specs.Settling.{Settles, SettlesRows}
use Rattle.invocation_world.proofs.BegunFacts.{all_begun_at, begun_or_same}
use Rattle.invocation_world.proofs.RowFacts.{same_lists, all_at, all_from, stands, state_is, row_in, same_state, apart, active≢finalizing, finalizing≢finalized, changed_here, changed_other}
use Rattle.invocation_world.proofs.ReachFacts.{reach_over, reaches_active_or_not}
use Rattle.invocation_world.proofs.SettleFacts.{active_after, active_before, ended_none, ended_or_same, ended_state, still_active}

-- a moment set stays one
until_later : (last now : ℤ) (o : Option ℤ) → last ≤ℤ now → IsSomeAnd o (IsUntil last) → IsSomeAnd o (IsUntil now)
until_later last now None later h = absurd h
until_later last now (Some t) later h = (h.0, omega (arith, ints, h.1, later))

stage_later : (last now : ℤ) (state : State) (deadline : ℤ) (started finished : Option ℤ) → last ≤ℤ now
    → (state ≡ Active → now <ℤ deadline) → IsStage last state deadline started finished
    → IsStage now state deadline started finished
stage_later last now Active deadline started finished later ahead h = (ahead refl, h.1, h.2)
stage_later last now Finalizing deadline started finished later ahead h = (until_later last now started later h.0, h.1)
stage_later last now Finalized deadline started finished later ahead h =
    (until_later last now started later h.0, until_later last now finished later h.1)

-- a row stays one where the world changed later, and its deadline is still to come
pub row_later : (last now : ℤ) (row : Invocation) → last ≤ℤ now → (row.state ≡ Active → now <ℤ row.deadline) → IsRow last row
    → IsRow now row
row_later last now row later ahead is = record {
  id = is.id;
  realm = is.realm;
  creator = is.creator;
  created = (is.created.0, omega (arith, ints, is.created.1, later));
  deadline = is.deadline;
  stage = stage_later last now row.state row.deadline row.started row.finished later ahead is.stage;
  tags = is.tags;
}

stage_of : (last : ℤ) (state other : State) (deadline : ℤ) (started finished : Option ℤ) → state ≡ other
    → IsStage last state deadline started finished → IsStage last other deadline started finished
stage_of last state other deadline started finished e h =
    subst (λ s. IsStage last s deadline started finished) e h

pub row_begun : (last now : ℤ) (row : Invocation) → last ≤ℤ now → pos 0 ≤ℤ now → row.state ≡ Active → IsRow last row
    → IsRow now (begun now row)
row_begun last now row later from active is = record {
  id = is.id;
  realm = is.realm;
  creator = is.creator;
  created = (is.created.0, omega (arith, ints, is.created.1, later));
  deadline = is.deadline;
  stage = ((from, omega (arith, ints)), (stage_of last row.state Active row.deadline row.started row.finished active is.stage).2);
  tags = is.tags;
}

pub row_ended : (now : ℤ) (row : Invocation) → pos 0 ≤ℤ now → row.state ≡ Finalizing → IsRow now row → IsRow now (ended now row)
row_ended now row from waits is = record {
  id = is.id;
  realm = is.realm;
  creator = is.creator;
  created = is.created;
  deadline = is.deadline;
  stage = ((stage_of now row.state Finalizing row.deadline row.started row.finished waits is.stage).0, (from, omega (arith, ints)));
  tags = is.tags;
}

-- tables by their ids
pub table_of_ids : (old new : List Invocation) → ids_of new ≡ ids_of old → IsTable old → IsTable new
table_of_ids old new same table =
    let lengths : length new ≡ length old = sym (length-map new (λ (r : Invocation). r.id))
    ∙ ap (λ (ids : List (List ℕ)). length ids) same ∙ length-map old (λ (r : Invocation). r.id) in
    record {
      unique = λ id i j this that. table.unique id i j
          (subst (λ (ids : List (List ℕ)). slice_get ids i ≡ Some id) same this)
          (subst (λ (ids : List (List ℕ)). slice_get ids j ≡ Some id) same that);
      few = subst (λ n. n ≤ 65_536) (sym lengths) table.few;
    }

pub length_of_ids : (old new : List Invocation) → ids_of new ≡ ids_of old → length new ≡ length old
length_of_ids old new same =
    sym (length-map new (λ (r : Invocation). r.id)) ∙ ap (λ (ids : List (List ℕ)). length ids) same
    ∙ length-map old (λ (r : Invocation). r.id)

id_at : (rows : List Invocation) (p : ℕ) (row : Invocation) → slice_get rows p ≡ Some row → slice_get (ids_of rows) p ≡ Some row.id
id_at rows p row e = slice_get-map (λ (r : Invocation). r.id) rows p ∙ ap (option_map (λ (r : Invocation). r.id)) e

id_none : (rows : List Invocation) (p : ℕ) → slice_get rows p ≡ None → slice_get (ids_of rows) p ≡ None
id_none rows p e = slice_get-map (λ (r : Invocation). r.id) rows p ∙ ap (option_map (λ (r : Invocation). r.id)) e

-- where each row has the id of the one before, the ids are the same
same_ids : (old new : List Invocation)
    → ((p : ℕ) → (slice_get new p ≡ slice_get old p)
    ⊎ ((row next : Invocation) × (slice_get old p ≡ Some row) × (slice_get new p ≡ Some next) × (next.id ≡ row.id)))
    → ids_of new ≡ ids_of old
same_ids old new h = same_lists (ids_of new) (ids_of old)
    (λ p. elim (h p) [
      | inl same ↦ slice_get-map (λ (r : Invocation). r.id) new p ∙ ap (option_map (λ (r : Invocation). r.id)) same
          ∙ sym (slice_get-map (λ (r : Invocation). r.id) old p)
      | inr both ↦ id_at new p both.1 both.3 ∙ ap (λ id. Some id) both.4 ∙ sym (id_at old p both.0 both.2)
    ])

-- some active rows are begun at a moment
pub record SomeBegun (moment : ℤ) (old new : List Invocation) (p : ℕ) : Type 0 where
  pub row : Invocation
  pub stood : slice_get old p ≡ Some row
  pub active : row.state ≡ Active
  pub stands : slice_get new p ≡ Some (begun moment row)

abbrev pub Begins : ℤ → List Invocation → List Invocation → Type 0
Begins moment old new = (p : ℕ) → (slice_get new p ≡ slice_get old p) ⊎ SomeBegun moment old new p

pub one_begins : (moment : ℤ) (rows : List Invocation) (p : ℕ) → IsInState Active rows p
    → Begins moment rows (with_changed (begun moment) rows p)
one_begins moment rows p is = λ q.
    let row = row_in Active rows p is in
    elim (cases_eq q p) [
      | inl here ↦ subst (λ k. (slice_get (with_changed (begun moment) rows p) k ≡ slice_get rows k) ⊎ SomeBegun moment rows (with_changed (begun moment) rows p) k)
          (sym here)
          (inr (record { row = row.0; stood = row.1; active = row.2; stands = changed_here (begun moment) rows p row.0 row.1 }))
      | inr other ↦ inl (changed_other (begun moment) rows p q other)
    ]

pub all_begin : (d : ℤ) (rows : List Invocation) → Begins d rows (all_begun d rows)
all_begin d rows = λ p. elim (stands rows p) [
  | inl h ↦ elim (begun_or_same d h.0) [
    | inl both ↦ inr (record { row = h.0; stood = h.1; active = both.0; stands = all_begun_at d rows p h.0 h.1 ∙ ap (λ (r : Invocation). Some r) both.2 })
    | inr same ↦ inl (all_begun_at d rows p h.0 h.1 ∙ ap (λ (r : Invocation). Some r) same ∙ sym h.1)
  ]
  | inr none ↦ inl (slice_get-map (begun_if_due d) rows p ∙ ap (option_map (begun_if_due d)) none ∙ sym none)
]

begun_id : (moment : ℤ) (old new : List Invocation) → Begins moment old new → ids_of new ≡ ids_of old
begun_id moment old new h = same_ids old new
    (λ p. elim (h p) [ inl same ↦ inl same | inr b ↦ inr (b.row, begun moment b.row, b.stood, b.stands, refl) ])

settled_id : (moment : ℤ) (edges : List Edge) (old new : List Invocation) → SettlesRows moment edges old new → ids_of new ≡ ids_of old
settled_id moment edges old new s = same_ids old new
    (λ p. elim (ended_or_same moment edges old new s p) [
      | inl h ↦ inr (h.row, ended moment h.row, h.stood, h.stands, refl)
      | inr same ↦ inl same.1
    ])

-- a state that isn't finalizing stood before some were begun
unbegun : (moment : ℤ) (old new : List Invocation) → Begins moment old new → (state : State) (p : ℕ) → (Finalizing ≡ state → ⊥)
    → IsInState state new p → IsInState state old p
unbegun moment old new h state p other is =
    elim (h p) [
      | inl same ↦ same_state state new old p (sym same) is
      | inr b ↦ absurd (apart Finalizing state new p other (state_is Finalizing new p (begun moment b.row) b.stands refl) is)
    ]

-- rows of a valid world of which some active ones are begun, at a moment before the deadlines of the others
record IsBegun (last moment : ℤ) (edges : List Edge) (old mid : List Invocation) : Type 0 where
  pub valid : IsValid (record { invocations = old; inclusions = edges; last = last })
  pub call : IsCallMoment moment
  pub later : last ≤ℤ moment
  pub begins : Begins moment old mid
  pub ahead : (p : ℕ) (row : Invocation) → slice_get mid p ≡ Some row → row.state ≡ Active → moment <ℤ row.deadline

mid_row : (last moment : ℤ) (edges : List Edge) (old mid : List Invocation) → IsBegun last moment edges old mid → (p : ℕ)
    (row : Invocation) → slice_get mid p ≡ Some row → IsRow moment row
mid_row last moment edges old mid h p row e =
    elim (h.begins p) [
      | inl same ↦ row_later last moment row h.later (h.ahead p row e) (all_at (IsRow last) old p row h.valid.rows (sym same ∙ e))
      | inr b ↦ subst (IsRow moment) (same_Some (begun moment b.row) row (sym b.stands ∙ e))
          (row_begun last moment b.row h.later h.call.0 b.active (all_at (IsRow last) old p b.row h.valid.rows b.stood))
    ]

settled_rows : (last moment : ℤ) (edges : List Edge) (old mid new : List Invocation) → IsBegun last moment edges old mid
    → SettlesRows moment edges mid new → All (IsRow moment) new
settled_rows last moment edges old mid new h s = all_from (IsRow moment) new
    (λ p row e. elim (ended_or_same moment edges mid new s p) [
      | inl was ↦ subst (IsRow moment) (same_Some (ended moment was.row) row (sym was.stands ∙ e))
          (row_ended moment was.row h.call.0 was.state (mid_row last moment edges old mid h p was.row was.stood))
      | inr same ↦ mid_row last moment edges old mid h p row (sym same.1 ∙ e)
    ])

settled_waiting : (last moment : ℤ) (edges : List Edge) (old mid new : List Invocation) → IsBegun last moment edges old mid
    → SettlesRows moment edges mid new → (p : ℕ) → IsInState Finalizing new p → ReachesActive edges (states_of new) p
settled_waiting last moment edges old mid new h s p is =
    elim (ended_or_same moment edges mid new s p) [
      | inl was ↦ absurd (apart Finalizing Finalized new p finalizing≢finalized is (ended_state moment edges mid new p was))
      | inr same ↦
          let waits : IsInState Finalizing mid p = same_state Finalizing new mid p (sym same.1) is in
          elim (reaches_active_or_not edges (states_of mid) p) [
            | inl yes_ ↦ reach_over edges (states_of mid) (states_of new) (active_after moment edges mid new s) p yes_
            | inr no_ ↦ absurd (same.0 ((s.all p).1 (waits, no_)))
          ]
    ]

settled_ended : (last moment : ℤ) (edges : List Edge) (old mid new : List Invocation) → IsBegun last moment edges old mid
    → SettlesRows moment edges mid new → (p : ℕ) → IsInState Finalized new p → ¬ ReachesActive edges (states_of new) p
settled_ended last moment edges old mid new h s p is =
    elim (ended_or_same moment edges mid new s p) [
      | inl was ↦ λ reach. was.alone (reach_over edges (states_of new) (states_of mid) (active_before moment edges mid new s) p reach)
      | inr same ↦ λ reach.
          let was = unbegun moment old mid h.begins Finalized p finalizing≢finalized (same_state Finalized new mid p (sym same.1) is) in
          h.valid.ended p was
          (reach_over edges (states_of new) (states_of old)
          (λ q active. unbegun moment old mid h.begins Active q (λ e. active≢finalizing (sym e)) (active_before moment edges mid new s q active)) p reach)
    ]

settled_is_valid : (last moment : ℤ) (edges : List Edge) (old mid new : List Invocation) → IsBegun last moment edges old mid
    → SettlesRows moment edges mid new → IsValid (record { invocations = new; inclusions = edges; last = moment })
settled_is_valid last moment edges old mid new h s =
    let ids : ids_of new ≡ ids_of old = settled_id moment edges mid new s ∙ begun_id moment old mid h.begins in
    record {
      table = table_of_ids old new ids h.valid.table;
      last = h.call;
      rows = settled_rows last moment edges old mid new h s;
      joined = subst (λ n. All (IsInclusion n) edges) (sym (length_of_ids old new ids)) h.valid.joined;
      once = h.valid.once;
      few = h.valid.few;
      waiting = settled_waiting last moment edges old mid new h s;
      ended = settled_ended last moment edges old mid new h s;
    }

pub valid_settled : (last moment : ℤ) (edges : List Edge) (old mid new : List Invocation)
    → IsValid (record { invocations = old; inclusions = edges; last = last }) → IsCallMoment moment → last ≤ℤ moment
    → Begins moment old mid
    → ((p : ℕ) (row : Invocation) → slice_get mid p ≡ Some row → row.state ≡ Active → moment <ℤ row.deadline)
    → SettlesRows moment edges mid new → IsValid (record { invocations = new; inclusions = edges; last = moment })
valid_settled last moment edges old mid new valid call later begins ahead s =
    settled_is_valid last moment edges old mid new
    (record { valid = valid; call = call; later = later; begins = begins; ahead = ahead }) s

-- where nothing is due, each deadline of an active row is still to come
pub ahead_if_quiet : (moment : ℤ) (rows : List Invocation) → AreQuiet rows moment → (p : ℕ) (row : Invocation)
    → slice_get rows p ≡ Some row → row.state ≡ Active → moment <ℤ row.deadline
ahead_if_quiet moment rows quiet p row e active =
    let not : row.deadline ≤ℤ moment → ⊥ = λ le. all_at (λ r. ¬ IsDue moment r) rows p row quiet e (active, le) in
    by_lt_z moment row.deadline (λ lt. lt) (λ le. absurd (not le))

-- rows of a world that changed last at an earlier moment
pub rows_later : (last moment : ℤ) (rows : List Invocation) → last ≤ℤ moment → AreQuiet rows moment → All (IsRow last) rows
    → All (IsRow moment) rows
rows_later last moment rows later quiet are = all_from (IsRow moment) rows
    (λ p row e. row_later last moment row later (ahead_if_quiet moment rows quiet p row e) (all_at (IsRow last) rows p row are e))

-- a valid world in which nothing is due by a later moment stays one
pub valid_later : (rows : List Invocation) (edges : List Edge) (last moment : ℤ)
    → IsValid (record { invocations = rows; inclusions = edges; last = last }) → IsCallMoment moment → last ≤ℤ moment
    → AreQuiet rows moment → IsValid (record { invocations = rows; inclusions = edges; last = moment })
valid_later rows edges last moment valid call later quiet = record {
  table = valid.table;
  last = call;
  rows = rows_later last moment rows later quiet valid.rows;
  joined = valid.joined;
  once = valid.once;
  few = valid.few;
  waiting = valid.waiting;
  ended = valid.ended;
}

-- one active row is retired
pub valid_retired : (w : World) (moment : ℤ) (p : ℕ) (new : List Invocation) → IsValid w → IsCallMoment moment → w.last ≤ℤ moment
    → AreQuiet w.invocations moment → IsInState Active w.invocations p
    → SettlesRows moment w.inclusions (with_changed (begun moment) w.invocations p) new
    → IsValid (record { invocations = new; inclusions = w.inclusions; last = moment })
valid_retired w moment p new valid call later quiet active s =
    valid_settled w.last moment w.inclusions w.invocations (with_changed (begun moment) w.invocations p) new valid call later
    (one_begins moment w.invocations p active)
    (λ q row e is.
    let both = still_active moment w.invocations p q active (state_is Active (with_changed (begun moment) w.invocations p) q row e is) in
    ahead_if_quiet moment w.invocations quiet q row (sym (changed_other (begun moment) w.invocations p q both.0) ∙ e) is)
    s

-- a valid world settles into itself
pub valid_settles : (moment : ℤ) (w : World) → IsValid w → Settles moment w w
valid_settles moment w valid = record {
  rows = record {
    places = [];
    all = λ p. (λ held. absurd (omega (arith, held.1)), λ told. absurd (told.1 (valid.waiting p told.0)));
    are_ended = ended_none moment w.invocations;
  };
  inclusions = refl;
  last = refl;
}
