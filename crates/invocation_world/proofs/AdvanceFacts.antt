-- What carrying out deadlines does.
use Rattle.std.proofs.Common.{◌≡◌, ℕ, ℤ, ◌≤ℤ◌, ◌<ℤ◌, List, [], ◌∷◌, Some, refl, sym, ap, ◌∙◌, subst, inl, inr, arith}
use Rattle.std.specs.List.{slice_get}
use Rattle.std.proofs.lemmas.Int.{ints, by_lt_z}
use Rattle.std.proofs.lemmas.Option.{same_Some, slice_get-get_or}
use Rattle.names_realms.specs.declared.states.State.TheVariants.{Active, Finalizing}
use Rattle.inclusion_graph.specs.declared.edge.Edge.{Edge}
use Rattle.invocations.specs.declared.invocation.Invocation.{Invocation}
use Rattle.invocations.specs.Due.{IsDue}
use Rattle.invocations.specs.Rows.{begun}
use Rattle.invocation_world.specs.World.{World, IsCallMoment, IsRow, IsStage, IsValid}
use Rattle.invocation_world.specs.Advancing.{Advances, AreQuiet, CarriesOut, IsLeast, IsQuiet, after_deadlines, all_begun}
use Rattle.invocation_world.specs.Settling.{SettlesRows}
use Rattle.invocation_world.proofs.BegunFacts.{all_begun_at, due_begun}
use Rattle.invocation_world.proofs.RowFacts.{all_at, active≢finalizing}
use Rattle.invocation_world.proofs.SettleFacts.{settled_once}
use Rattle.invocation_world.proofs.ValidFacts.{all_begin, valid_later, valid_settled}

-- the row that has the least deadline
pub record LeastRow (rows : List Invocation) (moment d : ℤ) : Type 0 where
  pub place : ℕ
  pub row : Invocation
  pub stands : slice_get rows place ≡ Some row
  pub due : IsDue moment row
  pub deadline : row.deadline ≡ d

pub least_row : (rows : List Invocation) (moment d : ℤ) → IsLeast rows moment d → LeastRow rows moment d
least_row rows moment d h = record {
  place = h.due.0;
  row = h.due.1;
  stands = slice_get-get_or rows h.due.0 h.due.1 h.due.2 ∙ ap (λ (r : Invocation). Some r) h.due.3;
  due = h.due.4.0;
  deadline = h.due.4.1;
}

quiet_or_least : {A : Type 0} (rows : List Invocation) (moment d : ℤ) → AreQuiet rows moment → IsLeast rows moment d → A
quiet_or_least rows moment d quiet h =
    let least = least_row rows moment d h in
    absurd (all_at (λ r. ¬ IsDue moment r) rows least.place least.row quiet least.stands least.due)

one_least : (rows : List Invocation) (moment d e : ℤ) → IsLeast rows moment d → IsLeast rows moment e → d ≡ e
one_least rows moment d e this that =
    let a = least_row rows moment d this in
    let b = least_row rows moment e that in
    let low : d ≤ℤ b.row.deadline = all_at (λ r. IsDue moment r → d ≤ℤ r.deadline) rows b.place b.row this.least b.stands b.due in
    let high : e ≤ℤ a.row.deadline = all_at (λ r. IsDue moment r → e ≤ℤ r.deadline) rows a.place a.row that.least a.stands a.due in
    omega (arith, ints, low, high, a.deadline, b.deadline)

carried_once : (edges : List Edge) (moment : ℤ) (rows : List Invocation) (ds es : List ℤ) (v x : List Invocation)
    → CarriesOut edges moment rows ds v → CarriesOut edges moment rows es x → (ds ≡ es) × (v ≡ x)
carried_once edges moment rows [] [] v x this that = (refl, this.1 ∙ sym that.1)
carried_once edges moment rows [] (e ∷ es) v x this that = quiet_or_least rows moment e this.0 that.0
carried_once edges moment rows (d ∷ ds) [] v x this that = quiet_or_least rows moment d that.0 this.0
carried_once edges moment rows (d ∷ ds) (e ∷ es) v x this that =
    let same : d ≡ e = one_least rows moment d e this.0 that.0 in
    let moved = subst (λ t. SettlesRows t edges (all_begun t rows) this.1.0) same this.1.1 in
    let between : this.1.0 ≡ that.1.0 = settled_once e edges (all_begun e rows) this.1.0 that.1.0 moved that.1.1 in
    let rest = carried_once edges moment that.1.0 ds es v x
    (subst (λ rs. CarriesOut edges moment rs ds v) between this.1.2) that.1.2 in
    (ap (λ t. t ∷ ds) same ∙ ap (λ ts. e ∷ ts) rest.0, rest.1)

pub advanced_once : (moment : ℤ) (w v x : World) → Advances w moment v → Advances w moment x → v ≡ x
advanced_once moment w v x this that =
    let same = carried_once w.inclusions moment w.invocations this.deadlines that.deadlines this.rows that.rows this.carried that.carried in
    this.after_is ∙ ap (λ ds. after_deadlines moment ds this.rows w) same.0
    ∙ ap (λ rs. after_deadlines moment that.deadlines rs w) same.1 ∙ sym that.after_is

pub carried_quiet : (edges : List Edge) (moment : ℤ) (rows : List Invocation) (ds : List ℤ) (after : List Invocation)
    → CarriesOut edges moment rows ds after → AreQuiet after moment
carried_quiet edges moment rows [] after h = subst (λ rs. AreQuiet rs moment) (sym h.1) h.0
carried_quiet edges moment rows (d ∷ ds) after h = carried_quiet edges moment h.1.0 ds after h.1.2

active_deadline : (last : ℤ) (row : Invocation) → row.state ≡ Active → IsRow last row → last <ℤ row.deadline
active_deadline last row active is =
    (subst (λ s. IsStage last s row.deadline row.started row.finished) active is.stage).0

-- once all rows of the least deadline are begun, each deadline of an active row is a later one
ahead_of_least : (moment d : ℤ) (rows : List Invocation) → IsLeast rows moment d → d ≤ℤ moment → (p : ℕ) (row : Invocation)
    → slice_get (all_begun d rows) p ≡ Some row → row.state ≡ Active → d <ℤ row.deadline
ahead_of_least moment d rows least le p row e active =
    elim (all_begin d rows p) [
      | inl same ↦
          let stood : slice_get rows p ≡ Some row = sym same ∙ e in
          by_lt_z d row.deadline (λ lt. lt)
          (λ not_later.
          let low : d ≤ℤ row.deadline = all_at (λ r. IsDue moment r → d ≤ℤ r.deadline) rows p row least.least stood (active, omega (arith, ints, le, not_later)) in
          let is : row.deadline ≡ d = omega (arith, ints, low, not_later) in
          let begins : row ≡ begun d row = same_Some row (begun d row)
          (sym e ∙ all_begun_at d rows p row stood ∙ ap (λ (r : Invocation). Some r) (due_begun d row active is)) in
          let no : Active ≡ Finalizing = sym active ∙ ap (λ (r : Invocation). r.state) begins in
          absurd (active≢finalizing no))
      | inr b ↦
          let no : Active ≡ Finalizing = sym active ∙ ap (λ (r : Invocation). r.state) (same_Some row (begun d b.row) (sym e ∙ b.stands)) in
          absurd (active≢finalizing no)
    ]

pub carried_valid : (edges : List Edge) (last moment : ℤ) (rows : List Invocation) (ds : List ℤ) (after : List Invocation)
    → IsValid (record { invocations = rows; inclusions = edges; last = last }) → IsCallMoment moment → last ≤ℤ moment
    → CarriesOut edges moment rows ds after → IsValid (record { invocations = after; inclusions = edges; last = moment })
carried_valid edges last moment rows [] after valid call later h =
    subst (λ rs. IsValid (record { invocations = rs; inclusions = edges; last = moment })) (sym h.1)
    (valid_later rows edges last moment valid call later h.0)
carried_valid edges last moment rows (d ∷ ds) after valid call later h =
    let least = least_row rows moment d h.0 in
    let is = all_at (IsRow last) rows least.place least.row valid.rows least.stands in
    let due = active_deadline last least.row least.due.0 is in
    let le : d ≤ℤ moment = omega (arith, ints, least.due.1, least.deadline) in
    let from : last ≤ℤ d = omega (arith, ints, due, least.deadline) in
    let call_d : IsCallMoment d = (omega (arith, ints, is.deadline.0, least.deadline), omega (arith, ints, le, call.1)) in
    let between = valid_settled last d edges rows (all_begun d rows) h.1.0 valid call_d from (all_begin d rows)
    (ahead_of_least moment d rows h.0 le) h.1.1 in
    carried_valid edges d moment h.1.0 ds after between call le h.1.2

advanced : (moment : ℤ) (w after : World) (ds : List ℤ) (rows : List Invocation) → IsValid w → IsCallMoment moment
    → w.last ≤ℤ moment → CarriesOut w.inclusions moment w.invocations ds rows → after ≡ after_deadlines moment ds rows w
    → IsValid after × IsQuiet after moment
advanced moment w after [] rows valid call later h is =
    (subst IsValid (sym is) valid, subst (λ v. IsQuiet v moment) (sym is) h.0)
advanced moment w after (d ∷ ds) rows valid call later h is = (
  subst IsValid (sym is) (carried_valid w.inclusions w.last moment w.invocations (d ∷ ds) rows valid call later h),
  subst (λ v. IsQuiet v moment) (sym is) (carried_quiet w.inclusions moment w.invocations (d ∷ ds) rows h),
)

pub advance_valid : (moment : ℤ) (w after : World) → IsValid w → IsCallMoment moment → w.last ≤ℤ moment
    → Advances w moment after → IsValid after × IsQuiet after moment
advance_valid moment w after valid call later h = advanced moment w after h.deadlines h.rows valid call later h.carried h.after_is
