-- The least name of the realms that reach themselves.
use Rattle.std.proofs.Common.{◌≡◌, ℕ, zero, suc, ◌+◌, ◌<◌, ◌≤◌, Bool, true, false, List, [], ◌∷◌, ◌++◌, leb, ltb, eq-eqb, length, get_or, nat_cmp, Ordering, Less, Equal, Greater, Option, Some, None, refl, sym, ap, subst, ◌∙◌, inl, inr, arith}
use Rattle.std.specs.Prelude.{MatchOption, ◌==◌, ◌≢◌}
use Rattle.std.specs.List.{list_all}
use Rattle.std.specs.Ordering.{is_lt}
use Rattle.std.specs.Cmp.{tied_itself}
use Rattle.std.specs.Cmp.Lexicographic.{slice_cmp, nat_list_cmp_total}
use Rattle.std.proofs.lemmas.Bool.{cases_Bool, eqb-true, leb-true, ltb-true}
use Rattle.std.proofs.lemmas.List.{length-map, get_or_push}
use Rattle.policy_tables.specs.declared.tables.RealmTable.{RealmTable}
use Rattle.policy_tables.specs.declared.tables.PolicyTables.{PolicyTables}
use Rattle.permissions.specs.Graph.{has, edges, IsWalkOn, ReachesOn, graph_of}
use Rattle.policy_checks.specs.Checks.{realm_names}
use Rattle.policy_reading.specs.Walked.{LeadsBack}
use Rattle.permissions.specs.Cycle.{HasNoCycle, IsLeastCycle}
use Rattle.policy_reading.specs.CycleSearch.{name_at, comes_first, IsStep, IsLeastPlace, IsLeastBefore, label_at, AreFalling, IsRuledOut}
use Rattle.policy_checks.proofs.PlaceLemmas.{place_of-within, place_of-name}
use Rattle.policy_reading.proofs.SearchLemmas.{all_has, below_or_at}
use Rattle.permissions.proofs.ReachLemmas.{reached-name, itself_over_places, itself_over_names}

less : (o : Ordering) → is_lt o ≡ true → o ≡ Less
less Less e = refl
less Equal e = let no : false ≡ true = e in cc
less Greater e = let no : false ≡ true = e in cc

no_less : (a b c : List ℕ) → is_lt (slice_cmp nat_cmp b c) ≡ true → is_lt (slice_cmp nat_cmp a c) ≡ false → is_lt (slice_cmp nat_cmp a b) ≡ false
no_less a b c e f = elim (cases_Bool (is_lt (slice_cmp nat_cmp a b))) [
  | inl h ↦
      let both : slice_cmp nat_cmp a c ≡ Less = nat_list_cmp_total.trans a b c (less _ h) (less _ e) in
      let no : true ≡ false = sym (ap is_lt both) ∙ f in cc
  | inr h ↦ h
]

not_below_itself : (a : List ℕ) → is_lt (slice_cmp nat_cmp a a) ≡ false
not_below_itself a = ap is_lt (tied_itself nat_list_cmp_total a)

module _ (graph : List (List ℕ)) (realms : List RealmTable) (n : ℕ) where
  -- a place that isn't kept changes nothing
  passed : (kept : Option ℕ) → IsLeastBefore graph realms n kept → (ReachesOn graph n n → comes_first realms n kept ≡ false) → IsLeastBefore graph realms (n + 1) kept
  passed None h not = λ p below w. elim (below_or_at p n below) [
    | inl b ↦ h p b w
    | inr e ↦ let no : true ≡ false = not (subst (λ (q : ℕ). ReachesOn graph q q) e w) in cc
  ]
  passed (Some k) h not = record {
    itself = h.itself;
    least = λ p below w. elim (below_or_at p n below) [
      | inl b ↦ h.least p b w
      | inr e ↦
          ap (λ (q : ℕ). is_lt (slice_cmp nat_cmp (name_at realms q) (name_at realms k))) e ∙ not (subst (λ (q : ℕ). ReachesOn graph q q) e w)
    ];
  }

  -- one that is has the least name
  kept_now : (kept : Option ℕ) → IsLeastBefore graph realms n kept → ReachesOn graph n n → comes_first realms n kept ≡ true → IsLeastBefore graph realms (n + 1) (Some n)
  kept_now None h w first = record {
    itself = w;
    least = λ p below w'. elim (below_or_at p n below) [
      | inl b ↦ absurd (h p b w')
      | inr e ↦ ap (λ (q : ℕ). is_lt (slice_cmp nat_cmp (name_at realms q) (name_at realms n))) e ∙ not_below_itself (name_at realms n)
    ];
  }
  kept_now (Some k) h w first = record {
    itself = w;
    least = λ p below w'. elim (below_or_at p n below) [
      | inl b ↦ no_less (name_at realms p) (name_at realms n) (name_at realms k) first (h.least p b w')
      | inr e ↦ ap (λ (q : ℕ). is_lt (slice_cmp nat_cmp (name_at realms q) (name_at realms n))) e ∙ not_below_itself (name_at realms n)
    ];
  }

  pub least_more : (before after : Option ℕ) → IsStep graph realms n before after → IsLeastBefore graph realms n before → IsLeastBefore graph realms (n + 1) after
  least_more before after (inl s) h = subst (IsLeastBefore graph realms (n + 1)) (sym s.2) (kept_now before h s.0 s.1)
  least_more before after (inr s) h = subst (IsLeastBefore graph realms (n + 1)) (sym s.1) (passed before h s.0)

-- over names
abbrev pub CycleAnswer : PolicyTables → Option (List ℕ) → Type 0
CycleAnswer t o = MatchOption o (HasNoCycle t) (IsLeastCycle t)

pub no_cycle_named : (t : PolicyTables) (graph : List (List ℕ)) (realms : List RealmTable) → graph ≡ graph_of t → realms ≡ t.realms
    → IsLeastBefore graph realms (length realms) None → HasNoCycle t
no_cycle_named t graph realms is is' h = λ name w.
    let (p, at, back) = itself_over_places t name w in
    h p (subst (λ (rs : List RealmTable). p < length rs) (sym is') (subst (λ (n : ℕ). p < n) (length-map t.realms (λ r. r.name)) (place_of-within name (realm_names t) p at)))
    (subst (λ (g : List (List ℕ)). ReachesOn g p p) (sym is) back)

least_named : (t : PolicyTables) (place : ℕ) → IsLeastPlace (graph_of t) t.realms (length t.realms) place → IsLeastCycle t (name_at t.realms place)
least_named t place h = record {
  itself = itself_over_names t (name_at t.realms place) place (reached-name t place place h.itself) h.itself;
  least = λ other w.
      let (p, is, back) = itself_over_places t other w in
      ap (λ (x : List ℕ). is_lt (slice_cmp nat_cmp x (name_at t.realms place))) (sym (place_of-name other (realm_names t) p is))
      ∙ h.least p (subst (λ (n : ℕ). p < n) (length-map t.realms (λ r. r.name)) (place_of-within other (realm_names t) p is)) back;
}

pub least_cycle_named : (t : PolicyTables) (graph : List (List ℕ)) (realms : List RealmTable) (place : ℕ) → graph ≡ graph_of t → realms ≡ t.realms
    → IsLeastPlace graph realms (length realms) place → IsLeastCycle t (name_at realms place)
least_cycle_named t graph realms place is is' h =
    subst (λ (rs : List RealmTable). IsLeastPlace graph rs (length rs) place → IsLeastCycle t (name_at rs place)) (sym is')
    (λ g. least_named t place (subst (λ (x : List (List ℕ)). IsLeastPlace x t.realms (length t.realms) place) is g)) h

-- labels that no edge raises

edge_of_some : (graph : List (List ℕ)) (p q : ℕ) → has q (edges graph p) ≡ true → p < length graph
edge_of_some [] p q e = let no : false ≡ true = e in cc
edge_of_some (es ∷ graph) zero q e = omega arith
edge_of_some (es ∷ graph) (suc p) q e = omega (arith, edge_of_some graph p q e)

label_walk : (graph : List (List ℕ)) (labels : List ℕ) → AreFalling graph labels → (x : ℕ) (xs : List ℕ) (q : ℕ) → IsWalkOn graph x xs q → label_at labels q ≤ label_at labels x
label_walk graph labels falling x [] q w = subst (λ (y : ℕ). label_at labels q ≤ label_at labels y) (sym w) (omega arith)
label_walk graph labels falling x (y ∷ ys) q w = omega (arith, falling x y w.0, label_walk graph labels falling y ys q w.1)

-- the labels of one place more
pub falling_more : (graph : List (List ℕ)) (labels : List ℕ) (place : ℕ) → list_all (λ q. leb (label_at labels q) (label_at labels place)) (edges graph place) ≡ true
    → ((p q : ℕ) → p < place → has q (edges graph p) ≡ true → label_at labels q ≤ label_at labels p)
    → (p q : ℕ) → p < place + 1 → has q (edges graph p) ≡ true → label_at labels q ≤ label_at labels p
falling_more graph labels place all before p q below leads = elim (below_or_at p place below) [
  | inl b ↦ before p q b leads
  | inr e ↦
      let here : has q (edges graph place) ≡ true = subst (λ (n : ℕ). has q (edges graph n) ≡ true) e leads in
      subst (λ (n : ℕ). label_at labels q ≤ label_at labels n) (sym e) (leb-true _ _ (all_has (λ q. leb (label_at labels q) (label_at labels place)) (edges graph place) q all here))
]

-- a place that isn't there leads nowhere
pub falling_all : (graph : List (List ℕ)) (labels : List ℕ) (n : ℕ) → length graph ≤ n → ((p q : ℕ) → p < n → has q (edges graph p) ≡ true → label_at labels q ≤ label_at labels p) → AreFalling graph labels
falling_all graph labels n end h p q leads = h p q (omega (arith, edge_of_some graph p q leads)) leads

pub not_back : (graph : List (List ℕ)) (labels : List ℕ) (p : ℕ) → AreFalling graph labels → ((q : ℕ) → has q (edges graph p) ≡ true → label_at labels q < label_at labels p) → ReachesOn graph p p → ⊥
not_back graph labels p falling below w = omega (arith, below w.first w.walk.0, label_walk graph labels falling w.first w.others p w.walk.1)

-- a place that is reached from itself is that of a realm that reaches itself
pub no_cycle_back : (t : PolicyTables) (graph : List (List ℕ)) → graph ≡ graph_of t → LeadsBack graph → HasNoCycle t → ⊥
no_cycle_back t graph is back none =
    let itself : ReachesOn (graph_of t) back.place back.place = subst (λ (g : List (List ℕ)). ReachesOn g back.place back.place) is back.itself in
    none (get_or (realm_names t) back.place []) (itself_over_names t (get_or (realm_names t) back.place []) back.place (reached-name t back.place back.place itself) itself)

-- a place more is ruled out, or not
pub ruled_more : (graph : List (List ℕ)) (out new : List Bool) (b : Bool) (n : ℕ) → new ≡ out ++ b ∷ [] → length out ≡ n → IsRuledOut graph out → (b ≡ true → ReachesOn graph n n → ⊥) → IsRuledOut graph new
ruled_more graph out new b n is len before here p e w = elim (cases_Bool (p == n)) [
  | inl at ↦
      let same : p ≡ n = eqb-true p n at in
      let marked : b ≡ true = sym (get_or_push out b false n len) ∙ ap (λ (xs : List Bool). get_or xs n false) (sym is) ∙ ap (λ (i : ℕ). get_or new i false) (sym same) ∙ e in
      here marked (subst (λ (q : ℕ). ReachesOn graph q q) same w)
  | inr other ↦ before p (in_front out b p n (eqb-false' p n other) len (ap (λ (xs : List Bool). get_or xs p false) (sym is) ∙ e)) w
] where
  eqb-false' : (a b : ℕ) → (a == b) ≡ false → a ≢ b
  eqb-false' a b e h = let yes_it_is : (a == b) ≡ true = eq-eqb a b h in let no : false ≡ true = sym e ∙ yes_it_is in cc

  in_front : (xs : List Bool) (b : Bool) (p n : ℕ) → p ≢ n → length xs ≡ n → get_or (xs ++ b ∷ []) p false ≡ true → get_or xs p false ≡ true
  in_front [] b zero n other len e = absurd (other (omega (arith, len)))
  in_front [] b (suc p) n other len e = let no : false ≡ true = e in cc
  in_front (x ∷ xs) b zero n other len e = e
  in_front (x ∷ xs) b (suc p) zero other len e = absurd (omega (arith, len))
  in_front (x ∷ xs) b (suc p) (suc n) other len e = in_front xs b p n (λ h. other (ap suc h)) (omega (arith, len)) e

-- where no edge leads to a greater label and all of a place lead to lesser ones, it isn't reached from itself
pub ruled_here : (graph : List (List ℕ)) (labels : List ℕ) (p : ℕ) → AreFalling graph labels → list_all (λ q. ltb (label_at labels q) (label_at labels p)) (edges graph p) ≡ true → ReachesOn graph p p → ⊥
ruled_here graph labels p falling all =
    not_back graph labels p falling (λ q leads. ltb-true _ _ (all_has (λ q. ltb (label_at labels q) (label_at labels p)) (edges graph p) q all leads))

-- a place that is ruled out isn't kept
pub ruled_step : (graph : List (List ℕ)) (realms : List RealmTable) (place : ℕ) (kept : Option ℕ) → (ReachesOn graph place place → ⊥) → IsStep graph realms place kept kept
ruled_step graph realms place kept not = inr ((λ w. absurd (not w)), refl)
