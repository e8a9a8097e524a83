-- What is known of nodes, while states go on and edges are added.
use Rattle.std.proofs.Common.{◌≡◌, ◌<◌, ℕ, List, [], ◌∷◌, ◌++◌, length, get_or, set, take, Contains, Some, None, refl, sym, ap, ◌∙◌, subst, inl, inr, arith}
use Rattle.std.specs.List.{All, slice_get}
use Rattle.std.proofs.lemmas.Bool.{cases_eq}
use Rattle.std.proofs.lemmas.List.{length-set, length-append, length_push, take-append-le}
use Rattle.std.proofs.lemmas.List.Elements.{All-nil, All-weaker, filter_map-append}
use Rattle.std.proofs.lemmas.Option.{same_Some, slice_get-get_or, slice_get_read, slice_get_within}
use Rattle.names_realms.specs.declared.states.State.{State}
use Rattle.names_realms.specs.declared.states.State.TheVariants.{Active, Finalizing, Finalized}
use Rattle.inclusion_graph.specs.declared.edge.Edge.{Edge}
use Rattle.inclusion_graph.specs.Edges.{HasEdge, targets_of, target_from}
use Rattle.inclusion_graph.specs.Walks.{Reaches}
use Rattle.inclusion_graph.proofs.EdgeLemmas.{targets_are}
use Rattle.inclusion_graph.proofs.ListLemmas.{at_either, at_left, at_set_other, at_set_same, in_one}
use Rattle.inclusion_graph.proofs.WalkLemmas.{leads_cons, leads_one, reaches_itself}
use Rattle.finaliser.specs.declared.watches.Watch.{Watch}
use Rattle.finaliser.specs.Holding.{AreFreed}
use Rattle.finaliser.specs.Settling.{IsIn, ReachesActive}
use Rattle.finaliser.specs.Watching.{AreWatched, IsAimed, IsWatch}
use Rattle.finaliser.proofs.HoldingLemmas.{walk_stays}
use Rattle.finaliser.proofs.LawLemmas.{active_finalized, cases_held, finalizing_finalized}

pub watched_set : (edges : List Edge) (states : List State) (watches : List Watch) (node : ℕ) (watch : Watch) → AreWatched edges states watches
    → IsWatch edges states node watch → AreWatched edges states (set watches node watch)
watched_set edges states watches node watch h is = record {
  count = length-set watches node watch ∙ h.count;
  each = λ n w at. elim (cases_eq n node) [
    | inl same ↦
        let within : n < length watches = omega (arith, slice_get_within (set watches node watch) n w at, length-set watches node watch) in
        let here : slice_get (set watches node watch) node ≡ Some watch = at_set_same watches node watch (subst (λ m. m < length watches) same within) in
        let is_w : watch ≡ w = same_Some watch w (sym here ∙ subst (λ m. slice_get (set watches node watch) m ≡ Some w) same at) in
        subst (IsWatch edges states n) is_w (subst (λ m. IsWatch edges states m watch) (sym same) is)
    | inr other ↦ h.each n w (sym (at_set_other watches node n watch other) ∙ at)
  ];
}

watch_states : (edges : List Edge) (old new : List State) (node : ℕ) (watch : Watch) → length new ≡ length old
    → ((n : ℕ) → IsIn Finalized old n → IsIn Finalized new n) → IsWatch edges old node watch → IsWatch edges new node watch
watch_states edges old new node watch count goes h = record {
  few = h.few;
  passed = All-weaker (IsIn Finalized old) (IsIn Finalized new) goes (take watch.passed (targets_of edges node)) h.passed;
  there = omega (arith, h.there, count);
  reaches = h.reaches;
}

pub watched_states : (edges : List Edge) (old new : List State) (watches : List Watch) → length new ≡ length old
    → ((n : ℕ) → IsIn Finalized old n → IsIn Finalized new n) → AreWatched edges old watches → AreWatched edges new watches
watched_states edges old new watches count goes h = record {
  count = h.count ∙ sym count;
  each = λ n w at. watch_states edges old new n w count goes (h.each n w at);
}

-- a node begins
pub watched_begun : (edges : List Edge) (old : List State) (watches : List Watch) (node : ℕ) → IsIn Active old node → AreWatched edges old watches
    → AreWatched edges (set old node Finalizing) watches
watched_begun edges old watches node active =
    watched_states edges old (set old node Finalizing) watches (length-set old node Finalizing)
    (λ n final. at_set_other old node n Finalizing (λ same. active_finalized old node active (subst (IsIn Finalized old) same final)) ∙ final)

-- it is set back
pub watched_back : (edges : List Edge) (old : List State) (watches : List Watch) (node : ℕ) → IsIn Active old node
    → AreWatched edges (set old node Finalizing) watches → AreWatched edges old watches
watched_back edges old watches node active =
    let begun = at_set_same old node Finalizing (slice_get_within old node Active active) in
    watched_states edges (set old node Finalizing) old watches (sym (length-set old node Finalizing))
    (λ n final. sym (at_set_other old node n Finalizing
    (λ same. finalizing_finalized (set old node Finalizing) node begun (subst (IsIn Finalized (set old node Finalizing)) same final))) ∙ final)

-- nodes become final
pub watched_freed : (edges : List Edge) (old new : List State) (watches : List Watch) (more : List ℕ) → AreFreed more old new → AreWatched edges old watches
    → AreWatched edges new watches
watched_freed edges old new watches more freed =
    watched_states edges old new watches freed.count
    (λ n final. elim (cases_held more n) [
      | inl held ↦ freed.final n held
      | inr not ↦ freed.others n not ∙ final
    ])

-- one active node more
pub watched_node : (edges : List Edge) (states : List State) (watches : List Watch) → AreWatched edges states watches
    → AreWatched edges (states ++ Active ∷ []) (watches ++ record { passed = 0; aim = length states } ∷ [])
watched_node edges states watches h =
    let more = states ++ Active ∷ [] in
    let new : Watch = record { passed = 0; aim = length states } in
    record {
      count = omega (arith, h.count, length_push watches new, length_push states Active);
      each = λ n w at. elim (at_either watches (new ∷ []) n w at) [
        | inl before ↦
            let is = h.each n w before in
            record {
              few = is.few;
              passed = All-weaker (IsIn Finalized states) (IsIn Finalized more)
                  (λ k final. at_left states (Active ∷ []) k (slice_get_within states k Finalized final) ∙ final) (take w.passed (targets_of edges n)) is.passed;
              there = omega (arith, is.there, length_push states Active);
              reaches = is.reaches;
            }
        | inr last ↦
            let is_new : new ≡ w = in_one new w last.1 in
            let node_is : n ≡ length states = omega (arith, last.0, slice_get_within (watches ++ new ∷ []) n w at, length_push watches new, h.count) in
            subst (IsWatch edges more n) is_new (record {
              few = omega arith;
              passed = All-nil (IsIn Finalized more);
              there = omega (arith, length_push states Active);
              reaches = subst (Reaches edges n) node_is (reaches_itself edges n);
            })
      ];
    }

reaches_stays : (edges more : List Edge) (a b : ℕ) → Reaches edges a b → Reaches (edges ++ more) a b
reaches_stays edges more a b r = (r.0, record { is_walk = walk_stays edges more r.0 r.1.is_walk; begins = r.1.begins; ends = r.1.ends })

targets_join : (edges more : List Edge) (node : ℕ) → targets_of (edges ++ more) node ≡ targets_of edges node ++ targets_of more node
targets_join edges more node = filter_map-append (target_from node) edges more

-- edges more
pub watched_edges : (edges more : List Edge) (states : List State) (watches : List Watch) → AreWatched edges states watches
    → AreWatched (edges ++ more) states watches
watched_edges edges more states watches h = record {
  count = h.count;
  each = λ n w at.
      let is = h.each n w at in
      let join = targets_join edges more n in
      record {
        few = omega (arith, is.few, ap (λ (xs : List ℕ). length xs) join, length-append (targets_of edges n) (targets_of more n));
        passed = subst (λ xs. All (IsIn Finalized states) (take w.passed xs)) (sym join)
            (subst (All (IsIn Finalized states)) (sym (take-append-le w.passed (targets_of edges n) (targets_of more n) is.few)) is.passed);
        there = is.there;
        reaches = reaches_stays edges more n w.aim is.reaches;
      };
}

pub watched_none : (edges : List Edge) (states : List State) (watches : List Watch) → states ≡ [] → watches ≡ [] → AreWatched edges states watches
watched_none edges states watches e f = record {
  count = ap (λ (xs : List Watch). length xs) f ∙ sym (ap (λ (xs : List State). length xs) e);
  each = λ n w at. let no : None ≡ Some w = subst (λ (xs : List Watch). slice_get xs n ≡ Some w) f at in cc;
}

-- a target as an aim
pub aim_target : (edges : List Edge) (states : List State) (node target : ℕ) (watch : Watch) → IsWatch edges states node watch
    → Contains (targets_of edges node) target → target < length states → IsWatch edges states node (record { passed = watch.passed; aim = target })
aim_target edges states node target watch h held low = record {
  few = h.few;
  passed = h.passed;
  there = low;
  reaches = (node ∷ (target ∷ []), leads_cons edges (target ∷ []) node target target ((targets_are edges node target).0 held) (leads_one edges target));
}

-- the aim of a node as that of one that has an edge to it
pub aim_source : (edges : List Edge) (states : List State) (source node : ℕ) (watch other : Watch) → IsWatch edges states source watch
    → IsWatch edges states node other → HasEdge edges source node → IsWatch edges states source (record { passed = watch.passed; aim = other.aim })
aim_source edges states source node watch other h is edge = record {
  few = h.few;
  passed = h.passed;
  there = is.there;
  reaches = (source ∷ is.reaches.0, leads_cons edges is.reaches.0 source node other.aim edge is.reaches.1);
}

pub aim_itself : (edges : List Edge) (states : List State) (node : ℕ) (watch : Watch) → IsWatch edges states node watch → node < length states
    → IsWatch edges states node (record { passed = watch.passed; aim = node })
aim_itself edges states node watch h low = record { few = h.few; passed = h.passed; there = low; reaches = reaches_itself edges node }

pub watch_at : (edges : List Edge) (states : List State) (watches : List Watch) (node : ℕ) (d : Watch) → AreWatched edges states watches
    → node < length states → IsWatch edges states node (get_or watches node d)
watch_at edges states watches node d h low =
    h.each node (get_or watches node d) (slice_get-get_or watches node d (omega (arith, low, h.count)))

-- the watch that was read
pub watch_read : (edges : List Edge) (states : List State) (watches : List Watch) (node : ℕ) (watch : Watch) → AreWatched edges states watches
    → node < length states → watch ≡ get_or watches node watch → slice_get watches node ≡ Some watch
watch_read edges states watches node watch h low e =
    slice_get_read watches (length watches) node watch refl (omega (arith, low, h.count)) e

-- a node got the aim of another one, to which it has an edge
pub watched_aimed : (edges : List Edge) (states : List State) (old new : List Watch) (source node aim : ℕ) (other : Watch) → AreWatched edges states old
    → IsAimed old new source aim → IsWatch edges states node other → other.aim ≡ aim → HasEdge edges source node → AreWatched edges states new
watched_aimed edges states old new source node aim other h (inl same) is e edge = subst (AreWatched edges states) (sym same) h
watched_aimed edges states old new source node aim other h (inr set_) is e edge =
    let watch = set_.0 in
    let to : IsWatch edges states source (record { passed = watch.passed; aim = aim }) =
    subst (λ m. IsWatch edges states source (record { passed = watch.passed; aim = m })) e
    (aim_source edges states source node watch other (h.each source watch set_.1) is edge) in
    subst (AreWatched edges states) (sym set_.2) (watched_set edges states old source (record { passed = watch.passed; aim = aim }) h to)

-- a node got itself as its aim
pub watched_itself : (edges : List Edge) (states : List State) (old new : List Watch) (node : ℕ) → AreWatched edges states old
    → IsAimed old new node node → node < length states → AreWatched edges states new
watched_itself edges states old new node h (inl same) low = subst (AreWatched edges states) (sym same) h
watched_itself edges states old new node h (inr set_) low =
    let watch = set_.0 in
    subst (AreWatched edges states) (sym set_.2)
    (watched_set edges states old node (record { passed = watch.passed; aim = node }) h (aim_itself edges states node watch (h.each node watch set_.1) low))

-- the node that a node reaches is active
pub waits_for : (edges : List Edge) (states : List State) (watches : List Watch) (node : ℕ) (watch : Watch) → AreWatched edges states watches
    → slice_get watches node ≡ Some watch → IsIn Active states watch.aim → ReachesActive edges states node
waits_for edges states watches node watch h at active = (watch.aim, (h.each node watch at).reaches, active)
