use Rattle.std.proofs.Common.{◌≡◌, ◌<◌, ◌+◌, ◌++◌, ◌∷◌, [], ℕ, Bool, true, List, length, take, drop, get_or, set, refl, sym, ap, ◌∙◌, subst, arith}
use Rattle.std.proofs.lemmas.List.{drop_more, length-append, take_more}
use Rattle.inclusion_graph.specs.Edges.{fresh}
use Rattle.inclusion_graph.specs.Searches.{IsJoined}
use Rattle.inclusion_graph.proofs.FreshLemmas.{fresh_few, joined_marked, joined_more, joined_start, joined_unmarked}
use Rattle.inclusion_graph.proofs.ListLemmas.{fresh_step}
use Rattle.inclusion_graph.proofs.fresh.append_new.Goals as goal

pub loop-target-init : goal.loop-target-init
loop-target-init c = record {
  joined = joined_start c.args.edges.now.edges c.args.from c.args.edges.now.nodes c.args.marks.now.items c.args.all.now.items c.requires.held c.requires.marks;
  all = refl;
  room = c.requires.room;
  capacity = refl;
}

pub join-requires-clause-marked : goal.join-requires-clause-marked
join-requires-clause-marked c =
    let targets = c.args.targets.now in
    let i = c.loop-target.target-index in
    let within : i < length targets = omega arith in
    joined_marked c.args.edges.now.edges c.args.from c.args.edges.now.nodes (take i targets) c.loop-target.marks.items c.loop-target.all.items (get_or targets i 0)
    (c.requires.targets i 0 within) c.loop-target.invariant.joined

pub join-requires-clause-unmarked : goal.join-requires-clause-unmarked
join-requires-clause-unmarked c =
    let targets = c.args.targets.now in
    let i = c.loop-target.target-index in
    let within : i < length targets = omega arith in
    joined_unmarked c.args.edges.now.edges c.args.from c.args.edges.now.nodes (take i targets) c.loop-target.marks.items c.loop-target.all.items (get_or targets i 0)
    (c.requires.targets i 0 within) c.loop-target.invariant.joined

pub loop-target-preserved : goal.loop-target-preserved
loop-target-preserved c =
    let edges = c.args.edges.now.edges in
    let nodes = c.args.edges.now.nodes in
    let targets = c.args.targets.now in
    let i = c.loop-target.target-index in
    let n = get_or targets i 0 in
    let rest = drop (i + 1) targets in
    let all = c.loop-target.all.items in
    let within : i < length targets = omega arith in
    let more = joined_more edges c.args.from nodes (take i targets) c.loop-target.marks.items all n (c.requires.targets i 0 within) c.loop-target.invariant.joined in
    let left : drop i targets ≡ n ∷ rest = drop_more targets i 0 within in
    record {
      joined = subst (λ (named : List ℕ). IsJoined edges c.args.from nodes named c.join.new.marks.items c.join.new.all.items) (sym (take_more targets i 0 within))
          (subst (λ (ms : List Bool). IsJoined edges c.args.from nodes (take i targets ++ n ∷ []) ms c.join.new.all.items) (sym c.join.ensures.marks)
          (subst (IsJoined edges c.args.from nodes (take i targets ++ n ∷ []) (set c.loop-target.marks.items n true)) (sym c.join.ensures.all) more));
      all = ap (λ xs. xs ++ fresh xs rest) c.join.ensures.all ∙ sym (fresh_step all rest n)
          ∙ sym (ap (λ ts. all ++ fresh all ts) left) ∙ c.loop-target.invariant.all;
      room = omega (
        arith,
        c.loop-target.invariant.room,
        c.join.ensures.room,
        ap (λ (ts : List ℕ). length ts) left,
        ap (λ (xs : List ℕ). length xs) c.join.ensures.all,
        length-append all (fresh all (n ∷ [])),
        fresh_few all n,
        c.loop-target.all.ok.0,
        c.join.new.all.ok.0,
      );
      capacity = c.join.ensures.capacity ∙ c.loop-target.invariant.capacity;
    }
