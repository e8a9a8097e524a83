use Rattle.std.proofs.Common.{◌≡◌, ◌++◌, List, take, drop, sym, ap, ◌∙◌, subst, arith}
use Rattle.std.specs.List.{prefix_len}
use Rattle.std.proofs.lemmas.List.Sums.{prefix_len-le-length}
use Rattle.verdict_lists.specs.declared.entries.Entry.{Entry}
use Rattle.verdict_lists.specs.declared.verdict.Verdict.{Verdict}
use Rattle.verdict_lists.specs.Groups.{IsCut, is_same, made_of}
use Rattle.verdict_lists.specs.World.{world_of}
use Rattle.verdict_lists.proofs.GroupLemmas.{cut_next, cut_none, some_run}
use Rattle.verdict_lists.proofs.groups.verdicts_of.Goals as goal

pub groups-init : goal.groups-init
groups-init c =
    let world = world_of c.args.view.now in
    subst (λ (vs : List Verdict). IsCut world c.args.entries.now c.args.entries.now vs) (sym c.new-verdicts.ensures.items) (cut_none world c.args.entries.now)

pub split_at-requires : goal.split_at-requires
split_at-requires c =
    let most = prefix_len-le-length (is_same (world_of c.args.view.now) c.in-Some.first.now) c.groups.left.now in
    omega (arith, c.run_len-len.ensures, most)

pub groups-smaller : goal.groups-smaller
groups-smaller c =
    let some = some_run (world_of c.args.view.now) c.groups.left.now c.in-Some.first.now (sym c.in-Some.ensures.value) in
    omega (arith, some, c.run_len-len.ensures, c.split_at.ensures.back_len)

pub groups-preserved : goal.groups-preserved
groups-preserved c =
    let world = world_of c.args.view.now in
    let left = c.groups.left.now in
    let x = c.in-Some.first.now in
    let same = is_same world x in
    let len = c.run_len-len.ensures in
    let run : c.split_at.result.0.now ≡ take (prefix_len same left) left = c.split_at.ensures.front ∙ ap (λ n. take n left) len in
    let rest : c.split_at.result.1.now ≡ drop (prefix_len same left) left = c.split_at.ensures.back ∙ ap (λ n. drop n left) len in
    let verdicts = c.in_ok-add_verdict.ensures ∙ ap (λ (es : List Entry). c.groups.verdicts.items ++ made_of world es) run in
    subst (λ (es : List Entry). IsCut world c.args.entries.now es c.add_verdict.new.verdicts.items) (sym rest)
    (subst (λ (vs : List Verdict). IsCut world c.args.entries.now (drop (prefix_len same left) left) vs) (sym verdicts)
    (cut_next world c.args.entries.now left x c.groups.verdicts.items (sym c.in-Some.ensures.value) c.requires c.groups.invariant))
