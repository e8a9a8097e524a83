use Rattle.std.proofs.Common.{◌<◌, ◌≤◌, ◌+◌, [], length, map, get_or, set, ap, ◌∙◌, arith}
use Rattle.std.specs.Prelude.{vec_len, vec_capacity}
use Rattle.std.proofs.lemmas.List.{length-map}
use Rattle.test_results.specs.Lists.{ListsState, items_of, spare_of, list_of, room_of}
use Rattle.test_results.proofs.ListLemmas.{mapped_kept, mapped_same, on_ok, room_kept}
use Rattle.test_results.proofs.holder_lists.HolderLists.reserve_in.Goals as goal

pub returns-clause-list : goal.returns-clause-list
returns-clause-list c other =
    mapped_kept items_of c.self.inside.lists.items c.args.holder c.index_mut-list.result.now c.reserve.new.self []
    c.index_mut-list.ensures.value c.reserve.ensures.items other
    ∙ ap (λ (s : ListsState). list_of s other) c.self.view_is

pub returns-clause-room : goal.returns-clause-room
returns-clause-room c other =
    let list = c.index_mut-list.result.now in
    let new = c.reserve.new.self in
    let more : spare_of list ≤ spare_of new = omega (arith, c.reserve.ensures.len, c.reserve.ensures.capacity) in
    let kept = room_kept spare_of c.self.inside.lists.items c.args.holder list new c.index_mut-list.ensures.value more other in
    let e = ap (λ (s : ListsState). room_of s other) c.self.view_is in
    omega (arith, kept, e)

pub returns-clause-enough : goal.returns-clause-enough
returns-clause-enough c =
    let lists = c.self.inside.lists.items in
    let new = c.reserve.new.self in
    let count = ap (λ (s : ListsState). length s.lists) c.self.view_is in
    let within : c.args.holder < length lists = omega (arith, count, length-map lists items_of, c.requires) in
    let is = mapped_same spare_of lists c.args.holder new 0 within in
    on_ok c.reserve.result (vec_len new + c.args.additional ≤ vec_capacity new)
    (c.args.additional ≤ get_or (map spare_of (set lists c.args.holder new)) c.args.holder 0) c.reserve.ensures.ok (λ ok. omega (arith, is, ok))
