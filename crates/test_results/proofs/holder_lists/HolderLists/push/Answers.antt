use Rattle.std.proofs.Common.{◌<◌, ◌≤◌, ◌+◌, ◌++◌, ◌∷◌, [], sym, ap, ◌∙◌, subst, arith}
use Rattle.test_results.specs.Lists.{ListsState, items_of, spare_of, list_of, room_of}
use Rattle.test_results.proofs.ListLemmas.{mapped_at, mapped_other, mapped_same, room_used, room_within}
use Rattle.test_results.proofs.holder_lists.HolderLists.push.Goals as goal

pub push_reserved-requires : goal.push_reserved-requires
push_reserved-requires c =
    let lists = c.self.inside.lists.items in
    let list = c.index_mut-list.result.now in
    let before = subst (λ (s : ListsState). 0 < room_of s c.args.holder) (sym c.self.view_is) c.requires in
    let at = mapped_at spare_of lists c.args.holder list 0 (room_within spare_of lists c.args.holder before) c.index_mut-list.ensures.value in
    omega (arith, at, before)

pub returns-clause-list : goal.returns-clause-list
returns-clause-list c =
    let lists = c.self.inside.lists.items in
    let list = c.index_mut-list.result.now in
    let holder = c.args.holder in
    let is = c.index_mut-list.ensures.value in
    let before = subst (λ (s : ListsState). 0 < room_of s holder) (sym c.self.view_is) c.requires in
    let within = room_within spare_of lists holder before in
    mapped_same items_of lists holder c.push_reserved.new.self [] within ∙ c.push_reserved.ensures.items
    ∙ ap (λ xs. xs ++ c.args.place ∷ []) (sym (mapped_at items_of lists holder list [] within is) ∙ ap (λ (s : ListsState). list_of s holder) c.self.view_is)

pub returns-clause-others : goal.returns-clause-others
returns-clause-others c other not =
    mapped_other items_of c.self.inside.lists.items c.args.holder other c.push_reserved.new.self [] not
    ∙ ap (λ (s : ListsState). list_of s other) c.self.view_is

pub returns-clause-room : goal.returns-clause-room
returns-clause-room c other =
    let lists = c.self.inside.lists.items in
    let list = c.index_mut-list.result.now in
    let new = c.push_reserved.new.self in
    let used : spare_of list ≤ spare_of new + 1 = omega (arith, c.push_reserved.ensures.len, c.push_reserved.ensures.capacity) in
    let kept = room_used spare_of lists c.args.holder list new c.index_mut-list.ensures.value used other in
    let e = ap (λ (s : ListsState). room_of s other) c.self.view_is in
    omega (arith, kept, e)
