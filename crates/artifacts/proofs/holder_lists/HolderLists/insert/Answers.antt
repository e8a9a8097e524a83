use Rattle.std.proofs.Common.{◌≡◌, ◌<◌, ◌≤◌, ◌+◌, [], sym, ap, ◌∙◌, subst, arith}
use Rattle.std.specs.Prelude.{vec_len, vec_capacity}
use Rattle.std.specs.List.{insert}
use Rattle.std.proofs.lemmas.Grind.{common_steps}
use Rattle.artifacts.specs.Lists.{ListsState, items_of, spare_of, list_of, room_of}
use Rattle.artifacts.proofs.ListLemmas.{mapped_at, mapped_other, mapped_same, room_used, room_within}
use Rattle.artifacts.proofs.holder_lists.HolderLists.insert.Goals as goal

pub returns-clause-list : goal.returns-clause-list
returns-clause-list c =
    let lists = c.self.inside.lists.items in
    let list = c.index_mut-list.result.now in
    let holder = c.args.holder in
    let is = c.index_mut-list.ensures.value in
    let before = subst (λ (s : ListsState). 0 < room_of s holder) (sym c.self.view_is) c.requires.room in
    let within = room_within spare_of lists holder before in
    let at = mapped_at spare_of lists holder list 0 within is in
    let room : vec_len list < vec_capacity list = omega (arith, at, before) in
    let items : c.insert.new.self.items ≡ insert list.items c.args.at c.args.place = grind (arith, common_steps) in
    mapped_same items_of lists holder c.insert.new.self [] within ∙ items
    ∙ ap (λ xs. insert xs c.args.at c.args.place) (sym (mapped_at items_of lists holder list [] within is) ∙ ap (λ (s : ListsState). list_of s holder) c.self.view_is)

pub returns-clause-others : goal.returns-clause-others
returns-clause-others c other not =
    mapped_other items_of c.self.inside.lists.items c.args.holder other c.insert.new.self [] not
    ∙ ap (λ (s : ListsState). list_of s other) c.self.view_is

pub returns-clause-room : goal.returns-clause-room
returns-clause-room c other =
    let lists = c.self.inside.lists.items in
    let list = c.index_mut-list.result.now in
    let new = c.insert.new.self in
    let before = subst (λ (s : ListsState). 0 < room_of s c.args.holder) (sym c.self.view_is) c.requires.room in
    let within = room_within spare_of lists c.args.holder before in
    let at = mapped_at spare_of lists c.args.holder list 0 within c.index_mut-list.ensures.value in
    let room : vec_len list < vec_capacity list = omega (arith, at, before) in
    let len : vec_len new ≡ vec_len list + 1 = grind (arith, common_steps) in
    let used : spare_of list ≤ spare_of new + 1 = omega (arith, len, c.insert.ensures.capacity) in
    let kept = room_used spare_of lists c.args.holder list new c.index_mut-list.ensures.value used other in
    let e = ap (λ (s : ListsState). room_of s other) c.self.view_is in
    omega (arith, kept, e)
