use Rattle.std.proofs.Common.{◌≤◌, ◌+◌, List, [], ◌∷◌, ◌++◌, Vec, get_or, map, length, sym, ap, ◌∙◌, subst}
use Rattle.std.specs.declared.alloc.Global.{Global}
use Rattle.std.proofs.lemmas.List.{length_push, length-map}
use Rattle.test_results.specs.Lists.{ListsState, items_of, spare_of, list_of, room_of}
use Rattle.test_results.proofs.ListLemmas.{past_mapped, zero_past_end}
use Rattle.test_results.proofs.holder_lists.HolderLists.add_empty.Goals as goal

pub returns-clause-list : goal.returns-clause-list
returns-clause-list c other =
    let lists = c.self.inside.lists.items in
    let is = c.push_reserved.ensures.items ∙ ap (λ xs. xs ++ c.new-none.result ∷ []) c.reserve.ensures.items in
    ap (λ xs. get_or (map items_of xs) other []) is ∙ past_mapped items_of lists c.new-none.result [] c.new-none.ensures.items other
    ∙ ap (λ (s : ListsState). list_of s other) c.self.view_is

pub returns-clause-room : goal.returns-clause-room
returns-clause-room c other =
    let lists = c.self.inside.lists.items in
    let is = c.push_reserved.ensures.items ∙ ap (λ xs. xs ++ c.new-none.result ∷ []) c.reserve.ensures.items in
    subst (λ n. n ≤ get_or (map spare_of c.push_reserved.new.self.items) other 0) (ap (λ (s : ListsState). room_of s other) c.self.view_is)
    (subst (λ (xs : List (Vec _ Global)). get_or (map spare_of lists) other 0 ≤ get_or (map spare_of xs) other 0) (sym is)
    (zero_past_end spare_of lists c.new-none.result other))

pub returns-clause-count : goal.returns-clause-count
returns-clause-count c =
    let lists = c.self.inside.lists.items in
    let is = c.push_reserved.ensures.items ∙ ap (λ xs. xs ++ c.new-none.result ∷ []) c.reserve.ensures.items in
    length-map c.push_reserved.new.self.items items_of ∙ ap length is ∙ length_push lists c.new-none.result
    ∙ ap (λ n. n + 1) (sym (length-map lists items_of) ∙ ap (λ (s : ListsState). length s.lists) c.self.view_is)
