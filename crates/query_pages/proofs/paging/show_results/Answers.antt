use Rattle.std.proofs.Common.{◌≡◌, Some, sym, ap, ◌∙◌, subst}
use Rattle.std.specs.Option.{option_copied, option_map}
use Rattle.verdict_lists.specs.Listing.{AreListed}
use Rattle.verdict_lists.specs.World.{world_of}
use Rattle.verdict_lists.proofs.LawLemmas.{one_listing_is}
use Rattle.verdict_pages.specs.Keys.{ResultKeysRise, by_result, result_place, result_rows, result_seen}
use Rattle.verdict_pages.specs.Pages.{last_key}
use Rattle.verdict_pages.proofs.KeyLemmas.{results_rise_is}
use Rattle.query_pages.specs.Pages.{after_result}
use Rattle.query_pages.proofs.RowLemmas.{results_there}
use Rattle.query_pages.proofs.paging.show_results.Goals as goal

pub result_page-page-requires : goal.result_page-page-requires
result_page-page-requires c =
    let world = world_of c.args.view.now in
    subst (ResultKeysRise world) (sym c.as_slice-2.ensures.value)
    (results_rise_is world c.args.query.now.roots c.in_ok-list.list.items c.rows_are_kept.ensures c.requires.roots
    (subst (λ l. AreListed world l c.in_ok-list.list.items) c.as_slice.ensures c.in_ok-list.ensures))

pub shown_results-requires-clause-there : goal.shown_results-requires-clause-there
shown_results-requires-clause-there c =
    results_there (world_of c.args.view.now) c.args.query.now.roots c.as_slice.result.now c.in_ok-list.list.items c.as_slice-2.result.now
    c.result_page-page.result.rows.now (option_map result_seen (option_copied c.as_ref.result)) c.args.query.now.size c.rows_are_kept.ensures
    c.requires.roots c.as_slice.ensures c.in_ok-list.ensures c.as_slice-2.ensures.value c.result_page-page.ensures.rows

pub after_results-requires-clause-there : goal.after_results-requires-clause-there
after_results-requires-clause-there c =
    results_there (world_of c.args.view.now) c.args.query.now.roots c.as_slice.result.now c.in_ok-list.list.items c.as_slice-2.result.now
    c.result_page-page.result.rows.now (option_map result_seen (option_copied c.as_ref.result)) c.args.query.now.size c.rows_are_kept.ensures
    c.requires.roots c.as_slice.ensures c.in_ok-list.ensures c.as_slice-2.ensures.value c.result_page-page.ensures.rows

pub returns-clause-token : goal.returns-clause-token
returns-clause-token c = λ list place text are next key.
    let world = world_of c.args.view.now in
    let query = c.args.query.now in
    let items = c.in_ok-list.list.items in
    let asked = option_map result_seen (option_copied c.as_ref.result) in
    let own : AreListed world query.roots items = subst (λ l. AreListed world l items) c.as_slice.ensures c.in_ok-list.ensures in
    let after : asked ≡ after_result query = ap (option_map result_seen) c.as_ref.ensures.value ∙ c.after_result-after.ensures in
    let rows : c.result_page-page.result.rows.now ≡ result_rows world list (after_result query) query.size =
    c.result_page-page.ensures.rows
    ∙ ap (λ l. result_rows world l asked query.size) (c.as_slice-2.ensures.value ∙ one_listing_is world query.roots items list own are)
    ∙ ap (λ a. result_rows world list a query.size) after in
    let last : last_key by_result (result_place world) (after_result query) c.result_page-page.result.rows.now ≡ Some place =
    ap (last_key by_result (result_place world) (after_result query)) rows ∙ key in
    c.in_ok-next.ensures.read (after_result query) place text next last
