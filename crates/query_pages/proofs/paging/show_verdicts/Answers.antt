use Rattle.std.proofs.Common.{◌≡◌, Some, sym, ap, ◌∙◌, subst}
use Rattle.std.specs.Option.{option_copied, option_map}
use Rattle.verdict_lists.specs.Verdicts.{AreVerdicts}
use Rattle.verdict_lists.specs.World.{world_of}
use Rattle.verdict_lists.proofs.LawLemmas.{one_list_is}
use Rattle.verdict_pages.specs.Keys.{KeysRise, by_verdict, place_seen, verdict_place, verdict_rows}
use Rattle.verdict_pages.specs.Pages.{last_key}
use Rattle.verdict_pages.proofs.KeyLemmas.{verdict_keys_rise_is}
use Rattle.query_pages.specs.Pages.{after_verdict}
use Rattle.query_pages.proofs.RowLemmas.{verdicts_there}
use Rattle.query_pages.proofs.paging.show_verdicts.Goals as goal

pub verdict_page-page-requires : goal.verdict_page-page-requires
verdict_page-page-requires c =
    let world = world_of c.args.view.now in
    subst (KeysRise world) (sym c.as_slice-2.ensures.value) (verdict_keys_rise_is world c.as_slice.result.now c.in_ok-list.list.items c.in_ok-list.ensures)

pub shown_verdicts-requires-clause-there : goal.shown_verdicts-requires-clause-there
shown_verdicts-requires-clause-there c =
    verdicts_there (world_of c.args.view.now) c.args.query.now.roots c.as_slice.result.now c.in_ok-list.list.items c.as_slice-2.result.now
    c.verdict_page-page.result.rows.now (option_map place_seen (option_copied c.as_ref.result)) c.args.query.now.size c.rows_are_kept.ensures
    c.requires.roots c.as_slice.ensures c.in_ok-list.ensures c.as_slice-2.ensures.value c.verdict_page-page.ensures.rows

pub after_verdicts-requires-clause-there : goal.after_verdicts-requires-clause-there
after_verdicts-requires-clause-there c =
    verdicts_there (world_of c.args.view.now) c.args.query.now.roots c.as_slice.result.now c.in_ok-list.list.items c.as_slice-2.result.now
    c.verdict_page-page.result.rows.now (option_map place_seen (option_copied c.as_ref.result)) c.args.query.now.size c.rows_are_kept.ensures
    c.requires.roots c.as_slice.ensures c.in_ok-list.ensures c.as_slice-2.ensures.value c.verdict_page-page.ensures.rows

pub returns-clause-token : goal.returns-clause-token
returns-clause-token c = λ list place text are next key.
    let world = world_of c.args.view.now in
    let query = c.args.query.now in
    let items = c.in_ok-list.list.items in
    let asked = option_map place_seen (option_copied c.as_ref.result) in
    let own : AreVerdicts world query.roots items = subst (λ l. AreVerdicts world l items) c.as_slice.ensures c.in_ok-list.ensures in
    let after : asked ≡ after_verdict query = ap (option_map place_seen) c.as_ref.ensures.value ∙ c.after_verdict-after.ensures in
    let rows : c.verdict_page-page.result.rows.now ≡ verdict_rows world list (after_verdict query) query.size =
    c.verdict_page-page.ensures.rows
    ∙ ap (λ l. verdict_rows world l asked query.size) (c.as_slice-2.ensures.value ∙ one_list_is world query.roots items list own are)
    ∙ ap (λ a. verdict_rows world list a query.size) after in
    let last : last_key by_verdict (verdict_place world) (after_verdict query) c.verdict_page-page.result.rows.now ≡ Some place =
    ap (last_key by_verdict (verdict_place world) (after_verdict query)) rows ∙ key in
    c.in_ok-next.ensures.read (after_verdict query) place text next last
