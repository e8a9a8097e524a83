use Rattle.std.proofs.Common.{Option, option_map, subst}
use Rattle.std.specs.Borrow.{Bor}
use Rattle.std.specs.Prelude.{ℕ, List, string_bytes}
use Rattle.artifacts.specs.declared.artifact.Artifact.{Artifact}
use Rattle.artifacts.specs.Pages.{IsPage}
use Rattle.artifact_pages.proofs.PageLaws.{shown_page}
use Rattle.artifact_pages.proofs.pages.show_artifacts.Goals as goal

pub returns : goal.returns
returns c =
    let asked = c.args.asked.now in
    let found = c.list-page.result in
    shown_page (λ (b : Bor Artifact). b.now) c.args.table.now.rows asked c.in_ok-rows.rows.items (option_map string_bytes c.in_ok-next.next)
    found.rows.now found.more
    (subst (λ (after : Option (List ℕ)). IsPage c.args.table.now.rows asked.holder asked.parent after asked.size found.rows.now found.more)
    c.as_ref-after.ensures.value c.list-page.ensures.page) c.in_ok-rows.ensures c.in_ok-next.ensures
