use Rattle.std.proofs.Common.{sym, subst}
use Rattle.std.proofs.lemmas.Result.{IfOk-weaker}
use Rattle.page_tokens.specs.Cursors.{verdict_contents, verdict_parts}
use Rattle.page_tokens.specs.Tokens.{IsToken}
use Rattle.workload_turns.specs.Pages.{IsCursorOf}
use Rattle.workload_turns.proofs.pages.cursor_of.Goals as goal

pub returns-in-Err : goal.returns-in-Err
returns-in-Err c =
    IfOk-weaker c.unread.result _ _
    (λ next is. subst (IsCursorOf c.args.query.now c.args.text.now) (sym is.0) (λ cursor token.
    c.in-Err.ensures.refused is.1 (verdict_contents cursor) (subst (IsToken c.args.query.now 1 verdict_parts (verdict_contents cursor)) (sym c.as_bytes.ensures.value) token)))
    c.unread.ensures
