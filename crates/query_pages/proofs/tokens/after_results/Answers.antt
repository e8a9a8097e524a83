use Rattle.verdict_lists.specs.World.{world_of}
use Rattle.verdict_pages.specs.Keys.{by_result, result_place}
use Rattle.query_pages.specs.Tokens.{IsResultReadAs, result_token}
use Rattle.query_pages.proofs.RowLemmas.{last_token}
use Rattle.query_pages.proofs.TokenLemmas.{last_read}
use Rattle.query_pages.proofs.tokens.after_results.Goals as goal

pub returns-in_ok-result_token-in-Some-clause-next : goal.returns-in_ok-result_token-in-Some-clause-next
returns-in_ok-result_token-in-Some-clause-next c = λ after.
    last_token by_result (result_place (world_of c.args.view.now)) (result_token c.args.query.now) c.args.page.now.rows.now c.in-Some.place.now
    c.args.page.now.more c.in_ok-result_token-in-Some.field-0 after c.if-page.true c.in-Some.ensures.value c.in_ok-result_token-in-Some.ensures.text

pub returns-in_ok-result_token-in-Some-clause-read : goal.returns-in_ok-result_token-in-Some-clause-read
returns-in_ok-result_token-in-Some-clause-read c = λ after place text same is.
    last_read by_result (result_place (world_of c.args.view.now)) (IsResultReadAs c.args.query.now) c.args.page.now.rows.now c.in-Some.place.now after
    place c.in_ok-result_token-in-Some.field-0 text c.in-Some.ensures.value c.in_ok-result_token-in-Some.ensures.read same is
