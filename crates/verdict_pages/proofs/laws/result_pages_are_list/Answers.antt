use Rattle.verdict_pages.specs.Keys.{by_result, result_place}
use Rattle.verdict_pages.proofs.KeyLemmas.{by_result_total}
use Rattle.verdict_pages.proofs.PageLemmas.{pages_are_list}
use Rattle.verdict_pages.proofs.laws.result_pages_are_list.Goals as goal

pub returns : goal.returns
returns c = λ world. pages_are_list by_result (result_place world) by_result_total
