use Rattle.verdict_pages.specs.Keys.{by_verdict, verdict_place}
use Rattle.verdict_pages.proofs.KeyLemmas.{by_verdict_total}
use Rattle.verdict_pages.proofs.PageLemmas.{pages_are_list}
use Rattle.verdict_pages.proofs.laws.verdict_pages_are_list.Goals as goal

pub returns : goal.returns
returns c = λ world. pages_are_list by_verdict (verdict_place world) by_verdict_total
