use Rattle.std.proofs.Common.{◌≡◌, ◌+◌, sym, ap, ◌∙◌}
use Rattle.std.specs.Prelude.{Some}
use Rattle.tap_reader.specs.Lines.{lines}
use Rattle.tap_reader.specs.LineForms.{said_by, Bail}
use Rattle.tap_reader.specs.Counted.{counted, passed_over}
use Rattle.tap_reader.specs.Entries.{said_of}
use Rattle.tap_reader.proofs.ReadingLemmas.{counted_all, lines_behind}
use Rattle.tap_reader.proofs.reading.take_line.Goals as goal

pub returns-in_ok-push-in-GivenUp-clause-rest : goal.returns-in_ok-push-in-GivenUp-clause-rest
returns-in_ok-push-in-GivenUp-clause-rest c =
    let ls = lines c.args.behind.now in
    let n = c.args.number + 1 in
    let said : said_by c.args.line.now ≡ Some (c.in-Some.level, Bail) =
    sym c.in-Some.ensures ∙ ap (λ x. Some (c.in-Some.level, said_of x)) c.in-GivenUp.is in
    ap (counted n 0) (lines_behind c.args.behind.now) ∙ sym (counted_all n ls) ∙ ap (λ k. counted n (passed_over k ls) ls) (sym said)
