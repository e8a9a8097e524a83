use Rattle.std.proofs.Common.{sym, ap, ◌∙◌}
use Rattle.test_results.specs.Results.{named}
use Rattle.request_rules.specs.Named.{place_held}
use Rattle.request_rules.proofs.ResultPlaces.{result_found}
use Rattle.request_rules.proofs.locating.place_held.Goals as goal

pub returns-in-Some : goal.returns-in-Some
returns-in-Some c =
    result_found c.args.results.now.rows (named c.in-Some.holder c.args.name.now.test c.args.name.now.result) c.find.result
    c.rows.ensures.table c.find.ensures
    ∙ sym (ap (place_held c.args.results.now.rows c.args.name.now) c.in-Some.is)
