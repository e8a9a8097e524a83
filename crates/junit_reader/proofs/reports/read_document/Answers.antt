use Rattle.std.proofs.Common.{◌≡◌, ◌<◌, length, None, sym, ◌∙◌}
use Rattle.std.proofs.lemmas.Result.{err_from_is_err_and}
use Rattle.junit_parts.specs.Constructs.{token_from, token_of}
use Rattle.junit_reader.proofs.DocumentLemmas.{begun, broken_off, finished, none_left, read_on, some_left, stopped}
use Rattle.junit_reader.proofs.reports.read_document.Goals as goal

pub loop-rest-init : goal.loop-rest-init
loop-rest-init c = begun c.args.document.now c.new-reading.result c.new-reading.ensures

pub returns-in_err-take-in-Ok-clause-flawed : goal.returns-in_err-take-in-Ok-clause-flawed
returns-in_err-take-in-Ok-clause-flawed c =
    let p = err_from_is_err_and c.from_residual.result c.from_residual.ensures.1 in
    let at = c.loop-rest in
    let read = at.invariant in
    rw (p.1, p.2) (stopped c.args.document.now at.rest.now c.in-Ok.behind.now at.reading c.take.new.self (token_of c.in-Ok.construct) c.in_err-take-in-Ok.field-0.0 read c.in-Ok.ensures.read (c.in_err-take-in-Ok.ensures read.tree read.stands))

pub loop-rest-preserved : goal.loop-rest-preserved
loop-rest-preserved c =
    let at = c.loop-rest in
    let read = at.invariant in
    read_on c.args.document.now at.rest.now c.in-Ok.behind.now at.reading c.take.new.self (token_of c.in-Ok.construct) read c.in-Ok.ensures.read (c.in_ok-take-in-Ok.ensures read.tree read.stands)

pub returns-in-Err-Broken-clause-flawed : goal.returns-in-Err-Broken-clause-flawed
returns-in-Err-Broken-clause-flawed c =
    let at = c.loop-rest in
    let none : token_from at.rest.now ≡ None = rw c.in-Err-Broken.field-0-is at c.in-Err-Broken.ensures.read in
    let some : 0 < length at.rest.now = some_left at.rest.now (sym c.is_empty.ensures ∙ c.loop-rest-test.true) in
    broken_off c.args.document.now at.rest.now at.reading at.invariant some none

pub returns-clause-flawed : goal.returns-clause-flawed
returns-clause-flawed c =
    let at = c.loop-rest in
    finished c.args.document.now at.rest.now at.reading c.end.result at.invariant (none_left at.rest.now (sym c.is_empty.ensures ∙ c.loop-rest-test.false)) (c.end.ensures at.invariant.tree at.invariant.stands)
