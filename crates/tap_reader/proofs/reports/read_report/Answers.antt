use Rattle.std.proofs.Common.{◌≡◌, ◌≤◌, map, rules}
use Rattle.std.proofs.lemmas.Bool.Decides.{nat_tests}
use Rattle.tap_reader.specs.declared.faults.TapFault.TheVariants.{Memory}
use Rattle.tap_reader.specs.Cases.{names_len}
use Rattle.tap_reader.specs.Entries.{line_of}
use Rattle.tap_reader.specs.Naming.{named}
use Rattle.tap_reader.proofs.LawLemmas.{long-no_cases, long_is_memory}
use Rattle.tap_reader.proofs.reports.read_report.Goals as goal

pub returns-in_err-written-clause-long : goal.returns-in_err-written-clause-long
returns-in_err-written-clause-long c h =
    let fault = c.in_err-written.field-0.0 in
    let same : fault ≡ Memory = long_is_memory c.args.bytes.now fault c.in_err-written.ensures.err h in search (rules, same)

pub returns-clause-long : goal.returns-clause-long
returns-clause-long c h =
    let cases = named (map line_of c.in_ok-written.written.items) in
    let few : names_len cases ≤ 536870912 = search (rules, nat_tests) in
    long-no_cases c.args.bytes.now cases c.in_ok-written.ensures.ok few h
