use Rattle.std.proofs.Common.{◌≡◌, refl, sym, ap, subst, ◌∙◌, map}
use Rattle.std.specs.Prelude.{string_bytes}
use Rattle.program_words.specs.Grammar.{Says}
use Rattle.program_words.specs.declared.command.Command.TheVariants as commands
use Rattle.rdb_program.specs.Words.{IsSaid, IsServeWords}
use Rattle.rdb_program.proofs.ServiceLaws.{program_service, exit_service}
use Rattle.rdb_program.proofs.UploadLaws.{is_said, program_other, exit_other, exit_upload, program_upload}
use Rattle.rdb_program.proofs.run.run_program.Goals.{in_default-via-in-Ok+in-Answer-1, in_default-via-in-Err-1}
use Rattle.rdb_program.proofs.run.run_program.Goals as goal

pub returns-in-Ok-Sink-clause-run : goal.returns-in-Ok-Sink-clause-run
returns-in-Ok-Sink-clause-run g c =
    let one = c.in-Ok-Sink.field-0-is in
    let two = c.in-Ok-Sink.sink-is in
    let is : c.in-Ok-Sink.field-0 ≡ commands.Sink c.in-Ok-Sink.sink = cc in
    program_upload _ _ (λ clock. g.C.Clock.tells (g.C.Clock.state clock)) g.D.Disk.told g.D.Disk.faults _ _ _ _ _ _ _ _ _ _
    c.args.disk c.finish.result.disk c.args.clock c.finish.result.clock _ _ c.in-Ok-Sink.sink c.send_report-sent.result c.tell.result
    (subst (Says _) is c.in-Ok-Sink.ensures.said) c.finish.ensures.status c.finish.ensures.disk c.finish.ensures.clock
    (ap (λ v. v.items) c.finish.ensures.doors) c.send_report-sent.ensures.sent c.tell.ensures c.finish.ensures.line

pub returns-in-Ok-Sink-clause-status : goal.returns-in-Ok-Sink-clause-status
returns-in-Ok-Sink-clause-status g c =
    let one = c.in-Ok-Sink.field-0-is in
    let two = c.in-Ok-Sink.sink-is in
    let is : c.in-Ok-Sink.field-0 ≡ commands.Sink c.in-Ok-Sink.sink = cc in
    exit_upload _ _ g.D.Disk.told g.D.Disk.faults _ _ _ _ _ _ _ _ _ _
    c.args.disk c.finish.result.disk _ _ c.in-Ok-Sink.sink c.send_report-sent.result c.tell.result
    (subst (Says _) is c.in-Ok-Sink.ensures.said) c.finish.ensures.status c.send_report-sent.ensures.status c.tell.ensures

-- The link still holds the input and the output that it was made of, so what it leaves of them is theirs.
pub returns-in_default-clause-run : goal.returns-in_default-clause-run
returns-in_default-clause-run g c =
    let first = c.new-link.result in
    let last = c.run_words-ending.new.link in
    let holds = c.run_words-ending.ensures.holds in
    let same_source : last.source.ghost_name ≡ first.source.ghost_name = cc in
    let same_sink : last.sink.ghost_name ≡ first.sink.ghost_name = cc in
    let input = c.input-1.given.1 (sym c.new-link.ensures.source ∙ sym same_source) in
    let output = c.output-1.given.1 (sym c.new-link.ensures.sink ∙ sym same_sink) in
    let same : c.in_default-1.said ≡ c.read_words.result = elim c.in_default-1.branch [
      | in_default-via-in-Ok+in-Answer-1 w ↦ let e = w.said-is in cc
      | in_default-via-in-Err-1 w ↦ let e = w.said-is in cc
    ] in
    let said = subst (IsSaid (map string_bytes c.args.words.now)) (sym same)
    (is_said (map string_bytes c.args.words.now) c.read_words.result c.read_words.ensures.said (λ refused. c.read_words.ensures.refused refused)) in
    program_other _ _ (λ clock. g.C.Clock.tells (g.C.Clock.state clock)) g.D.Disk.told g.D.Disk.faults _ _ _ _ _ _ _ _ _ _ _ _ _ _ _
    c.run_words-ending.result.1.disk c.finish-in_default.result.disk c.args.clock c.run_words-ending.result.1.clock
    c.finish-in_default.result.clock _ _ c.run_words-ending.result.0 c.finish-in_default.ensures.status c.finish-in_default.ensures.disk
    c.finish-in_default.ensures.clock (ap (λ v. v.items) c.finish-in_default.ensures.doors) refl
    (ap g.I.Source.ends c.new-link.ensures.source_now) (ap g.I.Source.ends (sym input))
    (ap g.O.Sink.ends c.new-link.ensures.sink_now) (ap g.O.Sink.ends (sym output))
    (c.run_words-ending.ensures.run _ said)
    c.finish-in_default.ensures.line

pub returns-in_default-clause-status : goal.returns-in_default-clause-status
returns-in_default-clause-status g c =
    let first = c.new-link.result in
    let last = c.run_words-ending.new.link in
    let holds = c.run_words-ending.ensures.holds in
    let same_source : last.source.ghost_name ≡ first.source.ghost_name = cc in
    let same_sink : last.sink.ghost_name ≡ first.sink.ghost_name = cc in
    let input = c.input-1.given.1 (sym c.new-link.ensures.source ∙ sym same_source) in
    let output = c.output-1.given.1 (sym c.new-link.ensures.sink ∙ sym same_sink) in
    let same : c.in_default-1.said ≡ c.read_words.result = elim c.in_default-1.branch [
      | in_default-via-in-Ok+in-Answer-1 w ↦ let e = w.said-is in cc
      | in_default-via-in-Err-1 w ↦ let e = w.said-is in cc
    ] in
    let said = subst (IsSaid (map string_bytes c.args.words.now)) (sym same)
    (is_said (map string_bytes c.args.words.now) c.read_words.result c.read_words.ensures.said (λ refused. c.read_words.ensures.refused refused)) in
    exit_other _ _ (λ clock. g.C.Clock.tells (g.C.Clock.state clock)) g.D.Disk.told g.D.Disk.faults _ _ _ _ _ _ _ _ _ _ _ _ _ _ _
    c.run_words-ending.result.1.disk c.finish-in_default.result.disk c.args.clock c.run_words-ending.result.1.clock
    c.finish-in_default.result.clock _ _ c.run_words-ending.result.0 c.finish-in_default.ensures.status c.finish-in_default.ensures.disk
    c.finish-in_default.ensures.clock (ap (λ v. v.items) c.finish-in_default.ensures.doors) refl
    (ap g.I.Source.ends c.new-link.ensures.source_now) (ap g.I.Source.ends (sym input))
    (ap g.O.Sink.ends c.new-link.ensures.sink_now) (ap g.O.Sink.ends (sym output))
    (c.run_words-ending.ensures.run _ said)
    c.finish-in_default.ensures.line

pub returns-in-Ok-Serve-clause-run : goal.returns-in-Ok-Serve-clause-run
returns-in-Ok-Serve-clause-run g c =
    let one = c.in-Ok-Serve.field-0-is in
    let is : c.in-Ok-Serve.field-0 ≡ commands.Serve c.in-Ok-Serve.field-0-0 = cc in
    let are : IsServeWords (map string_bytes c.args.words.now) = (c.in-Ok-Serve.field-0-0, subst (Says _) is c.in-Ok-Serve.ensures.said) in
    let back = c.serve_doors-ending.result.1 in
    let finished = c.finish-in-Ok-Serve.ensures in
    program_service _ _ (λ clock. g.C.Clock.tells (g.C.Clock.state clock)) g.D.Disk.told g.D.Disk.faults _ _ _ _ _ _ _ _ _ _
    back.lent.disk c.finish-in-Ok-Serve.result.disk c.args.clock back.lent.clock c.finish-in-Ok-Serve.result.clock _ _ back.doors.items
    c.serve_doors-ending.result.0 finished.status finished.disk finished.clock (ap (λ v. v.items) finished.doors) refl
    (c.serve_doors-ending.ensures _ (g.I.Source.ends c.args.input.now) are) finished.line

pub returns-in-Ok-Serve-clause-status : goal.returns-in-Ok-Serve-clause-status
returns-in-Ok-Serve-clause-status g c =
    let one = c.in-Ok-Serve.field-0-is in
    let is : c.in-Ok-Serve.field-0 ≡ commands.Serve c.in-Ok-Serve.field-0-0 = cc in
    let are : IsServeWords (map string_bytes c.args.words.now) = (c.in-Ok-Serve.field-0-0, subst (Says _) is c.in-Ok-Serve.ensures.said) in
    let back = c.serve_doors-ending.result.1 in
    let finished = c.finish-in-Ok-Serve.ensures in
    exit_service _ _ (λ clock. g.C.Clock.tells (g.C.Clock.state clock)) g.D.Disk.told g.D.Disk.faults _ _ _ _ _ _ _ _ _ _
    back.lent.disk c.finish-in-Ok-Serve.result.disk c.args.clock back.lent.clock c.finish-in-Ok-Serve.result.clock _ _ back.doors.items
    c.serve_doors-ending.result.0 are finished.status finished.disk finished.clock (ap (λ v. v.items) finished.doors)
    (c.serve_doors-ending.ensures _ (g.I.Source.ends c.args.input.now) are) finished.line
