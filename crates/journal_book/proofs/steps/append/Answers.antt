use Rattle.std.proofs.Common.{◌≡◌, ℕ, ◌+◌, false, List, [], ◌∷◌, ◌++◌, length, inl, sym, ap, subst, ◌∙◌}
use Rattle.disks.specs.Parts.{other_part}
use Rattle.disks.specs.Moments.{AtEachMoment}
use Rattle.result_journal.specs.Journals.{StandsFor, begun_part, disk_of, end_of, prepared}
use Rattle.result_journal.proofs.JournalLaws.{on_each_err}
use Rattle.result_journal.proofs.OtherLaws.{other_same}
use Rattle.journal_book.specs.Worlds.{HasSettled}
use Rattle.journal_book.proofs.StepLaws.{append_moments, gate_behind, same_prepared, settled_reads, unmoved_moments}
use Rattle.journal_book.proofs.steps.append.Goals as goal

pub returns-in_err-prepare_record-clause-any_moment : goal.returns-in_err-prepare_record-clause-any_moment
returns-in_err-prepare_record-clause-any_moment g c = λ first commands stands.
    let P = HasSettled g.M.Machine.plays first (g.M.Machine.world c.args.machine.now) false (g.M.Machine.said c.args.plan.now) in
    subst (λ (d : g.row.D.Denot). AtEachMoment (g.D.Disk.told (disk_of c.args.journal.now)) (g.D.Disk.told d) P)
    (sym c.prepare_record.ensures.disk)
    (unmoved_moments (g.D.Disk.told (disk_of c.args.journal.now)) P
    (λ t e image may. inl (
      commands,
      settled_reads g.D.Disk.told g.M.Machine.plays first (g.M.Machine.world c.args.machine.now)
          c.args.journal.now commands stands c.requires.settled t e image may,
      stands.leads,
    )))

pub returns-in_err-prepare_record-clause-other : goal.returns-in_err-prepare_record-clause-other
returns-in_err-prepare_record-clause-other g c =
    other_same (other_part begun_part) (g.D.Disk.told (disk_of c.args.journal.now)) (g.D.Disk.told (disk_of c.prepare_record.new.self)) (ap g.D.Disk.told c.prepare_record.ensures.disk)

pub returns-in_err-append-clause-any_moment : goal.returns-in_err-append-clause-any_moment
returns-in_err-append-clause-any_moment g c = λ first commands stands.
    append_moments g.D.Disk.told g.M.Machine.plays first (g.M.Machine.world c.args.machine.now) c.args.journal.now c.prepare_record.new.self c.append.new.self
    commands (g.M.Machine.said c.args.plan.now) stands.leads (g.M.Machine.leads c.args.machine.now c.args.plan.now c.requires.fits)
    c.prepare_record.ensures.disk (c.in_ok-prepare_record.ensures.command ∙ c.command.ensures)
    (c.prepare_record.ensures.part ∙ stands.part)
    (c.append.ensures.any_moment commands (c.prepare_record.ensures.commands commands stands.on_disk))

pub returns-clause-any_moment : goal.returns-clause-any_moment
returns-clause-any_moment g c = λ first commands stands.
    append_moments g.D.Disk.told g.M.Machine.plays first (g.M.Machine.world c.args.machine.now) c.args.journal.now c.prepare_record.new.self c.append.new.self
    commands (g.M.Machine.said c.args.plan.now) stands.leads (g.M.Machine.leads c.args.machine.now c.args.plan.now c.requires.fits)
    c.prepare_record.ensures.disk (c.in_ok-prepare_record.ensures.command ∙ c.command.ensures)
    (c.prepare_record.ensures.part ∙ stands.part)
    (c.append.ensures.any_moment commands (c.prepare_record.ensures.commands commands stands.on_disk))

pub returns-in_err-append-clause-err : goal.returns-in_err-append-clause-err
returns-in_err-append-clause-err g c = on_each_err c.from_residual-in_err-append.result (λ first commands stands.
    let same = c.in_err-append.ensures.err_same in
    let is : prepared c.append.new.self ≡ g.M.Machine.said c.args.plan.now =
    same_prepared c.prepare_record.new.self c.append.new.self same.staged ∙ (c.in_ok-prepare_record.ensures.command ∙ c.command.ensures) in
    record {
      part = c.append.ensures.part ∙ (c.prepare_record.ensures.part ∙ stands.part);
      on_disk = c.in_err-append.ensures.err commands (c.prepare_record.ensures.commands commands stands.on_disk);
      leads = stands.leads;
      place = same.end ∙ (c.prepare_record.ensures.end ∙ stands.place);
      failed = λ e. subst (λ (l : List ℕ). (next : g.M.Machine.World) × g.M.Machine.plays (g.M.Machine.world c.args.machine.now) l next) (sym is)
          (g.M.Machine.leads c.args.machine.now c.args.plan.now c.requires.fits);
    })

pub returns-clause-ok : goal.returns-clause-ok
returns-clause-ok g c = λ first commands stands.
    let is : prepared c.prepare_record.new.self ≡ g.M.Machine.said c.args.plan.now = c.in_ok-prepare_record.ensures.command ∙ c.command.ensures in
    record {
      part = c.append.ensures.part ∙ (c.prepare_record.ensures.part ∙ stands.part);
      on_disk = subst (λ (l : List ℕ). StandsFor g.D.Disk.told c.append.new.self (commands ++ l ∷ [])) is
          (c.in_ok-append.ensures.ok commands (c.prepare_record.ensures.commands commands stands.on_disk));
      settled = c.in_ok-append.ensures.ok_settled;
      place = c.in_ok-append.ensures.end
          ∙ (ap (λ (l : List ℕ). end_of c.prepare_record.new.self + (5 + length l)) is
          ∙ (ap (λ (n : ℕ). n + (5 + length (g.M.Machine.said c.args.plan.now))) (c.prepare_record.ensures.end ∙ stands.place)
          ∙ sym (gate_behind commands (g.M.Machine.said c.args.plan.now))));
    }
