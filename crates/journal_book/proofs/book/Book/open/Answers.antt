use Rattle.std.proofs.Common.{true≢false, sym, ap, ◌∙◌}
use Rattle.result_journal.specs.Journals.{disk_of}
use Rattle.result_journal.specs.Openings.{LeftBeforeOrAlike, opened_disk}
use Rattle.journal_book.proofs.OpenLaws.{alike_as, long_stays, opened_world}
use Rattle.journal_book.proofs.book.Book.open.Goals as goal

pub returns-in-Ok-clause-stands : goal.returns-in-Ok-clause-stands
returns-in-Ok-clause-stands g c =
    let all = c.in-Ok.ensures.ok in (
      all.commands,
      record {
        part = c.ready.ensures.part ∙ all.played.part;
        on_disk = c.ready.ensures.stands all.commands all.played.given;
        leads = all.played.leads;
        place = c.ready.ensures.end ∙ all.played.place;
        failed = λ unsettled. absurd (true≢false (sym c.ready.ensures.settled ∙ unsettled));
      },
    )

pub returns-in-Ok-clause-world : goal.returns-in-Ok-clause-world
returns-in-Ok-clause-world g c =
    let T = g.D.Disk.told in
    let all = c.in-Ok.ensures.ok in
    opened_world g.M.Machine.plays (g.M.Machine.world c.args.machine) (g.M.Machine.world c.replay_all.new.machine)
    (T c.args.disk) (T (opened_disk c.in_ok-opening.opening)) (LeftBeforeOrAlike (T c.args.disk)) all.commands
    c.in_ok-opening.ensures.any_moment c.in_ok-opening.ensures.begins (λ t is. all.all t (c.replay_all.ensures.told ∙ is)) all.played.leads

pub returns-in-Ok-clause-synced : goal.returns-in-Ok-clause-synced
returns-in-Ok-clause-synced g c =
    let T = g.D.Disk.told in
    alike_as (T c.args.disk) (T (opened_disk c.in_ok-opening.opening)) (T (disk_of c.ready.result))
    (ap T c.ready.ensures.disk ∙ c.replay_all.ensures.told) c.in_ok-opening.ensures.synced

pub returns-in-Err-clause-kept : goal.returns-in-Err-clause-kept
returns-in-Err-clause-kept g c =
    let T = g.D.Disk.told in
    long_stays (T c.args.disk) (T (opened_disk c.in_ok-opening.opening)) (T c.give_up.result)
    (ap T c.give_up.ensures ∙ c.replay_all.ensures.told) c.in_ok-opening.ensures.begins

pub returns-in-Err-clause-synced_err : goal.returns-in-Err-clause-synced_err
returns-in-Err-clause-synced_err g c =
    let T = g.D.Disk.told in
    alike_as (T c.args.disk) (T (opened_disk c.in_ok-opening.opening)) (T c.give_up.result)
    (ap T c.give_up.ensures ∙ c.replay_all.ensures.told) c.in_ok-opening.ensures.synced
