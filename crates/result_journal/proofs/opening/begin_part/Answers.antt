use Rattle.std.proofs.Common.{◌≡◌, ◌≤◌, ◌∙◌, true, false, ap, sym, length, arith, rules}
use Rattle.disks.specs.Parts.{Part, other_part, part_of}
use Rattle.disks.specs.MomentLaws.{at_both}
use Rattle.result_journal.specs.Begins.{IsShortImage}
use Rattle.result_journal.specs.Openings.{PartLeftBeforeOrAlike}
use Rattle.result_journal.proofs.OpenLaws.{shown_at}
use Rattle.result_journal.proofs.BeginLaws.{after_sync, sync_moments, later_same, synced_short, short_reads, short_alike, failed_sync_alike, synced_alike, later_alike, head_shown, begun_anew, same_length}
use Rattle.disks.specs.Parts.{all_synced}
use Rattle.disks.specs.Moments.{after}
use Rattle.result_journal.proofs.JournalLaws.{on_each_err}
use Rattle.result_journal.proofs.OtherLaws.{other_same, other_syncs, other_both}
use Rattle.result_journal.proofs.opening.begin_part.Goals as goal

pub returns-in_err-sync-clause-any_moment : goal.returns-in_err-sync-clause-any_moment
returns-in_err-sync-clause-any_moment g c =
    sync_moments c.args.part (g.D.Disk.told c.args.disk.now) (g.D.Disk.told c.sync.new.self) c.sync.result c.sync.ensures.syncs

pub returns-in_err-size-clause-any_moment : goal.returns-in_err-size-clause-any_moment
returns-in_err-size-clause-any_moment g c =
    let old = g.D.Disk.told c.args.disk.now in
    later_same c.args.part old (g.D.Disk.told c.sync.new.self) (g.D.Disk.told c.len.new.self) (PartLeftBeforeOrAlike c.args.part old)
    c.len.ensures.told (sync_moments c.args.part old (g.D.Disk.told c.sync.new.self) c.sync.result c.sync.ensures.syncs)

pub returns-in_err-check_head-clause-any_moment : goal.returns-in_err-check_head-clause-any_moment
returns-in_err-check_head-clause-any_moment g c =
    let old = g.D.Disk.told c.args.disk.now in
    later_same c.args.part old (g.D.Disk.told c.sync.new.self) (g.D.Disk.told c.check_head.new.disk) (PartLeftBeforeOrAlike c.args.part old)
    (c.check_head.ensures.told ∙ c.len.ensures.told)
    (sync_moments c.args.part old (g.D.Disk.told c.sync.new.self) c.sync.result c.sync.ensures.syncs)

pub returns-then-size-gt-EMPTY_SIZE-clause-any_moment : goal.returns-then-size-gt-EMPTY_SIZE-clause-any_moment
returns-then-size-gt-EMPTY_SIZE-clause-any_moment g c =
    let old = g.D.Disk.told c.args.disk.now in
    later_same c.args.part old (g.D.Disk.told c.sync.new.self) (g.D.Disk.told c.check_head.new.disk) (PartLeftBeforeOrAlike c.args.part old)
    (c.check_head.ensures.told ∙ c.len.ensures.told)
    (sync_moments c.args.part old (g.D.Disk.told c.sync.new.self) c.sync.result c.sync.ensures.syncs)

pub returns-in_err-is_empty_journal-clause-any_moment : goal.returns-in_err-is_empty_journal-clause-any_moment
returns-in_err-is_empty_journal-clause-any_moment g c =
    let old = g.D.Disk.told c.args.disk.now in
    later_same c.args.part old (g.D.Disk.told c.sync.new.self) (g.D.Disk.told c.is_empty_journal.new.disk) (PartLeftBeforeOrAlike c.args.part old)
    (c.is_empty_journal.ensures.told ∙ c.len.ensures.told)
    (sync_moments c.args.part old (g.D.Disk.told c.sync.new.self) c.sync.result c.sync.ensures.syncs)

pub returns-else-not-branch-clause-any_moment : goal.returns-else-not-branch-clause-any_moment
returns-else-not-branch-clause-any_moment g c =
    let old = g.D.Disk.told c.args.disk.now in
    later_same c.args.part old (g.D.Disk.told c.sync.new.self) (g.D.Disk.told c.is_empty_journal.new.disk) (PartLeftBeforeOrAlike c.args.part old)
    (c.is_empty_journal.ensures.told ∙ c.len.ensures.told)
    (sync_moments c.args.part old (g.D.Disk.told c.sync.new.self) c.sync.result c.sync.ensures.syncs)

pub returns-in_err-write_empty_journal-clause-any_moment : goal.returns-in_err-write_empty_journal-clause-any_moment
returns-in_err-write_empty_journal-clause-any_moment g c =
    let old = g.D.Disk.told c.args.disk.now in
    let mid = g.D.Disk.told c.sync.new.self in
    let begun = g.D.Disk.told c.is_empty_journal.new.disk in
    let few : c.in_ok-size.size ≤ 9 = omega arith in
    let same : begun ≡ mid = c.is_empty_journal.ensures.told ∙ c.len.ensures.told in
    let first = later_same c.args.part old mid begun (PartLeftBeforeOrAlike c.args.part old) same
    (sync_moments c.args.part old mid c.sync.result c.sync.ensures.syncs) in
    let short = synced_short c.args.part _ old mid c.in_ok-size.size c.in_ok-sync.ensures.syncs few c.in_ok-size.ensures.length in
    at_both old begun (g.D.Disk.told c.write_empty_journal.new.disk) (PartLeftBeforeOrAlike c.args.part old) (IsShortImage c.args.part)
    (PartLeftBeforeOrAlike c.args.part old) (λ image p. p)
    (short_alike c.args.part _ old mid c.in_ok-size.size c.in_ok-sync.ensures.syncs few c.in_ok-size.ensures.length)
    first (c.write_empty_journal.ensures.moments (λ t is. short t (sym same ∙ is)))

pub returns-in_ok-write_empty_journal-clause-any_moment : goal.returns-in_ok-write_empty_journal-clause-any_moment
returns-in_ok-write_empty_journal-clause-any_moment g c =
    let old = g.D.Disk.told c.args.disk.now in
    let mid = g.D.Disk.told c.sync.new.self in
    let begun = g.D.Disk.told c.is_empty_journal.new.disk in
    let few : c.in_ok-size.size ≤ 9 = omega arith in
    let same : begun ≡ mid = c.is_empty_journal.ensures.told ∙ c.len.ensures.told in
    let first = later_same c.args.part old mid begun (PartLeftBeforeOrAlike c.args.part old) same
    (sync_moments c.args.part old mid c.sync.result c.sync.ensures.syncs) in
    let short = synced_short c.args.part _ old mid c.in_ok-size.size c.in_ok-sync.ensures.syncs few c.in_ok-size.ensures.length in
    at_both old begun (g.D.Disk.told c.write_empty_journal.new.disk) (PartLeftBeforeOrAlike c.args.part old) (IsShortImage c.args.part)
    (PartLeftBeforeOrAlike c.args.part old) (λ image p. p)
    (short_alike c.args.part _ old mid c.in_ok-size.size c.in_ok-sync.ensures.syncs few c.in_ok-size.ensures.length)
    first (c.write_empty_journal.ensures.moments (λ t is. short t (sym same ∙ is)))

pub returns-in_err-check_head-clause-shown : goal.returns-in_err-check_head-clause-shown
returns-in_err-check_head-clause-shown g c =
    let old = g.D.Disk.told c.args.disk.now in
    let mid = g.D.Disk.told c.sync.new.self in
    shown_at c.args.part old c.from_residual-in_err-check_head.result c.in_err-check_head.field-0.0
    c.from_residual-in_err-check_head.ensures.1
    (head_shown c.args.part _ old mid c.in_err-check_head.field-0.0 c.in_ok-sync.ensures.syncs
    (λ u is. let long : c.in_ok-size.size ≡ length (part_of u.now c.args.part).bytes = c.in_ok-size.ensures.length u is in omega arith)
    (λ u is. c.in_err-check_head.ensures.judged u (c.len.ensures.told ∙ is)))

pub returns-in_ok-write_empty_journal-clause-begins : goal.returns-in_ok-write_empty_journal-clause-begins
returns-in_ok-write_empty_journal-clause-begins g c = λ t u is_t is_u.
    let old = g.D.Disk.told c.args.disk.now in
    let mid = g.D.Disk.told c.sync.new.self in
    begun_anew c.args.part _ old mid (part_of u.now c.args.part).bytes c.in_ok-size.size c.in_ok-sync.ensures.syncs (omega arith)
    c.in_ok-size.ensures.length
    (λ v is empty.
    let said = c.in_ok-is_empty_journal.ensures.empty v (c.len.ensures.told ∙ is) (c.in_ok-size.ensures.length v is) in
    let none : c.in_ok-is_empty_journal.field-0 ≡ false = search rules in
    absurd (let yes : c.in_ok-is_empty_journal.field-0 ≡ true = said.1 empty in cc))
    (ap (λ (p : Part). p.bytes) (c.in_ok-write_empty_journal.ensures.ok u is_u)) t is_t

pub returns-in_err-write_empty_journal-clause-kept : goal.returns-in_err-write_empty_journal-clause-kept
returns-in_err-write_empty_journal-clause-kept g c =
    on_each_err c.from_residual-in_err-write_empty_journal.result (λ t u is_t is_u more.
    let next = after_sync c.args.part _ (g.D.Disk.told c.args.disk.now) (g.D.Disk.told c.sync.new.self) c.in_ok-sync.ensures.syncs t is_t in
    let long = c.in_ok-size.ensures.length (after t c.args.part (all_synced (part_of t.now c.args.part).bytes)) next in
    absurd (omega (arith, long, same_length c.args.part t, more)))

pub returns-in_err-sync-clause-synced : goal.returns-in_err-sync-clause-synced
returns-in_err-sync-clause-synced g c =
    failed_sync_alike c.args.part (g.D.Disk.told c.args.disk.now) (g.D.Disk.told c.sync.new.self) c.in_err-sync.field-0.0
    c.in_err-sync.ensures.syncs

pub returns-in_err-size-clause-synced : goal.returns-in_err-size-clause-synced
returns-in_err-size-clause-synced g c =
    synced_alike c.args.part _ (g.D.Disk.told c.args.disk.now) (g.D.Disk.told c.sync.new.self) (g.D.Disk.told c.len.new.self)
    c.in_ok-sync.ensures.syncs (c.len.ensures.told)

pub returns-in_err-check_head-clause-synced : goal.returns-in_err-check_head-clause-synced
returns-in_err-check_head-clause-synced g c =
    synced_alike c.args.part _ (g.D.Disk.told c.args.disk.now) (g.D.Disk.told c.sync.new.self) (g.D.Disk.told c.check_head.new.disk)
    c.in_ok-sync.ensures.syncs (c.check_head.ensures.told ∙ c.len.ensures.told)

pub returns-then-size-gt-EMPTY_SIZE-clause-synced : goal.returns-then-size-gt-EMPTY_SIZE-clause-synced
returns-then-size-gt-EMPTY_SIZE-clause-synced g c =
    synced_alike c.args.part _ (g.D.Disk.told c.args.disk.now) (g.D.Disk.told c.sync.new.self) (g.D.Disk.told c.check_head.new.disk)
    c.in_ok-sync.ensures.syncs (c.check_head.ensures.told ∙ c.len.ensures.told)

pub returns-in_err-is_empty_journal-clause-synced : goal.returns-in_err-is_empty_journal-clause-synced
returns-in_err-is_empty_journal-clause-synced g c =
    synced_alike c.args.part _ (g.D.Disk.told c.args.disk.now) (g.D.Disk.told c.sync.new.self) (g.D.Disk.told c.is_empty_journal.new.disk)
    c.in_ok-sync.ensures.syncs (c.is_empty_journal.ensures.told ∙ c.len.ensures.told)

pub returns-else-not-branch-clause-synced : goal.returns-else-not-branch-clause-synced
returns-else-not-branch-clause-synced g c =
    synced_alike c.args.part _ (g.D.Disk.told c.args.disk.now) (g.D.Disk.told c.sync.new.self) (g.D.Disk.told c.is_empty_journal.new.disk)
    c.in_ok-sync.ensures.syncs (c.is_empty_journal.ensures.told ∙ c.len.ensures.told)

pub returns-in_err-write_empty_journal-clause-synced : goal.returns-in_err-write_empty_journal-clause-synced
returns-in_err-write_empty_journal-clause-synced g c =
    let old = g.D.Disk.told c.args.disk.now in
    let mid = g.D.Disk.told c.sync.new.self in
    let begun = g.D.Disk.told c.is_empty_journal.new.disk in
    let few : c.in_ok-size.size ≤ 9 = omega arith in
    let same : begun ≡ mid = c.is_empty_journal.ensures.told ∙ c.len.ensures.told in
    let short = synced_short c.args.part _ old mid c.in_ok-size.size c.in_ok-sync.ensures.syncs few c.in_ok-size.ensures.length in
    later_alike c.args.part _ old mid begun (g.D.Disk.told c.write_empty_journal.new.disk) (IsShortImage c.args.part) c.in_ok-sync.ensures.syncs same
    (c.write_empty_journal.ensures.moments (λ t is. short t (sym same ∙ is)))
    (λ image few_bytes t is.
    short_reads c.args.part _ old mid c.in_ok-size.size c.in_ok-sync.ensures.syncs few c.in_ok-size.ensures.length image few_bytes t is)

pub returns-in_ok-write_empty_journal-clause-synced : goal.returns-in_ok-write_empty_journal-clause-synced
returns-in_ok-write_empty_journal-clause-synced g c =
    let old = g.D.Disk.told c.args.disk.now in
    let mid = g.D.Disk.told c.sync.new.self in
    let begun = g.D.Disk.told c.is_empty_journal.new.disk in
    let few : c.in_ok-size.size ≤ 9 = omega arith in
    let same : begun ≡ mid = c.is_empty_journal.ensures.told ∙ c.len.ensures.told in
    let short = synced_short c.args.part _ old mid c.in_ok-size.size c.in_ok-sync.ensures.syncs few c.in_ok-size.ensures.length in
    later_alike c.args.part _ old mid begun (g.D.Disk.told c.write_empty_journal.new.disk) (IsShortImage c.args.part) c.in_ok-sync.ensures.syncs same
    (c.write_empty_journal.ensures.moments (λ t is. short t (sym same ∙ is)))
    (λ image few_bytes t is.
    short_reads c.args.part _ old mid c.in_ok-size.size c.in_ok-sync.ensures.syncs few c.in_ok-size.ensures.length image few_bytes t is)

pub returns-in_err-sync-clause-other : goal.returns-in_err-sync-clause-other
returns-in_err-sync-clause-other g c =
    other_syncs c.args.part (g.D.Disk.told c.args.disk.now) (g.D.Disk.told c.sync.new.self) c.sync.result c.sync.ensures.syncs

pub returns-in_err-size-clause-other : goal.returns-in_err-size-clause-other
returns-in_err-size-clause-other g c =
    let mid = g.D.Disk.told c.sync.new.self in
    other_both (other_part c.args.part) (g.D.Disk.told c.args.disk.now) mid (g.D.Disk.told c.len.new.self)
    (other_syncs c.args.part (g.D.Disk.told c.args.disk.now) mid c.sync.result c.sync.ensures.syncs)
    (other_same (other_part c.args.part) mid (g.D.Disk.told c.len.new.self) (c.len.ensures.told))

pub returns-in_err-check_head-clause-other : goal.returns-in_err-check_head-clause-other
returns-in_err-check_head-clause-other g c =
    let mid = g.D.Disk.told c.sync.new.self in
    other_both (other_part c.args.part) (g.D.Disk.told c.args.disk.now) mid (g.D.Disk.told c.check_head.new.disk)
    (other_syncs c.args.part (g.D.Disk.told c.args.disk.now) mid c.sync.result c.sync.ensures.syncs)
    (other_same (other_part c.args.part) mid (g.D.Disk.told c.check_head.new.disk) (c.check_head.ensures.told ∙ c.len.ensures.told))

pub returns-then-size-gt-EMPTY_SIZE-clause-other : goal.returns-then-size-gt-EMPTY_SIZE-clause-other
returns-then-size-gt-EMPTY_SIZE-clause-other g c =
    let mid = g.D.Disk.told c.sync.new.self in
    other_both (other_part c.args.part) (g.D.Disk.told c.args.disk.now) mid (g.D.Disk.told c.check_head.new.disk)
    (other_syncs c.args.part (g.D.Disk.told c.args.disk.now) mid c.sync.result c.sync.ensures.syncs)
    (other_same (other_part c.args.part) mid (g.D.Disk.told c.check_head.new.disk) (c.check_head.ensures.told ∙ c.len.ensures.told))

pub returns-in_err-is_empty_journal-clause-other : goal.returns-in_err-is_empty_journal-clause-other
returns-in_err-is_empty_journal-clause-other g c =
    let mid = g.D.Disk.told c.sync.new.self in
    other_both (other_part c.args.part) (g.D.Disk.told c.args.disk.now) mid (g.D.Disk.told c.is_empty_journal.new.disk)
    (other_syncs c.args.part (g.D.Disk.told c.args.disk.now) mid c.sync.result c.sync.ensures.syncs)
    (other_same (other_part c.args.part) mid (g.D.Disk.told c.is_empty_journal.new.disk) (c.is_empty_journal.ensures.told ∙ c.len.ensures.told))

pub returns-else-not-branch-clause-other : goal.returns-else-not-branch-clause-other
returns-else-not-branch-clause-other g c =
    let mid = g.D.Disk.told c.sync.new.self in
    other_both (other_part c.args.part) (g.D.Disk.told c.args.disk.now) mid (g.D.Disk.told c.is_empty_journal.new.disk)
    (other_syncs c.args.part (g.D.Disk.told c.args.disk.now) mid c.sync.result c.sync.ensures.syncs)
    (other_same (other_part c.args.part) mid (g.D.Disk.told c.is_empty_journal.new.disk) (c.is_empty_journal.ensures.told ∙ c.len.ensures.told))

pub returns-in_err-write_empty_journal-clause-other : goal.returns-in_err-write_empty_journal-clause-other
returns-in_err-write_empty_journal-clause-other g c =
    let old = g.D.Disk.told c.args.disk.now in
    let mid = g.D.Disk.told c.sync.new.self in
    let begun = g.D.Disk.told c.is_empty_journal.new.disk in
    other_both (other_part c.args.part) old begun (g.D.Disk.told c.write_empty_journal.new.disk)
    (other_both (other_part c.args.part) old mid begun (other_syncs c.args.part old mid c.sync.result c.sync.ensures.syncs)
    (other_same (other_part c.args.part) mid begun (c.is_empty_journal.ensures.told ∙ c.len.ensures.told)))
    c.write_empty_journal.ensures.other

pub returns-in_ok-write_empty_journal-clause-other : goal.returns-in_ok-write_empty_journal-clause-other
returns-in_ok-write_empty_journal-clause-other g c =
    let old = g.D.Disk.told c.args.disk.now in
    let mid = g.D.Disk.told c.sync.new.self in
    let begun = g.D.Disk.told c.is_empty_journal.new.disk in
    other_both (other_part c.args.part) old begun (g.D.Disk.told c.write_empty_journal.new.disk)
    (other_both (other_part c.args.part) old mid begun (other_syncs c.args.part old mid c.sync.result c.sync.ensures.syncs)
    (other_same (other_part c.args.part) mid begun (c.is_empty_journal.ensures.told ∙ c.len.ensures.told)))
    c.write_empty_journal.ensures.other
