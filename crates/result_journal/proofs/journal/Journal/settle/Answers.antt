use Rattle.std.proofs.Common.{◌≡◌, refl, rules, false}
use Rattle.disks.specs.Parts.{image_of, other_part, part_of}
use Rattle.disks.specs.PartLaws.{image_of_part}
use Rattle.result_journal.proofs.StandLaws.{at_rest_reads}
use Rattle.result_journal.proofs.JournalLaws.{rest_of, gate_of, open_long, settle_moments, gate_failed, settle_done, still_moments, settle_stands, unsettled_stands}
use Rattle.result_journal.specs.Journals.{is_settled}
use Rattle.result_journal.proofs.OtherLaws.{other_same}
use Rattle.result_journal.proofs.journal.Journal.settle.Goals as goal

pub write_through-requires-clause-part : goal.write_through-requires-clause-part
write_through-requires-clause-part g c = c.requires.1.part

pub write_through-requires-clause-at : goal.write_through-requires-clause-at
write_through-requires-clause-at g c =
    let image = g.met.D.Disk.reads_as_image c.args.self.now.disk in
    open_long g.D.Disk.told c.args.self.now c.requires.0 c.requires.1 image
    (gate_of g.D.Disk.told c.args.self.now c.requires.0 c.requires.1 image (search rules))

pub returns-in_err-write_through-clause-any_moment : goal.returns-in_err-write_through-clause-any_moment
returns-in_err-write_through-clause-any_moment g c = λ commands stands.
    let image = g.met.D.Disk.reads_as_image c.args.self.now.disk in
    settle_moments g.D.Disk.told c.args.self.now commands stands image
    (gate_of g.D.Disk.told c.args.self.now commands stands image (search rules))
    (g.D.Disk.told c.write_through.new.disk) c.write_through.result c.write_through.ensures.writes

pub returns-in_ok-write_through-clause-any_moment : goal.returns-in_ok-write_through-clause-any_moment
returns-in_ok-write_through-clause-any_moment g c = λ commands stands.
    let image = g.met.D.Disk.reads_as_image c.args.self.now.disk in
    settle_moments g.D.Disk.told c.args.self.now commands stands image
    (gate_of g.D.Disk.told c.args.self.now commands stands image (search rules))
    (g.D.Disk.told c.write_through.new.disk) c.write_through.result c.write_through.ensures.writes

pub returns-in_err-write_through-clause-commands : goal.returns-in_err-write_through-clause-commands
returns-in_err-write_through-clause-commands g c = λ commands stands.
    let image = g.met.D.Disk.reads_as_image c.args.self.now.disk in
    let unsettled : is_settled c.args.self.now ≡ false = search rules in
    unsettled_stands g.D.Disk.told c.args.self.now commands stands c.write_through.new.disk unsettled
    (gate_failed g.D.Disk.told c.args.self.now commands stands image
    (gate_of g.D.Disk.told c.args.self.now commands stands image unsettled) 0
    (g.D.Disk.told c.write_through.new.disk) c.in_err-write_through.field-0.0 c.in_err-write_through.ensures.writes)

pub returns-in_ok-write_through-clause-settled : goal.returns-in_ok-write_through-clause-settled
returns-in_ok-write_through-clause-settled g c = λ commands stands t is image may.
    let as_image = g.met.D.Disk.reads_as_image c.args.self.now.disk in
    at_rest_reads (part_of t.now c.args.self.now.part) commands c.args.self.now.end (image_of image c.args.self.now.part)
    (settle_done g.D.Disk.told c.args.self.now commands stands as_image
    (gate_of g.D.Disk.told c.args.self.now commands stands as_image (search rules)) _
    (g.D.Disk.told c.write_through.new.disk) c.in_ok-write_through.ensures.writes t is)
    (image_of_part t.now c.args.self.now.part image may)

pub returns-in_ok-write_through-clause-commands : goal.returns-in_ok-write_through-clause-commands
returns-in_ok-write_through-clause-commands g c = λ commands stands.
    let as_image = g.met.D.Disk.reads_as_image c.args.self.now.disk in
    settle_stands g.D.Disk.told c.args.self.now commands stands c.write_through.new.disk
    (settle_done g.D.Disk.told c.args.self.now commands stands as_image
    (gate_of g.D.Disk.told c.args.self.now commands stands as_image (search rules)) _
    (g.D.Disk.told c.write_through.new.disk) c.in_ok-write_through.ensures.writes)

pub returns-else-not-is_settled-clause-any_moment : goal.returns-else-not-is_settled-clause-any_moment
returns-else-not-is_settled-clause-any_moment g c = λ commands stands.
    still_moments g.D.Disk.told c.args.self.now commands stands

pub returns-else-not-is_settled-clause-settled : goal.returns-else-not-is_settled-clause-settled
returns-else-not-is_settled-clause-settled g c = λ commands stands t is image may.
    at_rest_reads (part_of t.now c.args.self.now.part) commands c.args.self.now.end (image_of image c.args.self.now.part)
    (rest_of g.D.Disk.told c.args.self.now commands stands (g.met.D.Disk.reads_as_image c.args.self.now.disk)
    (search rules) t is)
    (image_of_part t.now c.args.self.now.part image may)

pub returns-in_err-write_through-clause-still : goal.returns-in_err-write_through-clause-still
returns-in_err-write_through-clause-still g c =
    let image = g.met.D.Disk.reads_as_image c.args.self.now.disk in
    let unsettled : is_settled c.args.self.now ≡ false = search rules in (
      c.requires.0,
      unsettled_stands g.D.Disk.told c.args.self.now c.requires.0 c.requires.1 c.write_through.new.disk unsettled
          (gate_failed g.D.Disk.told c.args.self.now c.requires.0 c.requires.1 image
          (gate_of g.D.Disk.told c.args.self.now c.requires.0 c.requires.1 image unsettled) 0
          (g.D.Disk.told c.write_through.new.disk) c.in_err-write_through.field-0.0 c.in_err-write_through.ensures.writes),
    )

pub returns-in_ok-write_through-clause-still : goal.returns-in_ok-write_through-clause-still
returns-in_ok-write_through-clause-still g c =
    let as_image = g.met.D.Disk.reads_as_image c.args.self.now.disk in (
      c.requires.0,
      settle_stands g.D.Disk.told c.args.self.now c.requires.0 c.requires.1 c.write_through.new.disk
          (settle_done g.D.Disk.told c.args.self.now c.requires.0 c.requires.1 as_image
          (gate_of g.D.Disk.told c.args.self.now c.requires.0 c.requires.1 as_image (search rules)) _
          (g.D.Disk.told c.write_through.new.disk) c.in_ok-write_through.ensures.writes),
    )

pub returns-else-not-is_settled-clause-other : goal.returns-else-not-is_settled-clause-other
returns-else-not-is_settled-clause-other g c =
    other_same (other_part c.args.self.now.part) (g.D.Disk.told c.args.self.now.disk) (g.D.Disk.told c.args.self.now.disk) refl
