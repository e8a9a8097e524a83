use Rattle.std.proofs.Common.{refl}
use Rattle.disks.specs.Parts.{other_part}
use Rattle.result_journal.specs.Journals.{begun_part}
use Rattle.result_journal.proofs.OtherLaws.{other_same}
use Rattle.result_journal.proofs.BeginLaws.{unchanged_moments, unchanged_alike}
use Rattle.result_journal.proofs.opening.Opening.begin.Goals as goal

pub returns-in_default-clause-other_err : goal.returns-in_default-clause-other_err
returns-in_default-clause-other_err g c =
    other_same (other_part begun_part) (g.D.Disk.told c.args.disk) (g.D.Disk.told c.args.disk) refl

pub returns-in_default-clause-any_moment_err : goal.returns-in_default-clause-any_moment_err
returns-in_default-clause-any_moment_err g c = unchanged_moments begun_part (g.D.Disk.told c.args.disk)

pub returns-in_default-clause-synced_err : goal.returns-in_default-clause-synced_err
returns-in_default-clause-synced_err g c = unchanged_alike begun_part (g.D.Disk.told c.args.disk)
