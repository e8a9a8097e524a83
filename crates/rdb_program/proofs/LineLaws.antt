-- The lines that say which fault of the wire was met, or which one of the configuration.
use Rattle.std.proofs.Common.{◌≡◌, ℕ, List, ◌++◌, refl, codes}
use Rattle.std.specs.Fmt.{digits}
use Rattle.http_wire.specs.declared.message.WireFault.TheVariants as faults
use Rattle.http_workers.specs.declared.ended.Cause.TheVariants as causes
use Rattle.result_journal.specs.declared.opening.OpenFault.{OpenFault}
use Rattle.result_journal.specs.declared.opening.OpenFault.TheVariants as openings
use Rattle.rdb_program.specs.Causes.{opening_row, row_of}
use Rattle.rdb_program.specs.Lines.{fault_text}
use Rattle.rdb_program.specs.Run.{refusal_line}
use Rattle.permissions.specs.declared.faults.PolicyFault.TheVariants as refusals

pub head_too_long_line : codes "rdb: wire 1 HeadTooLong\n" ≡ (row_of (causes.Wire faults.HeadTooLong)).line
unfolding digits
head_too_long_line = refl

pub too_many_headers_line : codes "rdb: wire 2 TooManyHeaders\n" ≡ (row_of (causes.Wire faults.TooManyHeaders)).line
unfolding digits
too_many_headers_line = refl

pub bad_head_line : (end : ℕ) → codes "rdb: wire 3 BadHead\n" ≡ (row_of (causes.Wire (faults.BadHead end))).line
unfolding digits
bad_head_line end = refl

pub no_length_line : codes "rdb: wire 4 NoLength\n" ≡ (row_of (causes.Wire faults.NoLength)).line
unfolding digits
no_length_line = refl

pub two_lengths_line : codes "rdb: wire 5 TwoLengths\n" ≡ (row_of (causes.Wire faults.TwoLengths)).line
unfolding digits
two_lengths_line = refl

pub transfer_coded_line : codes "rdb: wire 6 TransferCoded\n" ≡ (row_of (causes.Wire faults.TransferCoded)).line
unfolding digits
transfer_coded_line = refl

pub body_too_long_line : (said : ℕ) → codes "rdb: wire 7 BodyTooLong\n" ≡ (row_of (causes.Wire (faults.BodyTooLong said))).line
unfolding digits
body_too_long_line said = refl

pub cut_short_line : (have : ℕ) → codes "rdb: wire 8 CutShort\n" ≡ (row_of (causes.Wire (faults.CutShort have))).line
unfolding digits
cut_short_line have = refl

pub read_fault_line : codes "rdb: wire 9 ReadFault\n" ≡ (row_of (causes.Wire faults.ReadFault)).line
unfolding digits
read_fault_line = refl

pub memory_line : codes "rdb: wire 10 Memory\n" ≡ (row_of (causes.Wire faults.Memory)).line
unfolding digits
memory_line = refl

pub not_toml_line : codes "rdb: configuration refused: 1 NotToml\n" ≡ refusal_line refusals.NotToml
unfolding digits
not_toml_line = refl

pub bad_name_line : (at : List ℕ) → codes "rdb: configuration refused: 2 BadName\n" ≡ refusal_line (refusals.BadName at)
unfolding digits
bad_name_line at = refl

pub unknown_role_line : (name : List ℕ) → codes "rdb: configuration refused: 3 UnknownRole\n" ≡ refusal_line (refusals.UnknownRole name)
unfolding digits
unknown_role_line name = refl

pub unknown_realm_line : (name : List ℕ) → codes "rdb: configuration refused: 4 UnknownRealm\n" ≡ refusal_line (refusals.UnknownRealm name)
unfolding digits
unknown_realm_line name = refl

pub realm_cycle_line : (name : List ℕ) → codes "rdb: configuration refused: 5 RealmCycle\n" ≡ refusal_line (refusals.RealmCycle name)
unfolding digits
realm_cycle_line name = refl

pub two_owners_line : (token : List ℕ) → codes "rdb: configuration refused: 6 TwoOwners\n" ≡ refusal_line (refusals.TwoOwners token)
unfolding digits
two_owners_line token = refl

pub too_many_line : (count : ℕ) → codes "rdb: configuration refused: 7 TooMany\n" ≡ refusal_line (refusals.TooMany count)
unfolding digits
too_many_line count = refl

pub bad_shape_line : (at : List ℕ) → codes "rdb: configuration refused: 8 BadShape\n" ≡ refusal_line (refusals.BadShape at)
unfolding digits
bad_shape_line at = refl

pub unknown_principal_line : (name : List ℕ) → codes "rdb: configuration refused: 9 UnknownPrincipal\n" ≡ refusal_line (refusals.UnknownPrincipal name)
unfolding digits
unknown_principal_line name = refl

pub no_memory_line : codes "rdb: configuration refused: 0 Memory\n" ≡ refusal_line refusals.Memory
unfolding digits
no_memory_line = refl

pub opening_text : (fault : OpenFault) → fault_text fault ++ codes "\n" ≡ (opening_row fault).line
unfolding digits
opening_text (openings.NotAJournal at) = refl
opening_text (openings.Damaged at byte) = refl
opening_text (openings.NewerVersion found) = refl
opening_text openings.DiskFailed = refl
opening_text openings.Memory = refl
