use Rattle.std.proofs.Common.{inl, inr, ◌<◌, length, arith}
use Rattle.std.proofs.lemmas.Bool.{cases_lt}
use Rattle.std.proofs.lemmas.List.{get_or_past}
use Rattle.std.proofs.lemmas.List.Elements.{All-get_or}
use Rattle.result_journal.proofs.ReadingLaws.{some_version_reading, no_other_version_reading}
use Rattle.result_journal.proofs.laws.one_reading.Goals as goal

pub returns : goal.returns
returns c = record {
  there_is_one = λ version is bytes are. some_version_reading version is bytes (λ k. elim (cases_lt k (length bytes)) [
    | inl inside ↦ All-get_or (λ b. b < 256) bytes k 0 inside are
    | inr past ↦ rw (get_or_past bytes k 0 past) (omega arith)
  ]);
  there_is_no_other = no_other_version_reading;
}
