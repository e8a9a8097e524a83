-- A report that gives cases was read whole.
use Rattle.std.proofs.Common.{◌≡◌, ◌≢◌, ℕ, ◌≤◌, ◌==◌, ◌&&◌, ◌⊎◌, inl, inr, Bool, true, false, List, length, Option, Some, None, Ok, refl, sym, subst, arith}
use Rattle.std.proofs.lemmas.Bool.Decides.{nat_tests}
use Rattle.std.specs.Prelude.{nat_le, min, if◌then◌else◌}
use Rattle.std.specs.Str.Lossy.{utf8_valid_len}
use Rattle.junit_parts.specs.Reports.{HasFault}
use Rattle.junit_parts.specs.declared.faults.JunitFault.{JunitFault}
use Rattle.junit_parts.specs.declared.faults.JunitFault.TheVariants as junits
use Rattle.names_realms.specs.declared.states.Case.{Case}
use Rattle.outside.specs.Bytes.{IsEnd}
use Rattle.program_words.specs.declared.sink_words.ReportFormat.{ReportFormat}
use Rattle.program_words.specs.declared.sink_words.ReportFormat.TheVariants.{Tap, Junit}
use Rattle.tap_reader.specs.Reports.{ReadsText, text_fault}
use Rattle.sink_runs.specs.Reports.{GivesCases, IsNoCases, junit_end, most_of_report}
use Rattle.sink_runs.specs.declared.ending.SinkEnd.{SinkEnd}

le_of_test : (a b : ℕ) → nat_le a b ≡ true → a ≤ b
le_of_test a b e = grind (arith, nat_tests)

-- a text without a fault has at most 64 MiB
pub text_fits : (report : List ℕ) → text_fault report ≡ None → length report ≤ 67108864
text_fits report none = go (utf8_valid_len report == length report) (nat_le (length report) 67108864) refl none
  where
    go : (valid small : Bool) → nat_le (length report) 67108864 ≡ small
        → (if valid && small then None else Some (min (utf8_valid_len report) 67108864)) ≡ None → length report ≤ 67108864
    go true true is e = le_of_test (length report) 67108864 is
    go true false is e = cc
    go false small is e = cc

tap_fits : (report : List ℕ) (cases : List Case) (fault : Option ℕ) → text_fault report ≡ fault → ReadsText fault report (Ok cases)
    → length report ≤ 67108864
tap_fits report cases None is reads = text_fits report is
tap_fits report cases (Some at) is reads = cc

pub report_fits : (format : ReportFormat) (report : List ℕ) (cases : List Case) → GivesCases format report cases → length report ≤ 67108864
report_fits Tap report cases reads = tap_fits report cases (text_fault report) refl reads
report_fits Junit report cases has = omega (arith, has.text)

-- so nothing is left behind it
pub report_ends : (format : ReportFormat) (report : List ℕ) (cases : List Case) (left : Option (List ℕ)) → GivesCases format report cases
    → IsEnd left ⊎ (length report ≡ most_of_report) → IsEnd left
report_ends format report cases left gives (inl at_end) = at_end
report_ends format report cases left gives (inr long) = absurd (omega (arith, long, report_fits format report cases gives))

-- ---- faults of reports in JUnit XML

pub junit_ends : (report : List ℕ) (f : JunitFault) (end : SinkEnd) → end ≡ junit_end f → (f ≢ junits.Memory → HasFault report f)
    → IsNoCases Junit report end
junit_ends report f end is has = subst (IsNoCases Junit report) (sym is) (go f has)
  where
    go : (f : JunitFault) → (f ≢ junits.Memory → HasFault report f) → IsNoCases Junit report (junit_end f)
    go junits.Memory has = tt
    go (junits.NotText at) has = has (λ e. cc)
    go (junits.NotWellFormed at) has = has (λ e. cc)
    go (junits.Unsupported at what) has = has (λ e. cc)
    go junits.NoRoot has = has (λ e. cc)
    go (junits.MissingName at) has = has (λ e. cc)
    go (junits.BadTime at) has = has (λ e. cc)
    go (junits.TooDeep at) has = has (λ e. cc)
