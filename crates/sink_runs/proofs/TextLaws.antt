-- What the whole text of a configuration or a report has, where what was read of it has it.
use Rattle.std.proofs.Common.{◌≡◌, ℕ, ◌<◌, ◌≤◌, ◌⊎◌, inl, inr, List, [], ◌++◌, length, Option, Some, None, Ok, Err, refl, sym, ap, ◌∙◌, subst, append-nil, arith, length-append}
use Rattle.outside.specs.Bytes.{Gave, IsEnd}
use Rattle.outside.specs.Ends.{Incoming}
use Rattle.junit_parts.specs.Reports as junit
use Rattle.junit_parts.specs.declared.faults.JunitFault.TheVariants as junit_faults
use Rattle.junit_reader.proofs.RunLaws.{cases_or_fault}
use Rattle.names_realms.specs.declared.states.Case.{Case}
use Rattle.program_words.specs.declared.sink_words.ReportFormat.{ReportFormat}
use Rattle.program_words.specs.declared.sink_words.ReportFormat.TheVariants.{Tap, Junit}
use Rattle.tap_reader.specs.Reports.{ReadsText, text_fault}
use Rattle.tap_reader.specs.declared.faults.TapFault.{TapFault}
use Rattle.tap_reader.specs.declared.faults.TapFault.TheVariants as tap_faults
use Rattle.tap_reader.proofs.LawLemmas.{one_outcome_proof}
use Rattle.sink_settings.specs.Settings.{IsSettingsOf, IsFirstFault, size, toml, shape, forms, shape_fault, form_fault, settings_of}
use Rattle.sink_settings.specs.declared.fault.SettingsFault.{SettingsFault}
use Rattle.sink_settings.specs.declared.fault.SettingsFault.TheVariants as refusals
use Rattle.sink_settings.specs.declared.settings.SinkSettings.{SinkSettings}
use Rattle.sink_runs.specs.Configs.{HasSettings, most_of_config}
use Rattle.sink_runs.specs.Reports.{GivesCases, IsReportFault, most_of_report}
use Rattle.sink_runs.specs.Texts.{IsReadWhole, IsReadFar}
use Rattle.sink_runs.specs.declared.report.ReportFault.{ReportFault}
use Rattle.sink_runs.specs.declared.report.ReportFault.TheVariants as faults
use Rattle.sink_runs.proofs.ReportLaws.{text_fits}

given_of : (told bytes : List ℕ) (before after : Option (List ℕ)) → Gave before bytes after → before ≡ Some told
    → (left : List ℕ) × (after ≡ Some left) × (told ≡ bytes ++ left)
given_of told bytes before after gave is = subst (λ (o : Option (List ℕ)). Gave o bytes after) is gave

nothing_left : (left : List ℕ) (after : Option (List ℕ)) → IsEnd after → after ≡ Some left → left ≡ []
nothing_left left after end is = subst IsEnd is end

-- what was given to the end is the whole text
all_given : (told bytes : List ℕ) (before after : Option (List ℕ)) → Gave before bytes after → IsEnd after → before ≡ Some told → bytes ≡ told
all_given told bytes before after gave end is =
    let parts = given_of told bytes before after gave is in
    sym (parts.2 ∙ ap (λ (t : List ℕ). bytes ++ t) (nothing_left parts.0 after end parts.1) ∙ append-nil bytes)

pub whole_told : (before after : Incoming) (text told : List ℕ) → IsReadWhole before text after → before.left ≡ Some told → text ≡ told
whole_told before after text told read is = all_given told text before.left after.left read.gave read.at_end is

-- what was read far is the whole text, or the whole text is as long at least
far_told : (most : ℕ) (before after : Incoming) (text told : List ℕ) → IsReadFar most before text after → before.left ≡ Some told
    → (text ≡ told) ⊎ (most ≤ length told)
far_told most before after text told read is = by_end read.whole
  where
    by_end : IsEnd after.left ⊎ (length text ≡ most) → (text ≡ told) ⊎ (most ≤ length told)
    by_end (inl end) = inl (all_given told text before.left after.left read.gave end is)
    by_end (inr full) =
        let parts = given_of told text before.left after.left read.gave is in
        inr (omega (arith, full, ap length parts.2, length-append text parts.0))

-- ---- configurations

no_some : {T : Type 0} (o : Option T) (x : T) → o ≡ Some x → o ≡ None → ⊥
no_some o x some none = let e : Some x ≡ None = sym some ∙ none in cc

same_document : {T : Type 0} (t u : T) (o : Option T) → o ≡ Some t → o ≡ Some u → t ≡ u
same_document t u o one other = let e : Some t ≡ Some u = sym one ∙ other in cc

-- two tokens' text has no fault
settings_apart : (bytes : List ℕ) (settings : SinkSettings) (fault : SettingsFault) → IsSettingsOf bytes settings → IsFirstFault bytes fault → ⊥
settings_apart bytes settings fault s (size many) = omega (arith, s.size, many)
settings_apart bytes settings fault s (toml few none) = none s.members s.document
settings_apart bytes settings fault s (shape few t is f found) =
    no_some _ f found (ap shape_fault (same_document t s.members _ is.1 s.document.1) ∙ s.shape)
settings_apart bytes settings fault s (forms few t is none f found) =
    no_some _ f found (ap form_fault (ap settings_of (same_document t s.members _ is.1 s.document.1) ∙ sym s.same) ∙ s.forms)

pub config_has : (before after : Incoming) (settings : SinkSettings) (told : List ℕ) (fault : SettingsFault) → HasSettings before settings after
    → before.left ≡ Some told → IsFirstFault told fault → ⊥
config_has before after settings told fault has is first =
    settings_apart told settings fault (subst (λ (t : List ℕ). IsSettingsOf t settings) (whole_told before after has.0 told has.1 is) has.2) first

pub config_lacks : (before after : Incoming) (text told : List ℕ) (fault : SettingsFault) → IsReadFar most_of_config before text after
    → IsFirstFault text fault → before.left ≡ Some told → (f : SettingsFault) × IsFirstFault told f
config_lacks before after text told fault read first is = by_end (far_told most_of_config before after text told read is)
  where
    by_end : (text ≡ told) ⊎ (most_of_config ≤ length told) → (f : SettingsFault) × IsFirstFault told f
    by_end (inl same) = (fault, subst (λ (t : List ℕ). IsFirstFault t fault) same first)
    by_end (inr long) = (refusals.TooMany (length told), size (omega (arith, long)))

-- ---- reports

ok_no_err : {T E : Type 0} (x : T) (e : E) → Ok x ≡ Err e → ⊥
ok_no_err x e h = cc

gives_apart : (format : ReportFormat) (report : List ℕ) (cases : List Case) (fault : ReportFault) → GivesCases format report cases
    → IsReportFault format report fault → ⊥
gives_apart Tap report cases (faults.Tap f) gives is = ok_no_err cases f (one_outcome_proof report (Ok cases) (Err f) gives is)
gives_apart Tap report cases (faults.Junit f) gives is = is
gives_apart Junit report cases (faults.Tap f) gives is = is
gives_apart Junit report cases (faults.Junit f) gives is = cases_or_fault report cases f gives is

pub report_has : (format : ReportFormat) (before after : Incoming) (report told : List ℕ) (cases : List Case) (fault : ReportFault)
    → IsReadWhole before report after → GivesCases format report cases → before.left ≡ Some told → IsReportFault format told fault → ⊥
report_has format before after report told cases fault read gives is first =
    gives_apart format told cases fault (subst (λ (t : List ℕ). GivesCases format t cases) (whole_told before after report told read is) gives) first

-- a report that is too long has a fault, and says so
long_tap : (report : List ℕ) (fault : Option ℕ) → 67108864 < length report → text_fault report ≡ fault
    → (f : TapFault) × ReadsText fault report (Err f)
long_tap report None long is = absurd (omega (arith, long, text_fits report is))
long_tap report (Some at) long is = (tap_faults.NotText at, refl)

long_fault : (format : ReportFormat) (report : List ℕ) → 67108864 < length report → (f : ReportFault) × IsReportFault format report f
long_fault Tap report long = let found = long_tap report (text_fault report) long refl in (faults.Tap found.0, found.1)
long_fault Junit report long = (faults.Junit (junit_faults.NotText (junit.text_place report)), junit.too_long long refl)

pub report_lacks : (format : ReportFormat) (before after : Incoming) (text told : List ℕ) (fault : ReportFault)
    → IsReadFar most_of_report before text after → IsReportFault format text fault → before.left ≡ Some told
    → (f : ReportFault) × IsReportFault format told f
report_lacks format before after text told fault read first is = by_end (far_told most_of_report before after text told read is)
  where
    by_end : (text ≡ told) ⊎ (most_of_report ≤ length told) → (f : ReportFault) × IsReportFault format told f
    by_end (inl same) = (fault, subst (λ (t : List ℕ). IsReportFault format t fault) same first)
    by_end (inr long) = long_fault format told (omega (arith, long))
