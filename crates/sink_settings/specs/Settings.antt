-- What the text of a sink's configuration is: two tokens, or its first fault.
use Rattle.std.specs.Prelude.{◌≡◌, ◌≢◌, ◌<◌, ◌≤◌, ℕ, List, [], ◌∷◌, ◌++◌, length, codes, Option, Some, None, option_map, IsUtf8, Result, MatchResult, if◌then◌else◌}
use Rattle.toml.specs.Data.{Members}
use Rattle.toml.specs.Parse.{parse_document}
use Rattle.policy_tables.specs.declared.findings.Finding.{Finding}
use Rattle.policy_tables.specs.Findings.{at, least_of}
use Rattle.policy_document.specs.Document.{text_of, text_findings, unknown_keys}
use Rattle.policy_document.specs.declared.shape.Shape.TheVariants.{Sink}
use Rattle.sink_settings.specs.Forms.{is_token, is_update_token}
use Rattle.sink_settings.specs.declared.settings.SinkSettings.{SinkSettings}
use Rattle.sink_settings.specs.declared.fault.SettingsFault.{SettingsFault}
use Rattle.sink_settings.specs.declared.fault.SettingsFault.TheVariants.{NotToml, BadName, TooMany, BadShape, Memory}

-- 4 MiB
abbrev pub most_bytes : ℕ
most_bytes = 4194304

-- the text is a TOML document with these members
abbrev pub IsDocument : List ℕ → Members → Type 0
IsDocument text t = IsUtf8 text × (parse_document text ≡ Some t)

-- the two texts of a document
abbrev pub settings_of : Members → SinkSettings
settings_of t = record {
  token = text_of (codes "token") t;
  update_token = text_of (codes "update_token") t;
}

-- each path where a key is absent or unknown, or a value is no text
abbrev pub shape_findings : Members → List Finding
shape_findings t =
    unknown_keys Sink [] t
    ++ (text_findings [] (codes "token") t ++ text_findings [] (codes "update_token") t)

-- the least of them
unfoldable pub shape_fault : Members → Option SettingsFault
shape_fault t = option_map (λ f. BadShape f.path) (least_of (shape_findings t))

-- each path whose text is outside its form
abbrev pub form_findings : SinkSettings → List Finding
form_findings s =
    (if is_token s.token then [] else at (codes "token") ∷ [])
    ++ (if is_update_token s.update_token then [] else at (codes "update_token") ∷ [])

-- the least of them
unfoldable pub form_fault : SinkSettings → Option SettingsFault
form_fault s = option_map (λ f. BadName f.path) (least_of (form_findings s))

-- the first fault of a text: its size, that it is no TOML, its shape, then the forms of its texts
pub data IsFirstFault (text : List ℕ) : SettingsFault → Type 0 where
  size : most_bytes < length text → IsFirstFault text (TooMany (length text))
  toml : length text ≤ most_bytes → ((t : Members) → ¬ IsDocument text t)
      → IsFirstFault text NotToml
  shape : length text ≤ most_bytes → (t : Members) → IsDocument text t → (f : SettingsFault)
      → shape_fault t ≡ Some f → IsFirstFault text f
  forms : length text ≤ most_bytes → (t : Members) → IsDocument text t → shape_fault t ≡ None
      → (f : SettingsFault) → form_fault (settings_of t) ≡ Some f → IsFirstFault text f

-- a text without a fault, and its two tokens
pub record IsSettingsOf (text : List ℕ) (settings : SinkSettings) : Type 0 where
  pub size : length text ≤ most_bytes
  pub members : Members
  pub document : IsDocument text members
  pub shape : shape_fault members ≡ None
  pub same : settings ≡ settings_of members
  pub forms : form_fault settings ≡ None

-- an answer that there is no fault, or that this is the one
abbrev pub Answers : {A : Type 0} → Result A SettingsFault → Option SettingsFault → Type 0
Answers r o = MatchResult r (λ _. o ≡ None) (λ f. f ≢ Memory → o ≡ Some f)
