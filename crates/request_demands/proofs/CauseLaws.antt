-- What update tokens come to.
use Rattle.std.proofs.Common.{◌≡◌, ◌↔◌, ℕ, List, [], Bool, false, Some, Ok, Result, IsTrue, sym, ap, ◌∙◌}
use Rattle.std.specs.Result.{result_unwrap_or}
use Rattle.std.proofs.lemmas.Bool.{false≢true}
use Rattle.hex.specs.Hex.{decode_of}
use Rattle.hex.specs.declared.error.FromHexError.{FromHexError}
use Rattle.policy_tables.specs.declared.tables.PolicyTables.{PolicyTables}
use Rattle.update_tokens.specs.Hash.{token_text}
use Rattle.call_forms.specs.declared.asked.Asked.{Asked}
use Rattle.request_demands.specs.declared.reading.TokenCheck.TheVariants.{Wrong}
use Rattle.request_demands.specs.Settings.{Settings, secret_of}
use Rattle.request_demands.specs.Demands.{Demand}
use Rattle.request_demands.specs.Understood.{IsChecked}

-- the bytes of the secret that a policy tells
pub secret_read : (tables : PolicyTables) (secret : List ℕ) → decode_of tables.secret ≡ Ok secret
    → secret ≡ secret_of (record { policy = tables })
secret_read tables secret is = sym (ap (λ (r : Result (List ℕ) FromHexError). result_unwrap_or r []) is)

-- the update token that is shown isn't the one of the invocation
pub shows_other : (s : Settings) (asked : Asked) (d : Demand) (id text token secret : List ℕ) (told : Bool)
    → asked.update_token ≡ Some token → text ≡ token → secret ≡ secret_of s
    → (IsTrue told ↔ (text ≡ token_text secret id)) → told ≡ false → d.changed ≡ Some id
    → IsChecked s asked d Wrong
shows_other s asked d id text token secret told shown text_is secret_is tells otherwise changes = (
  id,
  token,
  changes,
  shown,
  λ same.
      false≢true (sym otherwise ∙ tells.1 (text_is ∙ (same ∙ ap (λ (x : List ℕ). token_text x id) (sym secret_is)))),
)
