-- The code's own word, which private contracts alone cite: what a head has under its names.
use Rattle.std.specs.Prelude.{◌≡◌, ◌≤◌, ℕ, List, [], ◌∷◌, length, codes}
use Rattle.std.specs.List.{list_any}
use Rattle.http_wire.specs.Form.{values_of, has_close}
use Rattle.http_wire.specs.declared.fields.Fields.{Fields}
use Rattle.http_wire.specs.declared.fields.Found.{Found}
use Rattle.http_wire.specs.declared.fields.Found.TheVariants.{Absent, Once, Again}

-- no value, this one alone, or two or more
abbrev pub IsFound : Found → List (List ℕ) → Type 0
IsFound Absent values = values ≡ []
IsFound (Once value) values = values ≡ value.now ∷ []
IsFound Again values = 2 ≤ length values

-- what fields have under each name that is read
pub record AreFound (found : Fields) (fields : List (List ℕ × List ℕ)) : Type 0 where
  pub content_length : IsFound found.content_length (values_of (codes "content-length") fields)
  pub transfer_encoding : IsFound found.transfer_encoding
      (values_of (codes "transfer-encoding") fields)
  pub closes : found.closes ≡ list_any has_close (values_of (codes "connection") fields)
  pub authorization : IsFound found.authorization (values_of (codes "authorization") fields)
  pub update_token : IsFound found.update_token (values_of (codes "update-token") fields)
