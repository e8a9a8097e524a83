-- What the laws ask of a method's form: a value means one request at most, and one where it is read
-- from a text and has no fault; that request is of its form, and some body asks for it; and what is
-- written has no float and nests at most 68 levels.
use Rattle.std.proofs.Common.{◌≡◌, ◌≤◌, ℕ, None, arith}
use Rattle.serde_json.specs.Data.{Data}
use Rattle.json_fields.proofs.FormLaws.{GivesForm}
use Rattle.json_fields.proofs.PlainLaws.{IsPlain}
use Rattle.field_kinds.specs.Requests.{RequestForm}
use Rattle.field_kinds.proofs.ReadValues.{IsReadValue}

pub record IsLawful {Q : Type 0} (f : RequestForm Q) : Type 0 where
  pub one : (d : Data) (a b : Q) → f.means d a → f.means d b → a ≡ b
  pub there : (d : Data) → IsReadValue d → f.fault d ≡ None → (a : Q) × f.means d a
  pub formed : GivesForm f.fault f.means f.OfForm
  pub asked : GivesForm f.fault f.means f.CanBeAsked
  pub plain : (a : Q) → IsPlain 68 (f.json a)

-- what nests less is plain within a higher bound
pub plain_within : (m n : ℕ) (d : Data) → m ≤ n → IsPlain m d → IsPlain n d
plain_within m n d few h = record { no_float = h.no_float; deep = omega (arith, few, h.deep) }
