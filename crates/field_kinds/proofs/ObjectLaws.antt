-- Objects without members.
use Rattle.std.proofs.Common.{◌≡◌, Bool, true, false, List, [], ◌∷◌, length, refl, arith}
use Rattle.std.specs.Bool.{IsTrue}
use Rattle.field_kinds.specs.Properties.{no_members_in}
use Rattle.serde_json.proofs.Views.{Entry}
use Rattle.serde_json.specs.View.{members_view}
use Rattle.field_kinds.specs.OutsideProfile.{no_members_or_left_out, left_out}

pub some_members : (es : List Entry) → (length es ≡ 0 → ⊥) → no_members_or_left_out (members_view es) ≡ left_out
some_members [] h = absurd (h refl)
some_members (e ∷ es) h = refl

-- a map without entries is the empty object
pub empty_is : (es : List Entry) (b : Bool) → (IsTrue b → length es ≡ 0) → (length es ≡ 0 → IsTrue b) → b ≡ no_members_in (members_view es)
empty_is [] b one two = two refl
empty_is (e ∷ es) true one two = absurd (omega (arith, one refl))
empty_is (e ∷ es) false one two = refl
