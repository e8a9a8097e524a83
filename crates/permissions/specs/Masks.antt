-- A machine of the code: permissions as bits of a number.
use Rattle.std.specs.Prelude.{ℕ, Bool, ◌==◌, map, unwrap_or}
use Rattle.std.specs.Int.{bit_at}
use Rattle.policy_checks.specs.declared.permission.Permission.{Permission}
use Rattle.policy_checks.specs.Index.{place_of}
use Rattle.policy_checks.specs.Permissions.{permission_text, every_permission}

-- a permission's number is its place in the list of all
unfoldable pub permission_number : Permission → ℕ
permission_number p =
    unwrap_or (place_of (permission_text p) (map permission_text every_permission)) 0

-- the permission's bit is set
unfoldable pub has_bit : ℕ → Permission → Bool
has_bit mask p = bit_at mask (permission_number p) == 1
