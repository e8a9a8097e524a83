-- The values that texts of JSON are read to: their texts are UTF-8, their whole numbers are those of
-- 64 bits, and the members of an object rise by their names.
use Rattle.std.proofs.Common.{◌≡◌, ◌<◌, ◌^◌, ℕ, pos, negsuc, List}
use Rattle.std.specs.Prelude.{⊤}
use Rattle.std.specs.Str.{IsUtf8}
use Rattle.std.specs.Ordering.{nat_cmp}
use Rattle.std.specs.Cmp.Lexicographic.{slice_cmp}
use Rattle.std.specs.declared.cmp.Ordering.TheVariants.{Less}
use Rattle.serde_json.specs.Data.{Num, unsigned, negative, float, Data, null, boolean, number, string, array, object, Items, no_items, item, Members, no_members, member}

-- a name stands before those of the members
abbrev pub IsBelow : List ℕ → Members → Type 0
IsBelow k no_members = ⊤
IsBelow k (member l d ms) = slice_cmp nat_cmp k l ≡ Less

abbrev pub IsOf64Bits : Num → Type 0
IsOf64Bits (unsigned n) = n < 2 ^ 64
IsOf64Bits (negative (pos n)) = ⊥
IsOf64Bits (negative (negsuc n)) = n < 2 ^ 63
IsOf64Bits (float x) = ⊤

abbrev mutual
  pub IsReadValue : Data → Type 0
  IsReadValue null = ⊤
  IsReadValue (boolean b) = ⊤
  IsReadValue (number n) = IsOf64Bits n
  IsReadValue (string s) = IsUtf8 s
  IsReadValue (array ds) = AreReadItems ds
  IsReadValue (object ms) = AreReadMembers ms

  pub AreReadItems : Items → Type 0
  AreReadItems no_items = ⊤
  AreReadItems (item d ds) = IsReadValue d × AreReadItems ds

  pub AreReadMembers : Members → Type 0
  AreReadMembers no_members = ⊤
  AreReadMembers (member k d ms) = IsUtf8 k × IsReadValue d × IsBelow k ms × AreReadMembers ms
