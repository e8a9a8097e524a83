-- The sizes of pages, and limits of results.
use Rattle.std.specs.Prelude.{ℕ, ◌==◌, min, if◌then◌else◌, Option}
use Rattle.serde_json.specs.Data.{Data, Members, number, unsigned, put}
use Rattle.json_fields.specs.Names.{NameForm}
use Rattle.json_fields.specs.Fields.{optional, set_at}
use Rattle.json_fields.specs.declared.faults.FieldFault.{FieldFault}
use Rattle.field_kinds.specs.Defaults.{HoldsOr}
use Rattle.field_kinds.specs.Numbers.{a_whole, most_of_page, IsSaid}

-- a size, which is 0 where it is unset
abbrev pub a_size : NameForm → Data → Option FieldFault
a_size n d = optional n (a_whole most_of_page) d

abbrev pub IsSize : NameForm → Data → ℕ → Type 0
IsSize n d size = HoldsOr IsSaid 0 (set_at n d) size

-- what is written of a size; nothing of 0
abbrev pub put_size : NameForm → ℕ → Members → Members
put_size n size ms = if size == 0 then ms else put n.camel (number (unsigned size)) ms

-- The size that counts: a default where 0 is said, and never more than the greatest.
abbrev pub counted : ℕ → ℕ → ℕ → ℕ
counted default most size = if size == 0 then default else min size most
