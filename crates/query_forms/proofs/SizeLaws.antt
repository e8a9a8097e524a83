-- The sizes of pages and limits of results: whole numbers of which 0 is left out.
use Rattle.std.proofs.Common.{◌≡◌, ◌==◌, ℕ, Bool, true, false, if◌then◌else◌, Some, None, refl, arith}
use Rattle.serde_json.specs.Data.{Data, Members, number, unsigned, put}
use Rattle.json_fields.specs.Names.{NameForm}
use Rattle.field_kinds.specs.Numbers.{most_of_page}
use Rattle.field_kinds.proofs.NumberLaws.{page_written}
use Rattle.form_fields.specs.Fields.{Fields}
use Rattle.form_fields.specs.Kinds.{unless_zero, whole_field}
use Rattle.form_fields.specs.Laws.{AreLawful}
use Rattle.form_fields.specs.Members.{put_some}
use Rattle.form_fields.proofs.WholeLaws.{whole_field_lawful}
use Rattle.query_forms.specs.Sizes.{put_size}

abbrev pub size_json : ℕ → Data
size_json size = number (unsigned size)

put_at : (n : NameForm) (size : ℕ) (ms : Members) (t : Bool)
    → (if t then ms else put n.camel (number (unsigned size)) ms) ≡ put_some n (if t then None else Some (number (unsigned size))) ms
put_at n size ms true = refl
put_at n size ms false = refl

pub put_size_is : (n : NameForm) (size : ℕ) (ms : Members) → put_size n size ms ≡ put_some n (unless_zero size_json size) ms
put_size_is n size ms = put_at n size ms (size == 0)

abbrev pub size_field : NameForm → Fields ℕ
size_field n = whole_field n most_of_page size_json

pub size_are : (n : NameForm) → AreLawful (size_field n)
size_are n = whole_field_lawful size_json (λ size. record { no_float = refl; deep = omega arith }) n most_of_page (page_written most_of_page)
