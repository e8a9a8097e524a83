-- The names of users are ASCII, and what a row shows is UTF-8.
use Rattle.std.proofs.Common.{◌≡◌, ◌<◌, ℕ, zero, suc, true, List, [], ◌∷◌, IsUtf8, slice_index_or, arith, lit<}
use Rattle.std.specs.List.{list_all}
use Rattle.std.specs.Char.{is_ascii_lowercase}
use Rattle.std.specs.Str.{IsAscii}
use Rattle.std.proofs.lemmas.Bool.{and_parts}
use Rattle.std.proofs.lemmas.Bool.Decides.{nat_tests}
use Rattle.std.proofs.lemmas.Str.{IsUtf8-from_ascii}
use Rattle.name_parts.proofs.PartLemmas.{IsPart-utf8}
use Rattle.name_parts.specs.declared.parts.PartForm.TheVariants.{PairKey}
use Rattle.names_realms.specs.declared.pairs.Pair.{Pair}
use Rattle.field_kinds.specs.PairKinds.Tags.{IsPairOfGrammar}
use Rattle.invocation_forms.specs.Laws.{RowIsShowable}
use Rattle.invocation_forms.specs.Shown.{IsUtf8Pair}
use Rattle.invocation_forms.specs.Users.{is_user_name, may_follow}

follows_small : (b : ℕ) → may_follow b ≡ true → b < 128
follows_small b e = grind (arith, nat_tests)

first_small : (b : ℕ) → is_ascii_lowercase b ≡ true → b < 128
first_small b e = grind (arith, nat_tests)

others_ascii : (bs : List ℕ) → list_all may_follow bs ≡ true → IsAscii bs
others_ascii [] e i = lit< tt
others_ascii (b ∷ bs) e zero = follows_small b (and_parts _ _ e).0
others_ascii (b ∷ bs) e (suc i) = others_ascii bs (and_parts _ _ e).1 i

user_ascii : (text : List ℕ) → is_user_name text ≡ true → IsAscii text
user_ascii [] e i = lit< tt
user_ascii (b ∷ bs) e zero = first_small b (and_parts _ _ (and_parts _ _ e).0).0
user_ascii (b ∷ bs) e (suc i) = others_ascii bs (and_parts _ _ e).1 i

pub user_utf8 : (text : List ℕ) → is_user_name text ≡ true → IsUtf8 text
user_utf8 text e = IsUtf8-from_ascii text (user_ascii text e)

pair_utf8 : (pair : Pair) → IsPairOfGrammar pair → IsUtf8Pair pair
pair_utf8 pair is = (IsPart-utf8 PairKey pair.key is.0, is.1.0)

pub row_is_showable : RowIsShowable
row_is_showable s named tags = record {
  creator = user_utf8 s.creator named;
  tags = λ k d below. pair_utf8 (slice_index_or s.tags k d) (tags k d below);
}
