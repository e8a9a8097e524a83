-- The label of a variant that replies show is UTF-8.
use Rattle.std.proofs.Common.{List, refl}
use Rattle.std.specs.List.{flat_map}
use Rattle.std.specs.Str.{IsUtf8}
use Rattle.std.proofs.lemmas.Str.{IsAscii-take, IsUtf8-from_ascii}
use Rattle.hex.specs.Hex.{lower_digits}
use Rattle.hex.proofs.HexLemmas.{IsAscii-encode_with}
use Rattle.name_parts.proofs.PartLemmas.{ascii_literal}
use Rattle.names_realms.specs.declared.pairs.Pair.{Pair}
use Rattle.names_realms.specs.Variants.{label_of, pair_bytes}
use Rattle.sha2.specs.Sha256.{sha256}

pub label_utf8 : (pairs : List Pair) → IsUtf8 (label_of pairs)
unfolding label_of
label_utf8 pairs =
    IsUtf8-from_ascii _ (IsAscii-take _ 16 (IsAscii-encode_with lower_digits (sha256 (flat_map pair_bytes pairs)) (ascii_literal lower_digits refl)))
