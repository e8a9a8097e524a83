use Rattle.std.proofs.Common.{◌≡◌, rules}
use Rattle.hex.specs.Hex.{encode_lower}
use Rattle.report_ids.proofs.DigitLemmas.{hex_small}
use Rattle.report_ids.proofs.digests.hex_of.Goals as goal

pub returns-clause-digits : goal.returns-clause-digits
returns-clause-digits c =
    let is : c.encode_to_slice.new.output ≡ encode_lower c.args.code.now = search rules in
    rw is (hex_small c.args.code.now (λ k. (c.type_inv.code k).fits))
