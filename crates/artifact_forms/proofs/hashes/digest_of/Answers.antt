use Rattle.std.proofs.Common.{◌≡◌, ℕ, List, drop, Ok, Err, ap, ◌∙◌}
use Rattle.hex.specs.declared.error.FromHexError.{FromHexError}
use Rattle.artifact_forms.proofs.HashLaws.{digest_read}
use Rattle.artifact_forms.proofs.hashes.digest_of.Goals as goal

pub returns : goal.returns
returns c =
    digest_read c.args.text.now c.split_at.result.1.now c.decode_to_slice.new.out
    (λ (bytes : List ℕ). (c.decode_to_slice.result ≡ Ok tt) × (c.decode_to_slice.new.out ≡ bytes))
    (λ (e : FromHexError). c.decode_to_slice.result ≡ Err e)
    c.as_str.ensures.form
    (c.split_at.ensures.back ∙ ap (λ (t : List ℕ). drop 7 t) (c.as_bytes.ensures.value ∙ c.as_str.ensures.text))
    (λ bytes written. written.1)
    c.decode_to_slice.ensures.value
