-- Contents: what their text decodes to, and that they are read again.
use Rattle.std.proofs.Common.{◌≡◌, ◌≢◌, ℕ, ◌≤◌, ◌==◌, Bool, true, false, nat_lt, if◌then◌else◌, List, [], ◌∷◌, length, Some, None, Ok, Err, refl, sym, ap, subst, ◌∙◌, arith}
use Rattle.base64.specs.Engines.{standard}
use Rattle.base64.specs.GeneralPurpose.{encode_of, decode_of, decoded_of, IsBytes}
use Rattle.base64.specs.declared.decode.DecodeError.{DecodeError}
use Rattle.base64.proofs.EngineFacts.{decode_of-encode_of, encode_of-nil}
use Rattle.base64.proofs.Streams.{decoded_of-ok}
use Rattle.serde_json.specs.Data.{string}
use Rattle.json_fields.specs.Kinds.{empty_text}
use Rattle.json_fields.specs.Texts.{IsText}
use Rattle.json_fields.specs.Writing.{IsWritten}
use Rattle.json_fields.specs.declared.whys.Why.TheVariants.{NotBase64, TooLong}
use Rattle.text_kinds.specs.Contents.{contents_why, contents_why_of, Encodes}
use Rattle.text_kinds.specs.Texts.{a_string, is_blank}

pub why_decoded : (text b : List ℕ) → decode_of standard text ≡ Ok b → contents_why text ≡ contents_why_of (Some b)
why_decoded text b e = ap contents_why_of (decoded_of-ok standard text b e)

none_decoded : (text : List ℕ) (d : DecodeError) → decode_of standard text ≡ Err d → decoded_of standard text ≡ None
unfolding decoded_of
none_decoded text d e = rw e refl

pub why_refused : (text : List ℕ) (d : DecodeError) → decode_of standard text ≡ Err d → contents_why text ≡ Some NotBase64
why_refused text d e = ap contents_why_of (none_decoded text d e)

pub few : (b : List ℕ) → length b ≤ 1048576 → contents_why_of (Some b) ≡ None
few b most = let under : nat_lt 1048576 (length b) ≡ false = grind arith in rw under refl

not_both : (b : List ℕ) (t : Bool) → (if t then Some (TooLong (length b)) else None) ≡ Some NotBase64 → ⊥
not_both b true e = cc
not_both b false e = cc

again : (b : List ℕ) → IsBytes b → decode_of standard (encode_of standard b) ≡ Ok b
again b bytes = decode_of-encode_of standard b refl bytes

-- a text that is refused so is no encoding of bytes
pub only_base64 : (text : List ℕ) → contents_why text ≡ Some NotBase64 → (b : List ℕ) → IsBytes b → text ≢ encode_of standard b
only_base64 text none b bytes e =
    let decoded : decode_of standard text ≡ Ok b = subst (λ (t : List ℕ). decode_of standard t ≡ Ok b) (sym e) (again b bytes) in
    not_both b (nat_lt 1048576 (length b)) (sym (why_decoded text b decoded) ∙ none)

filled : (b : ℕ) (bs text : List ℕ) → IsBytes (b ∷ bs) → text ≡ encode_of standard (b ∷ bs) → (length text == 0) ≡ false
filled b bs [] bytes e =
    let some : decode_of standard [] ≡ Ok (b ∷ bs) = subst (λ (t : List ℕ). decode_of standard t ≡ Ok (b ∷ bs)) (sym e) (again (b ∷ bs) bytes) in
    let none : decode_of standard [] ≡ Ok [] = subst (λ (t : List ℕ). decode_of standard t ≡ Ok []) (encode_of-nil standard) (again [] (λ i. omega arith)) in
    absurd cc
filled b bs (c ∷ cs) bytes e = grind arith

emptiness_of : (b : List ℕ) → IsBytes b → empty_text (string (encode_of standard b)) ≡ is_blank b
emptiness_of [] bytes = rw (encode_of-nil standard) refl
emptiness_of (b ∷ bs) bytes = filled b bs (encode_of standard (b ∷ bs)) bytes refl ∙ sym (let some : (length (b ∷ bs) == 0) ≡ false = grind arith in some)

pub contents_written : (b : List ℕ) → IsBytes b → length b ≤ 1048576
    → IsWritten (a_string contents_why) (IsText Encodes) empty_text is_blank b (string (encode_of standard b))
contents_written b bytes most = record {
  is_set = refl;
  no_fault = rw (why_decoded (encode_of standard b) b (again b bytes), few b most) refl;
  meant = refl;
  emptiness = emptiness_of b bytes;
}
