-- A mask's text is read piece by piece.
use Rattle.std.proofs.Common.{◌≡◌, ◌+◌, ◌≤◌, ◌==◌, not, cond, ℕ, Bool, true, false, List, [], ◌∷◌, length, codes, Option, Some, None, refl, arith}
use Rattle.std.specs.List.{position_or_len, onto_first}
use Rattle.serde_json.specs.Data.{Data, null, boolean, number, string, array, object}
use Rattle.json_fields.specs.Fields.{filled_at, Holds}
use Rattle.json_fields.specs.Kinds.{empty_text}
use Rattle.json_fields.specs.Texts.{IsText}
use Rattle.invocation_forms.specs.Masks.{pieces, IsMask, named_by, is_named, mask_in}
use Rattle.invocation_forms.specs.Names as name
use Rattle.invocation_forms.specs.declared.masks.UpdateMask.{UpdateMask}

last_of : (b : ℕ) (bs : List ℕ) (t : Bool) → length (b ∷ bs) ≤ cond (not t) (1 + position_or_len (λ x. x == 44) bs) 0
    → (length bs ≤ position_or_len (λ x. x == 44) bs → pieces bs ≡ bs ∷ []) → cond t ([] ∷ pieces bs) (onto_first b (pieces bs)) ≡ (b ∷ bs) ∷ []
last_of b bs true h rest = absurd (omega arith)
last_of b bs false h rest = rw (rest (omega arith)) refl

-- the only piece of a text without a comma
pub last_piece : (text : List ℕ) → length text ≤ position_or_len (λ x. x == 44) text → pieces text ≡ text ∷ []
last_piece [] h = refl
last_piece (b ∷ bs) h = last_of b bs (b == 44) h (last_piece bs)

-- a mask that is read says which fields the request's mask names
mask_names : (o : Option Data) (mask : UpdateMask) → Holds (IsText IsMask) o mask
    → (mask.deadline ≡ named_by (codes "deadline") o) × (mask.tags ≡ named_by (codes "tags") o)
mask_names None mask h = absurd h
mask_names (Some null) mask h = absurd h
mask_names (Some (boolean b)) mask h = absurd h
mask_names (Some (number n)) mask h = absurd h
mask_names (Some (string s)) mask h = (h.deadline_is, h.tags_is)
mask_names (Some (array ds)) mask h = absurd h
mask_names (Some (object ms)) mask h = absurd h

pub mask_is : (d : Data) (mask : UpdateMask) → Holds (IsText IsMask) (filled_at name.update_mask empty_text d) mask → mask ≡ mask_in d
unfolding is_named
mask_is d mask h =
    let same = mask_names (filled_at name.update_mask empty_text d) mask h in
    λ i. record { deadline = same.0 i; tags = same.1 i }
