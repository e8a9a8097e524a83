-- An invocation's name spells one id, and is read again.
use Rattle.std.proofs.Common.{◌≡◌, ℕ, ◌==◌, nat_eq, if◌then◌else◌, Bool, true, false, List, ◌++◌, length, drop, codes, Option, Some, None, option_map, refl}
use Rattle.std.specs.List.{common_prefix_len}
use Rattle.std.proofs.lemmas.Bool.{eqb-true}
use Rattle.json_fields.specs.NameParts.declared.alphabets.Alphabet.TheVariants as alphabet
use Rattle.json_fields.specs.NameParts.declared.faults.NameFault.{NameFault}
use Rattle.json_fields.specs.NameParts.declared.faults.NameFault.TheVariants.{BadByte}
use Rattle.json_fields.specs.NameParts.declared.parts.PartForm.TheVariants.{Letters}
use Rattle.json_fields.specs.NameParts.Parts.{shifted}
use Rattle.json_fields.specs.NameParts.Sequences.{behind}
use Rattle.json_fields.proofs.NameParts.PartLemmas.{part_fault-None}
use Rattle.json_fields.proofs.NameParts.SequenceLemmas.{begins_with}
use Rattle.json_fields.specs.NamesRealms.Names.{IsInvocationId, IsInvocationName, invocation_id_fault, invocation_name, invocation_name_fault}
use Rattle.json_fields.proofs.NamesRealms.InvocationNameLemmas.{IsInvocationName-fault}
use Rattle.json_fields.proofs.NamesRealms.NameLaws.{one_invocation_named}
use Rattle.serde_json.specs.Data.{Data}
use Rattle.json_fields.specs.Texts.{a_text, refused, IsText}
use Rattle.json_fields.specs.Writing.{IsSpelled}
use Rattle.json_fields.proofs.MeaningLaws.{text_one, text_there}
use Rattle.json_fields.proofs.NameLaws.{part_refused, shifted_refused, unless_refused}
use Rattle.json_fields.proofs.WriteLaws.{spelled_out}

behind_of : (literal text : List ℕ) (fault : List ℕ → Option NameFault) (t : Bool) → (common_prefix_len nat_eq text literal == length literal) ≡ t
    → refused (if t then option_map (shifted (length literal)) (fault (drop (length literal) text)) else Some (BadByte (common_prefix_len nat_eq text literal))) ≡ None
    → (text ≡ literal ++ drop (length literal) text) × (refused (fault (drop (length literal) text)) ≡ None)
behind_of literal text fault true e h =
    (begins_with text literal (eqb-true _ _ e), shifted_refused (length literal) (fault (drop (length literal) text)) h)
behind_of literal text fault false e h = absurd cc

behind_refused : (literal text : List ℕ) (fault : List ℕ → Option NameFault) → refused (behind literal fault text) ≡ None
    → (text ≡ literal ++ drop (length literal) text) × (refused (fault (drop (length literal) text)) ≡ None)
unfolding behind
behind_refused literal text fault h = behind_of literal text fault (common_prefix_len nat_eq text literal == length literal) refl h

name_spelled : (text : List ℕ) → refused (invocation_name_fault text) ≡ None → (id : List ℕ) × IsInvocationName id text
name_spelled text h =
    let whole = unless_refused (length text == 0) (behind (codes "invocations/") invocation_id_fault text) h in
    let parts = behind_refused (codes "invocations/") text invocation_id_fault whole.1 in
    let id : List ℕ = drop (length (codes "invocations/")) text in
    (id, (parts.0, part_fault-None (Letters alphabet.Invocation) id (part_refused (Letters alphabet.Invocation) id parts.1)))

-- an invocation's name means one id, and without a fault some
pub name_one : (d : Data) (a b : List ℕ) → IsText (λ text id. IsInvocationName id text) d a → IsText (λ text id. IsInvocationName id text) d b → a ≡ b
name_one d a b h k = text_one (λ text id. IsInvocationName id text) (λ text x y e f. one_invocation_named x y text e f) d a b h k

pub name_there : (d : Data) → a_text invocation_name_fault d ≡ None → (id : List ℕ) × IsText (λ text x. IsInvocationName x text) d id
name_there d h = text_there invocation_name_fault (λ text id. IsInvocationName id text) name_spelled d h

pub invocation_name_spelled : (id : List ℕ) → IsInvocationId id → IsSpelled invocation_name_fault (λ text x. IsInvocationName x text) (invocation_name id) id
invocation_name_spelled id is =
    spelled_out invocation_name_fault (λ text x. IsInvocationName x text) (invocation_name id) id refl (IsInvocationName-fault id (invocation_name id) (refl, is)) (refl, is)

-- that a name is read without a fault, and what is written of an id
pub ruleset invocation_names = (IsInvocationName-fault, invocation_name_spelled)
