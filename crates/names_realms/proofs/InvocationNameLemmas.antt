-- The name of an invocation has no fault.
use Rattle.std.proofs.Common.{◌≡◌, ℕ, List, ◌++◌, codes, None, ap, ◌∙◌}
use Rattle.name_parts.specs.declared.alphabets.Alphabet.TheVariants as alphabet
use Rattle.name_parts.specs.declared.parts.PartForm.TheVariants.{Letters}
use Rattle.name_parts.specs.Sequences.{behind}
use Rattle.name_parts.proofs.PartLemmas.{IsPart-part_fault}
use Rattle.name_parts.proofs.SequenceLemmas.{behind-None, unless_empty-cons}
use Rattle.names_realms.specs.Names.{IsInvocationName, invocation_name_fault, invocation_id_fault}

pub IsInvocationName-fault : (id text : List ℕ) → IsInvocationName id text → invocation_name_fault text ≡ None
IsInvocationName-fault id text is =
    let named : behind (codes "invocations/") invocation_id_fault (codes "invocations/" ++ id) ≡ None =
    behind-None (codes "invocations/") id invocation_id_fault (IsPart-part_fault (Letters alphabet.Invocation) id is.1) in
    ap invocation_name_fault is.0 ∙ unless_empty-cons (behind (codes "invocations/") invocation_id_fault) _ _ named
