-- What the text of a configuration is: a policy's, or one with a fault, and not both.
use Rattle.std.proofs.Common.{◌≡◌, ℕ, ◌<◌, ◌⊎◌, inl, inr, List, [], ◌++◌, length, Option, Some, None, refl, sym, ap, ◌∙◌, subst, append-nil, arith, length-append}
use Rattle.toml.specs.Data.{Members}
use Rattle.outside.specs.Bytes.{Gave, IsEnd}
use Rattle.outside.specs.Ends.{Incoming}
use Rattle.policy_tables.specs.declared.tables.PolicyTables.{PolicyTables}
use Rattle.policy_document.specs.Document.{tables_of}
use Rattle.permissions.specs.Faults.{IsSound}
use Rattle.workload_runs.specs.PolicyReading.Reading.{IsPolicyOf, IsFirstFault, IsTablesFault, size, toml, shape, tables, text, cycle, owners, shape_fault, most_bytes}
use Rattle.permissions.specs.declared.faults.PolicyFault.{PolicyFault}
use Rattle.permissions.specs.declared.faults.PolicyFault.TheVariants as faults
use Rattle.rdb_program.specs.Configured.{Accepts, Refuses, most_read}
use Rattle.rdb_program.specs.Run.{refusal_line}

no_some : {T : Type 0} (o : Option T) (x : T) → o ≡ Some x → o ≡ None → ⊥
no_some o x some none = let e : Some x ≡ None = sym some ∙ none in cc

sound_apart : (t : PolicyTables) (fault : PolicyFault) → IsSound t → IsTablesFault t fault → ⊥
sound_apart t fault sound (text f found) = no_some _ f found sound.texts
sound_apart t fault sound (cycle name none least) = sound.no_cycle name least.itself
sound_apart t fault sound (owners f none no_cycle found) = no_some _ f found sound.owners

same_document : (t u : Members) (o : Option Members) → o ≡ Some t → o ≡ Some u → t ≡ u
same_document t u o one other = let e : Some t ≡ Some u = sym one ∙ other in cc

-- a policy's text has no fault
pub policy_apart : (bytes : List ℕ) (book : PolicyTables) (fault : PolicyFault) → IsPolicyOf bytes book → IsFirstFault bytes fault → ⊥
policy_apart bytes book fault policy (size many) = omega (arith, policy.size, many)
policy_apart bytes book fault policy (toml few none) = none policy.members policy.toml
policy_apart bytes book fault policy (shape few t is f found) =
    no_some _ f found (ap shape_fault (same_document t policy.members _ is.1 policy.toml.1) ∙ policy.shape)
policy_apart bytes book fault policy (tables few t is none f found) =
    sound_apart (tables_of t) f
    (subst IsSound (policy.same ∙ ap tables_of (sym (same_document t policy.members _ is.1 policy.toml.1))) policy.sound) found

-- a text that is too long has that fault alone
only_size : (bytes : List ℕ) (fault : PolicyFault) → most_bytes < length bytes → IsFirstFault bytes fault → fault ≡ faults.TooMany (length bytes)
only_size bytes fault long (size many) = refl
only_size bytes fault long (toml few none) = absurd (omega (arith, long, few))
only_size bytes fault long (shape few t is f found) = absurd (omega (arith, long, few))
only_size bytes fault long (tables few t is none f found) = absurd (omega (arith, long, few))

given_of : (told bytes : List ℕ) (before after : Option (List ℕ)) → Gave before bytes after → before ≡ Some told
    → (left : List ℕ) × (after ≡ Some left) × (told ≡ bytes ++ left)
given_of told bytes before after gave is = subst (λ (o : Option (List ℕ)). Gave o bytes after) is gave

nothing_left : (left : List ℕ) (after : Option (List ℕ)) → IsEnd after → after ≡ Some left → left ≡ []
nothing_left left after end is = subst IsEnd is end

-- what was given to the end is the whole text
all_given : (told bytes : List ℕ) (before after : Option (List ℕ)) → Gave before bytes after → IsEnd after → before ≡ Some told → bytes ≡ told
all_given told bytes before after gave end is =
    let parts = given_of told bytes before after gave is in
    sym (parts.2 ∙ ap (λ (t : List ℕ). bytes ++ t) (nothing_left parts.0 after end parts.1) ∙ append-nil bytes)

pub accepted_told : (before : Incoming) (book : PolicyTables) (after : Incoming) (told : List ℕ) → Accepts before book after
    → before.left ≡ Some told → IsPolicyOf told book
accepted_told before book after told a is =
    subst (λ (t : List ℕ). IsPolicyOf t book) (all_given told a.text before.left after.left a.gave a.at_end is) a.policy

-- The fault of what was read is the whole text's, but for the length of a text that is too long, which no line tells.
pub refused_told : (before : Incoming) (fault : PolicyFault) (after : Incoming) (told : List ℕ) → Refuses before fault after
    → before.left ≡ Some told → (f : PolicyFault) × IsFirstFault told f × (refusal_line fault ≡ refusal_line f)
refused_told before fault after told r is = by_end r.whole
  where
    by_end : IsEnd after.left ⊎ (length r.text ≡ most_read) → (f : PolicyFault) × IsFirstFault told f × (refusal_line fault ≡ refusal_line f)
    by_end (inl end) =
        (fault, subst (λ (t : List ℕ). IsFirstFault t fault) (all_given told r.text before.left after.left r.gave end is) r.first, refl)
    by_end (inr full) =
        let parts = given_of told r.text before.left after.left r.gave is in (
          faults.TooMany (length told),
          size (omega (arith, full, ap length parts.2, length-append r.text parts.0)),
          ap refusal_line (only_size r.text fault (omega (arith, full)) r.first),
        )
