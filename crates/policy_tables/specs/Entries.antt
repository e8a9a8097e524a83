-- The entries of tables, and how many there are.
use Rattle.std.specs.Prelude.{ℕ, ◌+◌, ◌-◌, ◌^◌, List, ◌∷◌, Option, Some, None, min, length, sum_by}
use Rattle.policy_tables.specs.declared.tables.PolicyTables.{PolicyTables}

-- the entries of the four tables, and all bindings, up to the greatest number that a count holds
abbrev pub capped : ℕ → ℕ
capped n = min n (2 ^ 64 - 1)

abbrev pub entries : PolicyTables → ℕ
entries t =
    capped (length t.users + length t.groups + length t.roles + length t.realms
    + sum_by (λ r. length r.bindings) t.realms)

-- one entry more, where there is one
abbrev pub with_entry : {A : Type 0} → Option A → List A → List A
with_entry None es = es
with_entry (Some e) es = e ∷ es
