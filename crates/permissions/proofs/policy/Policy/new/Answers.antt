use Rattle.std.proofs.Common.{ap, sym, subst, ◌∙◌}
use Rattle.hex.specs.Hex.{decode_of}
use Rattle.policy_checks.specs.Checks.{is_hex_text}
use Rattle.permissions.specs.Policy.{IsKept}
use Rattle.permissions.proofs.FaultLemmas.{secret_is_hex, few_realms}
use Rattle.permissions.proofs.policy.Policy.new.Goals as goal

pub read_secret-requires : goal.read_secret-requires
read_secret-requires c =
    ap is_hex_text (c.as_slice.ensures ∙ ap (λ t. t.secret) c.tables.ensures) ∙ secret_is_hex c.args.book c.requires.sound.texts

pub ranked_rights-requires-clause-few : goal.ranked_rights-requires-clause-few
ranked_rights-requires-clause-few c = few_realms c.args.book c.requires.sound.texts

pub invariant_of-result : goal.invariant_of-result
invariant_of-result c =
    let secret_is = sym (ap decode_of (c.as_slice.ensures ∙ ap (λ t. t.secret) c.tables.ensures)) ∙ c.in_ok-secret.ensures in
    subst (IsKept c.in_ok-secret.secret c.args.tokens) (sym c.in_ok-rights.ensures)
    (record { secret_is = secret_is; tokens_are = c.requires.tokens; sound = c.requires.sound })
