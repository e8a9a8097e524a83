use Rattle.std.proofs.Common.{◌≡◌, List, ℕ, None, sym, ap, ◌∙◌}
use Rattle.json_fields.specs.NamesRealms.Pairs.{IsPairKey, IsPairValue, pair_fault}
use Rattle.json_fields.proofs.NamesRealms.PairLemmas.{pair-fault}
use Rattle.field_kinds.proofs.variants.read_pair.Goals as goal

right : (a b key value : List ℕ) → a ≡ key → b ≡ value → IsPairKey a → IsPairValue b → pair_fault key value ≡ None
right a b key value k v is_key is_value = sym (ap (λ (x : List ℕ). pair_fault x b) k ∙ ap (λ (y : List ℕ). pair_fault key y) v) ∙ pair-fault a b is_key is_value

pub returns-in-Ok-clause-ok : goal.returns-in-Ok-clause-ok
returns-in-Ok-clause-ok c =
    let key = c.as_bytes.ensures.value in
    let value = c.as_bytes-2.ensures.value in
    (c.in-Ok.ensures.ok.0 ∙ key, c.in-Ok.ensures.ok.1 ∙ value, right _ _ _ _ key value c.in-Ok.ensures.grammar.0 c.in-Ok.ensures.grammar.1)
