use Rattle.std.proofs.Common.{◌≡◌, ◌-◌, length, drop, length-drop, true, false, sym, ◌∙◌, subst, arith}
use Rattle.std.proofs.lemmas.List.{take_all}
use Rattle.http_wire.specs.Says.{IsBearerValue}
use Rattle.http_wire.proofs.SaysLaws.{credentials, has_token}
use Rattle.http_wire.proofs.bearer.token_of.Goals as goal
use Rattle.http_wire.proofs.bearer.token_of.Goals.{then-value-lt7-via-then-value-lt7, then-value-lt7-via-else-value-lt7+then-value-ne32, then-value-lt7-via-else-value-lt7+else-value-ne32+then-not-is_bearer}

pub returns-then-value-lt7 : goal.returns-then-value-lt7
returns-then-value-lt7 c token x =
    let k = credentials c.args.value.now token x in
    elim c.then-value-lt7.branch [
      | then-value-lt7-via-then-value-lt7 w ↦ (let long = k.long in omega arith)
      | then-value-lt7-via-else-value-lt7+then-value-ne32 w ↦ w.if-value-ne32.true k.space
      | then-value-lt7-via-else-value-lt7+else-value-ne32+then-not-is_bearer w ↦
          (let no : false ≡ true = sym (sym w.is_bearer.ensures ∙ w.if-not-is_bearer.true) ∙ k.scheme in absurd cc)
    ]

pub returns : goal.returns
returns c =
    let value = c.args.value.now in
    subst (λ t. IsBearerValue value t) (sym (take_all (length value - 7) (drop 7 value) (omega (arith, length-drop 7 value))))
    (has_token value (omega arith) (omega arith) (sym c.is_bearer.ensures ∙ c.if-not-is_bearer.false))
