-- The law of what is shown of an invocation.
use Rattle.std.specs.Prelude.{◌≡◌, true, All}
use Rattle.field_kinds.specs.PairKinds.Tags.{IsPairOfGrammar}
use Rattle.invocation_forms.specs.Shown.{InvocationShown, IsShowableInvocation}
use Rattle.invocation_forms.specs.Users.{is_user_name}

-- What a row shows can be shown: its creator has the form of a user's name, and its tags are pairs
-- of their grammar.
abbrev pub RowIsShowable : Type 0
RowIsShowable =
    (s : InvocationShown) → is_user_name s.creator ≡ true → All IsPairOfGrammar s.tags
    → IsShowableInvocation s
