-- A request that was recorded, as it is judged again. Neither its token nor its caller's rights are
-- asked: they were when it was recorded.
use Rattle.std.specs.Prelude.{◌≡◌, ℕ, ℤ, List, None}
use Rattle.invocations.specs.declared.invocation.Invocation.{Invocation}
use Rattle.request_rules.specs.Held.{Held}
use Rattle.kept_replies.specs.declared.reply.KeptReply.{KeptReply}
use Rattle.request_demands.specs.Demands.{Demand}
use Rattle.request_demands.specs.Numbered.{kept_for}
use Rattle.request_demands.specs.Order.{IsUnbroken}
use Rattle.request_rules.specs.Broken.{DeadlineRange, Itself, NotActive, NotFound, Taken, TooMany}

-- Nothing is kept for its number and the caller of this name, or it has no number: it repeats no
-- request, and no other one had its number.
abbrev pub IsUnused : List KeptReply → List ℕ → Demand → Type 0
IsUnused kept name d = kept_for kept name d ≡ None

-- It breaks none of the other rules for what is demanded, but for those of tokens and rights, which
-- aren't asked.
pub record IsRight (rows : List Invocation) (held : Held) (moment : ℤ) (d : Demand)
    : Type 0 where
  pub found : IsUnbroken (NotFound rows held d)
  pub active : IsUnbroken (NotActive rows d)
  pub reach : IsUnbroken (DeadlineRange moment d)
  pub apart : IsUnbroken (Itself d)
  pub few : IsUnbroken (TooMany d)
  pub free : IsUnbroken (Taken rows d)
