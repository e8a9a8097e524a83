use Rattle.std.proofs.Common.{None, ap, sym, ◌∙◌}
use mathlib.Core.Option.{some-injective}
use Rattle.turnstile.proofs.StepLaws.{ends_empty}
use Rattle.turnstile.proofs.closing.free.Goals as goal

pub unreachable-requires : goal.unreachable-requires
unreachable-requires g c =
    let empty = ends_empty _ g.T.Held.by c.args.place.id c.requires.ended.0 c.args.place.me.0 _ _ (ap (λ m. m.0) c.requires.ended.1) c.close_with-closed.ensures.values.2 in
    c.in_default.not-None (some-injective c.take-empty.result None (sym c.take-empty.ensures.value ∙ empty))
