use Rattle.std.proofs.Common.{rules, [], sym, subst}
use Rattle.turnstile.proofs.StepLaws.{starts}
use Rattle.turnstile.proofs.closing.open.Goals as goal

pub new-requires : goal.new-requires
new-requires g c = starts _ g.T.Held.by _ (c.args.held, search rules, subst (λ v. g.T.Held.stands c.args.held (g.T.Held.start v) []) (sym c.of-origin.ensures) (g.T.Held.begins c.args.held c.requires))
