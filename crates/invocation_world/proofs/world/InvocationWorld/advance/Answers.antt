use Rattle.std.proofs.Common.{◌≡◌, ◌≤ℤ◌, true, is_some, ◌∙◌, sym, subst}
use Rattle.invocation_world.specs.Advancing.{Advances}
use Rattle.invocation_world.specs.Parts.{world_of}
use Rattle.invocation_world.specs.States.{WorldState}
use Rattle.invocation_world.proofs.CodeFacts.{carried_advances, carried_kept, carried_quiets}
use Rattle.invocation_world.proofs.world.InvocationWorld.advance.Goals as goal

pub invariant_of-self : goal.invariant_of-self
invariant_of-self c =
    let later = subst (λ (s : WorldState). s.world.last ≤ℤ c.args.moment) (sym c.self.view_is) c.requires.later in
    carried_kept c.args.moment c.self.inside.table c.self.inside.finaliser c.self.inside.last c.carry_out.new.table c.carry_out.new.finaliser
    (record {
      kept = c.self.invariant;
      call = c.requires.moment;
      later = later;
      runs = c.carry_out.ensures.rows;
      linked = c.carry_out.ensures.parts.linked;
      graph = c.carry_out.ensures.parts.graph;
    })

pub returns-then-is_some-clause-quiet : goal.returns-then-is_some-clause-quiet
returns-then-is_some-clause-quiet c =
    let later = subst (λ (s : WorldState). s.world.last ≤ℤ c.args.moment) (sym c.self.view_is) c.requires.later in
    carried_quiets c.args.moment c.self.inside.table c.self.inside.finaliser c.self.inside.last c.carry_out.new.table c.carry_out.new.finaliser
    (record {
      kept = c.self.invariant;
      call = c.requires.moment;
      later = later;
      runs = c.carry_out.ensures.rows;
      linked = c.carry_out.ensures.parts.linked;
      graph = c.carry_out.ensures.parts.graph;
    })

pub returns-then-is_some-clause-world : goal.returns-then-is_some-clause-world
returns-then-is_some-clause-world c =
    let later = subst (λ (s : WorldState). s.world.last ≤ℤ c.args.moment) (sym c.self.view_is) c.requires.later in
    let some : is_some c.next_due.result ≡ true = sym c.is_some.ensures ∙ c.if-is_some.true in
    let made = carried_advances c.args.moment c.self.inside.table c.self.inside.finaliser c.self.inside.last c.carry_out.new.table
    c.carry_out.new.finaliser
    (record {
      kept = c.self.invariant;
      call = c.requires.moment;
      later = later;
      runs = c.carry_out.ensures.rows;
      linked = c.carry_out.ensures.parts.linked;
      graph = c.carry_out.ensures.parts.graph;
    })
    c.next_due.result some c.next_due.ensures in
    subst (λ (s : WorldState). Advances s.world c.args.moment (world_of c.carry_out.new.table c.carry_out.new.finaliser c.args.moment))
    c.self.view_is made

pub returns-then-is_some-clause-valid : goal.returns-then-is_some-clause-valid
returns-then-is_some-clause-valid c =
    let later = subst (λ (s : WorldState). s.world.last ≤ℤ c.args.moment) (sym c.self.view_is) c.requires.later in
    (carried_kept c.args.moment c.self.inside.table c.self.inside.finaliser c.self.inside.last c.carry_out.new.table c.carry_out.new.finaliser
    (record {
      kept = c.self.invariant;
      call = c.requires.moment;
      later = later;
      runs = c.carry_out.ensures.rows;
      linked = c.carry_out.ensures.parts.linked;
      graph = c.carry_out.ensures.parts.graph;
    })).valid
