use Rattle.std.proofs.Common.{◌≡◌, ◌+◌, ◌++◌, ◌∷◌, [], length, arith, sym, ap, subst, ◌∙◌, refl, rules, append_assoc, length-append}
use Rattle.desk_trial.specs.Seats.{EachFrom, HadTurns, StandBelow}
use Rattle.desk_trial.proofs.CountLaws.{join_more}
use Rattle.desk_trial.proofs.clerks.joined.Goals as goal

pub with-sum-requires : goal.with-sum-requires
with-sum-requires g c =
    let i = c.loop-teller.invariant in
    let seen = c.loop-teller.yielded in
    let w = c.in-Some.field-0 in
    let next : c.loop-teller.teller-iterator.rest.items ≡ w ∷ c.next.new.self.rest.items = c.in-Some.ensures.steps.0 in
    let had = subst (EachFrom (λ n d. HadTurns c.args.desk.now.table n d.heard.turns d.heard.calls d.teller.seat) (1 + length seen)) next i.had in
    let all = ap length i.whole ∙ length-append seen c.loop-teller.teller-iterator.rest.items in
    let few = i.few in
    let most = i.most in
    let own = had.0.few in
    omega (arith, all, few, most, own)

pub loop-teller-preserved : goal.loop-teller-preserved
loop-teller-preserved g c =
    let i = c.loop-teller.invariant in
    let seen = c.loop-teller.yielded in
    let w = c.in-Some.field-0 in
    let next : c.loop-teller.teller-iterator.rest.items ≡ w ∷ c.next.new.self.rest.items = c.in-Some.ensures.steps.0 in
    let had = subst (EachFrom (λ n d. HadTurns c.args.desk.now.table n d.heard.turns d.heard.calls d.teller.seat) (1 + length seen)) next i.had in
    let one : length (seen ++ w ∷ []) ≡ length seen + 1 = length-append seen (w ∷ []) in
    let same : (1 + length seen) + 1 ≡ 1 + length (seen ++ w ∷ []) = omega (arith, one) in
    let few = i.few in
    let own = had.0.few in
    let calls = c.with-sum.ensures.calls in
    record {
      can = tt;
      finite = tt;
      whole = i.whole ∙ ap (λ l. seen ++ l) next ∙ sym (append_assoc seen (w ∷ []) c.next.new.self.rest.items);
      table = c.join.ensures.own ∙ i.table;
      number = ap (λ k. k.number) c.join.ensures.joined ∙ i.number;
      splits = ap (λ k. k.splits) c.join.ensures.joined ∙ i.splits;
      had = subst (λ n. EachFrom (λ n d. HadTurns c.args.desk.now.table n d.heard.turns d.heard.calls d.teller.seat) n c.next.new.self.rest.items) same had.1;
      stand = join_more (length seen) c.loop-teller.sum.turns w.heard.turns c.with-sum.result.turns (length (seen ++ w ∷ []))
          c.loop-teller.first.knows w.teller.seat.knows c.join.new.seat.knows i.stand had.0.stand c.join.ensures.agrees c.join.ensures.joined
          c.with-sum.ensures.turns one;
      most = i.most;
      few = omega (arith, one, few, own, calls);
    }

pub loop-teller-init : goal.loop-teller-init
loop-teller-init g c =
    let same : c.args.callers.items ≡ c.into_iter-teller-iterator.result.rest.items = search rules in
    record {
      can = tt;
      finite = tt;
      whole = refl;
      table = c.requires.own;
      number = refl;
      splits = refl;
      had = subst (EachFrom (λ n d. HadTurns c.args.desk.now.table n d.heard.turns d.heard.calls d.teller.seat) 1) same c.requires.had;
      stand = subst (λ n. StandBelow 1 n c.args.first.now.knows) (sym c.nothing-sum.ensures.calls.1) c.requires.none;
      most = search rules;
      few = let calls = c.nothing-sum.ensures.calls.0 in omega (arith, calls);
    }
