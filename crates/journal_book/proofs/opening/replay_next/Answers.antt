use Rattle.std.proofs.Common.{ℕ, List, [], ◌∷◌, ◌++◌, sym, subst, ◌∙◌}
use Rattle.disks.specs.Parts.{part_of}
use Rattle.result_journal.specs.Grammar.{Bodies, Reads}
use Rattle.result_journal.specs.Openings.{opened_disk}
use Rattle.journal_book.specs.Reading.{IsReplayFault}
use Rattle.journal_book.proofs.ReadLaws.{at_none, at_some, play_fault, played_on, replay_shown}
use Rattle.journal_book.proofs.opening.replay_next.Goals as goal

pub returns-in-None-clause-ok : goal.returns-in-None-clause-ok
returns-in-None-clause-ok g c = λ first commands played. record {
  commands = commands;
  played = record {
    part = c.next.ensures.part ∙ played.part;
    given = at_none _ c.in_ok-next.field-0 c.in-None.is c.in_ok-next.ensures.keeps commands played.given;
    place = at_none _ c.in_ok-next.field-0 c.in-None.is c.in_ok-next.ensures.gate ∙ played.place;
    leads = played.leads;
  };
  ended = at_none _ c.in_ok-next.field-0 c.in-None.is c.in_ok-next.ensures.ends;
  all = λ t is. subst (λ (n : ℕ). Reads (part_of t.now n).bytes (Bodies commands)) played.part
      (at_none _ c.in_ok-next.field-0 c.in-None.is c.in_ok-next.ensures.all commands played.given t (sym c.next.ensures.told ∙ is));
}

pub returns-in_ok-replay_at-in-Some-clause-ok : goal.returns-in_ok-replay_at-in-Some-clause-ok
returns-in_ok-replay_at-in-Some-clause-ok g c = λ first commands played.
    let body = c.next.new.into.items in (
      commands ++ body ∷ [],
      played_on g.D.Disk.told g.M.Machine.plays first (g.M.Machine.world c.args.machine.now) (g.M.Machine.world c.replay_at.new.machine)
          c.args.opening.now c.next.new.self commands body c.in-Some.place played c.next.ensures.part
          (at_some _ _ c.in_ok-next.field-0 c.in-Some.place c.in-Some.is c.in_ok-next.ensures.gives commands played.given)
          (at_some _ _ c.in_ok-next.field-0 c.in-Some.place c.in-Some.is c.in_ok-next.ensures.place)
          (at_some _ _ c.in_ok-next.field-0 c.in-Some.place c.in-Some.is c.in_ok-next.ensures.gate)
          (subst (λ (l : List ℕ). g.M.Machine.plays (g.M.Machine.world c.args.machine.now) l (g.M.Machine.world c.replay_at.new.machine))
          c.deref.ensures.value c.in_ok-replay_at-in-Some.ensures.ok),
    )

pub returns-in_err-replay_at-in-Some-clause-err : goal.returns-in_err-replay_at-in-Some-clause-err
returns-in_err-replay_at-in-Some-clause-err g c = λ first commands played.
    let body = c.next.new.into.items in
    let w = g.M.Machine.world c.args.machine.now in
    let fault = c.in_err-replay_at-in-Some.field-0.0 in
    play_fault g.M.Machine.plays first (g.D.Disk.told (opened_disk c.args.opening.now)) c.from_residual-in_err-replay_at-in-Some.result fault
    c.from_residual-in_err-replay_at-in-Some.ensures.1
    (replay_shown g.D.Disk.told g.M.Machine.plays first w c.args.opening.now c.next.new.self commands body c.in-Some.place fault played c.next.ensures.part
    (at_some _ _ c.in_ok-next.field-0 c.in-Some.place c.in-Some.is c.in_ok-next.ensures.gives commands played.given)
    c.next.ensures.told
    (at_some _ _ c.in_ok-next.field-0 c.in-Some.place c.in-Some.is c.in_ok-next.ensures.place)
    (subst (λ (l : List ℕ). IsReplayFault g.M.Machine.plays w l c.in-Some.place fault) c.deref.ensures.value c.in_err-replay_at-in-Some.ensures.err))
