use Rattle.trial_callers.proofs.callers.ask_own.Goals as goal

pub returns : goal.returns
returns g c = record { counted = c.ask_task-caller.ensures.counted; few = c.ask_task-caller.ensures.few }
