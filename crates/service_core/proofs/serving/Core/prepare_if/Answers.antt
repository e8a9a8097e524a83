use Rattle.service_core.proofs.serving.Core.prepare_if.Goals as goal

pub returns-in-Ok-clause-prepared : goal.returns-in-Ok-clause-prepared
returns-in-Ok-clause-prepared c = λ asked is.
    let here = rw c.in-Ok.is at is in
    c.prepare.ensures.prepared asked here
