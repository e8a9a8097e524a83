-- Laws of what is kept.
use Rattle.std.specs.Prelude.{◌≡◌, ℤ, Some, length}
use Rattle.kept_replies.specs.declared.reply.KeptAnswer.{KeptAnswer}
use Rattle.request_rules.specs.RequestDemands.Settings.{Settings}
use Rattle.service_effects.specs.declared.effect.Effect.{Effect}
use Rattle.service_effects.specs.declared.effect.Effect.TheVariants as does
use Rattle.request_effects.specs.declared.shows.Shows.{Shows}
use Rattle.request_effects.specs.declared.shows.Shows.TheVariants as shows
use Rattle.service_effects.specs.Service.{Recorded}
use Rattle.service_effects.specs.Effects.{Makes}
use Rattle.service_effects.specs.Fitting.{IsTimely, Suits}
use Rattle.request_effects.specs.Keeps.{answer_kept, kept_answer}
use Rattle.request_effects.specs.Shows.{answer_of}

-- what shows the rows that an effect adds
abbrev pub shows_added : Recorded → Effect → Shows
shows_added w does.Nothing = shows.Empty
shows_added w (does.Add row) = shows.Made (length w.rows.invocations)
shows_added w (does.Update place deadline tags) = shows.Empty
shows_added w (does.End place) = shows.Empty
shows_added w (does.Include plan) = shows.Empty
shows_added w (does.Results batch) = shows.Results (length w.results) (length batch)
shows_added w (does.Exonerations batch) =
    shows.Exonerations (length w.exonerations) (length batch)
shows_added w (does.Artifacts batch) = shows.Artifacts (length w.artifacts) (length batch.rows)

-- Of what is kept of an effect the answer is made again that showed what it added.
abbrev pub KeptIsFirst : Type 0
KeptIsFirst =
    (s : Settings) (w after : Recorded) (moment : ℤ) (effect : Effect) (answer : KeptAnswer)
    → IsTimely w.rows moment → Suits w.rows moment effect → Makes moment effect w after
    → answer_kept w effect ≡ Some answer
    → kept_answer (record { settings = s; world = after }) answer
    ≡ answer_of (record { settings = s; world = after }) (shows_added w effect)
