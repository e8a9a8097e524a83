-- What is kept of a numbered request, and the answer that is made of it again.
use Rattle.std.specs.Prelude.{ℕ, ℤ, List, [], ◌∷◌, ◌++◌, Option, Some, None, option_map, length, slice_get}
use Rattle.names_realms.specs.declared.pairs.Pair.{Pair}
use Rattle.names_realms.specs.declared.states.State.TheVariants.{Active}
use Rattle.invocations.specs.declared.invocation.Invocation.{Invocation}
use Rattle.kept_replies.specs.declared.reply.KeptAnswer.{KeptAnswer}
use Rattle.kept_replies.specs.declared.reply.KeptAnswer.TheVariants.{Created, Results, Exonerations, Artifacts}
use Rattle.kept_replies.specs.declared.reply.KeptReply.{KeptReply}
use Rattle.call_forms.specs.declared.asked.Asked.{Asked}
use Rattle.call_forms.specs.declared.forms.Answer.{Answer}
use Rattle.request_rules.specs.MessageForms.declared.replies.Reply.{Reply}
use Rattle.request_rules.specs.MessageForms.declared.replies.Reply.TheVariants as reply
use Rattle.request_rules.specs.RequestDemands.Demands.{Demand}
use Rattle.request_rules.specs.RequestDemands.Settings.{Settings}
use Rattle.request_rules.specs.RequestDemands.Numbered.{digest_of}
use Rattle.service_effects.specs.declared.effect.Effect.{Effect}
use Rattle.service_effects.specs.declared.effect.Effect.TheVariants as does
use Rattle.request_effects.specs.declared.keeping.Numbered.{Numbered}
use Rattle.request_effects.specs.declared.shows.Shows.TheVariants as shows
use Rattle.service_effects.specs.Service.{Recorded}
use Rattle.request_effects.specs.Shows.{Scene, answer_of, done, shown_with, token_at}

-- what is kept of the answer to a request that has this effect, by the places in the world before
-- it, an effect a row: what no later effect changes, and what the request gave
abbrev pub answer_kept : Recorded → Effect → Option KeptAnswer
answer_kept w does.Nothing = None
answer_kept w (does.Add row) = Some (Created (length w.rows.invocations) row.deadline row.tags)
answer_kept w (does.Update place deadline tags) = None
answer_kept w (does.End place) = None
answer_kept w (does.Include plan) = None
answer_kept w (does.Results batch) = Some (Results (length w.results) (length batch))
answer_kept w (does.Exonerations batch) =
    Some (Exonerations (length w.exonerations) (length batch))
answer_kept w (does.Artifacts batch) = Some (Artifacts (length w.artifacts) (length batch.rows))

-- the number of a request, with its digest
abbrev pub numbered_of : Asked → Demand → Option Numbered
numbered_of asked d =
    option_map (λ number. record { number = number; digest = digest_of asked }) d.number

-- what is kept of a numbered request of a caller of this name, if anything is
abbrev pub kept_of : Recorded → List ℕ → Option Numbered → Effect → Option KeptReply
kept_of w name None effect = None
kept_of w name (Some numbered) effect =
    option_map (λ answer. record {
      caller = name;
      number = numbered.number;
      digest = numbered.digest;
      answer = answer;
    }) (answer_kept w effect)

-- the kept replies, with this one more
abbrev pub with_kept : List KeptReply → Option KeptReply → List KeptReply
with_kept kept None = kept
with_kept kept (Some reply) = kept ++ reply ∷ []

-- an invocation as it was made, with this deadline and these tags
abbrev pub as_made : ℤ → List Pair → Invocation → Invocation
as_made deadline tags row = record row {
  deadline = deadline;
  started = None;
  finished = None;
  state = Active;
  tags = tags;
}

abbrev pub made_reply : ℤ → List Pair → Option Invocation → Reply
made_reply deadline tags None = reply.Empty
made_reply deadline tags (Some row) =
    reply.Invocation (shown_with (as_made deadline tags row) [])

-- the answer that is made again: a new invocation includes nothing
abbrev pub made_answer : Settings → ℤ → List Pair → Option Invocation → Answer
made_answer s deadline tags found = done (token_at s found) (made_reply deadline tags found)

-- The answer to a repeat: recorded rows never change, and are shown as they stand.
abbrev pub kept_answer : Scene → KeptAnswer → Answer
kept_answer s (Created place deadline tags) =
    made_answer s.settings deadline tags (slice_get s.world.rows.invocations place)
kept_answer s (Results first count) = answer_of s (shows.Results first count)
kept_answer s (Exonerations first count) = answer_of s (shows.Exonerations first count)
kept_answer s (Artifacts first count) = answer_of s (shows.Artifacts first count)
