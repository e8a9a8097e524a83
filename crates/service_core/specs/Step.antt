-- What the service does with one request.
use Rattle.std.specs.Prelude.{◌≡◌, ◌⊎◌, ℕ, ◌+◌, ℤ, pos, Option, Some, None}
use Rattle.std.specs.Int.{int_min, int_max}
use Rattle.kept_replies.specs.declared.reply.KeptReply.{KeptReply}
use Rattle.call_forms.specs.declared.asked.Asked.{Asked}
use Rattle.call_forms.specs.declared.forms.Answer.{Answer}
use Rattle.call_forms.specs.declared.forms.Refusal.{Refusal}
use Rattle.call_forms.specs.Rules.{refusal_answer}
use Rattle.request_effects.specs.MessageForms.declared.requests.Request.{Request}
use Rattle.invocation_world.specs.World.{latest_call}
use Rattle.request_effects.specs.RequestDemands.Settings.{Settings, caller_name}
use Rattle.request_effects.specs.RequestDemands.Demands.{demand_of}
use Rattle.request_effects.specs.RequestDemands.Order.{IsUnbroken, Judges}
use Rattle.request_effects.specs.RequestRules.Broken.{Case, IsBroken, IsRepeat, order}
use Rattle.request_effects.specs.RequestDemands.Alone.{IsRefusedAlone, Wants}
use Rattle.request_effects.specs.RequestDemands.Understood.{length_for}
use Rattle.service_effects.specs.declared.effect.Effect.{Effect}
use Rattle.service_effects.specs.Effects.{Makes}
use Rattle.request_effects.specs.Effects.{effect_of}
use Rattle.request_effects.specs.Places.{held_in}
use Rattle.request_effects.specs.Keeps.{kept_answer, kept_of, numbered_of, with_kept}
use Rattle.service_effects.specs.Refused.{EffectRefused}
use Rattle.service_effects.specs.Service.{ServiceWorld, recorded}
use Rattle.service_effects.specs.Storing.{DoingRefused, IsStorable, bytes_of}
use Rattle.request_effects.specs.Answers.{Answers}
use Rattle.request_effects.specs.Shows.{Scene, shows_of}
use Rattle.service_core.specs.Service.{CatchesUp}

-- The moment of a call: what the clock says, brought into 1970-01-01T00:00:00Z to
-- 9999-01-01T00:00:00Z, and no earlier than the last change.
abbrev pub moment_of : ℤ → ℤ → ℤ
moment_of last now = int_max last (int_max (pos 0) (int_min now latest_call))

-- what rules look at in a world, at a moment, of what a caller asked
abbrev pub case_in : Settings → ServiceWorld → ℤ → Asked → ℕ → Case
case_in s w moment asked caller = record {
  settings = s;
  rows = w.rows.invocations;
  held = held_in (recorded w);
  kept = w.kept;
  moment = moment;
  asked = asked;
  caller = caller;
}

-- What a caller wants was accepted before, under its number, and this is kept of it.
abbrev pub IsRepeated : Settings → ServiceWorld → ℤ → Asked → ℕ → Request → KeptReply → Type 0
IsRepeated s w moment asked caller request reply =
    IsRepeat (case_in s w moment asked caller) (demand_of request) reply

-- Nothing is.
abbrev pub IsFresh : Settings → ServiceWorld → ℤ → Asked → ℕ → Request → Type 0
IsFresh s w moment asked caller request =
    (reply : KeptReply) → ¬ IsRepeated s w moment asked caller request reply

-- what the rules for what is demanded say of what a caller wants: the first that is broken, if any
abbrev pub IsJudgedAs : Settings → ServiceWorld → ℤ → Asked → ℕ → Request → Option Refusal
    → Type 0
IsJudgedAs s w moment asked caller request found =
    Judges (IsBroken (case_in s w moment asked caller) (demand_of request)) order found

-- what a request does by the name of its caller
abbrev pub effect_for : Settings → ServiceWorld → ℤ → ℕ → Request → Effect
effect_for s w moment caller request =
    effect_of (recorded w) moment (caller_name s caller) request

-- what is kept of it, if anything is
abbrev pub keep_for : Settings → ServiceWorld → ℤ → Asked → ℕ → Request → Option KeptReply
keep_for s w moment asked caller request =
    kept_of (recorded w) (caller_name s caller) (numbered_of asked (demand_of request))
    (effect_for s w moment caller request)

-- how many bytes its record takes
abbrev pub bytes_for : Settings → ServiceWorld → ℤ → Asked → ℕ → Request → ℕ
bytes_for s w moment asked caller request =
    bytes_of (effect_for s w moment caller request) (length_for s asked caller)

-- What a caller wants is refused: by the first rule that it breaks of those for what is demanded,
-- and where it breaks none, by the first of those for what it does: a batch that can't come in, a
-- table that is full, or a journal that is.
abbrev pub IsRefusedOf : Settings → ServiceWorld → ℤ → Asked → ℕ → Request → Refusal → Type 0
IsRefusedOf s w moment asked caller request r =
    IsJudgedAs s w moment asked caller request (Some r)
    ⊎ (IsJudgedAs s w moment asked caller request None
    × DoingRefused (recorded w) w.stored (effect_for s w moment caller request)
    (bytes_for s w moment asked caller request) r)

-- This caller asks for this, and it is no repeat, of which no further rule is asked.
pub record IsNew (s : Settings) (w : ServiceWorld) (moment : ℤ) (asked : Asked) (caller : ℕ)
    (request : Request) : Type 0 where
  pub wants : Wants s asked caller request
  pub fresh : IsFresh s w moment asked caller request

-- A request is refused by the first rule that it breaks by itself; or else a caller wants something
-- new that is refused.
abbrev pub IsRefusal : Settings → ServiceWorld → ℤ → Asked → Refusal → Type 0
IsRefusal s w moment asked r =
    IsRefusedAlone s asked r
    ⊎ ((caller : ℕ) × (request : Request) × IsNew s w moment asked caller request
    × IsRefusedOf s w moment asked caller request r)

-- This caller asks for this, it is no repeat, and it breaks no rule.
pub record IsAccepted (s : Settings) (w : ServiceWorld) (moment : ℤ) (asked : Asked)
    (caller : ℕ) (request : Request) : Type 0 where
  pub new : IsNew s w moment asked caller request
  pub judged : IsJudgedAs s w moment asked caller request None
  pub room : IsUnbroken
      (EffectRefused (recorded w) (effect_for s w moment caller request))
  pub store : IsStorable w.stored (bytes_for s w moment asked caller request)

-- An accepted request is acted on: what it does is done, what is kept of it stands behind what was
-- kept before, and its record takes its bytes.
pub record Acts (s : Settings) (w : ServiceWorld) (moment : ℤ) (asked : Asked) (caller : ℕ)
    (request : Request) (after : ServiceWorld) : Type 0 where
  pub made : Makes moment (effect_for s w moment caller request) (recorded w)
      (recorded after)
  pub kept : after.kept ≡ with_kept w.kept (keep_for s w moment asked caller request)
  pub stored : after.stored ≡ w.stored + bytes_for s w moment asked caller request

-- where the reply to a request is shown
abbrev pub scene_of : Settings → ServiceWorld → Scene
scene_of s w = record { settings = s; world = recorded w }

-- A refused request changes nothing.
pub record Refuses (s : Settings) (w : ServiceWorld) (moment : ℤ) (asked : Asked)
    (after : ServiceWorld) (answer : Answer) : Type 0 where
  pub refusal : Refusal
  pub is_refusal : IsRefusal s w moment asked refusal
  pub same : after ≡ w
  pub answer_is : answer ≡ refusal_answer refusal

-- A repeat changes nothing, and its answer is made again of what was kept.
pub record Repeats (s : Settings) (w : ServiceWorld) (moment : ℤ) (asked : Asked)
    (after : ServiceWorld) (answer : Answer) : Type 0 where
  pub caller : ℕ
  pub request : Request
  pub wants : Wants s asked caller request
  pub reply : KeptReply
  pub repeated : IsRepeated s w moment asked caller request reply
  pub same : after ≡ w
  pub answer_is : answer ≡ kept_answer (scene_of s w) reply.answer

-- An accepted request is acted on, and answered: what it shows is shown to its caller, of the world
-- that it leaves.
pub record Performs (s : Settings) (w : ServiceWorld) (moment : ℤ) (asked : Asked)
    (after : ServiceWorld) (answer : Answer) : Type 0 where
  pub caller : ℕ
  pub request : Request
  pub accepted : IsAccepted s w moment asked caller request
  pub acts : Acts s w moment asked caller request after
  pub answers : Answers (scene_of s after) caller (shows_of (recorded w) request) answer

-- The three cases of a request at a moment at which nothing is due.
pub data IsTold (s : Settings) (w : ServiceWorld) (moment : ℤ) (asked : Asked)
    (after : ServiceWorld) (answer : Answer) : Type 0 where
  refused : Refuses s w moment asked after answer → IsTold s w moment asked after answer
  repeated : Repeats s w moment asked after answer → IsTold s w moment asked after answer
  performed : Performs s w moment asked after answer → IsTold s w moment asked after answer

-- At this moment this request leads from the world w to the world after, with this answer: first
-- due deadlines are carried out, and then the request is judged in the world between.
pub record Step (s : Settings) (w : ServiceWorld) (moment : ℤ) (asked : Asked)
    (after : ServiceWorld) (answer : Answer) : Type 0 where
  pub between : ServiceWorld
  pub advances : CatchesUp w moment between
  pub judged : IsTold s between moment asked after answer
