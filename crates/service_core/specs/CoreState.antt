-- What the core and its plans show of themselves.
use Rattle.std.specs.Prelude.{◌≡◌, ◌≤◌, ℕ, ◌+◌, Option, min}
use Rattle.kept_replies.specs.declared.reply.KeptReply.{KeptReply}
use Rattle.kept_replies.specs.Kept.{KeptState}
use Rattle.call_forms.specs.declared.forms.Answer.{Answer}
use Rattle.service_effects.specs.declared.tables.Tables.{Tables}
use Rattle.service_effects.specs.Service.{ServiceWorld}
use Rattle.service_effects.specs.States as tables
use Rattle.service_core.specs.declared.plan.Work.{Work}

-- A core: the parts of its world, each with its room, how many bytes the records take that made it,
-- and how many changes were made in it, counted as far as the count goes.
pub record CoreState : Type 0 where
  pub held : Tables
  pub keeps : KeptState
  pub stored : ℕ
  pub changes : ℕ

abbrev pub world_in : CoreState → ServiceWorld
world_in core = record {
  rows = core.held.world.world;
  results = core.held.results.rows;
  exonerations = core.held.exonerations.rows;
  artifacts = core.held.artifacts.rows;
  kept = core.keeps.kept;
  stored = core.stored;
}

-- one change more
abbrev pub more_changes : ℕ → ℕ
more_changes changes = min (changes + 1) 18_446_744_073_709_551_615

-- The world stays, no change was made, and there is room for no less.
pub record IsRoomier (before after : CoreState) : Type 0 where
  pub held : tables.IsRoomier before.held after.held
  pub kept : after.keeps.kept ≡ before.keeps.kept
  pub room : before.keeps.room ≤ after.keeps.room
  pub stored : after.stored ≡ before.stored
  pub changes : after.changes ≡ before.changes

-- A plan: what is to be done, what is to be kept, the answer that it gives, how many bytes its
-- record takes, and how many changes there were when it was made. The plan that carries out due
-- deadlines gives no answer.
pub record PlanState : Type 0 where
  pub work : Work
  pub keep : Option KeptReply
  pub answer : Option Answer
  pub length : ℕ
  pub made_at : ℕ
