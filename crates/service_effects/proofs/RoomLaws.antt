-- Worlds and tables with the same parts record the same, and what fits tables fits those with more
-- room.
use Rattle.std.proofs.Common.{◌≡◌, ◌<◌, ◌≤◌, ◌+◌, ℕ, ℤ, List, length, refl, sym, ap, ◌∙◌, subst, arith}
use Rattle.artifacts.specs.declared.artifact.Artifact.{Artifact}
use Rattle.artifacts.specs.Batches as artifacts
use Rattle.invocation_world.specs.World.{World}
use Rattle.kept_replies.specs.declared.reply.KeptReply.{KeptReply}
use Rattle.test_results.specs.declared.exoneration.TestExoneration.{TestExoneration}
use Rattle.test_results.specs.declared.result.TestResult.{TestResult}
use Rattle.test_results.specs.Batches as results
use Rattle.test_results.specs.Exonerations as exonerations
use Rattle.service_effects.specs.declared.effect.Effect.{Effect}
use Rattle.service_effects.specs.declared.effect.Effect.TheVariants as does
use Rattle.service_effects.specs.declared.tables.Tables.{Tables}
use Rattle.service_effects.specs.Fitting.{Fits, HasRoom, IsTimely, Suits}
use Rattle.service_effects.specs.Service.{Recorded, ServiceWorld}
use Rattle.service_effects.specs.States.{IsRoomier, recorded_in}

-- worlds with the same parts
abbrev world_with : World → List TestResult → List TestExoneration → List Artifact → List KeptReply → ℕ → ServiceWorld
world_with rows results exonerations artifacts kept stored = record {
  rows = rows;
  results = results;
  exonerations = exonerations;
  artifacts = artifacts;
  kept = kept;
  stored = stored;
}

pub same_parts : (v x : ServiceWorld) → v.rows ≡ x.rows → v.results ≡ x.results → v.exonerations ≡ x.exonerations
    → v.artifacts ≡ x.artifacts → v.kept ≡ x.kept → v.stored ≡ x.stored → v ≡ x
same_parts v x rows results exonerations artifacts kept stored =
    ap (λ (p : World). world_with p v.results v.exonerations v.artifacts v.kept v.stored) rows
    ∙ (ap (λ (p : List TestResult). world_with x.rows p v.exonerations v.artifacts v.kept v.stored) results
    ∙ (ap (λ (p : List TestExoneration). world_with x.rows x.results p v.artifacts v.kept v.stored) exonerations
    ∙ (ap (λ (p : List Artifact). world_with x.rows x.results x.exonerations p v.kept v.stored) artifacts
    ∙ (ap (λ (p : List KeptReply). world_with x.rows x.results x.exonerations x.artifacts p v.stored) kept
    ∙ ap (world_with x.rows x.results x.exonerations x.artifacts x.kept) stored))))

-- tables have the room that they have
pub roomier_tables : (t : Tables) → IsRoomier t t
roomier_tables t = record {
  world = record { world = refl; room = record { rows = omega arith; inclusions = omega arith } };
  results = refl;
  room_of_results = λ holder. omega arith;
  exonerations = refl;
  room_of_exonerations = λ holder. omega arith;
  artifacts = refl;
  room_of_artifacts = λ holder. omega arith;
}

-- tables with another room record the same
pub same_recorded : (old new : Tables) → IsRoomier old new → recorded_in new ≡ recorded_in old
same_recorded old new roomier =
    let Of : World → List TestResult → List TestExoneration → List Artifact → Recorded =
    λ a b c d. record { rows = a; results = b; exonerations = c; artifacts = d } in
    ap (λ (a : World). Of a new.results.rows new.exonerations.rows new.artifacts.rows) roomier.world.world
    ∙ (ap (λ (b : List TestResult). Of old.world.world b new.exonerations.rows new.artifacts.rows) roomier.results
    ∙ (ap (λ (c : List TestExoneration). Of old.world.world old.results.rows c new.artifacts.rows) roomier.exonerations
    ∙ ap (Of old.world.world old.results.rows old.exonerations.rows) roomier.artifacts))

more_room : (old new : Tables) (effect : Effect) → IsRoomier old new → HasRoom old effect → HasRoom new effect
more_room old new does.Nothing roomier h = tt
more_room old new (does.Add row) roomier h =
    let has = h.1 in
    let more = roomier.world.room.rows in
    (subst (λ (w : World). length w.invocations < 65_536) (sym roomier.world.world) h.0, omega (arith, has, more))
more_room old new (does.Update place deadline tags) roomier h = tt
more_room old new (does.End place) roomier h = tt
more_room old new (does.Include plan) roomier h =
    let has = h.1 in
    let more = roomier.world.room.inclusions in
    (subst (λ (w : World). length w.inclusions + length plan.targets ≤ 262_144) (sym roomier.world.world) h.0, omega (arith, has, more))
more_room old new (does.Results batch) roomier h =
    let has = h.room in
    let more = roomier.room_of_results h.holder in
    record {
      holder = h.holder;
      held = h.held;
      can = subst (λ (rows : List TestResult). results.CanAdd rows h.holder batch) (sym roomier.results) h.can;
      room = omega (arith, has, more);
    }
more_room old new (does.Exonerations batch) roomier h =
    let has = h.room in
    let more = roomier.room_of_exonerations h.holder in
    record {
      holder = h.holder;
      asked = h.asked;
      placed = subst
          (λ (rows : List TestExoneration). batch ≡ exonerations.given h.holder (length (exonerations.places_in rows h.holder)) h.asked)
          (sym roomier.exonerations) h.placed;
      can = subst (λ (rows : List TestExoneration). exonerations.CanAdd rows h.holder (length batch)) (sym roomier.exonerations) h.can;
      room = omega (arith, has, more);
    }
more_room old new (does.Artifacts batch) roomier h =
    let has = h.0.room in
    let more = roomier.room_of_artifacts h.0.holder in (
      record {
        holder = h.0.holder;
        held = h.0.held;
        hashed = h.0.hashed;
        can = subst (λ (rows : List Artifact). artifacts.CanAdd rows h.0.holder batch.rows) (sym roomier.artifacts) h.0.can;
        room = omega (arith, has, more);
      },
      h.1,
    )

pub fits_more : (old new : Tables) (moment : ℤ) (effect : Effect) → IsRoomier old new → Fits old moment effect
    → Fits new moment effect
fits_more old new moment effect roomier fits = record {
  timely = subst (λ (w : World). IsTimely w moment) (sym roomier.world.world) fits.timely;
  suits = subst (λ (w : World). Suits w moment effect) (sym roomier.world.world) fits.suits;
  room = more_room old new effect roomier fits.room;
}
