-- What is kept of numbered requests stays, each for its number alone, and stands for rows that are there.
use Rattle.std.proofs.Common.{◌≡◌, ◌≢◌, ◌<◌, ℕ, ℤ, List, [], ◌∷◌, ◌++◌, length, map, take, Option, Some, None, refl, sym, ap, ◌∙◌, subst, arith, length-append}
use Rattle.std.specs.List.{All}
use Rattle.std.proofs.Math.Seq.{drop-append_seam}
use Rattle.std.proofs.lemmas.List.{length-map, map-append, take_all}
use Rattle.std.proofs.lemmas.List.Elements.{All-append, All-cons, All-nil, All-weaker}
use Rattle.std.proofs.lemmas.Option.{none-some, same_Some, slice_get_within}
use Rattle.artifacts.specs.declared.artifact.Artifact.{Artifact}
use Rattle.artifacts.specs.Artifacts as artifacts
use Rattle.invocations.proofs.RowLemmas.{at_end}
use Rattle.kept_replies.specs.declared.reply.KeptAnswer.{KeptAnswer}
use Rattle.kept_replies.specs.declared.reply.KeptAnswer.TheVariants.{Created, Results, Exonerations, Artifacts}
use Rattle.kept_replies.specs.declared.reply.KeptReply.{KeptReply}
use Rattle.kept_replies.specs.Kept.{IsAlone}
use Rattle.kept_replies.proofs.KeptLemmas.{alone_more}
use Rattle.call_forms.specs.declared.asked.Asked.{Asked}
use Rattle.call_forms.specs.declared.forms.Answer.{Answer}
use Rattle.test_results.specs.declared.exoneration.TestExoneration.{TestExoneration}
use Rattle.test_results.specs.declared.result.TestResult.{TestResult}
use Rattle.test_results.specs.Exonerations as exonerations
use Rattle.test_results.specs.Results as results
use Rattle.service_core.specs.RequestDemands.Settings.{HasNames, Settings, caller_name}
use Rattle.service_effects.specs.declared.effect.Effect.{Effect}
use Rattle.service_effects.specs.declared.effect.Effect.TheVariants as does
use Rattle.service_effects.specs.Effects.{Makes}
use Rattle.service_effects.specs.Fitting.{IsTimely, Suits, holder_in}
use Rattle.service_core.specs.RequestEffects.Keeps.{answer_kept, with_kept}
use Rattle.service_core.proofs.RequestEffects.KeepLaws.{kept_is}
use Rattle.service_effects.specs.Service.{Recorded, ServiceWorld, recorded}
use Rattle.service_core.specs.RequestEffects.Shows.{part_of}
use Rattle.service_laws.specs.Validity.{AreOneBatch, StandsIn}
use Rattle.service_core.specs.Step.{IsTold, Performs, effect_for, keep_for, performed, refused, repeated}
use Rattle.service_core.proofs.ClearedLaws.{accepted_suits, kept_free}
use Rattle.service_laws.proofs.StayLaws.{settled_stay, still_within}
use Rattle.service_laws.proofs.TableLaws.{Grows, Lasts, made_lasts, part_stays}

-- each reply is alone, and the rows stand of which its answer is made again
pub record IsKeptWell (w : Recorded) (kept : List KeptReply) : Type 0 where
  pub alone : IsAlone kept
  pub stand : All (λ reply. StandsIn w reply.answer) kept

batch_stays : (old new : List ℕ) (first count : ℕ) → Grows old new → AreOneBatch old first count → AreOneBatch new first count
batch_stays old new first count grows is =
    let lengths : length new ≡ length (old ++ grows.0) = ap (λ (xs : List ℕ). length xs) grows.1 in
    record {
      some = is.some;
      there = omega (arith, is.there, lengths, length-append old grows.0);
      one = subst (λ (part : List ℕ). All (λ (h : ℕ). h ≡ holder_in part) part) (sym (part_stays old new first count grows is.there)) is.one;
    }

map_grows : {A : Type 0} (holder : A → ℕ) (old new : List A) → Grows old new → Grows (map holder old) (map holder new)
map_grows {A} holder old new grows = (map holder grows.0, ap (map holder) grows.1 ∙ map-append holder old grows.0)

answer_stays : (old new : Recorded) (answer : KeptAnswer) → Lasts old new → StandsIn old answer → StandsIn new answer
answer_stays old new (Created place deadline tags) lasts stands =
    still_within old.rows.invocations new.rows.invocations place lasts.rows stands
answer_stays old new (Results first count) lasts stands =
    batch_stays (results.holders_of old.results) (results.holders_of new.results) first count
    (map_grows (λ (r : TestResult). r.holder) old.results new.results lasts.results) stands
answer_stays old new (Exonerations first count) lasts stands =
    batch_stays (exonerations.holders_of old.exonerations) (exonerations.holders_of new.exonerations) first count
    (map_grows (λ (r : TestExoneration). r.holder) old.exonerations new.exonerations lasts.exonerations) stands
answer_stays old new (Artifacts first count) lasts stands =
    batch_stays (artifacts.holders_of old.artifacts) (artifacts.holders_of new.artifacts) first count
    (map_grows (λ (r : Artifact). r.holder) old.artifacts new.artifacts lasts.artifacts) stands

pub well_later : (old new : Recorded) (kept : List KeptReply) → Lasts old new → IsKeptWell old kept → IsKeptWell new kept
well_later old new kept lasts well = record {
  alone = well.alone;
  stand = All-weaker (λ (r : KeptReply). StandsIn old r.answer) (λ (r : KeptReply). StandsIn new r.answer)
      (λ r stands. answer_stays old new r.answer lasts stands) kept well.stand;
}

-- a batch that comes in is one
some_more : (xs : List ℕ) → xs ≢ [] → 0 < length xs
some_more [] some = absurd (some refl)
some_more (x ∷ xs) some = omega arith

batch_in : (held more : List ℕ) → more ≢ [] → All (λ (h : ℕ). h ≡ holder_in more) more → AreOneBatch (held ++ more) (length held) (length more)
batch_in held more some one =
    let part : part_of (length held) (length more) (held ++ more) ≡ more =
    ap (take (length more)) (drop-append_seam held more) ∙ take_all (length more) more (omega arith) in
    record {
      some = some_more more some;
      there = omega (arith, length-append held more);
      one = subst (λ (xs : List ℕ). All (λ (h : ℕ). h ≡ holder_in xs) xs) (sym part) one;
    }

batch_comes : {A : Type 0} (holder : A → ℕ) (rows batch after : List A) → after ≡ rows ++ batch → map holder batch ≢ []
    → All (λ (h : ℕ). h ≡ holder_in (map holder batch)) (map holder batch) → AreOneBatch (map holder after) (length rows) (length batch)
batch_comes {A} holder rows batch after is some one =
    let holders : map holder after ≡ map holder rows ++ map holder batch = ap (map holder) is ∙ map-append holder rows batch in
    let there = batch_in (map holder rows) (map holder batch) some one in
    subst (λ (hs : List ℕ). AreOneBatch hs (length rows) (length batch)) (sym holders)
    (subst (λ (n : ℕ). AreOneBatch (map holder rows ++ map holder batch) n (length batch)) (length-map rows holder)
    (subst (λ (n : ℕ). AreOneBatch (map holder rows ++ map holder batch) (length (map holder rows)) n) (length-map batch holder) there))

-- what is kept of an effect stands after it
answer_stands : (w after : Recorded) (moment : ℤ) (effect : Effect) (answer : KeptAnswer) → Suits w.rows moment effect
    → answer_kept w effect ≡ Some answer → Makes moment effect w after → StandsIn after answer
answer_stands w after moment does.Nothing answer may is made = absurd (none-some answer is)
answer_stands w after moment (does.Add row) answer may is made =
    let kept : Created (length w.rows.invocations) row.deadline row.tags ≡ answer =
    same_Some (Created (length w.rows.invocations) row.deadline row.tags) answer is in
    let later = settled_stay moment w.rows.inclusions (w.rows.invocations ++ row ∷ []) after.rows.invocations made.rows.rows
    (length w.rows.invocations) row (at_end w.rows.invocations row) in
    subst (StandsIn after) kept (slice_get_within after.rows.invocations (length w.rows.invocations) later.0 later.1)
answer_stands w after moment (does.Update place deadline tags) answer may is made = absurd (none-some answer is)
answer_stands w after moment (does.End place) answer may is made = absurd (none-some answer is)
answer_stands w after moment (does.Include plan) answer may is made = absurd (none-some answer is)
answer_stands w after moment (does.Results batch) answer may is made =
    subst (StandsIn after) (same_Some (Results (length w.results) (length batch)) answer is)
    (batch_comes (λ (r : TestResult). r.holder) w.results batch after.results made.results may.some may.one)
answer_stands w after moment (does.Exonerations batch) answer may is made =
    subst (StandsIn after) (same_Some (Exonerations (length w.exonerations) (length batch)) answer is)
    (batch_comes (λ (r : TestExoneration). r.holder) w.exonerations batch after.exonerations made.exonerations may.some may.one)
answer_stands w after moment (does.Artifacts batch) answer may is made =
    subst (StandsIn after) (same_Some (Artifacts (length w.artifacts) (length batch.rows)) answer is)
    (batch_comes (λ (r : Artifact). r.holder) w.artifacts batch.rows after.artifacts made.artifacts may.batch.some may.batch.one)

kept_more : (s : Settings) (w : ServiceWorld) (moment : ℤ) (asked : Asked) (after : ServiceWorld) (answer : Answer)
    (p : Performs s w moment asked after answer) (keep : Option KeptReply) → Suits w.rows moment (effect_for s w moment p.caller p.request)
    → keep_for s w moment asked p.caller p.request ≡ keep → IsKeptWell (recorded after) w.kept → IsKeptWell (recorded after) (with_kept w.kept keep)
kept_more s w moment asked after answer p None may is well = well
kept_more s w moment asked after answer p (Some reply) may is well =
    let effect = effect_for s w moment p.caller p.request in
    let free = kept_free s w moment asked p.caller p.request reply (record { new = p.accepted.new; judged = p.accepted.judged }) is in
    let k = kept_is (recorded w) (caller_name s p.caller) _ effect reply is in
    let Stands : KeptReply → Type 0 = λ r. StandsIn (recorded after) r.answer in
    record {
      alone = alone_more w.kept reply well.alone free.1;
      stand = All-append Stands w.kept (reply ∷ []) well.stand
          (All-cons Stands reply [] (answer_stands (recorded w) (recorded after) moment effect reply.answer may k.answer p.acts.made) (All-nil Stands));
    }

pub told_well : (s : Settings) (w : ServiceWorld) (moment : ℤ) (asked : Asked) (after : ServiceWorld) (answer : Answer) → HasNames s
    → IsTimely w.rows moment → IsTold s w moment asked after answer → IsKeptWell (recorded w) w.kept → IsKeptWell (recorded after) after.kept
told_well s w moment asked after answer names timely (refused r) well =
    subst (λ (v : ServiceWorld). IsKeptWell (recorded v) v.kept) (sym r.same) well
told_well s w moment asked after answer names timely (repeated r) well =
    subst (λ (v : ServiceWorld). IsKeptWell (recorded v) v.kept) (sym r.same) well
told_well s w moment asked after answer names timely (performed p) well =
    subst (IsKeptWell (recorded after)) (sym p.acts.kept)
    (kept_more s w moment asked after answer p (keep_for s w moment asked p.caller p.request)
    (accepted_suits s w moment asked p.caller p.request names timely p.accepted) refl
    (well_later (recorded w) (recorded after) w.kept
    (made_lasts (recorded w) moment (effect_for s w moment p.caller p.request) (recorded after) p.acts.made) well))
