-- Each numbered request acts once.
use Rattle.std.proofs.Common.{◌≡◌, ◌≢◌, ◌⊎◌, ◌<◌, ℕ, zero, suc, ℤ, List, [], ◌∷◌, ◌++◌, length, drop, Option, Some, None, option_map, refl, sym, ap, ◌∙◌, subst, inl, inr, arith, append_assoc, append-nil}
use Rattle.std.specs.List.{All}
use Rattle.std.proofs.lemmas.List.{length-map}
use Rattle.std.specs.Prelude.{Contains, slice_get}
use Rattle.std.proofs.lemmas.List.Elements.{All-contains, All-drop, All-head, All-take}
use Rattle.std.proofs.lemmas.Option.{none-some, same_Some, slice_get-get_or}
use Rattle.artifacts.specs.declared.artifact.Artifact.{Artifact}
use Rattle.artifacts.specs.declared.new_artifact.NewArtifact.{NewArtifact}
use Rattle.artifacts.specs.Batches as files
use Rattle.artifacts.specs.Orders.{invocation_of}
use Rattle.artifacts.specs.Requests.{artifact_of, digested}
use Rattle.names_realms.specs.declared.pairs.Pair.{Pair}
use Rattle.invocations.specs.declared.invocation.Invocation.{Invocation}
use Rattle.test_results.specs.declared.exoneration.TestExoneration.{TestExoneration}
use Rattle.test_results.specs.declared.result.TestResult.{TestResult}
use Rattle.test_results.specs.Batches as results
use Rattle.test_results.specs.Exonerations as exonerations
use Rattle.kept_replies.specs.declared.reply.KeptAnswer.{KeptAnswer}
use Rattle.kept_replies.specs.declared.reply.KeptAnswer.TheVariants.{Created, Results, Exonerations, Artifacts}
use Rattle.kept_replies.specs.declared.reply.KeptReply.{KeptReply}
use Rattle.kept_replies.specs.Kept.{IsAlone}
use Rattle.kept_replies.proofs.FirstLemmas.{place_is}
use Rattle.call_forms.specs.declared.asked.Asked.{Asked}
use Rattle.call_forms.specs.declared.forms.Answer.{Answer}
use Rattle.call_forms.specs.declared.forms.Refusal.{Refusal}
use Rattle.call_forms.specs.declared.forms.Standin.TheVariants.{Unavailable, Memory, Spent}
use Rattle.call_forms.specs.declared.forms.Told.{Told}
use Rattle.call_forms.specs.declared.forms.Told.TheVariants.{Made, Standin as Instead}
use Rattle.service_core.specs.MessageForms.declared.requests.Request.{Request}
use Rattle.service_core.specs.MessageForms.declared.requests.Request.TheVariants as asks
use Rattle.service_core.specs.RequestDemands.Settings.{Settings, caller_name}
use Rattle.service_core.specs.RequestDemands.Demands.{Demand, demand_of, of_artifacts}
use Rattle.service_core.specs.RequestDemands.Numbered.{digest_of, kept_for}
use Rattle.service_core.specs.RequestRules.Broken.{IsAbsent, NotFound, Sought, invocation_with, of_invocation, sought}
use Rattle.service_core.specs.RequestDemands.Alone.{Wants}
use Rattle.service_core.specs.RequestRules.Held.{Held}
use Rattle.service_core.specs.RequestRules.Named.{place_named}
use Rattle.service_core.specs.MessageForms.Forms.{IsOfForm}
use Rattle.service_core.proofs.MessageForms.FormLaws.{asked_is_of_form}
use Rattle.service_core.specs.RequestDemands.Order.{FirstOf, IsUnbroken}
use Rattle.service_core.proofs.RequestDemands.NumberLaws.{kept_there}
use Rattle.service_core.proofs.RequestRules.ReuseLaws.{found_digest}
use Rattle.service_core.proofs.RequestDemands.ReadLaws.{wanted_alone}
use Rattle.service_core.proofs.RequestDemands.AloneFacts.{one_caller, one_request}
use Rattle.service_effects.specs.declared.effect.Effect.{Effect}
use Rattle.service_core.specs.RequestEffects.declared.shows.Showing.{Showing}
use Rattle.service_core.specs.RequestEffects.declared.shows.Showing.TheVariants.{Alike}
use Rattle.service_core.specs.RequestEffects.Answers.{Answers}
use Rattle.service_core.specs.RequestEffects.Effects.{artifacts_at, effect_of, exonerations_at, place_of_batch, results_at}
use Rattle.service_core.specs.RequestEffects.Places.{held_in}
use Rattle.service_core.specs.RequestEffects.Laws.{shows_added}
use Rattle.service_effects.specs.Service.{IsSound, Recorded, ServiceWorld, recorded}
use Rattle.service_core.specs.RequestEffects.Keeps.{answer_kept, as_made, kept_answer, kept_of, made_answer, numbered_of, with_kept}
use Rattle.service_core.specs.RequestEffects.Shows.{artifacts_reply, done, exonerations_reply, exonerations_shown, part_of, results_reply, results_shown, shown_with, shows_artifacts, shows_exonerations, shows_of, shows_results}
use Rattle.service_core.specs.MessageForms.declared.replies.Reply.TheVariants as reply
use Rattle.service_core.specs.RequestDemands.Understood.{token_for}
use Rattle.service_core.specs.RequestEffects.declared.keeping.Numbered.{Numbered}
use Rattle.service_core.specs.RequestEffects.declared.shows.Shows.TheVariants as shows
use Rattle.service_core.proofs.RequestEffects.KeepLaws.{kept_is_first}
use Rattle.service_core.specs.Service.{CatchesUp}
use Rattle.service_laws.specs.Validity.{StandsIn}
use Rattle.service_core.specs.Step.{IsRefusal, IsRepeated, IsTold, Performs, effect_for, keep_for, performed, refused, repeated, scene_of}
use Rattle.service_core.specs.History.{DoesNoMore, Entry, Tells}
use Rattle.service_laws.specs.Laws.{FirstIsKept, IsSameInvocation, KeptStays, NumbersActOnce}
use Rattle.service_core.proofs.ClearedLaws.{accepted_found, accepted_suits, unused}
use Rattle.service_laws.proofs.ValidLaws.{legal_keeps_valid}
use Rattle.service_core.proofs.RequestEffects.FitLaws.{length_given}
use Rattle.service_laws.proofs.StayLaws.{AllStay, same_id, there_at}
use Rattle.service_laws.proofs.TableLaws.{Lasts, due_lasts, lasts_both, legal_lasts, part_stays}
use Rattle.service_laws.proofs.StepLaws.{never_repeated}

-- ---- what is kept stays

kept_with : (kept : List KeptReply) (keep : Option KeptReply) → (more : List KeptReply) × (with_kept kept keep ≡ kept ++ more)
kept_with kept None = ([], sym (append-nil kept))
kept_with kept (Some reply) = (reply ∷ [], refl)

told_keeps : (s : Settings) (w : ServiceWorld) (moment : ℤ) (asked : Asked) (after : ServiceWorld) (answer : Answer)
    → IsTold s w moment asked after answer → (more : List KeptReply) × (after.kept ≡ w.kept ++ more)
told_keeps s w moment asked after answer (refused r) = ([], ap (λ (v : ServiceWorld). v.kept) r.same ∙ sym (append-nil w.kept))
told_keeps s w moment asked after answer (repeated r) = ([], ap (λ (v : ServiceWorld). v.kept) r.same ∙ sym (append-nil w.kept))
told_keeps s w moment asked after answer (performed p) =
    let more = kept_with w.kept (keep_for s w moment asked p.caller p.request) in
    (more.0, p.acts.kept ∙ more.1)

no_more_keeps : (w : ServiceWorld) (moment : ℤ) (after : ServiceWorld) → DoesNoMore w moment after
    → (more : List KeptReply) × (after.kept ≡ w.kept ++ more)
no_more_keeps w moment after (inl same) = ([], ap (λ (v : ServiceWorld). v.kept) same ∙ sym (append-nil w.kept))
no_more_keeps w moment after (inr due) = ([], due.kept ∙ sym (append-nil w.kept))

tells_keeps : (s : Settings) (w : ServiceWorld) (e : Entry) (told : Told) (after : ServiceWorld)
    → Tells s w e told after → (more : List KeptReply) × (after.kept ≡ w.kept ++ more)
tells_keeps s w e (Made answer) after step =
    let more = told_keeps s step.between e.moment e.asked after answer step.judged in
    (more.0, more.1 ∙ ap (λ (k : List KeptReply). k ++ more.0) step.advances.kept)
tells_keeps s w e (Instead Memory) after no_more = no_more_keeps w e.moment after no_more
tells_keeps s w e (Instead Unavailable) after told = no_more_keeps w e.moment after told.no_more
tells_keeps s w e (Instead Spent) after never = absurd never

pub kept_stays : KeptStays
kept_stays s w [] v end = ([], ap (λ (u : ServiceWorld). u.kept) end ∙ sym (append-nil w.kept))
kept_stays s w (e ∷ h) v legal =
    let first = tells_keeps s w e e.told legal.0 legal.1.tells in
    let rest = kept_stays s legal.0 h v legal.2 in
    (first.0 ++ rest.0, rest.1 ∙ (ap (λ (k : List KeptReply). k ++ rest.0) first.1 ∙ append_assoc w.kept first.0 rest.0))

-- ---- the answer stays

same_made : (deadline : ℤ) (tags : List Pair) (row later : Invocation) → IsSameInvocation row later
    → as_made deadline tags later ≡ as_made deadline tags row
same_made deadline tags row later same =
    let Made : List ℕ → List ℕ → List ℕ → ℤ → Invocation = λ id realm creator created.
    record (as_made deadline tags row) { id = id; realm = realm; creator = creator; created = created } in
    ap (λ (x : List ℕ). Made x later.realm later.creator later.created) same.id
    ∙ (ap (λ (x : List ℕ). Made row.id x later.creator later.created) same.realm
    ∙ (ap (λ (x : List ℕ). Made row.id row.realm x later.created) same.creator
    ∙ ap (Made row.id row.realm row.creator) same.created))

same_answer : (s : Settings) (deadline : ℤ) (tags : List Pair) (row later : Invocation) → IsSameInvocation row later
    → made_answer s deadline tags (Some later) ≡ made_answer s deadline tags (Some row)
same_answer s deadline tags row later same =
    ap (λ (id : List ℕ). done (Some (token_for s id)) (reply.Invocation (shown_with (as_made deadline tags later) []))) same.id
    ∙ ap (λ (r : Invocation). done (Some (token_for s row.id)) (reply.Invocation (shown_with r []))) (same_made deadline tags row later same)

results_last : (old new : List Invocation) (rows : List TestResult) → AllStay old new
    → All (λ (r : TestResult). r.holder < length old) rows → results_reply new rows ≡ results_reply old rows
results_last old new [] stay held = refl
results_last old new (row ∷ rows) stay held =
    ap (results_shown (row ∷ rows))
    (same_id old new row.holder stay (All-head (λ (r : TestResult). r.holder < length old) row rows held))

exonerations_last : (old new : List Invocation) (rows : List TestExoneration) → AllStay old new
    → All (λ (r : TestExoneration). r.holder < length old) rows → exonerations_reply new rows ≡ exonerations_reply old rows
exonerations_last old new [] stay held = refl
exonerations_last old new (row ∷ rows) stay held =
    ap (exonerations_shown (row ∷ rows))
    (same_id old new row.holder stay (All-head (λ (r : TestExoneration). r.holder < length old) row rows held))

all_part : {A : Type 0} (P : A → Type 0) (first count : ℕ) (rows : List A) → All P rows → All P (part_of first count rows)
all_part P first count rows all = All-take P count (drop first rows) (All-drop P first rows all)

answer_lasts : (s : Settings) (old new : ServiceWorld) (answer : KeptAnswer) → Lasts (recorded old) (recorded new) → IsSound (recorded old)
    → StandsIn (recorded old) answer → kept_answer (scene_of s new) answer ≡ kept_answer (scene_of s old) answer
answer_lasts s old new (Created place deadline tags) lasts sound stands =
    let row = there_at old.rows.invocations place stands in
    let later = lasts.rows place row.0 row.1 in
    ap (made_answer s deadline tags) later.1
    ∙ (same_answer s deadline tags row.0 later.0 later.2 ∙ ap (made_answer s deadline tags) (sym row.1))
answer_lasts s old new (Results first count) lasts sound stands =
    ap (done None)
    (ap (results_reply new.rows.invocations) (part_stays old.results new.results first count lasts.results
    (omega (arith, stands.there, length-map old.results (λ (r : TestResult). r.holder))))
    ∙ results_last old.rows.invocations new.rows.invocations (part_of first count old.results) lasts.rows
    (all_part (λ (r : TestResult). r.holder < length old.rows.invocations) first count old.results sound.results.held))
answer_lasts s old new (Exonerations first count) lasts sound stands =
    ap (done None)
    (ap (exonerations_reply new.rows.invocations) (part_stays old.exonerations new.exonerations first count lasts.exonerations
    (omega (arith, stands.there, length-map old.exonerations (λ (r : TestExoneration). r.holder))))
    ∙ exonerations_last old.rows.invocations new.rows.invocations (part_of first count old.exonerations) lasts.rows
    (all_part (λ (r : TestExoneration). r.holder < length old.rows.invocations) first count old.exonerations sound.exonerations.held))
answer_lasts s old new (Artifacts first count) lasts sound stands =
    ap (λ (rows : List Artifact). done None (artifacts_reply rows)) (part_stays old.artifacts new.artifacts first count lasts.artifacts
    (omega (arith, stands.there, length-map old.artifacts (λ (r : Artifact). r.holder))))

-- ---- a request under a number that is kept

contained_at : (kept : List KeptReply) (reply : KeptReply) → Contains kept reply → (place : ℕ) × (slice_get kept place ≡ Some reply)
contained_at kept reply h = (h.0, slice_get-get_or kept h.0 reply h.1 ∙ ap (λ (r : KeptReply). Some r) h.2)

in_front : {A : Type 0} (xs ys : List A) (i : ℕ) (x : A) → slice_get xs i ≡ Some x → slice_get (xs ++ ys) i ≡ Some x
in_front [] ys i x e = absurd (none-some x e)
in_front (z ∷ xs) ys zero x e = e
in_front (z ∷ xs) ys (suc i) x e = in_front xs ys i x e

found_later : (s : Settings) (v : ServiceWorld) (caller : ℕ) (request : Request) (reply : KeptReply) (place : ℕ) → IsAlone v.kept
    → slice_get v.kept place ≡ Some reply → reply.caller ≡ caller_name s caller → (demand_of request).number ≡ Some reply.number
    → kept_for v.kept (caller_name s caller) (demand_of request) ≡ Some reply
found_later s v caller request reply place alone at name shows =
    kept_there v.kept (caller_name s caller) (demand_of request) reply.number place shows
    (place_is (caller_name s caller) reply.number v.kept place reply alone at (name, refl)) ∙ at

-- it isn't performed
never_performed : (s : Settings) (w : ServiceWorld) (moment : ℤ) (asked : Asked) (after : ServiceWorld) (answer : Answer) (reply : KeptReply)
    (p : Performs s w moment asked after answer) → (demand_of p.request).number ≡ Some reply.number
    → kept_for w.kept (caller_name s p.caller) (demand_of p.request) ≡ Some reply → ⊥
never_performed s w moment asked after answer reply p shows found =
    found_digest w.kept (caller_name s p.caller) asked (demand_of p.request) reply.number reply shows found p.accepted.new.fresh
    (unused s w moment asked p.caller p.request (record { new = p.accepted.new; judged = p.accepted.judged }))

-- and is no refusal where it has the digest that was kept
never_refused : (s : Settings) (w : ServiceWorld) (moment : ℤ) (asked : Asked) (r : Refusal) (caller : ℕ) (request : Request) (reply : KeptReply)
    → Wants s asked caller request → IsRepeated s w moment asked caller request reply → IsRefusal s w moment asked r → ⊥
never_refused s w moment asked r caller request reply wants again (inl alone) = wanted_alone s asked caller request r wants alone
never_refused s w moment asked r caller request reply wants again (inr is) =
    never_repeated s w moment asked is.0 caller is.1 request reply is.2 wants again

-- where nothing is due
told_again : (s : Settings) (w : ServiceWorld) (moment : ℤ) (asked : Asked) (after : ServiceWorld) (answer : Answer) (caller : ℕ)
    (request : Request) (reply : KeptReply) → IsTold s w moment asked after answer → Wants s asked caller request
    → (demand_of request).number ≡ Some reply.number → kept_for w.kept (caller_name s caller) (demand_of request) ≡ Some reply
    → (after ≡ w) × (reply.digest ≡ digest_of asked → answer ≡ kept_answer (scene_of s w) reply.answer)
told_again s w moment asked after answer caller request reply (refused r) wants shows found = (
  r.same,
  λ same. absurd (never_refused s w moment asked r.refusal caller request reply wants (record { found = found; same = same }) r.is_refusal),
)
told_again s w moment asked after answer caller request reply (repeated r) wants shows found =
    let callers = one_caller s asked r.caller caller r.request request r.wants wants in
    let requests = one_request s asked r.caller caller r.request request r.wants wants in
    let again : IsRepeated s w moment asked caller request r.reply =
    subst (λ (c : ℕ). IsRepeated s w moment asked c request r.reply) callers
    (subst (λ (q : Request). IsRepeated s w moment asked r.caller q r.reply) requests r.repeated) in
    let one : r.reply ≡ reply = same_Some r.reply reply (sym again.found ∙ found) in
    (r.same, λ same. r.answer_is ∙ ap (λ (k : KeptReply). kept_answer (scene_of s w) k.answer) one)
told_again s w moment asked after answer caller request reply (performed p) wants shows found =
    let callers = one_caller s asked caller p.caller request p.request wants p.accepted.new.wants in
    let requests = one_request s asked caller p.caller request p.request wants p.accepted.new.wants in
    absurd (never_performed s w moment asked after answer reply p (subst (λ (q : Request). (demand_of q).number ≡ Some reply.number) requests shows)
    (subst (λ (c : ℕ). kept_for w.kept (caller_name s c) (demand_of p.request) ≡ Some reply) callers
    (subst (λ (q : Request). kept_for w.kept (caller_name s caller) (demand_of q) ≡ Some reply) requests found)))

abbrev IsAgain : Settings → ServiceWorld → KeptReply → ServiceWorld → Entry → Told → ServiceWorld → Type 0
IsAgain s first reply w e told after =
    ((after ≡ w) ⊎ CatchesUp w e.moment after)
    × ((answer : Answer) → told ≡ Made answer → reply.digest ≡ digest_of e.asked → answer ≡ kept_answer (scene_of s first) reply.answer)

tells_again : (s : Settings) (first w : ServiceWorld) (e : Entry) (told : Told) (after : ServiceWorld) (caller : ℕ)
    (request : Request) (reply : KeptReply) → Lasts (recorded first) (recorded w) → IsSound (recorded first) → StandsIn (recorded first) reply.answer
    → Tells s w e told after → Wants s e.asked caller request → (demand_of request).number ≡ Some reply.number
    → kept_for w.kept (caller_name s caller) (demand_of request) ≡ Some reply → IsAgain s first reply w e told after
tells_again s first w e (Made given) after caller request reply lasts sound stands step wants shows found =
    let between = step.between in
    let here = subst (λ (k : List KeptReply). kept_for k (caller_name s caller) (demand_of request) ≡ Some reply) (sym step.advances.kept) found in
    let again = told_again s between e.moment e.asked after given caller request reply step.judged wants shows here in
    let same_later = answer_lasts s first between reply.answer
    (lasts_both (recorded first) (recorded w) (recorded between) lasts (due_lasts (recorded w) e.moment (recorded between) step.advances.due)) sound stands in (
      inr (subst (CatchesUp w e.moment) (sym again.0) step.advances),
      λ answer is same.
          let told_is : Made given ≡ Made answer = is in
          let answers : given ≡ answer = cc in
          sym answers ∙ (again.1 same ∙ same_later),
    )
tells_again s first w e (Instead Memory) after caller request reply lasts sound stands nothing wants shows found =
    (nothing, λ answer is same. let no : Instead Memory ≡ Made answer = is in absurd cc)
tells_again s first w e (Instead Unavailable) after caller request reply lasts sound stands told wants shows found =
    (told.no_more, λ answer is same. let no : Instead Unavailable ≡ Made answer = is in absurd cc)
tells_again s first w e (Instead Spent) after caller request reply lasts sound stands never wants shows found = absurd never

pub numbers_act_once : NumbersActOnce
numbers_act_once s w h v e after reply caller request names valid legal leads kept wants name shows =
    let more = kept_stays s w h v legal in
    let later = legal_keeps_valid s w h v names legal valid in
    let at = contained_at w.kept reply kept in
    let there : slice_get v.kept at.0 ≡ Some reply =
    ap (λ (k : List KeptReply). slice_get k at.0) more.1 ∙ in_front w.kept more.0 at.0 reply at.1 in
    let stands = All-contains (λ (r : KeptReply). StandsIn (recorded w) r.answer) w.kept reply valid.stand kept in
    let again = tells_again s w v e e.told after caller request reply (legal_lasts s w h v legal) valid.sound stands leads.tells wants shows
    (found_later s v caller request reply at.0 later.alone there name shows) in
    record { unchanged = again.0; answer = again.1 }

-- ---- the first answer is the one that is kept

-- what a request names is there where it breaks no rule
named_found : (rows : List Invocation) (held : Held) (d : Demand) (id : List ℕ) → IsUnbroken (NotFound rows held d)
    → sought d ≡ invocation_with id ∷ [] → place_named rows id ≡ None → ⊥
named_found rows held d id found names missing =
    found (of_invocation 8 id) (record {
      what = invocation_with id;
      first = subst (λ (all : List Sought). FirstOf (IsAbsent rows held) all (Some (invocation_with id))) (sym names) (inl (missing, refl));
      refusal_is = refl;
    })

-- something is kept of an effect, and it is what is shown of it
abbrev Keeps : Recorded → Effect → Showing → Type 0
Keeps w effect shown = (answer : KeptAnswer) × (answer_kept w effect ≡ Some answer) × (shown ≡ Alike (shows_added w effect))

results_keep : (w : Recorded) (o : Option ℕ) (rows : List TestResult) → (o ≡ None → ⊥)
    → Keeps w (results_at o rows) (Alike (shows_results w o (length rows)))
results_keep w None rows found = absurd (found refl)
results_keep w (Some holder) rows found =
    (_, refl, ap (λ (n : ℕ). Alike (shows.Results (length w.results) n)) (sym (length-map rows (results.with_holder holder))))

exonerations_keep : (w : Recorded) (o : Option ℕ) (rows : List TestExoneration) → (o ≡ None → ⊥)
    → Keeps w (exonerations_at w.exonerations o rows) (Alike (shows_exonerations w o (length rows)))
exonerations_keep w None rows found = absurd (found refl)
exonerations_keep w (Some holder) rows found = (
  _,
  refl,
  ap (λ (n : ℕ). Alike (shows.Exonerations (length w.exonerations) n))
      (length_given holder (length (exonerations.places_in w.exonerations holder)) rows),
)

artifacts_keep : (w : Recorded) (o : Option ℕ) (news : List NewArtifact) → (o ≡ None → ⊥)
    → Keeps w (artifacts_at o news) (Alike (shows_artifacts w o (length news)))
artifacts_keep w None news found = absurd (found refl)
artifacts_keep w (Some holder) news found = (
  _,
  refl,
  ap (λ (n : ℕ). Alike (shows.Artifacts (length w.artifacts) n))
      (sym (length-map (digested news).rows (files.with_holder holder) ∙ length-map news artifact_of)),
)

-- of a batch of artifacts the invocation is there, where it has one
pub batch_found : (rows : List Invocation) (held : Held) (number : Option (List ℕ)) (news : List NewArtifact) → news ≢ []
    → IsUnbroken (NotFound rows held (of_artifacts number news)) → place_of_batch rows news ≡ None → ⊥
batch_found rows held number [] some found = absurd (some refl)
batch_found rows held number (first ∷ others) some found =
    named_found rows held (of_artifacts number (first ∷ others)) (invocation_of first.name.parent) found refl

-- a request that has a number adds something
numbered_keeps : (w : Recorded) (moment : ℤ) (name number : List ℕ) (request : Request)
    → IsOfForm request → IsUnbroken (NotFound w.rows.invocations (held_in w) (demand_of request)) → (demand_of request).number ≡ Some number
    → Keeps w (effect_of w moment name request) (shows_of w request)
numbered_keeps w moment name number (asks.CreateInvocation q) forms found e = (_, refl, refl)
numbered_keeps w moment name number (asks.BatchCreateTestResults q) forms found e =
    results_keep w (place_named w.rows.invocations q.invocation) q.requests
    (named_found w.rows.invocations (held_in w) (demand_of (asks.BatchCreateTestResults q)) q.invocation found refl)
numbered_keeps w moment name number (asks.BatchCreateTestExonerations q) forms found e =
    exonerations_keep w (place_named w.rows.invocations q.invocation) q.requests
    (named_found w.rows.invocations (held_in w) (demand_of (asks.BatchCreateTestExonerations q)) q.invocation found refl)
numbered_keeps w moment name number (asks.BatchCreateArtifacts q) forms found e =
    artifacts_keep w (place_of_batch w.rows.invocations q.requests) q.requests
    (batch_found w.rows.invocations (held_in w) q.request_id q.requests forms.some found)
numbered_keeps w moment name number _ forms found e = absurd (none-some number e)

pub first_is_kept : FirstIsKept
first_is_kept s w moment asked after answer number names timely p e =
    let name = caller_name s p.caller in
    let effect = effect_for s w moment p.caller p.request in
    let found = accepted_found s w moment asked p.caller p.request p.accepted in
    let forms = asked_is_of_form asked.service asked.method asked.body p.request p.accepted.new.wants.asks in
    let keeps = numbered_keeps (recorded w) moment name number p.request forms found e in
    let reply : KeptReply = record { caller = name; number = number; digest = digest_of asked; answer = keeps.0 } in
    let numbered : numbered_of asked (demand_of p.request) ≡ Some (record { number = number; digest = digest_of asked }) =
    ap (option_map (λ (n : List ℕ). record { number = n; digest = digest_of asked })) e in
    let keep : keep_for s w moment asked p.caller p.request ≡ Some reply =
    ap (λ (n : Option Numbered). kept_of (recorded w) name n effect) numbered
    ∙ ap (option_map (λ (a : KeptAnswer). record { caller = name; number = number; digest = digest_of asked; answer = a })) keeps.1 in
    record {
      reply = reply;
      kept = p.acts.kept ∙ ap (with_kept w.kept) keep;
      own = (refl, refl);
      digest = refl;
      again = kept_is_first s (recorded w) (recorded after) moment effect keeps.0 timely
          (accepted_suits s w moment asked p.caller p.request names timely p.accepted) p.acts.made keeps.1
          ∙ sym (subst (λ (x : Showing). Answers (scene_of s after) p.caller x answer) keeps.2 p.answers);
    }
