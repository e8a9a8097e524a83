-- What fits tables fits those with more room, and so does what a change is planned to.
use Rattle.std.proofs.Common.{◌≡◌, ◌<◌, ◌≤◌, ◌+◌, ℕ, ℤ, List, Option, Some, None, Result, length, refl, sym, ap, ◌∙◌, subst, inr, arith}
use Rattle.std.specs.Prelude.{IfOk, IfSome, slice_get}
use Rattle.std.specs.declared.alloc.AllocError.{AllocError}
use Rattle.std.proofs.lemmas.Option.{same_Some}
use Rattle.call_forms.specs.declared.asked.Asked.{Asked}
use Rattle.call_forms.specs.declared.forms.Answer.{Answer}
use Rattle.call_forms.specs.declared.forms.Refusal.{Refusal}
use Rattle.invocation_world.specs.World.{World}
use Rattle.kept_replies.specs.declared.reply.KeptReply.{KeptReply}
use Rattle.request_effects.specs.MessageForms.declared.requests.Request.{Request}
use Rattle.request_effects.specs.RequestDemands.Demands.{demand_of}
use Rattle.request_effects.specs.RequestDemands.Settings.{Settings, caller_name}
use Rattle.request_effects.specs.RequestDemands.Understood.{length_for}
use Rattle.request_effects.specs.declared.shows.Showing.{Showing}
use Rattle.request_effects.specs.Effects.{effect_of}
use Rattle.request_effects.specs.Keeps.{kept_answer, kept_of, numbered_of}
use Rattle.request_effects.specs.Shows.{shows_of}
use Rattle.service_effects.specs.declared.effect.Effect.{Effect}
use Rattle.service_effects.specs.declared.tables.Tables.{Tables}
use Rattle.service_effects.specs.Fitting as effects
use Rattle.service_effects.specs.Service.{Recorded}
use Rattle.service_effects.specs.States.{recorded_in}
use Rattle.service_effects.specs.States as tables
use Rattle.service_effects.specs.Storing.{DoingRefused, IsStorable, StoreRefused, bytes_of}
use Rattle.service_core.specs.declared.plan.Prepared.{Prepared}
use Rattle.service_core.specs.declared.plan.Prepared.TheVariants as prepared
use Rattle.service_core.specs.CoreState.{CoreState, IsRoomier, PlanState, world_in}
use Rattle.service_core.specs.Planning.{ComesTo, Deed, Foretells, IsReady, IsShown, deed_for, plan_of}
use Rattle.service_core.specs.Step.{bytes_for, effect_for, keep_for}
use Rattle.service_effects.proofs.RefusedLaws.{unrefused}
use Rattle.service_effects.proofs.RoomLaws.{fits_more, roomier_tables, same_recorded}

-- a core has the room that it has
pub roomier_self : (inside core : CoreState) → inside ≡ core → IsRoomier core inside
roomier_self inside core view =
    subst (λ (k : CoreState). IsRoomier k inside) view
    (record { held = roomier_tables inside.held; kept = refl; room = omega arith; stored = refl; changes = refl })

-- tables with more room make such a core
pub roomier_core : (old inside core : CoreState) (held : Tables) → inside ≡ old → core ≡ record inside { held = held }
    → tables.IsRoomier inside.held held → IsRoomier old core
roomier_core old inside core held view is roomier =
    subst (λ (k : CoreState). IsRoomier k core) view
    (subst (IsRoomier inside) (sym is) (record { held = roomier; kept = refl; room = omega arith; stored = refl; changes = refl }))

keeps_more : (keep : Option KeptReply) (old new : ℕ) → old ≤ new → IfSome keep (λ reply. 0 < old) → IfSome keep (λ reply. 0 < new)
keeps_more None old new more h = tt
keeps_more (Some reply) old new more h = omega (arith, more, h)

-- what was shown in a core is shown in one with more room
shown_more : (s : Settings) (caller : ℕ) (old new : CoreState) (deed : Deed) (shows : Showing) (p : Prepared) → IsRoomier old new
    → IsShown s caller old deed shows p → IsShown s caller new deed shows p
shown_more s caller old new deed shows (prepared.Refused answer) roomier h = absurd h
shown_more s caller old new deed shows (prepared.Repeated answer) roomier h = absurd h
shown_more s caller old new deed shows (prepared.Answered answer) roomier h = (
  h.0,
  subst (λ (w : Recorded). Foretells s caller w deed.change shows answer) (sym (same_recorded old.held new.held roomier.held)) h.1,
)
shown_more s caller old new deed shows (prepared.Change plan) roomier h =
    let answer = h.1.0 in
    let At : ℕ → PlanState = λ n. record (plan_of deed answer new) { made_at = n } in
    let told = subst (λ (w : Recorded). Foretells s caller w deed.change shows answer) (sym (same_recorded old.held new.held roomier.held)) h.1.2 in
    (h.0, (answer, h.1.1 ∙ ap At (sym roomier.changes), told))

comes_ready : (s : Settings) (core : CoreState) (moment : ℤ) (asked : Asked) (caller : ℕ) (request : Request) (p : Prepared)
    → IsReady s core moment asked caller request p → ComesTo s core moment asked caller request p
comes_ready s core moment asked caller request (prepared.Refused answer) h = absurd h.3
comes_ready s core moment asked caller request (prepared.Repeated answer) h = absurd h.3
comes_ready s core moment asked caller request (prepared.Answered answer) h = h
comes_ready s core moment asked caller request (prepared.Change plan) h = h

-- What a request does, what is kept of it and how many bytes its record takes, as a core finds them in which there is room.
pub record IsFound (s : Settings) (core : CoreState) (moment : ℤ) (asked : Asked) (caller : ℕ) (request : Request) (effect : Effect)
    (keep : Option KeptReply) (length : ℕ) (shows : Showing) : Type 0 where
  pub fits : effects.Fits core.held moment effect
  pub effect_is : effect ≡ effect_of (recorded_in core.held) moment (caller_name s caller) request
  pub keep_is : keep ≡ kept_of (recorded_in core.held) (caller_name s caller) (numbered_of asked (demand_of request)) effect
  pub room : IfSome keep (λ reply. 0 < core.keeps.room)
  pub length_is : length ≡ bytes_of effect (length_for s asked caller)
  pub storable : IsStorable core.stored length
  pub shows_is : shows ≡ shows_of (recorded_in core.held) request

abbrev deed_of : ℤ → Effect → Option KeptReply → ℕ → Deed
deed_of moment effect keep length = record { change = record { moment = moment; effect = effect }; keep = keep; length = length }

-- shown, it is what the request comes to
pub comes_as : (s : Settings) (core new : CoreState) (moment : ℤ) (asked : Asked) (caller : ℕ) (request : Request) (effect : Effect)
    (keep : Option KeptReply) (length : ℕ) (shows : Showing) (p : Prepared)
    → IsFound s core moment asked caller request effect keep length shows
    → IsRoomier core new → IsShown s caller core (deed_of moment effect keep length) shows p
    → ComesTo s new moment asked caller request p
comes_as s core new moment asked caller request effect keep length shows p found roomier shown =
    let name : List ℕ = caller_name s caller in
    let same : recorded_in core.held ≡ recorded_in new.held = sym (same_recorded core.held new.held roomier.held) in
    let effect_is : effect ≡ effect_for s (world_in new) moment caller request =
    found.effect_is ∙ ap (λ (w : Recorded). effect_of w moment name request) same in
    let keep_is : keep ≡ keep_for s (world_in new) moment asked caller request =
    found.keep_is
    ∙ (ap (λ (w : Recorded). kept_of w name (numbered_of asked (demand_of request)) effect) same
    ∙ ap (kept_of (recorded_in new.held) name (numbered_of asked (demand_of request))) effect_is) in
    let shows_is : shows ≡ shows_of (recorded_in new.held) request = found.shows_is ∙ ap (λ (w : Recorded). shows_of w request) same in
    let length_is : length ≡ bytes_for s (world_in new) moment asked caller request =
    found.length_is ∙ ap (λ (e : Effect). bytes_of e (length_for s asked caller)) effect_is in
    let deed_is : deed_of moment effect keep length ≡ deed_for s new moment asked caller request =
    ap (λ (e : Effect). deed_of moment e keep length) effect_is
    ∙ (ap (λ (k : Option KeptReply). deed_of moment (effect_for s (world_in new) moment caller request) k length) keep_is
    ∙ ap (deed_of moment (effect_for s (world_in new) moment caller request) (keep_for s (world_in new) moment asked caller request)) length_is) in
    let here : IsShown s caller new (deed_of moment effect keep length) shows p =
    shown_more s caller core new (deed_of moment effect keep length) shows p roomier shown in
    comes_ready s new moment asked caller request p (
      subst (effects.Fits new.held moment) effect_is (fits_more core.held new.held moment effect roomier.held found.fits),
      subst (λ (k : Option KeptReply). IfSome k (λ reply. 0 < new.keeps.room)) keep_is
          (keeps_more keep core.keeps.room new.keeps.room roomier.room found.room),
      subst (λ (n : ℕ). IsStorable n (bytes_for s (world_in new) moment asked caller request)) (sym roomier.stored)
          (subst (IsStorable core.stored) length_is found.storable),
      subst (λ (v : Showing). IsShown s caller new (deed_for s new moment asked caller request) v p) shows_is
          (subst (λ (d : Deed). IsShown s caller new d shows p) deed_is here),
    )

-- it is found in a core whose tables were made ready for the effect
pub found_in : (s : Settings) (inside : CoreState) (held : Tables) (core old : CoreState) (moment : ℤ) (asked : Asked) (caller : ℕ)
    (request : Request) (name : List ℕ) → name ≡ caller_name s caller → inside ≡ old → tables.IsRoomier inside.held held
    → core.held ≡ held
    → (effect : Effect) → (effect ≡ effect_of (recorded_in inside.held) moment name request) × effects.Fits held moment effect
    → (keep : Option KeptReply) → keep ≡ kept_of (recorded_in held) name (numbered_of asked (demand_of request)) effect
    → IfSome keep (λ reply. 0 < core.keeps.room)
    → (length : ℕ) → length ≡ bytes_of effect (length_for s asked caller) → IsStorable core.stored length
    → (shows : Showing) → shows ≡ shows_of (recorded_in old.held) request
    → IsFound s core moment asked caller request effect keep length shows
found_in s inside held core old moment asked caller request name name_is view roomier held_is effect ready keep keep_is room length length_is storable
    shows shows_is =
    let after : recorded_in held ≡ recorded_in core.held = ap recorded_in (sym held_is) in
    let all : recorded_in inside.held ≡ recorded_in core.held = sym (same_recorded inside.held held roomier) ∙ after in
    let numbered = numbered_of asked (demand_of request) in
    record {
      fits = subst (λ (t : Tables). effects.Fits t moment effect) (sym held_is) ready.1;
      effect_is = ready.0
          ∙ (ap (λ (w : Recorded). effect_of w moment name request) all
          ∙ ap (λ (n : List ℕ). effect_of (recorded_in core.held) moment n request) name_is);
      keep_is = keep_is
          ∙ (ap (λ (w : Recorded). kept_of w name numbered effect) after
          ∙ ap (λ (n : List ℕ). kept_of (recorded_in core.held) n numbered effect) name_is);
      room = room;
      length_is = length_is;
      storable = storable;
      shows_is = shows_is
          ∙ (ap (λ (k : CoreState). shows_of (recorded_in k.held) request) (sym view) ∙ ap (λ (w : Recorded). shows_of w request) all);
    }

-- a request whose record has no place is refused for that
pub refused_as : (s : Settings) (inside held : Tables) (stored : ℕ) (moment : ℤ) (asked : Asked) (caller : ℕ) (request : Request)
    (name : List ℕ) (effect : Effect) (length : ℕ) (r : Refusal) → name ≡ caller_name s caller → tables.IsRoomier inside held
    → (effect ≡ effect_of (recorded_in inside) moment name request) × effects.Fits held moment effect → length ≡ length_for s asked caller
    → StoreRefused stored (bytes_of effect length) r
    → DoingRefused (recorded_in held) stored (effect_of (recorded_in held) moment (caller_name s caller) request)
    (bytes_of (effect_of (recorded_in held) moment (caller_name s caller) request) (length_for s asked caller)) r
refused_as s inside held stored moment asked caller request name effect length r name_is roomier ready length_is refused =
    let is : effect ≡ effect_of (recorded_in held) moment (caller_name s caller) request =
    ready.0
    ∙ (ap (λ (w : Recorded). effect_of w moment name request) (sym (same_recorded inside held roomier))
    ∙ ap (λ (n : List ℕ). effect_of (recorded_in held) moment n request) name_is) in
    let free = unrefused held moment effect ready.1.suits ready.1.room in
    subst (λ (e : Effect). DoingRefused (recorded_in held) stored e (bytes_of e (length_for s asked caller)) r) is
    (inr (free, subst (λ (n : ℕ). StoreRefused stored (bytes_of effect n) r) length_is refused))

-- what is shown of what is kept, where a core is seen as it is
pub kept_shown : (s : Settings) (inside core : CoreState) (place : ℕ) (found reply : KeptReply) (r : Result Answer AllocError) → inside ≡ core
    → slice_get inside.keeps.kept place ≡ Some found → slice_get core.keeps.kept place ≡ Some reply
    → IfOk r (λ answer. answer ≡ kept_answer (record { settings = s; world = recorded_in inside.held }) found.answer)
    → IfOk r (λ answer. answer ≡ kept_answer (record { settings = s; world = recorded_in core.held }) reply.answer)
kept_shown s inside core place found reply r view here at shown =
    let same : found ≡ reply = same_Some found reply (sym here ∙ (ap (λ (k : CoreState). slice_get k.keeps.kept place) view ∙ at)) in
    subst (λ (k : CoreState). IfOk r (λ answer. answer ≡ kept_answer (record { settings = s; world = recorded_in k.held }) reply.answer)) view
    (subst (λ (x : KeptReply). IfOk r (λ answer. answer ≡ kept_answer (record { settings = s; world = recorded_in inside.held }) x.answer)) same
    shown)
