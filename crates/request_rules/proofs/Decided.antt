-- Which rule a request breaks can be told in every world.
use Rattle.std.proofs.Common.{◌≡◌, ◌++◌, ℕ, zero, ℤ, ◌+ℤ◌, List, [], ◌∷◌, length, codes, decimal, Contains, Option, Some, None, inl, inr, refl, sym, ap, ◌∙◌, subst, arith}
use Rattle.std.specs.Prelude.{◌⊎◌}
use Rattle.std.specs.Str.{bytes_eq}
use Rattle.std.specs.Cmp.Lexicographic.{bytes_decides}
use Rattle.std.proofs.lemmas.Bool.{cases_Bool, cases_lt, false≢true}
use Rattle.std.proofs.lemmas.Int.{ints, by_lt_z}
use Rattle.std.proofs.lemmas.List.Elements.{Contains-append_cases, Contains-append_right}
use Rattle.std.proofs.lemmas.Option.{none-some, same_Some}
use Rattle.names_realms.specs.Names.{invocation_name}
use Rattle.names_realms.specs.declared.states.State.{State}
use Rattle.names_realms.specs.declared.states.State.TheVariants.{Active, Finalizing, Finalized}
use Rattle.kept_replies.specs.declared.reply.KeptReply.{KeptReply}
use Rattle.policy_tables.specs.declared.tables.PolicyTables.{PolicyTables}
use Rattle.permissions.proofs.AllowLaws.{allows_or_not}
use Rattle.update_tokens.specs.Hash.{token_text}
use Rattle.inclusion_graph.proofs.ListLemmas.{in_one}
use Rattle.invocations.specs.declared.invocation.Invocation.{Invocation}
use Rattle.call_forms.specs.declared.asked.Asked.{Asked}
use Rattle.call_forms.specs.declared.forms.Refusal.{Refusal}
use Rattle.request_demands.specs.InvocationForms.Replies.{state_text}
use Rattle.request_rules.specs.declared.rules.Rule.{Rule}
use Rattle.request_rules.specs.declared.rules.Rule.TheVariants as rule
use Rattle.request_demands.specs.Settings.{Settings, caller_name, secret_of}
use Rattle.request_demands.specs.declared.grants.Grant.{Grant}
use Rattle.request_demands.specs.declared.grants.Grant.TheVariants.{One, Either}
use Rattle.request_demands.specs.Grants.{Has, named_by}
use Rattle.request_demands.specs.Demands.{Demand}
use Rattle.request_rules.specs.Rights.{Right, rights_taken}
use Rattle.request_demands.specs.Numbered.{digest_of, kept_for}
use Rattle.request_rules.specs.Held.{Held}
use Rattle.request_rules.specs.Named.{named, place_named, place_of_artifact, place_of_result}
use Rattle.request_demands.specs.Order.{FirstOf, IsUnbroken}
use Rattle.request_rules.specs.Broken.{BadUpdateToken, Case, IsAbsent, Sought, invocation_with, result_named, artifact_named, name_of, sought, DeadlineRange, Denied, IsBroken, IsInReach, IsMissing, IsRepeat, Itself, Lacks, NoUpdateToken, NotActive, NotFound, RequestIdReused, Taken, TooMany, denied, greatest_lifetime, least_lifetime, of_invocation, out_of_reach}
use Rattle.request_demands.specs.Alone.{refusal}
use Rattle.request_rules.proofs.Firsts.{no_first}
use Rattle.request_demands.proofs.Judged.{Told}

-- ---- lists

held : (names : List (List ℕ)) (x : List ℕ) → Contains names x ⊎ (Contains names x → ⊥)
held [] x = inr (λ h. absurd (omega (arith, h.1)))
held (n ∷ names) x =
    elim (cases_Bool (bytes_eq n x)) [
      | inl same ↦ inl (subst (Contains (n ∷ names)) ((bytes_decides n x).0 same) (zero, omega arith, refl))
      | inr other ↦ elim (held names x) [
        | inl rest ↦ inl (Contains-append_right (n ∷ []) names x rest)
        | inr none ↦ inr (λ h. elim (Contains-append_cases (n ∷ []) names x h) [
          | inl here ↦ false≢true (sym other ∙ (bytes_decides n x).1 (in_one n x here))
          | inr there ↦ none there
        ])
      ]
    ]

first_there : {A : Type 0} → (Holds : A → Type 0) → ((x : A) → Holds x ⊎ (Holds x → ⊥)) → (xs : List A)
    → (found : Option A) × FirstOf Holds xs found
first_there Holds told [] = (None, refl)
first_there Holds told (x ∷ xs) =
    elim (told x) [
      | inl is ↦ (Some x, inl (is, refl))
      | inr not ↦ let rest = first_there Holds told xs in (rest.0, inr (not, rest.1))
    ]

missing_at : (rows : List Invocation) (id : List ℕ) (o : Option ℕ) → place_named rows id ≡ o
    → IsMissing rows id ⊎ (IsMissing rows id → ⊥)
missing_at rows id None e = inl e
missing_at rows id (Some p) e = inr (λ none. none-some p (sym none ∙ e))

missing_or_not : (rows : List Invocation) (id : List ℕ) → IsMissing rows id ⊎ (IsMissing rows id → ⊥)
missing_or_not rows id = missing_at rows id (place_named rows id) refl

-- ---- numbers

reused_told : (kept : List KeptReply) (name : List ℕ) (asked : Asked) (d : Demand) (number : Option (List ℕ)) (o : Option KeptReply)
    → d.number ≡ number → kept_for kept name d ≡ o → Told (RequestIdReused kept name asked d)
reused_told kept name asked d None o e f = inr (λ r is. none-some is.number (sym e ∙ is.shows))
reused_told kept name asked d (Some number) None e f = inr (λ r is. none-some is.reply (sym f ∙ is.reused.found))
reused_told kept name asked d (Some number) (Some reply) e f =
    elim (cases_Bool (bytes_eq reply.digest (digest_of asked))) [
      | inl same ↦ inr (λ r is.
          is.reused.other (ap (λ (k : KeptReply). k.digest) (same_Some is.reply reply (sym is.reused.found ∙ f))
          ∙ (bytes_decides reply.digest (digest_of asked)).0 same))
      | inr other ↦ inl (
        refusal 7 number,
        record {
          number = number;
          shows = e;
          reply = reply;
          reused = record {
            found = f;
            other = λ same. false≢true (sym other ∙ (bytes_decides reply.digest (digest_of asked)).1 same);
          };
          refusal_is = refl;
        },
      )
    ]

repeat_at : (x : Case) (d : Demand) (o : Option KeptReply) → kept_for x.kept (caller_name x.settings x.caller) d ≡ o
    → ((reply : KeptReply) × IsRepeat x d reply) ⊎ ((reply : KeptReply) → IsRepeat x d reply → ⊥)
repeat_at x d None e = inr (λ reply is. none-some reply (sym e ∙ is.found))
repeat_at x d (Some reply) e =
    elim (cases_Bool (bytes_eq reply.digest (digest_of x.asked))) [
      | inl same ↦ inl (reply, record { found = e; same = (bytes_decides reply.digest (digest_of x.asked)).0 same })
      | inr other ↦ inr (λ again is.
          let digests : reply.digest ≡ digest_of x.asked =
          ap (λ (k : KeptReply). k.digest) (same_Some reply again (sym e ∙ is.found)) ∙ is.same in
          false≢true (sym other ∙ (bytes_decides reply.digest (digest_of x.asked)).1 digests))
    ]

-- whether a request is a repeat can be told
pub repeat_or_not : (x : Case) (d : Demand)
    → ((reply : KeptReply) × IsRepeat x d reply) ⊎ ((reply : KeptReply) → IsRepeat x d reply → ⊥)
repeat_or_not x d = repeat_at x d (kept_for x.kept (caller_name x.settings x.caller) d) refl

-- ---- rules

placed_or_not : (rows : List Invocation) (held : Held) (what : Sought) (o : Option ℕ) → (IsAbsent rows held what → o ≡ None)
    → (o ≡ None → IsAbsent rows held what) → IsAbsent rows held what ⊎ (IsAbsent rows held what → ⊥)
placed_or_not rows held what None told is = inl (is refl)
placed_or_not rows held what (Some p) told is = inr (λ none. none-some p (sym (told none)))

absent_or_not : (rows : List Invocation) (held : Held) (what : Sought)
    → IsAbsent rows held what ⊎ (IsAbsent rows held what → ⊥)
absent_or_not rows held (invocation_with id) = missing_or_not rows id
absent_or_not rows held (result_named name) =
    placed_or_not rows held (result_named name) (place_of_result rows held.results name) (λ e. e) (λ e. e)
absent_or_not rows held (artifact_named name) =
    placed_or_not rows held (artifact_named name) (place_of_artifact rows held.artifacts name) (λ e. e) (λ e. e)

not_found_told : (rows : List Invocation) (held : Held) (d : Demand) (found : Option Sought)
    → FirstOf (IsAbsent rows held) (sought d) found → Told (NotFound rows held d)
not_found_told rows held d None first = inr (λ r is. no_first (IsAbsent rows held) (sought d) first is.what is.first)
not_found_told rows held d (Some what) first =
    inl (refusal 8 (name_of what), record { what = what; first = first; refusal_is = refl })

no_token_told : (asked : Asked) (d : Demand) (o t : Option (List ℕ)) → d.changed ≡ o → asked.update_token ≡ t
    → Told (NoUpdateToken asked d)
no_token_told asked d None t e f = inr (λ r is. none-some is.id (sym e ∙ is.changes))
no_token_told asked d (Some id) None e f = inl (of_invocation 9 id, record { id = id; changes = e; none = f; refusal_is = refl })
no_token_told asked d (Some id) (Some token) e f = inr (λ r is. none-some token (sym is.none ∙ f))

bad_token_told : (s : Settings) (asked : Asked) (d : Demand) (o t : Option (List ℕ)) → d.changed ≡ o
    → asked.update_token ≡ t → Told (BadUpdateToken s asked d)
bad_token_told s asked d None t e f = inr (λ r is. none-some is.id (sym e ∙ is.changes))
bad_token_told s asked d (Some id) None e f = inr (λ r is. none-some is.token (sym f ∙ is.shown))
bad_token_told s asked d (Some id) (Some token) e f =
    elim (cases_Bool (bytes_eq token (token_text (secret_of s) id))) [
      | inl same ↦ inr (λ r is.
          let ids : is.id ≡ id = same_Some is.id id (sym is.changes ∙ e) in
          let tokens : is.token ≡ token = same_Some is.token token (sym is.shown ∙ f) in
          is.other (tokens ∙ ((bytes_decides token (token_text (secret_of s) id)).0 same ∙ ap (token_text (secret_of s)) (sym ids))))
      | inr other ↦ inl (
        of_invocation 10 id,
        record {
          id = id;
          changes = e;
          token = token;
          shown = f;
          other = λ same. false≢true (sym other ∙ (bytes_decides token (token_text (secret_of s) id)).1 same);
          refusal_is = refl;
        },
      )
    ]

denied_told : (policy : PolicyTables) (rows : List Invocation) (caller : ℕ) (d : Demand) (found : Option Right)
    → FirstOf (Lacks policy caller) (rights_taken rows d) found → Told (Denied policy rows caller d)
denied_told policy rows caller d None first = inr (λ r is. no_first (Lacks policy caller) (rights_taken rows d) first is.0 is.1)
denied_told policy rows caller d (Some lacking) first =
    inl (denied (named_by lacking.grant) lacking.realm, (lacking, first, refl))

active_or_not : (state : State) → (state ≡ Active) ⊎ (state ≡ Active → ⊥)
active_or_not Active = inl refl
active_or_not Finalizing = inr (λ e. let no : Finalizing ≡ Active = e in cc)
active_or_not Finalized = inr (λ e. let no : Finalized ≡ Active = e in cc)

state_told : (rows : List Invocation) (d : Demand) (id : List ℕ) (o : Option Invocation) → d.active ≡ Some id
    → named rows id ≡ o → Told (NotActive rows d)
state_told rows d id None e f =
    inr (λ r is. none-some is.row (sym f ∙ (ap (named rows) (same_Some id is.id (sym e ∙ is.changes)) ∙ is.stands)))
state_told rows d id (Some row) e f =
    elim (active_or_not row.state) [
      | inl active ↦ inr (λ r is.
          let same : is.row ≡ row = same_Some is.row row
          (sym is.stands ∙ (ap (named rows) (same_Some is.id id (sym is.changes ∙ e)) ∙ f)) in
          is.inactive (ap (λ (x : Invocation). x.state) same ∙ active))
      | inr other ↦ inl (
        refusal 12 (invocation_name id ++ (codes " " ++ state_text row.state)),
        record {
          id = id;
          changes = e;
          row = row;
          stands = f;
          inactive = other;
          refusal_is = refl;
        },
      )
    ]

active_told : (rows : List Invocation) (d : Demand) (o : Option (List ℕ)) → d.active ≡ o → Told (NotActive rows d)
active_told rows d None e = inr (λ r is. none-some is.id (sym e ∙ is.changes))
active_told rows d (Some id) e = state_told rows d id (named rows id) e refl

pub reach_or_not : (moment deadline : ℤ) → IsInReach moment deadline ⊎ (IsInReach moment deadline → ⊥)
reach_or_not moment deadline =
    by_lt_z deadline (moment +ℤ least_lifetime)
    (λ early. inr (λ reach. let le = reach.0 in omega (arith, ints)))
    (λ near. by_lt_z (moment +ℤ greatest_lifetime) deadline
    (λ late. inr (λ reach. let le = reach.1 in omega (arith, ints)))
    (λ far. inl (near, far)))

deadline_told : (moment : ℤ) (d : Demand) (o : Option ℤ) → d.deadline ≡ o → Told (DeadlineRange moment d)
deadline_told moment d None e = inr (λ r is. none-some is.deadline (sym e ∙ is.given))
deadline_told moment d (Some deadline) e =
    elim (reach_or_not moment deadline) [
      | inl reach ↦ inr (λ r is. is.far (subst (IsInReach moment) (same_Some deadline is.deadline (sym e ∙ is.given)) reach))
      | inr far ↦ inl (out_of_reach deadline moment, record { deadline = deadline; given = e; far = far; refusal_is = refl })
    ]

itself_told : (d : Demand) (o : Option (List ℕ)) → d.changed ≡ o → Told (Itself d)
itself_told d None e = inr (λ r is. none-some is.id (sym e ∙ is.changes))
itself_told d (Some id) e =
    elim (held d.included id) [
      | inl is ↦ inl (of_invocation 14 id, record { id = id; changes = e; itself = is; refusal_is = refl })
      | inr not ↦ inr (λ r is. not (subst (Contains d.included) (same_Some is.id id (sym is.changes ∙ e)) is.itself))
    ]

many_told : (d : Demand) → Told (TooMany d)
many_told d =
    elim (cases_lt 500 (length d.included)) [
      | inl many ↦ inl (refusal 15 (decimal (length d.included)), record { many = many; refusal_is = refl })
      | inr few ↦ inr (λ r is. let many = is.many in omega arith)
    ]

taken_told : (rows : List Invocation) (d : Demand) (o : Option (List ℕ)) → d.makes ≡ o → Told (Taken rows d)
taken_told rows d None e = inr (λ r is. none-some is.id (sym e ∙ is.makes))
taken_told rows d (Some id) e =
    elim (missing_or_not rows id) [
      | inl none ↦ inr (λ r is. is.taken (ap (place_named rows) (same_Some is.id id (sym is.makes ∙ e)) ∙ none))
      | inr there ↦ inl (of_invocation 19 id, record { id = id; makes = e; taken = there; refusal_is = refl })
    ]

has_or_not : (policy : PolicyTables) (caller : ℕ) (grant : Grant) (realm : List ℕ)
    → Has policy caller grant realm ⊎ (Has policy caller grant realm → ⊥)
has_or_not policy caller (One permission) realm = allows_or_not policy caller permission realm
has_or_not policy caller (Either first second) realm =
    elim (allows_or_not policy caller first realm) [
      | inl is ↦ inl (inl is)
      | inr lacks ↦ elim (allows_or_not policy caller second realm) [
        | inl is ↦ inl (inr is)
        | inr none ↦ inr (λ has. elim has [ inl a ↦ lacks a | inr b ↦ none b ])
      ]
    ]

-- whether a caller lacks a right can be told
lacks_or_not : (policy : PolicyTables) (caller : ℕ) (x : Right) → Lacks policy caller x ⊎ (Lacks policy caller x → ⊥)
lacks_or_not policy caller x =
    elim (has_or_not policy caller x.grant x.realm) [ inl is ↦ inr (λ none. none is) | inr none ↦ inl none ]

pub broken_told : (x : Case) (d : Demand) (k : Rule) → Told (IsBroken x d k)
broken_told x d rule.RequestIdReused =
    let name = caller_name x.settings x.caller in
    reused_told x.kept name x.asked d d.number (kept_for x.kept name d) refl refl
broken_told x d rule.NotFound =
    let first = first_there (IsAbsent x.rows x.held) (absent_or_not x.rows x.held) (sought d) in
    not_found_told x.rows x.held d first.0 first.1
broken_told x d rule.NoUpdateToken = no_token_told x.asked d d.changed x.asked.update_token refl refl
broken_told x d rule.BadUpdateToken = bad_token_told x.settings x.asked d d.changed x.asked.update_token refl refl
broken_told x d rule.Denied =
    let first = first_there (Lacks x.settings.policy x.caller) (lacks_or_not x.settings.policy x.caller) (rights_taken x.rows d) in
    denied_told x.settings.policy x.rows x.caller d first.0 first.1
broken_told x d rule.NotActive = active_told x.rows d d.active refl
broken_told x d rule.DeadlineRange = deadline_told x.moment d d.deadline refl
broken_told x d rule.Itself = itself_told d d.changed refl
broken_told x d rule.TooMany = many_told d
broken_told x d rule.Taken = taken_told x.rows d d.makes refl
