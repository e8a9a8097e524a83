-- Each rule is broken in one way. A further rule takes one lemma here.
use Rattle.std.proofs.Common.{◌≡◌, ◌++◌, ℕ, ℤ, List, Some, sym, ap, ◌∙◌}
use Rattle.std.specs.Prelude.{codes}
use Rattle.names_realms.specs.Names.{invocation_name}
use Rattle.kept_replies.specs.declared.reply.KeptReply.{KeptReply}
use Rattle.policy_tables.specs.declared.tables.PolicyTables.{PolicyTables}
use Rattle.invocations.specs.declared.invocation.Invocation.{Invocation}
use Rattle.call_forms.specs.declared.asked.Asked.{Asked}
use Rattle.call_forms.specs.declared.forms.Refusal.{Refusal}
use Rattle.request_demands.specs.InvocationForms.Replies.{state_text}
use Rattle.request_rules.specs.declared.rules.Rule.{Rule}
use Rattle.request_rules.specs.declared.rules.Rule.TheVariants as rule
use Rattle.request_demands.specs.Settings.{Settings, caller_name}
use Rattle.request_rules.specs.Held.{Held}
use Rattle.request_rules.specs.Named.{named}
use Rattle.request_demands.specs.Grants.{named_by}
use Rattle.request_demands.specs.Demands.{Demand}
use Rattle.request_rules.specs.Rights.{Right, rights_taken}
use Rattle.request_rules.specs.Broken.{BadUpdateToken, Case, DeadlineRange, Denied, IsAbsent, IsBroken, Itself, Lacks, NoUpdateToken, NotActive, NotFound, RequestIdReused, Sought, Taken, denied, name_of, of_invocation, out_of_reach, sought}
use Rattle.request_demands.specs.Alone.{refusal}
use Rattle.request_rules.proofs.Firsts.{one_first}
use Rattle.request_demands.proofs.Judged.{IsOne}

-- what is said of an id that a request has is said of one
one_of : {A : Type 0} → (a b : A) (r p : Refusal) (told : A → Refusal) → a ≡ b → r ≡ told a → p ≡ told b → r ≡ p
one_of a b r p told same this that = this ∙ (ap told same ∙ sym that)

one_reused : (kept : List KeptReply) (name : List ℕ) (asked : Asked) (d : Demand) → IsOne (RequestIdReused kept name asked d)
one_reused kept name asked d r p this that =
    let both : Some this.number ≡ Some that.number = sym this.shows ∙ that.shows in
    one_of this.number that.number r p (refusal 7) (cc) this.refusal_is that.refusal_is

one_not_found : (rows : List Invocation) (held : Held) (d : Demand) → IsOne (NotFound rows held d)
one_not_found rows held d r p this that =
    one_of this.what that.what r p (λ (what : Sought). refusal 8 (name_of what))
    (one_first (IsAbsent rows held) (sought d) this.what that.what this.first that.first) this.refusal_is that.refusal_is

one_no_token : (asked : Asked) (d : Demand) → IsOne (NoUpdateToken asked d)
one_no_token asked d r p this that =
    let both : Some this.id ≡ Some that.id = sym this.changes ∙ that.changes in
    one_of this.id that.id r p (of_invocation 9) (cc) this.refusal_is that.refusal_is

one_bad_token : (s : Settings) (asked : Asked) (d : Demand) → IsOne (BadUpdateToken s asked d)
one_bad_token s asked d r p this that =
    let both : Some this.id ≡ Some that.id = sym this.changes ∙ that.changes in
    one_of this.id that.id r p (of_invocation 10) (cc) this.refusal_is that.refusal_is

one_denied : (policy : PolicyTables) (rows : List Invocation) (caller : ℕ) (d : Demand) → IsOne (Denied policy rows caller d)
one_denied policy rows caller d r p this that =
    one_of this.0 that.0 r p (λ (lacking : Right). denied (named_by lacking.grant) lacking.realm)
    (one_first (Lacks policy caller) (rights_taken rows d) this.0 that.0 this.1 that.1) this.2 that.2

one_not_active : (rows : List Invocation) (d : Demand) → IsOne (NotActive rows d)
one_not_active rows d r p this that =
    let both : Some this.id ≡ Some that.id = sym this.changes ∙ that.changes in
    let same : this.id ≡ that.id = cc in
    let rows_are : Some this.row ≡ Some that.row =
    sym this.stands ∙ (ap (λ (id : List ℕ). named rows id) same ∙ that.stands) in
    let row : this.row ≡ that.row = cc in
    this.refusal_is
    ∙ (ap (λ (id : List ℕ). refusal 12 (invocation_name id ++ (codes " " ++ state_text this.row.state))) same
    ∙ (ap (λ (x : Invocation). refusal 12 (invocation_name that.id ++ (codes " " ++ state_text x.state))) row
    ∙ sym that.refusal_is))

one_deadline : (moment : ℤ) (d : Demand) → IsOne (DeadlineRange moment d)
one_deadline moment d r p this that =
    let both : Some this.deadline ≡ Some that.deadline = sym this.given ∙ that.given in
    one_of this.deadline that.deadline r p (λ (z : ℤ). out_of_reach z moment) (cc) this.refusal_is that.refusal_is

one_itself : (d : Demand) → IsOne (Itself d)
one_itself d r p this that =
    let both : Some this.id ≡ Some that.id = sym this.changes ∙ that.changes in
    one_of this.id that.id r p (of_invocation 14) (cc) this.refusal_is that.refusal_is

one_taken : (rows : List Invocation) (d : Demand) → IsOne (Taken rows d)
one_taken rows d r p this that =
    let both : Some this.id ≡ Some that.id = sym this.makes ∙ that.makes in
    one_of this.id that.id r p (of_invocation 19) (cc) this.refusal_is that.refusal_is

pub one_broken : (x : Case) (d : Demand) (k : Rule) → IsOne (IsBroken x d k)
one_broken x d rule.RequestIdReused r p this that = one_reused x.kept (caller_name x.settings x.caller) x.asked d r p this that
one_broken x d rule.NotFound r p this that = one_not_found x.rows x.held d r p this that
one_broken x d rule.NoUpdateToken r p this that = one_no_token x.asked d r p this that
one_broken x d rule.BadUpdateToken r p this that = one_bad_token x.settings x.asked d r p this that
one_broken x d rule.Denied r p this that = one_denied x.settings.policy x.rows x.caller d r p this that
one_broken x d rule.NotActive r p this that = one_not_active x.rows d r p this that
one_broken x d rule.DeadlineRange r p this that = one_deadline x.moment d r p this that
one_broken x d rule.Itself r p this that = one_itself d r p this that
one_broken x d rule.TooMany r p this that = this.refusal_is ∙ sym that.refusal_is
one_broken x d rule.Taken r p this that = one_taken x.rows d r p this that
