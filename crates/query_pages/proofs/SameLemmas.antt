-- What a caller sees of two worlds that differ in nothing that the caller may see.
use Rattle.std.proofs.Common.{◌≡◌, ℤ, ℕ, Bool, true, false, if◌then◌else◌, List, [], map, take, Option, Some, None, MatchBool, MatchOption, refl, sym, ap, ◌∙◌, subst, inl, inr}
use Rattle.std.specs.List.{AllZip, slice_get}
use Rattle.std.specs.Option.{option_map}
use Rattle.std.proofs.lemmas.Bool.{cases_Bool}
use mathlib.Core.Path.{fun_ext}
use Rattle.names_realms.specs.declared.pairs.Pair.{Pair}
use Rattle.names_realms.specs.declared.states.Status.{Status}
use Rattle.policy_checks.specs.declared.permission.Permission.TheVariants.{GetTestExoneration, GetTestResult}
use Rattle.policy_tables.specs.declared.tables.PolicyTables.{PolicyTables}
use Rattle.inclusion_graph.specs.declared.edge.Edge.{Edge}
use Rattle.invocations.specs.declared.invocation.Invocation.{Invocation}
use Rattle.test_results.specs.declared.exoneration.TestExoneration.{TestExoneration}
use Rattle.test_results.specs.declared.result.TestResult.{TestResult}
use Rattle.verdict_lists.specs.declared.verdict.Verdict.{Verdict}
use Rattle.verdict_lists.specs.declared.verdict.VerdictStatus.{VerdictStatus}
use Rattle.verdict_lists.specs.Listing.{AreListed}
use Rattle.verdict_lists.specs.Orders.{Key, id_at}
use Rattle.verdict_lists.specs.Statuses.{status_number}
use Rattle.verdict_lists.specs.Verdicts.{AreVerdicts, verdict_key}
use Rattle.verdict_lists.specs.World.{World}
use Rattle.verdict_lists.proofs.LawLemmas.{one_list_is, one_listing_is}
use Rattle.verdict_masks.specs.Cuts.{IsCut}
use Rattle.verdict_masks.specs.Masks.{DifferHidden, MaySeeResult, Seen, ShowsVariant}
use Rattle.verdict_masks.proofs.CutLemmas.{one_cut_is}
use Rattle.verdict_pages.specs.Keys.{ResultPlace, VerdictPlace, by_result, by_verdict, more_results, more_verdicts, result_place, result_rows, verdict_place, verdict_rows}
use Rattle.verdict_pages.specs.Pages.{has_more, next_key, page_rows}
use Rattle.query_pages.specs.Laws.{OneResultPage, OneShownResult, OneVerdictPage, ResultPagesUnseen, ResultsUnseen, VerdictPagesUnseen}
use Rattle.query_pages.specs.Pages.{after_result, after_verdict}
use Rattle.query_pages.specs.Seen.{SeenHeld, SeenRows, SeenVerdict, SeenVerdicts}
use Rattle.query_pages.specs.Shown.{IsExplained, IsSeen, IsShownResult, IsShownVerdict, MaySeeExplanation, seen_of}
use Rattle.query_pages.specs.Tokens.{result_token, verdict_token}
use Rattle.query_pages.specs.Unseen.{AreLike, AreToldLike, DifferUnseen, IsGranted}
use Rattle.query_pages.proofs.BareLemmas.{bare, bare_exoneration, bare_result, first_same, key_same, listed_bare, verdicts_bare}
use Rattle.query_pages.proofs.ZipLemmas.{zip_at, zip_back, zip_map, zip_on, zip_once, zip_same}

-- the worlds are one without what is restricted
bare_hidden : (a b : TestResult) → DifferHidden a b → a.variant ≡ b.variant → bare_result a ≡ bare_result b
bare_hidden a b h v =
    let build : ℕ → List ℕ → List ℕ → List Pair → Bool → Status → Option ℤ → Option ℕ → TestResult = λ n t r p e s m d. record {
      holder = n;
      test = t;
      result = r;
      variant = p;
      expected = e;
      status = s;
      summary = [];
      start = m;
      duration = d;
      tags = [];
      message = [];
      properties = [];
    } in
    ap (λ n. build n a.test a.result a.variant a.expected a.status a.start a.duration) h.holder
    ∙ ap (λ t. build b.holder t a.result a.variant a.expected a.status a.start a.duration) h.test
    ∙ ap (λ r. build b.holder b.test r a.variant a.expected a.status a.start a.duration) h.result
    ∙ ap (λ p. build b.holder b.test b.result p a.expected a.status a.start a.duration) v
    ∙ ap (λ e. build b.holder b.test b.result b.variant e a.status a.start a.duration) h.expected
    ∙ ap (λ s. build b.holder b.test b.result b.variant b.expected s a.start a.duration) h.status
    ∙ ap (λ m. build b.holder b.test b.result b.variant b.expected b.status m a.duration) h.start
    ∙ ap (λ d. build b.holder b.test b.result b.variant b.expected b.status b.start d) h.duration

bare_like : (policy : PolicyTables) (caller : ℕ) (invocations : List Invocation) (a b : TestResult) → AreLike policy caller invocations a b → bare_result a ≡ bare_result b
bare_like policy caller invocations a b (inl e) = ap bare_result e
bare_like policy caller invocations a b (inr h) = bare_hidden a b h.1 h.2

bare_told_like : (policy : PolicyTables) (caller : ℕ) (invocations : List Invocation) (a b : TestExoneration) → AreToldLike policy caller invocations a b
    → bare_exoneration a ≡ bare_exoneration b
bare_told_like policy caller invocations a b (inl e) = ap bare_exoneration e
bare_told_like policy caller invocations a b (inr h) = sym (ap bare_exoneration h.1)

same_bare : (policy : PolicyTables) (caller : ℕ) (one other : World) → DifferUnseen policy caller one other → bare one ≡ bare other
same_bare policy caller one other h =
    let build : List Invocation → List Edge → List TestResult → List TestExoneration → World = λ i e r x. record { invocations = i; edges = e; results = r; exonerations = x } in
    let results = zip_map (AreLike policy caller one.invocations) bare_result one.results other.results (bare_like policy caller one.invocations) h.results in
    let exonerations = zip_map (AreToldLike policy caller one.invocations) bare_exoneration one.exonerations other.exonerations (bare_told_like policy caller one.invocations) h.exonerations in
    ap (λ i. build i one.edges (map bare_result one.results) (map bare_exoneration one.exonerations)) h.invocations
    ∙ ap (λ e. build other.invocations e (map bare_result one.results) (map bare_exoneration one.exonerations)) h.edges
    ∙ ap (λ r. build other.invocations other.edges r (map bare_exoneration one.exonerations)) results
    ∙ ap (λ x. build other.invocations other.edges (map bare_result other.results) x) exonerations

-- what is granted at a result
to_granted : (w : World) (policy : PolicyTables) (caller p : ℕ) (row : TestResult) → slice_get w.results p ≡ Some row → MaySeeResult w policy caller p
    → IsGranted policy caller GetTestResult w.invocations row.holder
to_granted w policy caller p row e may =
    let both : Some may.0 ≡ Some row = sym may.1 ∙ e in
    let same : may.0 ≡ row = cc in
    subst (λ (r : TestResult). IsGranted policy caller GetTestResult w.invocations r.holder) same (may.2, may.3, may.4)

from_granted : (w : World) (policy : PolicyTables) (caller p : ℕ) (row : TestResult) → slice_get w.results p ≡ Some row
    → IsGranted policy caller GetTestResult w.invocations row.holder → MaySeeResult w policy caller p
from_granted w policy caller p row e h = (row, e, h.0, h.1, h.2)

-- the two rows at a place
same_holder : (policy : PolicyTables) (caller : ℕ) (invocations : List Invocation) (a b : TestResult) → AreLike policy caller invocations a b → a.holder ≡ b.holder
same_holder policy caller invocations a b (inl e) = ap (λ (r : TestResult). r.holder) e
same_holder policy caller invocations a b (inr h) = h.1.holder

told_holder : (policy : PolicyTables) (caller : ℕ) (invocations : List Invocation) (a b : TestExoneration) → AreToldLike policy caller invocations a b → a.holder ≡ b.holder
told_holder policy caller invocations a b (inl e) = ap (λ (r : TestExoneration). r.holder) e
told_holder policy caller invocations a b (inr h) = sym (ap (λ (r : TestExoneration). r.holder) h.1)

-- whether a result may be seen is the same in both
may_one : (policy : PolicyTables) (caller : ℕ) (one other : World) → DifferUnseen policy caller one other → (p : ℕ) (a b : TestResult)
    → slice_get one.results p ≡ Some a → slice_get other.results p ≡ Some b → MaySeeResult other policy caller p → MaySeeResult one policy caller p
may_one policy caller one other h p a b e f may =
    let like = zip_at (AreLike policy caller one.invocations) one.results other.results p a b h.results e f in
    from_granted one policy caller p a e
    (subst (λ n. IsGranted policy caller GetTestResult one.invocations n) (sym (same_holder policy caller one.invocations a b like))
    (subst (λ i. IsGranted policy caller GetTestResult i b.holder) (sym h.invocations) (to_granted other policy caller p b f may)))

may_other : (policy : PolicyTables) (caller : ℕ) (one other : World) → DifferUnseen policy caller one other → (p : ℕ) (a b : TestResult)
    → slice_get one.results p ≡ Some a → slice_get other.results p ≡ Some b → MaySeeResult one policy caller p → MaySeeResult other policy caller p
may_other policy caller one other h p a b e f may =
    let like = zip_at (AreLike policy caller one.invocations) one.results other.results p a b h.results e f in
    from_granted other policy caller p b f
    (subst (λ n. IsGranted policy caller GetTestResult other.invocations n) (same_holder policy caller one.invocations a b like)
    (subst (λ i. IsGranted policy caller GetTestResult i a.holder) h.invocations (to_granted one policy caller p a e may)))

-- one that is masked, and one that is seen whole
masked_seen : (row : TestResult) (s : Seen) → s.masked ≡ true → IsSeen row s → (cut : List ℕ) × IsCut row.message cut × (s ≡ seen_of true cut row)
masked_seen row s e h = subst (λ m. MatchBool m ((cut : List ℕ) × IsCut row.message cut × (s ≡ seen_of true cut row)) (s ≡ seen_of false row.message row)) e h

whole_seen : (row : TestResult) (s : Seen) → s.masked ≡ false → IsSeen row s → s ≡ seen_of false row.message row
whole_seen row s e h = subst (λ m. MatchBool m ((cut : List ℕ) × IsCut row.message cut × (s ≡ seen_of true cut row)) (s ≡ seen_of false row.message row)) e h

masked_like : (policy : PolicyTables) (caller : ℕ) (invocations : List Invocation) (a b : TestResult) (s t : Seen) → AreLike policy caller invocations a b
    → s.masked ≡ true → t.masked ≡ true → IsSeen a s → IsSeen b t → s ≡ t
masked_like policy caller invocations a b s t (inl same) e f h k =
    let m = masked_seen a s e h in
    let n = masked_seen a t f (subst (λ r. IsSeen r t) (sym same) k) in
    m.2 ∙ ap (λ cut. seen_of true cut a) (one_cut_is a.message m.0 n.0 m.1 n.1) ∙ sym n.2
masked_like policy caller invocations a b s t (inr d) e f h k =
    let m = masked_seen a s e h in
    let n = masked_seen b t f k in
    let cuts : m.0 ≡ n.0 = one_cut_is a.message m.0 d.1.cut m.1 d.1.cut_of_one ∙ one_cut_is b.message d.1.cut n.0 d.1.cut_of_other n.1 in
    m.2 ∙ ap (λ cut. seen_of true cut a) cuts ∙ ap (λ (r : TestResult). seen_of true n.0 r) (bare_hidden a b d.1 d.2) ∙ sym n.2

whole_like : (policy : PolicyTables) (caller : ℕ) (invocations : List Invocation) (a b : TestResult) (s t : Seen) → AreLike policy caller invocations a b
    → IsGranted policy caller GetTestResult invocations a.holder → s.masked ≡ false → t.masked ≡ false → IsSeen a s → IsSeen b t → s ≡ t
whole_like policy caller invocations a b s t (inl same) may e f h k =
    whole_seen a s e h ∙ ap (λ (r : TestResult). seen_of false r.message r) same ∙ sym (whole_seen b t f k)
whole_like policy caller invocations a b s t (inr d) may e f h k = absurd (d.0 may)

told_when : (m : Bool) (P : Type 0) → m ≡ true → MatchBool m (P → ⊥) P → P → ⊥
told_when m P e h = subst (λ b. MatchBool b (P → ⊥) P) e h

told_unless : (m : Bool) (P : Type 0) → m ≡ false → MatchBool m (P → ⊥) P → P
told_unless m P e h = subst (λ b. MatchBool b (P → ⊥) P) e h

same_seen : (policy : PolicyTables) (caller : ℕ) (one other : World) → DifferUnseen policy caller one other → (p : ℕ) (held also : SeenHeld)
    → (x : IsShownResult one policy caller p held) → (y : IsShownResult other policy caller p also) → held.result ≡ also.result
same_seen policy caller one other h p held also x y =
    let like = zip_at (AreLike policy caller one.invocations) one.results other.results p x.row y.row h.results x.there y.there in
    let s = held.result in
    let t = also.result in
    let May : Type 0 = MaySeeResult one policy caller p in
    let Also : Type 0 = MaySeeResult other policy caller p in
    elim (cases_Bool s.masked) [
      | inl e ↦ elim (cases_Bool t.masked) [
        | inl f ↦ masked_like policy caller one.invocations x.row y.row s t like e f x.shows y.shows
        | inr f ↦ absurd (told_when s.masked May e x.tells (may_one policy caller one other h p x.row y.row x.there y.there (told_unless t.masked Also f y.tells)))
      ]
      | inr e ↦
          let may : MaySeeResult one policy caller p = told_unless s.masked May e x.tells in
          elim (cases_Bool t.masked) [
            | inl f ↦ absurd (told_when t.masked Also f y.tells (may_other policy caller one other h p x.row y.row x.there y.there may))
            | inr f ↦ whole_like policy caller one.invocations x.row y.row s t like (to_granted one policy caller p x.row x.there may) e f x.shows y.shows
          ]
    ]

pub results_unseen_is : ResultsUnseen
results_unseen_is one other policy caller p held also h x y =
    let like = zip_at (AreLike policy caller one.invocations) one.results other.results p x.row y.row h.results x.there y.there in
    let build : List ℕ → Seen → SeenHeld = λ i r. record { invocation = i; result = r } in
    let ids : id_at one x.row.holder ≡ id_at other y.row.holder =
    ap (id_at one) (same_holder policy caller one.invocations x.row y.row like)
    ∙ ap (λ (i : List Invocation). id_at (record one { invocations = i }) y.row.holder) h.invocations in
    ap (λ i. build i held.result) (x.invocation ∙ ids ∙ sym y.invocation) ∙ ap (build also.invocation) (same_seen policy caller one other h p held also x y)

-- explanations
told_text : (policy : PolicyTables) (caller : ℕ) (invocations : List Invocation) (a b : TestExoneration) → AreToldLike policy caller invocations a b
    → IsGranted policy caller GetTestExoneration invocations a.holder → a.explanation ≡ b.explanation
told_text policy caller invocations a b (inl same) may = ap (λ (r : TestExoneration). r.explanation) same
told_text policy caller invocations a b (inr d) may = absurd (d.0 may)

back_told : (policy : PolicyTables) (caller : ℕ) (one other : World) → DifferUnseen policy caller one other → (p : ℕ)
    → MaySeeExplanation other policy caller p → MaySeeExplanation one policy caller p
back_told policy caller one other h p may =
    let g = zip_back (AreToldLike policy caller one.invocations) one.exonerations other.exonerations p may.0 h.exonerations may.1 in
    let own = subst (λ n. IsGranted policy caller GetTestExoneration one.invocations n) (sym (told_holder policy caller one.invocations g.0 may.0 g.2))
    (subst (λ i. IsGranted policy caller GetTestExoneration i may.0.holder) (sym h.invocations) (may.2, may.3, may.4)) in
    (g.0, g.1, own.0, own.1, own.2)

on_told : (policy : PolicyTables) (caller : ℕ) (one other : World) → DifferUnseen policy caller one other → (p : ℕ)
    → MaySeeExplanation one policy caller p → MaySeeExplanation other policy caller p
on_told policy caller one other h p may =
    let g = zip_on (AreToldLike policy caller one.invocations) one.exonerations other.exonerations p may.0 h.exonerations may.1 in
    let own = subst (λ n. IsGranted policy caller GetTestExoneration other.invocations n) (told_holder policy caller one.invocations may.0 g.0 g.2)
    (subst (λ i. IsGranted policy caller GetTestExoneration i may.0.holder) h.invocations (may.2, may.3, may.4)) in
    (g.0, g.1, own.0, own.1, own.2)

told_same : (policy : PolicyTables) (caller : ℕ) (one other : World) → DifferUnseen policy caller one other → (p : ℕ) (a b : Option (List ℕ))
    → IsExplained one policy caller p a → IsExplained other policy caller p b → a ≡ b
told_same policy caller one other h p None None x y = refl
told_same policy caller one other h p None (Some b) x y = absurd (x (back_told policy caller one other h p y.0))
told_same policy caller one other h p (Some a) None x y = absurd (y (on_told policy caller one other h p x.0))
told_same policy caller one other h p (Some a) (Some b) x y =
    let like = zip_at (AreToldLike policy caller one.invocations) one.exonerations other.exonerations p x.0.0 y.0.0 h.exonerations x.0.1 y.0.1 in
    ap (λ (t : List ℕ). Some t) (x.1 ∙ told_text policy caller one.invocations x.0.0 y.0.0 like (x.0.2, x.0.3, x.0.4) ∙ sym y.1)

-- verdicts
may_on : (policy : PolicyTables) (caller : ℕ) (one other : World) → DifferUnseen policy caller one other → (p : ℕ) → MaySeeResult one policy caller p → MaySeeResult other policy caller p
may_on policy caller one other h p may =
    let g = zip_on (AreLike policy caller one.invocations) one.results other.results p may.0 h.results may.1 in
    may_other policy caller one other h p may.0 g.0 may.1 g.1 may

may_back : (policy : PolicyTables) (caller : ℕ) (one other : World) → DifferUnseen policy caller one other → (p : ℕ) → MaySeeResult other policy caller p → MaySeeResult one policy caller p
may_back policy caller one other h p may =
    let g = zip_back (AreLike policy caller one.invocations) one.results other.results p may.0 h.results may.1 in
    may_one policy caller one other h p g.0 may.0 g.1 may.1 may

same_variant : (S T : Type 0) → (S → T) → (T → S) → (p q : List Pair) → p ≡ q → (a b : Option (List Pair))
    → MatchOption a (S → ⊥) (λ x. S × (x ≡ p)) → MatchOption b (T → ⊥) (λ x. T × (x ≡ q)) → a ≡ b
same_variant S T f g p q e None None x y = refl
same_variant S T f g p q e None (Some b) x y = absurd (x (g y.0))
same_variant S T f g p q e (Some a) None x y = absurd (y (f x.0))
same_variant S T f g p q e (Some a) (Some b) x y = ap (λ (t : List Pair). Some t) (x.1 ∙ e ∙ sym y.1)

same_verdict : (policy : PolicyTables) (caller count : ℕ) (one other : World) → DifferUnseen policy caller one other → (v : Verdict) (a b : SeenVerdict)
    → IsShownVerdict one policy caller count v a → IsShownVerdict other policy caller count v b → a ≡ b
same_verdict policy caller count one other h v a b x y =
    let key : verdict_key one v ≡ verdict_key other v = first_same one other (same_bare policy caller one other h) v.results in
    let test : a.test ≡ b.test = x.test ∙ ap (λ (k : Key). k.test) key ∙ sym y.test in
    let variant : a.variant ≡ b.variant = same_variant (ShowsVariant one policy caller v) (ShowsVariant other policy caller v)
    (λ s. (s.0, s.1, may_on policy caller one other h s.0 s.2)) (λ s. (s.0, s.1, may_back policy caller one other h s.0 s.2))
    (verdict_key one v).pairs (verdict_key other v).pairs (ap (λ (k : Key). k.pairs) key) a.variant b.variant x.variant y.variant in
    let results : a.results ≡ b.results = zip_same (IsShownResult one policy caller) (IsShownResult other policy caller) (take count v.results) a.results b.results
    (λ p m n s t. results_unseen_is one other policy caller p m n h s t) x.results y.results in
    let exonerations : a.exonerations ≡ b.exonerations = zip_same (IsExplained one policy caller) (IsExplained other policy caller) v.exonerations a.exonerations b.exonerations
    (λ p m n s t. told_same policy caller one other h p m n s t) x.exonerations y.exonerations in
    let build : List ℕ → Option (List Pair) → List ℕ → VerdictStatus → List SeenHeld → List (Option (List ℕ)) → SeenVerdict =
    λ t o l s r e. record { test = t; variant = o; label = l; status = s; results = r; exonerations = e } in
    ap (λ t. build t a.variant a.label a.status a.results a.exonerations) test
    ∙ ap (λ o. build b.test o a.label a.status a.results a.exonerations) variant
    ∙ ap (λ l. build b.test b.variant l a.status a.results a.exonerations) (x.label ∙ sym y.label)
    ∙ ap (λ s. build b.test b.variant b.label s a.results a.exonerations) (x.status ∙ sym y.status)
    ∙ ap (λ r. build b.test b.variant b.label b.status r a.exonerations) results
    ∙ ap (λ e. build b.test b.variant b.label b.status b.results e) exonerations

-- pages
same_places : (one other : World) → bare one ≡ bare other → verdict_place one ≡ verdict_place other
same_places one other e = fun_ext (λ (v : Verdict).
    let build : List ℕ → VerdictPlace = λ t. record { status = status_number v.status; test = t; label = v.label; ordinal = v.ordinal } in
    ap (λ (k : Key). build k.test) (first_same one other e v.results))

same_result_places : (one other : World) → bare one ≡ bare other → result_place one ≡ result_place other
same_result_places one other e = fun_ext (λ (p : ℕ).
    let build : Key → ResultPlace = λ k. record { invocation = k.invocation; test = k.test; result = k.id } in
    ap build (key_same one other e p))

pub verdict_pages_unseen_is : VerdictPagesUnseen
verdict_pages_unseen_is one other policy caller query page also h x y =
    let e = same_bare policy caller one other h in
    let list : x.list ≡ y.list = one_list_is (bare other) query.roots x.list y.list
    (subst (λ w. AreVerdicts w query.roots x.list) e (verdicts_bare one query.roots x.list x.are)) (verdicts_bare other query.roots y.list y.are) in
    let key : verdict_place one ≡ verdict_place other = same_places one other e in
    let after = after_verdict query in
    let size = query.size in
    let rows : verdict_rows one x.list after size ≡ verdict_rows other y.list after size =
    ap (λ (k : Verdict → VerdictPlace). page_rows by_verdict k x.list after size) key ∙ ap (λ l. page_rows by_verdict (verdict_place other) l after size) list in
    let more : more_verdicts one x.list after size ≡ more_verdicts other y.list after size =
    ap (λ (k : Verdict → VerdictPlace). has_more by_verdict k x.list after size) key ∙ ap (λ l. has_more by_verdict (verdict_place other) l after size) list in
    let next : next_key by_verdict (verdict_place one) x.list after size ≡ next_key by_verdict (verdict_place other) y.list after size =
    ap (λ (k : Verdict → VerdictPlace). next_key by_verdict k x.list after size) key ∙ ap (λ l. next_key by_verdict (verdict_place other) l after size) list in
    let token : Bool → Option VerdictPlace → Option (List ℕ) = λ m k. if m then option_map (verdict_token query.query) k else None in
    let verdicts : page.verdicts ≡ also.verdicts = zip_same (IsShownVerdict one policy caller query.results) (IsShownVerdict other policy caller query.results)
    (verdict_rows other y.list after size) page.verdicts also.verdicts (λ v m n s t. same_verdict policy caller query.results one other h v m n s t)
    (subst (λ l. AllZip (IsShownVerdict one policy caller query.results) l page.verdicts) rows x.verdicts) y.verdicts in
    let build : List SeenVerdict → Option (List ℕ) → SeenVerdicts = λ v n. record { verdicts = v; next = n } in
    ap (λ v. build v page.next) verdicts
    ∙ ap (build also.verdicts) (x.next ∙ ap (λ m. token m (next_key by_verdict (verdict_place one) x.list after size)) more
    ∙ ap (token (more_verdicts other y.list after size)) next ∙ sym y.next)

pub result_pages_unseen_is : ResultPagesUnseen
result_pages_unseen_is one other policy caller query page also h x y =
    let e = same_bare policy caller one other h in
    let list : x.list ≡ y.list = one_listing_is (bare other) query.roots x.list y.list
    (subst (λ w. AreListed w query.roots x.list) e (listed_bare one query.roots x.list x.are)) (listed_bare other query.roots y.list y.are) in
    let key : result_place one ≡ result_place other = same_result_places one other e in
    let after = after_result query in
    let size = query.size in
    let rows : result_rows one x.list after size ≡ result_rows other y.list after size =
    ap (λ (k : ℕ → ResultPlace). page_rows by_result k x.list after size) key ∙ ap (λ l. page_rows by_result (result_place other) l after size) list in
    let more : more_results one x.list after size ≡ more_results other y.list after size =
    ap (λ (k : ℕ → ResultPlace). has_more by_result k x.list after size) key ∙ ap (λ l. has_more by_result (result_place other) l after size) list in
    let next : next_key by_result (result_place one) x.list after size ≡ next_key by_result (result_place other) y.list after size =
    ap (λ (k : ℕ → ResultPlace). next_key by_result k x.list after size) key ∙ ap (λ l. next_key by_result (result_place other) l after size) list in
    let token : Bool → Option ResultPlace → Option (List ℕ) = λ m k. if m then option_map (result_token query.query) k else None in
    let shown : page.rows ≡ also.rows = zip_same (IsShownResult one policy caller) (IsShownResult other policy caller)
    (result_rows other y.list after size) page.rows also.rows (λ p m n s t. results_unseen_is one other policy caller p m n h s t)
    (subst (λ l. AllZip (IsShownResult one policy caller) l page.rows) rows x.rows) y.rows in
    let build : List SeenHeld → Option (List ℕ) → SeenRows = λ r n. record { rows = r; next = n } in
    ap (λ r. build r page.next) shown
    ∙ ap (build also.rows) (x.next ∙ ap (λ m. token m (next_key by_result (result_place one) x.list after size)) more
    ∙ ap (token (more_results other y.list after size)) next ∙ sym y.next)

-- a world beside itself
unseen_itself : (policy : PolicyTables) (caller : ℕ) (world : World) → DifferUnseen policy caller world world
unseen_itself policy caller world = record {
  invocations = refl;
  edges = refl;
  results = zip_once (AreLike policy caller world.invocations) world.results (λ r. inl refl);
  exonerations = zip_once (AreToldLike policy caller world.invocations) world.exonerations (λ r. inl refl);
}

pub one_verdict_page_is : OneVerdictPage
one_verdict_page_is world policy caller query one other x y =
    verdict_pages_unseen_is world world policy caller query one other (unseen_itself policy caller world) x y

pub one_result_page_is : OneResultPage
one_result_page_is world policy caller query one other x y =
    result_pages_unseen_is world world policy caller query one other (unseen_itself policy caller world) x y

pub one_shown_result_is : OneShownResult
one_shown_result_is world policy caller p one other x y =
    results_unseen_is world world policy caller p one other (unseen_itself policy caller world) x y
