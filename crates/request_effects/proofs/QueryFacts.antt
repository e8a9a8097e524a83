-- Queries with equal parts.
use Rattle.std.proofs.Common.{◌≡◌, ℕ, List, Option, ap, ◌∙◌}
use Rattle.page_tokens.specs.declared.kinds.ResultCursor.{ResultCursor}
use Rattle.page_tokens.specs.declared.kinds.VerdictCursor.{VerdictCursor}
use Rattle.query_replies.specs.QueryPages.declared.queries.ResultQuery.{ResultQuery}
use Rattle.query_replies.specs.QueryPages.declared.queries.VerdictQuery.{VerdictQuery}

abbrev results_from : List ℕ → List ℕ → Option ResultCursor → ℕ → ResultQuery
results_from roots query after size = record { roots = roots; query = query; after = after; size = size }

pub same_result_query : (q p : ResultQuery) → q.roots ≡ p.roots → q.query ≡ p.query → q.after ≡ p.after → q.size ≡ p.size → q ≡ p
same_result_query q p roots query after size =
    ap (λ (x : List ℕ). results_from x q.query q.after q.size) roots
    ∙ (ap (λ (x : List ℕ). results_from p.roots x q.after q.size) query
    ∙ (ap (λ (x : Option ResultCursor). results_from p.roots p.query x q.size) after
    ∙ ap (λ (x : ℕ). results_from p.roots p.query p.after x) size))

abbrev verdicts_from : List ℕ → List ℕ → Option VerdictCursor → ℕ → ℕ → VerdictQuery
verdicts_from roots query after size results =
    record { roots = roots; query = query; after = after; size = size; results = results }

pub same_verdict_query : (q p : VerdictQuery) → q.roots ≡ p.roots → q.query ≡ p.query → q.after ≡ p.after → q.size ≡ p.size
    → q.results ≡ p.results → q ≡ p
same_verdict_query q p roots query after size results =
    ap (λ (x : List ℕ). verdicts_from x q.query q.after q.size q.results) roots
    ∙ (ap (λ (x : List ℕ). verdicts_from p.roots x q.after q.size q.results) query
    ∙ (ap (λ (x : Option VerdictCursor). verdicts_from p.roots p.query x q.size q.results) after
    ∙ (ap (λ (x : ℕ). verdicts_from p.roots p.query p.after x q.results) size
    ∙ ap (λ (x : ℕ). verdicts_from p.roots p.query p.after p.size x) results)))
