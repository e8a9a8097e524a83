use Rattle.std.proofs.Common.{◌≤◌, ◌∙◌, ap, refl, sym, subst, length, take, arith, Err}
use Rattle.std.proofs.lemmas.Result.{err_from_is_err_and}
use Rattle.http_wire.specs.Head.{head_limit}
use Rattle.http_wire.specs.Scan.{Passed, head_end}
use Rattle.http_wire.proofs.HeadSearchLaws.{endless, undecided_passed, searched_nothing, searched_more, passed_more, finds_fault, finds_end, finds_held}
use Rattle.http_wire.proofs.head_search.find_head.Goals as goal

pub search-init : goal.search-init
search-init g c =
    let p = c.begin-progress.result in
    let none = c.begin-progress.ensures.scanned in
    record {
      searched = searched_nothing _ _;
      within = omega (arith, none);
      passed = subst (λ n. Passed (take n c.args.buffer.now) p) (sym none) c.begin-progress.ensures;
      only = refl;
      holds = refl;
    }

pub returns-in-Found-clause-finds : goal.returns-in-Found-clause-finds
returns-in-Found-clause-finds g c =
    finds_held _ _ _ _ _ c.search.invariant.searched (ap head_end (sym c.as_slice.ensures.value) ∙ c.in-Found.ensures)
    (subst (λ x. length x ≤ head_limit) c.as_slice.ensures.value c.as_slice.ensures.short)
    c.search.invariant.searched.faults c.search.invariant.searched.ends

pub returns-then-progress-eq-HEAD_LIMIT-clause-finds : goal.returns-then-progress-eq-HEAD_LIMIT-clause-finds
returns-then-progress-eq-HEAD_LIMIT-clause-finds g c =
    let passed = subst (λ x. Passed x c.in-Goes.next) c.as_slice.ensures.value c.in-Goes.ensures in
    finds_held _ _ _ _ _ c.search.invariant.searched (endless c.search.buffer c.in-Goes.next passed c.if-progress-eq-HEAD_LIMIT.true)
    (subst (λ x. length x ≤ head_limit) c.as_slice.ensures.value c.as_slice.ensures.short)
    c.search.invariant.searched.faults c.search.invariant.searched.ends

pub returns-in_err-count-clause-finds : goal.returns-in_err-count-clause-finds
returns-in_err-count-clause-finds g c =
    let passed = subst (λ x. Passed x c.in-Goes.next) c.as_slice.ensures.value c.in-Goes.ensures in
    let short = subst (λ x. length x ≤ head_limit) c.as_slice.ensures.value c.as_slice.ensures.short in
    let p = err_from_is_err_and c.from_residual.result c.from_residual.ensures.1 in
    finds_fault _ _ _ _ _ _ _ _ c.search.invariant.searched
    (undecided_passed _ _ passed c.if-progress-eq-HEAD_LIMIT.false short) c.in_err-count.ensures.filled
    c.in_err-count.ensures.short (p.1 ∙ ap Err p.2)

pub returns-then-count-eq0-clause-finds : goal.returns-then-count-eq0-clause-finds
returns-then-count-eq0-clause-finds g c =
    let passed = subst (λ x. Passed x c.in-Goes.next) c.as_slice.ensures.value c.in-Goes.ensures in
    let short = subst (λ x. length x ≤ head_limit) c.as_slice.ensures.value c.as_slice.ensures.short in
    finds_end _ _ _ _ _ _ _ _ _ c.search.invariant.searched
    (undecided_passed _ _ passed c.if-progress-eq-HEAD_LIMIT.false short) c.in_ok-count.ensures.filled
    c.in_ok-count.ensures.short passed.scanned c.if-count-eq0.true c.at_end.ensures

pub search-preserved : goal.search-preserved
search-preserved g c =
    let passed = subst (λ x. Passed x c.in-Goes.next) c.as_slice.ensures.value c.in-Goes.ensures in
    let short = subst (λ x. length x ≤ head_limit) c.as_slice.ensures.value c.as_slice.ensures.short in
    let ok = c.in_ok-count.ensures in
    let more = passed_more _ _ _ _ _ passed ok.filled.read in
    record {
      searched = searched_more _ _ _ _ _ _ _ c.search.invariant.searched
          (undecided_passed _ _ passed c.if-progress-eq-HEAD_LIMIT.false short) ok.filled c.if-count-eq0.false;
      within = more.0;
      passed = more.1;
      only = ok.only ∙ c.search.invariant.only;
      holds = ok.holds ∙ c.search.invariant.holds;
    }
