-- Rows that are kept in tables: what is reached is there, and has its names alone.
use Rattle.std.proofs.Common.{◌≡◌, ◌<◌, ℕ, zero, suc, List, [], ◌∷◌, map, length, get_or, Some, None, refl, sym, ap, ◌∙◌, arith}
use Rattle.std.specs.List.{slice_get}
use Rattle.std.specs.Ordering.{ordering_then}
use Rattle.std.specs.Cmp.Lexicographic.{slice_cmp}
use Rattle.std.specs.Ordering.{nat_cmp}
use Rattle.std.specs.declared.cmp.Ordering.TheVariants.{Equal}
use Rattle.std.proofs.lemmas.List.Elements.{recursion_from_All}
use Rattle.inclusion_graph.specs.declared.edge.Edge.{Edge}
use Rattle.inclusion_graph.specs.Walks.{IsReached}
use Rattle.inclusion_graph.proofs.WalkLemmas.{along}
use Rattle.invocations.specs.Rows.{ids_of}
use Rattle.test_results.specs.Results.{Key as ResultName, key_of}
use Rattle.lists.proofs.OrderLemmas.{same_text, then_equal}
use Rattle.verdict_lists.specs.World.{World, AreRoots, IsKept, IsReachedResult}
use Rattle.verdict_lists.specs.Orders.{Key, id_at, no_key, result_key, result_key_at}
use Rattle.verdict_lists.specs.Listing.{names_order}
use Rattle.verdict_lists.proofs.ListLemmas.{in_from, every_at}
use Rattle.verdict_lists.proofs.VerdictLemmas.{mapped_or}

-- what is reached is an invocation that is there
pub reached_within : (world : World) (roots : List ℕ) (node : ℕ) → IsKept world → AreRoots world roots → IsReached world.edges roots node
    → node < length world.invocations
reached_within world roots node kept are h =
    let n = length world.invocations in
    along world.edges (λ m. m < n)
    (λ a b p edge. every_at (λ (e : Edge). e.to < n) world.edges (recursion_from_All (λ (e : Edge). e.to < n) world.edges kept.to)
    (record { from = a; to = b }) (in_from world.edges (record { from = a; to = b }) edge))
    h.2.0 h.0 node h.2.1
    (every_at (λ (root : ℕ). root < n) roots (recursion_from_All (λ (root : ℕ). root < n) roots are) h.0 (in_from roots h.0 h.1))

pub got_or : {X : Type 0} (xs : List X) (k : ℕ) (d : X) → k < length xs → slice_get xs k ≡ Some (get_or xs k d)
got_or [] k d h = absurd (omega arith)
got_or (x ∷ xs) zero d h = refl
got_or (x ∷ xs) (suc k) d h = got_or xs k d (omega arith)

pub got_mapped : {X Y : Type 0} (f : X → Y) (xs : List X) (k : ℕ) (x : X) → slice_get xs k ≡ Some x → slice_get (map f xs) k ≡ Some (f x)
got_mapped f [] k x e = let never : None ≡ Some x = e in cc
got_mapped f (y ∷ ys) zero x e = let s : y ≡ x = cc in ap (λ z. Some (f z)) s
got_mapped f (y ∷ ys) (suc k) x e = got_mapped f ys k x e

mapped_length : {X Y : Type 0} (f : X → Y) (xs : List X) → length (map f xs) ≡ length xs
mapped_length f [] = refl
mapped_length f (x ∷ xs) = let e = mapped_length f xs in omega arith

same_names : (a b : ResultName) → a.holder ≡ b.holder → a.test ≡ b.test → a.id ≡ b.id → a ≡ b
same_names a b h t i =
    let with_holder : ℕ → ResultName = λ x. record { holder = x; test = a.test; id = a.id } in
    let with_test : List ℕ → ResultName = λ x. record { holder = b.holder; test = x; id = a.id } in
    let with_id : List ℕ → ResultName = λ x. record { holder = b.holder; test = b.test; id = x } in
    ap with_holder h ∙ ap with_test t ∙ ap with_id i

-- no two reached results have the same names
pub one_named : (world : World) (roots : List ℕ) → IsKept world → AreRoots world roots → (p q : ℕ) → IsReachedResult world roots p
    → IsReachedResult world roots q → names_order (result_key_at world p) (result_key_at world q) ≡ Equal → p ≡ q
one_named world roots kept are p q r s e =
    let row = r.0 in
    let other = s.0 in
    let one : result_key_at world p ≡ result_key world row = mapped_or (result_key world) world.results p row no_key r.1 in
    let two : result_key_at world q ≡ result_key world other = mapped_or (result_key world) world.results q other no_key s.1 in
    let agree : names_order (result_key world row) (result_key world other) ≡ Equal =
    sym (ap (λ (k : Key). names_order k (result_key_at world q)) one ∙ ap (names_order (result_key world row)) two) ∙ e in
    let first = then_equal (slice_cmp nat_cmp (id_at world row.holder) (id_at world other.holder))
    (ordering_then (slice_cmp nat_cmp row.test other.test) (slice_cmp nat_cmp row.result other.result)) agree in
    let rest = then_equal (slice_cmp nat_cmp row.test other.test) (slice_cmp nat_cmp row.result other.result) first.1 in
    let ids = ids_of world.invocations in
    let count : length ids ≡ length world.invocations = mapped_length (λ row. row.id) world.invocations in
    let in_one : row.holder < length ids = omega (arith, count, reached_within world roots row.holder kept are r.2) in
    let in_two : other.holder < length ids = omega (arith, count, reached_within world roots other.holder kept are s.2) in
    let same_id : id_at world row.holder ≡ id_at world other.holder = same_text (id_at world row.holder) (id_at world other.holder) first.0 in
    let holders : row.holder ≡ other.holder = kept.invocations.unique (id_at world other.holder) row.holder other.holder
    (got_or ids row.holder [] in_one ∙ ap (λ (x : List ℕ). Some x) same_id) (got_or ids other.holder [] in_two) in
    let names : key_of row ≡ key_of other = same_names (key_of row) (key_of other) holders
    (same_text row.test other.test rest.0) (same_text row.result other.result rest.1) in
    kept.results.unique (key_of other) p q
    (got_mapped key_of world.results p row r.1 ∙ ap (λ (x : ResultName). Some x) names) (got_mapped key_of world.results q other s.1)
