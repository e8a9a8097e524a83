use Rattle.std.proofs.Common.{◌<◌, ℕ, List, Some, length, refl, sym, ap, ◌∙◌, subst, arith}
use Rattle.std.specs.List.{slice_get}
use Rattle.std.proofs.lemmas.Bool.{false≢true}
use Rattle.std.proofs.lemmas.List.{length-map}
use Rattle.hash_chains.specs.Chains.{IsLast}
use Rattle.hash_chains.proofs.WalkLemmas.{IsAhead, ahead_first, ahead_next, ahead_within, falls, steps_left}
use Rattle.invocations.specs.declared.invocation.Invocation.{Invocation}
use Rattle.invocations.specs.Hashes.{hash_of, hashes_of}
use Rattle.invocations.specs.Rows.{ids_of}
use Rattle.invocations.proofs.RowLemmas.{place_read}
use Rattle.invocations.proofs.ids.find_id.Goals as goal

-- a place in the walk is that of a row
row_within : (rows : List Invocation) (id : List ℕ) (next : ℕ) → IsAhead hash_of (ids_of rows) id (Some next) → next < length rows
row_within rows id next here =
    omega (arith, ahead_within hash_of (ids_of rows) id next here, length-map rows (λ (row : Invocation). row.id))

pub loop-next-init : goal.loop-next-init
loop-next-init c =
    let ids = ids_of c.args.rows.now in
    ahead_first hash_of ids c.args.id.now c.latest-next.result
    (subst (λ (h : ℕ). IsLast (hashes_of ids) (length (hashes_of ids)) h c.latest-next.result) c.hash_of.ensures
    (subst (λ (hs : List ℕ). IsLast hs (length hs) c.hash_of.result c.latest-next.result) c.requires c.latest-next.ensures))

pub bounds-rows-place : goal.bounds-rows-place
bounds-rows-place c =
    let rows = c.args.rows.now in
    let id = c.args.id.now in
    row_within rows id c.in-Some.place (subst (IsAhead hash_of (ids_of rows) id) c.in-Some.is c.loop-next.invariant)

pub returns-then-has_id : goal.returns-then-has_id
returns-then-has_id c =
    let rows = c.args.rows.now in
    let id = c.args.id.now in
    let within = row_within rows id c.in-Some.place (subst (IsAhead hash_of (ids_of rows) id) c.in-Some.is c.loop-next.invariant) in
    place_read rows c.in-Some.place c.index-rows-place.result id within c.index-rows-place.is (c.has_id.ensures.0 c.if-has_id.true)

pub earlier-next-requires : goal.earlier-next-requires
earlier-next-requires c =
    let rows = c.args.rows.now in
    let id = c.args.id.now in
    let within = ahead_within hash_of (ids_of rows) id c.in-Some.place (subst (IsAhead hash_of (ids_of rows) id) c.in-Some.is c.loop-next.invariant) in
    omega (arith, within, ap (λ (hs : List ℕ). length hs) c.requires, length-map (ids_of rows) hash_of)

pub loop-next-smaller : goal.loop-next-smaller
loop-next-smaller c =
    let ids = ids_of c.args.rows.now in
    let id = c.args.id.now in
    let place = c.in-Some.place in
    let before = c.earlier-next.result in
    let here = subst (IsAhead hash_of ids id) c.in-Some.is c.loop-next.invariant in
    let last = c.earlier-next.ensures (hash_of id) (ap (λ (hs : List ℕ). slice_get hs place) c.requires ∙ here.0) in
    subst (λ o. steps_left before < steps_left o) (sym c.in-Some.is) (falls c.args.chains.now.hashes place (hash_of id) before last)

pub loop-next-preserved : goal.loop-next-preserved
loop-next-preserved c =
    let rows = c.args.rows.now in
    let ids = ids_of rows in
    let id = c.args.id.now in
    let place = c.in-Some.place in
    let row = c.index-rows-place.result in
    let before = c.earlier-next.result in
    let here = subst (IsAhead hash_of ids id) c.in-Some.is c.loop-next.invariant in
    let last = c.earlier-next.ensures (hash_of id) (ap (λ (hs : List ℕ). slice_get hs place) c.requires ∙ here.0) in
    ahead_next hash_of ids id row.id place before here
    (place_read rows place row row.id (row_within rows id place here) c.index-rows-place.is refl)
    (λ e. false≢true (sym c.if-has_id.false ∙ c.has_id.ensures.1 e))
    (subst (λ (hs : List ℕ). IsLast hs place (hash_of id) before) c.requires last)
