use Rattle.std.proofs.Common.{◌<◌, ℕ, List, Some, length, sym, ap, ◌∙◌, subst, arith}
use Rattle.std.specs.List.{slice_get}
use Rattle.std.proofs.lemmas.Bool.{false≢true}
use Rattle.std.proofs.lemmas.List.{length-map}
use Rattle.hash_chains.specs.Chains.{IsLast}
use Rattle.hash_chains.proofs.WalkLemmas.{IsAhead, ahead_first, ahead_next, ahead_within, falls, steps_left}
use Rattle.test_results.specs.Hashes.{hash_of, hashes_of}
use Rattle.test_results.specs.Results.{key_of, keys_of, named}
use Rattle.test_results.proofs.BatchLemmas.{key_is}
use Rattle.test_results.proofs.key_places.find_key.Goals as goal

pub loop-next-init : goal.loop-next-init
loop-next-init c =
    let keys = keys_of c.args.rows.now in
    let key = named c.args.holder c.args.test.now c.args.id.now in
    ahead_first hash_of keys key c.latest-next.result
    (subst (λ (h : ℕ). IsLast (hashes_of keys) (length (hashes_of keys)) h c.latest-next.result) c.hash_of.ensures
    (subst (λ (hs : List ℕ). IsLast hs (length hs) c.hash_of.result c.latest-next.result) c.requires c.latest-next.ensures))

pub bounds-rows-place : goal.bounds-rows-place
bounds-rows-place c =
    let rows = c.args.rows.now in
    let key = named c.args.holder c.args.test.now c.args.id.now in
    let within = ahead_within hash_of (keys_of rows) key c.in-Some.place (subst (IsAhead hash_of (keys_of rows) key) c.in-Some.is c.loop-next.invariant) in
    omega (arith, within, length-map rows key_of)

pub returns-then-has_key : goal.returns-then-has_key
returns-then-has_key c =
    let rows = c.args.rows.now in
    let key = named c.args.holder c.args.test.now c.args.id.now in
    let here = subst (IsAhead hash_of (keys_of rows) key) c.in-Some.is c.loop-next.invariant in
    let within : c.in-Some.place < length rows = omega (arith, ahead_within hash_of (keys_of rows) key c.in-Some.place here, length-map rows key_of) in
    key_is rows c.in-Some.place c.index-rows-place.result within c.index-rows-place.is ∙ ap (λ k. Some k) (c.has_key.ensures.0 c.if-has_key.true)

pub earlier-next-requires : goal.earlier-next-requires
earlier-next-requires c =
    let rows = c.args.rows.now in
    let key = named c.args.holder c.args.test.now c.args.id.now in
    let here = subst (IsAhead hash_of (keys_of rows) key) c.in-Some.is c.loop-next.invariant in
    let within = ahead_within hash_of (keys_of rows) key c.in-Some.place here in
    omega (arith, within, ap (λ (hs : List ℕ). length hs) c.requires, length-map (keys_of rows) hash_of)

pub loop-next-smaller : goal.loop-next-smaller
loop-next-smaller c =
    let keys = keys_of c.args.rows.now in
    let key = named c.args.holder c.args.test.now c.args.id.now in
    let place = c.in-Some.place in
    let before = c.earlier-next.result in
    let here = subst (IsAhead hash_of keys key) c.in-Some.is c.loop-next.invariant in
    let last = c.earlier-next.ensures (hash_of key) (ap (λ (hs : List ℕ). slice_get hs place) c.requires ∙ here.0) in
    subst (λ o. steps_left before < steps_left o) (sym c.in-Some.is) (falls c.args.chains.now.hashes place (hash_of key) before last)

pub loop-next-preserved : goal.loop-next-preserved
loop-next-preserved c =
    let rows = c.args.rows.now in
    let keys = keys_of rows in
    let key = named c.args.holder c.args.test.now c.args.id.now in
    let place = c.in-Some.place in
    let row = c.index-rows-place.result in
    let before = c.earlier-next.result in
    let here = subst (IsAhead hash_of keys key) c.in-Some.is c.loop-next.invariant in
    let within : place < length rows = omega (arith, ahead_within hash_of keys key place here, length-map rows key_of) in
    let last = c.earlier-next.ensures (hash_of key) (ap (λ (hs : List ℕ). slice_get hs place) c.requires ∙ here.0) in
    ahead_next hash_of keys key (key_of row) place before here (key_is rows place row within c.index-rows-place.is)
    (λ e. false≢true (sym c.if-has_key.false ∙ c.has_key.ensures.1 e))
    (subst (λ (hs : List ℕ). IsLast hs place (hash_of key) before) c.requires last)
