use Rattle.std.proofs.Common.{◌≡◌, ℕ, List, [], ◌∷◌, sym, ap, ◌∙◌}
use Rattle.page_tokens.specs.Cursors.{result_contents, result_parts}
use Rattle.page_tokens.specs.Tokens.{IsToken}
use Rattle.invocations.specs.declared.invocation.Invocation.{Invocation}
use Rattle.verdict_lists.specs.Orders.{Key, id_at, no_key, result_key}
use Rattle.verdict_lists.specs.World.{world_of}
use Rattle.verdict_lists.proofs.VerdictLemmas.{mapped_or}
use Rattle.verdict_pages.specs.Keys.{result_place}
use Rattle.query_pages.specs.Tokens.{IsResultReadAs, result_cursor}
use Rattle.query_pages.proofs.TokenLemmas.{ok_map, result_read_as}
use Rattle.query_pages.proofs.tokens.result_token.Goals as goal

pub returns-clause-read : goal.returns-clause-read
returns-clause-read c =
    let one = c.as_slice.result.now in
    let two = c.as_slice-2.result.now in
    let three = c.as_slice-3.result.now in
    let row = c.row-row.result.now in
    let holder = c.row-holder.result.now in
    let world = world_of c.args.view.now in
    let place = result_place world c.args.place in
    let key = mapped_or (result_key world) world.results c.args.place row no_key c.row-row.ensures in
    let id : id_at world row.holder ≡ holder.id = mapped_or (λ (i : Invocation). i.id) world.invocations row.holder holder [] c.row-holder.ensures in
    let invocation : one ≡ place.invocation = c.as_slice.ensures.text ∙ sym id ∙ sym (ap (λ (k : Key). k.invocation) key) in
    let test : two ≡ place.test = c.as_slice-2.ensures.text ∙ sym (ap (λ (k : Key). k.test) key) in
    let result : three ≡ place.result = c.as_slice-3.ensures.text ∙ sym (ap (λ (k : Key). k.id) key) in
    let told : List (List ℕ) = one ∷ two ∷ three ∷ [] in
    let contents : told ≡ result_contents (result_cursor place) =
    ap (λ (x : List ℕ). x ∷ two ∷ three ∷ []) invocation
    ∙ ap (λ (x : List ℕ). place.invocation ∷ x ∷ three ∷ []) test
    ∙ ap (λ (x : List ℕ). place.invocation ∷ place.test ∷ x ∷ []) result in
    ok_map c.token.result (λ text. IsToken c.args.query.now 2 result_parts told text) (IsResultReadAs c.args.query.now place)
    (λ text token. result_read_as c.one_key_told.ensures c.one_result_held.ensures c.args.query.now place told text contents token) c.token.ensures.token
