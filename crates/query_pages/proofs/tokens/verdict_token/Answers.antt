use Rattle.std.proofs.Common.{arith, ◌≡◌, ℕ, rules, List, [], ◌∷◌, Some, IfOk, length, get_or, sym, ap, ◌∙◌, subst}
use Rattle.std.specs.Int.{w32, to_le_bytes}
use Rattle.std.specs.List.{slice_get}
use Rattle.names_realms.specs.Names.{IsTestId}
use Rattle.page_tokens.specs.Cursors.{verdict_contents, verdict_parts}
use Rattle.page_tokens.specs.Tokens.{IsToken}
use Rattle.verdict_lists.specs.Orders.{Key}
use Rattle.verdict_lists.specs.Statuses.{status_number}
use Rattle.verdict_lists.specs.Verdicts.{first_key}
use Rattle.verdict_lists.specs.World.{world_of}
use Rattle.verdict_pages.specs.Keys.{verdict_place}
use Rattle.query_pages.specs.Tokens.{IsReadAs, token_text, verdict_cursor}
use Rattle.query_pages.proofs.RowLemmas.{first_key_is}
use Rattle.query_pages.proofs.TokenLemmas.{ok_map, read_as}
use Rattle.query_pages.proofs.tokens.verdict_token.Goals as goal

pub token-requires : goal.token-requires
token-requires c = (
  ap length c.as_slice-2.ensures,
  (
    subst IsTestId (sym c.as_slice-3.ensures.text) c.as_slice-3.ensures.grammar,
    (c.label_bytes.ensures.len, (search rules, tt)),
  ),
)

pub returns-clause-text : goal.returns-clause-text
returns-clause-text c =
    let one = c.as_slice-2.result.now in
    let two = c.as_slice-3.result.now in
    let three = c.label_bytes.result.now in
    let four = c.as_slice-4.result.now in
    let verdict = c.args.verdict.now in
    let row = c.row-first.result.now in
    let world = world_of c.args.view.now in
    let there : slice_get world.results (get_or verdict.results 0 0) ≡ Some row =
    subst (λ (xs : List ℕ). slice_get world.results (get_or xs 0 0) ≡ Some row) c.as_slice.ensures c.row-first.ensures in
    let key = first_key_is world verdict.results row c.requires.some there in
    let test : two ≡ (first_key world verdict.results).test = c.as_slice-3.ensures.text ∙ sym (ap (λ (k : Key). k.test) key) in
    let status : one ≡ status_number verdict.status ∷ [] = c.as_slice-2.ensures ∙ ap (λ (n : ℕ). n ∷ []) c.number.ensures in
    let ordinal : four ≡ to_le_bytes w32 verdict.ordinal = c.as_slice-4.ensures ∙ c.to_le_bytes-ordinal.ensures in
    let contents : (one ∷ two ∷ three ∷ four ∷ []) ≡ verdict_contents (verdict_cursor (verdict_place world verdict)) =
    ap (λ (x : List ℕ). x ∷ two ∷ three ∷ four ∷ []) status
    ∙ ap (λ (x : List ℕ). (status_number verdict.status ∷ []) ∷ x ∷ three ∷ four ∷ []) test
    ∙ ap (λ (x : List ℕ). (status_number verdict.status ∷ []) ∷ (first_key world verdict.results).test ∷ x ∷ four ∷ []) c.label_bytes.ensures.bytes
    ∙ ap (λ (x : List ℕ). (status_number verdict.status ∷ []) ∷ (first_key world verdict.results).test ∷ verdict.label ∷ x ∷ []) ordinal in
    subst (λ (x : List (List ℕ)). IfOk c.token.result (λ text. text ≡ token_text c.args.query.now 1 verdict_parts x)) contents c.token.ensures.text

pub returns-clause-read : goal.returns-clause-read
returns-clause-read c =
    let one = c.as_slice-2.result.now in
    let two = c.as_slice-3.result.now in
    let three = c.label_bytes.result.now in
    let four = c.as_slice-4.result.now in
    let verdict = c.args.verdict.now in
    let row = c.row-first.result.now in
    let world = world_of c.args.view.now in
    let there : slice_get world.results (get_or verdict.results 0 0) ≡ Some row =
    subst (λ (xs : List ℕ). slice_get world.results (get_or xs 0 0) ≡ Some row) c.as_slice.ensures c.row-first.ensures in
    let key = first_key_is world verdict.results row c.requires.some there in
    let test : two ≡ (first_key world verdict.results).test = c.as_slice-3.ensures.text ∙ sym (ap (λ (k : Key). k.test) key) in
    let status : one ≡ status_number verdict.status ∷ [] = c.as_slice-2.ensures ∙ ap (λ (n : ℕ). n ∷ []) c.number.ensures in
    let ordinal : four ≡ to_le_bytes w32 verdict.ordinal = c.as_slice-4.ensures ∙ c.to_le_bytes-ordinal.ensures in
    let contents : (one ∷ two ∷ three ∷ four ∷ []) ≡ verdict_contents (verdict_cursor (verdict_place world verdict)) =
    ap (λ (x : List ℕ). x ∷ two ∷ three ∷ four ∷ []) status
    ∙ ap (λ (x : List ℕ). (status_number verdict.status ∷ []) ∷ x ∷ three ∷ four ∷ []) test
    ∙ ap (λ (x : List ℕ). (status_number verdict.status ∷ []) ∷ (first_key world verdict.results).test ∷ x ∷ four ∷ []) c.label_bytes.ensures.bytes
    ∙ ap (λ (x : List ℕ). (status_number verdict.status ∷ []) ∷ (first_key world verdict.results).test ∷ verdict.label ∷ x ∷ []) ordinal in
    let place = verdict_place world verdict in
    let told : List (List ℕ) = one ∷ two ∷ three ∷ four ∷ [] in
    ok_map c.token.result (λ text. IsToken c.args.query.now 1 verdict_parts told text) (IsReadAs c.args.query.now place)
    (λ text token. read_as c.one_key_told.ensures c.one_verdict_held.ensures c.args.query.now place told text contents (omega arith) token) c.token.ensures.token
