-- Pages that are followed to the end.
use Rattle.std.specs.Prelude.{◌≡◌, ◌<◌, ◌^◌, ℕ, List, [], ◌∷◌, Some, MatchOption}
use Rattle.page_tokens.specs.declared.kinds.ResultCursor.{ResultCursor}
use Rattle.page_tokens.specs.declared.kinds.VerdictCursor.{VerdictCursor}
use Rattle.page_tokens.specs.Cursors.{result_contents, result_parts, verdict_contents, verdict_parts}
use Rattle.page_tokens.specs.Tokens.{IsToken}
use Rattle.policy_tables.specs.declared.tables.PolicyTables.{PolicyTables}
use Rattle.verdict_lists.specs.World.{World}
use Rattle.query_pages.specs.declared.queries.ResultQuery.{ResultQuery}
use Rattle.query_pages.specs.declared.queries.VerdictQuery.{VerdictQuery}
use Rattle.query_pages.specs.Pages.{IsResultPage, IsVerdictPage, ResultsGoOn, VerdictsGoOn}
use Rattle.query_pages.specs.Seen.{SeenRows, SeenVerdicts}

-- Pages of a query over a world that stays, of any sizes, one behind the other: the last one has no
-- token, and each other one a token that is read as the cursor with which the next is asked.
abbrev pub AreFollowed : World → PolicyTables → ℕ → VerdictQuery → List SeenVerdicts → Type 0
AreFollowed world policy caller query [] = ⊥
AreFollowed world policy caller query (page ∷ pages) =
    (size : ℕ) × (0 < size)
    × IsVerdictPage world policy caller (record query { size = size }) page
    × VerdictsGoOn world (record query { size = size }) page
    × MatchOption page.next (pages ≡ []) (λ text. (cursor : VerdictCursor)
    × (cursor.ordinal < 2 ^ 32)
    × IsToken query.query 1 verdict_parts (verdict_contents cursor) text
    × AreFollowed world policy caller (record query { after = Some cursor }) pages)

abbrev pub AreRowsFollowed : World → PolicyTables → ℕ → ResultQuery → List SeenRows → Type 0
AreRowsFollowed world policy caller query [] = ⊥
AreRowsFollowed world policy caller query (page ∷ pages) =
    (size : ℕ) × (0 < size)
    × IsResultPage world policy caller (record query { size = size }) page
    × ResultsGoOn world (record query { size = size }) page
    × MatchOption page.next (pages ≡ []) (λ text. (cursor : ResultCursor)
    × IsToken query.query 2 result_parts (result_contents cursor) text
    × AreRowsFollowed world policy caller (record query { after = Some cursor }) pages)
