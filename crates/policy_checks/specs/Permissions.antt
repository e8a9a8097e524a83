-- The twelve permissions and their texts.
use Rattle.std.specs.Prelude.{ℕ, List, [], ◌∷◌, Option, codes}
use Rattle.std.specs.List.{find}
use Rattle.std.specs.Str.{bytes_eq}
use Rattle.policy_checks.specs.declared.permission.Permission.{Permission}
use Rattle.policy_checks.specs.declared.permission.Permission.TheVariants.{CreateInvocation, CreateWithReservedId, GetInvocation, IncludeInvocation, GetTestResult, ListTestResults, ListLimitedTestResults, GetTestExoneration, ListTestExonerations, ListLimitedTestExonerations, GetArtifact, ListArtifacts}

-- each permission's text
abbrev pub permission_text : Permission → List ℕ
permission_text CreateInvocation = codes "resultdb.invocations.create"
permission_text CreateWithReservedId = codes "resultdb.invocations.createWithReservedID"
permission_text GetInvocation = codes "resultdb.invocations.get"
permission_text IncludeInvocation = codes "resultdb.invocations.include"
permission_text GetTestResult = codes "resultdb.testResults.get"
permission_text ListTestResults = codes "resultdb.testResults.list"
permission_text ListLimitedTestResults = codes "resultdb.testResults.listLimited"
permission_text GetTestExoneration = codes "resultdb.testExonerations.get"
permission_text ListTestExonerations = codes "resultdb.testExonerations.list"
permission_text ListLimitedTestExonerations = codes "resultdb.testExonerations.listLimited"
permission_text GetArtifact = codes "resultdb.artifacts.get"
permission_text ListArtifacts = codes "resultdb.artifacts.list"

-- every permission
abbrev pub every_permission : List Permission
every_permission =
    CreateInvocation
    ∷ CreateWithReservedId
    ∷ GetInvocation
    ∷ IncludeInvocation
    ∷ GetTestResult
    ∷ ListTestResults
    ∷ ListLimitedTestResults
    ∷ GetTestExoneration
    ∷ ListTestExonerations
    ∷ ListLimitedTestExonerations
    ∷ GetArtifact
    ∷ ListArtifacts
    ∷ []

-- the permission whose text this is
unfoldable pub permission_of : List ℕ → Option Permission
permission_of text = find (λ p. bytes_eq (permission_text p) text) every_permission
