-- The configuration under which the workload runs: a secret of twenty bytes 0x0b, one user, who
-- shows the token `load`, and all permissions for this user in the project `work`.
use Rattle.std.specs.Prelude.{ℕ, List, ◌++◌, codes}

abbrev pub line : List ℕ → List ℕ
line text = text ++ codes "\n"

-- the names of all permissions
abbrev pub every_permission : List ℕ
every_permission =
    codes "'resultdb.invocations.create'"
    ++ codes ", 'resultdb.invocations.createWithReservedID'"
    ++ codes ", 'resultdb.invocations.get'"
    ++ codes ", 'resultdb.invocations.include'"
    ++ codes ", 'resultdb.testResults.get'"
    ++ codes ", 'resultdb.testResults.list'"
    ++ codes ", 'resultdb.testResults.listLimited'"
    ++ codes ", 'resultdb.testExonerations.get'"
    ++ codes ", 'resultdb.testExonerations.list'"
    ++ codes ", 'resultdb.testExonerations.listLimited'"
    ++ codes ", 'resultdb.artifacts.get'"
    ++ codes ", 'resultdb.artifacts.list'"

unfoldable pub policy_text : List ℕ
policy_text =
    line (codes "secret = '0b0b0b0b0b0b0b0b0b0b0b0b0b0b0b0b0b0b0b0b'")
    ++ line (codes "[user.load]")
    ++ line (codes "token = 'load'")
    ++ line (codes "[role.every]")
    ++ line (codes "permissions = [" ++ every_permission ++ codes "]")
    ++ line (codes "[realm.'work:@root']")
    ++ line (codes "bindings = [{ role = 'every', principals = ['user:load'] }]")
