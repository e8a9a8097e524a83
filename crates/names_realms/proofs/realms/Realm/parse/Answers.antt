use Rattle.std.proofs.Common.{◌≡◌, Some, sym, ◌∙◌}
use Rattle.names_realms.specs.Realms.{realm_fault}
use Rattle.names_realms.proofs.RealmLemmas.{realm_fault-None, IsRealm-realm_fault, IsRealm-utf8}
use Rattle.names_realms.proofs.realms.Realm.parse.Goals as goal

pub returns-in-Some-clause-refused : goal.returns-in-Some-clause-refused
returns-in-Some-clause-refused c _ is =
    let none = IsRealm-realm_fault c.args.text.now is in
    let some : realm_fault c.args.text.now ≡ Some c.in-Some.fault = sym c.fault_of_realm.ensures ∙ c.in-Some.is in
    cc

pub owned_text-requires : goal.owned_text-requires
owned_text-requires c =
    IsRealm-utf8 c.args.text.now (realm_fault-None c.args.text.now (sym c.fault_of_realm.ensures ∙ c.in_default.is))

pub invariant_of-result : goal.invariant_of-result
invariant_of-result c =
    rw c.in_ok-text.ensures (realm_fault-None c.args.text.now (sym c.fault_of_realm.ensures ∙ c.in_default.is))

pub returns-clause-ok : goal.returns-clause-ok
returns-clause-ok c =
    (c.in_ok-text.ensures, realm_fault-None c.args.text.now (sym c.fault_of_realm.ensures ∙ c.in_default.is))
