-- A request that is made of lawful fields is lawful, and what is written of it is read again.
use Rattle.std.proofs.Common.{◌≡◌, ◌+◌, ◌≤◌, Some, None, refl, sym, ap, subst, ◌∙◌}
use Rattle.serde_json.specs.Data.{Data}
use Rattle.json_fields.specs.Fields.{set}
use Rattle.json_fields.specs.Kinds.{an_object}
use Rattle.json_fields.proofs.FormLaws.{GivesForm}
use Rattle.json_fields.proofs.MeaningLaws.{first_right}
use Rattle.json_fields.proofs.PlainLaws.{IsPlain}
use Rattle.field_kinds.specs.Requests.{RequestForm}
use Rattle.field_kinds.proofs.ReadValues.{IsReadValue}
use Rattle.field_kinds.proofs.RequestLaws.{IsLawful, plain_within}
use Rattle.form_fields.specs.Fields.{Fields, object_kind}
use Rattle.form_fields.specs.Laws.{AreAt, AreLawful, IsLawfulKind, IsMadeOf, all_apart}
use Rattle.form_fields.specs.Members.{object_of}
use Rattle.form_fields.proofs.MemberLaws.{all_at, object_plain}

module _ {Q V : Type 0} (r : RequestForm Q) (f : Fields V) (of : IsMadeOf r f) (law : AreLawful f) where
  right : (d : Data) → r.fault d ≡ None → f.fault d ≡ None
  right d none = first_right (an_object d) (f.fault d) (sym (of.faults d) ∙ none)

  request_one : (d : Data) (a b : Q) → r.means d a → r.means d b → a ≡ b
  request_one d a b h k =
      of.whole d a h ∙ ap of.made (law.one d (of.parts a) (of.parts b) (of.told d a h) (of.told d b k)) ∙ sym (of.whole d b k)

  pub request_formed : GivesForm r.fault r.means r.OfForm
  request_formed d q none is =
      subst r.OfForm (sym (of.whole d q is)) (of.of_form (of.parts q) (law.formed d (of.parts q) (right d none) (of.told d q is)))

  request_there : (d : Data) → IsReadValue d → r.fault d ≡ None → (q : Q) × r.means d q
  request_there d is none =
      let there = law.there d is (right d none) in
      let formed = of.of_form there.0 (law.formed d there.0 (right d none) there.1) in
      (of.made there.0, of.said d (of.made there.0) formed (subst (λ (v : V). f.means d v) (sym (of.held there.0)) there.1))

  -- what is written of a request of the form is read again
  pub read_again : (q : Q) → r.OfForm q → (r.fault (r.json q) ≡ None) × r.means (r.json q) q
  read_again q is =
      let v : V = of.parts q in
      let d : Data = object_of (f.members v) in
      let at : AreAt d (f.members v) = all_at (f.members v) (ap all_apart (law.named v) ∙ of.apart) in
      let read = law.again v d (of.in_form q is) at in
      let none : r.fault d ≡ None = of.faults d ∙ rw (read.0) refl in
      subst (λ (e : Data). (r.fault e ≡ None) × r.means e q) (sym (of.members q)) (none, of.said d q is read.1)

  request_plain : (q : Q) → IsPlain (f.levels + 1) (r.json q)
  request_plain q = subst (IsPlain (f.levels + 1)) (sym (of.members q)) (object_plain f.levels (f.members (of.parts q)) (law.plain (of.parts q)))

  pub request_lawful : GivesForm r.fault r.means r.CanBeAsked → f.levels + 1 ≤ 68 → IsLawful r
  request_lawful asked few = record {
    one = request_one;
    there = request_there;
    formed = request_formed;
    asked = asked;
    plain = λ q. plain_within (f.levels + 1) 68 (r.json q) few (request_plain q);
  }

  -- the request as a kind of values, where another one has it in a field
  pub object_lawful : IsLawfulKind (object_kind r f)
  object_lawful = record {
    one = request_one;
    there = request_there;
    formed = request_formed;
    told = λ d q none is. refl;
    again = λ q is.
        let read = read_again q is in
        record { is_set = subst (λ (e : Data). set e ≡ Some e) (sym (of.members q)) refl; no_fault = read.0; meant = read.1; emptiness = refl };
    plain = request_plain;
  }
