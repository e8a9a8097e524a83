use Rattle.std.proofs.Common.{◌≡◌, ℕ, List, Some, option_map, sym, ap, ◌∙◌, subst}
use Rattle.std.specs.Cmp.Lexicographic.{bytes_decides}
use Rattle.std.proofs.lemmas.Bool.{false≢true}
use Rattle.std.proofs.lemmas.Option.{slice_get_within}
use Rattle.kept_replies.specs.Kept.{IsWord, place_for}
use Rattle.kept_replies.proofs.FirstLemmas.{place_holds_for}
use Rattle.message_forms.proofs.TextKinds.TextLaws.{request_id_form}
use Rattle.request_demands.specs.Demands.{Demand}
use Rattle.request_demands.specs.Understood.{IsDigested}
use Rattle.request_demands.proofs.NumberLaws.{inked_word, kept_there}
use Rattle.request_demands.proofs.numbers.check_digest.Goals as goal

pub find-requires : goal.find-requires
find-requires c =
    let number = c.in-Some-number.number.now in
    subst IsWord (sym (c.as_bytes.ensures.value ∙ c.as_str.ensures.text)) (inked_word number (request_id_form number c.as_str.ensures.allowed))

pub reply-requires : goal.reply-requires
reply-requires c =
    let at : place_for c.args.name.now c.as_bytes.result.now c.args.kept.now.kept ≡ Some c.in-Some-2.place =
    sym c.in_ok-place.ensures ∙ c.in-Some-2.is in
    let there = place_holds_for c.args.name.now c.as_bytes.result.now c.args.kept.now.kept c.in-Some-2.place at in
    slice_get_within c.args.kept.now.kept c.in-Some-2.place there.0 there.1

pub returns-else-eq : goal.returns-else-eq
returns-else-eq c = λ asked is.
    let number = c.in-Some-number.number.now in
    let kept = c.args.kept.now.kept in
    let shows = sym (ap (λ (d : Demand). d.number) c.demand.view_is) ∙ ap (option_map (λ n. n.now)) c.in-Some-number.is in
    let at : place_for c.args.name.now number kept ≡ Some c.in-Some-2.place =
    ap (λ (n : List ℕ). place_for c.args.name.now n kept) (sym (c.as_bytes.ensures.value ∙ c.as_str.ensures.text))
    ∙ (sym c.in_ok-place.ensures ∙ c.in-Some-2.is) in
    let digested = subst (IsDigested asked c.args.demand.now) c.in-Some.is is in (
      c.reply.result.now,
      record {
        found = kept_there kept c.args.name.now c.args.demand.now number c.in-Some-2.place shows at ∙ c.reply.ensures;
        other = λ same.
            false≢true (sym c.if-eq.false
            ∙ (c.eq.ensures ∙ (bytes_decides c.reply.result.now.digest c.in-Some.digest).1 (same ∙ sym digested.0)));
      },
    )
