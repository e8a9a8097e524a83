-- One link that was served, and links one after the other.
use Rattle.std.proofs.Common.{◌≡◌, ℕ, ◌+◌, ◌-◌, ◌<◌, inl, inr, List, [], ◌∷◌, ◌++◌, Option, Some, None, Ok, refl, sym, ap, ◌∙◌, subst, append_assoc, append-nil, arith}
use Rattle.std.specs.Option.{option_map, ForSome}
use Rattle.std.proofs.lemmas.List.{map-append}
use Rattle.std.specs.Borrow.{GName}
use Rattle.outside.specs.Ends.{Ends}
use Rattle.dialers.specs.Dials.{Dials, GaveFirst, Connects, with_returned}
use Rattle.tellers.specs.Exchange.{Exchange}
use Rattle.http_workers.specs.Turns.{exchanges_of}
use Rattle.http_workers.specs.Ended.{ServesLink}
use Rattle.http_workers.specs.declared.ended.Ended.{Ended}
use Rattle.door_workers.specs.Visits.{Visit, links_given, links_back, GaveFront, PassedThrough}
use Rattle.door_workers.specs.Steps.{ServesOne}

-- the exchanges on a link, as they stand in its connection
pub exchanges_in : {asked : List Exchange → Type 0} {before after : Ends} {ended : Ended} → ServesLink asked before ended after → List Exchange
exchanges_in (inl unbegun) = []
exchanges_in (inr served) = exchanges_of served.connection.turns

pub were_asked : (asked : List Exchange → Type 0) (before : Ends) (ended : Ended) (after : Ends) (how : ServesLink asked before ended after)
    → (exchanges : List Exchange) × (asked exchanges) × ServesLink (λ these. these ≡ exchanges) before ended after
were_asked asked before ended after (inl unbegun) = (
  [],
  unbegun.told,
  inl record { no_calls = unbegun.no_calls; cause_is = unbegun.cause_is; told = refl; untouched = unbegun.untouched },
)
were_asked asked before ended after (inr served) =
    let k = served.connection in (
      exchanges_of k.turns,
      k.told,
      inr record {
        connection = record {
          turns = k.turns;
          text = k.text;
          rest = k.rest;
          earlier = k.earlier;
          last = k.last;
          result = k.result;
          read = k.read;
          spelled = k.spelled;
          told = refl;
          counted = k.counted;
          few = k.few;
          sent = k.sent;
          last_is = k.last_is;
          last_write = k.last_write;
          rest_is = k.rest_is;
          reads = k.reads;
          ends = k.ends;
        };
        framed = served.framed;
      },
    )

gave_one : {L : Type 0} (before : Option (List L)) (link : L) (now : Option (List L)) → GaveFirst before link now → GaveFront before (link ∷ []) now
gave_one None link now gave = tt
gave_one (Some links) link now gave = (gave.0, gave.1, gave.2)

back_in : (before now : Option ℕ) → now ≡ option_map (λ n. n + 1) before → option_map (λ n. n - 1) now ≡ before
back_in None now same = ap (option_map (λ n. n - 1)) same
back_in (Some n) now same = ap (option_map (λ n. n - 1)) same ∙ ap Some (omega arith)

-- a link that came and was given back passed through
pub passed_one : {L : Type 0} (before between : Dials L) (visit : Visit L) → Connects before (Ok visit.given) between
    → PassedThrough before (visit ∷ []) (with_returned between visit.back)
passed_one {L} before between visit connects = record {
  gave = gave_one before.coming visit.given between.coming connects.gives;
  returned = ap (option_map (λ (links : List L). links ++ visit.back ∷ [])) connects.returned;
  out = back_in before.out between.out connects.out;
}

gave_more : {L : Type 0} (before between after : Option (List L)) (xs ys : List L) → GaveFront before xs between → GaveFront between ys after
    → GaveFront before (xs ++ ys) after
gave_more None between after xs ys first second = tt
gave_more {L} (Some links) between after xs ys first second =
    let then = subst (λ (b : Option (List L)). GaveFront b ys after) first.1 second in
    (then.0, then.1, first.2 ∙ ap (λ r. xs ++ r) then.2 ∙ sym (append_assoc xs ys then.0))

returned_more : {L : Type 0} (before : Option (List L)) (xs ys : List L)
    → option_map (λ (links : List L). links ++ ys) (option_map (λ (links : List L). links ++ xs) before) ≡ option_map (λ (links : List L). links ++ (xs ++ ys)) before
returned_more None xs ys = refl
returned_more (Some links) xs ys = ap Some (append_assoc links xs ys)

-- links passed through one after the other
pub passed_more : {L : Type 0} (before between after : Dials L) (first second : List (Visit L)) → PassedThrough before first between
    → PassedThrough between second after → PassedThrough before (first ++ second) after
passed_more {L} before between after first second one two = record {
  gave = subst (λ (links : List L). GaveFront before.coming links after.coming) (sym (map-append (λ (v : Visit L). v.given) first second))
      (gave_more before.coming between.coming after.coming (links_given first) (links_given second) one.gave two.gave);
  returned = two.returned ∙ ap (option_map (λ (links : List L). links ++ links_back second)) one.returned
      ∙ returned_more before.returned (links_back first) (links_back second)
      ∙ ap (λ (more : List L). option_map (λ (links : List L). links ++ more) before.returned) (sym (map-append (λ (v : Visit L). v.back) first second));
  out = two.out ∙ one.out;
}

pub nothing_passed : {L : Type 0} (dials : Dials L) → PassedThrough dials [] dials
nothing_passed {L} dials = record {
  gave = gave_none dials.coming;
  returned = returned_none dials.returned;
  out = refl;
}
  where
    gave_none : (coming : Option (List L)) → GaveFront coming [] coming
    gave_none None = tt
    gave_none (Some links) = (links, refl, refl)

    returned_none : (returned : Option (List L)) → returned ≡ option_map (λ (links : List L). links ++ []) returned
    returned_none None = refl
    returned_none (Some links) = ap Some (sym (append-nil links))

-- a link that came is out
pub one_out : (before now : Option ℕ) → now ≡ option_map (λ n. n + 1) before → ForSome now (λ n. 0 < n)
one_out None now same n is = absurd (cc)
one_out (Some m) now same n is = let more : n ≡ m + 1 = cc in omega (arith, more)

-- A link came, was served and was given back.
pub serves_one : {L : Type 0} (ends : L → Ends) (holds : L → List GName) (asked : List Exchange → Type 0) (before between after : Dials L) (given back : L)
    (ended : Ended) → Connects before (Ok given) between → ServesLink asked (ends given) ended (ends back) → holds back ≡ holds given
    → after ≡ with_returned between back → ServesOne ends holds asked before ended.calls after
serves_one {L} ends holds asked before between after given back ended connects how same_holds returned =
    let those = were_asked asked (ends given) ended (ends back) how in
    let visit : Visit L = record { given = given; back = back; ended = ended; exchanges = those.0 } in
    let one : ServesOne ends holds asked before ended.calls (with_returned between back) = record {
      visit = visit;
      served = record { serves = those.2; same_holds = same_holds };
      asked_these = those.1;
      calls_are = refl;
      passed = passed_one before between visit connects;
      faults = connects.cause.kept;
    } in
    subst (λ (now : Dials L). ServesOne ends holds asked before ended.calls now) (sym returned) one
