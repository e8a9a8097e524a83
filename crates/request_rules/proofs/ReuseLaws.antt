-- What is kept for numbers that no other request had.
use Rattle.std.proofs.Common.{◌≡◌, ◌≢◌, ℕ, List, Option, Some, None, refl, sym, ap, ◌∙◌, inl, inr}
use Rattle.std.specs.Str.{bytes_eq}
use Rattle.std.specs.Cmp.Lexicographic.{bytes_decides}
use Rattle.std.proofs.lemmas.Bool.{cases_Bool, false≢true}
use Rattle.kept_replies.specs.declared.reply.KeptReply.{KeptReply}
use Rattle.kept_replies.specs.Kept.{IsFree, place_for}
use Rattle.kept_replies.proofs.FirstLemmas.{none_is_free, place_holds_for}
use Rattle.call_forms.specs.declared.asked.Asked.{Asked}
use Rattle.request_demands.specs.Demands.{Demand}
use Rattle.request_demands.specs.Numbered.{IsRepeatOf, digest_of, kept_for}
use Rattle.request_demands.specs.Order.{IsUnbroken}
use Rattle.request_demands.specs.Alone.{refusal}
use Rattle.request_demands.proofs.NumberLaws.{kept_there}
use Rattle.request_rules.specs.Broken.{RequestIdReused}

-- what is kept with the digest of a request makes it a repeat, and with another one a reused number
pub found_digest : (kept : List KeptReply) (name : List ℕ) (asked : Asked) (d : Demand) (number : List ℕ) (reply : KeptReply)
    → d.number ≡ Some number → kept_for kept name d ≡ Some reply → ((k : KeptReply) → ¬ IsRepeatOf kept name asked d k)
    → IsUnbroken (RequestIdReused kept name asked d) → ⊥
found_digest kept name asked d number reply e found fresh unbroken =
    elim (cases_Bool (bytes_eq reply.digest (digest_of asked))) [
      | inl same ↦ fresh reply (record { found = found; same = (bytes_decides reply.digest (digest_of asked)).0 same })
      | inr other ↦ unbroken (refusal 7 number) (record {
        number = number;
        shows = e;
        reply = reply;
        reused = record {
          found = found;
          other = λ same. false≢true (sym other ∙ (bytes_decides reply.digest (digest_of asked)).1 same);
        };
        refusal_is = refl;
      })
    ]

free_at : (kept : List KeptReply) (name : List ℕ) (asked : Asked) (d : Demand) (number : List ℕ) (o : Option ℕ) → d.number ≡ Some number
    → place_for name number kept ≡ o → ((k : KeptReply) → ¬ IsRepeatOf kept name asked d k) → IsUnbroken (RequestIdReused kept name asked d)
    → IsFree kept name number
free_at kept name asked d number None e at fresh unbroken = none_is_free name number kept at
free_at kept name asked d number (Some place) e at fresh unbroken =
    let there = place_holds_for name number kept place at in
    absurd (found_digest kept name asked d number there.0 e (kept_there kept name d number place e at ∙ there.1) fresh unbroken)

-- for a number that is no repeat's and no other request's nothing is kept
pub free_number : (kept : List KeptReply) (name : List ℕ) (asked : Asked) (d : Demand) (number : List ℕ) → d.number ≡ Some number
    → ((k : KeptReply) → ¬ IsRepeatOf kept name asked d k) → IsUnbroken (RequestIdReused kept name asked d) → IsFree kept name number
free_number kept name asked d number e fresh unbroken =
    free_at kept name asked d number (place_for name number kept) e refl fresh unbroken
