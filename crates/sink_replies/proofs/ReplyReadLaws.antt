-- A reply that was read: its head and its body.
use Rattle.std.proofs.Common.{◌≡◌, ℕ, ◌<◌, ◌≤◌, List, [], ◌++◌, length, take, drop, Result, Ok, Err, refl, sym, ap, ◌∙◌, subst, append-nil, append_assoc}
use Rattle.std.proofs.Common.{⊎_elim}
use Rattle.std.proofs.lemmas.Bool.{cases_lt}
use Rattle.std.proofs.Math.Seq.{drop-append_seam}
use Rattle.fault_counts.specs.Causes.{Rose, counted}
use Rattle.outside.specs.Ends.{Incoming}
use Rattle.outside.proofs.Taken.{gave_both}
use Rattle.httparse.specs.Grammar.{print_response}
use Rattle.sink_replies.specs.Judged.{IsInFront, IsBegun}
use Rattle.sink_replies.specs.Replies.{BeginsNoReply, IsUnfinished, IsReplyHead}
use Rattle.sink_replies.specs.Replies.IsUnfinished.{in_head, in_body}
use Rattle.sink_replies.specs.Reading.{ReadsReply}
use Rattle.sink_replies.specs.Reads.{FindsHead, SkipsBody}
use Rattle.sink_replies.specs.declared.heads.ReplyHead.{ReplyHead}
use Rattle.sink_replies.specs.declared.reads.ReplyEnd.{ReplyEnd}
use Rattle.sink_replies.specs.declared.reads.ReplyEnd.TheVariants.{BadReply, Ended, ReadFault}

begun : (bytes : List ℕ) → IsBegun bytes → IsUnfinished bytes
begun bytes x = in_head x.may_become x.none

-- nothing is read where what is held is no reply that goes on
head_needed : {A : Type 0} (held : List ℕ) → (¬ (IsBegun held) → A) → ¬ (IsUnfinished held) → A
head_needed held f none = f (λ x. none (begun held x))

-- no head was found
pub without_head : (held now : List ℕ) (had left : Incoming) (e : ReplyEnd) (r : Result ℕ ReplyEnd) → r ≡ Err e
    → FindsHead held had (Err e) now left → ReadsReply held had r now left
without_head held now had left e r was x =
    subst (λ (z : Result ℕ ReplyEnd). ReadsReply held had z now left) (sym was) (at_end e x)
  where
    at_end : (f : ReplyEnd) → FindsHead held had (Err f) now left → ReadsReply held had (Err f) now left
    at_end (BadReply end) y = record {
      got = y.got;
      gave = y.gave;
      answer = subst (λ z. (end ≤ length z) × BeginsNoReply (take end z)) y.behind y.answer;
      faults = y.faults;
      ends = y.ends;
      must_read = head_needed held y.must_read;
    }
    at_end Ended y = record {
      got = y.got;
      gave = y.gave;
      answer = (begun (held ++ y.got) (subst (λ z. IsBegun z) y.behind y.answer.0), y.answer.1);
      faults = y.faults;
      ends = y.ends;
      must_read = head_needed held y.must_read;
    }
    at_end ReadFault y = record {
      got = y.got;
      gave = y.gave;
      answer = begun (held ++ y.got) (subst (λ z. IsBegun z) y.behind y.answer);
      faults = y.faults;
      ends = y.ends;
      must_read = head_needed held y.must_read;
    }

-- what stands behind the head in front
pub behind_head : (bytes later : List ℕ) (head : ReplyHead) (front : IsInFront bytes head) → later ≡ drop head.len bytes → later ≡ front.rest
behind_head bytes later head front is =
    is ∙ ap (λ n. drop n bytes) front.len_is ∙ ap (drop (length (print_response front.h))) front.parts
    ∙ drop-append_seam (print_response front.h) front.rest

-- all the bytes of the call: those of the head, and behind it
joined : (held now later : List ℕ) (had between left : Incoming) (head : ReplyHead) (x : FindsHead held had (Ok head) now between) (got : List ℕ)
    → later ≡ drop head.len now → held ++ (x.got ++ got) ≡ print_response (x.answer).h ++ (later ++ got)
joined held now later had between left head x got is =
    sym (append_assoc held x.got got) ∙ ap (λ z. z ++ got) (sym x.behind ∙ x.answer.parts)
    ∙ append_assoc (print_response x.answer.h) x.answer.rest got
    ∙ ap (λ z. print_response x.answer.h ++ (z ++ got)) (sym (behind_head now later head x.answer is))

-- nothing is read where the reply is held
all_needed : {T : Type 0} (r : Result T ReplyEnd) (held now later last : List ℕ) (had between left : Incoming) (head : ReplyHead)
    (x : FindsHead held had (Ok head) now between) → later ≡ drop head.len now → (y : SkipsBody {T = T} later between head.body r last left)
    → ¬ (IsUnfinished held) → (x.got ++ y.got ≡ []) × (left ≡ had)
all_needed r held now later last had between left head x is y none =
    let first = head_needed held x.must_read none in
    let same : now ≡ held = x.behind ∙ ap (λ z. held ++ z) first.0 ∙ append-nil held in
    let parts : held ≡ print_response x.answer.h ++ later =
    sym same ∙ x.answer.parts ∙ ap (λ z. print_response x.answer.h ++ z) (sym (behind_head now later head x.answer is)) in
    ⊎_elim (λ (less : length later < head.body). absurd (none (in_body x.answer.h head.body later x.answer.is_head parts less)))
    (λ (fits : head.body ≤ length later).
    let second = y.must_read fits in
    (ap (λ z. z ++ y.got) first.0 ∙ second.0, second.1 ∙ first.1))
    (cases_lt (length later) head.body)

-- the body was passed over
pub whole_reply : {T : Type 0} (held now later last : List ℕ) (had between left : Incoming) (head : ReplyHead) (done : T)
    → FindsHead held had (Ok head) now between → later ≡ drop head.len now → SkipsBody {T = T} later between head.body (Ok done) last left
    → ReadsReply held had (Ok head.status) last left
whole_reply held now later last had between left head done x is y =
    let front = x.answer in
    let body = y.answer.0 in
    record {
      got = x.got ++ y.got;
      gave = gave_both had.left x.got y.got between.left left.left x.gave y.gave;
      answer = record {
        reply = print_response front.h ++ body;
        is_reply = record {
          h = front.h;
          body = body;
          head = subst (λ n. IsReplyHead front.h n) (sym y.answer.1) front.is_head;
          parts = refl;
          status_is = front.status_is;
        };
        parts = joined held now later had between left head x y.got is
            ∙ ap (λ z. print_response front.h ++ z) y.answer.2
            ∙ sym (append_assoc (print_response front.h) body last);
      };
      faults = y.faults ∙ x.faults;
      ends = y.ends ∙ x.ends;
      must_read = all_needed (Ok done) held now later last had between left head x is y;
    }

-- the body didn't come whole
pub without_body : {T : Type 0} (held now later last : List ℕ) (had between left : Incoming) (head : ReplyHead) (e : ReplyEnd)
    (r : Result ℕ ReplyEnd) → r ≡ Err e → FindsHead held had (Ok head) now between → later ≡ drop head.len now
    → SkipsBody {T = T} later between head.body (Err e) last left → ReadsReply held had r last left
without_body {T} held now later last had between left head e r was x is y =
    subst (λ (z : Result ℕ ReplyEnd). ReadsReply held had z last left) (sym was) (at_end e y)
  where
    at_end : (f : ReplyEnd) → SkipsBody {T = T} later between head.body (Err f) last left → ReadsReply held had (Err f) last left
    at_end (BadReply end) z = absurd z.answer
    at_end Ended z = record {
      got = x.got ++ z.got;
      gave = gave_both had.left x.got z.got between.left left.left x.gave z.gave;
      answer = (
        in_body x.answer.h head.body (later ++ z.got) x.answer.is_head (joined held now later had between left head x z.got is) z.answer.0,
        z.answer.1,
      );
      faults = z.faults ∙ x.faults;
      ends = z.ends ∙ ap counted x.ends;
      must_read = all_needed (Err Ended) held now later last had between left head x is z;
    }
    at_end ReadFault z = record {
      got = x.got ++ z.got;
      gave = gave_both had.left x.got z.got between.left left.left x.gave z.gave;
      answer = in_body x.answer.h head.body (later ++ z.got) x.answer.is_head (joined held now later had between left head x z.got is) z.answer;
      faults = subst (λ n. (n ≤ left.faults) × Rose n left.faults) x.faults z.faults;
      ends = z.ends ∙ x.ends;
      must_read = all_needed (Err ReadFault) held now later last had between left head x is z;
    }
