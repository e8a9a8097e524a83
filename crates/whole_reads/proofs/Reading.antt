-- Reading piece by piece.
use Rattle.std.proofs.Common.{◌≡◌, ℕ, ◌+◌, ◌<◌, ◌≤◌, List, [], ◌++◌, length, take, Ok, Err, refl, sym, ap, ◌∙◌, subst, arith, length-append, length-take, inl, inr}
use Rattle.std.proofs.lemmas.List.{take_all}
use Rattle.std.specs.Global.{Vec}
use Rattle.fault_counts.specs.Causes.{counted}
use Rattle.outside.specs.Bytes.{Gave}
use Rattle.outside.specs.Ends.{Incoming}
use Rattle.outside.proofs.Taken.{gave_both, gave_nothing}
use Rattle.whole_reads.specs.Front.{CountsRead, ReadsFront}
use Rattle.whole_reads.specs.Filled.{Fills, EndsFill}
use Rattle.whole_reads.specs.declared.front.ReadEnd.{ReadEnd}
use Rattle.whole_reads.specs.declared.front.ReadEnd.TheVariants as end

-- these bytes were read
pub record Reading (had : Incoming) (most : ℕ) (bytes : List ℕ) (left : Incoming) : Type 0 where
  pub gave : Gave had.left bytes left.left
  pub bounded : length bytes ≤ most
  pub faults : left.faults ≡ had.faults

pub reading_none : (had : Incoming) (most : ℕ) (bytes : List ℕ) → bytes ≡ [] → Reading had most bytes had
reading_none had most bytes none = record {
  gave = rw none (gave_nothing had.left);
  bounded = rw none (omega arith);
  faults = refl;
}

-- so many bytes of a room are what was read before and what filled it
pub reading_more : (had between left : Incoming) (most : ℕ) (bytes room now : List ℕ) (from end : ℕ) → Reading had most bytes between
    → take from room ≡ bytes → Fills room between from (Ok end) now left → end ≤ most → Reading had most (take end now) left
reading_more had between left most bytes room now from end r front f low =
    let is : take end now ≡ bytes ++ f.got = f.answer.1 ∙ ap (λ x. x ++ f.got) front in
    record {
      gave = rw is (gave_both had.left bytes f.got between.left left.left r.gave f.gave);
      bounded = let short : length (take end now) ≤ end = simp length-take (omega arith) in omega arith;
      faults = f.faults ∙ r.faults;
    }

-- the same where the room is full
pub reading_whole : (had between left : Incoming) (most : ℕ) (bytes room now items : List ℕ) (from end : ℕ) → Reading had most bytes between
    → take from room ≡ bytes → Fills room between from (Ok end) now left → end ≤ most → length now ≤ end → items ≡ now
    → Reading had most items left
reading_whole had between left most bytes room now items from end r front f low all is =
    subst (λ x. Reading had most x left) (take_all end now all ∙ sym is)
    (reading_more had between left most bytes room now from end r front f low)

-- the source ended, by one read
end_once : (now : List ℕ) (a b c end : ℕ) → EndsFill now b (Ok end) c → b ≡ a → end < length now → c ≡ counted a
end_once now a b c end (inl reached) same less = reached.1 ∙ ap counted same
end_once now a b c end (inr full) same less = let is = full.0 in absurd (omega (arith, is, less))

-- the room was filled, by reads that gave something
pub full_room : (now : List ℕ) (a b c end : ℕ) → EndsFill now b (Ok end) c → b ≡ a → length now ≤ end → c ≡ a
full_room now a b c end (inl reached) same all = let less = reached.0 in absurd (omega (arith, less, all))
full_room now a b c end (inr full) same all = full.1 ∙ same

pub front_end : (had between left : Incoming) (most : ℕ) (room now : List ℕ) (from end : ℕ) (v : Vec ℕ) → Reading had most (take end now) left
    → Fills room between from (Ok end) now left → between.ends ≡ had.ends → end < length now → length now ≤ most → v.items ≡ take end now → ReadsFront had most (Ok v) left
front_end had between left most room now from end v r f ends less bounded is = record {
  got = take end now;
  gave = r.gave;
  bounded = r.bounded;
  answer = (is, inl (f.answer.2 less));
  faults = r.faults;
  ends = inl (
    (let short : length (take end now) ≤ end = simp length-take (omega arith) in omega (arith, short, less, bounded)),
    end_once now had.ends between.ends left.ends end f.ends ends less,
  );
}

-- as many bytes are there as are wanted
pub front_all : (had left : Incoming) (most : ℕ) (v : Vec ℕ) → Reading had most v.items left → left.ends ≡ had.ends → most ≤ length v.items
    → ReadsFront had most (Ok v) left
front_all had left most v r ends all = record {
  got = v.items;
  gave = r.gave;
  bounded = r.bounded;
  answer = let low = r.bounded in (refl, inr (omega (arith, low, all)));
  faults = r.faults;
  ends = let low = r.bounded in inr (omega (arith, low, all), ends);
}

-- there was no memory for more
pub front_memory : (had left : Incoming) (most : ℕ) (bytes : List ℕ) (e : ReadEnd) → Reading had most bytes left → left.ends ≡ had.ends → length bytes < most
    → e ≡ end.Memory → ReadsFront had most (Err e) left
front_memory had left most bytes e r ends less is =
    subst (λ z. ReadsFront had most (Err z) left) (sym is) (record {
      got = bytes;
      gave = r.gave;
      bounded = r.bounded;
      answer = less;
      faults = r.faults;
      ends = ends;
    })

-- a read failed
pub front_fault : (had between left : Incoming) (most : ℕ) (bytes room now : List ℕ) (from : ℕ) (e : ReadEnd) → Reading had most bytes between
    → between.ends ≡ had.ends → from ≡ length bytes → length now ≤ most → Fills room between from (Err e) now left → ReadsFront had most (Err e) left
front_fault had between left most bytes room now from end.Failed r ends is low f =
    let len : length (bytes ++ f.got) ≡ length bytes + length f.got = length-append bytes f.got in
    let less : from + length f.got < length now = f.answer in
    record {
      got = bytes ++ f.got;
      gave = gave_both had.left bytes f.got between.left left.left r.gave f.gave;
      bounded = omega (arith, len, less, is, low);
      answer = omega (arith, len, less, is, low);
      faults = subst (λ n. CountsRead {T = Vec ℕ} n (Err end.Failed) left.faults) r.faults f.faults;
      ends = f.ends ∙ ends;
    }
front_fault had between left most bytes room now from end.Memory r ends is low f = absurd f.answer
