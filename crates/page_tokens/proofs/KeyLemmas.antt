-- Keys: where they break, and that the parts of one hold one thing each.
use Rattle.std.proofs.Common.{◌≡◌, ◌≢◌, ℕ, zero, suc, ◌+◌, ◌-◌, ◌<◌, ◌≤◌, ◌==◌, true, false, Bor, List, [], ◌∷◌, ◌++◌, length, map, get_or, take, drop, Option, Some, None, option_map, refl, sym, ap, subst, ◌∙◌, arith, append_assoc, length-append, take-append-drop}
use Rattle.std.proofs.lemmas.Bool.Decides.{nat_tests}
use Rattle.std.proofs.lemmas.List.{append-nil, drop_all, drop_at, drop_more, get_or-map, length-map, take_all, take_more}
use Rattle.std.specs.Option.{option_or}
use Rattle.base64.specs.GeneralPurpose.{IsBytes}
use Rattle.page_tokens.specs.declared.keys.KeyPart.{KeyPart}
use Rattle.page_tokens.specs.Keys.{AreContents, BreaksAt, BreaksNext, IsContent, key_bytes, key_place, part_bytes, part_place}
use Rattle.page_tokens.proofs.ByteLemmas.{bytes_behind, moved_twice, unmoved}
use Rattle.page_tokens.proofs.PartLemmas.{HasFront, has_front, one_front, whole_part}

-- one part more behind others
pub AreContents-snoc : (parts : List KeyPart) (contents : List (List ℕ)) (part : KeyPart) (content : List ℕ) → AreContents parts contents → IsContent part content
    → AreContents (parts ++ part ∷ []) (contents ++ content ∷ [])
AreContents-snoc [] [] part content are is = (is, tt)
AreContents-snoc [] (c ∷ cs) part content are is = absurd are
AreContents-snoc (p ∷ ps) [] part content are is = absurd are
AreContents-snoc (p ∷ ps) (c ∷ cs) part content are is = (are.0, AreContents-snoc ps cs part content are.1 is)

pub key_bytes-snoc : (parts : List KeyPart) (contents : List (List ℕ)) (part : KeyPart) (content : List ℕ) → AreContents parts contents
    → key_bytes (parts ++ part ∷ []) (contents ++ content ∷ []) ≡ key_bytes parts contents ++ part_bytes part content
key_bytes-snoc [] [] part content are = append-nil (part_bytes part content)
key_bytes-snoc [] (c ∷ cs) part content are = absurd are
key_bytes-snoc (p ∷ ps) [] part content are = absurd are
key_bytes-snoc (p ∷ ps) (c ∷ cs) part content are =
    ap (λ (k : List ℕ). part_bytes p c ++ k) (key_bytes-snoc ps cs part content are.1) ∙ sym (append_assoc (part_bytes p c) (key_bytes ps cs) (part_bytes part content))

-- behind a whole part
behind_part : (part : KeyPart) (parts : List KeyPart) (content rest : List ℕ) → IsContent part content
    → key_place (part ∷ parts) (part_bytes part content ++ rest) ≡ option_map (λ n. length (part_bytes part content) + n) (key_place parts rest)
behind_part part parts content rest is =
    let whole = whole_part part content rest is in
    rw (whole.place, whole.len, drop_at (part_bytes part content) rest (length (part_bytes part content)) refl) refl

-- behind whole parts
pub behind_parts : (parts left : List KeyPart) (contents : List (List ℕ)) (rest : List ℕ) → AreContents parts contents
    → key_place (parts ++ left) (key_bytes parts contents ++ rest) ≡ option_map (λ n. length (key_bytes parts contents) + n) (key_place left rest)
behind_parts [] left [] rest are = sym (unmoved (key_place left rest))
behind_parts [] left (c ∷ cs) rest are = absurd are
behind_parts (p ∷ ps) left [] rest are = absurd are
behind_parts (p ∷ ps) left (c ∷ cs) rest are =
    let front : List ℕ = part_bytes p c in
    let key : List ℕ = key_bytes ps cs in
    ap (key_place (p ∷ (ps ++ left))) (append_assoc front key rest)
    ∙ behind_part p (ps ++ left) c (key ++ rest) are.0
    ∙ ap (option_map (λ n. length front + n)) (behind_parts ps left cs rest are.1)
    ∙ moved_twice (length front) (length key) (key_place left rest)
    ∙ ap (λ (k : ℕ). option_map (λ n. k + n) (key_place left rest)) (sym (length-append front key))

-- whole parts and nothing else
pub whole_key : (parts : List KeyPart) (contents : List (List ℕ)) → AreContents parts contents → key_place parts (key_bytes parts contents) ≡ None
whole_key parts contents are =
    ap (λ (ps : List KeyPart). key_place ps (key_bytes parts contents)) (sym (append-nil parts))
    ∙ ap (key_place (parts ++ [])) (sym (append-nil (key_bytes parts contents)))
    ∙ behind_parts parts [] contents [] are

next_place : (left : List KeyPart) (rest : List ℕ) (place : ℕ) → BreaksNext left rest place → key_place left rest ≡ Some place
next_place [] [] place next = absurd (next.0 refl)
next_place [] (b ∷ bytes) place next = ap Some (sym next.1)
next_place (p ∷ ps) rest place next = rw next refl

-- the relation tells the place
pub breaks_there : (parts : List KeyPart) (bytes : List ℕ) (at : ℕ) → BreaksAt parts bytes at → key_place parts bytes ≡ Some at
breaks_there parts bytes at breaks =
    ap (λ (ps : List KeyPart). key_place ps bytes) breaks.split
    ∙ ap (key_place (breaks.whole ++ breaks.left)) breaks.form
    ∙ behind_parts breaks.whole breaks.left breaks.contents breaks.rest breaks.are
    ∙ ap (option_map (λ n. length (key_bytes breaks.whole breaks.contents) + n)) (next_place breaks.left breaks.rest breaks.place breaks.next)
    ∙ ap Some (sym breaks.there)

-- what bytes are to the parts of a key
pub record IsJudged (parts : List KeyPart) (bytes : List ℕ) : Type 0 where
  pub whole : key_place parts bytes ≡ None → (contents : List (List ℕ)) × AreContents parts contents × (bytes ≡ key_bytes parts contents)
  pub breaks : (at : ℕ) → key_place parts bytes ≡ Some at → BreaksAt parts bytes at

breaks_here : (parts : List KeyPart) (bytes : List ℕ) (at : ℕ) → BreaksNext parts bytes at → BreaksAt parts bytes at
breaks_here parts bytes at next =
    record {
      whole = [];
      left = parts;
      split = refl;
      contents = [];
      are = tt;
      rest = bytes;
      form = refl;
      place = at;
      next = next;
      there = omega arith;
    }

breaks_behind : (part : KeyPart) (parts : List KeyPart) (content rest : List ℕ) (at : ℕ) → IsContent part content → BreaksAt parts rest at
    → BreaksAt (part ∷ parts) (part_bytes part content ++ rest) (length (part_bytes part content) + at)
breaks_behind part parts content rest at is breaks =
    let front : List ℕ = part_bytes part content in
    let key : List ℕ = key_bytes breaks.whole breaks.contents in
    record {
      whole = part ∷ breaks.whole;
      left = breaks.left;
      split = ap (λ (ps : List KeyPart). part ∷ ps) breaks.split;
      contents = content ∷ breaks.contents;
      are = (is, breaks.are);
      rest = breaks.rest;
      form = ap (λ (r : List ℕ). front ++ r) breaks.form ∙ sym (append_assoc front key breaks.rest);
      place = breaks.place;
      next = breaks.next;
      there = omega (arith, breaks.there, length-append front key);
    }

unmoved_none : (n : ℕ) (o : Option ℕ) → option_map (λ m. n + m) o ≡ None → o ≡ None
unmoved_none n None e = refl
unmoved_none n (Some m) e = absurd cc

moved_from : (n at : ℕ) (o : Option ℕ) → option_map (λ m. n + m) o ≡ Some at → (m : ℕ) × (o ≡ Some m) × (n + m ≡ at)
moved_from n at None e = absurd cc
moved_from n at (Some m) e = (m, refl, cc)

judged_behind : (part : KeyPart) (parts : List KeyPart) (content rest : List ℕ) → IsContent part content → IsJudged parts rest
    → IsJudged (part ∷ parts) (part_bytes part content ++ rest)
judged_behind part parts content rest is judged =
    let place = behind_part part parts content rest is in
    let size : ℕ = length (part_bytes part content) in
    record {
      whole = λ none.
          let found = judged.whole (unmoved_none size (key_place parts rest) (sym place ∙ none)) in
          (content ∷ found.0, (is, found.1), ap (λ (r : List ℕ). part_bytes part content ++ r) found.2);
      breaks = λ at some.
          let found = moved_from size at (key_place parts rest) (sym place ∙ some) in
          subst (BreaksAt (part ∷ parts) (part_bytes part content ++ rest)) found.2
          (breaks_behind part parts content rest found.0 is (judged.breaks found.0 found.1));
    }

first_some : (p q : Option ℕ) (n at : ℕ) → p ≡ Some n → option_or p q ≡ Some at → at ≡ n
first_some None q n at e f = absurd cc
first_some (Some m) q n at e f = cc

first_none : (p q : Option ℕ) (n : ℕ) → p ≡ Some n → option_or p q ≡ None → ⊥
first_none None q n e f = absurd cc
first_none (Some m) q n e f = absurd cc

judged_broken : (part : KeyPart) (parts : List KeyPart) (bytes : List ℕ) (n : ℕ) → part_place part bytes ≡ Some n → IsJudged (part ∷ parts) bytes
judged_broken part parts bytes n broken =
    record {
      whole = λ none. absurd (first_none (part_place part bytes) _ n broken none);
      breaks = λ at some.
          let same = first_some (part_place part bytes) _ n at broken some in
          breaks_here (part ∷ parts) bytes at (broken ∙ ap Some (sym same));
    }

pub judged : (parts : List KeyPart) (bytes : List ℕ) → IsBytes bytes → IsJudged parts bytes
judged [] [] are = record { whole = λ none. ([], tt, refl); breaks = λ at some. absurd cc }
judged [] (b ∷ bytes) are =
    record { whole = λ none. absurd cc; breaks = λ at some. breaks_here [] (b ∷ bytes) at ((λ e. absurd cc), cc) }
judged (p ∷ ps) bytes are =
    elim (part_place p bytes) as (λ o. part_place p bytes ≡ o → IsJudged (p ∷ ps) bytes) [
      | None ↦ λ none.
          let front = has_front p bytes are none in
          let rest_are : IsBytes front.rest = behind_are p bytes front are in
          subst (IsJudged (p ∷ ps)) (sym front.form) (judged_behind p ps front.content front.rest front.is (judged ps front.rest rest_are))
      | Some n ↦ λ broken. judged_broken p ps bytes n broken
    ] refl
  where
    behind_are : (part : KeyPart) (bytes : List ℕ) (front : HasFront part bytes) → IsBytes bytes → IsBytes front.rest
    behind_are part bytes front are =
        let cut : drop (length (part_bytes part front.content)) bytes ≡ front.rest =
        ap (drop (length (part_bytes part front.content))) front.form ∙ drop_at (part_bytes part front.content) front.rest (length (part_bytes part front.content)) refl in
        subst IsBytes cut (bytes_behind (length (part_bytes part front.content)) bytes are)

pub one_key : (parts : List KeyPart) (contents others : List (List ℕ)) → AreContents parts contents → AreContents parts others
    → key_bytes parts contents ≡ key_bytes parts others → contents ≡ others
one_key [] [] [] are other e = refl
one_key [] [] (d ∷ ds) are other e = absurd other
one_key [] (c ∷ cs) others are other e = absurd are
one_key (p ∷ ps) [] others are other e = absurd are
one_key (p ∷ ps) (c ∷ cs) [] are other e = absurd other
one_key (p ∷ ps) (c ∷ cs) (d ∷ ds) are other e =
    let both = one_front p c d (key_bytes ps cs) (key_bytes ps ds) are.0 other.0 e in
    let first : c ≡ d = both.0 in
    let further : cs ≡ ds = one_key ps cs ds are.1 other.1 both.1 in
    cc

-- a key that is being read: whole parts, what they hold, and the rest
pub record HoldsSoFar (parts : List KeyPart) (contents : List (List ℕ)) (rest key : List ℕ) : Type 0 where
  pub are : AreContents parts contents
  pub form : key ≡ key_bytes parts contents ++ rest

pub holds_more : (parts : List KeyPart) (contents : List (List ℕ)) (rest key content behind : List ℕ) (part : KeyPart) → HoldsSoFar parts contents rest key
    → IsContent part content → rest ≡ part_bytes part content ++ behind
    → HoldsSoFar (parts ++ part ∷ []) (contents ++ content ∷ []) behind key
holds_more parts contents rest key content behind part holds is form =
    record {
      are = AreContents-snoc parts contents part content holds.are is;
      form = holds.form ∙ ap (λ (r : List ℕ). key_bytes parts contents ++ r) form
          ∙ sym (append_assoc (key_bytes parts contents) (part_bytes part content) behind)
          ∙ ap (λ (k : List ℕ). k ++ behind) (sym (key_bytes-snoc parts contents part content holds.are));
    }

pub holds_len : (parts : List KeyPart) (contents : List (List ℕ)) (rest key : List ℕ) → HoldsSoFar parts contents rest key
    → length key ≡ length (key_bytes parts contents) + length rest
holds_len parts contents rest key holds = ap length holds.form ∙ length-append (key_bytes parts contents) rest

pub breaks_so : (parts whole left : List KeyPart) (contents : List (List ℕ)) (rest key : List ℕ) (place : ℕ) → HoldsSoFar whole contents rest key
    → parts ≡ whole ++ left → BreaksNext left rest place → place ≤ length rest
    → BreaksAt parts key (length key - length rest + place) × (length key - length rest + place ≤ length key)
breaks_so parts whole left contents rest key place holds split next within = (
  record {
    whole = whole;
    left = left;
    split = split;
    contents = contents;
    are = holds.are;
    rest = rest;
    form = holds.form;
    place = place;
    next = next;
    there = omega (arith, holds_len whole contents rest key holds);
  },
  omega (arith, holds_len whole contents rest key holds),
)

pub told_place : (parts : List KeyPart) (key : List ℕ) (n at : ℕ) → n ≡ at → BreaksAt parts key n × (n ≤ length key) → BreaksAt parts key at × (at ≤ length key)
told_place parts key n at e both = subst (λ (m : ℕ). BreaksAt parts key m × (m ≤ length key)) e both

-- the next part breaks, or it holds something, or bytes are left behind the last one
module _ (parts : List KeyPart) (done : ℕ) (contents : List (List ℕ)) (rest key : List ℕ) (holds : HoldsSoFar (take done parts) contents rest key) where
  pub breaks_part : (p0 : KeyPart) (place : ℕ) → done < length parts → part_place (get_or parts done p0) rest ≡ Some place → place ≤ length rest
      → BreaksAt parts key (length key - length rest + place) × (length key - length rest + place ≤ length key)
  breaks_part p0 place under broken within =
      breaks_so parts (take done parts) (drop done parts) contents rest key place holds (sym (take-append-drop done parts))
      (subst (λ (ps : List KeyPart). BreaksNext ps rest place) (sym (drop_more parts done p0 under)) broken) within

  pub holds_next : (p0 : KeyPart) (content behind : List ℕ) → done < length parts → IsContent (get_or parts done p0) content
      → rest ≡ part_bytes (get_or parts done p0) content ++ behind → HoldsSoFar (take (done + 1) parts) (contents ++ content ∷ []) behind key
  holds_next p0 content behind under is form =
      subst (λ (ps : List KeyPart). HoldsSoFar ps (contents ++ content ∷ []) behind key) (sym (take_more parts done p0 under))
      (holds_more (take done parts) contents rest key content behind (get_or parts done p0) holds is form)

  pub breaks_end : length parts ≤ done → rest ≢ [] → BreaksAt parts key (length key - length rest) × (length key - length rest ≤ length key)
  breaks_end most some =
      let none : drop done parts ≡ [] = drop_all done parts most in
      told_place parts key (length key - length rest + 0) (length key - length rest) (omega arith)
      (breaks_so parts (take done parts) (drop done parts) contents rest key 0 holds (sym (take-append-drop done parts))
      (subst (λ (ps : List KeyPart). BreaksNext ps rest 0) (sym none) (some, refl)) (omega arith))

  pub holds_all : length parts ≤ done → rest ≡ [] → AreContents parts contents × (key ≡ key_bytes parts contents)
  holds_all most none =
      let whole : take done parts ≡ parts = take_all done parts most in
      let form : key ≡ key_bytes (take done parts) contents =
      holds.form ∙ ap (λ (r : List ℕ). key_bytes (take done parts) contents ++ r) none ∙ append-nil (key_bytes (take done parts) contents) in
      subst (λ (ps : List KeyPart). AreContents ps contents × (key ≡ key_bytes ps contents)) whole (holds.are, form)

pub not_bare : (bytes : List ℕ) → (length bytes == 0) ≡ false → bytes ≢ []
not_bare [] some e = cc
not_bare (b ∷ bytes) some e = cc

pub is_bare : (bytes : List ℕ) → (length bytes == 0) ≡ true → bytes ≡ []
is_bare [] none = refl
is_bare (b ∷ bytes) none = absurd (grind (arith, nat_tests))

-- a key that is being written: what stands there, and the parts that are left
pub record Appends (parts : List KeyPart) (contents : List (List ℕ)) (old : List ℕ) (done : ℕ) (now : List ℕ) : Type 0 where
  pub left : AreContents (drop done parts) (drop done contents)
  pub form : now ++ key_bytes (drop done parts) (drop done contents) ≡ old ++ key_bytes parts contents

-- the next part that is left, and what it holds
pub record HasNext (parts : List KeyPart) (contents : List (List ℕ)) (done : ℕ) (part : KeyPart) (content : List ℕ) : Type 0 where
  pub within : done < length contents
  pub is : IsContent part content
  pub bytes : key_bytes (drop done parts) (drop done contents) ≡ part_bytes part content ++ key_bytes (drop (suc done) parts) (drop (suc done) contents)
  pub left : AreContents (drop (suc done) parts) (drop (suc done) contents)

none_left : (done : ℕ) (parts : List KeyPart) → AreContents (drop done parts) [] → done < length parts → ⊥
none_left zero [] are under = absurd (omega arith)
none_left zero (p ∷ ps) are under = are
none_left (suc done) [] are under = absurd (omega arith)
none_left (suc done) (p ∷ ps) are under = none_left done ps are (omega arith)

next_left : (done : ℕ) (parts : List KeyPart) (contents : List (List ℕ)) (p0 : KeyPart) (c0 : List ℕ) → AreContents (drop done parts) (drop done contents)
    → done < length parts → HasNext parts contents done (get_or parts done p0) (get_or contents done c0)
next_left zero [] contents p0 c0 are under = absurd (omega arith)
next_left zero (p ∷ ps) [] p0 c0 are under = absurd are
next_left zero (p ∷ ps) (c ∷ cs) p0 c0 are under = record { within = omega arith; is = are.0; bytes = refl; left = are.1 }
next_left (suc done) [] contents p0 c0 are under = absurd (omega arith)
next_left (suc done) (p ∷ ps) [] p0 c0 are under = absurd (none_left done ps are (omega arith))
next_left (suc done) (p ∷ ps) (c ∷ cs) p0 c0 are under =
    let next = next_left done ps cs p0 c0 are (omega arith) in
    record { within = omega (arith, next.within); is = next.is; bytes = next.bytes; left = next.left }

pub next_held : (done : ℕ) (parts : List KeyPart) (held : List (Bor (List ℕ))) (p0 : KeyPart) (c0 : Bor (List ℕ))
    → AreContents (drop done parts) (drop done (map (λ c. c.now) held)) → done < length parts
    → (done < length held) × HasNext parts (map (λ c. c.now) held) done (get_or parts done p0) (get_or held done c0).now
next_held done parts held p0 c0 are under =
    let next = next_left done parts (map (λ c. c.now) held) p0 c0.now are under in
    let within : done < length held = omega (arith, next.within, length-map held (λ (c : Bor (List ℕ)). c.now)) in
    (within, subst (HasNext parts (map (λ c. c.now) held) done (get_or parts done p0)) (get_or-map (λ (c : Bor (List ℕ)). c.now) held done c0 c0.now within) next)

pub appends_more : (parts : List KeyPart) (contents : List (List ℕ)) (old now after content : List ℕ) (part : KeyPart) (done : ℕ)
    → Appends parts contents old done now → HasNext parts contents done part content → after ≡ now ++ part_bytes part content
    → Appends parts contents old (done + 1) after
appends_more parts contents old now after content part done appends next is =
    let rest : List ℕ = key_bytes (drop (suc done) parts) (drop (suc done) contents) in
    let form : after ++ rest ≡ old ++ key_bytes parts contents =
    ap (λ (a : List ℕ). a ++ rest) is ∙ append_assoc now (part_bytes part content) rest
    ∙ ap (λ (k : List ℕ). now ++ k) (sym next.bytes) ∙ appends.form in
    let step : suc done ≡ done + 1 = omega arith in
    subst (λ (n : ℕ). Appends parts contents old n after) step (record { left = next.left; form = form })

pub all_appended : (parts : List KeyPart) (contents : List (List ℕ)) (old now : List ℕ) (done : ℕ) → Appends parts contents old done now
    → length parts ≤ done → now ≡ old ++ key_bytes parts contents
all_appended parts contents old now done appends most =
    let none : drop done parts ≡ [] = drop_all done parts most in
    let over : now ++ key_bytes [] (drop done contents) ≡ old ++ key_bytes parts contents =
    subst (λ (ps : List KeyPart). now ++ key_bytes ps (drop done contents) ≡ old ++ key_bytes parts contents) none appends.form in
    sym (append-nil now) ∙ over
