-- Names of several parts: a name has no fault, a text without one is a name, and it is that of one
-- list of parts.
use Rattle.std.proofs.Common.{◌≡◌, ◌≢◌, ℕ, true, false, Bool, if◌then◌else◌, nat_eq, nat_lt, length, take, drop, List, [], ◌∷◌, ◌++◌, codes, Option, Some, None, option_map, refl, sym, ap, ◌∙◌, take-append-drop}
use Rattle.std.specs.Prelude.{◌==◌}
use Rattle.std.specs.List.{common_prefix_len}
use Rattle.std.specs.Option.{option_or}
use Rattle.std.proofs.lemmas.Bool.{and_parts, eqb-true}
use Rattle.std.proofs.lemmas.List.{append_cancel_left, take_at, drop_at}
use Rattle.percent_encoding.specs.Percent.{percent_decode}
use Rattle.name_parts.specs.declared.alphabets.Alphabet.TheVariants as alphabet
use Rattle.name_parts.specs.declared.faults.NameFault.{NameFault}
use Rattle.name_parts.specs.declared.faults.NameFault.TheVariants.{Empty, TooLong, BadByte, NotCanonical, OutOfRange, Memory}
use Rattle.name_parts.specs.declared.names.Piece.{Piece}
use Rattle.name_parts.specs.declared.names.Piece.TheVariants as piece
use Rattle.name_parts.specs.declared.parts.PartForm.{PartForm}
use Rattle.name_parts.specs.declared.parts.PartForm.TheVariants.{Letters, TestId}
use Rattle.name_parts.specs.Escapes.{escaped_fault, fault_there, first_fault, is_spelling, misspelt, spelled}
use Rattle.name_parts.specs.Parts.{IsPart, bad_place, most_bytes, part_fault, shifted, unempty_fault}
use Rattle.name_parts.specs.Pieces.{AreParts, begins_with_slash, form_of, name_fault, name_text, piece_fault, word_of, written}
use Rattle.name_parts.specs.Sequences.{behind, slash_place, up_to_slash}
use Rattle.name_parts.specs.Laws.{NameHasNoFault, OneListOfParts}
use Rattle.name_parts.proofs.ByteLemmas.{IsPart-bytes, escaped_without_slash, invocation_without_slash, result_without_slash, unescaped}
use Rattle.name_parts.proofs.CutLaws.{Lacks, cut_alike}
use Rattle.name_parts.proofs.CutLemmas.{cut_before}
use Rattle.name_parts.proofs.EscapeLemmas.{escaped-fault, escaped_fault-None}
use Rattle.name_parts.proofs.PartLemmas.{IsPart-part_fault, part_fault-None}
use Rattle.name_parts.proofs.SequenceLemmas.{begins_with, behind-None}

-- ---- one piece

without_slash : (p : Piece) (part : List ℕ) → IsPart (form_of p) part → Lacks 47 (written p part)
without_slash piece.Invocation part is = invocation_without_slash part is
without_slash piece.Test part is = escaped_without_slash part
without_slash piece.Result part is = result_without_slash part is
without_slash piece.Artifact part is = escaped_without_slash part

written-fault : (p : Piece) (part : List ℕ) → IsPart (form_of p) part → piece_fault p (written p part) ≡ None
written-fault piece.Invocation part is = IsPart-part_fault (Letters alphabet.Invocation) part is
written-fault piece.Test part is = escaped-fault TestId part (IsPart-bytes TestId part is) is
written-fault piece.Result part is = IsPart-part_fault (Letters alphabet.Outcome) part is
written-fault piece.Artifact part is =
    escaped-fault (Letters alphabet.Artifact) part (IsPart-bytes (Letters alphabet.Artifact) part is) is

same_part : (p : Piece) (x y : List ℕ) → IsPart (form_of p) x → IsPart (form_of p) y → written p x ≡ written p y → x ≡ y
same_part piece.Invocation x y is is' e = e
same_part piece.Test x y is is' e = unescaped TestId x y is is' e
same_part piece.Result x y is is' e = e
same_part piece.Artifact x y is is' e = unescaped (Letters alphabet.Artifact) x y is is' e

abbrev IsWritten : Piece → List ℕ → Type 0
IsWritten p text = (part : List ℕ) × (text ≡ written p part) × IsPart (form_of p) part

written-from : (p : Piece) (text : List ℕ) → piece_fault p text ≡ None → IsWritten p text
written-from piece.Invocation text e = (text, refl, part_fault-None (Letters alphabet.Invocation) text e)
written-from piece.Test text e = let found = escaped_fault-None TestId text e in (percent_decode text, found.0, found.1)
written-from piece.Result text e = (text, refl, part_fault-None (Letters alphabet.Outcome) text e)
written-from piece.Artifact text e = let found = escaped_fault-None (Letters alphabet.Artifact) text e in (percent_decode text, found.0, found.1)

-- ---- names

word_begins : (p : Piece) (tail : List ℕ) → begins_with_slash p ≡ true → (rest : List ℕ) × (word_of p ++ tail ≡ 47 ∷ rest)
word_begins piece.Invocation tail e = absurd cc
word_begins piece.Test tail e = (codes "tests/" ++ tail, refl)
word_begins piece.Result tail e = (codes "results/" ++ tail, refl)
word_begins piece.Artifact tail e = (codes "artifacts/" ++ tail, refl)

begins : (p : Piece) (ps : List Piece) (parts : List (List ℕ)) → begins_with_slash p ≡ true → AreParts (p ∷ ps) parts
    → (rest : List ℕ) × (name_text (p ∷ ps) parts ≡ 47 ∷ rest)
begins p ps [] e are = absurd are
begins p [] (x ∷ xs) e are = word_begins p (written p x) e
begins p (q ∷ qs) (x ∷ xs) e are = word_begins p (written p x ++ name_text (q ∷ qs) xs) e

up_to_slash-None : (first rest : List ℕ → Option NameFault) (part tail : List ℕ) → Lacks 47 part → first part ≡ None → rest (47 ∷ tail) ≡ None → up_to_slash first rest (part ++ 47 ∷ tail) ≡ None
unfolding up_to_slash
up_to_slash-None first rest part tail without e f =
    rw (cut_before 47 part tail without, take_at part (47 ∷ tail) (length part) refl, drop_at part (47 ∷ tail) (length part) refl, e, f) refl

pub name_has_no_fault : NameHasNoFault
name_has_no_fault p ps [] follow are = absurd are
name_has_no_fault p [] (x ∷ xs) follow are = behind-None (word_of p) (written p x) (piece_fault p) (written-fault p x are.0)
name_has_no_fault p (q ∷ qs) (x ∷ xs) follow are =
    let both = and_parts _ _ follow in
    let begun = begins q qs xs both.0 are.1 in
    let rest : name_fault (q ∷ qs) (47 ∷ begun.0) ≡ None = ap (name_fault (q ∷ qs)) (sym begun.1) ∙ name_has_no_fault q qs xs both.1 are.1 in
    behind-None (word_of p) (written p x ++ name_text (q ∷ qs) xs) (up_to_slash (piece_fault p) (name_fault (q ∷ qs)))
    (ap (λ (t : List ℕ). up_to_slash (piece_fault p) (name_fault (q ∷ qs)) (written p x ++ t)) begun.1
    ∙ up_to_slash-None (piece_fault p) (name_fault (q ∷ qs)) (written p x) begun.0 (without_slash p x are.0) (written-fault p x are.0) rest)

no_more : (xs : List (List ℕ)) → AreParts [] xs → xs ≡ []
no_more [] are = refl
no_more (x ∷ xs) are = absurd are

listed : (x y : List ℕ) (xs ys : List (List ℕ)) → x ≡ y → xs ≡ ys → (x ∷ xs) ≡ (y ∷ ys)
listed x y xs ys e f = cc

pub one_list_of_parts : OneListOfParts
one_list_of_parts p ps [] ys follow are are' e = absurd are
one_list_of_parts p ps (x ∷ xs) [] follow are are' e = absurd are'
one_list_of_parts p [] (x ∷ xs) (y ∷ ys) follow are are' e =
    listed x y xs ys (same_part p x y are.0 are'.0 (append_cancel_left (word_of p) (written p x) (written p y) e)) (no_more xs are.1 ∙ sym (no_more ys are'.1))
one_list_of_parts p (q ∷ qs) (x ∷ xs) (y ∷ ys) follow are are' e =
    let both = and_parts _ _ follow in
    let one = begins q qs xs both.0 are.1 in
    let other = begins q qs ys both.0 are'.1 in
    let tails = append_cancel_left (word_of p) (written p x ++ name_text (q ∷ qs) xs) (written p y ++ name_text (q ∷ qs) ys) e in
    let cut = cut_alike 47 (written p x) (written p y) one.0 other.0 (without_slash p x are.0) (without_slash p y are'.0)
    (ap (λ (t : List ℕ). written p x ++ t) (sym one.1) ∙ tails ∙ ap (λ (t : List ℕ). written p y ++ t) other.1) in
    listed x y xs ys (same_part p x y are.0 are'.0 cut.0) (one_list_of_parts q qs xs ys both.1 are.1 are'.1 (one.1 ∙ cut.1 ∙ sym other.1))

-- ---- a text without a fault

behind_of : (literal text : List ℕ) (fault : List ℕ → Option NameFault) (t : Bool) → (common_prefix_len nat_eq text literal == length literal) ≡ t
    → (if t then option_map (shifted (length literal)) (fault (drop (length literal) text)) else Some (BadByte (common_prefix_len nat_eq text literal))) ≡ None
    → (text ≡ literal ++ drop (length literal) text) × (option_map (shifted (length literal)) (fault (drop (length literal) text)) ≡ None)
behind_of literal text fault true e h = (begins_with text literal (eqb-true _ _ e), h)
behind_of literal text fault false e h = absurd cc

unshifted : (n : ℕ) (o : Option NameFault) → option_map (shifted n) o ≡ None → o ≡ None
unshifted n None h = refl
unshifted n (Some f) h = absurd cc

behind-from : (literal text : List ℕ) (fault : List ℕ → Option NameFault) → behind literal fault text ≡ None
    → (rest : List ℕ) × (text ≡ literal ++ rest) × (fault rest ≡ None)
unfolding behind
behind-from literal text fault h =
    let both = behind_of literal text fault (common_prefix_len nat_eq text literal == length literal) refl h in
    (drop (length literal) text, both.0, unshifted (length literal) (fault (drop (length literal) text)) both.1)

neither : (o p : Option NameFault) → option_or o p ≡ None → (o ≡ None) × (p ≡ None)
neither None p h = (refl, h)
neither (Some f) p h = absurd cc

slash-from : (first rest : List ℕ → Option NameFault) (text : List ℕ) → up_to_slash first rest text ≡ None
    → (part : List ℕ) × (tail : List ℕ) × (text ≡ part ++ tail) × (first part ≡ None) × (rest tail ≡ None)
unfolding up_to_slash
slash-from first rest text h =
    let n : ℕ = slash_place text in
    let both = neither (first (take n text)) (option_map (shifted n) (rest (drop n text))) h in
    (take n text, drop n text, sym (take-append-drop n text), both.0, unshifted n (rest (drop n text)) both.1)

pub record HasParts (pieces : List Piece) (text : List ℕ) : Type 0 where
  pub parts : List (List ℕ)
  pub spelling : text ≡ name_text pieces parts
  pub are : AreParts pieces parts

pub name_fault-None : (p : Piece) (ps : List Piece) (text : List ℕ) → name_fault (p ∷ ps) text ≡ None → HasParts (p ∷ ps) text
name_fault-None p [] text e =
    let found = behind-from (word_of p) text (piece_fault p) e in
    let part = written-from p found.0 found.2 in
    record { parts = part.0 ∷ []; spelling = found.1 ∙ ap (λ (t : List ℕ). word_of p ++ t) part.1; are = (part.2, tt) }
name_fault-None p (q ∷ qs) text e =
    let found = behind-from (word_of p) text (up_to_slash (piece_fault p) (name_fault (q ∷ qs))) e in
    let cut = slash-from (piece_fault p) (name_fault (q ∷ qs)) found.0 found.2 in
    let part = written-from p cut.0 cut.3 in
    let others = name_fault-None q qs cut.1 cut.4 in
    record {
      parts = part.0 ∷ others.parts;
      spelling = found.1 ∙ ap (λ (t : List ℕ). word_of p ++ t) (cut.2 ∙ ap (λ (t : List ℕ). t ++ cut.1) part.1 ∙ ap (λ (t : List ℕ). written p part.0 ++ t) others.spelling);
      are = (part.2, others.are);
    }

-- ---- a fault is never want of memory

told_if : (t : Bool) (f : NameFault) (o : Option NameFault) → f ≢ Memory → o ≢ Some Memory → (if t then Some f else o) ≢ Some Memory
told_if true f o h k e = h cc
told_if false f o h k e = k e

told_bad : (bad : Option ℕ) → option_map BadByte bad ≢ Some Memory
told_bad None e = cc
told_bad (Some at) e = cc

told_part : (form : PartForm) (text : List ℕ) → part_fault form text ≢ Some Memory
told_part form text =
    told_if (length text == 0) Empty (unempty_fault form text) (λ e. cc)
    (told_if (nat_lt (most_bytes form) (length text)) (TooLong (length text)) (option_map BadByte (bad_place form text)) (λ e. cc) (told_bad (bad_place form text)))

by_percent : (t : Bool) (place : ℕ) → Some (if t then NotCanonical place else BadByte place) ≢ Some Memory
by_percent true place e = cc
by_percent false place e = cc

told_spelling : (t : Bool) (text : List ℕ) (place : ℕ) → Some (if t then BadByte place else misspelt text place) ≢ Some Memory
told_spelling true text place e = cc
told_spelling false [] place e = cc
told_spelling false (b ∷ bs) place e = by_percent (b == 37) place e

told_there : (bad : Option ℕ) (ss : List (ℕ × List ℕ)) (place : ℕ) → fault_there bad ss place ≢ Some Memory
told_there None [] place e = cc
told_there (Some at) [] place e = cc
told_there bad (s ∷ ss) place e = told_spelling (is_spelling s.1 s.0) s.1 place e

told_escaped : (form : PartForm) (text : List ℕ) → escaped_fault form text ≢ Some Memory
unfolding escaped_fault
told_escaped form text =
    told_if (length text == 0) Empty _ (λ e. cc)
    (told_if (nat_lt (most_bytes form) (length (percent_decode text))) (TooLong (length (percent_decode text))) (first_fault (bad_place form (percent_decode text)) (spelled text)) (λ e. cc)
    (told_there (bad_place form (percent_decode text)) _ _))

told_written : (p : Piece) (text : List ℕ) → piece_fault p text ≢ Some Memory
told_written piece.Invocation text = told_part (Letters alphabet.Invocation) text
told_written piece.Test text = told_escaped TestId text
told_written piece.Result text = told_part (Letters alphabet.Outcome) text
told_written piece.Artifact text = told_escaped (Letters alphabet.Artifact) text

told_shifted : (n : ℕ) (o : Option NameFault) → o ≢ Some Memory → option_map (shifted n) o ≢ Some Memory
told_shifted n None h e = cc
told_shifted n (Some Empty) h e = cc
told_shifted n (Some (TooLong len)) h e = cc
told_shifted n (Some (BadByte at)) h e = cc
told_shifted n (Some (NotCanonical at)) h e = cc
told_shifted n (Some OutOfRange) h e = cc
told_shifted n (Some Memory) h e = h refl

told_or : (o p : Option NameFault) → o ≢ Some Memory → p ≢ Some Memory → option_or o p ≢ Some Memory
told_or None p h k e = k e
told_or (Some f) p h k e = h e

told_cond : (t : Bool) (o p : Option NameFault) → o ≢ Some Memory → p ≢ Some Memory → (if t then o else p) ≢ Some Memory
told_cond true o p h k e = h e
told_cond false o p h k e = k e

told_behind : (literal : List ℕ) (fault : List ℕ → Option NameFault) (text : List ℕ) → ((t : List ℕ) → fault t ≢ Some Memory) → behind literal fault text ≢ Some Memory
unfolding behind
told_behind literal fault text told =
    told_cond (common_prefix_len nat_eq text literal == length literal) (option_map (shifted (length literal)) (fault (drop (length literal) text))) (Some (BadByte (common_prefix_len nat_eq text literal)))
    (told_shifted (length literal) (fault (drop (length literal) text)) (told (drop (length literal) text))) (λ e. cc)

told_to_slash : (first rest : List ℕ → Option NameFault) (text : List ℕ) → ((t : List ℕ) → first t ≢ Some Memory) → ((t : List ℕ) → rest t ≢ Some Memory) → up_to_slash first rest text ≢ Some Memory
unfolding up_to_slash
told_to_slash first rest text told told' =
    told_or (first (take (slash_place text) text)) (option_map (shifted (slash_place text)) (rest (drop (slash_place text) text)))
    (told (take (slash_place text) text)) (told_shifted (slash_place text) (rest (drop (slash_place text) text)) (told' (drop (slash_place text) text)))

pub name_fault-told : (ps : List Piece) (text : List ℕ) → name_fault ps text ≢ Some Memory
name_fault-told [] text e = cc
name_fault-told (p ∷ []) text e = told_behind (word_of p) (piece_fault p) text (told_written p) e
name_fault-told (p ∷ q ∷ ps) text e =
    told_behind (word_of p) (up_to_slash (piece_fault p) (name_fault (q ∷ ps))) text
    (λ t. told_to_slash (piece_fault p) (name_fault (q ∷ ps)) t (told_written p) (name_fault-told (q ∷ ps))) e
