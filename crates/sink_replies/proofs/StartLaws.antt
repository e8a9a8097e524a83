-- A status line that isn't whole yet: where it goes on to a reply's head, it does so with one of a few ends.
use Rattle.std.proofs.Common.{◌≡◌, ℕ, ◌+◌, ◌-◌, ◌<◌, ◌≤◌, IsTrue, List, [], ◌∷◌, ◌++◌, length, drop, codes, refl, sym, ap, ◌∙◌, subst, arith, append_assoc, append-nil, length-append, length-drop}
use Rattle.std.proofs.lemmas.Grind.{flat_map-append}
use Rattle.std.proofs.lemmas.List.{drop-drop}
use Rattle.std.proofs.lemmas.List.Elements.{All-cons, All-nil}
use Rattle.std.specs.Prelude.{Bool, true, false, MatchBool, Option, Some, None}
use Rattle.std.specs.Char.{is_ascii_digit}
use Rattle.httparse.specs.Grammar.{LineEnd, lf, crlf, print_end, print_blank, print_version, print_reason, reason_phrase, print_section, print_response, is_value_byte, AllPass, HasNoResponse}
use Rattle.sink_replies.specs.Replies.{IsReplyHead, MayBecomeHead, BeginsNoReply}
use Rattle.sink_replies.specs.Ends.{IsHeadAlone, CanEnd, last_lines}
use Rattle.sink_replies.specs.Ends.CanEnd.{by_lines, by_field, by_name, by_letter}
use Rattle.sink_replies.proofs.CutLaws.{Cut, cut, EndCut, end_cut, All-front, refilled}
use Rattle.sink_replies.proofs.CutLaws.Cut.{inside, behind}
use Rattle.sink_replies.proofs.CutLaws.EndCut.{before_end, behind_return}
use Rattle.sink_replies.proofs.ReplyLaws.{HasHead, none_by_heads, becomes}
use Rattle.sink_replies.proofs.EndLaws.{Begun, started, start, in_lines, behind_reason, behind_digits, behind_blank, printed_right, section_enough, reason_enough, digits_enough, blank_enough}

nothing_said : AllPass is_value_byte []
nothing_said = All-nil (λ x. IsTrue (is_value_byte x))

three_digits : (a b c : ℕ) → is_ascii_digit a ≡ true → is_ascii_digit b ≡ true → is_ascii_digit c ≡ true
    → (length (a ∷ b ∷ c ∷ []) ≡ 3) × AllPass is_ascii_digit (a ∷ b ∷ c ∷ [])
three_digits a b c x y z =
    let P : ℕ → Type 0 = λ v. IsTrue (is_ascii_digit v) in
    (refl, All-cons P a (b ∷ c ∷ []) x (All-cons P b (c ∷ []) y (All-cons P c [] z (All-nil P))))

-- ---- the end of the status line

at_line_end : (bytes more : List ℕ) (x : Begun bytes more) (b : List ℕ)
    → bytes ≡ print_blank x.h.blank ++ (print_version x.h.minor ++ 32 ∷ (x.h.digits ++ (print_reason x.h.reason ++ b)))
    → b ++ more ≡ behind_reason x.h → 0 < length more → CanEnd bytes
at_line_end bytes more x b is rest some = by_cut (cut b more (print_end x.h.line_end) (print_section x.h.fields x.h.last) rest)
  where
    ok : IsReplyHead x.h x.len
    ok = x.is_head

    -- the bytes with what ends the line, and no body announced
    filled : (e : LineEnd) → b ++ codes "\ncontent-length:0\n\n" ≡ print_end e ++ codes "content-length:0\n\n"
        → bytes ++ codes "\ncontent-length:0\n\n"
        ≡ print_blank x.h.blank ++ (print_version x.h.minor ++ 32 ∷ (x.h.digits ++ (print_reason x.h.reason ++ (print_end e ++ codes "content-length:0\n\n"))))
    filled e same =
        ap (λ z. z ++ codes "\ncontent-length:0\n\n") is
        ∙ regroup (print_blank x.h.blank) (print_version x.h.minor) x.h.digits (print_reason x.h.reason) b (codes "\ncontent-length:0\n\n")
        ∙ ap (λ z. print_blank x.h.blank ++ (print_version x.h.minor ++ 32 ∷ (x.h.digits ++ (print_reason x.h.reason ++ z)))) same
      where
        regroup : (p q r t b s : List ℕ) → (p ++ (q ++ 32 ∷ (r ++ (t ++ b)))) ++ s ≡ p ++ (q ++ 32 ∷ (r ++ (t ++ (b ++ s))))
        regroup p q r t b s = simp append_assoc

    ended : (e : LineEnd) → b ++ codes "\ncontent-length:0\n\n" ≡ print_end e ++ codes "content-length:0\n\n" → 19 ≤ length more → CanEnd bytes
    ended e same enough =
        by_lines 13 (omega arith)
        (started bytes more (codes "\ncontent-length:0\n\n") x x.h.blank x.h.minor x.h.digits x.h.reason e ok.head.minor ok.head.digits ok.head.reason
        (filled e same) enough)

    left : length b + length more ≡ length (print_end x.h.line_end) + length (print_section x.h.fields x.h.last)
    left = let a = ap length rest in let d = length-append b more in let e = length-append (print_end x.h.line_end) (print_section x.h.fields x.h.last) in
        omega (arith, a, d, e)

    at_end : EndCut x.h.line_end b → CanEnd bytes
    at_end (before_end none) =
        ended lf (ap (λ z. z ++ codes "\ncontent-length:0\n\n") none)
        (let a = reason_enough bytes more x in let d = ap length none in let e = ap length rest in let f = length-append b more in omega (arith, a, d, e, f))
    at_end (behind_return b_is end_is) =
        ended crlf (ap (λ z. z ++ codes "\ncontent-length:0\n\n") b_is)
        (let a = section_enough bytes more x in let d = ap length b_is in let e = ap (λ z. length (print_end z)) end_is in let f = left in omega (arith, a, d, e, f))

    by_cut : Cut b more (print_end x.h.line_end) (print_section x.h.fields x.h.last) → CanEnd bytes
    by_cut (inside z m end_is rest_is) = at_end (end_cut x.h.line_end b z m end_is)
    by_cut (behind m b_is rest_is) = in_lines bytes more x [] x.h.fields m refl whole rest_is some
      where
        whole : bytes ≡ start x.h ++ m
        whole = is ∙ ap (λ z. print_blank x.h.blank ++ (print_version x.h.minor ++ 32 ∷ (x.h.digits ++ (print_reason x.h.reason ++ z)))) b_is
            ∙ regroup (print_blank x.h.blank) (print_version x.h.minor) x.h.digits (print_reason x.h.reason) (print_end x.h.line_end) m
          where
            regroup : (p q r t b s : List ℕ) → p ++ (q ++ 32 ∷ (r ++ (t ++ (b ++ s)))) ≡ (p ++ q ++ 32 ∷ r ++ t ++ b) ++ s
            regroup p q r t b s = simp append_assoc

-- ---- the phrase

at_reason : (bytes more : List ℕ) (x : Begun bytes more) (b : List ℕ) (reason : Option (List ℕ)) → x.h.reason ≡ reason
    → bytes ≡ print_blank x.h.blank ++ (print_version x.h.minor ++ 32 ∷ (x.h.digits ++ b))
    → b ++ more ≡ print_reason reason ++ behind_reason x.h → 0 < length more → CanEnd bytes
at_reason bytes more x b None reason_is is rest some =
    at_line_end bytes more x b
    (is ∙ ap (λ r. print_blank x.h.blank ++ (print_version x.h.minor ++ 32 ∷ (x.h.digits ++ (print_reason r ++ b)))) (sym reason_is)) rest some
at_reason bytes more x b (Some phrase) reason_is is rest some = by_space b refl
  where
    ok : IsReplyHead x.h x.len
    ok = x.is_head

    filled : (said : Option (List ℕ)) → b ≡ print_reason said → bytes ++ codes "\ncontent-length:0\n\n"
        ≡ print_blank x.h.blank ++ (print_version x.h.minor ++ 32 ∷ (x.h.digits ++ (print_reason said ++ (print_end lf ++ codes "content-length:0\n\n"))))
    filled said same =
        ap (λ z. z ++ codes "\ncontent-length:0\n\n") is
        ∙ regroup (print_blank x.h.blank) (print_version x.h.minor) x.h.digits b (codes "\ncontent-length:0\n\n")
        ∙ ap (λ z. print_blank x.h.blank ++ (print_version x.h.minor ++ 32 ∷ (x.h.digits ++ (z ++ codes "\ncontent-length:0\n\n")))) same
      where
        regroup : (p q r b s : List ℕ) → (p ++ (q ++ 32 ∷ (r ++ b))) ++ s ≡ p ++ (q ++ 32 ∷ (r ++ (b ++ s)))
        regroup p q r b s = simp append_assoc

    ended : (said : Option (List ℕ)) → b ≡ print_reason said → AllPass is_value_byte (reason_phrase said) → 19 ≤ length more → CanEnd bytes
    ended said same fine enough =
        by_lines 13 (omega arith)
        (started bytes more (codes "\ncontent-length:0\n\n") x x.h.blank x.h.minor x.h.digits said lf ok.head.minor ok.head.digits fine
        (filled said same) enough)

    fine : AllPass is_value_byte phrase
    fine = subst (λ r. AllPass is_value_byte (reason_phrase r)) reason_is ok.head.reason

    by_phrase : (d : List ℕ) → b ≡ 32 ∷ d → Cut d more phrase (behind_reason x.h) → CanEnd bytes
    by_phrase d b_is (inside z m phrase_is more_is) =
        ended (Some d) b_is (All-front (λ v. IsTrue (is_value_byte v)) d (z ∷ m) (subst (AllPass is_value_byte) phrase_is fine))
        (let a = reason_enough bytes more x in let n = ap length more_is in let e = length-append (z ∷ m) (behind_reason x.h) in omega (arith, a, n, e))
    by_phrase d b_is (behind m d_is rest_is) =
        at_line_end bytes more x m
        (is ∙ ap (λ z. print_blank x.h.blank ++ (print_version x.h.minor ++ 32 ∷ (x.h.digits ++ z)))
        (b_is ∙ ap (λ z. 32 ∷ z) d_is ∙ ap (λ r. print_reason r ++ m) (sym reason_is))) rest_is some

    by_space : (d : List ℕ) → b ≡ d → CanEnd bytes
    by_space [] b_is =
        ended None b_is nothing_said
        (let a = reason_enough bytes more x in let n = ap length rest in let e = length-append b more in let f = ap length b_is in
        let g = length-append (32 ∷ phrase) (behind_reason x.h) in omega (arith, a, n, e, f, g))
    by_space (k ∷ d) b_is =
        let whole : k ∷ (d ++ more) ≡ 32 ∷ (phrase ++ behind_reason x.h) = ap (λ z. z ++ more) (sym b_is) ∙ rest in
        let first : k ≡ 32 = cc in
        let next : d ++ more ≡ phrase ++ behind_reason x.h = cc in
        by_phrase d (b_is ∙ ap (λ v. v ∷ d) first) (cut d more phrase (behind_reason x.h) next)

-- ---- the digits

-- the three digits of a status
data Three (digits : List ℕ) : Type 0 where
  three : (a b c : ℕ) → digits ≡ a ∷ b ∷ c ∷ [] → is_ascii_digit a ≡ true → is_ascii_digit b ≡ true → is_ascii_digit c ≡ true → Three digits

three_of : (ds : List ℕ) → (length ds ≡ 3) × AllPass is_ascii_digit ds → Three ds
three_of [] ok = absurd (let n = ok.0 in omega (arith, n))
three_of (a ∷ []) ok = absurd (let n = ok.0 in omega (arith, n))
three_of (a ∷ b ∷ []) ok = absurd (let n = ok.0 in omega (arith, n))
three_of (a ∷ b ∷ c ∷ []) ok = three a b c refl (ok.1 0 0 (omega arith)) (ok.1 1 0 (omega arith)) (ok.1 2 0 (omega arith))
three_of (a ∷ b ∷ c ∷ d ∷ ds) ok = absurd (let n = ok.0 in omega (arith, n))

at_digits : (bytes more : List ℕ) (x : Begun bytes more) (b : List ℕ)
    → bytes ≡ print_blank x.h.blank ++ (print_version x.h.minor ++ 32 ∷ b)
    → b ++ more ≡ x.h.digits ++ behind_digits x.h → 0 < length more → CanEnd bytes
at_digits bytes more x b is rest some = by_digits (three_of x.h.digits x.is_head.head.digits)
  where
    ok : IsReplyHead x.h x.len
    ok = x.is_head

    filled : (digits s : List ℕ) → b ++ s ≡ digits ++ codes "\ncontent-length:0\n\n" → bytes ++ s
        ≡ print_blank x.h.blank ++ (print_version x.h.minor ++ 32 ∷ (digits ++ (print_reason None ++ (print_end lf ++ codes "content-length:0\n\n"))))
    filled digits s same =
        ap (λ z. z ++ s) is ∙ regroup (print_blank x.h.blank) (print_version x.h.minor) b s
        ∙ ap (λ z. print_blank x.h.blank ++ (print_version x.h.minor ++ 32 ∷ z)) same
      where
        regroup : (p q b s : List ℕ) → (p ++ (q ++ 32 ∷ b)) ++ s ≡ p ++ (q ++ 32 ∷ (b ++ s))
        regroup p q b s = simp append_assoc

    ended : (k : ℕ) (digits : List ℕ) → k < 32 → (length digits ≡ 3) × AllPass is_ascii_digit digits
        → b ++ drop k last_lines ≡ digits ++ codes "\ncontent-length:0\n\n" → length (drop k last_lines) ≤ length more → CanEnd bytes
    ended k digits small fine same enough =
        by_lines k small
        (started bytes more (drop k last_lines) x x.h.blank x.h.minor digits None lf ok.head.minor fine nothing_said (filled digits (drop k last_lines) same) enough)

    by_digits : Three x.h.digits → CanEnd bytes
    by_digits (three d e f digits_are one two last) = by_bytes b refl
      where
        whole : b ++ more ≡ d ∷ e ∷ f ∷ behind_digits x.h
        whole = rest ∙ ap (λ ds. ds ++ behind_digits x.h) digits_are

        left : length b + length more ≡ 3 + length (behind_digits x.h)
        left = let a = ap length whole in let n = length-append b more in omega (arith, a, n)

        enough : 19 ≤ length (behind_digits x.h)
        enough = digits_enough bytes more x

        by_bytes : (c : List ℕ) → b ≡ c → CanEnd bytes
        by_bytes [] b_is =
            ended 10 (codes "200") (omega arith) (three_digits 50 48 48 refl refl refl) (ap (λ z. z ++ codes "200\ncontent-length:0\n\n") b_is)
            (let a = left in let n = ap length b_is in let g = enough in omega (arith, a, n, g))
        by_bytes (u ∷ []) b_is =
            let both : u ∷ more ≡ d ∷ e ∷ f ∷ behind_digits x.h = ap (λ z. z ++ more) (sym b_is) ∙ whole in
            let first : d ≡ u = cc in
            ended 11 (u ∷ codes "00") (omega arith) (three_digits u 48 48 (subst (λ v. is_ascii_digit v ≡ true) first one) refl refl)
            (ap (λ z. z ++ codes "00\ncontent-length:0\n\n") b_is)
            (let a = left in let n = ap length b_is in let g = enough in omega (arith, a, n, g))
        by_bytes (u ∷ v ∷ []) b_is =
            let both : u ∷ v ∷ more ≡ d ∷ e ∷ f ∷ behind_digits x.h = ap (λ z. z ++ more) (sym b_is) ∙ whole in
            let first : d ≡ u = cc in
            let second : e ≡ v = cc in
            ended 12 (u ∷ v ∷ codes "0") (omega arith)
            (three_digits u v 48 (subst (λ w. is_ascii_digit w ≡ true) first one) (subst (λ w. is_ascii_digit w ≡ true) second two) refl)
            (ap (λ z. z ++ codes "0\ncontent-length:0\n\n") b_is)
            (let a = left in let n = ap length b_is in let g = enough in omega (arith, a, n, g))
        by_bytes (u ∷ v ∷ w ∷ c) b_is =
            let both : u ∷ v ∷ w ∷ (c ++ more) ≡ d ∷ e ∷ f ∷ behind_digits x.h = ap (λ z. z ++ more) (sym b_is) ∙ whole in
            let first : u ≡ d = cc in
            let second : v ≡ e = cc in
            let third : w ≡ f = cc in
            let next : c ++ more ≡ behind_digits x.h = cc in
            at_reason bytes more x c x.h.reason refl
            (is ∙ ap (λ z. print_blank x.h.blank ++ (print_version x.h.minor ++ 32 ∷ z))
            (b_is ∙ cc (first, second, third) ∙ ap (λ ds. ds ++ c) (sym digits_are))) next some

-- ---- the version

at_minor : (bytes more : List ℕ) (x : Begun bytes more) (b : List ℕ) → bytes ≡ print_blank x.h.blank ++ (codes "HTTP/1." ++ b)
    → b ++ more ≡ (48 + x.h.minor) ∷ 32 ∷ (x.h.digits ++ behind_digits x.h) → 0 < length more → CanEnd bytes
at_minor bytes more x [] is rest some =
    by_lines 8 (omega arith)
    (started bytes more (codes "1 200\ncontent-length:0\n\n") x x.h.blank 1 (codes "200") None lf (omega arith) (three_digits 50 48 48 refl refl refl) nothing_said
    (ap (λ z. z ++ codes "1 200\ncontent-length:0\n\n") is ∙ append_assoc (print_blank x.h.blank) (codes "HTTP/1.") (codes "1 200\ncontent-length:0\n\n"))
    (let a = ap length rest in let n = length-append x.h.digits (behind_digits x.h) in let d = x.is_head.head.digits.0 in let e = digits_enough bytes more x in
    omega (arith, a, n, d, e)))
at_minor bytes more x (k ∷ []) is rest some =
    let first : k ≡ 48 + x.h.minor = cc in
    by_lines 9 (omega arith)
    (started bytes more (codes " 200\ncontent-length:0\n\n") x x.h.blank x.h.minor (codes "200") None lf x.is_head.head.minor (three_digits 50 48 48 refl refl refl)
    nothing_said
    (ap (λ z. z ++ codes " 200\ncontent-length:0\n\n") is
    ∙ append_assoc (print_blank x.h.blank) (codes "HTTP/1." ++ k ∷ []) (codes " 200\ncontent-length:0\n\n")
    ∙ ap (λ v. print_blank x.h.blank ++ (codes "HTTP/1." ++ v ∷ codes " 200\ncontent-length:0\n\n")) first)
    (let a = ap length rest in let n = length-append x.h.digits (behind_digits x.h) in let d = x.is_head.head.digits.0 in let e = digits_enough bytes more x in
    omega (arith, a, n, d, e)))
at_minor bytes more x (k ∷ u ∷ b) is rest some =
    let first : k ≡ 48 + x.h.minor = cc in
    let second : u ≡ 32 = cc in
    let next : b ++ more ≡ x.h.digits ++ behind_digits x.h = cc in
    at_digits bytes more x b
    (is ∙ ap (λ v. print_blank x.h.blank ++ (codes "HTTP/1." ++ v ∷ u ∷ b)) first
    ∙ ap (λ v. print_blank x.h.blank ++ (codes "HTTP/1." ++ (48 + x.h.minor) ∷ v ∷ b)) second) next some

at_version : (bytes more : List ℕ) (x : Begun bytes more) (b : List ℕ) → bytes ≡ print_blank x.h.blank ++ b → b ++ more ≡ behind_blank x.h → 0 < length more
    → CanEnd bytes
at_version bytes more x b is rest some =
    by_cut (cut b more (codes "HTTP/1.") ((48 + x.h.minor) ∷ 32 ∷ (x.h.digits ++ behind_digits x.h)) rest)
  where
    by_cut : Cut b more (codes "HTTP/1.") ((48 + x.h.minor) ∷ 32 ∷ (x.h.digits ++ behind_digits x.h)) → CanEnd bytes
    by_cut (inside z m front rest_is) =
        by_lines (1 + length b) (let a = seven in omega (arith, a))
        (subst (λ s. IsHeadAlone (bytes ++ s)) (drop-drop (length b) 1 last_lines)
        (started bytes more (drop (length b) (drop 1 last_lines)) x x.h.blank 1 (codes "200") None lf (omega arith) (three_digits 50 48 48 refl refl refl) nothing_said
        (ap (λ t. t ++ drop (length b) (drop 1 last_lines)) is ∙ append_assoc (print_blank x.h.blank) b (drop (length b) (drop 1 last_lines))
        ∙ ap (λ t. print_blank x.h.blank ++ t) again)
        (let a = tail_length in let n = ap length rest_is in let e = length-append (z ∷ m) ((48 + x.h.minor) ∷ 32 ∷ (x.h.digits ++ behind_digits x.h)) in
        let f = length-append x.h.digits (behind_digits x.h) in let g = x.is_head.head.digits.0 in let h = digits_enough bytes more x in let i = seven in
        omega (arith, a, n, e, f, g, h, i))))
      where
        seven : length b + (1 + length m) ≡ 7
        seven = let a = ap length front in let n = length-append b (z ∷ m) in omega (arith, a, n)

        again : b ++ drop (length b) (codes "HTTP/1." ++ codes "1 200\ncontent-length:0\n\n") ≡ codes "HTTP/1." ++ codes "1 200\ncontent-length:0\n\n"
        again = subst (λ t. b ++ drop (length b) (t ++ codes "1 200\ncontent-length:0\n\n") ≡ t ++ codes "1 200\ncontent-length:0\n\n") (sym front)
            (refilled b (z ∷ m) (codes "1 200\ncontent-length:0\n\n"))

        tail_length : length (drop (length b) (drop 1 last_lines)) ≡ 31 - length b
        tail_length = length-drop (length b) (drop 1 last_lines)
    by_cut (behind m b_is rest_is) = at_minor bytes more x m (is ∙ ap (λ t. print_blank x.h.blank ++ t) b_is) rest_is some

-- ---- the empty lines in front

at_blank : (bytes more : List ℕ) (x : Begun bytes more) (before after : List LineEnd) (b : List ℕ) → x.h.blank ≡ before ++ after
    → bytes ≡ print_blank before ++ b → b ++ more ≡ print_blank after ++ behind_blank x.h → 0 < length more → CanEnd bytes
at_blank bytes more x before [] b blank_is is rest some =
    at_version bytes more x b (is ∙ ap (λ es. print_blank es ++ b) (sym (append-nil before) ∙ sym blank_is)) rest some
at_blank bytes more x before (e ∷ after) b blank_is is rest some =
    by_cut (λ m p q. at_blank bytes more x (before ++ e ∷ []) after m (blank_is ∙ sym (append_assoc before (e ∷ []) after)) (further m p) q some)
    (cut b more (print_end e) (print_blank after ++ behind_blank x.h) whole)
  where
    whole : b ++ more ≡ print_end e ++ (print_blank after ++ behind_blank x.h)
    whole = rest ∙ append_assoc (print_end e) (print_blank after) (behind_blank x.h)

    further : (m : List ℕ) → b ≡ print_end e ++ m → bytes ≡ print_blank (before ++ e ∷ []) ++ m
    further m p =
        is ∙ ap (λ z. print_blank before ++ z) p ∙ sym (append_assoc (print_blank before) (print_end e) m)
        ∙ ap (λ z. z ++ m) (ap (λ z. print_blank before ++ z) (sym (append-nil (print_end e))) ∙ sym (flat_map-append print_end before (e ∷ [])))

    left : length b + length more ≡ length (print_end e) + (length (print_blank after) + length (behind_blank x.h))
    left = let a = ap length whole in let n = length-append b more in let u = length-append (print_end e) (print_blank after ++ behind_blank x.h) in
        let v = length-append (print_blank after) (behind_blank x.h) in omega (arith, a, n, u, v)

    at_end : EndCut e b → CanEnd bytes
    at_end (before_end none) =
        by_lines 1 (omega arith)
        (started bytes more (drop 1 last_lines) x before 1 (codes "200") None lf (omega arith) (three_digits 50 48 48 refl refl refl) nothing_said
        (ap (λ z. z ++ drop 1 last_lines) is ∙ append_assoc (print_blank before) b (drop 1 last_lines) ∙ ap (λ z. print_blank before ++ (z ++ drop 1 last_lines)) none)
        (let a = left in let n = ap length none in let u = blank_enough bytes more x in omega (arith, a, n, u)))
    at_end (behind_return b_is end_is) =
        by_lines 0 (omega arith)
        (started bytes more last_lines x (before ++ crlf ∷ []) 1 (codes "200") None lf (omega arith) (three_digits 50 48 48 refl refl refl) nothing_said
        (ap (λ z. z ++ last_lines) is ∙ append_assoc (print_blank before) b last_lines ∙ ap (λ z. print_blank before ++ (z ++ last_lines)) b_is
        ∙ sym (append_assoc (print_blank before) (print_end crlf) (drop 1 last_lines))
        ∙ ap (λ z. z ++ drop 1 last_lines) (sym (flat_map-append print_end before (crlf ∷ []))))
        (let a = left in let n = ap length b_is in let u = blank_enough bytes more x in let v = ap (λ z. length (print_end z)) end_is in omega (arith, a, n, u, v)))

    by_cut : ((m : List ℕ) → b ≡ print_end e ++ m → m ++ more ≡ print_blank after ++ behind_blank x.h → CanEnd bytes)
        → Cut b more (print_end e) (print_blank after ++ behind_blank x.h) → CanEnd bytes
    by_cut next (inside z m end_is rest_is) = at_end (end_cut e b z m end_is)
    by_cut next (behind m b_is rest_is) = next m b_is rest_is

-- ---- all of it

-- a front of a reply's head can be ended
pub front_ends : (bytes more : List ℕ) → Begun bytes more → 0 < length more → CanEnd bytes
front_ends bytes more x some = at_blank bytes more x [] x.h.blank bytes refl refl (x.parts ∙ printed_right x.h) some

pub none_without_end : (bytes : List ℕ) → ¬ (CanEnd bytes) → HasNoResponse bytes → BeginsNoReply bytes
none_without_end bytes no_end none = none_by_heads bytes (λ more x. by_cut more x (cut bytes more (print_response x.h) x.rest x.parts))
  where
    by_cut : (more : List ℕ) (x : HasHead (bytes ++ more)) → Cut bytes more (print_response x.h) x.rest → ⊥
    by_cut more x (inside z m head_is more_is) =
        no_end (front_ends bytes (z ∷ m) (record { h = x.h; len = x.len; is_head = x.is_head; parts = sym head_is }) (omega arith))
    by_cut more x (behind m bytes_is rest_is) = none x.h m (x.is_head.head, bytes_is)

pub none_by_ends : (bytes : List ℕ) → ((k : ℕ) → k < 32 → ¬ (IsHeadAlone (bytes ++ drop k last_lines)))
    → ¬ (IsHeadAlone (bytes ++ codes ":\ncontent-length:0\n\n")) → ¬ (IsHeadAlone (bytes ++ codes ":\n\n")) → ¬ (IsHeadAlone (bytes ++ codes "x:\n\n"))
    → HasNoResponse bytes → BeginsNoReply bytes
none_by_ends bytes no_rest no_field no_name no_letter = none_without_end bytes no_end
  where
    no_end : CanEnd bytes → ⊥
    no_end (by_lines k small a) = no_rest k small a
    no_end (by_field a) = no_field a
    no_end (by_name a) = no_name a
    no_end (by_letter a) = no_letter a

-- what the last of the few ends decides, where the others made no head
pub last_end : (bytes : List ℕ) (rest field name letter : Bool)
    → MatchBool rest ((k : ℕ) × IsHeadAlone (bytes ++ drop k last_lines)) ((k : ℕ) → k < 32 → ¬ (IsHeadAlone (bytes ++ drop k last_lines)))
    → MatchBool field (IsHeadAlone (bytes ++ codes ":\ncontent-length:0\n\n")) (¬ (IsHeadAlone (bytes ++ codes ":\ncontent-length:0\n\n")))
    → MatchBool name (IsHeadAlone (bytes ++ codes ":\n\n")) (¬ (IsHeadAlone (bytes ++ codes ":\n\n")))
    → MatchBool letter (IsHeadAlone (bytes ++ codes "x:\n\n")) (¬ (IsHeadAlone (bytes ++ codes "x:\n\n")))
    → rest ≡ false → field ≡ false → name ≡ false
    → MatchBool letter (MayBecomeHead bytes) (HasNoResponse bytes → BeginsNoReply bytes)
last_end bytes true field name letter a b c d first second third = absurd cc
last_end bytes false true name letter a b c d first second third = absurd cc
last_end bytes false false true letter a b c d first second third = absurd cc
last_end bytes false false false true a b c d first second third = becomes bytes (codes "x:\n\n") d
last_end bytes false false false false a b c d first second third = none_by_ends bytes a b c d
