-- The cases of the lines that were written of a tree are those of the tree.
use Rattle.std.proofs.Common.{◌≡◌, ℕ, zero, suc, ◌≤◌, true, List, [], ◌∷◌, ◌++◌, length, map, codes, refl, sym, ap, ◌∙◌, append_assoc, append-nil, arith}
use Rattle.std.proofs.lemmas.List.{length-append}
use Rattle.names_realms.specs.declared.states.Case.{Case}
use Rattle.tap_reader.specs.Counted.{Line}
use Rattle.tap_reader.specs.Streams.{Stream, Ends, Unfinished, Goes, IsAt, last_behind, missing_numbers, numbered, own_from}
use Rattle.tap_reader.specs.Cases.{case_said, listed, missing_case, missing_cases, name_for_subtest, report_cases}
use Rattle.tap_reader.specs.Completing.{missing_line, missing_lines}
use Rattle.tap_reader.specs.Naming.{named, parents, resized}
use Rattle.tap_reader.proofs.StreamLemmas.{whole, written}

abbrev unfinished : List ℕ
unfinished = codes "unfinished"

pad : (n : ℕ) (ps : List (List ℕ)) → length ps ≤ n → resized (suc n) ps ≡ resized n ps ++ unfinished ∷ []
pad zero [] h = refl
pad zero (p ∷ ps) h = absurd (omega arith)
pad (suc n) [] h = ap (λ l. unfinished ∷ l) (pad n [] (omega arith))
pad (suc n) (p ∷ ps) h = ap (λ l. p ∷ l) (pad n ps (omega arith))

resized-same : (ps : List (List ℕ)) → resized (length ps) ps ≡ ps
resized-same [] = refl
resized-same (p ∷ ps) = ap (λ l. p ∷ l) (resized-same ps)

resized-inner : (k j : ℕ) (ps xs : List (List ℕ)) → k ≤ j → resized k (resized j ps ++ xs) ≡ resized k ps
resized-inner zero j ps xs h = refl
resized-inner (suc k) zero ps xs h = absurd (omega arith)
resized-inner (suc k) (suc j) [] xs h = ap (λ l. unfinished ∷ l) (resized-inner k j [] xs (omega arith))
resized-inner (suc k) (suc j) (p ∷ ps) xs h = ap (λ l. p ∷ l) (resized-inner k j ps xs (omega arith))

length-resized : (n : ℕ) (ps : List (List ℕ)) → length (resized n ps) ≡ n
length-resized zero ps = refl
length-resized (suc n) [] = ap suc (length-resized n [])
length-resized (suc n) (p ∷ ps) = ap suc (length-resized n ps)

length-parents : (n : ℕ) (ps : List (List ℕ)) (name : List ℕ) → length (resized n ps ++ name ∷ []) ≡ suc n
length-parents n ps name = omega (arith, length-append (resized n ps) (name ∷ []), length-resized n ps)

resized-parents : (n : ℕ) (ps : List (List ℕ)) (name : List ℕ) → resized (suc n) (resized n ps ++ name ∷ []) ≡ resized n ps ++ name ∷ []
resized-parents n ps name =
    ap (λ k. resized k (resized n ps ++ name ∷ [])) (sym (length-parents n ps name)) ∙ resized-same (resized n ps ++ name ∷ [])

shallower : (k j : ℕ) (ps qs : List (List ℕ)) → k ≤ j → resized j ps ≡ resized j qs → resized k ps ≡ resized k qs
shallower k j ps qs h e =
    sym (resized-inner k j ps [] h) ∙ ap (λ l. resized k (l ++ [])) e ∙ resized-inner k j qs [] h

-- a subtest at the next level that stands before these lines has no parent
pub record Open (level : ℕ) (more : List Line) : Type 0 where
  pub short : length (parents more) ≤ suc level
  pub none : resized (suc level) (parents more) ≡ resized level (parents more) ++ unfinished ∷ []

Open-deeper : (level : ℕ) (more : List Line) → length (parents more) ≤ suc level → Open (suc level) more
Open-deeper level more h = record { short = omega arith; none = pad (suc level) (parents more) h }

Open-missing : (level k : ℕ) (more : List Line) → Open level (missing_line level k ∷ more)
Open-missing level k more =
    let ps = parents more in
    let len = length-parents level ps unfinished in
    record {
      short = omega arith;
      none = resized-parents level ps unfinished ∙ ap (λ l. l ++ unfinished ∷ []) (sym (resized-inner level level ps (unfinished ∷ []) (omega arith)));
    }

-- what the missing numbers of a stream leave in front of these lines
record Misses (level : ℕ) (ns : List ℕ) (more : List Line) : Type 0 where
  path : resized level (parents (map (missing_line level) ns ++ more)) ≡ resized level (parents more)
  open_ : Open level (map (missing_line level) ns ++ more)
  cases : named (map (missing_line level) ns ++ more) ≡ map (missing_case (resized level (parents more))) ns ++ named more

missed : (level : ℕ) (ns : List ℕ) (more : List Line) → Open level more → Misses level ns more
missed level [] more h = record { path = refl; open_ = h; cases = refl }
missed level (n ∷ ns) more h =
    let ih = missed level ns more h in
    let rest = map (missing_line level) ns ++ more in
    record {
      path = resized-inner level level (parents rest) (unfinished ∷ []) (omega arith) ∙ ih.path;
      open_ = Open-missing level n rest;
      cases = ap (λ p. missing_case p n ∷ named rest) ih.path ∙ ap (λ cs. missing_case (resized level (parents more)) n ∷ cs) ih.cases;
    }

-- what the lines of a stream leave in front of these lines
record Lists (level last : ℕ) (t : Stream) (more : List Line) : Type 0 where
  path : resized level (parents (written true level last t ++ more)) ≡ resized level (parents more)
  cases : named (written true level last t ++ more) ≡ listed (resized level (parents more)) last t ++ named more

-- what the lines of a whole stream do
record ListsWhole (level : ℕ) (t : Stream) (more : List Line) : Type 0 where
  path : resized level (parents (whole true level t ++ more)) ≡ resized level (parents more)
  cases : named (whole true level t ++ more)
      ≡ (listed (resized level (parents more)) 0 t ++ missing_cases (resized level (parents more)) (own_from 0 t)) ++ named more

whole_listed : (level : ℕ) (t : Stream) (more : List Line) → Open level more → ((after : List Line) → Open level after → Lists level 0 t after) → ListsWhole level t more
whole_listed level t more h by =
    let own = own_from 0 t in
    let ms = missing_lines level own in
    let m = missed level (missing_numbers own) more h in
    let w = by (ms ++ more) m.open_ in
    let p = resized level (parents more) in
    let split = append_assoc (written true level 0 t) ms more in
    record {
      path = ap (λ ls. resized level (parents ls)) split ∙ w.path ∙ m.path;
      cases =
          ap named split ∙ w.cases ∙ ap (λ q. listed q 0 t ++ named (ms ++ more)) m.path
          ∙ ap (λ cs. listed p 0 t ++ cs) m.cases
          ∙ sym (append_assoc (listed p 0 t) (missing_cases p own) (named more));
    }

goes_listed : (level last : ℕ) (sub : Stream) (l : Line) (rest : Stream) (more : List Line) → l.level ≡ level → Lists level (last_behind last l.said) rest more → ((after : List Line) → length (parents after) ≤ suc level → ListsWhole (suc level) sub after) → Lists level last (Goes sub l rest) more
goes_listed level last sub l rest more e r by =
    let x = numbered last l in
    let name = name_for_subtest x.said in
    let w = written true level (last_behind last l.said) rest in
    let after = x ∷ (w ++ more) in
    let path = resized level (parents more) in
    let here : parents after ≡ resized level (parents (w ++ more)) ++ name ∷ [] = ap (λ j. resized j (parents (w ++ more)) ++ name ∷ []) e in
    let len : length (parents after) ≡ suc level = ap length here ∙ length-parents level (parents (w ++ more)) name in
    let s = by after (omega arith) in
    let deep : resized (suc level) (parents after) ≡ path ++ name ∷ [] =
    ap (resized (suc level)) here ∙ resized-parents level (parents (w ++ more)) name ∙ ap (λ p. p ++ name ∷ []) r.path in
    let split : ((whole true (suc level) sub) ++ x ∷ w) ++ more ≡ whole true (suc level) sub ++ after = append_assoc (whole true (suc level) sub) (x ∷ w) more in
    let mine : case_said (resized l.level (parents (w ++ more))) l.level x.said ≡ case_said path l.level x.said =
    ap (λ p. case_said p l.level x.said) (ap (λ j. resized j (parents (w ++ more))) e ∙ r.path) in
    let below : List ℕ → List (List ℕ) → List Case = λ n p. listed p 0 sub ++ missing_cases p (own_from 0 sub) in
    let front = below name (path ++ name ∷ []) in
    record {
      path =
          ap (λ ls. resized level (parents ls)) split
          ∙ shallower level (suc level) (parents (whole true (suc level) sub ++ after)) (parents after) (omega arith) s.path
          ∙ ap (resized level) here ∙ resized-inner level level (parents (w ++ more)) (name ∷ []) (omega arith) ∙ r.path;
      cases =
          ap named split ∙ s.cases ∙ ap (λ p. below name p ++ named after) deep
          ∙ ap (λ cs. front ++ (cs ++ named (w ++ more))) mine
          ∙ ap (λ cs. front ++ (case_said path l.level x.said ++ cs)) r.cases
          ∙ ap (λ cs. front ++ cs) (sym (append_assoc (case_said path l.level x.said) (listed path (last_behind last l.said) rest) (named more)))
          ∙ sym (append_assoc front (case_said path l.level x.said ++ listed path (last_behind last l.said) rest) (named more));
    }

stream_listed : (level last : ℕ) (t : Stream) (more : List Line) → IsAt level t → Open level more → Lists level last t more
stream_listed level last Ends more at h = record { path = refl; cases = refl }
stream_listed level last (Unfinished sub) more at h =
    let s = whole_listed (suc level) sub more (Open-deeper level more h.short) (λ after o. stream_listed (suc level) 0 sub after at.1 o) in
    record {
      path = shallower level (suc level) (parents (whole true (suc level) sub ++ more)) (parents more) (omega arith) s.path;
      cases = s.cases ∙ ap (λ p. (listed p 0 sub ++ missing_cases p (own_from 0 sub)) ++ named more) h.none;
    }
stream_listed level last (Goes sub l rest) more at h =
    goes_listed level last sub l rest more at.1 (stream_listed level (last_behind last l.said) rest more at.2 h)
    (λ after short. whole_listed (suc level) sub after (Open-deeper level after short) (λ more' o. stream_listed (suc level) 0 sub more' at.0 o))

-- the cases of a report's lines, completed, are those of its tree
pub report_listed : (t : Stream) → IsAt 0 t → named (whole true 0 t) ≡ report_cases t
report_listed t at =
    let s = whole_listed 0 t [] (record { short = omega arith; none = refl }) (λ after o. stream_listed 0 0 t after at o) in
    ap named (sym (append-nil (whole true 0 t))) ∙ s.cases ∙ append-nil (report_cases t)
