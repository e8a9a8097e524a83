-- How long the names of cases are together.
use Rattle.std.proofs.Common.{◌≡◌, ℕ, zero, suc, ◌+◌, ◌-◌, ◌<◌, ◌≤◌, List, [], ◌∷◌, ◌++◌, length, map, take, drop, replicate, get_or, codes, refl, sym, ap, ◌∙◌, subst, arith}
use Rattle.std.specs.Prelude.{Option, Some, None, nat_le, false}
use Rattle.std.specs.List.{flat_map, sum}
use Rattle.std.proofs.lemmas.Bool.Decides.{nat_tests}
use Rattle.std.proofs.lemmas.List.{length-append, length-map, map-append, take-map}
use Rattle.std.proofs.lemmas.List.Sums.{sum_by-append, sum_by-cons}
use Rattle.names_realms.specs.declared.states.Case.{Case}
use Rattle.tap_reader.specs.declared.entries.Entry.{Entry}
use Rattle.tap_reader.specs.Entries.{line_of}
use Rattle.tap_reader.specs.LineForms.{Said, Plan, Point, Bail, Open, Missing}
use Rattle.tap_reader.specs.Cases.{case_said, missing_case, name_for_subtest, name_in, names_len, number_name, point_case, point_name}
use Rattle.tap_reader.specs.Naming.{named, parents, resized}
use Rattle.tap_reader.specs.NameLengths.{Leaves, fitted, name_len, with_partings}
use Rattle.tap_reader.proofs.NamingLemmas.{map-replicate, named_more, parents_more, resized-is}

path-length : (path : List (List ℕ)) → length (flat_map (λ parent. parent ++ codes " > ") path) ≡ sum (with_partings path)
path-length [] = refl
path-length (p ∷ ps) =
    let rest = flat_map (λ parent. parent ++ codes " > ") ps in
    length-append (p ++ codes " > ") rest ∙ ap (λ n. n + length rest) (length-append p (codes " > "))
    ∙ ap (λ n. (length p + 3) + n) (path-length ps) ∙ sym (sum_by-cons (λ n. n) (length p + 3) (with_partings ps))

name-length : (path : List (List ℕ)) (name : List ℕ) → length (name_in path name) ≡ sum (with_partings path) + length name
unfolding name_in
name-length path name =
    length-append (flat_map (λ parent. parent ++ codes " > ") path) name ∙ ap (λ n. n + length name) (path-length path)

one_name : (c : Case) → names_len (c ∷ []) ≡ length c.name
one_name c = omega arith

case-length : (path : List (List ℕ)) (level : ℕ) (said : Said) → names_len (case_said path level said) ≡ name_len (sum (with_partings path)) said
unfolding point_case missing_case
case-length path level (Plan count) = refl
case-length path level (Point t) = one_name (point_case path level t) ∙ name-length path (point_name t)
case-length path level Bail = refl
case-length path level Open = refl
case-length path level (Missing k) = one_name (missing_case path k) ∙ name-length path (number_name k)

lengths-resized : (n : ℕ) (path : List (List ℕ)) → with_partings (resized n path) ≡ fitted n (with_partings path)
lengths-resized n path =
    let f : List ℕ → ℕ = λ name. length name + 3 in
    let k = n - length path in
    ap with_partings (sym (resized-is n path))
    ∙ map-append f (take n path) (replicate k (codes "unfinished"))
    ∙ ap (λ l. l ++ map f (replicate k (codes "unfinished"))) (sym (take-map f n path))
    ∙ ap (λ l. take n (map f path) ++ l) (map-replicate f k (codes "unfinished"))
    ∙ ap (λ m. take n (map f path) ++ replicate (n - m) 13) (sym (length-map path f))

-- the names with one line more in front
pub names_more : (es : List Entry) (at : ℕ) (d : Entry) (lens : List ℕ) → 0 < at → at ≤ length es → lens ≡ with_partings (parents (map line_of (drop at es))) → names_len (named (map line_of (drop (at - 1) es))) ≡ name_len (sum (fitted (line_of (get_or es (at - 1) d)).level lens)) (line_of (get_or es (at - 1) d)).said + names_len (named (map line_of (drop at es)))
names_more es at d lens some within same =
    let l = line_of (get_or es (at - 1) d) in
    let rest = map line_of (drop at es) in
    let path = resized l.level (parents rest) in
    ap names_len (named_more es at d some within)
    ∙ sum_by-append (λ (c : Case). length c.name) (case_said path l.level l.said) (named rest)
    ∙ ap (λ n. n + names_len (named rest))
    (case-length path l.level l.said
    ∙ ap (λ lens. name_len (sum lens) l.said) (lengths-resized l.level (parents rest) ∙ ap (fitted l.level) (sym same)))

-- and the lengths of the parents' names
pub lengths_more : (es : List Entry) (at : ℕ) (d : Entry) (lens : List ℕ) → 0 < at → at ≤ length es → lens ≡ with_partings (parents (map line_of (drop at es))) → with_partings (parents (map line_of (drop (at - 1) es))) ≡ fitted (line_of (get_or es (at - 1) d)).level lens ++ (length (name_for_subtest (line_of (get_or es (at - 1) d)).said) + 3) ∷ []
lengths_more es at d lens some within same =
    let l = line_of (get_or es (at - 1) d) in
    let above = parents (map line_of (drop at es)) in
    ap with_partings (parents_more es at d some within)
    ∙ map-append (λ (name : List ℕ). length name + 3) (resized l.level above) (name_for_subtest l.said ∷ [])
    ∙ ap (λ lens. lens ++ (length (name_for_subtest l.said) + 3) ∷ []) (lengths-resized l.level above ∙ ap (fitted l.level) (sym same))

-- the last lines have no longer names than all
pub names_behind : (n : ℕ) (es : List Entry) → names_len (named (map line_of (drop n es))) ≤ names_len (named (map line_of es))
names_behind zero es = omega arith
names_behind (suc n) [] = omega arith
names_behind (suc n) (e ∷ es) =
    let l = line_of e in
    let rest = map line_of es in
    let path = resized l.level (parents rest) in
    omega (arith, names_behind n es, sum_by-append (λ (c : Case). length c.name) (case_said path l.level l.said) (named rest))

-- how long the name is that the line before these has
abbrev pub next_len : List Entry → ℕ → Entry → List ℕ → ℕ
next_len es at d lens =
    let l = line_of (get_or es (at - 1) d) in name_len (sum (fitted l.level lens)) l.said

-- there is room for the name of a line more
pub counting_step : (es : List Entry) (at : ℕ) (d : Entry) (lens lens' : List ℕ) (left rest : ℕ) (o : Option ℕ) → 0 < at → at ≤ length es → left + names_len (named (map line_of (drop at es))) ≡ 536870912 → lens ≡ with_partings (parents (map line_of (drop at es))) → Leaves o left (next_len es at d lens) → o ≡ Some rest → lens' ≡ fitted (line_of (get_or es (at - 1) d)).level lens ++ (length (name_for_subtest (line_of (get_or es (at - 1) d)).said) + 3) ∷ [] → (rest + names_len (named (map line_of (drop (at - 1) es))) ≡ 536870912) × (lens' ≡ with_partings (parents (map line_of (drop (at - 1) es))))
counting_step es at d lens lens' left rest o some within room same leaves is made =
    let P : Option ℕ → Type 0 = λ o. Leaves o left (next_len es at d lens) in
    let kept : rest + next_len es at d lens ≡ left = subst P is leaves in
    (omega (arith, kept, room, names_more es at d lens some within same), made ∙ sym (lengths_more es at d lens some within same))

-- there is none, so the names of all lines are too long
pub counting_stop : (es : List Entry) (at : ℕ) (d : Entry) (lens : List ℕ) (left : ℕ) (o : Option ℕ) → 0 < at → at ≤ length es → left + names_len (named (map line_of (drop at es))) ≡ 536870912 → lens ≡ with_partings (parents (map line_of (drop at es))) → Leaves o left (next_len es at d lens) → o ≡ None → false ≡ nat_le (names_len (named (map line_of es))) 536870912
counting_stop es at d lens left o some within room same leaves is =
    let P : Option ℕ → Type 0 = λ o. Leaves o left (next_len es at d lens) in
    let none : left < next_len es at d lens = subst P is leaves in
    let long : 536870912 < names_len (named (map line_of es)) =
    omega (arith, none, room, names_more es at d lens some within same, names_behind (at - 1) es) in
    grind (arith, nat_tests, long)
