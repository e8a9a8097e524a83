-- The names of parents, from the last line to the first.
use Rattle.std.proofs.Common.{◌≡◌, ℕ, zero, suc, ◌+◌, ◌-◌, ◌<◌, ◌≤◌, List, [], ◌∷◌, ◌++◌, length, map, take, drop, replicate, get_or, codes, refl, sym, ap, ◌∙◌, append-nil, arith}
use Rattle.std.specs.Prelude.{reverse}
use Rattle.std.proofs.lemmas.List.{drop_more, length-map, map-append, reverse-append, take-map}
use Rattle.names_realms.specs.declared.states.Case.{Case}
use Rattle.tap_reader.specs.LineForms.{Said, Plan, Point, Bail, Open, Missing}
use Rattle.tap_reader.specs.declared.entries.Entry.{Entry}
use Rattle.tap_reader.specs.declared.entries.Says.{Says}
use Rattle.tap_reader.specs.declared.entries.Says.TheVariants as says
use Rattle.tap_reader.specs.Entries.{line_of, said_of}
use Rattle.tap_reader.specs.Cases.{case_said, missing_case, name_for_subtest, point_case}
use Rattle.tap_reader.specs.Naming.{named, parents, resized}
use Rattle.tap_reader.specs.NamingViews.{names_of}

pub map-replicate : {X Y : Type 0} (f : X → Y) (n : ℕ) (x : X) → map f (replicate n x) ≡ replicate n (f x)
map-replicate f zero x = refl
map-replicate f (suc n) x = ap (λ l. f x ∷ l) (map-replicate f n x)

resized-none : (n : ℕ) → replicate n (codes "unfinished") ≡ resized n []
resized-none zero = refl
resized-none (suc n) = ap (λ l. codes "unfinished" ∷ l) (resized-none n)

pub resized-is : (n : ℕ) (names : List (List ℕ)) → take n names ++ replicate (n - length names) (codes "unfinished") ≡ resized n names
resized-is zero names = ap (λ k. replicate k (codes "unfinished")) (let e : zero - length names ≡ zero = omega arith in e)
resized-is (suc n) [] =
    ap (λ k. replicate k (codes "unfinished")) (let e : suc n - zero ≡ suc n = omega arith in e) ∙ resized-none (suc n)
resized-is (suc n) (name ∷ names) =
    ap (λ k. name ∷ (take n names ++ replicate k (codes "unfinished"))) (let e : suc n - suc (length names) ≡ n - length names = omega arith in e)
    ∙ ap (λ l. name ∷ l) (resized-is n names)

-- the parents that the code keeps, cut or filled up
pub names-resized : (n : ℕ) (path : List Says) → names_of (take n path ++ replicate (n - length path) says.Opened) ≡ resized n (names_of path)
names-resized n path =
    let f : Says → List ℕ = λ s. name_for_subtest (said_of s) in
    map-append f (take n path) (replicate (n - length path) says.Opened)
    ∙ ap (λ l. l ++ map f (replicate (n - length path) says.Opened)) (sym (take-map f n path))
    ∙ ap (λ l. take n (names_of path) ++ l) (map-replicate f (n - length path) says.Opened)
    ∙ ap (λ k. take n (names_of path) ++ replicate (n - k) (name_for_subtest (said_of says.Opened))) (sym (length-map path f))
    ∙ resized-is n (names_of path)

drop_last : (entries : List Entry) (at : ℕ) (d : Entry) → 0 < at → at ≤ length entries → drop (at - 1) entries ≡ get_or entries (at - 1) d ∷ drop at entries
drop_last entries at d some within =
    drop_more entries (at - 1) d (omega arith) ∙ ap (λ k. get_or entries (at - 1) d ∷ drop k entries) (let e : at - 1 + 1 ≡ at = omega arith in e)

-- one line more in front of the cases, and of the parents
pub named_more : (entries : List Entry) (at : ℕ) (d : Entry) → 0 < at → at ≤ length entries → named (map line_of (drop (at - 1) entries)) ≡ case_said (resized (get_or entries (at - 1) d).level (parents (map line_of (drop at entries)))) (get_or entries (at - 1) d).level (said_of (get_or entries (at - 1) d).says) ++ named (map line_of (drop at entries))
named_more entries at d some within = ap (λ es. named (map line_of es)) (drop_last entries at d some within)

pub parents_more : (entries : List Entry) (at : ℕ) (d : Entry) → 0 < at → at ≤ length entries → parents (map line_of (drop (at - 1) entries)) ≡ resized (get_or entries (at - 1) d).level (parents (map line_of (drop at entries))) ++ name_for_subtest (said_of (get_or entries (at - 1) d).says) ∷ []
parents_more entries at d some within = ap (λ es. parents (map line_of es)) (drop_last entries at d some within)

-- a line has one case at most
pub reverse_said : (xs : List Case) (path : List (List ℕ)) (level : ℕ) (said : Said) → reverse (xs ++ case_said path level said) ≡ case_said path level said ++ reverse xs
reverse_said xs path level (Plan count) = ap reverse (append-nil xs)
reverse_said xs path level (Point t) = reverse-append xs (point_case path level t ∷ [])
reverse_said xs path level Bail = ap reverse (append-nil xs)
reverse_said xs path level Open = ap reverse (append-nil xs)
reverse_said xs path level (Missing k) = reverse-append xs (missing_case path k ∷ [])

-- what one line more in front makes of the cases and the parents
pub naming_step : (es : List Entry) (at : ℕ) (d : Entry) (path path' : List (List ℕ)) (cases cases' : List Case) → 0 < at → at ≤ length es → reverse cases ≡ named (map line_of (drop at es)) → path ≡ parents (map line_of (drop at es)) → cases' ≡ cases ++ case_said (resized (get_or es (at - 1) d).level path) (get_or es (at - 1) d).level (said_of (get_or es (at - 1) d).says) → path' ≡ resized (get_or es (at - 1) d).level path ++ name_for_subtest (said_of (get_or es (at - 1) d).says) ∷ [] → (reverse cases' ≡ named (map line_of (drop (at - 1) es))) × (path' ≡ parents (map line_of (drop (at - 1) es)))
naming_step es at d path path' cases cases' some within n p m q =
    let e = line_of (get_or es (at - 1) d) in (
      ap reverse m ∙ reverse_said cases (resized e.level path) e.level e.said
          ∙ ap (λ xs. case_said (resized e.level path) e.level e.said ++ xs) n
          ∙ ap (λ ps. case_said (resized e.level ps) e.level e.said ++ named (map line_of (drop at es))) p
          ∙ sym (named_more es at d some within),
      q ∙ ap (λ ps. resized e.level ps ++ name_for_subtest e.said ∷ []) p ∙ sym (parents_more es at d some within),
    )
