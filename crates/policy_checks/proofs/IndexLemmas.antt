-- An index after a name more.
use Rattle.std.proofs.Common.{◌≡◌, ℕ, suc, Bool, true, false, cond, List, [], ◌∷◌, ◌++◌, length, map, Option, Some, None, option_map, Vec, Global, refl, sym, ap, subst, ◌∙◌, inl, inr}
use Rattle.std.proofs.lemmas.Bool.{cases_Bool, cond-true, cond-false}
use Rattle.std.specs.Str.{bytes_eq}
use Rattle.std.specs.Cmp.Lexicographic.{bytes_decides, nat_list_eq_equiv}
use Rattle.std.specs.HashMap.{HashMap, get_by, UpdatesBy}
use Rattle.std.specs.Map.{lookup, IsKeyTest, AreApart, KeepsOthers}
use Rattle.policy_checks.specs.Index.{place_of, found}

apart : (bs cs ks : List ℕ) → bytes_eq bs cs ≡ false → bytes_eq bs ks ≡ true → bytes_eq cs ks ≡ false
apart bs cs ks n y = nat_list_eq_equiv.symm cs ks ∙ sym (nat_list_eq_equiv.congr bs ks cs y) ∙ n

other_entries : {K X : Type 0} (eq : K → K → Bool) (test : K → Bool) → (old new : List (K × X)) → KeepsOthers eq test old new → (other : K → Bool) → IsKeyTest eq other → AreApart test other → lookup other new ≡ lookup other old
unfolding KeepsOthers
other_entries eq test old new h = h

abbrev pub found_at : {S : Type 0} → List ℕ → HashMap (Vec ℕ Global) ℕ S → Option ℕ
found_at name m = get_by (λ k. bytes_eq name k.items) m

-- what is found after a value more
pub found_after : {S : Type 0} (bs : List ℕ) (m n : HashMap (Vec ℕ Global) ℕ S) (w : Option ℕ)
    → UpdatesBy (λ x y. bytes_eq x.items y.items) (λ k. bytes_eq bs k.items) m n w
    → (cs : List ℕ) → found_at cs n ≡ cond (bytes_eq bs cs) w (found_at cs m)
found_after bs m n w h cs =
    elim (cases_Bool (bytes_eq bs cs)) [
      | inl y ↦ subst (λ l. found_at l n ≡ w) ((bytes_decides bs cs).0 y) h.1 ∙ sym (cond-true (bytes_eq bs cs) w (found_at cs m) y)
      | inr e ↦
          other_entries _ _ _ _ h.3 _ (λ x y. nat_list_eq_equiv.congr cs x.items y.items) (λ k. apart bs cs k.items e)
          ∙ sym (cond-false (bytes_eq bs cs) w (found_at cs m) e)
    ]

map_cond : (t : Bool) (n : ℕ) (o : Option ℕ) → option_map suc (cond t (Some n) o) ≡ cond t (Some (suc n)) (option_map suc o)
map_cond true n o = refl
map_cond false n o = refl

-- a name that isn't there is none of the list, and is not in its rest
pub not_there : (t : Bool) (o : Option ℕ) → cond t (Some 0) (option_map suc o) ≡ None → (t ≡ false) × (o ≡ None)
not_there true o e = (cc, cc)
not_there false None e = (refl, refl)
not_there false (Some n) e = let no : Some (suc n) ≡ None = e in (refl, cc)

same_or_next : (t s : Bool) (n : ℕ) (o : Option ℕ) → (s ≡ true → t ≡ false) → cond t (Some (suc n)) (cond s (Some 0) (option_map suc o)) ≡ cond s (Some 0) (option_map suc (cond t (Some n) o))
same_or_next true true n o h = let no : true ≡ false = h refl in cc
same_or_next true false n o h = refl
same_or_next false true n o h = refl
same_or_next false false n o h = refl

pub place_of-new : (name q : List ℕ) (names : List (List ℕ)) → place_of name names ≡ None
    → cond (bytes_eq name q) (Some (length names)) (place_of q names) ≡ place_of q (names ++ name ∷ [])
place_of-new name q [] e = ap (λ t. cond t (Some 0) None) (nat_list_eq_equiv.symm name q)
place_of-new name q (x ∷ xs) e =
    let none = not_there (bytes_eq name x) (place_of name xs) e in
    let other : bytes_eq q x ≡ true → bytes_eq name q ≡ false = λ y. subst (λ l. bytes_eq name l ≡ false) (sym ((bytes_decides q x).0 y)) none.0 in
    same_or_next (bytes_eq name q) (bytes_eq q x) (length xs) (place_of q xs) other
    ∙ ap (λ o. cond (bytes_eq q x) (Some 0) (option_map suc o)) (place_of-new name q xs none.1)

found_in_front : (t : Bool) (o p : Option ℕ) (n : ℕ) → ((m : ℕ) → o ≡ Some m → p ≡ Some m) → cond t (Some 0) (option_map suc o) ≡ Some n → cond t (Some 0) (option_map suc p) ≡ Some n
found_in_front true o p n h e = e
found_in_front false None p n h e = let no : None ≡ Some n = e in cc
found_in_front false (Some m) p n h e = rw (h m refl) e

-- a name that is found in the front is found there
pub place_of-append : (q : List ℕ) (xs ys : List (List ℕ)) (n : ℕ) → place_of q xs ≡ Some n → place_of q (xs ++ ys) ≡ Some n
place_of-append q [] ys n e = let no : None ≡ Some n = e in cc
place_of-append q (x ∷ xs) ys n e = found_in_front (bytes_eq q x) (place_of q xs) (place_of q (xs ++ ys)) n (place_of-append q xs ys) e

-- another name at the end isn't found
place_of-other : (q name : List ℕ) (xs : List (List ℕ)) → bytes_eq q name ≡ false → place_of q xs ≡ place_of q (xs ++ name ∷ [])
place_of-other q name [] e = rw e
place_of-other q name (x ∷ xs) e = ap (λ o. cond (bytes_eq q x) (Some 0) (option_map suc o)) (place_of-other q name xs e)

-- a name that is there already keeps its place
pub place_of-again : (name q : List ℕ) (names : List (List ℕ)) (n : ℕ) → place_of name names ≡ Some n → place_of q names ≡ place_of q (names ++ name ∷ [])
place_of-again name q names n e =
    elim (cases_Bool (bytes_eq q name)) [
      | inl y ↦
          let same : q ≡ name = (bytes_decides q name).0 y in
          let found : place_of q names ≡ Some n = rw same e in
          found ∙ sym (place_of-append q names (name ∷ []) n found)
      | inr other ↦ place_of-other q name names other
    ]

-- what stands beside a name is what the map finds at it
pub found_pairs : (name : List ℕ) (es : List (Vec ℕ Global × ℕ)) → found name (map (λ e. (e.0.items, e.1)) es) ≡ lookup (λ k. bytes_eq name k.items) es
found_pairs name [] = refl
found_pairs name (e ∷ es) = ap (cond (bytes_eq name e.0.items) (Some e.1)) (found_pairs name es)
