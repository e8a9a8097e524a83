-- What the route's parameters are: the parts of the call.
use Rattle.std.proofs.Common.{◌≡◌, ◌≢◌, ℕ, zero, suc, ◌+◌, ◌-◌, ◌<◌, ◌≤◌, List, [], ◌∷◌, ◌++◌, length, drop, take, get_or, Some, None, Bool, true, false, refl, sym, ap, subst, ◌∙◌, arith, codes, ltb, leb, ◌&&◌, length-append, append_assoc, append-nil}
use Rattle.std.proofs.lemmas.Bool.Decides.{nat_tests}
use Rattle.std.specs.Str.{IsUtf8, IsAscii}
use Rattle.std.proofs.lemmas.Str.{IsUtf8-drop, IsUtf8-take, IsUtf8-append, IsUtf8-from_ascii, IsCharBoundary-after_ascii, IsCharBoundary-at_seam}
use Rattle.matchit.specs.Rows.{RowsOf, param_token}
use Rattle.matchit.specs.Seek.{first, has_slash, segment}
use Rattle.matchit.specs.Router.{RouteOf}
use Rattle.matchit.specs.Params.{wild_from, wild_stop, part_of, walk, AllText, named, after_token}
use Rattle.http_routes.specs.Calls.{IsCall}
use Rattle.http_routes.specs.Rows.{call_route, call_rows}
use Rattle.http_routes.proofs.PartLaws.{part_plain}
use Rattle.http_routes.proofs.SeekLaws.{AreBytes, segment_cut, drop_past, finds, is_found}

abbrev prpc : List ℕ
prpc = codes "/prpc/"

take_front : (s p : List ℕ) → take (length s) (s ++ p) ≡ s
take_front [] p = refl
take_front (x ∷ s) p = ap (λ q. x ∷ q) (take_front s p)

take_whole : (p : List ℕ) → take (length p) p ≡ p
take_whole [] = refl
take_whole (x ∷ p) = ap (λ q. x ∷ q) (take_whole p)

first_wild : (len : ℕ) → 6 ≤ len → wild_from call_route.pattern len 0 0 ≡ (6, 6)
first_wild len long =
    let e0 : ltb 0 len ≡ true = grind (arith, nat_tests, long) in
    let e1 : ltb 1 len ≡ true = grind (arith, nat_tests, long) in
    let e2 : ltb 2 len ≡ true = grind (arith, nat_tests, long) in
    let e3 : ltb 3 len ≡ true = grind (arith, nat_tests, long) in
    let e4 : ltb 4 len ≡ true = grind (arith, nat_tests, long) in
    let e5 : ltb 5 len ≡ true = grind (arith, nat_tests, long) in
    rw (e0, e1, e2, e3, e4, e5) refl

second_wild : (len at : ℕ) → at < len → wild_from (47 ∷ param_token ∷ []) len 7 at ≡ (8, at + 1)
second_wild len at long = let e : ltb at len ≡ true = grind (arith, nat_tests, long) in rw e refl

part_is : (a s p : List ℕ) (from to : ℕ) → from ≡ length a → to ≡ length a + length s → part_of (a ++ (s ++ p)) from to ≡ s
part_is a s p from to low high =
    let all = a ++ (s ++ p) in
    let len : length all ≡ length a + (length s + length p) = length-append a (s ++ p) ∙ ap (λ n. length a + n) (length-append s p) in
    let e0 : leb from to ≡ true = grind (arith, nat_tests, low, high) in
    let e1 : leb to (length all) ≡ true = grind (arith, nat_tests, low, high, len) in
    let wide : to - from ≡ length s = omega (arith, low, high) in
    let got : take (to - from) (drop from all) ≡ s =
    ap (λ n. take n (drop from all)) wide ∙ ap (λ n. take (length s) (drop n all)) low ∙ ap (take (length s)) (drop_past a (s ++ p)) ∙ take_front s p in
    rw (e0, e1) got

one_ascii : IsAscii (47 ∷ [])
one_ascii zero = omega arith
one_ascii (suc i) = omega arith

cut_utf8 : (s m : List ℕ) → IsUtf8 (s ++ 47 ∷ m) → IsUtf8 s × IsUtf8 m
cut_utf8 s m text =
    let all = s ++ 47 ∷ m in
    let here : get_or all (length s) 0 ≡ 47 = at s in
    let long : length s < length all = omega (arith, length-append s (47 ∷ m)) in
    let same : length s + 1 ≡ suc (length s) = omega arith in
    let past : drop (length s + 1) all ≡ m = ap (λ n. drop n all) same ∙ behind s in
    let right : IsUtf8 m = subst IsUtf8 past (IsUtf8-drop all (length s + 1) text (IsCharBoundary-after_ascii all (length s) text long (omega (arith, here)))) in
    let seam = IsCharBoundary-at_seam all s (47 ∷ m) refl (IsUtf8-append (47 ∷ []) m (IsUtf8-from_ascii (47 ∷ []) one_ascii) right) in
    (subst IsUtf8 (take_front s (47 ∷ m)) (IsUtf8-take all (length s) text seam), right)
  where
    at : (s : List ℕ) → get_or (s ++ 47 ∷ m) (length s) 0 ≡ 47
    at [] = refl
    at (x ∷ s) = at s

    behind : (s : List ℕ) → drop (suc (length s)) (s ++ 47 ∷ m) ≡ m
    behind [] = refl
    behind (x ∷ s) = behind s

pub parts_are_text : (path s m : List ℕ) → IsUtf8 path → path ≡ prpc ++ s ++ 47 ∷ m → IsUtf8 s × IsUtf8 m
parts_are_text path s m text is = cut_utf8 s m (cut_utf8 (codes "/prpc") (s ++ 47 ∷ m) (subst IsUtf8 is text)).1

abbrev pub taken : List ℕ → List ℕ → List (List ℕ × List ℕ)
taken s m = (codes "service", s) ∷ (codes "method", m) ∷ []

walk_one : (pattern text path : List ℕ) (name : ℕ × ℕ) (rest : List (ℕ × ℕ)) (token at w0 w1 stop : ℕ)
    → wild_from (drop token pattern) (length path) token at ≡ (w0, w1) → wild_stop pattern w0 path w1 ≡ stop
    → walk pattern text path (name ∷ rest) token at ≡ (part_of text name.0 name.1, part_of path w1 stop) ∷ walk pattern text path rest (after_token w0) stop
walk_one pattern text path name rest token at w0 w1 stop wild ends = rw (wild, ends) refl

pub walked : (s m : List ℕ) → has_slash s ≡ false → walk call_route.pattern call_route.text (prpc ++ (s ++ 47 ∷ m)) call_route.names 0 0 ≡ taken s m
walked s m plain =
    let path = prpc ++ (s ++ 47 ∷ m) in
    let len : length path ≡ 6 + (length s + (length m + 1)) = length-append prpc (s ++ 47 ∷ m) ∙ ap (λ n. 6 + n) (length-append s (47 ∷ m) ∙ omega arith) in
    let wild = first_wild (length path) (omega (arith, len)) in
    let stop : wild_stop call_route.pattern 6 path 6 ≡ 6 + length s =
    let e : length (segment (s ++ 47 ∷ m)) ≡ length s + 1 = ap length (segment_cut s m plain) ∙ length-append s (47 ∷ []) in omega (arith, e) in
    let next = second_wild (length path) (6 + length s) (omega (arith, len)) in
    let one : part_of path 6 (6 + length s) ≡ s = part_is prpc s (47 ∷ m) 6 (6 + length s) refl refl in
    let two : part_of path (6 + length s + 1) (length path) ≡ m =
    let parts : path ≡ (prpc ++ (s ++ 47 ∷ [])) ++ (m ++ []) = ap (λ q. prpc ++ q) (sym (append_assoc s (47 ∷ []) m)) ∙ ap (λ q. (prpc ++ (s ++ 47 ∷ [])) ++ q) (sym (append-nil m)) in
    ap (λ q. part_of q (6 + length s + 1) (length path)) parts
    ∙ part_is (prpc ++ (s ++ 47 ∷ [])) m [] (6 + length s + 1) (length path) (omega (arith, length-append s (47 ∷ []))) (omega (arith, len, length-append s (47 ∷ []))) in
    walk_one call_route.pattern call_route.text path (7, 14) ((17, 23) ∷ []) 0 0 6 6 (6 + length s) wild stop
    ∙ ap (λ q. (codes "service", q) ∷ walk call_route.pattern call_route.text path ((17, 23) ∷ []) 7 (6 + length s)) one
    ∙ ap (λ q. (codes "service", s) ∷ q)
    (walk_one call_route.pattern call_route.text path (17, 23) [] 7 (6 + length s) 8 (6 + length s + 1) (length path) next refl ∙ ap (λ q. (codes "method", q) ∷ []) two)

abbrev all_low : List ℕ → Bool
all_low [] = true
all_low (b ∷ bs) = ltb b 128 && all_low bs

low : (bs : List ℕ) → all_low bs ≡ true → IsAscii bs
low [] h = λ i. omega arith
low (b ∷ bs) h = by (ltb b 128) refl (low bs)
  where
    by : (v : Bool) → ltb b 128 ≡ v → (all_low bs ≡ true → IsAscii bs) → IsAscii (b ∷ bs)
    by false e more = absurd (let f = rw e at h in cc)
    by true e more = over (more (rw e at h))
      where
        over : IsAscii bs → IsAscii (b ∷ bs)
        over rest zero = grind (arith, nat_tests, e)
        over rest (suc i) = rest i

pub all_text : (s m : List ℕ) → IsUtf8 s → IsUtf8 m → AllText (taken s m)
all_text s m a b = (IsUtf8-from_ascii (codes "service") (low (codes "service") refl), a, (IsUtf8-from_ascii (codes "method") (low (codes "method") refl), b, tt))

pub walk_is : (pattern text path : List ℕ) (names : List (ℕ × ℕ)) (s m : List ℕ) → pattern ≡ call_route.pattern → text ≡ call_route.text → names ≡ call_route.names → IsCall path s m → walk pattern text path names 0 0 ≡ taken s m
walk_is pattern text path names s m e0 e1 e2 call = rw (e0, e1, e2, call.text) (walked s m (part_plain s call.service_part).1)

pub named_service : (s m : List ℕ) → named (codes "service") (taken s m) ≡ Some s
named_service s m = refl

pub named_method : (s m : List ℕ) → named (codes "method") (taken s m) ≡ Some m
named_method s m = refl

pub record Taken (path pattern text shown : List ℕ) (names : List (ℕ × ℕ)) : Type 0 where
  pub s : List ℕ
  pub m : List ℕ
  pub call : IsCall path s m
  pub walked : walk pattern text shown names 0 0 ≡ taken s m
  pub all : AllText (walk pattern text shown names 0 0)

pub reads : (rows : RowsOf (RouteOf (Unit {0}))) (it : RouteOf (Unit {0})) (path shown : List ℕ) → rows ≡ call_rows → first rows path ≡ Some it → shown ≡ path → AreBytes path → IsUtf8 path
    → Taken path it.pattern it.text shown it.names
reads rows it path shown one found same bytes text =
    let known : first call_rows path ≡ Some it = ap (λ rs. first rs path) (sym one) ∙ found in
    let call = finds call_route path it bytes known in
    let walks : walk it.pattern it.text shown it.names 0 0 ≡ taken call.0 call.1 =
    ap (λ p. walk it.pattern it.text p it.names 0 0) same
    ∙ walk_is it.pattern it.text path it.names call.0 call.1 (ap (λ (r : RouteOf (Unit {0})). r.pattern) call.3) (ap (λ (r : RouteOf (Unit {0})). r.text) call.3) (ap (λ (r : RouteOf (Unit {0})). r.names) call.3) call.2 in
    let parts = parts_are_text path call.0 call.1 text call.2.text in
    record { s = call.0; m = call.1; call = call.2; walked = walks; all = subst AllText (sym walks) (all_text call.0 call.1 parts.0 parts.1) }

pub never_missed : (rows : RowsOf (RouteOf (Unit {0}))) (path s m : List ℕ) → rows ≡ call_rows → first rows path ≡ None → AreBytes path → ¬ IsCall path s m
never_missed rows path s m one missing bytes call =
    let e : None ≡ Some call_route = sym missing ∙ ap (λ rs. first rs path) one ∙ is_found call_route path s m bytes call in
    absurd cc

pub service_is : (ws : List (List ℕ × List ℕ)) (s m part : List ℕ) → ws ≡ taken s m → named (codes "service") ws ≡ Some part → part ≡ s
service_is ws s m part is got = let e : Some s ≡ Some part = ap (named (codes "service")) (sym is) ∙ got in cc

pub method_is : (ws : List (List ℕ × List ℕ)) (s m part : List ℕ) → ws ≡ taken s m → named (codes "method") ws ≡ Some part → part ≡ m
method_is ws s m part is got = let e : Some m ≡ Some part = ap (named (codes "method")) (sym is) ∙ got in cc

pub service_there : (ws : List (List ℕ × List ℕ)) (s m : List ℕ) → ws ≡ taken s m → named (codes "service") ws ≢ None
service_there ws s m is got = let e : Some s ≡ None = ap (named (codes "service")) (sym is) ∙ got in absurd cc

pub method_there : (ws : List (List ℕ × List ℕ)) (s m : List ℕ) → ws ≡ taken s m → named (codes "method") ws ≢ None
method_there ws s m is got = let e : Some m ≡ None = ap (named (codes "method")) (sym is) ∙ got in absurd cc
