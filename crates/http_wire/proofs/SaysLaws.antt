-- A head and a body say one thing, and each of them says something.
use Rattle.std.proofs.Common.{◌≡◌, ◌⊎◌, inl, inr, ℕ, ◌+◌, ◌<◌, ◌≤◌, Bool, true, false, List, [], ◌∷◌, ◌++◌, length, length-append, take, drop, get_or, map, codes, Option, Some, None, refl, sym, ap, ◌∙◌, subst, arith, nat_eq, ◌==◌}
use Rattle.std.proofs.lemmas.List.{take_at, drop_at, take-append-drop, length-map}
use Rattle.std.proofs.lemmas.Bool.{cases_lt, eqb-true}
use Rattle.std.proofs.Math.Seq.{drop-cons}
use Rattle.std.specs.Cmp.Lexicographic.{as_long}
use Rattle.std.specs.Char.{to_ascii_lowercase}
use Rattle.std.specs.Str.{str_eq_ignore_ascii_case}
use Rattle.httparse.specs.Grammar.{RequestHead}
use Rattle.http_routes.proofs.PartLaws.{one_call, CallOrNot, call_or_not}
use Rattle.http_wire.specs.Form.{values_in, is_post, closes_after}
use Rattle.http_wire.specs.Says.{IsTheText, IsAlone, IsBearerValue, IsBearer, IsNamed, IsMessageOf}
use Rattle.http_wire.specs.declared.message.Message.{Message}

-- fronts of one length of the same bytes
pub same_fronts : (a r b q : List ℕ) → a ++ r ≡ b ++ q → length a ≡ length b → (a ≡ b) × (r ≡ q)
same_fronts a r b q e len = (
  sym (take_at a r (length a) refl) ∙ ap (λ x. take (length a) x) e ∙ ap (λ n. take n (b ++ q)) len ∙ take_at b q (length b) refl,
  sym (drop_at a r (length a) refl) ∙ ap (λ x. drop (length a) x) e ∙ ap (λ n. drop n (b ++ q)) len ∙ drop_at b q (length b) refl,
)

-- ---- the token of a value

scheme_long : (scheme : List ℕ) → str_eq_ignore_ascii_case scheme (codes "Bearer") ≡ true → length scheme ≡ 6
scheme_long scheme e =
    sym (length-map scheme to_ascii_lowercase) ∙ as_long nat_eq (map to_ascii_lowercase scheme) (map to_ascii_lowercase (codes "Bearer")) e

-- what a value with a token has
pub record Credentials (value token : List ℕ) : Type 0 where
  pub long : 7 ≤ length value
  pub space : get_or value 6 0 ≡ 32
  pub scheme : str_eq_ignore_ascii_case (take 6 value) (codes "Bearer") ≡ true
  pub rest : token ≡ drop 7 value

front_of : (scheme token : List ℕ) → length scheme ≡ 6 → str_eq_ignore_ascii_case scheme (codes "Bearer") ≡ true → Credentials (scheme ++ 32 ∷ token) token
front_of scheme token len e =
    let value = scheme ++ 32 ∷ token in
    let front : take 6 value ≡ scheme = take_at scheme (32 ∷ token) 6 len in
    let back : drop 6 value ≡ 32 ∷ token = drop_at scheme (32 ∷ token) 6 len in
    let whole : length value ≡ length scheme + length (32 ∷ token) = simp length-append in
    let long : 7 ≤ length value = omega (arith, whole, len) in
    let cut : drop 6 value ≡ get_or value 6 0 ∷ drop 7 value = drop-cons value 6 0 (omega (arith, long)) in
    let both : 32 ∷ token ≡ get_or value 6 0 ∷ drop 7 value = sym back ∙ cut in
    let first : 32 ≡ get_or value 6 0 = cc in
    let rest : token ≡ drop 7 value = cc in
    record {
      long = long;
      space = sym first;
      scheme = ap (λ s. str_eq_ignore_ascii_case s (codes "Bearer")) front ∙ e;
      rest = rest;
    }

pub credentials : (value token : List ℕ) → IsBearerValue value token → Credentials value token
credentials value token x =
    subst (λ v. Credentials v token) (sym x.parts) (front_of x.scheme token (scheme_long x.scheme x.is_bearer) x.is_bearer)

pub has_token : (value : List ℕ) → 7 ≤ length value → get_or value 6 0 ≡ 32 → str_eq_ignore_ascii_case (take 6 value) (codes "Bearer") ≡ true
    → IsBearerValue value (drop 7 value)
has_token value long space scheme =
    let cut : drop 6 value ≡ get_or value 6 0 ∷ drop 7 value = drop-cons value 6 0 (omega (arith, long)) in
    record {
      scheme = take 6 value;
      parts = sym (take-append-drop 6 value) ∙ ap (λ z. take 6 value ++ z) (cut ∙ ap (λ b. b ∷ drop 7 value) space);
      is_bearer = scheme;
    }

-- ---- one of each

one_token : (value s t : List ℕ) → IsBearerValue value s → IsBearerValue value t → s ≡ t
one_token value s t x y = (credentials value s x).rest ∙ sym (credentials value t y).rest

one_alone : (values : List (List ℕ)) (s t : List ℕ) → IsAlone values s → IsAlone values t → s ≡ t
one_alone values s t x y = let both : ◌≡◌ {A = List (List ℕ)} (s ∷ []) (t ∷ []) = sym x ∙ y in cc

one_bearer : (values : List (List ℕ)) (s t : List ℕ) → IsBearer values s → IsBearer values t → s ≡ t
one_bearer values s t x y =
    one_token y.value s t (subst (λ v. IsBearerValue v s) (one_alone values x.value y.value x.alone y.alone) x.has_token) y.has_token

one_text : (Holds : List ℕ → Type 0) → ((s t : List ℕ) → Holds s → Holds t → s ≡ t) → (a b : Option (List ℕ)) → IsTheText Holds a → IsTheText Holds b → a ≡ b
one_text Holds one None None x y = refl
one_text Holds one None (Some t) x y = absurd (x t y)
one_text Holds one (Some s) None x y = absurd (y s x)
one_text Holds one (Some s) (Some t) x y = ap Some (one s t x y)

one_name : (post : Bool) (target s m t n : List ℕ) → IsNamed post target s m → IsNamed post target t n → (s ≡ t) × (m ≡ n)
one_name true target s m t n (inl x) (inl y) = one_call target s m t n x y
one_name true target s m t n (inl x) (inr y) = absurd (y.0 s m x)
one_name true target s m t n (inr x) (inl y) = absurd (x.0 t n y)
one_name true target s m t n (inr x) (inr y) = (x.1 ∙ sym y.1, x.2 ∙ sym y.2)
one_name false target s m t n x y = (x.0 ∙ sym y.0, x.1 ∙ sym y.1)

pub one_message : (h : RequestHead) (body : List ℕ) (m n : Message) → IsMessageOf h body m → IsMessageOf h body n → m ≡ n
one_message h body m n x y =
    let bearer = one_text (IsBearer (values_in (codes "authorization") h)) (one_bearer (values_in (codes "authorization") h)) m.asked.bearer n.asked.bearer x.bearer y.bearer in
    let token = one_text (IsAlone (values_in (codes "update-token") h)) (one_alone (values_in (codes "update-token") h)) m.asked.update_token n.asked.update_token
    x.update_token y.update_token in
    let name = one_name (is_post h) h.target m.asked.service m.asked.method n.asked.service n.asked.method x.named y.named in
    let service = name.0 in
    let method = name.1 in
    let same_body = x.body_is ∙ sym y.body_is in
    let target = x.target_is ∙ sym y.target_is in
    let close = x.close_is ∙ sym y.close_is in
    λ i. record {
      asked = record { bearer = bearer i; update_token = token i; service = service i; method = method i; body = same_body i };
      target = target i;
      close = close i;
    }

-- ---- there is one of each

the_alone : (values : List (List ℕ)) → (o : Option (List ℕ)) × IsTheText (IsAlone values) o
the_alone [] = (None, λ t (e : IsAlone [] t). absurd cc)
the_alone (v ∷ []) = (Some v, refl)
the_alone (v ∷ w ∷ vs) = (None, λ t (e : IsAlone (v ∷ w ∷ vs) t). let rest : ◌≡◌ {A = List (List ℕ)} (w ∷ vs) [] = cc in absurd cc)

the_token : (value : List ℕ) → (o : Option (List ℕ)) × IsTheText (IsBearerValue value) o
the_token value = by_length (cases_lt (length value) 7)
  where
    by_scheme : 7 ≤ length value → get_or value 6 0 ≡ 32 → (b : Bool) → str_eq_ignore_ascii_case (take 6 value) (codes "Bearer") ≡ b
        → (o : Option (List ℕ)) × IsTheText (IsBearerValue value) o
    by_scheme long space true e = (Some (drop 7 value), has_token value long space e)
    by_scheme long space false e = (None, λ t x. let yes = (credentials value t x).scheme in absurd cc)

    by_space : 7 ≤ length value → (b : Bool) → (get_or value 6 0 == 32) ≡ b → (o : Option (List ℕ)) × IsTheText (IsBearerValue value) o
    by_space long true e = by_scheme long (eqb-true (get_or value 6 0) 32 e) (str_eq_ignore_ascii_case (take 6 value) (codes "Bearer")) refl
    by_space long false e = (None, λ t x. let yes : (get_or value 6 0 == 32) ≡ true = ap (λ b. b == 32) (credentials value t x).space in absurd cc)

    by_length : (length value < 7) ⊎ (7 ≤ length value) → (o : Option (List ℕ)) × IsTheText (IsBearerValue value) o
    by_length (inl short) = (None, λ t x. let long = (credentials value t x).long in absurd (omega (arith, long, short)))
    by_length (inr long) = by_space long (get_or value 6 0 == 32) refl

-- no value alone, no token
pub no_bearer : (values : List (List ℕ)) → IsTheText (IsAlone values) None → IsTheText (IsBearer values) None
no_bearer values none = λ t x. none x.value x.alone

-- the token of the value that stands alone
pub bearer_from : (values : List (List ℕ)) (value : List ℕ) (o : Option (List ℕ)) → IsAlone values value → IsTheText (IsBearerValue value) o → IsTheText (IsBearer values) o
bearer_from values value None alone none = λ t x. none t (subst (λ v. IsBearerValue v t) (one_alone values x.value value x.alone alone) x.has_token)
bearer_from values value (Some t) alone some = record { value = value; alone = alone; has_token = some }

the_bearer : (values : List (List ℕ)) → (o : Option (List ℕ)) × IsTheText (IsBearer values) o
the_bearer values = by (the_alone values).0 (the_alone values).1
  where
    by : (a : Option (List ℕ)) → IsTheText (IsAlone values) a → (o : Option (List ℕ)) × IsTheText (IsBearer values) o
    by None none = (None, no_bearer values none)
    by (Some value) alone = ((the_token value).0, bearer_from values value (the_token value).0 alone (the_token value).1)

the_name : (post : Bool) (target : List ℕ) → (s : List ℕ) × (m : List ℕ) × IsNamed post target s m
the_name true target = by (call_or_not target)
  where
    by : CallOrNot target → (s : List ℕ) × (m : List ℕ) × IsNamed true target s m
    by (inl x) = (x.0, x.1, inl x.2)
    by (inr none) = ([], target, inr (none, refl, refl))
the_name false target = ([], target, (refl, refl))

pub message_for : (h : RequestHead) (body : List ℕ) → (m : Message) × IsMessageOf h body m
message_for h body =
    let bearer = the_bearer (values_in (codes "authorization") h) in
    let token = the_alone (values_in (codes "update-token") h) in
    let name = the_name (is_post h) h.target in (
      record {
        asked = record { bearer = bearer.0; update_token = token.0; service = name.0; method = name.1; body = body };
        target = h.target;
        close = closes_after h;
      },
      record { bearer = bearer.1; update_token = token.1; named = name.2; body_is = refl; target_is = refl; close_is = refl },
    )
