-- Tokens that are added, one after the other.
use Rattle.std.proofs.Common.{◌≡◌, List, [], ◌∷◌, ◌++◌, OnOk, Result, refl, sym, ap, ◌∙◌, append_assoc, append-nil}
use Rattle.std.proofs.lemmas.Result.{on_ok_weaker}
use Rattle.json.specs.Token.{Token}
use Rattle.json.specs.Written.{Written, Writes}
use Rattle.token_texts.specs.Tokens.{IsAdded}

pub added : {E : Type 0} (r : Result (Unit {0}) E) (old new : Written) (t : Token) → Writes r old new t → OnOk r (IsAdded old new (t ∷ []))
added r old new t w = on_ok_weaker r (λ e. record { before = w.room.0; tokens = e }) w.ok

pub added_none : (a : Written) → IsAdded a a []
added_none a = record { before = refl; tokens = sym (append-nil a.tokens) }

pub also : {a b c : Written} {xs ys : List Token} → IsAdded a b xs → IsAdded b c ys → IsAdded a c (xs ++ ys)
also {a} {b} {c} {xs} {ys} p q = record {
  before = q.before ∙ p.before;
  tokens = q.tokens ∙ ap (λ (ts : List Token). ts ++ ys) p.tokens ∙ append_assoc a.tokens xs ys;
}

pub added_as : {a b : Written} {xs ys : List Token} → xs ≡ ys → IsAdded a b xs → IsAdded a b ys
added_as {a} {b} {xs} {ys} e p = record { before = p.before; tokens = p.tokens ∙ ap (λ (ts : List Token). a.tokens ++ ts) e }

-- what a value is told by may be its like
pub added_at : {A : Type 0} {a b : Written} (f : A → List Token) (x y : A) → x ≡ y → IsAdded a b (f x) → IsAdded a b (f y)
added_at {A} {a} {b} f x y e p = added_as (ap f e) p
