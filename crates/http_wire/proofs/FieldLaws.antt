-- A field more, and what then stands under a name.
use Rattle.std.proofs.Common.{◌≡◌, ℕ, ◌≤◌, Bool, true, false, List, [], ◌∷◌, ◌++◌, length, refl, sym, ap, ◌∙◌, subst, arith, append-nil}
use Rattle.std.proofs.lemmas.Grind.{flat_map-append}
use Rattle.std.proofs.lemmas.List.Folds.{list_any-append}
use Rattle.std.specs.Prelude.{◌||◌, codes}
use Rattle.std.specs.List.{list_any}
use Rattle.std.specs.Str.{str_eq_ignore_ascii_case}
use Rattle.http_wire.specs.Form.{value_if, values_of, has_close}
use Rattle.http_wire.specs.Found.{IsFound, AreFound}
use Rattle.http_wire.specs.declared.fields.Fields.{Fields}
use Rattle.http_wire.specs.declared.fields.Found.{Found}
use Rattle.http_wire.specs.declared.fields.Found.TheVariants.{Absent, Once, Again}

one_if : (wanted name value : List ℕ) → value_if wanted (name, value) ++ [] ≡ value_if wanted (name, value)
one_if wanted name value = append-nil (value_if wanted (name, value))

-- a field of another name
pub other_field : (wanted name value : List ℕ) (list : List (List ℕ × List ℕ)) → str_eq_ignore_ascii_case name wanted ≡ false
    → values_of wanted (list ++ (name, value) ∷ []) ≡ values_of wanted list
other_field wanted name value list e =
    flat_map-append (value_if wanted) list ((name, value) ∷ []) ∙ ap (λ z. values_of wanted list ++ z) (one_if wanted name value ∙ rw e refl)
    ∙ append-nil (values_of wanted list)

-- a field of the name
pub same_field : (wanted name value : List ℕ) (list : List (List ℕ × List ℕ)) → str_eq_ignore_ascii_case name wanted ≡ true
    → values_of wanted (list ++ (name, value) ∷ []) ≡ values_of wanted list ++ value ∷ []
same_field wanted name value list e =
    flat_map-append (value_if wanted) list ((name, value) ∷ []) ∙ ap (λ z. values_of wanted list ++ z) (one_if wanted name value ∙ rw e refl)

-- what was found before, under a name that stands somewhere
pub some_found : (found : Found) (values : List (List ℕ)) → (found ≡ Absent → ⊥) → IsFound found values → 1 ≤ length values
some_found Absent values some x = absurd (some refl)
some_found (Once v) values some x = let len = ap length x in omega (arith, len)
some_found Again values some x = omega (arith, x)

-- a field more, which says that the connection ends or doesn't
pub close_more : (list : List (List ℕ × List ℕ)) (name value : List ℕ) (closes : Bool) → closes ≡ list_any has_close (values_of (codes "connection") list)
    → (closes || list_any has_close (value_if (codes "connection") (name, value))) ≡ list_any has_close (values_of (codes "connection") (list ++ (name, value) ∷ []))
close_more list name value closes is =
    ap (λ b. b || list_any has_close (value_if (codes "connection") (name, value))) is
    ∙ sym (list_any-append has_close (values_of (codes "connection") list) (value_if (codes "connection") (name, value)))
    ∙ ap (λ z. list_any has_close (values_of (codes "connection") list ++ z)) (sym (one_if (codes "connection") name value))
    ∙ ap (list_any has_close) (sym (flat_map-append (value_if (codes "connection")) list ((name, value) ∷ [])))

-- fields of the same name and value
pub with_pair : (found : Fields) (list : List (List ℕ × List ℕ)) (name value : List ℕ) (f : List ℕ × List ℕ) → name ≡ f.0 → value ≡ f.1
    → AreFound found (list ++ (name, value) ∷ []) → AreFound found (list ++ f ∷ [])
with_pair found list name value f a b x = let pair : ◌≡◌ {A = List ℕ × List ℕ} (name, value) f = λ i. (a i, b i) in subst (λ g. AreFound found (list ++ g ∷ [])) pair x
