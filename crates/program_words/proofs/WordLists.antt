-- The words as texts, and as lists of bytes.
use Rattle.std.proofs.Common.{◌≡◌, ◌∙◌, sym, ap, subst, arith, ℕ, ◌<◌, List, [], ◌∷◌, map, length, String, string_bytes, Global, Ok, Err, Result}
use Rattle.std.specs.Prelude.{IfOk}
use Rattle.std.specs.List.{slice_index_or}
use Rattle.program_words.specs.Grammar.{Says}
use Rattle.program_words.specs.declared.command.Command.{Command}
use Rattle.program_words.specs.declared.command.WordFault.{WordFault}
use Rattle.program_words.specs.declared.command.WordFault.TheVariants.{Refused}

pub one_word : (ws : List (String Global)) (x : String Global) (t : List ℕ) → length ws ≡ 1 → x ≡ slice_index_or ws 0 x → string_bytes x ≡ t
    → map (string_bytes {Z = Global}) ws ≡ t ∷ []
one_word [] x t n is e = absurd (omega arith)
one_word (w ∷ []) x t n is e = ap (λ (y : String Global). string_bytes y ∷ []) (sym is) ∙ ap (λ b. b ∷ []) e
one_word (w ∷ v ∷ ws) x t n is e = absurd (omega arith)

pub first_word : (ws : List (String Global)) (x : String Global) (t : List ℕ) → 0 < length ws → x ≡ slice_index_or ws 0 x → string_bytes x ≡ t
    → (others : List (List ℕ)) × (map (string_bytes {Z = Global}) ws ≡ t ∷ others)
first_word [] x t n is e = absurd (omega arith)
first_word (w ∷ ws) x t n is e =
    (map (string_bytes {Z = Global}) ws, ap (λ (y : String Global). string_bytes y ∷ map (string_bytes {Z = Global}) ws) (sym is) ∙ ap (λ b. b ∷ map (string_bytes {Z = Global}) ws) e)

-- a command that is this one is said where this one is
pub if_said : (words : List (List ℕ)) (command : Command) (r : Result Command WordFault) → IfOk r (λ c. c ≡ command) → Says words command
    → IfOk r (Says words)
if_said words command (Ok c) is a = subst (Says words) (sym is) a
if_said words command (Err e) is a = tt

-- what a call hands on as refused was refused below
pub told_refused : (r : Result Command WordFault) (x fault : WordFault) → r ≡ Err x → x ≡ fault → r ≡ Err Refused → fault ≡ Refused
told_refused r x fault was same is =
    let both : Err x ≡ Err Refused = sym was ∙ is in
    let one : x ≡ Refused = cc in
    sym same ∙ one
