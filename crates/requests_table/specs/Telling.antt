-- How what is told is printed, on one line.
use Rattle.std.specs.Prelude.{ℕ, List, [], ◌∷◌, ◌++◌, Option, Some, None, false, ◌==◌, if◌then◌else◌, codes, decimal}
use Rattle.std.specs.List.{flat_map}
use Rattle.call_forms.specs.ReplyBytes.{standin_bytes}
use Rattle.call_forms.specs.declared.forms.Answer.{Answer}
use Rattle.call_forms.specs.declared.forms.Told.{Told}
use Rattle.call_forms.specs.declared.forms.Told.TheVariants.{Made, Standin}

-- An end of a line is `\n`, a backslash `\\`, and any other byte itself.
abbrev pub escaped : ℕ → List ℕ
escaped b = if b == 10 then 92 ∷ 110 ∷ [] else (if b == 92 then 92 ∷ 92 ∷ [] else b ∷ [])

abbrev pub body_text : List ℕ → List ℕ
body_text body = flat_map escaped body

-- A token that isn't given is `-`.
abbrev pub token_text : Option (List ℕ) → List ℕ
token_text None = codes "-"
token_text (Some token) = token

-- The status and the code.
abbrev pub front_text : Answer → List ℕ
front_text answer = decimal answer.status ++ (codes " " ++ (decimal answer.code ++ codes " "))

-- The status, the code, the token and the body.
abbrev pub answer_text : Answer → List ℕ
answer_text answer =
    front_text answer ++ (token_text answer.token ++ (codes " " ++ (body_text answer.body ++ codes "\n")))

abbrev pub told_text : Told → List ℕ
told_text (Made answer) = answer_text answer
told_text (Standin which) = codes "standin " ++ (body_text (standin_bytes which false) ++ codes "\n")
