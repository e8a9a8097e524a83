-- The rules that a request may break, and how each is answered.
use Rattle.std.specs.Prelude.{◌≡◌, ℕ, ◌-◌, ◌≤◌, ◌==◌, if◌then◌else◌, List, [], ◌∷◌, ◌++◌, length, codes, decimal, None, get_or}
use Rattle.call_forms.specs.declared.forms.Answer.{Answer}
use Rattle.call_forms.specs.declared.forms.Refusal.{Refusal}

-- A rule's name, and the HTTP status and the gRPC code of its refusals.
pub record Rule : Type 0 where
  pub name : List ℕ
  pub status : ℕ
  pub code : ℕ

abbrev pub rule : List ℕ → ℕ → ℕ → Rule
rule name status code = record { name = name; status = status; code = code }

-- The rules in the order of their numbers, from 1 on.
abbrev pub rules : List Rule
rules =
    rule (codes "NoMethod") 501 12
    ∷ rule (codes "NoCaller") 401 16
    ∷ rule (codes "NotJson") 400 3
    ∷ rule (codes "WrongKind") 400 3
    ∷ rule (codes "Missing") 400 3
    ∷ rule (codes "BadValue") 400 3
    ∷ rule (codes "RequestIdReused") 400 9
    ∷ rule (codes "NotFound") 404 5
    ∷ rule (codes "NoUpdateToken") 401 16
    ∷ rule (codes "BadUpdateToken") 403 7
    ∷ rule (codes "Denied") 403 7
    ∷ rule (codes "NotActive") 400 9
    ∷ rule (codes "DeadlineRange") 400 3
    ∷ rule (codes "Itself") 400 3
    ∷ rule (codes "TooMany") 400 3
    ∷ rule (codes "Repeated") 400 3
    ∷ rule (codes "SizeWrong") 400 3
    ∷ rule (codes "HashWrong") 400 3
    ∷ rule (codes "Taken") 409 6
    ∷ rule (codes "TableFull") 429 8
    ∷ rule (codes "StoreFull") 429 8
    ∷ []

abbrev pub IsRuleNumber : ℕ → Type 0
IsRuleNumber number = (1 ≤ number) × (number ≤ 21)

-- the rule of this number
abbrev pub rule_of : ℕ → Rule
rule_of number = get_or rules (number - 1) (rule [] 0 0)

abbrev pub subject_part : List ℕ → List ℕ
subject_part subject = if length subject == 0 then [] else codes ": " ++ subject

-- the rule's number and name, the subject where there is one, and a line feed
abbrev pub refusal_text : Refusal → List ℕ
refusal_text r = decimal r.rule ++ (codes " " ++ ((rule_of r.rule).name ++ (subject_part r.subject ++ codes "\n")))

abbrev pub refusal_answer : Refusal → Answer
refusal_answer r = record {
  status = (rule_of r.rule).status;
  code = (rule_of r.rule).code;
  token = None;
  body = refusal_text r;
}
