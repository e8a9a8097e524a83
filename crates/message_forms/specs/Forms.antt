-- The forms of what requests ask for: each id, realm and tag is of its grammar, and a deadline lies
-- in the years 1 to 9999.
use Rattle.message_forms.specs.Methods.{row_of, method_asked, said_in}
use Rattle.message_forms.specs.declared.requests.Request.{Request}

-- All that a request names or gives is of its form.
abbrev pub IsOfForm : Request → Type 0
IsOfForm q = (row_of (method_asked q)).form.OfForm (said_in q)
