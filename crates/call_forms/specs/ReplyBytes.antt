-- The bytes of a reply on the wire (RFC 9112): a status line, header fields, an empty line, the
-- body.
use Rattle.std.specs.Prelude.{ℕ, ◌==◌, Bool, true, false, if◌then◌else◌, List, [], ◌∷◌, ◌++◌, length, codes, decimal, Option, Some, None, unwrap_or}
use Rattle.http.specs.StatusCode.{reason_phrase}
use Rattle.call_forms.specs.declared.forms.Answer.{Answer}
use Rattle.call_forms.specs.declared.forms.Standin.{Standin}
use Rattle.call_forms.specs.declared.forms.Standin.TheVariants.{Unavailable, Memory, Spent}
use Rattle.call_forms.specs.declared.forms.Told.{Told}
use Rattle.call_forms.specs.declared.forms.Told.TheVariants.{Made, Standin as Instead}

abbrev pub line_end : List ℕ
line_end = 13 ∷ 10 ∷ []

-- a line of the head
abbrev pub line : List ℕ → List ℕ
line text = text ++ line_end

abbrev pub content_type : ℕ → List ℕ
content_type status = if status == 200 then codes "application/json" else codes "text/plain; charset=utf-8"

-- CreateInvocation's reply hands out the update token
abbrev pub token_line : Option (List ℕ) → List ℕ
token_line None = []
token_line (Some token) = line (codes "Update-Token: " ++ token)

-- the connection ends after this reply
abbrev pub close_line : Bool → List ℕ
close_line true = line (codes "Connection: close")
close_line false = []

-- the head of a reply with this status, code, token and length of body
unfoldable pub head_text : ℕ → ℕ → Option (List ℕ) → Bool → ℕ → List ℕ
head_text status code token close len =
    line (codes "HTTP/1.1 " ++ (decimal status ++ (codes " " ++ unwrap_or (reason_phrase status) [])))
    ++ (line (codes "Content-Type: " ++ content_type status)
    ++ (line (codes "X-Prpc-Grpc-Code: " ++ decimal code)
    ++ (token_line token
    ++ (close_line close
    ++ (line (codes "Content-Length: " ++ decimal len)
    ++ line_end)))))

-- a whole reply without a token
abbrev pub plain_reply : ℕ → ℕ → Bool → List ℕ → List ℕ
plain_reply status code close body = head_text status code None close (length body) ++ body

abbrev pub answer_bytes : Answer → Bool → List ℕ
answer_bytes a close = head_text a.status a.code a.token close (length a.body) ++ a.body

abbrev pub standin_bytes : Standin → Bool → List ℕ
standin_bytes Unavailable close = plain_reply 503 14 close (codes "unavailable\n")
standin_bytes Memory close = plain_reply 500 13 close (codes "want of memory\n")
standin_bytes Spent close = plain_reply 429 8 close (codes "spent\n")

-- what a caller is told, as bytes on its link
abbrev pub told_bytes : Told → Bool → List ℕ
told_bytes (Made answer) close = answer_bytes answer close
told_bytes (Instead which) close = standin_bytes which close
