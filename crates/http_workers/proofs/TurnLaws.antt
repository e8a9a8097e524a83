-- One turn more.
use Rattle.std.proofs.Common.{◌≡◌, ℕ, ◌+◌, Bool, List, [], ◌∷◌, ◌++◌, length, refl, sym, ap, ◌∙◌, append_assoc, append-nil, arith}
use Rattle.call_forms.specs.ReplyBytes.{told_bytes}
use Rattle.http_wire.specs.Stream.{closes}
use Rattle.http_workers.specs.Turns.{Turn, replies_from, replies}

-- the reply of a turn, before which there were so many
abbrev pub reply_of : ℕ → Turn → List ℕ
reply_of before t = told_bytes t.told (closes before t.message)

from_more : (before : ℕ) (ts : List Turn) (t : Turn) → replies_from before (ts ++ t ∷ []) ≡ replies_from before ts ++ reply_of (before + length ts) t
from_more before [] t = append-nil (reply_of before t) ∙ ap (λ n. reply_of n t) (omega arith)
from_more before (u ∷ ts) t =
    ap (λ r. reply_of before u ++ r) (from_more (before + 1) ts t ∙ ap (λ n. replies_from (before + 1) ts ++ reply_of n t) (omega arith))
    ∙ sym (append_assoc (reply_of before u) (replies_from (before + 1) ts) (reply_of (before + length (u ∷ ts)) t))

pub replies_more : (n : ℕ) (ts : List Turn) (t : Turn) → length ts ≡ n → replies (ts ++ t ∷ []) ≡ replies ts ++ reply_of n t
replies_more n ts t same = from_more 0 ts t ∙ ap (λ k. replies ts ++ reply_of k t) (omega (arith, same))
