-- The code's own words, which private contracts alone cite: what the bytes of a head announce.
use Rattle.std.specs.Prelude.{◌≡◌, ℕ, List, length, codes, Option, Some, None}
use Rattle.std.specs.Option.{option_map}
use Rattle.httparse.specs.Grammar.{RequestHead}
use Rattle.http_wire.specs.Form.{values_in, body_length, is_post, closes_after}
use Rattle.http_wire.specs.Faults.{first_there, head_signs}
use Rattle.http_wire.specs.Says.{IsTheText, IsAlone, IsBearer}
use Rattle.http_wire.specs.Stream.{IsRead}
use Rattle.http_wire.specs.declared.message.WireFault.{WireFault}
use Rattle.http_wire.specs.declared.request.Request.{Request}

-- what a head says beside the length of the body
pub record IsSaid (h : RequestHead) (r : Request) : Type 0 where
  pub target : r.target.now ≡ h.target
  pub bearer : IsTheText (IsBearer (values_in (codes "authorization") h))
      (option_map (λ t. t.now) r.bearer)
  pub update_token : IsTheText (IsAlone (values_in (codes "update-token") h))
      (option_map (λ t. t.now) r.update_token)
  pub post : r.is_post ≡ is_post h
  pub close : r.close ≡ closes_after h

-- the bytes are a head of so many header lines without a fault, and this is what it says
pub record IsRequest (bytes : List ℕ) (lines : ℕ) (r : Request) : Type 0 where
  pub h : RequestHead
  pub read : IsRead bytes lines (Some h)
  pub sound : first_there (head_signs (length bytes) lines (Some h)) ≡ None
  pub len : r.len ≡ body_length h
  pub said : IsSaid h r

-- the bytes are the text of a head of so many header lines, whose first fault is this one
pub record IsFaulty (bytes : List ℕ) (lines : ℕ) (fault : WireFault) : Type 0 where
  pub read : Option RequestHead
  pub is_read : IsRead bytes lines read
  pub first : first_there (head_signs (length bytes) lines read) ≡ Some fault
