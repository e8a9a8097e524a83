-- Pages of a list.
use Rattle.std.specs.Prelude.{ℕ, Bool, true, false, List, [], ◌∷◌, ◌++◌, Option, Some, None, length, take, nat_lt, if◌then◌else◌}
use Rattle.std.specs.List.{filter}
use Rattle.std.specs.Ordering.{is_lt}
use Rattle.std.specs.declared.cmp.Ordering.{Ordering}

-- Rows of any kind, by keys of any kind in their order.
module _ {X K : Type 0} (order : K → K → Ordering) (key : X → K) where
  -- The rows whose key comes behind this one; all of them where there is none.
  abbrev pub behind : List X → Option K → List X
  behind list None = list
  behind list (Some after) = filter (λ row. is_lt (order after (key row))) list

  -- So many first ones of them.
  abbrev pub page_rows : List X → Option K → ℕ → List X
  page_rows list after size = take size (behind list after)

  -- Whether some are left behind those.
  abbrev pub has_more : List X → Option K → ℕ → Bool
  has_more list after size = nat_lt size (length (behind list after))

  -- the key of the last of some rows, or else what was asked
  abbrev pub last_key : Option K → List X → Option K
  last_key after [] = after
  last_key after (row ∷ rows) = last_key (Some (key row)) rows

  -- what is asked for the page behind this one
  abbrev pub next_key : List X → Option K → ℕ → Option K
  next_key list after size = last_key after (page_rows list after size)

  -- Pages of these sizes, each asked with the key of the last row before it, as long as more are
  -- left.
  abbrev pub pages : List X → Option K → List ℕ → List X
  pages list after [] = []
  pages list after (size ∷ sizes) =
      page_rows list after size
      ++ (if has_more list after size then pages list (next_key list after size) sizes else [])

  -- Whether pages of these sizes come to the end of the list.
  abbrev pub comes_to_end : List X → Option K → List ℕ → Bool
  comes_to_end list after [] = false
  comes_to_end list after (size ∷ sizes) =
      if has_more list after size then comes_to_end list (next_key list after size) sizes else true
