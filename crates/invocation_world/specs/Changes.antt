-- What one request changes, before the rows settle.
use Rattle.std.specs.Prelude.{ℕ, ℤ, Bool, false, ◌&&◌, ◌||◌, not, List, [], ◌∷◌, ◌++◌, Option, Some, None, if◌then◌else◌, nat_eq, slice_get, unwrap_or}
use Rattle.std.specs.Ordering.{int_eq}
use Rattle.std.specs.Cmp.Lexicographic.{pointwise}
use Rattle.names_realms.specs.declared.pairs.Pair.{Pair}
use Rattle.inclusion_graph.specs.declared.edge.Edge.{Edge}
use Rattle.inclusion_graph.specs.Edges.{edges_from, fresh, targets_of}
use Rattle.invocations.specs.declared.invocation.Invocation.{Invocation}
use Rattle.invocations.specs.Rows.{begun, with_changed}
use Rattle.invocation_world.specs.World.{World}

-- the world with the finalization of the row at this place begun
abbrev pub with_begun : ℤ → ℕ → World → World
with_begun moment place w = record {
  invocations = with_changed (begun moment) w.invocations place;
  inclusions = w.inclusions;
  last = moment;
}

-- the world with this moment of its last change: what changes is beside the invocations
abbrev pub with_moment : ℤ → World → World
with_moment moment w = record w { last = moment }

-- whether two pairs are the same
abbrev pub is_same_pair : Pair → Pair → Bool
is_same_pair a b = pointwise nat_eq a.key b.key && pointwise nat_eq a.value b.value

-- whether a deadline is given, and another one stands
abbrev pub is_other_deadline : Option ℤ → ℤ → Bool
is_other_deadline None stands = false
is_other_deadline (Some given) stands = not (int_eq given stands)

-- whether tags are given, and others stand
abbrev pub are_other_tags : Option (List Pair) → List Pair → Bool
are_other_tags None stand = false
are_other_tags (Some given) stand = not (pointwise is_same_pair given stand)

-- whether an update changes the row
abbrev pub is_update : Option ℤ → Option (List Pair) → Invocation → Bool
is_update deadline tags row =
    is_other_deadline deadline row.deadline || are_other_tags tags row.tags

-- the row with this deadline and these tags, each where it is given
abbrev pub updated : Option ℤ → Option (List Pair) → Invocation → Invocation
updated deadline tags row = record row {
  deadline = unwrap_or deadline row.deadline;
  tags = unwrap_or tags row.tags;
}

abbrev pub with_row_updated : ℤ → ℕ → Option ℤ → Option (List Pair) → World → Option Invocation
    → World
with_row_updated moment place deadline tags w None = w
with_row_updated moment place deadline tags w (Some row) =
    if is_update deadline tags row
    then record {
      invocations = with_changed (updated deadline tags) w.invocations place;
      inclusions = w.inclusions;
      last = moment;
    }
    else w

-- the world with the row at this place updated; an update to what stands leaves it whole
abbrev pub with_update : ℤ → ℕ → Option ℤ → Option (List Pair) → World → World
with_update moment place deadline tags w =
    with_row_updated moment place deadline tags w (slice_get w.invocations place)

-- the world with these inclusions behind the others; without any it stays whole
abbrev pub with_edges : ℤ → List Edge → World → World
with_edges moment [] w = w
with_edges moment (edge ∷ edges) w = record {
  invocations = w.invocations;
  inclusions = w.inclusions ++ edge ∷ edges;
  last = moment;
}

-- the world in which the row at this place includes each of the targets, those that it doesn't
-- include yet in order behind the others; where it includes all of them it stays whole
abbrev pub with_inclusions : ℤ → ℕ → List ℕ → World → World
with_inclusions moment place targets w =
    with_edges moment (edges_from place (fresh (targets_of w.inclusions place) targets)) w
