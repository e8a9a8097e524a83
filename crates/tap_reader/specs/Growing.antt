-- The code's own words for how a tree grows: from the last line of a report to the first.
use Rattle.std.specs.Prelude.{ℕ, zero, suc, List, [], ◌∷◌}
use Rattle.tap_reader.specs.Counted.{Line}
use Rattle.tap_reader.specs.Streams.{Stream, Ends, Unfinished, Goes}

-- the tree with a line more in front, so many levels below its own
unfoldable pub put : ℕ → Line → Stream → Stream
put zero l t = Goes Ends l t
put (suc d) l Ends = Unfinished (put d l Ends)
put (suc d) l (Unfinished sub) = Unfinished (put d l sub)
put (suc d) l (Goes sub m rest) = Goes (put d l sub) m rest

-- the tree of these lines
unfoldable pub tree_of : List Line → Stream
tree_of [] = Ends
tree_of (l ∷ ls) = put l.level l (tree_of ls)
