-- Every list of lines has one tree.
use Rattle.std.proofs.Common.{◌≡◌, ◌≢◌, ℕ, zero, suc, ◌+◌, List, [], ◌∷◌, ◌++◌, refl, ap, ◌∙◌, arith}
use Rattle.tap_reader.specs.Counted.{Line}
use Rattle.tap_reader.specs.Streams.{Stream, Ends, Unfinished, Goes, IsAt, lines_of}
use Rattle.tap_reader.specs.Growing.{put, tree_of}

lines-put : (d : ℕ) (l : Line) (t : Stream) → lines_of (put d l t) ≡ l ∷ lines_of t
unfolding put
lines-put zero l t = refl
lines-put (suc d) l Ends = lines-put d l Ends
lines-put (suc d) l (Unfinished sub) = lines-put d l sub
lines-put (suc d) l (Goes sub m rest) = ap (λ ls. ls ++ m ∷ lines_of rest) (lines-put d l sub)

pub lines-tree : (ls : List Line) → lines_of (tree_of ls) ≡ ls
unfolding tree_of
lines-tree [] = refl
lines-tree (l ∷ ls) = lines-put l.level l (tree_of ls) ∙ ap (λ xs. l ∷ xs) (lines-tree ls)

put-some : (d : ℕ) (l : Line) (t : Stream) → put d l t ≢ Ends
unfolding put
put-some zero l t e = cc
put-some (suc d) l Ends e = cc
put-some (suc d) l (Unfinished sub) e = cc
put-some (suc d) l (Goes sub m rest) e = cc

IsAt-put : (level d : ℕ) (l : Line) (t : Stream) → l.level ≡ level + d → IsAt level t → IsAt level (put d l t)
unfolding put
IsAt-put level zero l t e at = (tt, (let h : l.level ≡ level = omega arith in h), at)
IsAt-put level (suc d) l Ends e at = (put-some d l Ends, IsAt-put (suc level) d l Ends (omega arith) tt)
IsAt-put level (suc d) l (Unfinished sub) e at = (put-some d l sub, IsAt-put (suc level) d l sub (omega arith) at.1)
IsAt-put level (suc d) l (Goes sub m rest) e at = (IsAt-put (suc level) d l sub (omega arith) at.0, at.1, at.2)

pub IsAt-tree : (ls : List Line) → IsAt 0 (tree_of ls)
unfolding tree_of
IsAt-tree [] = tt
IsAt-tree (l ∷ ls) = IsAt-put 0 l.level l (tree_of ls) (omega arith) (IsAt-tree ls)
