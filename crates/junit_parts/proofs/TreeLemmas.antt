-- A tree that grows by one construct is a print, and sound, as before.
use Rattle.std.proofs.Common.{◌≡◌, ℕ, List, Some, None, refl}
use Rattle.junit_parts.specs.Constructs.{Leaf, Token, Stands, Opens, Whole, Closes, Entity, Doctype, Instruction}
use Rattle.junit_parts.specs.Flaws.{IsSound, token_flaw}
use Rattle.junit_parts.specs.Tags.{TagText}
use Rattle.junit_parts.specs.Tree.{Content, Nothing, Then, Element, Unfinished, Outside, Within, IsAt, PrintsFront, content_of, grown, put}

-- a leaf more
leaf_printed : (document middle rest : List ℕ) (u : Unfinished) (left : ℕ) (leaf : Leaf) → PrintsFront document u middle → IsAt middle left (Stands leaf) rest → PrintsFront document (put u (Then (content_of u) left leaf)) rest
leaf_printed document middle rest (Outside content) left leaf printed at = (middle, printed, at)
leaf_printed document middle rest (Within outer l t content) left leaf printed at = (printed.0, printed.1, printed.2, printed.3, (middle, printed.4, at))

leaf_sound : (u : Unfinished) (left : ℕ) (leaf : Leaf) → IsSound u → token_flaw u left (Stands leaf) ≡ None → IsSound (put u (Then (content_of u) left leaf))
leaf_sound (Outside content) left leaf sound right = (sound, right)
leaf_sound (Within outer l t content) left leaf sound right = (sound.0, sound.1, (sound.2, right))

whole_printed : (document middle rest : List ℕ) (u : Unfinished) (left : ℕ) (tag : TagText) → PrintsFront document u middle → IsAt middle left (Whole tag) rest → PrintsFront document (put u (Element (content_of u) left tag Nothing None)) rest
whole_printed document middle rest (Outside content) left tag printed at = (middle, printed, refl, at)
whole_printed document middle rest (Within outer l t content) left tag printed at = (printed.0, printed.1, printed.2, printed.3, (middle, printed.4, refl, at))

whole_sound : (u : Unfinished) (left : ℕ) (tag : TagText) → IsSound u → token_flaw u left (Whole tag) ≡ None → IsSound (put u (Element (content_of u) left tag Nothing None))
whole_sound (Outside content) left tag sound right = (sound, right)
whole_sound (Within outer l t content) left tag sound right = (sound.0, sound.1, (sound.2, right))

end_printed : (document last rest : List ℕ) (outer : Unfinished) (left : ℕ) (tag : TagText) (content : Content) (end : ℕ) (name : List ℕ) → PrintsFront document (Within outer left tag content) last
    → IsAt last end (Closes name) rest → PrintsFront document (put outer (Element (content_of outer) left tag content (Some (end, name)))) rest
end_printed document last rest (Outside before) left tag content end name printed at = (printed.0, printed.1, last, printed.2, printed.3, printed.4, at)
end_printed document last rest (Within o l t before) left tag content end name printed at =
    let outside = printed.2 in
    (outside.0, outside.1, outside.2, outside.3, (printed.0, printed.1, last, outside.4, printed.3, printed.4, at))

end_sound : (outer : Unfinished) (left : ℕ) (tag : TagText) (content : Content) (end : ℕ) (name : List ℕ) → IsSound (Within outer left tag content)
    → token_flaw (Within outer left tag content) end (Closes name) ≡ None → IsSound (put outer (Element (content_of outer) left tag content (Some (end, name))))
end_sound (Outside before) left tag content end name sound right = (sound.0, sound.1, sound.2, right)
end_sound (Within o l t before) left tag content end name sound right = (sound.0.0, sound.0.1, (sound.0.2, sound.1, sound.2, right))

pub grown_printed : (document middle rest : List ℕ) (u : Unfinished) (left : ℕ) (token : Token) → PrintsFront document u middle → IsAt middle left token rest → token_flaw u left token ≡ None → PrintsFront document (grown u left token) rest
grown_printed document middle rest u left (Stands leaf) printed at right = leaf_printed document middle rest u left leaf printed at
grown_printed document middle rest u left (Opens tag) printed at right = (middle, rest, printed, at, refl)
grown_printed document middle rest u left (Whole tag) printed at right = whole_printed document middle rest u left tag printed at
grown_printed document middle rest (Within outer l t content) left (Closes name) printed at right = end_printed document middle rest outer l t content left name printed at
grown_printed document middle rest (Outside content) left (Closes name) printed at right = absurd cc
grown_printed document middle rest (Outside content) left Entity printed at right = absurd cc
grown_printed document middle rest (Within outer l t content) left Entity printed at right = absurd cc
grown_printed document middle rest u left Doctype printed at right = absurd cc
grown_printed document middle rest u left Instruction printed at right = absurd cc

pub grown_sound : (u : Unfinished) (left : ℕ) (token : Token) → IsSound u → token_flaw u left token ≡ None → IsSound (grown u left token)
grown_sound u left (Stands leaf) sound right = leaf_sound u left leaf sound right
grown_sound u left (Opens tag) sound right = (sound, right, tt)
grown_sound u left (Whole tag) sound right = whole_sound u left tag sound right
grown_sound (Within outer l t content) left (Closes name) sound right = end_sound outer l t content left name sound right
grown_sound (Outside content) left (Closes name) sound right = absurd cc
grown_sound (Outside content) left Entity sound right = absurd cc
grown_sound (Within outer l t content) left Entity sound right = absurd cc
grown_sound u left Doctype sound right = absurd cc
grown_sound u left Instruction sound right = absurd cc
