-- Tokens and their texts, computed.
use Rattle.std.specs.Prelude.{◌≡◌, List, [], ◌∷◌, ◌++◌, codes, refl, false}
use Rattle.proc_macro2.specs.declared.delimiter.Delimiter.TheVariants as delimiter
use Rattle.proc_macro2.specs.Token.{Delimiter, Token, Opens, Closes, Ident, Literal, Punct, Alone, Joint}
use Rattle.proc_macro2.specs.Printed.{text}
use Rattle.proc_macro2.specs.Spacing.{IsWellSpaced, follows_quote, may_stand, quote}

-- a group
abbrev pub around : Delimiter → List Token → List Token
around d inside = Opens d ∷ inside ++ Closes d ∷ []

-- a
abbrev pub word : Token
word = Ident (codes "a")

-- trees stand one space apart, except behind a joint mark
marks : text (word ∷ Punct 43 Joint ∷ Punct 61 Alone ∷ Literal (codes "1u8") ∷ Punct 59 Alone ∷ []) ≡ codes "a += 1u8 ;"
marks = refl

groups : text (around delimiter.Parenthesis (word ∷ word ∷ []) ++ around delimiter.Bracket (word ∷ []) ++ around
    delimiter.Brace (word ∷ [])) ≡ codes "(a a) [a] { a }"
groups = refl

empty_groups : text (around delimiter.Parenthesis [] ++ around delimiter.Bracket [] ++ around delimiter.Brace [])
    ≡ codes "() [] { }"
empty_groups = refl

-- a joint mark at the end of a group's inside
last_joint : text (around delimiter.Parenthesis (Punct 43 Joint ∷ []) ++ around delimiter.Brace (Punct 43 Joint ∷ []))
    ≡ codes "(+) { + }"
last_joint = refl

nested : text (around delimiter.Brace (around delimiter.Brace [] ++ around delimiter.Brace (word ∷ [])))
    ≡ codes "{ { } { a } }"
nested = refl

-- of an invisible group the inside alone; behind it a space, also where a joint mark ends it
invisible : text (word ∷ around delimiter.None (word ∷ Punct 43 Joint ∷ []) ++ word ∷ []) ≡ codes "a a + a"
invisible = refl

behind_joint : text (Punct 39 Joint ∷ around delimiter.None (word ∷ [])) ≡ codes "'a"
behind_joint = refl

-- an empty one between two trees, alone, and inside other groups
empty_invisible : text (word ∷ around delimiter.None [] ++ word ∷ []) ≡ codes "a  a"
empty_invisible = refl

inside_groups : text (around delimiter.Parenthesis (around delimiter.None []) ++ around delimiter.Brace
    (around delimiter.None [])) ≡ codes "() {  }"
inside_groups = refl

-- 'a, 'a' and 'b"x"
lifetime : IsWellSpaced (Punct quote Joint ∷ word ∷ [])
lifetime = (refl, (refl, tt))

quoted_string : IsWellSpaced (Punct quote Joint ∷ Literal (codes "b\"x\"") ∷ [])
quoted_string = (refl, (refl, tt))

before_character : IsWellSpaced (Punct 43 Joint ∷ Literal (codes "'a'") ∷ [])
before_character = (refl, (refl, tt))

quote_before_hashes : follows_quote (Literal (codes "br#\"x\"#") ∷ []) ≡ false
quote_before_hashes = refl

comment : may_stand (Punct 47 Joint) (Punct 42 Alone ∷ []) ≡ false
comment = refl

joint_at_the_end : may_stand (Punct 43 Joint) (Closes delimiter.Brace ∷ []) ≡ false
joint_at_the_end = refl
