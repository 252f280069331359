-- What tokens begin with, as far as the first three of them say.
use Rattle.std.specs.Prelude.{ℕ, Bool, true, false, not, cond, ◌&&◌, ◌||◌, ◌==◌, List, [], ◌∷◌, codes}
use Rattle.proc_macro2.specs.Token.{Token, Opens, Ident, Literal, Punct}
use Rattle.proc_macro2.specs.declared.delimiter.Delimiter.TheVariants.{Brace}
use Rattle.proc_macro2.specs.Groups.{same_delimiter}
use Rattle.rust_leaf.specs.declared.punct.Spacing.TheVariants.{Joint}
use Rattle.syn_grammar.specs.Kind.{Kind, Position, InCondition, ExprBreak, ExprReturn, ExprYield, ExprRange, ExprPath}
use Rattle.rust_leaf.specs.Keywords.{same_text}

-- the first three tokens, or all of fewer
abbrev pub front3 : List Token → List Token
front3 (a ∷ b ∷ c ∷ ts) = a ∷ b ∷ c ∷ []
front3 ts = ts

-- the first two
abbrev pub front2 : List Token → List Token
front2 (a ∷ b ∷ ts) = a ∷ b ∷ []
front2 ts = ts

-- a mark, however it is spaced
abbrev pub is_mark : ℕ → Token → Bool
is_mark c (Punct d spacing) = d == c
is_mark c t = false

-- a mark that touches the one behind it
abbrev pub is_joint : ℕ → Token → Bool
is_joint c (Punct d Joint) = d == c
is_joint c t = false

-- a word
abbrev pub is_word : Token → Bool
is_word (Ident cs) = true
is_word t = false

-- a punctuation of one mark
abbrev pub one_mark : ℕ → List Token → Bool
one_mark c (t ∷ ts) = is_mark c t
one_mark c [] = false

-- of two marks
abbrev pub two_marks : ℕ → ℕ → List Token → Bool
two_marks c d (t ∷ u ∷ ts) = is_joint c t && is_mark d u
two_marks c d ts = false

-- of three marks
abbrev pub three_marks : ℕ → ℕ → ℕ → List Token → Bool
three_marks c d e (t ∷ u ∷ v ∷ ts) = is_joint c t && (is_joint d u && is_mark e v)
three_marks c d e ts = false

-- a mark that is no punctuation with the one behind it
abbrev pub lone_mark : ℕ → ℕ → List Token → Bool
lone_mark c d ts = not (two_marks c d ts) && one_mark c ts

-- no token
abbrev pub is_end : List Token → Bool
is_end [] = true
is_end (t ∷ ts) = false

-- the word as
abbrev pub begins_as : List Token → Bool
begins_as (Ident cs ∷ ts) = same_text (codes "as") cs
begins_as ts = false

-- any other word
abbrev pub begins_word : List Token → Bool
begins_word (Ident cs ∷ ts) = not (same_text (codes "as") cs)
begins_word ts = false

-- a group
abbrev pub begins_group : List Token → Bool
begins_group (Opens d ∷ ts) = true
begins_group ts = false

-- a group in braces
abbrev pub begins_brace : List Token → Bool
begins_brace (Opens d ∷ ts) = same_delimiter d Brace
begins_brace ts = false

-- a literal
abbrev pub begins_literal : List Token → Bool
begins_literal (Literal cs ∷ ts) = true
begins_literal ts = false

-- a lifetime: ' (39) and a word
abbrev pub begins_lifetime : List Token → Bool
begins_lifetime (t ∷ u ∷ ts) = is_joint 39 t && is_word u
begins_lifetime ts = false

-- of the operators that begin an operand, .. (46 46), < (60) but not <= or <<=, :: (58 58) and # (35)
abbrev pub begins_other : List Token → Bool
begins_other ts =
    two_marks 46 46 ts || ((not (two_marks 60 61 ts || three_marks 60 60 61 ts) && one_mark 60 ts)
    || (two_marks 58 58 ts || one_mark 35 ts))

-- and ! (33) but not !=, - (45) but not -= or ->, * (42), | (124) and & (38) but not before =
abbrev pub begins_prefix : List Token → Bool
begins_prefix ts =
    lone_mark 33 61 ts || ((not (two_marks 45 61 ts || two_marks 45 62 ts) && one_mark 45 ts)
    || (lone_mark 42 61 ts || (lone_mark 124 61 ts || (lone_mark 38 61 ts || begins_other ts))))

-- an operand, as it may stand behind return
abbrev pub begins_operand : List Token → Bool
begins_operand ts =
    begins_word ts || (begins_group ts || (begins_literal ts || (begins_lifetime ts || begins_prefix ts)))

-- of what no half-open range goes on with, <= != -= *= &= |= and <<=
abbrev pub ends_by_two : List Token → Bool
ends_by_two ts =
    two_marks 60 61 ts || (two_marks 33 61 ts || (two_marks 45 61 ts || (two_marks 42 61 ts || (two_marks 38 61 ts
    || (two_marks 124 61 ts || three_marks 60 60 61 ts)))))

-- and , (44) ; (59) ? (63) = (61) + (43) / (47) % (37) ^ (94) and > (62)
abbrev pub ends_by_mark : List Token → Bool
ends_by_mark ts =
    one_mark 44 ts || (one_mark 59 ts || (one_mark 63 ts || (one_mark 61 ts || (one_mark 43 ts || (one_mark 47 ts
    || (one_mark 37 ts || (one_mark 94 ts || (one_mark 62 ts || ends_by_two ts))))))))

-- A half-open range has no end there: at the end, before one of these, before as, and before a . that begins no .. .
abbrev pub ends_range : List Token → Bool
ends_range ts = is_end ts || (ends_by_mark ts || (begins_as ts || lone_mark 46 46 ts))

-- a brace that ends a condition
abbrev pub brace_in : Position → List Token → Bool
brace_in InCondition ts = begins_brace ts
brace_in p ts = false

-- a brace, where no condition is
abbrev pub brace_out : Position → List Token → Bool
brace_out InCondition ts = false
brace_out p ts = begins_brace ts

-- A form that has no operand behind it takes what follows.
abbrev pub takes_next : Position → Kind → List Token → Bool
takes_next p ExprBreak ts = not (brace_in p ts) && begins_operand ts
takes_next p ExprReturn ts = begins_operand ts
takes_next p ExprYield ts = begins_operand ts
takes_next p ExprRange ts = not (ends_range ts || brace_in p ts)
takes_next p ExprPath ts = brace_out p ts
takes_next p k ts = false

-- An operand is taken for a label.
abbrev pub is_label_next : Kind → Bool → List Token → Bool
is_label_next ExprBreak labelled ts = cond labelled (one_mark 58 ts) (begins_lifetime ts)
is_label_next k labelled ts = false

-- A form that may lack its operand takes one for that.
abbrev pub is_taken_next : Position → Kind → Bool → List Token → Bool
is_taken_next p ExprBreak l ts = takes_next p ExprBreak ts && not (is_label_next ExprBreak l ts)
is_taken_next p ExprReturn l ts = takes_next p ExprReturn ts && not (is_label_next ExprReturn l ts)
is_taken_next p ExprYield l ts = takes_next p ExprYield ts && not (is_label_next ExprYield l ts)
is_taken_next p ExprRange l ts = takes_next p ExprRange ts && not (is_label_next ExprRange l ts)
is_taken_next p k l ts = true
