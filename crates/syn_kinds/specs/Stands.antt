-- When a kind stands at the front of tokens.
use Rattle.std.specs.Prelude.{ℕ, Bool, true, false, ◌==◌, ◌&&◌, ◌||◌, not, List, [], ◌∷◌, codes}
use Rattle.proc_macro2.specs.Groups.{same_delimiter}
use Rattle.proc_macro2.specs.Token.{Token, Opens, Ident, Literal, Punct}
use Rattle.proc_macro2.specs.declared.delimiter.Delimiter.{Delimiter}
use Rattle.rust_leaf.specs.declared.punct.Spacing.{Spacing}
use Rattle.rust_leaf.specs.declared.punct.Spacing.TheVariants.{Alone, Joint}
use Rattle.rust_leaf.specs.Keywords.{is_reserved, same_text}

-- a word: an identifier of that text; that of a raw one begins with r#
abbrev pub word_stands : List ℕ → List Token → Bool
word_stands word (Ident cs ∷ ts) = same_text word cs
word_stands word _ = false

abbrev pub is_joint : Spacing → Bool
is_joint Alone = false
is_joint Joint = true

-- marks, all but the last of them joint; what follows the last is not looked at
abbrev pub marks_stand : List ℕ → List Token → Bool
marks_stand [] ts = true
marks_stand (c ∷ []) (Punct d spacing ∷ ts) = d == c
marks_stand (c ∷ e ∷ es) (Punct d spacing ∷ ts) = (d == c && is_joint spacing) && marks_stand (e ∷ es) ts
marks_stand (c ∷ cs) _ = false

-- an identifier, whatever its text
abbrev pub any_ident_stands : List Token → Bool
any_ident_stands (Ident cs ∷ ts) = true
any_ident_stands _ = false

-- a name: an identifier that is no keyword and not _
abbrev pub ident_stands : List Token → Bool
ident_stands (Ident cs ∷ ts) = not (is_reserved cs)
ident_stands _ = false

-- a lifetime: ' and an identifier
abbrev pub lifetime_stands : List Token → Bool
lifetime_stands (Punct c Joint ∷ Ident cs ∷ ts) = c == 39
lifetime_stands _ = false

-- a token that is a literal
abbrev pub literal_stands : List Token → Bool
literal_stands (Literal cs ∷ ts) = true
literal_stands _ = false

-- a literal, true or false
abbrev pub lit_stands : List Token → Bool
lit_stands ts = literal_stands ts || (word_stands (codes "true") ts || word_stands (codes "false") ts)

-- a mark that begins no lifetime
abbrev pub punct_stands : List Token → Bool
punct_stands (Punct c spacing ∷ ts) = not (c == 39)
punct_stands _ = false

-- a group in these delimiters
abbrev pub group_stands : Delimiter → List Token → Bool
group_stands d (Opens e ∷ ts) = same_delimiter e d
group_stands d _ = false
