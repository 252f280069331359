-- The keywords of Rust, and the words that are no identifiers.
use Rattle.std.specs.Prelude.{ℕ, Bool, List, [], ◌∷◌, codes}
use Rattle.std.specs.List.{list_any}
use Rattle.std.specs.Str.{bytes_eq}

-- the strict and the reserved ones, as the Reference has them under "Keywords", up to the 2021 edition
abbrev pub keywords : List (List ℕ)
keywords =
    codes "abstract" ∷ codes "as" ∷ codes "async" ∷ codes "await" ∷ codes "become" ∷ codes "box" ∷ codes "break"
    ∷ codes "const" ∷ codes "continue" ∷ codes "crate" ∷ codes "do" ∷ codes "dyn" ∷ codes "else" ∷ codes "enum"
    ∷ codes "extern" ∷ codes "false" ∷ codes "final" ∷ codes "fn" ∷ codes "for" ∷ codes "if" ∷ codes "impl"
    ∷ codes "in" ∷ codes "let" ∷ codes "loop" ∷ codes "macro" ∷ codes "match" ∷ codes "mod" ∷ codes "move"
    ∷ codes "mut" ∷ codes "override" ∷ codes "priv" ∷ codes "pub" ∷ codes "ref" ∷ codes "return" ∷ codes "Self"
    ∷ codes "self" ∷ codes "static" ∷ codes "struct" ∷ codes "super" ∷ codes "trait" ∷ codes "true" ∷ codes "try"
    ∷ codes "type" ∷ codes "typeof" ∷ codes "unsafe" ∷ codes "unsized" ∷ codes "use" ∷ codes "virtual"
    ∷ codes "where" ∷ codes "while" ∷ codes "yield" ∷ []

-- two texts have the same characters
abbrev pub same_text : List ℕ → List ℕ → Bool
same_text cs ds = bytes_eq cs ds

abbrev pub is_among : List (List ℕ) → List ℕ → Bool
is_among words cs = list_any (λ word. same_text word cs) words

-- what is no identifier: the underscore, and all keywords, strict and reserved
abbrev pub reserved : List (List ℕ)
reserved = codes "_" ∷ keywords

unfoldable pub is_reserved : List ℕ → Bool
is_reserved cs = is_among reserved cs
