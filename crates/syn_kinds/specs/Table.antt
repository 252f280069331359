-- The table of the kinds of tokens.
use Rattle.std.specs.Prelude.{ℕ, Bool, false, ◌==◌, ◌||◌, List, [], ◌∷◌, ◌++◌, map, get_or, replicate, take, codes}
use Rattle.std.specs.List.{list_any}
use Rattle.std.specs.Str.{bytes_eq}
use denote.Ref.{Bor}
use Rattle.rust_leaf.specs.Keywords.{keywords}

-- the words of the keywords: first the 51 that are no names, and then those that are names too
abbrev pub words : List (List ℕ)
words = keywords ++ codes "auto" ∷ codes "default" ∷ codes "raw" ∷ codes "safe" ∷ codes "union" ∷ []

-- the first 51 words, which are no names
unfoldable pub kept_words : List (List ℕ)
kept_words = keywords

-- a word begins with that byte
abbrev pub begins : ℕ → List ℕ → Bool
begins first [] = false
begins first (c ∷ _) = c == first

-- the word of a keyword: a number past the rows is that of the last one
unfoldable pub word : ℕ → List ℕ
word kind = get_or words kind (codes "union")

-- the texts of the punctuations, of one to three marks each
abbrev pub signs : List (List ℕ)
signs =
    codes "&" ∷ codes "&&" ∷ codes "&=" ∷ codes "@" ∷ codes "^" ∷ codes "^=" ∷ codes ":" ∷ codes "," ∷
    codes "$" ∷ codes "." ∷ codes ".." ∷ codes "..." ∷ codes "..=" ∷ codes "=" ∷ codes "==" ∷ codes "=>" ∷
    codes ">=" ∷ codes ">" ∷ codes "<-" ∷ codes "<=" ∷ codes "<" ∷ codes "-" ∷ codes "-=" ∷ codes "!=" ∷
    codes "!" ∷ codes "|" ∷ codes "|=" ∷ codes "||" ∷ codes "::" ∷ codes "%" ∷ codes "%=" ∷ codes "+" ∷
    codes "+=" ∷ codes "#" ∷ codes "?" ∷ codes "->" ∷ codes ";" ∷ codes "<<" ∷ codes "<<=" ∷ codes ">>" ∷
    codes ">>=" ∷ codes "/" ∷ codes "/=" ∷ codes "*" ∷ codes "*=" ∷ codes "~" ∷ []

-- the text of a punctuation: a number past the rows is that of the last one
unfoldable pub sign : ℕ → List ℕ
sign kind = get_or signs kind (codes "~")

-- a punctuation of so many marks: they are those of its row, and ~ stands for each that the row lacks
unfoldable pub marks : ℕ → ℕ → List ℕ
marks kind count = take count (sign kind ++ replicate count 126)

-- how a message shows a text: in backquotes
abbrev pub quoted : List ℕ → List ℕ
quoted text = 96 ∷ text ++ 96 ∷ []

-- the texts of rows
abbrev pub texts : List (Bor (List ℕ)) → List (List ℕ)
texts rows = map (λ row. row.now) rows
