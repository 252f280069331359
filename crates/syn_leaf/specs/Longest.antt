-- What operators are read from: the longest one that stands there. What follows its last mark is not looked at.
use Rattle.std.specs.Prelude.{◌≡◌, ℕ, Bool, false, List, [], ◌∷◌, ◌++◌, codes, filter, length, nat_lt}
use Rattle.std.specs.List.{list_any}
use Rattle.rust_map.specs.declared.span.Span.{Span}
use Rattle.proc_macro2.specs.Token.{Token, Spanned, plain}
use Rattle.syn_kinds.specs.Stands.{marks_stand}
use Rattle.syn_parse.specs.Marks.{ReadsMarks}

-- how operators between two operands are written: with three marks,
abbrev pub of_three : List (List ℕ)
of_three = codes "<<=" ∷ codes ">>=" ∷ []

-- with two, where a value is assigned and elsewhere,
abbrev pub assigning : List (List ℕ)
assigning =
    codes "+=" ∷ codes "-=" ∷ codes "*=" ∷ codes "/=" ∷ codes "%=" ∷ codes "^=" ∷ codes "&=" ∷ codes "|=" ∷ []

abbrev pub of_two : List (List ℕ)
of_two =
    codes "&&" ∷ codes "||" ∷ codes "<<" ∷ codes ">>" ∷ codes "==" ∷ codes "<=" ∷ codes "!=" ∷ codes ">=" ∷ []

-- and with one
abbrev pub of_one : List (List ℕ)
of_one =
    codes "+" ∷ codes "-" ∷ codes "*" ∷ codes "/" ∷ codes "%" ∷ codes "^" ∷ codes "&" ∷ codes "|" ∷ codes "<" ∷
    codes ">" ∷ []

abbrev pub binary_texts : List (List ℕ)
binary_texts = of_three ++ assigning ++ of_two ++ of_one

-- how operators before an operand are written
abbrev pub unary_texts : List (List ℕ)
unary_texts = codes "*" ∷ codes "!" ∷ codes "-" ∷ []

-- and what looks like one between the ends of a range, of which three dots are none
abbrev pub range_texts : List (List ℕ)
range_texts = codes "..." ∷ codes "..=" ∷ codes ".." ∷ []

-- one of the texts stands first
abbrev pub one_stands : List (List ℕ) → List Token → Bool
one_stands texts ts = list_any (λ text. marks_stand text ts) texts

-- those of the texts that are longer
abbrev pub longer : List (List ℕ) → List ℕ → List (List ℕ)
longer texts text = filter (λ other. nat_lt (length text) (length other)) texts

-- the marks of a text stand first, each where its span says, and no longer one of the texts stands there
abbrev pub ReadsLongest : List (List ℕ) → List ℕ → List Span → List Spanned → List Spanned → Type 0
ReadsLongest texts text spans ts us = ReadsMarks text spans ts us × (one_stands (longer texts text) (plain ts) ≡ false)
