-- Lists of names with punctuations between them, as they are printed and as they are read.
use Rattle.std.specs.Prelude.{◌≡◌, false, ℕ, List, [], ◌∷◌, ◌++◌, length}
use Rattle.std.specs.List.{All}
use Rattle.rust_map.specs.declared.span.Span.{Span}
use Rattle.rust_leaf.specs.Leaf.{ident_text}
use Rattle.rust_leaf.specs.declared.ident.Ident.{Ident}
use Rattle.proc_macro2.specs.Token.{Spanned, plain}
use Rattle.syn_kinds.specs.Stands.{ident_stands, marks_stand}
use Rattle.syn_kinds.specs.Table.{marks}
use Rattle.rust_leaf.specs.Keywords.{is_reserved}
use Rattle.syn_kinds.specs.Values.{marks_tokens}
use Rattle.syn_lists.specs.Put.{Put, put_list}
use Rattle.syn_buffer.specs.Leaves.{ident_token}
use Rattle.syn_peek.specs.Marks.{ReadsMarks}
use Rattle.syn_lists.specs.ReadLists.{Reading, ReadsList, StopsList}

-- a name is one token, and read from one that is no keyword
abbrev pub put_name : Ident → Put
put_name i tokens = tokens ++ ident_token i ∷ []

abbrev pub reads_name : Reading Ident
reads_name ts i us = (ts ≡ ident_token i ∷ us) × (is_reserved (ident_text i) ≡ false)

abbrev pub no_name : List Spanned → Type 0
no_name ts = ident_stands (plain ts) ≡ false

abbrev pub AreNames : List Ident → Type 0
AreNames vs = All (λ i. is_reserved (ident_text i) ≡ false) vs

-- a punctuation of so many marks, by where they stand
module _ (kind width : ℕ) where
  abbrev pub put_marks : List Span → Put
  put_marks spans tokens = tokens ++ marks_tokens (marks kind width) spans

  abbrev pub reads_marks : Reading (List Span)
  reads_marks ts spans us = ReadsMarks (marks kind width) spans ts us

  abbrev pub no_marks : List Spanned → Type 0
  no_marks ts = marks_stand (marks kind width) (plain ts) ≡ false

  abbrev pub ArePlaces : List (List Span) → Type 0
  ArePlaces ps = All (λ spans. length spans ≡ width) ps

  -- the tokens of a list of names and of punctuations
  abbrev pub printed : List Ident → List (List Span) → List Spanned
  printed vs ps = put_list put_name put_marks vs ps []

  -- the list is read from the tokens, and nothing is left behind it
  abbrev pub IsReadFrom : List Spanned → List Ident → List (List Span) → Type 0
  IsReadFrom ts vs ps = ReadsList reads_name reads_marks ts vs ps []

  -- no list is read from the tokens to their end
  abbrev pub IsRefused : List Spanned → Type 0
  IsRefused ts = StopsList reads_name reads_marks no_name no_marks ts
