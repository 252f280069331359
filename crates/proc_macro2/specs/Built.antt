-- What a builder holds: the groups that are open, and the tokens that have been put.
use Rattle.std.specs.Prelude.{◌≡◌, ℕ, ◌+◌, ◌≤◌, Bool, true, false, List, [], ◌∷◌, ◌++◌, length, drop, None, map}
use Rattle.std.specs.Prelude.{reverse}
use Rattle.std.specs.List.{flat_map}
use Rattle.rust_map.specs.Spans.{span_part}
use Rattle.rust_map.specs.declared.span.Span.{Span}
use Rattle.rust_leaf.specs.Identifier.{is_ident_text}
use Rattle.rust_leaf.specs.Mark.{is_mark}
use Rattle.rust_lex.specs.Piece.{IsLiteral}
use Rattle.rust_lex.specs.declared.piece.PieceKind.{PieceKind}
use Rattle.rust_lex.specs.declared.piece.PieceKind.TheVariants as piece
use Rattle.proc_macro2.specs.Token.{Delimiter, Opens, Closes, Ident, Literal, Punct, Spanned}
use Rattle.proc_macro2.specs.Flat.{spanned}
use Rattle.proc_macro2.specs.Pieces.{delimiter_of, edged, all_at, span_at, head, spacing_of, is_block, IsClosedDoc}
use Rattle.proc_macro2.specs.Pieces.{doc_marks, doc_group, doc_text}
use Rattle.proc_macro2.specs.Forest.{Opening, openings_closed}
use Rattle.proc_macro2.specs.Stack.{Open, Parent}
use Rattle.proc_macro2.specs.declared.builder.Stretch.{Stretch}

-- a group that is open, as the forest has it
abbrev pub opening_of : Parent → Opening
opening_of g = record { delimiter = g.delimiter; at = g.count }

-- the open groups, the innermost first: it is the last of them
abbrev pub openings_of : List Parent → List Opening
openings_of gs = map opening_of (reverse gs)

-- the tokens before a group and its opening token, where each stands
abbrev pub parent_tokens : ℕ → Parent → List Spanned
parent_tokens base g = map edged g.before ++ edged (spanned (Opens g.delimiter) (span_at (base + g.count) 1)) ∷ []

-- all tokens that have been put, where each stands
abbrev pub built : ℕ → List Parent → List Spanned → List Spanned
built base gs inside = flat_map (parent_tokens base) gs ++ map edged inside

-- a builder with these open groups, and these tokens in the innermost
pub record Holds (builder : Open) (groups : List Parent) (inside : List Spanned) : Type 0 where
  pub groups_are : builder.groups ≡ groups
  pub inside_is : builder.inside ≡ inside

-- a builder with one more open group
abbrev pub IsOpened : Open → Open → Delimiter → ℕ → Type 0
IsOpened old new d n = Holds new (old.groups ++ record { delimiter = d; count = n; before = old.inside } ∷ []) []

-- a builder with more tokens in its innermost group
abbrev pub IsAdded : Open → Open → List Spanned → Type 0
IsAdded old new tokens = Holds new old.groups (old.inside ++ tokens)

-- a builder whose innermost group was closed, behind so many characters of a text
pub record IsClosed (old new : Open) (delimiter : Delimiter) (text : Span) (end : ℕ) : Type 0 where
  pub group : Parent
  pub groups_were : old.groups ≡ new.groups ++ group ∷ []
  pub same : group.delimiter ≡ delimiter
  pub inside_is : (let span = span_part text group.count end in
      new.inside ≡ group.before ++
      (spanned (Opens delimiter) span ∷ old.inside ++ spanned (Closes delimiter) span ∷ []))

-- the groups that are open don't let the closing token close one
abbrev pub IsRefused : Open → Delimiter → Type 0
IsRefused old d = openings_closed (openings_of old.groups) d ≡ None

-- what a closing mark makes of a builder
abbrev pub IsClosing : Bool → Open → Open → Delimiter → Span → ℕ → Type 0
IsClosing true old new d text end = IsClosed old new d text end
IsClosing false old new d text end = IsRefused old d

-- what the characters of a piece of a class have to be
abbrev pub IsReady : PieceKind → List ℕ → Type 0
IsReady piece.FrontMark cs = Unit {0}
IsReady piece.White cs = Unit {0}
IsReady piece.Comment cs = Unit {0}
IsReady (piece.Doc kind) cs = (3 ≤ length cs) × (is_block kind ≡ true → IsClosedDoc (drop 3 cs))
IsReady (piece.Open d) cs = Unit {0}
IsReady (piece.Close d) cs = Unit {0}
IsReady piece.Mark cs = (c : ℕ) × (cs ≡ c ∷ []) × (is_mark c ≡ true)
IsReady piece.Ident cs = is_ident_text cs ≡ true
IsReady (piece.Literal kind) cs = IsLiteral kind cs []

-- the span of a stretch of a text
abbrev pub stretch_span : Stretch → Span
stretch_span s = span_part s.whole s.from s.to

-- what a piece of a class makes of a builder, a mark being joint or not
abbrev pub IsPut : PieceKind → Bool → Open → Open → Stretch → List ℕ → Bool → Type 0
IsPut piece.FrontMark ok old new s cs joint = (ok ≡ true) × IsAdded old new []
IsPut piece.White ok old new s cs joint = (ok ≡ true) × IsAdded old new []
IsPut piece.Comment ok old new s cs joint = (ok ≡ true) × IsAdded old new []
IsPut (piece.Doc kind) ok old new s cs joint = (ok ≡ true)
    × IsAdded old new (all_at (stretch_span s) (doc_marks kind ++ doc_group (doc_text kind cs)))
IsPut (piece.Open d) ok old new s cs joint = (ok ≡ true) × IsOpened old new (delimiter_of d) s.from
IsPut (piece.Close d) ok old new s cs joint = IsClosing ok old new (delimiter_of d) s.whole s.to
IsPut piece.Mark ok old new s cs joint = (ok ≡ true)
    × IsAdded old new (all_at (stretch_span s) (Punct (head cs) (spacing_of joint) ∷ []))
IsPut piece.Ident ok old new s cs joint = (ok ≡ true) × IsAdded old new (all_at (stretch_span s) (Ident cs ∷ []))
IsPut (piece.Literal kind) ok old new s cs joint = (ok ≡ true)
    × IsAdded old new (all_at (stretch_span s) (Literal cs ∷ []))
