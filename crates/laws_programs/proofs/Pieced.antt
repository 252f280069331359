-- A word among the tokens of pieces, which no opening delimiter stands directly before, is a piece of its characters:
-- the only word that no piece is, doc of a doc comment's attribute, has the attribute's bracket before it.
use Rattle.std.proofs.Common.{◌≡◌, ℕ, ◌+◌, List, [], ◌∷◌, ◌++◌, length, refl, sym, ap, ◌∙◌, subst, append_assoc}
use Rattle.std.proofs.Common.{length-append, arith, inl, inr, ⊎_elim}
use Rattle.std.specs.Prelude.{Bool, true, false, ◌⊎◌, cond, Some, slice_get}
use Rattle.rust_map.specs.declared.span.Span.{Span}
use Rattle.rust_lex.specs.Piece.{Piece}
use Rattle.rust_lex.specs.Cover.{onto}
use Rattle.rust_lex.specs.declared.piece.PieceKind.{PieceKind}
use Rattle.rust_lex.specs.declared.piece.PieceKind.TheVariants as piece
use Rattle.rust_leaf.specs.declared.punct.Spacing.{Spacing}
use Rattle.proc_macro2.specs.Token.{Token, Opens, Closes, Ident, Literal, Punct, Alone, Spanned, plain}
use Rattle.proc_macro2.specs.declared.delimiter.Delimiter.TheVariants as delimiter
use Rattle.proc_macro2.specs.Pieces.{delimiter_of, doc_group, doc_text, edged_at, head, is_inner}
use Rattle.proc_macro2.specs.Pieces.{mark_spacing, piece_tokens, span_at, tokens_of}
use Rattle.laws_programs.proofs.Ledges.{ends_open, ends_behind}

-- where the tokens of pieces have a word by itself
pub record Found (position : ℕ) (ps : List Piece) (cs : List ℕ) (index : ℕ) : Type 0 where
  pub front : List ℕ
  pub rest : List ℕ
  pub joined : onto ps [] ≡ front ++ (cs ++ rest)
  pub token : Spanned
  pub there : slice_get (tokens_of position ps) index ≡ Some token
  pub starts : token.span.start ≡ position + length front

-- tokens that are joined, at a word
record Later (xs ys before behind : List Token) (cs : List ℕ) : Type 0 where
  left : List Token
  is : before ≡ xs ++ left
  ys_are : ys ≡ left ++ Ident cs ∷ behind

record Within (xs before : List Token) (cs : List ℕ) : Type 0 where
  left : List Token
  xs_are : xs ≡ before ++ Ident cs ∷ left

abbrev first_of : List Token → Token
first_of [] = Ident []
first_of (t ∷ ts) = t

abbrev others_of : List Token → List Token
others_of [] = []
others_of (t ∷ ts) = ts

split : (xs ys before behind : List Token) (cs : List ℕ) → xs ++ ys ≡ before ++ Ident cs ∷ behind
    → Within xs before cs ⊎ Later xs ys before behind cs
split [] ys before behind cs e = inr record { left = before; is = refl; ys_are = e }
split (x ∷ xs) ys [] behind cs e = inl record { left = xs; xs_are = ap (λ t. t ∷ xs) (ap first_of e) }
split (x ∷ xs) ys (b ∷ before) behind cs e =
    ⊎_elim
    (λ w. inl record { left = w.left; xs_are = ap (λ t. t ∷ xs) (ap first_of e) ∙ ap (λ ts. b ∷ ts) w.xs_are })
    (λ l. inr record {
      left = l.left;
      is = ap (λ t. t ∷ before) (sym (ap first_of e)) ∙ ap (λ ts. x ∷ ts) l.is;
      ys_are = l.ys_are;
    })
    (split xs ys before behind cs (ap others_of e))

-- in one piece
lone : (t : Token) (before left : List Token) (cs : List ℕ) → t ∷ [] ≡ before ++ Ident cs ∷ left → t ≡ Ident cs
lone t [] left cs e = ap first_of e
lone t (b ∷ []) left cs e = cc e
lone t (b ∷ c ∷ before) left cs e = cc e

lone_front : (t : Token) (before left : List Token) (cs : List ℕ) → t ∷ [] ≡ before ++ Ident cs ∷ left → before ≡ []
lone_front t [] left cs e = refl
lone_front t (b ∷ []) left cs e = cc e
lone_front t (b ∷ c ∷ before) left cs e = cc e

none_in : (before left : List Token) (cs : List ℕ) → [] ≡ before ++ Ident cs ∷ left → ⊥
none_in [] left cs e = cc e
none_in (b ∷ before) left cs e = cc e

abbrev two_of : List Token → List Token
two_of (t ∷ u ∷ ts) = t ∷ u ∷ []
two_of ts = ts

abbrev three_of : List Token → List Token
three_of (t ∷ u ∷ v ∷ ts) = t ∷ u ∷ v ∷ []
three_of ts = ts

no_open : (ts us : List Token) → ts ≡ us → ends_open ts ≡ true → ends_open us ≡ false → ⊥
no_open ts us e f g = let h : true ≡ false = sym f ∙ ap ends_open e ∙ g in cc h

outer_doc : (before left : List Token) (cs ds : List ℕ)
    → Punct 35 Alone ∷ doc_group ds ≡ before ++ Ident cs ∷ left → ends_open before ≡ false → ⊥
outer_doc [] left cs ds e o = cc e
outer_doc (a ∷ []) left cs ds e o = cc e
outer_doc (a ∷ b ∷ []) left cs ds e o =
    no_open (Punct 35 Alone ∷ Opens delimiter.Bracket ∷ []) (a ∷ b ∷ []) (ap two_of e) refl o
outer_doc (a ∷ b ∷ c ∷ []) left cs ds e o = cc e
outer_doc (a ∷ b ∷ c ∷ d ∷ []) left cs ds e o = cc e
outer_doc (a ∷ b ∷ c ∷ d ∷ f ∷ []) left cs ds e o = cc e
outer_doc (a ∷ b ∷ c ∷ d ∷ f ∷ g ∷ []) left cs ds e o = cc e
outer_doc (a ∷ b ∷ c ∷ d ∷ f ∷ g ∷ h ∷ before) left cs ds e o = cc e

inner_doc : (before left : List Token) (cs ds : List ℕ)
    → Punct 35 Alone ∷ Punct 33 Alone ∷ doc_group ds ≡ before ++ Ident cs ∷ left → ends_open before ≡ false → ⊥
inner_doc [] left cs ds e o = cc e
inner_doc (a ∷ []) left cs ds e o = cc e
inner_doc (a ∷ b ∷ []) left cs ds e o = cc e
inner_doc (a ∷ b ∷ c ∷ []) left cs ds e o =
    no_open (Punct 35 Alone ∷ Punct 33 Alone ∷ Opens delimiter.Bracket ∷ []) (a ∷ b ∷ c ∷ []) (ap three_of e) refl o
inner_doc (a ∷ b ∷ c ∷ d ∷ []) left cs ds e o = cc e
inner_doc (a ∷ b ∷ c ∷ d ∷ f ∷ []) left cs ds e o = cc e
inner_doc (a ∷ b ∷ c ∷ d ∷ f ∷ g ∷ []) left cs ds e o = cc e
inner_doc (a ∷ b ∷ c ∷ d ∷ f ∷ g ∷ h ∷ []) left cs ds e o = cc e
inner_doc (a ∷ b ∷ c ∷ d ∷ f ∷ g ∷ h ∷ i ∷ before) left cs ds e o = cc e

doc_out : (b : Bool) (before left : List Token) (cs ds : List ℕ)
    → cond b (Punct 35 Alone ∷ Punct 33 Alone ∷ []) (Punct 35 Alone ∷ []) ++ doc_group ds ≡ before ++ Ident cs ∷ left
    → ends_open before ≡ false → ⊥
doc_out true before left cs ds e o = inner_doc before left cs ds e o
doc_out false before left cs ds e o = outer_doc before left cs ds e o

-- the piece is that word
record IsWord (kind : PieceKind) (chars : List ℕ) (before : List Token) (cs : List ℕ) : Type 0 where
  first : before ≡ []
  ident : kind ≡ piece.Ident
  is : chars ≡ cs

abbrev text_of : Token → List ℕ
text_of (Ident cs) = cs
text_of t = []

word : (kind : PieceKind) (chars : List ℕ) (spacing : Spacing) (before left : List Token) (cs : List ℕ)
    → piece_tokens kind chars spacing ≡ before ++ Ident cs ∷ left → ends_open before ≡ false
    → IsWord kind chars before cs
word piece.FrontMark chars spacing before left cs e o = absurd (none_in before left cs e)
word piece.White chars spacing before left cs e o = absurd (none_in before left cs e)
word piece.Comment chars spacing before left cs e o = absurd (none_in before left cs e)
word (piece.Doc kind) chars spacing before left cs e o =
    absurd (doc_out (is_inner kind) before left cs (doc_text kind chars) e o)
word (piece.Open d) chars spacing before left cs e o =
    let f = lone (Opens (delimiter_of d)) before left cs e in cc f
word (piece.Close d) chars spacing before left cs e o =
    let f = lone (Closes (delimiter_of d)) before left cs e in cc f
word piece.Mark chars spacing before left cs e o = let f = lone (Punct (head chars) spacing) before left cs e in cc f
word piece.Ident chars spacing before left cs e o = record {
  first = lone_front (Ident chars) before left cs e;
  ident = refl;
  is = ap text_of (lone (Ident chars) before left cs e);
}
word (piece.Literal kind) chars spacing before left cs e o = let f = lone (Literal chars) before left cs e in cc f

-- the tokens of a piece, and then others
plain_edged : (span : Span) (ts : List Token) (ss : List Spanned) → plain (edged_at span ts ++ ss) ≡ ts ++ plain ss
plain_edged span [] ss = refl
plain_edged span (t ∷ ts) ss = ap (λ us. t ∷ us) (plain_edged span ts ss)

get_behind : (span : Span) (ts left : List Token) (ss : List Spanned)
    → slice_get (edged_at span ts ++ ss) (length (ts ++ left)) ≡ slice_get ss (length left)
get_behind span [] left ss = refl
get_behind span (t ∷ ts) left ss = get_behind span ts left ss

still_shut : (ts us : List Token) → ends_open (ts ++ us) ≡ false → ends_open us ≡ false
still_shut ts [] e = refl
still_shut ts (u ∷ us) e = sym (ends_behind ts (u ∷ us) refl) ∙ e

found_later : (position : ℕ) (p : Piece) (ps : List Piece) (cs : List ℕ) (xs left : List Token)
    → xs ≡ piece_tokens p.kind p.chars (mark_spacing (head p.chars) ps)
    → Found (position + length p.chars) ps cs (length left) → Found position (p ∷ ps) cs (length (xs ++ left))
found_later position p ps cs xs left e f = record {
  front = p.chars ++ f.front;
  rest = f.rest;
  joined = ap (λ ds. p.chars ++ ds) f.joined ∙ sym (append_assoc p.chars f.front (cs ++ f.rest));
  token = f.token;
  there = ap (λ ts. slice_get (edged_at (span_at position (length p.chars)) ts
      ++ tokens_of (position + length p.chars) ps) (length (xs ++ left))) (sym e)
      ∙ get_behind (span_at position (length p.chars)) xs left (tokens_of (position + length p.chars) ps)
      ∙ f.there;
  starts = omega (arith, f.starts, length-append p.chars f.front);
}

first_get : (position : ℕ) (p : Piece) (ps : List Piece) → p.kind ≡ piece.Ident
    → slice_get (tokens_of position (p ∷ ps)) 0
    ≡ Some record { token = Ident p.chars; span = span_at position (length p.chars) }
first_get position p ps e =
    ap (λ k. slice_get (edged_at (span_at position (length p.chars))
    (piece_tokens k p.chars (mark_spacing (head p.chars) ps)) ++ tokens_of (position + length p.chars) ps) 0) e

pub found : (position : ℕ) (ps : List Piece) (before behind : List Token) (cs : List ℕ)
    → plain (tokens_of position ps) ≡ before ++ Ident cs ∷ behind → ends_open before ≡ false
    → Found position ps cs (length before)
found position [] before behind cs e o = absurd (none_in before behind cs e)
found position (p ∷ ps) before behind cs e o =
    ⊎_elim
    (λ w. here (word p.kind p.chars (mark_spacing (head p.chars) ps) before w.left cs w.xs_are o))
    (λ l. subst (λ ts. Found position (p ∷ ps) cs (length ts)) (sym l.is)
    (found_later position p ps cs tokens l.left refl
    (found (position + length p.chars) ps l.left behind cs l.ys_are
    (still_shut tokens l.left (subst (λ ts. ends_open ts ≡ false) l.is o)))))
    (split tokens (plain (tokens_of (position + length p.chars) ps)) before behind cs
    (sym (plain_edged (span_at position (length p.chars)) tokens (tokens_of (position + length p.chars) ps)) ∙ e))
  where
    tokens : List Token
    tokens = piece_tokens p.kind p.chars (mark_spacing (head p.chars) ps)

    here : IsWord p.kind p.chars before cs → Found position (p ∷ ps) cs (length before)
    here w = record {
      front = [];
      rest = onto ps [];
      joined = ap (λ ds. ds ++ onto ps []) w.is;
      token = record { token = Ident p.chars; span = span_at position (length p.chars) };
      there = ap (λ ts. slice_get (tokens_of position (p ∷ ps)) (length ts)) w.first
          ∙ first_get position p ps w.ident;
      starts = omega arith;
    }
