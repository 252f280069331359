-- Where reading a text halts: it halts at one place alone.
use Rattle.std.proofs.Common.{◌≡◌, ◌≢◌, ℕ, zero, suc, ◌+◌, List, [], ◌∷◌, ◌++◌, refl, sym, ap, ap₂, ◌∙◌, subst}
use Rattle.std.proofs.Common.{⊎_elim, map, inl, inr, arith, length}
use Rattle.std.specs.Prelude.{Bool, true, false, cond, Option, Some, None, option_map, option_and_then, ◌⊎◌}
use Rattle.std.proofs.lemmas.List.{append-nil}
use Rattle.rust_map.specs.declared.place.LineColumn.{LineColumn}
use Rattle.rust_map.specs.Places.{place_of}
use Rattle.rust_lex.specs.declared.group_marks.GroupMarks.{GroupMarks}
use Rattle.rust_lex.specs.declared.piece.DocKind.{DocKind}
use Rattle.rust_lex.specs.declared.piece.DocKind.TheVariants as doc
use Rattle.rust_lex.specs.declared.piece.PieceKind.{PieceKind}
use Rattle.rust_lex.specs.declared.piece.PieceKind.TheVariants as piece
use Rattle.rust_lex.specs.Piece.{Piece, FitsAt, closing}
use Rattle.rust_lex.specs.Cover.{onto, AreFit, AreFitFront}
use Rattle.rust_lex.proofs.Sound.{front_fits}
use Rattle.rust_lex.proofs.OneCover.{one_piece, none_empty}
use Rattle.proc_macro2.specs.Token.{Delimiter, Spanned}
use Rattle.proc_macro2.specs.Groups.{same_delimiter, groups_open}
use Rattle.proc_macro2.specs.Groups as groups
use Rattle.rust_map.specs.declared.span.Span.{Span}
use Rattle.proc_macro2.specs.Pieces.{delimiter_of, edged, edged_at, span_at, doc_marks, doc_group}
use Rattle.proc_macro2.proofs.Followed.{tokens_before, tokens_onto, forest_tokens}
use Rattle.proc_macro2.specs.Forest.{Opening, openings, open_behind, openings_closed, count, IsForest, Reaches}
use Rattle.proc_macro2.specs.Forest.{IsFaultBehind, IsLexicalFault}
use Rattle.proc_macro2.proofs.GroupLemmas.{open_append}
use Rattle.proc_macro2.proofs.Covering.{openings_append}

-- pieces that stand behind n characters are of their class before what follows them
abbrev FitFrom : ℕ → List Piece → List ℕ → Type 0
FitFrom n [] rest = Unit {0}
FitFrom n (p ∷ ps) rest = FitsAt n p.kind p.chars (onto ps rest) × AreFit ps rest

-- the second pieces are the first ones and more
record GoesOn (n : ℕ) (ps : List Piece) (r : List ℕ) (qs : List Piece) (s : List ℕ) : Type 0 where
  more : List Piece
  pieces : qs ≡ ps ++ more
  rest : r ≡ onto more s
  fit : (ps ≡ [] → FitFrom n more s) × ((ps ≡ [] → ⊥) → AreFit more s)

from_fit : (n : ℕ) (ps : List Piece) (rest : List ℕ) → AreFit ps rest → FitFrom n ps rest
from_fit n [] rest f = tt
from_fit zero (p ∷ ps) rest f = (front_fits p.kind p.chars (onto ps rest) f.0, f.1)
from_fit (suc n) (p ∷ ps) rest f = f

-- all pieces within a text
record GoesOnIn (ps : List Piece) (r : List ℕ) (qs : List Piece) (s : List ℕ) : Type 0 where
  more : List Piece
  pieces : qs ≡ ps ++ more
  rest : r ≡ onto more s
  fit : AreFit more s

in_behind : (p q : Piece) (ps qs : List Piece) (r s : List ℕ) → p ≡ q → GoesOnIn ps r qs s
    → GoesOnIn (p ∷ ps) r (q ∷ qs) s
in_behind p q ps qs r s e g =
    record { more = g.more; pieces = ap₂ (λ x xs. x ∷ xs) (sym e) g.pieces; rest = g.rest; fit = g.fit }

one_goes_in : (ps qs : List Piece) (r s : List ℕ) → AreFit ps r → AreFit qs s → onto ps r ≡ onto qs s
    → GoesOnIn ps r qs s ⊎ GoesOnIn qs s ps r
one_goes_in [] qs r s f g e = inl (record { more = qs; pieces = refl; rest = e; fit = g })
one_goes_in (p ∷ ps) [] r s f g e = inr (record { more = p ∷ ps; pieces = refl; rest = sym e; fit = f })
one_goes_in (p ∷ ps) (q ∷ qs) r s f g e =
    let (same, rests) = one_piece 1 p q _ _ f.0 g.0 e in
    ⊎_elim
    (λ h. inl (in_behind p q ps qs r s same h))
    (λ h. inr (in_behind q p qs ps s r (sym same) h))
    (one_goes_in ps qs r s f.1 g.1 rests)

-- the same from a text's front on
record Extends (ps : List Piece) (r : List ℕ) (qs : List Piece) (s : List ℕ) : Type 0 where
  more : List Piece
  pieces : qs ≡ ps ++ more
  rest : r ≡ onto more s
  fit : FitFrom (count ps) more s

behind_front : (p q : Piece) (ps qs : List Piece) (r s : List ℕ) → p ≡ q → GoesOnIn ps r qs s
    → Extends (p ∷ ps) r (q ∷ qs) s
behind_front p q ps qs r s e g =
    record {
      more = g.more;
      pieces = ap₂ (λ x xs. x ∷ xs) (sym e) g.pieces;
      rest = g.rest;
      fit = from_fit (count (p ∷ ps)) g.more s g.fit;
    }

front_from : (ps : List Piece) (rest : List ℕ) → AreFitFront ps rest → FitFrom 0 ps rest
front_from [] rest f = tt
front_from (p ∷ ps) rest f = f

one_extends : (ps qs : List Piece) (r s : List ℕ) → AreFitFront ps r → AreFitFront qs s → onto ps r ≡ onto qs s
    → Extends ps r qs s ⊎ Extends qs s ps r
one_extends [] qs r s f g e = inl (record { more = qs; pieces = refl; rest = e; fit = front_from qs s g })
one_extends (p ∷ ps) [] r s f g e = inr (record { more = p ∷ ps; pieces = refl; rest = sym e; fit = f })
one_extends (p ∷ ps) (q ∷ qs) r s f g e =
    let (same, rests) = one_piece 0 p q _ _ f.0 g.0 e in
    ⊎_elim
    (λ h. inl (behind_front p q ps qs r s same h))
    (λ h. inr (behind_front q p qs ps s r (sym same) h))
    (one_goes_in ps qs r s f.1 g.1 rests)

-- reading reaches the rest, and no piece leads further
record Halts (text : List ℕ) (pieces : List Piece) (rest : List ℕ) (groups : List Opening) : Type 0 where
  reaches : Reaches text pieces rest groups
  stuck : (p : Piece) (more : List Piece) (s : List ℕ) (hs : List Opening)
      → FitsAt (count pieces) p.kind p.chars (onto more s) → rest ≡ onto (p ∷ more) s
      → openings groups (count pieces) (p ∷ more) ≡ Some hs → ⊥

-- two places of reading are one
record IsSame (ps : List Piece) (r : List ℕ) (gs : List Opening) (qs : List Piece) (s : List ℕ) (hs : List Opening) :
    Type 0 where
  pieces : ps ≡ qs
  rest : r ≡ s
  groups : gs ≡ hs

no_further : (text : List ℕ) (ps qs : List Piece) (r s : List ℕ) (gs hs : List Opening) → Halts text ps r gs
    → Reaches text qs s hs → Extends ps r qs s → IsSame ps r gs qs s hs
no_further text ps qs r s gs hs h k g = by_more g.more g.pieces g.rest g.fit
  where
    by_more : (more : List Piece) → qs ≡ ps ++ more → r ≡ onto more s → FitFrom (count ps) more s
        → IsSame ps r gs qs s hs
    by_more [] e q f =
        let same : ps ≡ qs = sym (e ∙ append-nil ps) in
        let both : Some gs ≡ Some hs = sym h.reaches.opened ∙ ap (openings [] 0) same ∙ k.opened in
        record { pieces = same; rest = q; groups = cc }
    by_more (p ∷ more) e q f =
        let whole : openings gs (0 + count ps) (p ∷ more) ≡ Some hs =
        sym (openings_append [] gs 0 ps (p ∷ more) h.reaches.opened) ∙ ap (openings [] 0) (sym e) ∙ k.opened in
        let z : 0 + count ps ≡ count ps = omega arith in
        absurd (h.stuck p more s hs f.0 q (ap (λ m. openings gs m (p ∷ more)) (sym z) ∙ whole))

one_halt : (text : List ℕ) (ps qs : List Piece) (r s : List ℕ) (gs hs : List Opening) → Halts text ps r gs
    → Halts text qs s hs → IsSame ps r gs qs s hs
one_halt text ps qs r s gs hs h k =
    ⊎_elim
    (λ g. no_further text ps qs r s gs hs h k.reaches g)
    (λ g. let same = no_further text qs ps s r hs gs k h.reaches g in record
    { pieces = sym same.pieces; rest = sym same.rest; groups = sym same.groups })
    (one_extends ps qs r s h.reaches.covers.fit k.reaches.covers.fit
    (sym h.reaches.covers.joined ∙ k.reaches.covers.joined))

end_halts : (text : List ℕ) (ps : List Piece) (gs : List Opening) → Reaches text ps [] gs → Halts text ps [] gs
end_halts text ps gs r = record { reaches = r; stuck = λ p more s hs f e g. none_empty (count ps) p (onto more s) f e }

closing_piece : GroupMarks → Piece
closing_piece d = record { kind = piece.Close d; chars = closing d ∷ [] }

closes_at : (n : ℕ) (d : GroupMarks) (rest : List ℕ) → FitsAt n (piece.Close d) (closing d ∷ []) rest
closes_at zero d rest = refl
closes_at (suc n) d rest = refl

-- the number of characters at which a fault is, by where reading halts: there, or at the end the innermost open group
abbrev fault_at : List Piece → List ℕ → List Opening → ℕ
fault_at ps (c ∷ cs) gs = count ps
fault_at ps [] (g ∷ gs) = g.at
fault_at ps [] [] = count ps

record Faulted (text : List ℕ) (n : ℕ) : Type 0 where
  pieces : List Piece
  rest : List ℕ
  groups : List Opening
  halts : Halts text pieces rest groups
  more : rest ≡ [] → groups ≡ [] → ⊥
  there : n ≡ fault_at pieces rest groups

stray_place : (ps : List Piece) (rest : List ℕ) (gs : List Opening) → rest ≢ [] → count ps ≡ fault_at ps rest gs
stray_place ps [] gs h = absurd (h refl)
stray_place ps (c ∷ cs) gs h = refl

unmatched_stuck : (n : ℕ) (d : GroupMarks) (rest : List ℕ) (gs : List Opening)
    → openings_closed gs (delimiter_of d) ≡ None → (p : Piece) (more : List Piece) (s : List ℕ) (hs : List Opening) →
    FitsAt n p.kind p.chars (onto more s) → closing d ∷ rest ≡ onto (p ∷ more) s → openings gs n (p ∷ more) ≡ Some hs
    → ⊥
unmatched_stuck n d rest gs w p more s hs f e g =
    let c : Piece = record { kind = piece.Close d; chars = closing d ∷ [] } in
    let same : p ≡ c = (one_piece n p c (onto more s) rest f (closes_at n d rest) (sym e)).0 in
    let there : openings gs n (c ∷ more) ≡ Some hs = subst (λ x. openings gs n (x ∷ more) ≡ Some hs) same g in
    let wrong : None ≡ Some hs = sym (ap (λ o. option_and_then (λ qs. openings qs (n + 1) more) o) w) ∙ there in
    cc

faulted : (text : List ℕ) (n : ℕ) → IsFaultBehind text n → Faulted text n
faulted text n f =
    ⊎_elim
    (λ i. record {
      pieces = i.pieces;
      rest = i.rest;
      groups = i.groups;
      halts = record { reaches = i.reaches; stuck = λ p more s hs f e g. i.none p.kind p.chars (onto more s) e f };
      more = λ e g. i.more e;
      there = i.there ∙ stray_place i.pieces i.rest i.groups i.more;
    })
    (λ o. ⊎_elim
    (λ i. record {
      pieces = i.pieces;
      rest = closing i.delimiter ∷ i.rest;
      groups = i.groups;
      halts = record {
        reaches = i.reaches;
        stuck = unmatched_stuck (count i.pieces) i.delimiter i.rest i.groups i.wrong;
      };
      more = λ e g. cc;
      there = i.there;
    })
    (λ i. record {
      pieces = i.pieces;
      rest = [];
      groups = i.innermost ∷ i.others;
      halts = end_halts text i.pieces (i.innermost ∷ i.others) i.reaches;
      more = λ e g. cc;
      there = i.there;
    })
    o)
    f

pub one_behind : (text : List ℕ) (n m : ℕ) → IsFaultBehind text n → IsFaultBehind text m → n ≡ m
one_behind text n m f g =
    let a = faulted text n f in
    let b = faulted text m g in
    let same = one_halt text a.pieces b.pieces a.rest b.rest a.groups b.groups a.halts b.halts in
    a.there ∙ ap (λ x. fault_at x a.rest a.groups) same.pieces ∙ ap (λ x. fault_at b.pieces x a.groups) same.rest
    ∙ ap (fault_at b.pieces b.rest) same.groups ∙ sym b.there

pub one_fault : (text : List ℕ) (p q : LineColumn) → IsLexicalFault text p → IsLexicalFault text q → p ≡ q
one_fault text p q (n, f, e) (m, g, h) = e ∙ ap (place_of text) (one_behind text n m f g) ∙ sym h

-- the groups that are open behind tokens, and behind their pieces
abbrev delimiters : List Opening → List Delimiter
delimiters os = map (λ o. o.delimiter) os

closed_groups : (os : List Opening) (d : Delimiter)
    → groups.groups_closed (delimiters os) d ≡ option_map delimiters (openings_closed os d)
closed_groups [] d = refl
closed_groups (o ∷ os) d = here (same_delimiter o.delimiter d)
  where
    here : (b : Bool) → cond b (Some (delimiters os)) None ≡ option_map delimiters (cond b (Some os) None)
    here true = refl
    here false = refl

and_then_some : (o : Option (List Delimiter)) → option_and_then (λ ds. Some ds) o ≡ o
and_then_some None = refl
and_then_some (Some ds) = refl

doc_groups : (ds : List Delimiter) (kind : DocKind) (text : List ℕ) (span : Span)
    → groups_open ds (edged_at span (doc_marks kind ++ doc_group text)) ≡ Some ds
doc_groups ds doc.OuterLine text span = refl
doc_groups ds doc.InnerLine text span = refl
doc_groups ds doc.OuterBlock text span = refl
doc_groups ds doc.InnerBlock text span = refl

piece_groups : (os : List Opening) (k : PieceKind) (n : ℕ) (cs rest : List ℕ) (span : Span)
    → groups_open (delimiters os) (edged_at span (tokens_before k cs rest)) ≡ option_map delimiters (open_behind os k n)
piece_groups os piece.FrontMark n cs rest span = refl
piece_groups os piece.White n cs rest span = refl
piece_groups os piece.Comment n cs rest span = refl
piece_groups os (piece.Doc kind) n cs rest span = doc_groups (delimiters os) kind _ span
piece_groups os (piece.Open d) n cs rest span = refl
piece_groups os (piece.Close d) n cs rest span = and_then_some _ ∙ closed_groups os (delimiter_of d)
piece_groups os piece.Mark n cs rest span = refl
piece_groups os piece.Ident n cs rest span = refl
piece_groups os (piece.Literal kind) n cs rest span = refl

-- tokens of the stream and where they stand open the same groups
edged_groups : (ds : List Delimiter) (ss : List Spanned) → groups_open ds (map edged ss) ≡ groups_open ds ss
edged_groups ds [] = refl
edged_groups ds (s ∷ ss) = here (λ es. edged_groups es ss) (groups.groups_behind ds s.token)
  where
    here : ((es : List Delimiter) → groups_open es (map edged ss) ≡ groups_open es ss) → (o : Option (List Delimiter))
        → option_and_then (λ es. groups_open es (map edged ss)) o ≡ option_and_then (λ es. groups_open es ss) o
    here more None = refl
    here more (Some es) = more es

none_append : (ds : List Delimiter) (xs ys : List Spanned) → groups_open ds xs ≡ None → groups_open ds (xs ++ ys) ≡ None
none_append ds [] ys e = cc
none_append ds (x ∷ xs) ys e = here (λ es. none_append es xs ys) (groups.groups_behind ds x.token) e
  where
    here : ((es : List Delimiter) → groups_open es xs ≡ None → groups_open es (xs ++ ys) ≡ None)
        → (o : Option (List Delimiter)) → option_and_then (λ es. groups_open es xs) o ≡ None
        → option_and_then (λ es. groups_open es (xs ++ ys)) o ≡ None
    here more None q = refl
    here more (Some es) q = more es q

-- the groups that are open behind tokens are those of their pieces
pieces_groups : (os : List Opening) (at n : ℕ) (ps : List Piece) (rest : List ℕ) (ds : List Delimiter)
    → groups_open (delimiters os) (tokens_onto at ps rest) ≡ Some ds
    → option_map delimiters (openings os n ps) ≡ Some ds
pieces_groups os at n [] rest ds e = e
pieces_groups os at n (p ∷ ps) rest ds e =
    here (λ qs h. pieces_groups qs (at + length p.chars) (n + length p.chars) ps rest ds h) (open_behind os p.kind n)
    refl
  where
    here : ((qs : List Opening) → groups_open (delimiters qs) (tokens_onto (at + length p.chars) ps rest) ≡ Some ds
        → option_map delimiters (openings qs (n + length p.chars) ps) ≡ Some ds) →
        (o : Option (List Opening)) → open_behind os p.kind n ≡ o
        → option_map delimiters (option_and_then (λ qs. openings qs (n + length p.chars) ps) o) ≡ Some ds
    here more None q =
        let first = piece_groups os p.kind n p.chars (onto ps rest) (span_at at (length p.chars))
        ∙ ap (option_map delimiters) q in
        let wrong : None ≡ Some ds =
        sym (none_append (delimiters os)
        (edged_at (span_at at (length p.chars)) (tokens_before p.kind p.chars (onto ps rest)))
        (tokens_onto (at + length p.chars) ps rest) first) ∙ e in
        cc
    here more (Some qs) q =
        let first = piece_groups os p.kind n p.chars (onto ps rest) (span_at at (length p.chars))
        ∙ ap (option_map delimiters) q in
        more qs (sym (open_append (delimiters os) (delimiters qs)
        (edged_at (span_at at (length p.chars)) (tokens_before p.kind p.chars (onto ps rest)))
        (tokens_onto (at + length p.chars) ps rest) first) ∙ e)

none_open : (o : Option (List Opening)) → option_map delimiters o ≡ Some [] → o ≡ Some []
none_open None e = cc
none_open (Some []) e = refl
none_open (Some (x ∷ xs)) e = let wrong : x.delimiter ∷ delimiters xs ≡ [] = cc in cc

forest_reaches : (base : ℕ) (text : List ℕ) (ts : List Spanned) (f : IsForest base text ts)
    → Reaches text f.pieces [] []
forest_reaches base text ts f = record {
  covers = f.cover;
  opened = none_open _ (pieces_groups [] base 0 f.pieces [] []
      (ap (groups_open []) (forest_tokens base text ts f) ∙ edged_groups [] ts ∙ f.matched));
}

pub no_forest : (base : ℕ) (text : List ℕ) (place : LineColumn) (ts : List Spanned) → IsLexicalFault text place
    → IsForest base text ts → ⊥
no_forest base text place ts (n, f, e) k =
    let a = faulted text n f in
    let same = one_halt text a.pieces k.pieces a.rest [] a.groups [] a.halts
    (end_halts text k.pieces [] (forest_reaches base text ts k)) in
    a.more same.rest same.groups
