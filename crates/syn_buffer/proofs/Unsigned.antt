-- In a stream no literal begins with a minus.
use Rattle.std.proofs.Common.{◌≡◌, ℕ, zero, suc, ◌<◌, List, [], ◌∷◌, ◌++◌, length, get_or, refl, sym, ap, subst, ◌∙◌}
use Rattle.std.proofs.Common.{arith}
use Rattle.std.specs.Prelude.{Bool, true, false, ◌&&◌, ◌==◌, not}
use Rattle.std.proofs.lemmas.Bool.{eqb-true}
use Rattle.rust_lex.specs.declared.piece.LiteralKind.{LiteralKind}
use Rattle.rust_lex.specs.Chars as lex
use Rattle.rust_lex.specs.Piece.{begins_mark, IsLiteral}
use Rattle.rust_lex.specs.declared.piece.PieceKind.TheVariants as piece
use Rattle.rust_lex.specs.Scan.{Ends}
use Rattle.rust_lex.proofs.Complete.{complete, mark_scanned}
use Rattle.rust_leaf.specs.Minus.{minus, starts_with_minus}
use Rattle.rust_leaf.specs.Parse.{IsLiteralLeaf}
use Rattle.proc_macro2.specs.Leaf.{IsLeaf, AreLeaves}
use Rattle.proc_macro2.specs.Flat.{group_tokens, spanned, tree_tokens, trees_tokens}
use Rattle.proc_macro2.specs.Token.{Token, Opens, Closes, Ident, Literal, Punct, Spanned, plain}
use Rattle.proc_macro2.specs.declared.tree.Group.{Group}
use Rattle.proc_macro2.specs.declared.tree.TokenTree.{TokenTree}
use Rattle.syn_buffer.specs.Unsigned.{are_unsigned, is_unsigned}
use Rattle.syn_buffer.proofs.Laid.{both}

-- a minus is a mark, and no literal begins with one
minus_begins : (cs : List ℕ) → begins_mark (minus ∷ cs) ≡ true
unfolding lex.is_mark_but_tick
minus_begins cs = refl

unsigned : (k : LiteralKind) (cs : List ℕ) → IsLiteral k (minus ∷ cs) [] → ⊥
unsigned k cs l =
    let found = complete (piece.Literal k) (minus ∷ cs) [] l in
    let same : Ends piece.Mark (cs ++ [])
    ≡ Ends (piece.Literal k) [] = sym (mark_scanned minus (cs ++ []) (minus_begins (cs ++ []))) ∙ found in
    cc

leaf_unsigned : (cs : List ℕ) → IsLiteralLeaf cs → not (starts_with_minus cs) ≡ true
leaf_unsigned [] l = refl
leaf_unsigned (c ∷ cs) l = by_first (c == minus) refl
  where
    by_first : (b : Bool) → (c == minus) ≡ b → not (c == minus) ≡ true
    by_first false e = ap not e
    by_first true e = absurd (unsigned l.0 cs (subst (λ (d : ℕ). IsLiteral l.0 (d ∷ cs) []) (eqb-true c minus e) l.1))

token_unsigned : (t : Token) → IsLeaf t → is_unsigned t ≡ true
token_unsigned (Opens d) l = refl
token_unsigned (Closes d) l = refl
token_unsigned (Ident cs) l = refl
token_unsigned (Literal cs) l = leaf_unsigned cs l
token_unsigned (Punct c spacing) l = refl

and_both : (a b : Bool) → a ≡ true → b ≡ true → (a && b) ≡ true
and_both true b e f = f
and_both false b e f = cc

pub leaves_unsigned : (ts : List Spanned) → AreLeaves (plain ts) → are_unsigned ts ≡ true
leaves_unsigned [] l = refl
leaves_unsigned (t ∷ ts) l = and_both _ _ (token_unsigned t.token l.0) (leaves_unsigned ts l.1)

front_unsigned : (xs ys : List Spanned) → are_unsigned (xs ++ ys) ≡ true → are_unsigned xs ≡ true
front_unsigned [] ys h = refl
front_unsigned (x ∷ xs) ys h =
    let p = both (is_unsigned x.token) _ h in
    and_both _ _ p.0 (front_unsigned xs ys p.1)

back_unsigned : (xs ys : List Spanned) → are_unsigned (xs ++ ys) ≡ true → are_unsigned ys ≡ true
back_unsigned [] ys h = h
back_unsigned (x ∷ xs) ys h = back_unsigned xs ys (both (is_unsigned x.token) _ h).1

-- of the trees each
pub part_unsigned : (ts : List TokenTree) (i : ℕ) (d : TokenTree) → i < length ts →
    are_unsigned (trees_tokens ts) ≡ true → are_unsigned (tree_tokens (get_or ts i d)) ≡ true
part_unsigned [] i d l h = absurd (omega arith)
part_unsigned (t ∷ ts) zero d l h = front_unsigned (tree_tokens t) (trees_tokens ts) h
part_unsigned (t ∷ ts) (suc i) d l h =
    part_unsigned ts i d (omega arith) (back_unsigned (tree_tokens t) (trees_tokens ts) h)

-- a group's inside
pub inside_unsigned : (g : Group) → are_unsigned (group_tokens g) ≡ true → are_unsigned g.stream ≡ true
inside_unsigned g h = front_unsigned g.stream (spanned (Closes g.delimiter) g.span ∷ []) h
