-- Single expressions, by computation: how they bind, whatever their own parts are.
use Rattle.std.proofs.Common.{◌≡◌, List, [], ◌∷◌, refl, sym}
use Rattle.std.specs.Prelude.{true, false, codes}
use Rattle.std.proofs.lemmas.Bool.{false≢true}
use Rattle.proc_macro2.specs.Token.{Token, Opens, Ident, Literal, Punct}
use Rattle.proc_macro2.specs.declared.delimiter.Delimiter.TheVariants.{Brace}
use Rattle.rust_leaf.specs.declared.punct.Spacing.TheVariants.{Alone as Apart}
use Rattle.syn_grammar.specs.Kind.{Plain, InCondition, InStatement, ExprPath, ExprIf, ExprField, ExprTry}
use Rattle.syn_grammar.specs.Kind.{ExprCast, ExprUnary, ExprReference, ExprReturn, ExprClosure, ExprRange, ExprAssign}
use Rattle.syn_grammar.specs.Kind.{ExprCompare, ExprSum, ExprProduct, ExprOr, ExprAnd, ExprLet, ExprAttributed}
use Rattle.syn_grammar.specs.Tree.{Tree, Alone, Front, Back, Infix}
use Rattle.syn_grammar.specs.Words.{is_bool, is_name, is_plain_name, is_path_keyword}
use Rattle.rust_leaf.specs.Keywords.{is_reserved}
use Rattle.syn_grammar.specs.Table.{table}
use Rattle.syn_grammar.specs.Ranks.{rank, forms, top}
use Rattle.syn_grammar.specs.Forms.{front, back, has_right, level, inside, stands_left, chains, takes}
use Rattle.syn_grammar.specs.Run.{Refused, tower, reads, word_at, literal_at, mark_at, lifetime_at, group_at}
use Rattle.laws_edges.specs.Binds.{Binds, goes_no_further}

module _ (u v w y z : Tree) where
  abbrev a : Tree
  a = Alone ExprPath u

  abbrev b : Tree
  b = Alone ExprPath v

  abbrev c : Tree
  c = Alone ExprPath w

  -- a + b * c, and a - b - c from the left
  product : Binds Plain (Infix a ExprSum y (Infix b ExprProduct z c))
  unfolding level inside
  product = ((refl, refl, refl), tt, refl, ((refl, refl, refl), tt, refl, tt))

  from_left : Binds Plain (Infix (Infix a ExprSum y b) ExprSum z c)
  unfolding level inside
  from_left = ((refl, refl, refl), ((refl, refl, refl), tt, refl, tt), refl, tt)

  not_from_right : Binds Plain (Infix a ExprSum y (Infix b ExprSum z c)) → ⊥
  unfolding level inside
  not_from_right d = absurd (false≢true d.2)

  -- a = b = c from the right
  assigned : Binds Plain (Infix a ExprAssign y (Infix b ExprAssign z c))
  unfolding level inside
  assigned = ((refl, refl, refl), tt, refl, ((refl, refl, refl), tt, refl, tt))

  -- a < b < c is none
  chained_left : Binds Plain (Infix (Infix a ExprCompare y b) ExprCompare z c) → ⊥
  unfolding level inside
  chained_left d = absurd (false≢true (sym d.0.1))

  chained_right : Binds Plain (Infix a ExprCompare y (Infix b ExprCompare z c)) → ⊥
  unfolding level inside
  chained_right d = absurd (false≢true d.2)

  -- a..b..c is none
  ranges_left : Binds Plain (Infix (Infix a ExprRange y b) ExprRange z c) → ⊥
  unfolding level inside
  ranges_left d = absurd (false≢true d.0.0)

  ranges_right : Binds Plain (Infix a ExprRange y (Infix b ExprRange z c)) → ⊥
  unfolding level inside
  ranges_right d = absurd (false≢true d.2)

  -- return + a is a sum, and return a + b jumps with one
  returned : Binds Plain (Infix (Alone ExprReturn u) ExprSum y a)
  unfolding level inside
  returned = ((refl, refl, refl), tt, refl, tt)

  returns_sum : Binds Plain (Front ExprReturn u (Infix a ExprSum y b))
  unfolding level inside
  returns_sum = (refl, ((refl, refl, refl), tt, refl, tt))

  no_returned : Binds Plain (Infix (Front ExprReturn u a) ExprSum y b) → ⊥
  unfolding level inside
  no_returned d = absurd (false≢true d.0.2)

  -- return .. == a compares: the range can't go on
  range_returned : Binds Plain (Infix (Front ExprReturn u (Alone ExprRange v)) ExprCompare y a)
  unfolding level inside
  range_returned = ((refl, refl, refl), (refl, tt), refl, tt)

  -- |x| a + b is a closure
  closure : Binds Plain (Front ExprClosure u (Infix a ExprSum y b))
  unfolding level inside
  closure = (refl, ((refl, refl, refl), tt, refl, tt))

  no_closure : Binds Plain (Infix (Front ExprClosure u a) ExprSum y b) → ⊥
  unfolding level inside
  no_closure d = absurd (false≢true d.0.2)

  -- -a.b negates a field
  negated : Binds Plain (Front ExprUnary u (Back a ExprField y))
  unfolding level inside
  negated = (refl, ((refl, refl, refl), tt))

  no_field : Binds Plain (Back (Front ExprUnary u a) ExprField y) → ⊥
  unfolding level inside
  no_field d = absurd (false≢true d.0.0)

  -- &a as T casts a reference
  cast : Binds Plain (Back (Front ExprReference u a) ExprCast y)
  unfolding level inside
  cast = ((refl, refl, refl), (refl, tt))

  no_cast : Binds Plain (Front ExprReference u (Back a ExprCast y)) → ⊥
  unfolding level inside
  no_cast d = absurd (false≢true d.0)

  -- a as u8 < b would bind: it is the own part of a cast that takes the <, as a type's
  cast_compared : Binds Plain (Infix (Back a ExprCast y) ExprCompare z b)
  unfolding level inside
  cast_compared = ((refl, refl, refl), ((refl, refl, refl), tt), refl, tt)

  -- a || b = .. == c compares, from the left: on the left edge of b = .. == c stands an assignment, which no || takes
  -- in
  ranged : Binds Plain (Infix (Infix (Infix a ExprOr u b) ExprAssign v (Alone ExprRange w)) ExprCompare y c)
  unfolding level inside
  ranged = (
    (refl, refl, refl),
    ((refl, refl, refl), ((refl, refl, refl), tt, refl, tt), refl, tt),
    refl,
    tt,
  )

  not_ranged : Binds Plain (Infix a ExprOr u (Infix (Infix b ExprAssign v (Alone ExprRange w)) ExprCompare y c)) → ⊥
  unfolding level inside
  not_ranged d = absurd (false≢true d.2)

  -- let p = a && b joins a let and b
  let_joined : Binds Plain (Infix (Front ExprLet u a) ExprAnd y b)
  unfolding level inside
  let_joined = ((refl, refl, refl), (refl, tt), refl, tt)

  not_let : Binds Plain (Front ExprLet u (Infix a ExprAnd y b)) → ⊥
  unfolding level inside
  not_let d = absurd (false≢true d.0)

  -- return? tries a jump without operand, and |x| a? is a closure
  jump_tried : Binds Plain (Back (Alone ExprReturn u) ExprTry y)
  unfolding level inside
  jump_tried = ((refl, refl, refl), tt)

  not_tried : Binds Plain (Back (Front ExprClosure u a) ExprTry y) → ⊥
  unfolding level inside
  not_tried d = absurd (false≢true d.0.2)

  -- attributes belong to the operand that they stand in front of
  attributed : Binds Plain (Infix (Front ExprAttributed u a) ExprSum y b)
  unfolding level inside
  attributed = ((refl, refl, refl), (refl, tt), refl, tt)

  not_attributed : Binds Plain (Front ExprAttributed u (Infix a ExprSum y b)) → ⊥
  unfolding level inside
  not_attributed d = absurd (false≢true d.0)

  -- if .. {} + a is no sum at a statement, and is one elsewhere; at a statement if .. {}? is one form
  no_statement : Binds InStatement (Infix (Alone ExprIf u) ExprSum y a) → ⊥
  unfolding level inside
  no_statement d = absurd (false≢true d.0.0)

  elsewhere : Binds Plain (Infix (Alone ExprIf u) ExprSum y a)
  unfolding level inside
  elsewhere = ((refl, refl, refl), tt, refl, tt)

  tried : Binds InStatement (Back (Alone ExprIf u) ExprTry y)
  unfolding level inside
  tried = ((refl, refl, refl), tt)

  -- before a brace a path ends in a condition, and nowhere else: there it goes on, as a struct
  condition : (ts : List Token) → goes_no_further InCondition a (back InCondition (Opens Brace ∷ ts)) ≡ true
  unfolding level inside back
  condition ts = refl

  struct : (ts : List Token) → goes_no_further Plain a (back Plain (Opens Brace ∷ ts)) ≡ false
  unfolding level inside back
  struct ts = refl

-- 1 as u8 < 2 is none: the < begins the arguments of the type
lesser : reads (tower Plain 0)
    (Literal (codes "1") ∷ Ident (codes "as") ∷ Ident (codes "u8") ∷ Punct 60 Apart ∷ Literal (codes "2") ∷ [])
    ≡ Refused
unfolding reads table top forms rank front back has_right level inside stands_left chains takes word_at literal_at
    mark_at
    lifetime_at group_at is_bool is_name is_plain_name is_path_keyword is_reserved
lesser = refl
