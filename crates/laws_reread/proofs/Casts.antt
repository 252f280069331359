-- The own part of a cast is read wherever its form may stand: what follows is no <, or the type ends in no name that
-- takes arguments.
use Rattle.std.proofs.Common.{◌≡◌, List, ◌∷◌, ◌++◌, refl, sym, ap, ◌∙◌, subst}
use Rattle.std.specs.Prelude.{Bool, true, false, ◌==◌, ◌&&◌, ◌||◌, cond, Some, None, codes}
use Rattle.std.proofs.lemmas.Bool.{eqb-true}
use Rattle.std.proofs.lemmas.Slice.Eq.{bytes_eq-Decides}
use Rattle.proc_macro2.specs.Token.{Token, Ident, Punct}
use Rattle.rust_leaf.specs.declared.punct.Spacing.{Spacing}
use Rattle.syn_grammar.specs.Kind.{Position, Plain, InCondition, InArm, InStatement, ExprCast}
use Rattle.syn_grammar.specs.Tree.{Tree, AWord, Pair, flat}
use Rattle.syn_grammar.specs.Look.{seen, sees, behind, ◌then◌, no}
use Rattle.syn_grammar.specs.Say.{marks, parenthesis, bracket}
use Rattle.syn_grammar.specs.Expressions.{postfix_stands}
use Rattle.syn_grammar.specs.Table.{table}
use Rattle.syn_grammar.specs.Derives.{Derives}
use Rattle.syn_grammar.specs.Kept.{kept}
use Rattle.syn_grammar.specs.Normal.{normal}
use Rattle.syn_grammar.specs.Forms.{back}
use Rattle.syn_grammar.specs.Parens.{ends_in_name}
use Rattle.laws_binding.proofs.Levels.{not_true}
use Rattle.laws_reread_expressions.specs.Behind.{BehindOperand}
use Rattle.laws_reread_expressions.specs.Formed.{IsBehind}
use Rattle.laws_reread_expressions.proofs.Bools.{or_none, or_parts}
use Rattle.laws_reread_expressions.proofs.Names.{colons, end}
use Rattle.laws_reread_kinds.specs.After.{After}
use Rattle.laws_reread_kinds.proofs.Readies.{OwnReady}
use Rattle.laws_reread.proofs.Lesser.{before_less}
use Rattle.laws_reread.proofs.Starting.{no_arrow}

as_back : (p : Position) (us : List Token) → back p (Ident (codes "as") ∷ us) ≡ Some ExprCast
unfolding back
as_back Plain us = refl
as_back InCondition us = refl
as_back InArm us = refl
as_back InStatement us = refl

pub goes_on_as : (p : Position) (y : Tree) (ts : List Token) → Derives y (table ExprCast) ts
    → back p (flat y ++ ts) ≡ Some ExprCast
unfolding table
goes_on_as p (Pair (AWord cs) z) ts d =
    ap (λ v. back p (Ident v ∷ (flat z ++ ts))) (sym ((bytes_eq-Decides (codes "as") cs).0 d.0))
    ∙ as_back p (flat z ++ ts)
goes_on_as p (Pair _ z) ts d = absurd d.0
goes_on_as p _ ts d = absurd d

neither : (a b : Bool) → (a || b) ≡ false → (a ≡ false) × (b ≡ false)
neither true b e = cc
neither false b e = (refl, e)

-- nothing goes on with the type
type_ends : (y : Tree) (ts : List Token) → sees (no (marks "<=") then marks "<") ts ≡ false
    → BehindOperand ExprCast y ts → After ExprCast y ts
type_ends y ts l m =
    let a = neither (sees postfix_stands ts) _ (not_true _ m.1) in
    let c = colons ts (end ts m.0).colon in
    let q = or_parts (marks "?" ts) _ (or_parts _ _ a.0).1 in
    let g = or_none (behind (marks "::" ts) (marks "<")) _ (ap (λ o. seen (behind o (marks "<"))) c) l in
    (a.0, (ap seen c, (g, ((or_parts (parenthesis ts) (bracket ts) q.1).0, ((no_arrow ts m.0).0, tt)))))

and_none : (a b : Bool) → b ≡ true → (a && b) ≡ false → a ≡ false
and_none false b e f = refl
and_none true true e f = cc
and_none true false e f = cc

-- or a < does, and the type ends in no name
record Less (ts : List Token) : Type 0 where
  spacing : Spacing
  us : List Token
  is : ts ≡ Punct 60 spacing ∷ us

mark_seen : (b : Bool) (ts : List Token) → seen (cond b (Some ts) None) ≡ true → b ≡ true
mark_seen true ts e = refl
mark_seen false ts e = cc

no_mark : (b : Bool) (ts : List Token) → seen (behind (cond b None (Some ts)) (marks "<")) ≡ true
    → sees (marks "<") ts ≡ true
no_mark true ts e = cc
no_mark false ts e = e

less_is : (ts : List Token) → sees (marks "<") ts ≡ true → Less ts
less_is (Punct c i ∷ ts) e = record {
  spacing = i;
  us = ts;
  is = ap (λ d. Punct d i ∷ ts) (eqb-true c 60 (mark_seen (c == 60) ts e));
}
less_is _ e = cc

cast_read : (y : Tree) → OwnReady ExprCast y → (ts : List Token) → BehindOperand ExprCast y ts
    → Derives y (table ExprCast) ts
cast_read y w ts m = go (sees (no (marks "<=") then marks "<") ts) refl
  where
    go : (b : Bool) → sees (no (marks "<=") then marks "<") ts ≡ b → Derives y (table ExprCast) ts
    go false e = (w ts (type_ends y ts e m)).0
    go true e =
        let l = less_is ts (no_mark (sees (marks "<=") ts) ts e) in
        let a = neither (sees postfix_stands ts) _ (not_true _ m.1) in
        let n : ends_in_name (flat y) ≡ false =
        and_none (ends_in_name (flat y)) _ e a.1 in
        subst (Derives y (table ExprCast)) (sym l.is)
        (before_less l.spacing l.us y (w _ (refl, (refl, (refl, (refl, (refl, tt)))))).0 n)

pub cast_part : (y : Tree) → OwnReady ExprCast y → flat (normal (kept y)) ≡ flat y
    → IsBehind (BehindOperand ExprCast y) ExprCast y
cast_part y w n = record {
  goes_on = λ p ts s m. goes_on_as p y ts (cast_read y w ts m);
  read = λ ts m. cast_read y w ts m;
  held = n;
}
