-- What the own parts of forms decide of the edges of operands.
use Rattle.std.proofs.Common.{◌≡◌, List, ◌++◌, refl, sym, ap, ◌∙◌, subst}
use Rattle.std.specs.Prelude.{true, false, not, Some}
use Rattle.proc_macro2.specs.Token.{Token}
use Rattle.syn_grammar.specs.Kind.{Kind, Position, ExprCall, ExprField, ExprCast}
use Rattle.syn_grammar.specs.Name.{the_name, same_part}
use Rattle.syn_grammar.specs.Part.{has}
use Rattle.syn_grammar.specs.Tree.{Tree, Front, Back, Infix, flat}
use Rattle.syn_grammar.specs.Look.{sees}
use Rattle.syn_grammar.specs.Table.{table}
use Rattle.syn_grammar.specs.Forms.{back, inside}
use Rattle.syn_grammar.specs.Parens.{ends_in_name}
use Rattle.syn_grammar.specs.Kept.{kept}
use Rattle.syn_grammar.specs.Normal.{normal}
use Rattle.syn_grammar.specs.Derives.{Derives, Bound}
use Rattle.laws_binding.specs.Spelled.{Spelled}
use Rattle.laws_binding.proofs.Casts.{cast_ends}
use Rattle.laws_binding.proofs.Ended.{behind_cast}
use Rattle.laws_binding.proofs.Fields.{numbered}
use Rattle.laws_binding.proofs.Parted.{in_parts}
use Rattle.laws_binding.proofs.Sights.{begins, stands}
use Rattle.laws_binding.proofs.Sights.{is_postfix as is_postfix_seen}
use Rattle.laws_edges.specs.Classes.{is_postfix}
use Rattle.laws_edges.specs.Parts.{last_form, may_be_last, PartsStand, lesser}

-- behind a field's name no call stands
field_last : (q r : Position) (rest : List Token) (y : Tree) → Derives y (table ExprField) rest
    → back q (flat y ++ rest) ≡ Some ExprField → back r rest ≡ Some ExprCall → has the_name y ≡ false
unfolding same_part
field_last q r rest y d e f = subst (λ v. has the_name v ≡ false) (sym (numbered q r rest y d e f).is) refl

-- behind a cast no postfix form stands
postfix_same : (k : Kind) → is_postfix k ≡ is_postfix_seen k
postfix_same ExprCall = refl
postfix_same _ = refl

cast_last : (k : Kind) (r : Position) (rest : List Token) (y : Tree) → Derives y (table ExprCast) rest
    → back r rest ≡ Some k → not (is_postfix k) ≡ true
cast_last k r rest y d e = ap not (postfix_same k ∙ behind_cast k r rest y d e)

last_stands : (j k : Kind) (q r : Position) (l y : Tree) (rest : List Token) → Derives y (table j) rest
    → back q (flat y ++ rest) ≡ Some j → back r rest ≡ Some k → may_be_last k (Back l j y) ≡ true
last_stands ExprCast k q r l y rest d e f = cast_last k r rest y d f
last_stands ExprField ExprCall q r l y rest d e f = ap not (field_last q r rest y d e f)
last_stands ExprField _ q r l y rest d e f = refl
last_stands _ k q r l y rest d e f = refl

lasts : (x : Tree) (k : Kind) (q r : Position) (rest : List Token) → Spelled q x rest → back r rest ≡ Some k
    → may_be_last k (last_form x) ≡ true
lasts (Front j y x) k q r rest s e = lasts x k (inside q j) r rest s.3 e
lasts (Infix l j y x) k q r rest s e = lasts x k (inside q j) r rest s.5 e
lasts (Back l j y) k q r rest s e = last_stands j k q r l y rest s.1 s.0 e
lasts _ k q r rest s e = refl

stand : (x : Tree) (p : Position) (rest : List Token) → Spelled p x rest → PartsStand p x
stand (Front k y x) p rest s = (begins p k _ s.0, stand x (inside p k) rest s.3)
stand (Back l k y) p rest s = (stands p k _ s.0, lasts l k p p _ s.4 s.0, stand l p _ s.4)
stand (Infix l k y r) p rest s = (lasts l k p p _ s.4 s.0, stand l p _ s.4, stand r (inside p k) rest s.5)
stand _ p rest s = tt

pub parts_stand : (p : Position) (x : Tree) (rest : List Token) → Bound p x rest → PartsStand p x
parts_stand p x rest d = stand x p rest (in_parts x p rest d).1

pub no_lesser : (p : Position) (l y : Tree) (rest : List Token) → Bound p (Back l ExprCast y) rest
    → sees lesser rest ≡ true → ends_in_name (flat (normal (kept y))) ≡ false
no_lesser p l y rest d e = cast_ends y rest d.1 e
