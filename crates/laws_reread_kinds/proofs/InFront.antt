-- Attributes in front of a statement's expression, and the expression that is held, which has taken them.
use Rattle.std.proofs.Common.{◌≡◌, [], List, ◌++◌, refl, sym, ap, ◌∙◌}
use Rattle.std.specs.Prelude.{Bool, true, false, cond, nat_eq}
use Rattle.std.proofs.lemmas.Bool.{false≢true}
use Rattle.proc_macro2.specs.Token.{Token}
use Rattle.syn_grammar.specs.Kind.{Plain, InStatement, ExprAttributed, ExprCast}
use Rattle.syn_grammar.specs.Kind.{OuterAttribute, OuterAttributes}
use Rattle.syn_grammar.specs.Tree.{Tree, Pair, End, Again, Final, Group, Node, Whole, Alone, Front, Back, Infix, flat}
use Rattle.syn_grammar.specs.Gram.{ref}
use Rattle.syn_grammar.specs.Table.{table}
use Rattle.syn_grammar.specs.Derives.{Derives}
use Rattle.syn_grammar.specs.Forms.{ends_there, inside, is_range, level}
use Rattle.syn_grammar.specs.Kept.{attributed, held, kept}
use Rattle.syn_grammar.specs.Normal.{apart_item, formed, normal, passed, stands_behind}
use Rattle.syn_grammar.specs.Parens.{in_parens, may_lack}
use Rattle.syn_grammar.proofs.Settled.{normal_twice}
use Rattle.laws_ranges.proofs.Given.{attributed_flat}
use Rattle.laws_reread_kinds.proofs.Ends.{ends_read}
use Rattle.laws_reread_kinds.proofs.Fits.{Fits}

-- what stands in front
abbrev pub is_attributes : Tree → Bool
is_attributes End = true
is_attributes (Again t b) = true
is_attributes _ = false

pub attributes_read : (a : Tree) (r : List Token) → Derives a (table OuterAttributes) r → is_attributes a ≡ true
unfolding table
attributes_read End r d = refl
attributes_read (Again t b) r d = refl
attributes_read _ r d = absurd d

attributes_in : (a : Tree) → Fits a (table OuterAttributes) → is_attributes a ≡ true
unfolding table
attributes_in End f = refl
attributes_in (Again t b) f = refl
attributes_in _ f = absurd f

pub attributes_fit : (a : Tree) → Fits (Node OuterAttributes a) (ref OuterAttributes) → is_attributes a ≡ true
attributes_fit a f = attributes_in a f.3

pub attributes_kept : (a : Tree) → is_attributes a ≡ true → is_attributes (kept a) ≡ true
attributes_kept End e = refl
attributes_kept (Again t b) e = refl
attributes_kept _ e = absurd (false≢true e)

pub attributes_normal : (a : Tree) → is_attributes a ≡ true → is_attributes (normal a) ≡ true
attributes_normal End e = refl
attributes_normal (Again t b) e = refl
attributes_normal _ e = absurd (false≢true e)

pub attribute_apart : (t : Tree) (r : List Token) → Derives t (ref OuterAttribute) r
    → apart_item (normal (kept t)) ≡ normal (kept t)
attribute_apart (Node k x) r d = refl
attribute_apart _ r d = absurd d

-- the expression that has taken them
abbrev pub given_to : Tree → Tree → Tree
given_to (Again t b) x = attributed (Pair t (Node OuterAttributes b)) x
given_to _ x = x

pub given_flat : (a x : Tree) → is_attributes a ≡ true → flat (given_to a x) ≡ flat a ++ flat x
given_flat End x e = refl
given_flat (Again t b) x e = attributed_flat (Pair t (Node OuterAttributes b)) x
given_flat _ x e = absurd (false≢true e)

-- A range is put in parentheses behind them; what stands in these is in normal form there too.
abbrev pub is_ranged : Tree → Tree → Bool
is_ranged (Again t b) x = is_range x
is_ranged _ x = false

abbrev pub enclosed : Bool → Tree → Tree
enclosed b x = cond b (in_parens x) x

abbrev form_in : Tree → Tree
form_in (Whole x) = x
form_in x = x

formed_twice : (x : Tree) → formed InStatement [] (formed InStatement [] x) ≡ formed InStatement [] x
unfolding stands_behind
formed_twice x = ap form_in (normal_twice InStatement (Whole x))

abbrev inside_parens : Tree → Tree
inside_parens (Front k y (Alone j (Group d (Final (Node l (Whole x)))))) = x
inside_parens x = x

pub settled_inside : (a x : Tree) → is_ranged a x ≡ true
    → given_to (normal a) (in_parens (formed InStatement [] x)) ≡ formed InStatement [] (given_to a x)
    → formed Plain [] (formed InStatement [] x) ≡ formed InStatement [] x
unfolding level may_lack inside passed stands_behind
settled_inside (Again t b) x e g =
    ap inside_parens (ap (formed InStatement []) g
    ∙ formed_twice (given_to (Again t b) x) ∙ sym g)
settled_inside _ x e g = absurd (false≢true e)

-- it ends a statement by itself if it does without them
ends_attributed : (a x : Tree) → ends_there InStatement (attributed a x) ≡ true → ends_there InStatement x ≡ true
ends_attributed a (Infix l k y r) e = go (nat_eq (level k) 3) e
  where
    go : (b : Bool)
        → ends_there InStatement (cond b (Front ExprAttributed a (Infix l k y r)) (Infix (attributed a l) k y r)) ≡ true
        → false ≡ true
    go true e = e
    go false e = e
ends_attributed a (Back l ExprCast y) e = e
ends_attributed a _ e = e

pub ends_given : (a x : Tree) → ends_there InStatement (given_to a x) ≡ true → ends_there InStatement x ≡ true
ends_given (Again t b) x e = ends_attributed (Pair t (Node OuterAttributes b)) x e
ends_given _ x e = e

ends_whole : (a x : Tree) → ends_there InStatement x ≡ true → attributed a (kept x) ≡ Front ExprAttributed a (kept x)
ends_whole a (Alone k y) e = refl
ends_whole a (Front k y x) e = refl
ends_whole a (Back l k y) e = absurd (false≢true e)
ends_whole a (Infix l k y r) e = absurd (false≢true e)
ends_whole a _ e = absurd (false≢true e)

pub given_ends : (a x : Tree) → is_attributes a ≡ true → ends_there InStatement x ≡ true
    → ends_there InStatement (formed InStatement [] (given_to (kept a) (kept x))) ≡ true
unfolding held
given_ends End x i e = ends_read x e
given_ends (Again t b) x i e =
    ap (λ z. ends_there InStatement (formed InStatement [] z))
    (ends_whole (Pair (kept t) (Node OuterAttributes (kept b))) x e)
    ∙ ends_read (Front ExprAttributed (Pair t (Node OuterAttributes b)) x) e
given_ends _ x i e = absurd (false≢true i)
