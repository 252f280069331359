-- The laws: a spelled expression is printed with each operand in parentheses, so in its normal form, and so it is read.
use Rattle.std.proofs.Common.{◌≡◌, List, [], ◌∷◌, ◌++◌, refl, sym, ap, ◌∙◌}
use Rattle.std.specs.Prelude.{true}
use Rattle.proc_macro2.specs.Token.{Token, Opens}
use Rattle.proc_macro2.specs.declared.delimiter.Delimiter.TheVariants.{Brace}
use Rattle.syn_grammar.specs.Kind.{Position, Plain, InCondition, InArm, InStatement, Expression}
use Rattle.syn_grammar.specs.Tree.{Tree, Node, Whole, flat}
use Rattle.syn_grammar.specs.Look.{sees}
use Rattle.syn_grammar.specs.Say.{at}
use Rattle.syn_grammar.specs.Gram.{operand, ref}
use Rattle.syn_grammar.specs.Derives.{Derives}
use Rattle.syn_grammar.specs.Read.{IsRead}
use Rattle.syn_grammar.specs.Kept.{kept}
use Rattle.syn_grammar.specs.Forms.{back, ends_there}
use Rattle.syn_grammar.specs.Normal.{passed, stands_behind, normal, normal_in, formed}
use Rattle.syn_grammar.proofs.Theorems.{one}
use Rattle.laws_reread_expressions.specs.Behind.{MayFollow}
use Rattle.laws_reread_kinds.specs.After.{EndsThere, is_closed}
use Rattle.laws_reread_kinds.proofs.Ends.{closed_kept, ends_back}
use Rattle.laws_reread_kinds.proofs.Fits.{IsFormed}
use Rattle.laws_reread.proofs.Else as Else
use Rattle.laws_reread.proofs.Ended as Ended
use Rattle.laws_reread.proofs.Forms.{read_formed}
use Rattle.laws_reread.proofs.Settled.{settles}
use Rattle.laws_reread.proofs.Wholes.{formed_twice}
use Rattle.laws_reread_built.specs.Spelled.{IsSpelled, parenthesized}
use Rattle.laws_reread_built.proofs.Dressed.{dressed_formed, dressed_parenthesized}
use Rattle.laws_reread_built.proofs.Laid.{Laid}
use Rattle.laws_reread_built.proofs.Placed.{Placed}
use Rattle.laws_reread_built.proofs.Read.{parens_laid, read, ready}
use Rattle.laws_reread_built.proofs.Redressed.{redressed}

-- in normal form
abbrev in_normal_form : Position → Tree → Tree
in_normal_form p x = formed p (stands_behind p) x

normal_placed : (p : Position) (x : Tree) → Placed (in_normal_form p x)
normal_placed p x = record {
  place = p;
  behind = stands_behind p;
  settled = settles (in_normal_form p x) p (stands_behind p) (formed_twice p x);
}

normal_laid : (p : Position) (x : Tree) → IsSpelled x → Laid (in_normal_form p x)
normal_laid p x i =
    redressed x (parenthesized x) (in_normal_form p x) (dressed_parenthesized x) (dressed_formed x p (stands_behind p))
    (parens_laid x i) (normal_placed p x)

normal_again : (p : Position) (x : Tree) (l : Laid (in_normal_form p x)) → IsFormed p l.tree
normal_again p x l = ap (formed p (stands_behind p)) l.kept_is ∙ formed_twice p x ∙ sym l.kept_is

-- where what is printed is read, the normal form is read back
read_normal : (p : Position) (x : Tree) (rest : List Token) (l : Laid (in_normal_form p x))
    → Derives (Whole l.tree) (operand p 0) rest
    → IsRead (Expression p) (flat (normal_in p (Node (Expression Plain) (Whole x))) ++ rest)
    (normal_in p (Node (Expression Plain) (Whole x))) rest
unfolding passed
read_normal p x rest l d = read p (in_normal_form p x) l rest d

pub read_back : (p : Position) (x : Tree) (rest : List Token) → IsSpelled x → MayFollow p rest
    → IsRead (Expression p) (flat (normal_in p (Node (Expression Plain) (Whole x))) ++ rest)
    (normal_in p (Node (Expression Plain) (Whole x))) rest
read_back p x rest i m =
    let l = normal_laid p x i in
    read_normal p x rest l
    (read_formed p l.tree rest (normal_again p x l) l.fits l.operands (ready (in_normal_form p x) l) m)

-- One that ends an arm or a statement by itself, before all but ., ? and else.
pub read_ended : (p : Position) (x : Tree) (rest : List Token) → IsSpelled x
    → EndsThere p (normal_in p (Node (Expression Plain) (Whole x))) rest
    → IsRead (Expression p) (flat (normal_in p (Node (Expression Plain) (Whole x))) ++ rest)
    (normal_in p (Node (Expression Plain) (Whole x))) rest
unfolding passed
read_ended p x rest i h =
    let l = normal_laid p x i in
    let s = settles (kept l.tree) p (stands_behind p) (normal_again p x l) in
    let e : ends_there p (kept l.tree) ≡ true = ap (ends_there p) l.kept_is ∙ h.0 in
    read_normal p x rest l
    (Ended.read_ended l.tree l.fits l.operands (ready (in_normal_form p x) l) p (stands_behind p) s
    (ends_back p l.tree l.fits e) rest h.1)

-- One that ends neither in an if nor in a jump or a half-open range without its operand, before else.
pub read_before_else : (x : Tree) (rest : List Token) → IsSpelled x
    → is_closed (normal (Node (Expression Plain) (Whole x))) ≡ true → sees (at "else") rest ≡ true
    → IsRead (Expression Plain) (flat (normal (Node (Expression Plain) (Whole x))) ++ rest)
    (normal (Node (Expression Plain) (Whole x))) rest
unfolding passed
read_before_else x rest i c e =
    let l = normal_laid Plain x i in
    let h : is_closed l.tree ≡ true = sym (closed_kept l.tree l.fits) ∙ ap is_closed l.kept_is ∙ c in
    read_normal Plain x rest l
    (Else.read_before_else l.tree rest (normal_again Plain x l) l.fits l.operands (ready (in_normal_form Plain x) l) h
    e)

-- what may follow one
record Followed (p : Position) : Type 0 where
  rest : List Token
  follows : MayFollow p rest

followed : (p : Position) → Followed p
unfolding back
followed Plain = record { rest = []; follows = (refl, refl, refl, refl) }
followed InCondition = record { rest = Opens Brace ∷ []; follows = refl }
followed InArm = record { rest = []; follows = (refl, refl, refl, refl) }
followed InStatement = record { rest = []; follows = (refl, refl, refl, refl) }

pub same_tokens : (p : Position) (x y : Tree) → IsSpelled x → IsSpelled y
    → flat (normal_in p (Node (Expression Plain) (Whole x))) ≡ flat (normal_in p (Node (Expression Plain) (Whole y)))
    → normal_in p (Node (Expression Plain) (Whole x)) ≡ normal_in p (Node (Expression Plain) (Whole y))
same_tokens p x y f g e =
    let r = followed p in
    let i = read_back p x r.rest f r.follows in
    let j = read_back p y r.rest g r.follows in
    let t = one (ref (Expression p)) i.tree j.tree r.rest r.rest i.derived j.derived
    (i.spelled ∙ ap (λ ts. ts ++ r.rest) e ∙ sym j.spelled) in
    sym i.kept_is ∙ ap kept t.0 ∙ j.kept_is
