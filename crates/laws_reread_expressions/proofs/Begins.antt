-- An expression in normal form begins with the own part of a form, or with a parenthesis that was added.
use Rattle.std.proofs.Common.{◌≡◌, List, [], ◌∷◌, ◌++◌, refl, subst}
use Rattle.std.specs.Prelude.{Bool, true, false, not, ◌&&◌, cond}
use Rattle.std.proofs.lemmas.List.{append-nil}
use Rattle.proc_macro2.specs.Token.{Token, Opens}
use Rattle.proc_macro2.specs.declared.delimiter.Delimiter.TheVariants.{Parenthesis}
use Rattle.syn_grammar.specs.Kind.{Kind, Position, Plain, ExprBreak}
use Rattle.syn_grammar.specs.Name.{the_label}
use Rattle.syn_grammar.specs.Part.{has}
use Rattle.syn_grammar.specs.Tree.{Tree, Alone, Front, Back, Infix, flat}
use Rattle.syn_grammar.specs.Look.{sees, the_end}
use Rattle.syn_grammar.specs.Forms.{inside}
use Rattle.syn_grammar.specs.Normal.{normal, formed}
use Rattle.syn_grammar.specs.Parens.{parens_unless, is_label, follow, takes_what_follows, begins_in, stands_in}
use Rattle.syn_grammar.specs.Parens.{stays_left, with_right}
use Rattle.laws_binding.proofs.Begun.{Begun, more, begun, a_word, an_opening}
use Rattle.laws_reread_expressions.specs.Behind.{is_attributed, BeforeOperand, AtEnd}
use Rattle.laws_reread_expressions.specs.Formed.{IsFront, Formed}
use Rattle.laws_reread_expressions.proofs.Opened.{begun_more}
use Rattle.laws_reread_expressions.proofs.Bools.{and_no}

-- a parenthesis stands before an operand
cond_same : (b : Bool) → cond b false false ≡ false
cond_same true = refl
cond_same false = refl

paren_label : (k : Kind) (y : Tree) (ts : List Token) → is_label k y (Opens Parenthesis ∷ ts) ≡ false
paren_label ExprBreak y ts = cond_same (has the_label y)
paren_label _ y ts = refl

pub paren_operand : (k : Kind) (y : Tree) (ts : List Token) → BeforeOperand k y (Opens Parenthesis ∷ ts)
paren_operand k y ts = (refl, paren_label k y ts, and_no (is_attributed k))

-- tokens with which an operand begins
abbrev pub Starts : List Token → Type 0
Starts us = (ts : List Token) × Begun ts us

pub own_starts : (M : List Token → Type 0) (k : Kind) (y : Tree) → IsFront M k y → (ts : List Token) → M ts
    → Starts (flat y)
own_starts M k y o ts m = (
  flat y ++ ts,
  subst (Begun (flat y ++ ts)) o.held (begun Plain k y ts (flat y ++ ts) (o.begins Plain ts refl m) (o.read ts m)),
)

pub starts_more : (us vs : List Token) → Starts us → Starts (us ++ vs)
starts_more us vs s = (s.0, more s.0 us vs s.1)

pub unless_starts : (b : Bool) (z : Tree) → Starts (flat z) → Starts (flat (parens_unless b z))
unless_starts true z s = s
unless_starts false z s = (Opens Parenthesis ∷ [], an_opening Parenthesis)

pub starts : (x : Tree) → Formed x → (p : Position) (ts : List Token) → Starts (flat (formed p ts x))
starts (Alone k y) f p ts =
    unless_starts (not (takes_what_follows p k ts)) (Alone k (normal y)) (own_starts AtEnd k (normal y) f.0 [] refl)
starts (Front k y x) f p ts =
    let w : Tree = with_right p k (normal y) (formed (inside p k) ts x) in
    unless_starts (begins_in p k) (Front k (normal y) w)
    (starts_more (flat (normal y)) (flat w) (own_starts (BeforeOperand k (normal y)) k (normal y) f.0
    (Opens Parenthesis ∷ []) (paren_operand k (normal y) [])))
starts (Back l k y) f p ts =
    let m : Tree = formed p (follow (flat (normal y))) l in
    let b : Bool = stays_left p k (normal y) m in
    unless_starts (stands_in p k && not (takes_what_follows p k ts)) (Back (parens_unless b m) k (normal y))
    (starts_more (flat (parens_unless b m)) (flat (normal y))
    (unless_starts b m (starts l f.3 p (follow (flat (normal y))))))
starts (Infix l k y r) f p ts =
    let m : Tree = formed p (follow (flat (normal y))) l in
    let b : Bool = stays_left p k (normal y) m in
    starts_more (flat (parens_unless b m))
    (flat (normal y) ++ flat (with_right p k (normal y) (formed (inside p k) ts r)))
    (unless_starts b m (starts l f.3 p (follow (flat (normal y)))))
starts _ f p ts = absurd f

-- before nothing and before others
pub begun_behind : (us vs : List Token) → Starts us → Begun us (us ++ vs)
begun_behind us vs s = subst (λ ws. Begun ws (us ++ vs)) (append-nil us) (begun_more s.0 us [] vs s.1)

some_tokens : (ts us vs : List Token) → Begun ts us → sees the_end (us ++ vs) ≡ false
some_tokens _ _ vs (a_word cs e) = refl
some_tokens _ _ vs _ = refl

pub not_ended : (us vs : List Token) → Starts us → sees the_end (us ++ vs) ≡ false
not_ended us vs s = some_tokens s.0 us vs s.1
