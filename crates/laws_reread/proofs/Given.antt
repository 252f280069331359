-- Attributes in front of a statement's expression stand in its normal form where they stood, before a range's
-- parentheses, unless its left operand gets some.
use Rattle.std.proofs.Common.{◌≡◌, [], List, ◌++◌, refl, sym, ap, ◌∙◌, append_assoc}
use Rattle.std.specs.Prelude.{Bool, true, false, not, ◌&&◌, ◌||◌, cond, nat_eq}
use Rattle.std.proofs.lemmas.Bool.{false≢true}
use Rattle.proc_macro2.specs.Token.{Token}
use Rattle.syn_grammar.specs.Kind.{Kind, Position, InStatement, ExprAttributed, ExprCast}
use Rattle.syn_grammar.specs.Kind.{OuterAttributes}
use Rattle.syn_grammar.specs.Tree.{Tree, Pair, Node, Alone, Front, Back, Infix, flat}
use Rattle.syn_grammar.specs.Look.{sees}
use Rattle.syn_grammar.specs.Say.{marks}
use Rattle.syn_grammar.specs.Table.{table}
use Rattle.syn_grammar.specs.Derives.{Bound}
use Rattle.syn_grammar.specs.Forms.{is_range, level}
use Rattle.syn_grammar.specs.Kept.{attributed, held, kept}
use Rattle.syn_grammar.specs.Normal.{formed, normal, passed, stands_behind}
use Rattle.syn_grammar.specs.Parens.{in_parens}
use Rattle.laws_reread_kinds.proofs.InFront.{enclosed}
use Rattle.laws_reread_kinds.proofs.Statements.{GivenLaw}
use Rattle.laws_ranges.specs.Opens.{opens_given}
use Rattle.laws_ranges.specs.Shelled.{goes_in, is_lone_range, parens_if, shelled}
use Rattle.laws_ranges.proofs.Dotted.{dotted_by}
use Rattle.laws_ranges.proofs.Given.{given_shelled, infix_level, no_range, range_keeps}
use Rattle.laws_ranges.proofs.Held.{gains_shells}
use Rattle.laws_ranges.proofs.InKept.{goes_given, goes_kept, lone_kept, no_shell, range_kept}
use Rattle.laws_ranges.proofs.OfStatements.{attributes_seen}
use Rattle.laws_binding.proofs.Sights.{backs_are}
use Rattle.laws_reread.proofs.Wholes.{hash_first, none_more}

or_left : (b c : Bool) → (b || c) ≡ false → b ≡ false
or_left true c e = absurd (false≢true (sym e))
or_left false c e = refl

or_right : (b c : Bool) → (b || c) ≡ false → c ≡ false
or_right true c e = absurd (false≢true (sym e))
or_right false c e = e

-- What stands left of an infix form or of a cast is no range.
pub infix_left : (l : Tree) (k : Kind) (y r : Tree) (p : Position) (rest : List Token) → Bound p (Infix l k y r) rest
    → is_range l ≡ false
infix_left l k y r p rest d = no_range p l k (infix_level k p _ (backs_are p k _ d.0) d.2).0 d.3

pub cast_left : (l y : Tree) (p : Position) (rest : List Token) → Bound p (Back l ExprCast y) rest → is_range l ≡ false
unfolding level
cast_left l y p rest d = no_range p l ExprCast refl d.3

-- So they stand in front of the leftmost operand, as they are given to it.
abbrev Gives : Tree → Tree → Type 0
Gives a x = shelled (attributed a x) ≡ attributed (normal a) (shelled x)

gives_whole : (a x : Tree) → is_range x ≡ false
    → Front ExprAttributed (normal a) (parens_if (is_lone_range x) (shelled x))
    ≡ Front ExprAttributed (normal a) (shelled x)
gives_whole a x n = ap (λ b. Front ExprAttributed (normal a) (parens_if b (shelled x))) (no_shell x n).0

gives_inside : (a l : Tree) (k : Kind) → is_range l ≡ false → goes_in k l ≡ false → Gives a l
    → parens_if (goes_in k (attributed a l)) (shelled (attributed a l))
    ≡ attributed (normal a) (parens_if (goes_in k l) (shelled l))
gives_inside a l k n h g =
    ap (λ b. parens_if b (shelled (attributed a l))) (goes_given k a l n ∙ h) ∙ g
    ∙ ap (λ b. attributed (normal a) (parens_if b (shelled l))) (sym h)

gives_infix : (a l : Tree) (k : Kind) (y r : Tree) → nat_eq (level k) 3 ≡ false
    → parens_if (goes_in k (attributed a l)) (shelled (attributed a l))
    ≡ attributed (normal a) (parens_if (goes_in k l) (shelled l)) → Gives a (Infix l k y r)
gives_infix a l k y r n g = go (nat_eq (level k) 3) n
  where
    z : Tree
    z = parens_if (goes_in k l) (shelled l)

    go : (b : Bool) → b ≡ false
        → shelled (cond b (Front ExprAttributed a (Infix l k y r)) (Infix (attributed a l) k y r))
        ≡ cond b (Front ExprAttributed (normal a) (Infix z k (normal y) (shelled r)))
        (Infix (attributed (normal a) z) k (normal y) (shelled r))
    go false n = ap (λ w. Infix w k (normal y) (shelled r)) g
    go true n = absurd (false≢true (sym n))

gives : (a x : Tree) (p : Position) (rest : List Token) → Bound p x rest → is_range x ≡ false → opens_given x ≡ false
    → Gives a (kept x)
gives a (Alone k y) p rest d n h = gives_whole a (Alone k (kept y)) n
gives a (Front k y x) p rest d n h =
    gives_whole a (Front k (kept y) (kept x)) (range_kept (Front k y x) ∙ n)
gives a (Back l ExprCast y) p rest d n h =
    let i = cast_left l y p rest d in
    let o = or_left (goes_in ExprCast l) (opens_given l) h in
    ap (λ z. Back z ExprCast (normal (kept y)))
    (gives_inside a (kept l) ExprCast (range_kept l ∙ i) (goes_kept ExprCast l ∙ o)
    (gives a l p (flat y ++ rest) d.4 i (or_right (goes_in ExprCast l) (opens_given l) h)))
gives a (Back l k y) p rest d n h =
    dotted_by (λ z. is_range z ≡ false → Gives a z) (λ m v e. gives_whole a (Back m _ v) e) (kept l) k (kept y)
    (λ m v e. gives_whole a (Back m k v) e) (range_kept (Back l k y) ∙ n)
gives a (Infix l k y r) p rest d n h =
    let i = infix_left l k y r p rest d in
    let e : (goes_in k l || opens_given l) ≡ false =
    sym (ap (λ b. not b && (goes_in k l || opens_given l)) n) ∙ h in
    gives_infix a (kept l) k (kept y) (kept r) n
    (gives_inside a (kept l) k (range_kept l ∙ i) (goes_kept k l ∙ or_left (goes_in k l) (opens_given l) e)
    (gives a l p (flat y ++ (flat r ++ rest)) d.4 i (or_right (goes_in k l) (opens_given l) e)))
gives a _ p rest d n h = absurd d

-- a range
lone_range : (x : Tree) (p : Position) (rest : List Token) → Bound p x rest
    → sees (marks "#") (flat x ++ rest) ≡ false → is_range x ≡ true → is_lone_range x ≡ true
unfolding level
lone_range (Front ExprAttributed y x) p rest d h e =
    absurd (false≢true (sym h ∙ ap (sees (marks "#")) (append_assoc (flat y) (flat x) rest) ∙ hash_first p _ d.0))
lone_range _ p rest d h e = e

gives_range : (a x : Tree) → is_range x ≡ true → is_lone_range x ≡ true
    → shelled (attributed a x) ≡ attributed (normal a) (in_parens (shelled x))
gives_range a x e h =
    ap shelled (range_keeps a x e) ∙ ap (λ b. Front ExprAttributed (normal a) (parens_if b (shelled x))) h

pub given : GivenLaw
unfolding table held passed stands_behind
given t b x r c d h =
    given_shelled x r a (refl, d) (c.1, (refl, c.2)) (attributes_seen _ c.0) ∙ go (is_range (kept x)) refl
  where
    a : Tree
    a = Pair t (Node OuterAttributes b)

    u : shelled (kept x) ≡ formed InStatement [] (kept x)
    u = sym (gains_shells InStatement x r (refl, d) (λ i. cc))

    go : (b : Bool) → is_range (kept x) ≡ b → shelled (attributed (kept a) (kept x))
        ≡ attributed (normal (kept a)) (enclosed b (formed InStatement [] (kept x)))
    go true e =
        let i : is_lone_range (kept x) ≡ true =
        lone_kept x ∙ lone_range x InStatement r d.1 (none_more b _ _ (flat x ++ r) c.2) (sym (range_kept x) ∙ e) in
        gives_range (kept a) (kept x) e i ∙ ap (λ z. attributed (normal (kept a)) (in_parens z)) u
    go false e =
        gives (kept a) x InStatement r d.1 (sym (range_kept x) ∙ e) h ∙ ap (attributed (normal (kept a))) u
