-- Which statements begin with a parenthesis that was added.
use Rattle.std.proofs.Common.{◌≡◌, ℕ, List, [], ◌∷◌, ◌++◌, refl, sym, ap, ◌∙◌, append_assoc, subst}
use Rattle.std.specs.Prelude.{Bool, true, false, not, ◌&&◌, ◌||◌, cond, Some, None}
use Rattle.proc_macro2.specs.Token.{Token, Opens, Closes, Ident, Literal, Punct}
use Rattle.proc_macro2.specs.declared.delimiter.Delimiter.TheVariants.{Parenthesis}
use Rattle.proc_macro2.specs.Groups.{same_delimiter}
use Rattle.syn_grammar.specs.Kind.{Kind, Position, Plain, InStatement, Expression, AStatement, OuterAttributes}
use Rattle.syn_grammar.specs.Kind.{OuterAttribute, ExprAttributed}
use Rattle.syn_grammar.specs.Name.{the_attributes, the_expression}
use Rattle.syn_grammar.specs.Tree.{Tree, Pair, First, Second, End, Again, Called, Node, Whole, Alone, Back, Infix}
use Rattle.syn_grammar.specs.Tree.{AMark, flat, marks as mark_tokens}
use Rattle.rust_leaf.specs.declared.punct.Spacing.TheVariants.{Alone as Apart}
use Rattle.syn_grammar.specs.Gram.{Gram, mark, seq, alt, star, called, ref}
use Rattle.syn_grammar.specs.Look.{Look, sees, seen}
use Rattle.syn_grammar.specs.Say.{parenthesis, marks}
use Rattle.syn_grammar.specs.Table.{table}
use Rattle.syn_grammar.specs.Derives.{Derives, Bound}
use Rattle.syn_grammar.specs.Kept.{attributed, given, left_in_front, is_macro, own_part, is_there, as_statement}
use Rattle.syn_grammar.specs.Kept.{held, kept}
use Rattle.syn_grammar.specs.Forms.{Case, form, first_form, fronts, front}
use Rattle.syn_grammar.specs.Normal.{place_of, passed, stands_behind, apart_if, is_enclosed, normal_in}
use Rattle.laws_items.specs.Begins.{first_of}
use Rattle.laws_items.proofs.Fronts.{lead, leads, first_turn}
use Rattle.laws_items.proofs.Statements.{node_case, turn_starts}
use Rattle.laws_items.proofs.Statements.{alt_case, seq_case, called_case}
use Rattle.laws_ranges.specs.Shelled.{shelled}
use Rattle.laws_ranges.specs.Opens.{opens, opens_given, opens_behind, opens_statement, opens_turns}
use Rattle.laws_ranges.proofs.Dotted.{dotted_is}
use Rattle.laws_ranges.proofs.Starts.{paren_first}
use Rattle.laws_ranges.proofs.Held.{gains_shells}
use Rattle.laws_ranges.proofs.Given.{given_shelled, given_opened, no_paren}

-- a parenthesis is seen in the first token
seen_cond : (b : Bool) (r s : List Token) → seen (cond b (Some r) None) ≡ seen (cond b (Some s) None)
seen_cond true r s = refl
seen_cond false r s = refl

first_seen : (ts : List Token) → sees parenthesis ts ≡ sees parenthesis (first_of ts)
first_seen [] = refl
first_seen (Opens d ∷ ts) = seen_cond (same_delimiter d Parenthesis) ts []
first_seen (Closes d ∷ ts) = refl
first_seen (Ident cs ∷ ts) = refl
first_seen (Literal cs ∷ ts) = refl
first_seen (Punct c spacing ∷ ts) = refl

pub paren_same : (ts us : List Token) → first_of ts ≡ first_of us → sees parenthesis ts ≡ sees parenthesis us
paren_same ts us e = first_seen ts ∙ ap (sees parenthesis) e ∙ sym (first_seen us)

in_statement : (x : Tree) (g : Gram) (r v : List Token) → lead true g ≡ true → Derives x g r
    → sees parenthesis (flat (normal_in Plain (kept x)) ++ v) ≡ sees parenthesis (flat x ++ r)
in_statement x g r v l d = sym (paren_same _ _ ((leads x g r d true l r v (λ i. cc)).1 Plain))

-- a macro
macro_own : (x : Tree) (b : Bool) → (is_macro (kept x) && b) ≡ true → flat (normal_in Plain (own_part (kept x)))
    ≡ flat (shelled (kept x))
macro_own (Alone k y) b e = refl
macro_own (Back l k y) b e =
    dotted_is (λ z. (is_macro z && b) ≡ true → flat (normal_in Plain (own_part z)) ≡ flat (shelled z))
    (λ l k y e. cc) (kept l) k (kept y) e
macro_own _ b e = cc

macro_opens : (x : Tree) (b : Bool) → (is_macro (kept x) && b) ≡ true → opens_given x ≡ false
macro_opens (Back l k y) b e =
    dotted_is (λ z. (is_macro z && b) ≡ true → opens_given (Back l k y) ≡ false) (λ l k y e. cc) (kept l) k
    (kept y) e
macro_opens (Infix l k y r) b e = cc
macro_opens _ b e = refl

-- an expression by itself
by_itself : (f s : Tree) (r v : List Token) → Bound InStatement f (flat s ++ r)
    → sees parenthesis ((flat (shelled (kept f)) ++ flat (normal_in Plain (kept s))) ++ v)
    ≡ (opens f || sees parenthesis ((flat f ++ flat s) ++ r))
by_itself f s r v d =
    ap (sees parenthesis) (append_assoc (flat (shelled (kept f))) (flat (normal_in Plain (kept s))) v)
    ∙ paren_first f InStatement (flat s ++ r) (flat (normal_in Plain (kept s)) ++ v) d
    ∙ ap (λ ts. opens f || sees parenthesis ts) (sym (append_assoc (flat f) (flat s) r))

-- behind attributes
abbrev behind_first : List Case → List Case
behind_first [] = []
behind_first (c ∷ cases) = cases

first_head : (k : Kind) (l : Look) (cases : List Case) (ts : List Token) → sees l ts ≡ true
    → first_form (form k l ∷ cases) ts ≡ Some k
first_head k l cases ts e = ap (λ b. cond b (Some k) (first_form cases ts)) e

pub attributes_seen : (ts : List Token) → sees (marks "#") ts ≡ true → front InStatement ts ≡ Some ExprAttributed
unfolding front
attributes_seen ts e = first_head ExprAttributed (marks "#") (behind_first (fronts InStatement)) ts e

or_no : (b c : Bool) → c ≡ false → b ≡ (b || c)
or_no true c e = refl
or_no false c e = sym e

abbrev attributes_of : Tree → Tree → Tree
attributes_of t b = Pair t (Node OuterAttributes b)

record Given (t b f s : Tree) (r : List Token) : Type 0 where
  own : Derives (attributes_of t b) (table ExprAttributed) (flat f ++ (flat s ++ r))
  seen : front InStatement (flat (attributes_of t b) ++ (flat f ++ (flat s ++ r))) ≡ Some ExprAttributed

given_of : (t b f s : Tree) (r : List Token) → Derives (Again t b) (table OuterAttributes) ((flat f ++ flat s) ++ r)
    → Given t b f s r
unfolding table
given_of t b f s r c =
    let e = append_assoc (flat f) (flat s) r in record {
      own = (
        subst (λ us. Derives t (ref OuterAttribute) (flat b ++ us)) e c.1,
        (refl, subst (Derives b (table OuterAttributes)) e c.2),
      );
      seen = attributes_seen _
          (ap (λ us. sees (marks "#") ((flat t ++ flat b) ++ us)) (sym e) ∙ c.0);
    }

attributes_first : (t b w : Tree) (r v ws : List Token) → Derives t (ref OuterAttribute) r
    → (e : Bool) → sees parenthesis (((flat (apart_if e (normal_in Plain (kept t))) ++ flat (normal_in Plain (kept b)))
    ++ ws) ++ v) ≡ sees parenthesis (flat t ++ r)
attributes_first t b w r v ws d e =
    let bs : List Token = flat (normal_in Plain (kept b)) in
    let ts : List Token = flat (apart_if e (normal_in Plain (kept t))) in
    ap (sees parenthesis) (append_assoc (ts ++ bs) ws v ∙ append_assoc ts bs (ws ++ v))
    ∙ paren_same _ _ (first_turn e (normal_in Plain (kept t)) (bs ++ (ws ++ v)))
    ∙ in_statement t (ref OuterAttribute) r (bs ++ (ws ++ v)) refl d

expression_part : (a f s : Tree) (r v : List Token) (m : Bool) → (is_macro (kept f) && is_there (kept s)) ≡ m
    → Derives a (table OuterAttributes) ((flat f ++ flat s) ++ r)
    → Derives (Node (Expression InStatement) (Whole f)) (ref (Expression InStatement)) (flat s ++ r)
    → sees parenthesis (flat (normal_in Plain (cond m
    (Second (First (Pair (Node OuterAttributes (kept a)) (Pair (own_part (kept f)) (kept s)))))
    (Second (Second (Second (Second (Pair (Called the_attributes (left_in_front (Node OuterAttributes (kept a))))
    (Pair (Called the_expression (given (Node OuterAttributes (kept a)) (Node (Expression Plain) (Whole (kept f)))))
    (kept s))))))))) ++ v)
    ≡ (opens_behind (Node OuterAttributes a) f || sees parenthesis ((flat a ++ (flat f ++ flat s)) ++ r))
unfolding table held passed place_of stands_behind
expression_part End f s r v true e c d =
    ap (λ ts. sees parenthesis ((ts ++ flat (normal_in Plain (kept s))) ++ v)) (macro_own f (is_there (kept s)) e)
    ∙ by_itself f s r v d.1.1
expression_part End f s r v false e c d =
    ap (λ z. sees parenthesis ((flat z ++ flat (normal_in Plain (kept s))) ++ v))
    (gains_shells InStatement f (flat s ++ r) d (λ i. cc))
    ∙ by_itself f s r v d.1.1
expression_part (Again t b) f s r v true e c d =
    let ws : List Token = flat (normal_in Plain (own_part (kept f))) ++ flat (normal_in Plain (kept s)) in
    let us : List Token = (flat f ++ flat s) ++ r in
    attributes_first t b s (flat b ++ us) v ws c.1 (is_enclosed (kept b) (normal_in Plain (kept b)))
    ∙ ap (sees parenthesis) (sym (append_assoc (flat t ++ flat b) (flat f ++ flat s) r
    ∙ append_assoc (flat t) (flat b) us))
    ∙ ap (λ o. o || sees parenthesis (((flat t ++ flat b) ++ (flat f ++ flat s)) ++ r))
    (sym (macro_opens f (is_there (kept s)) e))
expression_part (Again t b) f s r v false e c d =
    let g : Given t b f s r = given_of t b f s r c in
    let ss : List Token = flat (normal_in Plain (kept s)) in
    let a : Tree = attributes_of t b in
    let is : flat a ++ (flat f ++ (flat s ++ r)) ≡ (flat a ++ (flat f ++ flat s)) ++ r =
    ap (λ ts. flat a ++ ts) (sym (append_assoc (flat f) (flat s) r))
    ∙ sym (append_assoc (flat a) (flat f ++ flat s) r) in
    ap (λ z. sees parenthesis ((flat z ++ ss) ++ v)) (given_shelled f (flat s ++ r) a d g.own g.seen)
    ∙ ap (sees parenthesis) (append_assoc (flat (shelled (attributed (kept a) (kept f)))) ss v)
    ∙ given_opened f (flat s ++ r) (ss ++ v) a d g.own g.seen
    ∙ or_no (opens_given f) _ (ap (sees parenthesis) (sym is) ∙ no_paren _ g.seen)
expression_part _ f s r v m e c d = absurd c

whole_case : (F : Tree → Type 0) (x : Tree) (r : List Token) → Derives x (table (Expression InStatement)) r
    → ((y : Tree) → Derives (Whole y) (table (Expression InStatement)) r → F (Whole y)) → F x
unfolding table
whole_case F (Whole x) r d a = a x d
whole_case F _ r d a = absurd d

abbrev Begins : List Token → List Token → Tree → Type 0
Begins r v x =
    sees parenthesis (flat (normal_in Plain (as_statement (kept x))) ++ v)
    ≡ (opens_statement x || sees parenthesis (flat x ++ r))

abbrev statement_of : Tree → Tree → Tree
statement_of a y = Second (Second (Second (Second (Pair a y))))

-- what stands in front of an expression that is known
front_begins : (a f s : Tree) (r v : List Token)
    → Derives (Node (Expression InStatement) (Whole f)) (ref (Expression InStatement)) (flat s ++ r)
    → Derives a (called the_attributes (ref OuterAttributes)) ((flat f ++ flat s) ++ r)
    → Begins r v (statement_of a (Pair (Called the_expression (Node (Expression InStatement) (Whole f))) s))
unfolding held
front_begins a f s r v d c =
    let e : Tree = Pair (Called the_expression (Node (Expression InStatement) (Whole f))) s in
    called_case (λ y. Begins r v (statement_of y e)) a _ _ _ c
    (λ a1 c1. node_case (λ y. Begins r v (statement_of (Called the_attributes y) e)) a1 OuterAttributes _ c1
    (λ a2 c2. expression_part a2 f s r v (is_macro (kept f) && is_there (kept s)) refl c2 d))

expression_begins : (a b : Tree) (g : Gram) (r v : List Token)
    → Derives b (seq (called the_expression (ref (Expression InStatement))) g) r
    → Derives a (called the_attributes (ref OuterAttributes)) (flat b ++ r) → Begins r v (statement_of a b)
expression_begins a b g r v d =
    seq_case (λ y. Derives a (called the_attributes (ref OuterAttributes)) (flat y ++ r)
    → Begins r v (statement_of a y)) b _ _ r d
    (λ f s i j. called_case (λ y. Derives a (called the_attributes (ref OuterAttributes)) ((flat y ++ flat s) ++ r)
    → Begins r v (statement_of a (Pair y s))) f _ _ _ i
    (λ f1 i1. node_case (λ y. Derives a (called the_attributes (ref OuterAttributes)) ((flat y ++ flat s) ++ r)
    → Begins r v (statement_of a (Pair (Called the_expression y) s))) f1 (Expression InStatement) _ i1
    (λ f2 i2. whole_case (λ y. Derives a (called the_attributes (ref OuterAttributes)) ((flat y ++ flat s) ++ r)
    → Begins r v (statement_of a (Pair (Called the_expression (Node (Expression InStatement) y)) s))) f2 _ i2
    (λ f3 i3. front_begins a f3 s r v (refl, i3)))))

statement_begins : (x : Tree) (r v : List Token) → Derives x (table AStatement) r → Begins r v x
unfolding table held
statement_begins x r v d =
    alt_case (Begins r v) x _ _ _ r d (λ y c. in_statement y _ r v refl c)
    (λ x1 d1. alt_case (λ y. Begins r v (Second y)) x1 _ _ _ r d1 (λ y c. in_statement y _ r v refl c)
    (λ x2 d2. alt_case (λ y. Begins r v (Second (Second y))) x2 _ _ _ r d2 (λ y c. in_statement y _ r v refl c)
    (λ x3 d3. alt_case (λ y. Begins r v (Second (Second (Second y)))) x3 _ _ _ r d3
    (λ y c. in_statement y _ r v refl c)
    (λ x4 d4. seq_case (λ y. Begins r v (Second (Second (Second (Second y))))) x4 _ _ r d4
    (λ a b c e. expression_begins a b _ r v e c)))))

-- by its node
pub node_begins : (p : Position) (x : Tree) (r v : List Token) → Derives (Node AStatement x) (ref AStatement) r
    → sees parenthesis (flat (normal_in p (kept (Node AStatement x))) ++ v)
    ≡ (opens_statement x || sees parenthesis (flat x ++ r))
unfolding held passed
node_begins p x r v d = statement_begins x r v d.1

-- among statements
or_not : (o b : Bool) → ((o || b) && not b) ≡ (o && not b)
or_not true b = refl
or_not false true = refl
or_not false false = refl

first_marks : (c : ℕ) (cs : List ℕ) (ts : List Token) → sees parenthesis (mark_tokens c cs Apart ++ ts) ≡ false
first_marks c [] ts = refl
first_marks c (d ∷ ds) ts = refl

abbrev Enclosed : Position → Tree → List Token → Type 0
Enclosed p y r =
    is_enclosed (kept y) (normal_in p (kept y)) ≡ (opens_turns y && not (sees parenthesis (flat y ++ r)))

mark_encloses : (p : Position) (x y : Tree) (c : ℕ) (cs : List ℕ) (r q : List Token) → Derives x (mark c cs) q
    → Enclosed p (Again (First x) y) r
mark_encloses p (AMark d ds spacing) y c cs r q e =
    let us : List Token = flat (normal_in p (kept y)) in
    let b : Bool = is_enclosed (kept y) (normal_in p (kept y)) in
    ap (λ o. o && not (sees parenthesis (mark_tokens d ds Apart ++ flat (kept y))))
    (paren_same _ _ (first_turn b (First (AMark d ds Apart)) us) ∙ first_marks d ds us)
mark_encloses p _ y c cs r q e = absurd e

statement_encloses : (p : Position) (x y : Tree) (r : List Token)
    → Derives (Node AStatement x) (ref AStatement) (flat y ++ r) → Enclosed p (Again (Second (Node AStatement x)) y) r
statement_encloses p x y r d =
    let us : List Token = flat (normal_in p (kept y)) in
    let b : Bool = is_enclosed (kept y) (normal_in p (kept y)) in
    let now : Bool = sees parenthesis (flat x ++ (flat y ++ r)) in
    let old : Bool = sees parenthesis (flat (kept (Node AStatement x)) ++ flat (kept y)) in
    ap (λ o. o && not old)
    (paren_same _ _ (first_turn b (Second (normal_in p (kept (Node AStatement x)))) us)
    ∙ node_begins p x (flat y ++ r) us d)
    ∙ ap (λ o. (opens_statement x || now) && not o)
    (sym (paren_same _ _ ((turn_starts (Node AStatement x) (flat y ++ r) (flat y ++ r) d).0 (flat (kept y)))))
    ∙ or_not (opens_statement x) now
    ∙ ap (λ ts. opens_statement x && not (sees parenthesis ts)) (sym (append_assoc (flat x) (flat y) r))

pub turns_enclose : (p : Position) (y : Tree) (t u : List Token → Bool) (c : ℕ) (cs : List ℕ) (r : List Token)
    → Derives y (star t (alt u (mark c cs) (ref AStatement))) r → Enclosed p y r
turns_enclose p End t u c cs r d = refl
turns_enclose p (Again x y) t u c cs r d =
    alt_case (λ z. Enclosed p (Again z y) r) x u (mark c cs) (ref AStatement) (flat y ++ r) d.1
    (λ z e. mark_encloses p z y c cs r (flat y ++ r) e)
    (λ z e. node_case (λ w. Enclosed p (Again (Second w) y) r) z AStatement (flat y ++ r) e
    (λ w f. statement_encloses p w y r (refl, f)))
turns_enclose p _ t u c cs r d = absurd d
