-- Statements: their law, and of what is printed for one whether it needs its ; , and whether it is open: an expression
-- or a macro without it.
use Rattle.std.proofs.Common.{[], ap, append_assoc, List, refl, subst, sym, ◌++◌, ◌∙◌, ◌∷◌, ◌≡◌}
use Rattle.std.specs.Prelude.{Bool, cond, false, not, true, ◌&&◌}
use Rattle.std.proofs.lemmas.Bool.{false≢true}
use Rattle.proc_macro2.specs.Token.{Opens, Token}
use Rattle.proc_macro2.specs.declared.delimiter.Delimiter.TheVariants.{Parenthesis}
use Rattle.rust_leaf.specs.declared.punct.Spacing.TheVariants.{Alone as Apart}
use Rattle.syn_grammar.specs.Kind.{AnItem, AStatement, Expression, ExprCast, ExprMacro, InStatement, Kind}
use Rattle.syn_grammar.specs.Kind.{OuterAttributes, Plain, Position}
use Rattle.syn_grammar.specs.Name.{Part, same_part, the_attributes, the_expression, the_semicolon}
use Rattle.syn_grammar.specs.Tree.{Again, Alone, AMark, Back, Called, End, First, flat, Front, Infix, Nil, Node, Pair}
use Rattle.syn_grammar.specs.Tree.{Raw, Second, Tree, Whole}
use Rattle.syn_grammar.specs.Part.{choice}
use Rattle.syn_grammar.specs.Gram.{Gram, ref}
use Rattle.syn_grammar.specs.Look.{sees}
use Rattle.syn_grammar.specs.Say.{marks, optional, parenthesis, sign, when◌read◌else◌, ◌∶◌, ◌▸◌}
use Rattle.syn_grammar.specs.Statements.{needs_semicolon, statement}
use Rattle.syn_grammar.specs.Forms.{ends_there, form_of, front, has_right, inside, is_brace_macro, is_range, level}
use Rattle.syn_grammar.specs.Table.{table}
use Rattle.syn_grammar.specs.Derives.{Derives}
use Rattle.syn_grammar.specs.Kept.{as_statement, attributed, held, is_macro, is_there, kept, own_part}
use Rattle.syn_grammar.specs.Normal.{apart_if, apart_raw, formed, is_enclosed, normal, normal_in, passed, place_of}
use Rattle.syn_grammar.specs.Normal.{stands_behind}
use Rattle.syn_grammar.specs.Parens.{begins_in, follow, in_parens, may_lack, parens_unless, stands_in}
use Rattle.syn_grammar.specs.Parens.{takes_what_follows, with_left, with_right}
use Rattle.syn_grammar.proofs.Settled.{normal_twice}
use Rattle.laws_reread_kinds.specs.After.{expression_of, is_open}
use Rattle.laws_ranges.specs.Opens.{opens_given}
use Rattle.laws_reread_kinds.specs.Covered.{all_covered, has_form_step, has_step}
use Rattle.laws_reread_kinds.specs.Covered.{is_expression_form, is_known, is_macro_form, is_plain_expression}
use Rattle.laws_reread_kinds.specs.Covered.{is_plain_start, is_statement_form, is_statement_item}
use Rattle.laws_reread_kinds.proofs.Choices.{both_true, is_false}
use Rattle.laws_reread_kinds.proofs.Ends.{ends_back, macro_read, own_back}
use Rattle.laws_reread_kinds.proofs.Fits.{Fits, is_open_turn, IsMeant}
use Rattle.laws_reread_kinds.proofs.InFront.{attribute_apart, attributes_fit, attributes_kept, attributes_normal}
use Rattle.laws_reread_kinds.proofs.InFront.{attributes_read, ends_given, given_ends, given_flat, given_to}
use Rattle.laws_reread_kinds.proofs.InFront.{is_attributes}
use Rattle.laws_reread_kinds.proofs.InFront.{enclosed, is_ranged, settled_inside}
use Rattle.laws_reread_kinds.proofs.NamedMacros.{named_law}
use Rattle.laws_reread_kinds.proofs.Lets.{at_item, item_law, Law, let_printed}
use Rattle.laws_reread_kinds.proofs.Printed.{IsPlaced, KindLaw, Printed, simple_law, unmoved_if}

-- a statement that is an expression behind attributes, or with nothing in front
abbrev pub in_front : Tree → Tree → Tree → Tree
in_front a e s =
    Second (Second (Second (Second (Pair (Called the_attributes (Node OuterAttributes a))
    (Pair (Called the_expression e) s)))))

abbrev pub none : Tree
none = Node OuterAttributes End

abbrev pub at_expression : Tree → Tree → Tree
at_expression e s =
    Second (Second (Second (Second (Pair (Called the_attributes none) (Pair (Called the_expression e) s)))))

abbrev pub held_form : Tree → Tree
held_form x = Node (Expression Plain) (Whole x)

-- A macro's call with ; is held as a macro, whether it is in normal form or not.
unless_macro : (b : Bool) (x : Tree) → is_macro x ≡ false → is_macro (parens_unless b x) ≡ false
unless_macro true x e = e
unless_macro false x e = refl

record SameMacro (x v : Tree) : Type 0 where
  same : is_macro v ≡ is_macro x
  own : is_macro x ≡ true → own_part v ≡ normal (own_part x)

no_macro : (x v : Tree) → is_macro x ≡ false → is_macro v ≡ false → SameMacro x v
no_macro x v e f = record { same = f ∙ sym e; own = λ h. absurd (go (sym h ∙ e)) }
  where
    go : true ≡ false → ⊥
    go i = cc i

same_macro : (x : Tree) → SameMacro x (formed InStatement [] x)
unfolding may_lack
same_macro (Alone ExprMacro y) = record { same = refl; own = λ h. refl }
same_macro (Alone k y) =
    no_macro (Alone k y) _ refl
    (unless_macro (not (takes_what_follows InStatement k [])) (Alone k (normal_in Plain y)) refl)
same_macro (Front k y x) =
    no_macro (Front k y x) _ refl
    (unless_macro (begins_in InStatement k)
    (Front k (normal_in Plain y) (with_right InStatement k (normal_in Plain y) (formed (inside InStatement k) [] x)))
    refl)
same_macro (Back l k y) =
    let own : Tree = normal_in Plain y in
    no_macro (Back l k y) _ refl
    (unless_macro (stands_in InStatement k && not (takes_what_follows InStatement k []))
    (Back (with_left InStatement k own (formed InStatement (follow (flat own)) l)) k own) refl)
same_macro (Infix l k y r) = no_macro (Infix l k y r) _ refl refl
same_macro x = no_macro x x refl refl

there_same : (x : Tree) → is_there (normal x) ≡ is_there x
there_same (First x) = refl
there_same _ = refl

-- what is held of a statement: its macro, or its expression, which has taken what stands in front
abbrev held_macro : Tree → Tree → Tree → Tree
held_macro a y s = Second (First (Pair (Node OuterAttributes a) (Pair y s)))

abbrev held_in_front : Tree → Tree → Tree → Tree
held_in_front a x s =
    cond (is_macro x && is_there s) (held_macro a (own_part x) s) (at_expression (held_form (given_to a x)) s)

is_held : (a x s : Tree) → is_attributes a ≡ true → as_statement (in_front a (held_form x) s) ≡ held_in_front a x s
is_held End x s e = refl
is_held (Again t b) x s e = refl
is_held _ x s e = absurd (false≢true e)

-- and in normal form, where the attributes are given to what stands for the expression there
commutes : (a x v s : Tree) → SameMacro x v → given_to (normal a) v ≡ formed InStatement [] (given_to a x)
    → held_in_front (normal a) v (normal s) ≡ normal (held_in_front a x s)
unfolding place_of passed stands_behind
commutes a x v s m g =
    go (is_macro x) (is_there s) (is_macro v) (is_there (normal s)) refl m.own m.same (there_same s)
  where
    go : (b c d f : Bool) → is_macro x ≡ b → (is_macro x ≡ true → own_part v ≡ normal (own_part x)) → d ≡ b → f ≡ c
        → cond (d && f) (held_macro (normal a) (own_part v) (normal s))
        (at_expression (held_form (given_to (normal a) v)) (normal s))
        ≡ normal (cond (b && c) (held_macro a (own_part x) s) (at_expression (held_form (given_to a x)) s))
    go true true true true e o i j = ap (λ y. held_macro (normal a) y (normal s)) (o e)
    go true false true false e o i j = ap (λ z. at_expression (held_form z) (normal s)) g
    go false c false f e o i j = ap (λ z. at_expression (held_form z) (normal s)) g
    go true true true false e o i j = cc j
    go true false true true e o i j = cc j
    go true c false f e o i j = cc i
    go false c true f e o i j = cc i

-- its tokens
macro_flat : (a x s : Tree) → is_macro x ≡ true → flat (held_macro a (own_part x) s) ≡ flat a ++ (flat x ++ flat s)
macro_flat a (Alone ExprMacro y) s e = refl
macro_flat a (Alone _ y) s e = absurd (false≢true e)
macro_flat a _ s e = absurd (false≢true e)

held_flat : (a x s : Tree) → is_attributes a ≡ true
    → flat (held_in_front a x s) ≡ flat (in_front a (held_form x) s)
held_flat a x s i = go (is_macro x) (is_there s) refl
  where
    go : (b c : Bool) → is_macro x ≡ b
        → flat (cond (b && c) (held_macro a (own_part x) s) (at_expression (held_form (given_to a x)) s))
        ≡ flat a ++ (flat x ++ flat s)
    go true true e = macro_flat a x s e
    go true false e = ap (λ ts. ts ++ flat s) (given_flat a x i) ∙ append_assoc (flat a) (flat x) (flat s)
    go false c e = ap (λ ts. ts ++ flat s) (given_flat a x i) ∙ append_assoc (flat a) (flat x) (flat s)

-- as it is printed
abbrev is_fourth : Tree → Bool
is_fourth (Second (Second (Second (Second x)))) = true
is_fourth x = false

expression_printed : (a x s w : Tree) → Fits w statement
    → kept w ≡ in_front (normal a) (held_form (formed InStatement [] x)) (normal s)
    → is_plain_expression (normal_in InStatement (held_form x)) ≡ true → is_statement_form w ≡ true
unfolding passed stands_behind
expression_printed a x s (Second (Second (Second (Second (Pair (Called n b) (Pair (Called m g) t)))))) f e o =
    let i : kept g ≡ normal_in InStatement (held_form x) = ap expression_of e in
    ap (λ z. is_plain_expression (normal_in InStatement z)) i
    ∙ ap is_plain_expression (normal_twice InStatement (held_form x)) ∙ o
expression_printed a x s (Second (Second (Second (Second (Pair (Called n b) (Pair _ t)))))) f e o =
    absurd f.1.1.1.1.1.0
expression_printed a x s (Second (Second (Second (Second (Pair (Called n b) _))))) f e o = absurd f.1.1.1.1.1
expression_printed a x s (Second (Second (Second (Second (Pair _ y))))) f e o = absurd f.1.1.1.1.0
expression_printed a x s (Second (Second (Second (Second _)))) f e o = absurd f.1.1.1.1
expression_printed a x s (Second (Second (Second (First w)))) f e o = absurd (false≢true (ap is_fourth e))
expression_printed a x s (Second (Second (Second _))) f e o = absurd f.1.1.1
expression_printed a x s (Second (Second (First w))) f e o = absurd (false≢true (ap is_fourth e))
expression_printed a x s (Second (Second _)) f e o = absurd f.1.1
expression_printed a x s (Second (First w)) f e o = absurd (false≢true (ap is_fourth e))
expression_printed a x s (Second _) f e o = absurd f.1
expression_printed a x s (First w) f e o = absurd (false≢true (ap is_fourth e))
expression_printed a x s _ f e o = absurd f

-- what was read
record IsExpression (x : Tree) (r : List Token) : Type 0 where
  front : Tree
  form : Tree
  semicolon : Tree
  is : x ≡ in_front front (Node (Expression InStatement) (Whole form)) semicolon
  attributes : Derives front (table OuterAttributes) ((flat form ++ flat semicolon) ++ r)
  derived : Derives (Whole form) (table (Expression InStatement)) (flat semicolon ++ r)
  plain : is_plain_expression (normal_in InStatement (held_form (kept form))) ≡ true

form_read : (y : Tree) (ts : List Token) → Derives y (table (Expression InStatement)) ts
    → (x : Tree) × (y ≡ Whole x) × Derives (Whole x) (table (Expression InStatement)) ts
unfolding table
form_read (Whole x) ts d = (x, refl, d)
form_read _ ts d = absurd d

form_fits : (y : Tree) → Fits y (table (Expression InStatement))
    → (x : Tree) × (y ≡ Whole x) × Fits (Whole x) (table (Expression InStatement))
unfolding table
form_fits (Whole x) f = (x, refl, f)
form_fits _ f = absurd f

-- by its parts
abbrev pub with_names : Part → Tree → Part → Tree → Tree → Tree
with_names n a m e s = Second (Second (Second (Second (Pair (Called n a) (Pair (Called m e) s)))))

parts_are : (n m : Part) (k l : Kind) (a x y s : Tree) → n ≡ the_attributes → k ≡ OuterAttributes → m ≡ the_expression
    → l ≡ Expression InStatement → y ≡ Whole x
    → with_names n (Node k a) m (Node l y) s ≡ in_front a (Node (Expression InStatement) (Whole x)) s
parts_are n m k l a x y s e f g h i =
    ap (λ j. with_names j (Node k a) m (Node l y) s) e
    ∙ ap (λ j. with_names the_attributes (Node j a) m (Node l y) s) f
    ∙ ap (λ j. with_names the_attributes (Node OuterAttributes a) j (Node l y) s) g
    ∙ ap (λ j. in_front a (Node j y) s) h
    ∙ ap (λ z. in_front a (Node (Expression InStatement) z) s) i

held_as : (l : Kind) (x y : Tree) → l ≡ Expression InStatement → y ≡ Whole x
    → kept (Node l y) ≡ held_form (kept x)
unfolding held
held_as l x y e f = ap (λ j. kept (Node j y)) e ∙ ap (λ z. kept (Node (Expression InStatement) z)) f

is_read : (y : Tree) (r : List Token)
    → Derives y (the_attributes ∶ ref OuterAttributes ▸ the_expression ∶ ref (Expression InStatement)
    ▸ optional (marks ";") (the_semicolon ∶ sign ";")) r → is_expression_form y ≡ true
    → IsExpression (Second (Second (Second (Second y)))) r
is_read (Pair (Called n (Node k a)) (Pair (Called m (Node l y)) s)) r d o =
    let w = form_read y (flat s ++ r) (subst (λ j. Derives y (table j) (flat s ++ r)) d.1.0.1.0 d.1.0.1.1) in
    record {
      front = a;
      form = w.0;
      semicolon = s;
      is = parts_are n m k l a w.0 y s d.0.0 d.0.1.0 d.1.0.0 d.1.0.1.0 w.1;
      attributes = subst (λ z. Derives a (table OuterAttributes) ((flat z ++ flat s) ++ r)) w.1
          (subst (λ j. Derives a (table j) ((flat y ++ flat s) ++ r)) d.0.1.0 d.0.1.1);
      derived = w.2;
      plain = ap (λ z. is_plain_expression (normal_in InStatement z)) (sym (held_as l w.0 y d.1.0.1.0 w.1)) ∙ o;
    }
is_read (Pair (Called n (Node k a)) (Pair (Called m _) s)) r d o = absurd d.1.0.1
is_read (Pair (Called n (Node k a)) (Pair _ s)) r d o = absurd d.1.0
is_read (Pair (Called n (Node k a)) _) r d o = absurd d.1
is_read (Pair (Called n _) y) r d o = absurd d.0.1
is_read (Pair _ y) r d o = absurd d.0
is_read _ r d o = absurd d

-- what fits: an expression by its parts
pub record FitsExpression (x : Tree) : Type 0 where
  pub front : Tree
  pub form : Tree
  pub semicolon : Tree
  pub is : x ≡ in_front front (Node (Expression InStatement) (Whole form)) semicolon
  pub attributes : Fits (Node OuterAttributes front) (ref OuterAttributes)
  pub fits : Fits (Whole form) (table (Expression InStatement))
  pub ended : Fits semicolon (optional (marks ";") (the_semicolon ∶ sign ";"))
  pub plain : is_plain_expression (normal_in InStatement (held_form (kept form))) ≡ true

pub fits_expression : (y : Tree) → Fits y (the_attributes ∶ ref OuterAttributes
    ▸ the_expression ∶ ref (Expression InStatement) ▸ optional (marks ";") (the_semicolon ∶ sign ";"))
    → is_expression_form y ≡ true → FitsExpression (Second (Second (Second (Second y))))
fits_expression (Pair (Called n (Node k a)) (Pair (Called m (Node l y)) s)) f o =
    let w = form_fits y (subst (λ j. Fits y (table j)) f.1.0.1.0 f.1.0.1.3) in
    record {
      front = a;
      form = w.0;
      semicolon = s;
      is = parts_are n m k l a w.0 y s f.0.0 f.0.1.0 f.1.0.0 f.1.0.1.0 w.1;
      attributes = subst (λ j. Fits (Node j a) (ref OuterAttributes)) f.0.1.0 f.0.1;
      fits = w.2;
      ended = f.1.1;
      plain = ap (λ z. is_plain_expression (normal_in InStatement z)) (sym (held_as l w.0 y f.1.0.1.0 w.1)) ∙ o;
    }
fits_expression (Pair (Called n (Node k a)) (Pair (Called m _) s)) f o = absurd f.1.0.1
fits_expression (Pair (Called n (Node k a)) (Pair _ s)) f o = absurd f.1.0
fits_expression (Pair (Called n (Node k a)) _) f o = absurd f.1
fits_expression (Pair (Called n _) y) f o = absurd f.0.1
fits_expression (Pair _ y) f o = absurd f.0
fits_expression _ f o = absurd f

-- Attributes in front of an expression, no left operand of which is put in parentheses, stand in front in its normal
-- form: they are given to it as it is in normal form, a range in parentheses.
abbrev pub GivenLaw : Type 0
GivenLaw =
    (t b x : Tree) (r : List Token) → Derives (Again t b) (table OuterAttributes) (flat x ++ r)
    → Derives (Whole x) (table (Expression InStatement)) r → opens_given x ≡ false
    → formed InStatement [] (attributed (Pair (kept t) (Node OuterAttributes (kept b))) (kept x))
    ≡ attributed (Pair (normal (kept t)) (Node OuterAttributes (normal (kept b))))
    (enclosed (is_range (kept x)) (formed InStatement [] (kept x)))

-- In front of one that has such an operand they stand inside its parentheses: it is printed with them.
abbrev pub has_left_operand : Tree → Bool
has_left_operand (Back l k y) = true
has_left_operand (Infix l k y r) = true
has_left_operand x = false

pub record Taker (z : Tree) : Type 0 where
  pub tree : Tree
  pub fits : Fits (Whole tree) (table (Expression InStatement))
  pub kept_is : kept tree ≡ formed InStatement [] z
  pub begins : sees parenthesis (flat (kept tree)) ≡ true
  pub has_left : has_left_operand (kept tree) ≡ true

abbrev pub TakenLaw : Type 0
TakenLaw =
    (t b x : Tree) (r : List Token) → Derives (Again t b) (table OuterAttributes) (flat x ++ r)
    → Derives (Whole x) (table (Expression InStatement)) r → opens_given x ≡ true
    → (c f : Tree) → Fits c (table OuterAttributes) → kept c ≡ Again (normal (kept t)) (normal (kept b))
    → Fits (Whole f) (table (Expression InStatement)) → kept f ≡ formed InStatement [] (kept x)
    → Taker (attributed (Pair (kept t) (Node OuterAttributes (kept b))) (kept x))

abbrev opens_in : Tree → Tree → Bool
opens_in (Again t b) x = opens_given x
opens_in _ x = false

again_normal : (t b : Tree) (r : List Token) → Derives (Again t b) (table OuterAttributes) r
    → normal (kept (Again t b)) ≡ Again (normal (kept t)) (normal (kept b))
unfolding table
again_normal t b r d =
    ap (λ z. Again z (normal (kept b)))
    (unmoved_if (is_enclosed (kept b) (normal (kept b))) (normal (kept t)) (attribute_apart t _ d.1))

given_formed : GivenLaw → (a x s : Tree) (r : List Token) → Derives a (table OuterAttributes) ((flat x ++ flat s) ++ r)
    → Derives (Whole x) (table (Expression InStatement)) (flat s ++ r) → opens_in a x ≡ false
    → given_to (normal (kept a)) (enclosed (is_ranged (kept a) (kept x)) (formed InStatement [] (kept x)))
    ≡ formed InStatement [] (given_to (kept a) (kept x))
unfolding table
given_formed g End x s r d e o = refl
given_formed g (Again t b) x s r d e o =
    ap (λ z. given_to z (enclosed (is_range (kept x)) (formed InStatement [] (kept x)))) (again_normal t b _ d)
    ∙ sym (g t b x (flat s ++ r)
    (subst (Derives (Again t b) (table OuterAttributes)) (append_assoc (flat x) (flat s) r) d) e o)
given_formed g _ x s r d e o = absurd d

taken_formed : TakenLaw → (a x s : Tree) (r : List Token) → Derives a (table OuterAttributes) ((flat x ++ flat s) ++ r)
    → Derives (Whole x) (table (Expression InStatement)) (flat s ++ r) → opens_in a x ≡ true
    → (c f : Tree) → Fits c (table OuterAttributes) → kept c ≡ normal (kept a)
    → Fits (Whole f) (table (Expression InStatement)) → kept f ≡ formed InStatement [] (kept x)
    → Taker (given_to (kept a) (kept x))
taken_formed g (Again t b) x s r d e o c f h i j k =
    g t b x (flat s ++ r)
    (subst (Derives (Again t b) (table OuterAttributes)) (append_assoc (flat x) (flat s) r) d) e o c f h
    (i ∙ again_normal t b _ d) j k
taken_formed g _ x s r d e o c f h i j k = absurd (false≢true o)

-- what is printed for one: a form stands in it for the expression
record Stands (a x s : Tree) : Type 0 where
  tree : Tree
  before : Tree
  form : Tree
  fits : Fits tree statement
  kept_is : kept tree ≡ in_front before (held_form form) (normal s)
  attributes : is_attributes before ≡ true
  held_is : held_in_front before form (normal s) ≡ normal (held_in_front a x s)
  meant : is_statement_form tree ≡ true

stands_held : (a x s : Tree) (h : Stands a x s)
    → as_statement (kept h.tree) ≡ held_in_front h.before h.form (normal s)
stands_held a x s h = ap as_statement h.kept_is ∙ is_held h.before h.form (normal s) h.attributes

stands_printed : (q : Position) (a x s : Tree) → Stands a x s → is_attributes a ≡ true
    → Printed (ref AStatement) (normal_in q (Node AStatement (as_statement (in_front a (held_form x) s))))
unfolding passed has_step has_form_step table held
stands_printed q a x s h e =
    let v = stands_held a x s h in
    record {
      tree = Node AStatement h.tree;
      fits = (
        refl,
        refl,
        ap flat v ∙ held_flat h.before h.form (normal s) h.attributes ∙ sym (ap flat h.kept_is),
        h.fits,
        h.meant,
      );
      kept_is = ap (Node AStatement) (v ∙ h.held_is ∙ ap normal (sym (is_held a x s e)));
    }

-- a range in parentheses
fourth_fits : (w : Tree) → Fits w statement → is_fourth (kept w) ≡ true → is_statement_form w ≡ true → FitsExpression w
fourth_fits (Second (Second (Second (Second y)))) f i o = fits_expression y f.1.1.1.1 o
fourth_fits (Second (Second (Second (First w)))) f i o = absurd (false≢true i)
fourth_fits (Second (Second (Second _))) f i o = absurd f.1.1.1
fourth_fits (Second (Second (First w))) f i o = absurd (false≢true i)
fourth_fits (Second (Second _)) f i o = absurd f.1.1
fourth_fits (Second (First w)) f i o = absurd (false≢true i)
fourth_fits (Second _) f i o = absurd f.1
fourth_fits (First w) f i o = absurd (false≢true i)
fourth_fits _ f i o = absurd f

range_macro : (a x u : Tree) → is_ranged a x ≡ true → SameMacro x (in_parens u)
unfolding level
range_macro (Again t b) (Alone ExprMacro y) u e = absurd (false≢true e)
range_macro (Again t b) (Alone k y) u e = no_macro (Alone k y) (in_parens u) refl refl
range_macro (Again t b) x u e = no_macro x (in_parens u) refl refl
range_macro _ x u e = absurd (false≢true e)

parens_fit : (x : Tree) → Fits (Whole x) (table (Expression InStatement)) → formed Plain [] (kept x) ≡ kept x
    → Fits (Node (Expression InStatement) (Whole (in_parens x))) (ref (Expression InStatement))
unfolding table held passed stands_behind has_step has_form_step may_lack level has_right front
parens_fit x f e = (
  refl,
  refl,
  refl,
  (
    refl,
    ap in_parens e,
    (refl, (refl, (refl, refl, refl, (refl, e, f.2, f.3), tt)), tt),
    ((refl, Plain, Opens Parenthesis ∷ [], refl), refl, refl),
  ),
  tt,
)

parens_meant : (a x s : Tree)
    → is_statement_form (in_front a (Node (Expression InStatement) (Whole (in_parens x))) s) ≡ true
unfolding held passed stands_behind may_lack
parens_meant a x s = refl

abbrev attributes_of : Tree → Tree
attributes_of (Second (Second (Second (Second (Pair (Called n (Node k a)) y))))) = a
attributes_of x = x

abbrev semicolon_of : Tree → Tree
semicolon_of (Second (Second (Second (Second (Pair a (Pair e s)))))) = s
semicolon_of x = x

parts_same : (a b x y s t : Tree) → a ≡ b → x ≡ y → s ≡ t
    → in_front a (held_form (in_parens x)) s ≡ in_front b (held_form (in_parens y)) t
parts_same a b x y s t e f g =
    ap (λ z. in_front z (held_form (in_parens x)) s) e ∙ ap (λ z. in_front b (held_form (in_parens z)) s) f
    ∙ ap (λ z. in_front b (held_form (in_parens y)) z) g

in_parens_fits : (a x s : Tree) → Fits (in_front a (Node (Expression InStatement) (Whole x)) s) statement
    → Fits (Node (Expression InStatement) (Whole (in_parens x))) (ref (Expression InStatement))
    → Fits (in_front a (Node (Expression InStatement) (Whole (in_parens x))) s) statement
in_parens_fits a x s f g =
    (f.0, (f.1.0, (f.1.1.0, (f.1.1.1.0, (f.1.1.1.1.0, ((f.1.1.1.1.1.0.0, g), f.1.1.1.1.1.1))))))

range_stands : (a x s w : Tree) → is_attributes a ≡ true → is_ranged a x ≡ true
    → given_to (normal a) (in_parens (formed InStatement [] x)) ≡ formed InStatement [] (given_to a x)
    → Fits w statement → kept w ≡ in_front (normal a) (held_form (formed InStatement [] x)) (normal s)
    → is_statement_form w ≡ true → Stands a x s
unfolding held
range_stands a x s w v e g f i n =
    let p = fourth_fits w f (ap is_fourth i) n in
    let h : in_front (kept p.front) (held_form (kept p.form)) (kept p.semicolon)
    ≡ in_front (normal a) (held_form (formed InStatement [] x)) (normal s) = sym (ap kept p.is) ∙ i in
    let o : kept p.form ≡ formed InStatement [] x = ap (λ z. form_of (expression_of z)) h in
    let u = parens_fit p.form p.fits (ap (formed Plain []) o ∙ settled_inside a x e g ∙ sym o) in
    record {
      tree = in_front p.front (Node (Expression InStatement) (Whole (in_parens p.form))) p.semicolon;
      before = normal a;
      form = in_parens (formed InStatement [] x);
      fits = in_parens_fits p.front p.form p.semicolon (subst (λ z. Fits z statement) p.is f) u;
      kept_is = parts_same (kept p.front) (normal a) (kept p.form) (formed InStatement [] x) (kept p.semicolon)
          (normal s) (ap attributes_of h) o (ap semicolon_of h);
      attributes = attributes_normal a v;
      held_is = commutes a x (in_parens (formed InStatement [] x)) s (range_macro a x (formed InStatement [] x) e) g;
      meant = parens_meant p.front p.form p.semicolon;
    }

stands : (a x s w : Tree) → is_attributes a ≡ true
    → given_to (normal a) (enclosed (is_ranged a x) (formed InStatement [] x)) ≡ formed InStatement [] (given_to a x)
    → Fits w statement → kept w ≡ in_front (normal a) (held_form (formed InStatement [] x)) (normal s)
    → is_statement_form w ≡ true → Stands a x s
stands a x s w v g f i n = go (is_ranged a x) refl g
  where
    go : (b : Bool) → is_ranged a x ≡ b
        → given_to (normal a) (enclosed b (formed InStatement [] x)) ≡ formed InStatement [] (given_to a x)
        → Stands a x s
    go true e g = range_stands a x s w v e g f i n
    go false e g = record {
      tree = w;
      before = normal a;
      form = formed InStatement [] x;
      fits = f;
      kept_is = i;
      attributes = attributes_normal a v;
      held_is = commutes a x (formed InStatement [] x) s (same_macro x) g;
      meant = n;
    }

-- with its attributes in parentheses
left_macro : (x : Tree) → has_left_operand x ≡ true → is_macro x ≡ false
left_macro (Back l k y) e = refl
left_macro (Infix l k y r) e = refl
left_macro _ e = absurd (false≢true e)

left_brace : (x : Tree) → has_left_operand x ≡ true → is_brace_macro x ≡ false
left_brace (Back l k y) e = refl
left_brace (Infix l k y r) e = refl
left_brace _ e = absurd (false≢true e)

opened_macro : (a x : Tree) → opens_in a x ≡ true → is_macro (kept x) ≡ false
opened_macro (Again t b) (Back l ExprCast y) e = refl
opened_macro (Again t b) (Infix l k y r) e = refl
opened_macro (Again t b) _ e = absurd (false≢true e)
opened_macro _ x e = absurd (false≢true e)

paren_start : (ts : List Token) → sees parenthesis ts ≡ true → is_plain_start ts ≡ true
paren_start (Opens d ∷ ts) e = refl
paren_start _ e = absurd (false≢true e)

taker_meant : (x s : Tree) → Fits (Whole x) (table (Expression InStatement)) → sees parenthesis (flat (kept x)) ≡ true
    → has_left_operand (kept x) ≡ true
    → is_statement_form (in_front End (Node (Expression InStatement) (Whole x)) s) ≡ true
unfolding held passed table stands_behind
taker_meant x s f e h =
    ap (λ z. is_plain_start (flat z) && not (is_brace_macro z)) f.1
    ∙ ap (λ b. b && not (is_brace_macro (kept x))) (paren_start (flat (kept x)) e)
    ∙ ap not (left_brace (kept x) h)

taken_fits : (a x z s : Tree) → Fits (in_front a (Node (Expression InStatement) (Whole x)) s) statement
    → Fits (Whole z) (table (Expression InStatement))
    → Fits (in_front End (Node (Expression InStatement) (Whole z)) s) statement
unfolding held table has_step has_form_step
taken_fits a x z s f g = (
  f.0,
  (
    f.1.0,
    (
      f.1.1.0,
      (
        f.1.1.1.0,
        (
          (refl, (refl, refl, refl, tt, tt)),
          ((f.1.1.1.1.1.0.0, (refl, refl, refl, g, tt)), f.1.1.1.1.1.1),
        ),
      ),
    ),
  ),
)

no_macros : (a x v s : Tree) → is_macro x ≡ false → is_macro v ≡ false → v ≡ formed InStatement [] (given_to a x)
    → held_in_front End v (normal s) ≡ normal (held_in_front a x s)
unfolding place_of passed stands_behind
no_macros a x v s e f g =
    ap (λ b. cond (b && is_there (normal s)) (held_macro End (own_part v) (normal s))
    (at_expression (held_form v) (normal s))) f
    ∙ ap (λ z. at_expression (held_form z) (normal s)) g
    ∙ ap (λ b. normal (cond (b && is_there s) (held_macro a (own_part x) s)
    (at_expression (held_form (given_to a x)) s))) (sym e)

taker_stands : (a x s w : Tree) → Fits w statement
    → kept w ≡ in_front (normal a) (held_form (formed InStatement [] x)) (normal s) → is_statement_form w ≡ true
    → is_macro x ≡ false
    → ((c f : Tree) → Fits c (table OuterAttributes) → kept c ≡ normal a
    → Fits (Whole f) (table (Expression InStatement)) → kept f ≡ formed InStatement [] x → Taker (given_to a x))
    → Stands a x s
unfolding held
taker_stands a x s w f i n m g =
    let p = fourth_fits w f (ap is_fourth i) n in
    let h : in_front (kept p.front) (held_form (kept p.form)) (kept p.semicolon)
    ≡ in_front (normal a) (held_form (formed InStatement [] x)) (normal s) = sym (ap kept p.is) ∙ i in
    let u =
    g p.front p.form p.attributes.3 (ap attributes_of h) p.fits (ap (λ z. form_of (expression_of z)) h) in
    record {
      tree = in_front End (Node (Expression InStatement) (Whole u.tree)) p.semicolon;
      before = End;
      form = kept u.tree;
      fits = taken_fits p.front p.form u.tree p.semicolon (subst (λ z. Fits z statement) p.is f) u.fits;
      kept_is = ap (in_front End (held_form (kept u.tree))) (ap semicolon_of h);
      attributes = refl;
      held_is = no_macros a x (kept u.tree) s m (left_macro (kept u.tree) u.has_left) u.kept_is;
      meant = taker_meant u.tree p.semicolon u.fits u.begins u.has_left;
    }

expression_law : GivenLaw → TakenLaw → (q : Position) (x : Tree) (r : List Token) → IsExpression x r → Law q r x
unfolding held passed has_step has_form_step place_of stands_behind table
expression_law given taken q x r h =
    subst (Law q r) (sym h.is)
    (λ o d i.
    let n : is_statement_form i.tree ≡ true =
    expression_printed (kept h.front) (kept h.form) (kept h.semicolon) i.tree i.fits i.kept_is h.plain in
    let b = attributes_kept h.front (attributes_read h.front _ h.attributes) in
    stands_printed q (kept h.front) (kept h.form) (kept h.semicolon)
    (go i.tree i.fits i.kept_is n b (opens_in h.front h.form) refl) b)
  where
    go : (w : Tree) → Fits w statement
        → kept w ≡ in_front (normal (kept h.front)) (held_form (formed InStatement [] (kept h.form)))
        (normal (kept h.semicolon)) → is_statement_form w ≡ true → is_attributes (kept h.front) ≡ true
        → (b : Bool) → opens_in h.front h.form ≡ b → Stands (kept h.front) (kept h.form) (kept h.semicolon)
    go w f i n v false e =
        stands (kept h.front) (kept h.form) (kept h.semicolon) w v
        (given_formed given h.front h.form h.semicolon r h.attributes h.derived e) f i n
    go w f i n v true e =
        taker_stands (kept h.front) (kept h.form) (kept h.semicolon) w f i n (opened_macro h.front h.form e)
        (taken_formed taken h.front h.form h.semicolon r h.attributes h.derived e)

-- a macro
abbrev macro_part : Tree → Tree
macro_part (Second (First (Pair a (Pair m s)))) = m
macro_part x = x

macro_printed : (x w : Tree) → Fits w statement → kept w ≡ normal_in Plain (kept (Second (First x)))
    → is_macro_form x ≡ true → (is_statement_form w ≡ true) × (as_statement (kept w) ≡ kept w)
unfolding may_lack table
macro_printed (Pair a (Pair m s)) (Second (First (Pair o (Pair y t)))) f e n = (
  own_back y f.1.1.1.0 (subst (λ z. is_brace_macro (Alone ExprMacro z) ≡ true) (sym (ap macro_part e))
      (macro_read InStatement refl (Alone ExprMacro m) n)),
  refl,
)
macro_printed (Pair a (Pair m s)) (Second (First (Pair o _))) f e n = absurd f.1.1.1
macro_printed (Pair a (Pair m s)) (Second (First _)) f e n = absurd f.1.1
macro_printed (Pair a (Pair m s)) (Second (Second w)) f e n = cc e
macro_printed (Pair a (Pair m s)) (Second _) f e n = absurd f.1
macro_printed (Pair a (Pair m s)) (First w) f e n = cc e
macro_printed (Pair a (Pair m s)) _ f e n = absurd f
macro_printed (Pair a _) w f e n = absurd (false≢true n)
macro_printed _ w f e n = absurd (false≢true n)

pub law_a_statement : GivenLaw → TakenLaw → KindLaw AStatement
unfolding has_step has_form_step held passed place_of table
law_a_statement given taken = record { entry = λ q l. simple_law Plain statement refl; node = go }
  where
    go : (q : Position) → IsPlaced q AStatement → (x : Tree) (r : List Token) → is_statement_form x ≡ true
        → Derives x (table AStatement) r → Printed (table AStatement) (normal_in (passed AStatement q) (kept x))
        → Printed (ref AStatement) (normal_in q (Node (held AStatement) (as_statement (kept x))))
    go q l (Second (Second (First x))) r o d i =
        let s = let_printed x i.tree i.fits i.kept_is in
        record {
          tree = Node AStatement i.tree;
          fits = (refl, refl, ap flat s.1, i.fits, s.0);
          kept_is = ap (Node AStatement) (s.1 ∙ i.kept_is);
        }
    go q l (Second (Second (Second (First (Node k x))))) r o d i =
        let e = sym d.1.1.1.1.0 in
        subst (λ j. Law q r (Second (Second (Second (First (Node j x)))))) e
        (item_law q x r (subst (λ j. Derives x (table j) r) d.1.1.1.1.0 d.1.1.1.1.1)) o d i
    go q l (Second (Second (Second (First _)))) r o d i = cc o
    go q l (Second (Second (Second (Second x)))) r o d i =
        expression_law given taken q (Second (Second (Second (Second x)))) r (is_read x r d.1.1.1.1 o) o d i
    go q l (Second (Second (Second _))) r o d i = absurd d.1.1.1
    go q l (Second (Second _)) r o d i = absurd d.1.1
    go q l (Second (First x)) r o d i =
        let s = macro_printed x i.tree i.fits i.kept_is o in
        record {
          tree = Node AStatement i.tree;
          fits = (refl, refl, ap flat s.1, i.fits, s.0);
          kept_is = ap (Node AStatement) (s.1 ∙ i.kept_is);
        }
    go q l (Second _) r o d i = absurd d.1
    go q l (First (Node k x)) r o d i =
        let e = sym d.1.0 in
        subst (λ j. Law q r (First (Node j x))) e
        (named_law q x r (subst (λ j. Derives x (table j) r) d.1.0 d.1.1)) o d i
    go q l (First _) r o d i = cc o
    go q l _ r o d i = absurd d

-- lists of them
abbrev pub a_turn : Gram
a_turn = when marks ";" read sign ";" else ref AStatement

-- The statements that are taken are macros, lets, items and expressions.
abbrev at_macro : Kind → Tree → Kind → Tree → Tree → Tree
at_macro k o l y s = Second (First (Pair (Node k o) (Pair (Node l y) s)))

pub each_form : (P : Tree → Type 0)
    → ((k l : Kind) (o y s : Tree) → Fits s (optional (marks ";") (the_semicolon ∶ sign ";"))
    → is_brace_macro (Alone ExprMacro (Node l y)) ≡ true → P (at_macro k o l y s))
    → ((k l : Kind) (o y : Tree) → P (Second (Second (First (Pair (Node k o) (Node l y))))))
    → ((y : Tree) → Fits y (table AnItem) → is_statement_item y ≡ true → P (at_item y))
    → ((y : Tree) → P (First (Node AnItem (First y))))
    → ((a x s : Tree) → is_attributes a ≡ true → Fits (Whole x) (table (Expression InStatement))
    → Fits s (optional (marks ";") (the_semicolon ∶ sign ";"))
    → P (in_front a (Node (Expression InStatement) (Whole x)) s))
    → (x : Tree) → Fits x (table AStatement) → is_statement_form x ≡ true → P x
unfolding table
each_form P call one other named third (Second (Second (First (Pair (Node k o) (Node l y))))) f n = one k l o y
each_form P call one other named third (Second (Second (First (Pair (Node k o) _)))) f n = absurd f.1.1.1.1
each_form P call one other named third (Second (Second (First (Pair _ y)))) f n = absurd f.1.1.1.0
each_form P call one other named third (Second (Second (First _))) f n = absurd f.1.1.1
each_form P call one other named third (Second (Second (Second (First (Node k y))))) f n =
    subst (λ j. P (Second (Second (Second (First (Node j y)))))) (sym f.1.1.1.1.0)
    (other y (subst (λ j. Fits y (table j)) f.1.1.1.1.0 f.1.1.1.1.3) n)
each_form P call one other named third (Second (Second (Second (First _)))) f n = absurd f.1.1.1.1
each_form P call one other named third (Second (Second (Second (Second x)))) f n =
    let e = fits_expression x f.1.1.1.1 n in
    subst P (sym e.is) (third e.front e.form e.semicolon (attributes_fit e.front e.attributes) e.fits e.ended)
each_form P call one other named third (Second (Second (Second _))) f n = absurd f.1.1.1
each_form P call one other named third (Second (Second _)) f n = absurd f.1.1
each_form P call one other named third (Second (First (Pair (Node k o) (Pair (Node l y) s)))) f n = call k l o y s
    f.1.1.1.1 n
each_form P call one other named third (Second (First (Pair (Node k o) (Pair _ s)))) f n = absurd f.1.1.1.0
each_form P call one other named third (Second (First (Pair (Node k o) _))) f n = absurd f.1.1.1
each_form P call one other named third (Second (First (Pair _ y))) f n = absurd f.1.1.0
each_form P call one other named third (Second (First _)) f n = absurd f.1.1
each_form P call one other named third (Second _) f n = absurd f.1
each_form P call one other named third (First (Node k (First y))) f n =
    subst (λ j. P (First (Node j (First y)))) (sym f.1.0) (named y)
each_form P call one other named third (First (Node k _)) f n = absurd (false≢true n)
each_form P call one other named third (First _) f n = absurd f.1
each_form P call one other named third _ f n = absurd f

-- an expression without its ; as it was read, and as it is printed
abbrev open_turn : Tree → Tree → Tree
open_turn a x = Second (Node AStatement (in_front a (Node (Expression InStatement) (Whole x)) (Second Nil)))

held_open : (a x : Tree) → is_attributes a ≡ true → as_statement (in_front a (held_form x) (Second Nil))
    ≡ at_expression (held_form (given_to a x)) (Second Nil)
held_open a x e = is_held a x (Second Nil) e ∙ go (is_macro x)
  where
    go : (b : Bool) → cond (b && false) (held_macro a (own_part x) (Second Nil))
        (at_expression (held_form (given_to a x)) (Second Nil))
        ≡ at_expression (held_form (given_to a x)) (Second Nil)
    go true = refl
    go false = refl

-- as it is held, of what was read
pub open_as : (a x : Tree) → is_attributes a ≡ true
    → as_statement (kept (in_front a (Node (Expression InStatement) (Whole x)) (Second Nil)))
    ≡ at_expression (held_form (given_to (kept a) (kept x))) (Second Nil)
unfolding held
open_as a x e = held_open (kept a) (kept x) (attributes_kept a e)

open_raw : (x : Tree) → is_open (Second (First (apart_raw x))) ≡ is_open (Second (First x))
open_raw (Node AnItem (Raw ts)) = refl
open_raw _ = refl

open_apart : (b : Bool) (x : Tree) → is_open_turn (apart_if b (Second (Node AStatement x))) ≡ is_open x
open_apart false x = refl
open_apart true (First x) = refl
open_apart true (Second (First x)) = open_raw x
open_apart true (Second (Second (First x))) = refl
open_apart true (Second (Second (Second (First x)))) = refl
open_apart true (Second (Second (Second (Second (First x))))) = refl
open_apart true (Second (Second (Second (Second (Second x))))) = refl
open_apart true _ = refl

open_normal : (x : Tree) → is_open (normal x) ≡ is_open x
open_normal (Second (First (Pair a (Pair m s)))) = ap not (there_same s)
open_normal (Second (Second (Second (Second (Pair a (Pair e s)))))) = ap not (there_same s)
open_normal _ = refl

closed_as : (a x z : Tree) → is_attributes a ≡ true
    → is_open (as_statement (in_front a (held_form x) (First z))) ≡ false
closed_as a x z e = ap is_open (is_held a x (First z) e) ∙ go (is_macro x)
  where
    go : (b : Bool) → is_open (cond (b && true) (held_macro a (own_part x) (First z))
        (at_expression (held_form (given_to a x)) (First z))) ≡ false
    go true = refl
    go false = refl

record Read (x : Tree) : Type 0 where
  front : Tree
  form : Tree
  is : x ≡ in_front front (Node (Expression InStatement) (Whole form)) (Second Nil)
  attributes : is_attributes front ≡ true

abbrev pub is_macro_statement : Tree → Bool
is_macro_statement (Second (First x)) = true
is_macro_statement _ = false

open_read : (x : Tree) (r : List Token) → Derives x (table AStatement) r → is_statement_form x ≡ true
    → is_open (as_statement (kept x)) ≡ true → is_macro_statement x ≡ false → Read x
unfolding held table
open_read (Second (Second (Second (Second y)))) r d n o c =
    let e = is_read y r d.1.1.1.1 n in
    go e.front e.form e.semicolon (attributes_read e.front _ e.attributes) e.is
    (subst (λ z. Derives z (table AStatement) r) e.is d)
    (subst (λ z. is_open (as_statement (kept z)) ≡ true) e.is o)
  where
    go : (a x s : Tree) → is_attributes a ≡ true
        → Second (Second (Second (Second y))) ≡ in_front a (Node (Expression InStatement) (Whole x)) s
        → Derives (in_front a (Node (Expression InStatement) (Whole x)) s) (table AStatement) r
        → is_open (as_statement (kept (in_front a (Node (Expression InStatement) (Whole x)) s))) ≡ true
        → Read (Second (Second (Second (Second y))))
    go a x (First z) i e d o =
        absurd (false≢true (sym (closed_as (kept a) (kept x) (kept z) (attributes_kept a i)) ∙ o))
    go a x (Second Nil) i e d o = record { front = a; form = x; is = e; attributes = i }
    go a x (Second _) i e d o = absurd d.1.1.1.1.1.1.1
    go a x _ i e d o = absurd d.1.1.1.1.1.1
open_read (Second (Second (Second (First x)))) r d n o c = absurd (false≢true o)
open_read (Second (Second (Second _))) r d n o c = absurd d.1.1.1
open_read (Second (Second (First x))) r d n o c = absurd (false≢true o)
open_read (Second (Second _)) r d n o c = absurd d.1.1
open_read (Second (First x)) r d n o c = absurd (false≢true (sym c))
open_read (Second _) r d n o c = absurd d.1
open_read (First x) r d n o c = absurd (false≢true o)
open_read _ r d n o c = absurd d

pub record IsOpen (x : Tree) : Type 0 where
  pub front : Tree
  pub form : Tree
  pub is : x ≡ in_front front (Node (Expression InStatement) (Whole form)) (Second Nil)
  pub attributes : is_attributes front ≡ true
  pub fits : Fits (Whole form) (table (Expression InStatement))

pub open_fits : (x : Tree) → Fits x (table AStatement) → is_statement_form x ≡ true → is_open x ≡ true
    → is_macro_statement x ≡ false → IsOpen x
open_fits x f n = each_form (λ y. is_open y ≡ true → is_macro_statement y ≡ false → IsOpen y)
    (λ k l o y s g h e c. absurd (false≢true (sym c))) (λ k l o y e c. absurd (false≢true e))
    (λ y g i e c. absurd (false≢true e)) (λ y e c. absurd (false≢true e)) go x f n
  where
    go : (a x s : Tree) → is_attributes a ≡ true → Fits (Whole x) (table (Expression InStatement))
        → Fits s (optional (marks ";") (the_semicolon ∶ sign ";"))
        → is_open (in_front a (Node (Expression InStatement) (Whole x)) s) ≡ true
        → is_macro_statement (in_front a (Node (Expression InStatement) (Whole x)) s) ≡ false
        → IsOpen (in_front a (Node (Expression InStatement) (Whole x)) s)
    go a x (First z) i g h e c = absurd (false≢true e)
    go a x (Second Nil) i g h e c = record { front = a; form = x; is = refl; attributes = i; fits = g }
    go a x (Second _) i g h e c = absurd h.1
    go a x _ i g h e c = absurd h

abbrev turn_expression : Tree → Tree
turn_expression (Second (Node k x)) = expression_of x
turn_expression x = x

record Opened (t u : Tree) : Type 0 where
  before : Tree
  source : Tree
  front : Tree
  made : Tree
  source_is : t ≡ open_turn before source
  made_is : u ≡ open_turn front made
  attributes : is_attributes before ≡ true
  fits : Fits (Whole made) (table (Expression InStatement))
  same : given_to (kept front) (kept made) ≡ formed InStatement [] (given_to (kept before) (kept source))

same_form : (b : Bool) (q : Position) (a x c y : Tree) → is_attributes a ≡ true → is_attributes c ≡ true
    → kept (open_turn c y) ≡ apart_if b (normal_in q (kept (open_turn a x)))
    → given_to (kept c) (kept y) ≡ formed InStatement [] (given_to (kept a) (kept x))
unfolding held passed place_of stands_behind
same_form b q a x c y i j e =
    ap (λ z. form_of (turn_expression z))
    (ap (λ z. Second (Node AStatement z)) (sym (open_as c y j)) ∙ e
    ∙ ap (λ z. apart_if b (Second (Node AStatement (normal z)))) (open_as a x i) ∙ stays b)
  where
    z : Tree
    z = Second (Node AStatement (normal (at_expression (held_form (given_to (kept a) (kept x))) (Second Nil))))

    stays : (b : Bool) → apart_if b z ≡ z
    stays true = refl
    stays false = refl

taken : (x : Tree) (l : Kind) → l ≡ AStatement → all_covered (Second (Node l x)) ≡ true → is_statement_form x ≡ true
taken x l e c =
    (both_true (is_statement_form x) (all_covered x)
    (both_true (is_known AStatement) (is_statement_form x && all_covered x)
    (subst (λ j. all_covered (Second (Node j x)) ≡ true) e c)).1).0

pub open_kept : (w : Tree) → Fits w (table AStatement) → is_statement_form w ≡ true → is_open w ≡ true
    → is_open (as_statement (kept w)) ≡ true
unfolding held
open_kept w f n = each_form (λ y. is_open y ≡ true → is_open (as_statement (kept y)) ≡ true) call
    (λ k l o y e. absurd (false≢true e)) (λ y g i e. absurd (false≢true e)) (λ y e. absurd (false≢true e)) go w f n
  where
    call : (k l : Kind) (o y s : Tree) → Fits s (optional (marks ";") (the_semicolon ∶ sign ";"))
        → is_brace_macro (Alone ExprMacro (Node l y)) ≡ true → is_open (at_macro k o l y s) ≡ true
        → is_open (as_statement (kept (at_macro k o l y s))) ≡ true
    call k l o y (First z) g h e = absurd (false≢true e)
    call k l o y (Second z) g h e = refl
    call k l o y _ g h e = absurd g

    go : (a x s : Tree) → is_attributes a ≡ true → Fits (Whole x) (table (Expression InStatement))
        → Fits s (optional (marks ";") (the_semicolon ∶ sign ";"))
        → is_open (in_front a (Node (Expression InStatement) (Whole x)) s) ≡ true
        → is_open (as_statement (kept (in_front a (Node (Expression InStatement) (Whole x)) s))) ≡ true
    go a x (First z) i g h e = absurd (false≢true e)
    go a x (Second Nil) i g h e = ap is_open (open_as a x i)
    go a x (Second _) i g h e = absurd h.1
    go a x _ i g h e = absurd h

pub open_held : (l k : Kind) (x w : Tree) (q : Position) (b : Bool) → l ≡ AStatement → Fits (Second (Node k w)) a_turn
    → kept (Second (Node k w)) ≡ apart_if b (normal_in q (kept (Second (Node l x)))) → is_open w ≡ true
    → is_open (as_statement (kept x)) ≡ true
unfolding held passed
open_held l k x w q b g f e o =
    let h : kept (Second (Node AStatement w)) ≡ apart_if b (normal_in q (kept (Second (Node AStatement x)))) =
    subst (λ j. kept (Second (Node j w)) ≡ apart_if b (normal_in q (kept (Second (Node AStatement x))))) f.1.0
    (subst (λ j. kept (Second (Node k w)) ≡ apart_if b (normal_in q (kept (Second (Node j x))))) g e) in
    sym (open_normal (as_statement (kept x))) ∙ sym (open_apart b (normal (as_statement (kept x))))
    ∙ sym (ap is_open_turn h)
    ∙ open_kept w (subst (λ j. Fits w (table j)) f.1.0 f.1.3) (subst (λ j. IsMeant j w) f.1.0 f.1.4) o

-- one that is no macro was read as none
abbrev is_macro_turn : Tree → Bool
is_macro_turn (Second (Node k x)) = is_macro_statement x
is_macro_turn x = false

macro_apart : (b : Bool) (x : Tree) → is_macro_turn (apart_if b (Second (Node AStatement (Second (First x))))) ≡ true
macro_apart true x = refl
macro_apart false x = refl

as_none : (x w : Tree) (q : Position) (b : Bool) (i : IsOpen w)
    → kept (open_turn i.front i.form) ≡ apart_if b (normal_in q (kept (Second (Node AStatement x))))
    → is_macro_statement x ≡ false
unfolding held passed
as_none (Second (First x)) w q b i e =
    absurd (false≢true (ap is_macro_statement (sym (open_as i.front i.form i.attributes)) ∙ ap is_macro_turn e
    ∙ macro_apart b (normal (kept x))))
as_none _ w q b i e = refl

-- a turn that was read, or a statement by itself
abbrev pub IsTurn : Tree → List Token → Type 0
IsTurn (Second x) r = Derives x (ref AStatement) r
IsTurn t r = Derives t a_turn r

pub is_turn : (t : Tree) (r : List Token) → Derives t a_turn r → IsTurn t r
is_turn (Second x) r d = d.1
is_turn _ r d = d

opened : (t u : Tree) (q : Position) (b : Bool) (r : List Token) → all_covered t ≡ true → IsTurn t r
    → Fits u a_turn → kept u ≡ apart_if b (normal_in q (kept t)) → is_open_turn u ≡ true → is_macro_turn u ≡ false
    → Opened t u
unfolding held passed
opened (Second (Node l x)) (Second (Node k w)) q b r c d f e o z =
    let p = open_fits w (subst (λ j. Fits w (table j)) f.1.0 f.1.3) (subst (λ j. IsMeant j w) f.1.0 f.1.4) o z in
    let u : Second (Node k w) ≡ open_turn p.front p.form =
    ap (λ j. Second (Node j w)) f.1.0 ∙ ap (λ z. Second (Node AStatement z)) p.is in
    let g : kept (open_turn p.front p.form) ≡ apart_if b (normal_in q (kept (Second (Node AStatement x)))) =
    subst (λ z. kept z ≡ apart_if b (normal_in q (kept (Second (Node AStatement x))))) u
    (subst (λ j. kept (Second (Node k w)) ≡ apart_if b (normal_in q (kept (Second (Node j x))))) d.0 e) in
    let m = open_held l k x w q b d.0 f e o in
    let i = open_read x r (subst (λ j. Derives x (table j) r) d.0 d.1) (taken x l d.0 c) m (as_none x w q b p g) in
    let t : Second (Node l x) ≡ open_turn i.front i.form =
    ap (λ j. Second (Node j x)) d.0 ∙ ap (λ z. Second (Node AStatement z)) i.is in
    record {
      before = i.front;
      source = i.form;
      front = p.front;
      made = p.form;
      source_is = t;
      made_is = u;
      attributes = i.attributes;
      fits = p.fits;
      same = same_form b q i.front i.form p.front p.form i.attributes p.attributes (subst
          (λ z. kept (open_turn p.front p.form) ≡ apart_if b (normal_in q (kept (Second (Node AStatement z))))) i.is g);
    }
opened (Second (Node l x)) (Second _) q b r c d f e o z = absurd (false≢true o)
opened (Second (Node l x)) _ q b r c d f e o z = absurd (false≢true o)
opened (Second _) u q b r c d f e o z = absurd d
opened (First (AMark m ms spacing)) (Second (Node k w)) q b r c d f e o z =
    let p = open_fits w (subst (λ j. Fits w (table j)) f.1.0 f.1.3) (subst (λ j. IsMeant j w) f.1.0 f.1.4) o z in
    let u : Second (Node k w) ≡ open_turn p.front p.form =
    ap (λ j. Second (Node j w)) f.1.0 ∙ ap (λ z. Second (Node AStatement z)) p.is in
    absurd (false≢true (sym (no_turn b)
    ∙ sym (ap is_open_turn (subst (λ z. kept z ≡ apart_if b (First (AMark m ms Apart))) u e))
    ∙ ap is_open (open_as p.front p.form p.attributes)))
  where
    no_turn : (b : Bool) → is_open_turn (apart_if b (First (AMark m ms Apart))) ≡ false
    no_turn true = refl
    no_turn false = refl
opened (First (AMark m ms spacing)) _ q b r c d f e o z = absurd (false≢true o)
opened (First _) u q b r c d f e o z = absurd d.1
opened _ u q b r c d f e o z = absurd d

-- One that is open needs a ; unless it ends there; of others it is known that they need none.
macro_needs : (k l : Kind) (o y s : Tree) → Fits s (optional (marks ";") (the_semicolon ∶ sign ";"))
    → needs_semicolon (Node AStatement (at_macro k o l y s)) ≡ false
unfolding same_part
macro_needs k l o y (First (Called n z)) g =
    ap (λ j. needs_semicolon (Node AStatement (at_macro k o l y (First (Called j z))))) g.1.0
macro_needs k l o y (First _) g = absurd g.1
macro_needs k l o y (Second Nil) g = refl
macro_needs k l o y (Second _) g = absurd g.1
macro_needs k l o y _ g = absurd g

abbrev is_open_expression : Tree → Bool
is_open_expression x = is_open x && not (is_macro_statement x)

form_needs : (x : Tree) → Fits x (table AStatement) → is_statement_form x ≡ true → is_open_expression x ≡ false
    → needs_semicolon (Node AStatement x) ≡ false
unfolding same_part
form_needs x f n =
    each_form (λ y. is_open_expression y ≡ false → needs_semicolon (Node AStatement y) ≡ false)
    (λ k l o y s g h e. macro_needs k l o y s g) (λ k l o y e. refl) (λ y g i e. refl) (λ y e. refl) go x f n
  where
    go : (a x s : Tree) → is_attributes a ≡ true → Fits (Whole x) (table (Expression InStatement))
        → Fits s (optional (marks ";") (the_semicolon ∶ sign ";"))
        → is_open_expression (in_front a (Node (Expression InStatement) (Whole x)) s) ≡ false
        → needs_semicolon (Node AStatement (in_front a (Node (Expression InStatement) (Whole x)) s)) ≡ false
    go a x (First (Called n z)) i g h e =
        ap (λ j. needs_semicolon (Node AStatement
        (in_front a (Node (Expression InStatement) (Whole x)) (First (Called j z))))) h.1.0
    go a x (First _) i g h e = absurd h.1
    go a x (Second Nil) i g h e = absurd (false≢true (sym e))
    go a x (Second _) i g h e = absurd h.1
    go a x _ i g h e = absurd h

pub needs_not : (b : Bool) → not b ≡ false → b ≡ true
needs_not true e = refl
needs_not false e = cc e

pub open_needs : (a x : Tree) → needs_semicolon (choice (open_turn a x)) ≡ not (ends_there InStatement x)
unfolding same_part
open_needs a x = refl

pub turn_needs : (t u : Tree) (q : Position) (b : Bool) (r : List Token) → all_covered t ≡ true → IsTurn t r
    → Fits u a_turn → kept u ≡ apart_if b (normal_in q (kept t)) → needs_semicolon (choice t) ≡ false
    → needs_semicolon (choice u) ≡ false
unfolding table
turn_needs t (First (AMark m ms spacing)) q b r c d f e n = refl
turn_needs t (First _) q b r c d f e n = absurd f.1
turn_needs t (Second (Node k w)) q b r c d f e n = go (is_open_expression w) refl
  where
    go : (o : Bool) → is_open_expression w ≡ o → needs_semicolon (Node k w) ≡ false
    go false i =
        ap (λ j. needs_semicolon (Node j w)) f.1.0
        ∙ form_needs w (subst (λ j. Fits w (table j)) f.1.0 f.1.3) (subst (λ j. IsMeant j w) f.1.0 f.1.4) i
    go true i =
        let m = both_true (is_open w) (not (is_macro_statement w)) i in
        let a = opened t (Second (Node k w)) q b r c d f e m.0 (is_false (is_macro_statement w) m.1) in
        let h : ends_there InStatement a.source ≡ true =
        needs_not (ends_there InStatement a.source)
        (sym (open_needs a.before a.source) ∙ ap (λ z. needs_semicolon (choice z)) (sym a.source_is) ∙ n) in
        ap (λ z. needs_semicolon (choice z)) a.made_is ∙ open_needs a.front a.made
        ∙ ap not (ends_back InStatement a.made a.fits.2 (ends_given (kept a.front) (kept a.made)
        (ap (ends_there InStatement) a.same ∙ given_ends a.before a.source a.attributes h)))
turn_needs t (Second _) q b r c d f e n = absurd f.1
turn_needs t _ q b r c d f e n = absurd f
