-- A tree that was read is formed: it gains the parentheses of its ranges behind attributes, and no others.
use Rattle.std.proofs.Common.{◌≡◌, List, [], ◌∷◌, ◌++◌, refl, sym, ap, ◌∙◌, append_assoc, subst}
use Rattle.std.specs.Prelude.{Bool, true, false, not, ◌||◌, cond, Some}
use Rattle.proc_macro2.specs.Token.{Token, Punct}
use Rattle.syn_grammar.specs.Kind.{Kind, Position, Plain, InCondition, InStatement, Expression, AStatement}
use Rattle.syn_grammar.specs.Kind.{Where, OuterAttributes, OuterAttribute, ExprAttributed, ExprCast}
use Rattle.syn_grammar.specs.Name.{the_attributes, the_expression}
use Rattle.syn_grammar.specs.Tree.{Tree, AWord, ALiteral, AMark, ALifetime, Raw, Nil, Pair, First, Second, End, Again}
use Rattle.syn_grammar.specs.Tree.{Final, More, Group, Dropped, Called, Verbatim, Node, Whole, Alone, Front, Back}
use Rattle.syn_grammar.specs.Tree.{Infix, flat}
use Rattle.syn_grammar.specs.Gram.{Gram, seq, alt, star, many, group, judged, called, ref, operand}
use Rattle.syn_grammar.specs.Look.{Look, sees}
use Rattle.syn_grammar.specs.Say.{brace, marks}
use Rattle.syn_grammar.specs.Table.{table}
use Rattle.syn_grammar.specs.Derives.{Derives, Bound}
use Rattle.syn_grammar.specs.Forms.{Case, form, first_form, fronts, backs, front, back, inside, is_dotted, is_range}
use Rattle.syn_grammar.specs.Forms.{ends_there, may_be_left, level, stands_left}
use Rattle.syn_grammar.specs.Kept.{kept, held}
use Rattle.syn_grammar.specs.Normal.{place_of, passed, stands_behind, formed}
use Rattle.syn_grammar.proofs.Whole.{and_true}
use Rattle.laws_binding.proofs.Leads.{is_nil}
use Rattle.laws_binding.proofs.Sights.{backs_are}
use Rattle.laws_items.proofs.Statements.{first_passes}
use Rattle.laws_ranges.specs.Shelled.{shelled}
use Rattle.laws_ranges.proofs.Given.{given_shelled, infix_level, may_plain}
use Rattle.laws_ranges.proofs.Held.{gains_shells}
use Rattle.writer_rules.specs.Turns.{is_raw_turn}
use Rattle.writer_read.specs.Formed.{GainsGiven, GivesOn, HasFormed, HasGiven, IsFormed, IsFormedStatement}
use Rattle.writer_read.specs.Formed.{own_position}
use Rattle.writer_read.proofs.Fits.{begins_brace, is_position, is_condition, is_turn, fits, is_expression, all_fit}
use Rattle.writer_read.proofs.Fits.{position_is, brace_first}
use Rattle.writer_read.proofs.Apart.{alt_two, turn_apart}

not_false : (b : Bool) → not b ≡ true → b ≡ false
not_false true e = cc
not_false false e = refl

no_flag : {A : Type 0} → false ≡ true → A
no_flag e = cc

front_kind : (p : Position) (ts : List Token) (k : Kind) → front p ts ≡ Some k → is_expression k ≡ false
unfolding front
front_kind p ts k e = not_false (is_expression k) (first_passes (λ j. not (is_expression j)) (fronts p) ts k refl e)

back_kind : (p : Position) (ts : List Token) (k : Kind) → back p ts ≡ Some k → is_expression k ≡ false
unfolding back
back_kind p ts k e = not_false (is_expression k) (first_passes (λ j. not (is_expression j)) (backs p) ts k refl e)

-- the attributes of a statement
abbrev behind_first : List Case → List Case
behind_first [] = []
behind_first (c ∷ cases) = cases

first_head : (k : Kind) (l : Look) (cases : List Case) (ts : List Token) → sees l ts ≡ true
    → first_form (form k l ∷ cases) ts ≡ Some k
first_head k l cases ts e = ap (λ b. cond b (Some k) (first_form cases ts)) e

attributes_seen : (ts : List Token) → sees (marks "#") ts ≡ true → front InStatement ts ≡ Some ExprAttributed
unfolding front
attributes_seen ts e = first_head ExprAttributed (marks "#") (behind_first (fronts InStatement)) ts e

-- on the way to the leftmost operand stands no range
gives_on : (x : Tree) (p : Position) (rest : List Token) → Bound p x rest → GivesOn x
unfolding stands_left level
gives_on (Infix l k y r) p rest d =
    let i = infix_level k p _ (backs_are p k _ d.0) d.2 in
    let m = and_true (may_be_left k l) (not (ends_there p l) || is_dotted k) d.3.0 in
    (not_false (is_range l) (sym (may_plain k l i.0) ∙ m.0), gives_on l p (flat y ++ (flat r ++ rest)) d.4)
gives_on (Back l ExprCast y) p rest d =
    let m = and_true (may_be_left ExprCast l) (not (ends_there p l) || is_dotted ExprCast) d.3.0 in
    (not_false (is_range l) (sym (may_plain ExprCast l refl) ∙ m.0), gives_on l p (flat y ++ rest) d.4)
gives_on (Back l k y) p rest d = tt
gives_on _ p rest d = tt

raw_attribute : (t : Tree) (r : List Token) → Derives t (ref OuterAttribute) r → is_raw_turn t ≡ false
raw_attribute (Node k x) r d = refl
raw_attribute _ r d = absurd d

gains_given : (a s : Tree) (q : Position) (z : Tree) (r : List Token)
    → Derives a (table OuterAttributes) ((flat z ++ flat s) ++ r)
    → Derives (Node (Expression q) (Whole z)) (ref (Expression InStatement)) (flat s ++ r)
    → GainsGiven (Node OuterAttributes a) z
unfolding table held
gains_given End s q z r c d = tt
gains_given (Again t b) s q z r c d =
    let e = append_assoc (flat z) (flat s) r in
    let f : Derives (Node (Expression InStatement) (Whole z)) (ref (Expression InStatement)) (flat s ++ r) =
    subst (λ k. Derives (Node k (Whole z)) (ref (Expression InStatement)) (flat s ++ r)) d.0 d in (
      given_shelled z (flat s ++ r) (Pair t (Node OuterAttributes b)) f (
        subst (λ us. Derives t (ref OuterAttribute) (flat b ++ us)) e c.1,
        (refl, subst (Derives b (table OuterAttributes)) e c.2),
      )
          (attributes_seen _ (ap (λ us. sees (marks "#") ((flat t ++ flat b) ++ us)) (sym e) ∙ c.0)),
      gives_on z InStatement (flat s ++ r) f.1.1,
      raw_attribute t _ c.1,
    )
gains_given _ s q z r c d = absurd c

-- an expression with what stands before and behind it
abbrev expression_of : Gram → Gram
expression_of g = seq (called the_expression (ref (Expression InStatement))) g

added_form : (a f s : Tree) (r : List Token) → Derives a (table OuterAttributes) ((flat f ++ flat s) ++ r)
    → Derives f (ref (Expression InStatement)) (flat s ++ r)
    → HasGiven (Pair (Called the_attributes (Node OuterAttributes a)) (Pair (Called the_expression f) s))
unfolding table
added_form a (Node k (Whole z)) s r c d =
    subst (λ i. HasGiven (Pair (Called the_attributes (Node OuterAttributes a))
    (Pair (Called the_expression (Node i (Whole z))) s))) (sym d.0)
    (gains_given a s InStatement z r c
    (refl, subst (λ i. Derives (Whole z) (table i) (flat s ++ r)) d.0 d.1))
added_form a (Node k x) s r c d = absurd (subst (λ i. Derives x (table i) (flat s ++ r)) d.0 d.1)
added_form a _ s r c d = absurd d

added_expression : (a f s : Tree) (r : List Token) → Derives a (table OuterAttributes) ((flat f ++ flat s) ++ r)
    → Derives f (called the_expression (ref (Expression InStatement))) (flat s ++ r)
    → HasGiven (Pair (Called the_attributes (Node OuterAttributes a)) (Pair f s))
added_expression a (Called m f) s r c d =
    subst (λ i. HasGiven (Pair (Called the_attributes (Node OuterAttributes a)) (Pair (Called i f) s))) (sym d.0)
    (added_form a f s r c d.1)
added_expression a _ s r c d = absurd d

added_behind : (a y : Tree) (g : Gram) (r : List Token) → Derives a (table OuterAttributes) (flat y ++ r)
    → Derives y (expression_of g) r → HasGiven (Pair (Called the_attributes (Node OuterAttributes a)) y)
added_behind a (Pair f s) g r c d = added_expression a f s r c d.0
added_behind a _ g r c d = absurd d

added_node : (a y : Tree) (g : Gram) (r : List Token) → Derives a (ref OuterAttributes) (flat y ++ r)
    → Derives y (expression_of g) r → HasGiven (Pair (Called the_attributes a) y)
added_node (Node k a) y g r c d =
    subst (λ i. HasGiven (Pair (Called the_attributes (Node i a)) y)) (sym c.0)
    (added_behind a y g r (subst (λ i. Derives a (table i) (flat y ++ r)) c.0 c.1) d)
added_node _ y g r c d = absurd c

added_called : (a y : Tree) (g : Gram) (r : List Token)
    → Derives a (called the_attributes (ref OuterAttributes)) (flat y ++ r) → Derives y (expression_of g) r
    → HasGiven (Pair a y)
added_called (Called m a) y g r c d =
    subst (λ i. HasGiven (Pair (Called i a) y)) (sym c.0) (added_node a y g r c.1 d)
added_called _ y g r c d = absurd c

added : (x : Tree) (g : Gram) (r : List Token)
    → Derives x (seq (called the_attributes (ref OuterAttributes)) (expression_of g)) r → HasGiven x
added (Pair a y) g r d = added_called a y g r d.0 d.1
added _ g r d = absurd d

abbrev Kept : (Tree → Tree) → Tree → Type 0
Kept wrap x = IsFormedStatement (wrap x)

statement_formed : (x : Tree) (r : List Token) → Derives x (table AStatement) r → Kept (λ y. y) x
unfolding table
statement_formed x r d =
    alt_two (Kept (λ y. y)) x _ _ _ r d (λ y c. tt)
    (λ x1 d1. alt_two (Kept (λ y. Second y)) x1 _ _ _ r d1 (λ y c. tt)
    (λ x2 d2. alt_two (Kept (λ y. Second (Second y))) x2 _ _ _ r d2 (λ y c. tt)
    (λ x3 d3. alt_two (Kept (λ y. Second (Second (Second y)))) x3 _ _ _ r d3 (λ y c. tt)
    (λ x4 d4. added x4 _ r d4))))

-- a whole expression
condition_flag : (q : Position) (b : Bool) (r : List Token) → (b || not (is_condition q)) ≡ true
    → (b ≡ true → sees brace r ≡ true) → q ≡ InCondition → sees brace r ≡ true
condition_flag q true r f e i = e refl
condition_flag q false r f e i = no_flag (subst (λ j. not (is_condition j) ≡ true) i f)

whole_formed : (q : Position) (z : Tree) (r : List Token) → Derives (Whole z) (table (Expression q)) r
    → (q ≡ InCondition → sees brace r ≡ true) → formed q (stands_behind q) (kept z) ≡ shelled (kept z)
whole_formed q z r d f = gains_shells q z r (refl, d) f

mutual
  unfolding table passed

  fit : (x : Tree) (g : Gram) (p : Position) (b : Bool) (r : List Token) → Derives x g r → fits p b g ≡ true
      → (b ≡ true → sees brace r ≡ true) → IsFormed p x
  fit (Pair x y) (seq g h) p b r d f e =
      let w = and_true (fits p (begins_brace h) g) (fits p b h) f in
      (fit x g p (begins_brace h) (flat y ++ r) d.0 w.0 (λ i. brace_first h y r i d.1), fit y h p b r d.1 w.1 e)
  fit (First x) (alt t g h) p b r d f e = fit x g p b r d.1 (and_true (fits p b g) (fits p b h) f).0 e
  fit (Second x) (alt t g h) p b r d f e = fit x h p b r d.1 (and_true (fits p b g) (fits p b h) f).1 e
  fit (First x) (judged v g) p b r d f e = fit x g p b r d.1 f e
  fit (Again x y) (star t g) p b r d f e =
      let w = and_true (is_turn g) (fits p false g) f in
      let i = fit x g p false (flat y ++ r) d.1 w.1 (λ j. no_flag j) in
      (i, fit y (star t g) p b r d.2 f e, turn_apart p g t x y r w.0 d.1 d.2 i)
  fit (Final x) (many t c g) p b r d f e = fit x g p false r d.1 f (λ j. no_flag j)
  fit (More x m spacing y) (many t c g) p b r d f e =
      (fit x g p false (Punct m spacing ∷ flat y ++ r) d.2 f (λ j. no_flag j), fit y (many t c g) p b r d.3 f e)
  fit (Group o x) (group c g) p b r d f e = fit x g p false [] d.1 f (λ j. no_flag j)
  fit (Called m x) (called c g) p b r d f e =
      fit x g (place_of m) b r d.1 (subst (λ i. fits (place_of i) b g ≡ true) (sym d.0) f) e
  fit (Node k x) (ref l) p b r d f e =
      fit_node k x p b r d.1 (subst (λ i. fits p b (ref i) ≡ true) (sym d.0) f) e
      (λ o. fit x (table k) Plain false r d.1 (all_fit k o) (λ j. no_flag j))
  fit (AWord cs) g p b r d f e = tt
  fit (ALiteral cs) g p b r d f e = tt
  fit (AMark c cs spacing) g p b r d f e = tt
  fit (ALifetime cs) g p b r d f e = tt
  fit (Raw ts) g p b r d f e = tt
  fit Nil g p b r d f e = tt
  fit End g p b r d f e = tt
  fit (Dropped x) g p b r d f e = tt
  fit (Verbatim x) g p b r d f e = tt
  fit (Whole x) (operand q m) p b r d f e = no_flag f
  fit _ _ p b r d f e = absurd d

  -- a node, by its kind, of whose inside it is known where no expression is the kind
  fit_node : (k : Kind) (x : Tree) (p : Position) (b : Bool) (r : List Token) → Derives x (table k) r
      → fits p b (ref k) ≡ true → (b ≡ true → sees brace r ≡ true) → (is_expression k ≡ false → IsFormed Plain x)
      → IsFormed p (Node k x)
  fit_node (Expression q) (Whole z) p b r d f e i =
      let w = and_true (is_position q p) (b || not (is_condition q)) f in
      (position_is q p w.0, (whole_formed q z r d (condition_flag q b r w.1 e), fit_form z q r d.1))
  fit_node (Expression q) _ p b r d f e i = absurd d
  fit_node AStatement x p b r d f e i = (i refl, statement_formed x r d)
  fit_node Where (Second x) p b r d f e i = is_nil x r d.1
  fit_node k x p b r d f e i = i refl

  fit_form : (x : Tree) (p : Position) (r : List Token) → Bound p x r → HasFormed x
  fit_form (Alone k y) p r d =
      fit y (table k) Plain false r d.1 (all_fit k (front_kind p _ k d.0)) (λ j. no_flag j)
  fit_form (Front k y x) p r d = (
    fit y (table k) Plain false (flat x ++ r) d.1 (all_fit k (front_kind p _ k d.0)) (λ j. no_flag j),
    fit_form x (inside p k) r d.4,
  )
  fit_form (Back l k y) p r d = (
    fit_form l p (flat y ++ r) d.4,
    fit y (table k) Plain false r d.1 (all_fit k (back_kind p _ k d.0)) (λ j. no_flag j),
  )
  fit_form (Infix l k y z) p r d = (
    fit_form l p (flat y ++ (flat z ++ r)) d.4,
    fit y (table k) Plain false (flat z ++ r) d.1 (all_fit k (back_kind p _ k d.0)) (λ j. no_flag j),
    fit_form z (inside p k) r d.6,
  )
  fit_form _ p r d = absurd d

-- by its kind
pub formed_read : (k : Kind) (x : Tree) (r : List Token) → Derives x (ref k) r
    → (k ≡ Expression InCondition → sees brace r ≡ true) → IsFormed (own_position k) x
formed_read (Expression InCondition) x r d e = fit x (ref (Expression InCondition)) InCondition true r d refl
    (λ i. e refl)
formed_read (Expression q) x r d e = fit x (ref (Expression q)) q false r d refl (λ i. no_flag i)
formed_read k x r d e = fit x (ref k) Plain false r d refl (λ i. no_flag i)
