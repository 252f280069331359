-- Attributes in front of a statement's expression whose left operand gets parentheses stand inside these in its normal
-- form: there is an expression that is printed so.
use Rattle.std.proofs.Common.{◌≡◌, List, [], ◌∷◌, ◌++◌, refl, sym, ap, ◌∙◌, subst, append_assoc}
use Rattle.std.specs.Prelude.{Bool, true, false, not, ◌&&◌, ◌||◌, cond, nat_eq}
use Rattle.std.proofs.lemmas.List.{append-nil}
use Rattle.std.proofs.lemmas.Bool.{false≢true}
use Rattle.proc_macro2.specs.Token.{Token, Punct}
use Rattle.proc_macro2.specs.declared.delimiter.Delimiter.TheVariants.{Parenthesis}
use Rattle.rust_leaf.specs.declared.punct.Spacing.TheVariants.{Alone as Apart}
use Rattle.syn_grammar.specs.Kind.{Kind, Position, Plain, InStatement, Expression, ExprAttributed, ExprCast, ExprParen}
use Rattle.syn_grammar.specs.Kind.{OuterAttributes}
use Rattle.syn_grammar.specs.Tree.{Tree, Pair, Again, End, Final, More, Group, Node, Whole, Alone, Front, Back, Infix}
use Rattle.syn_grammar.specs.Tree.{flat}
use Rattle.syn_grammar.specs.Look.{sees}
use Rattle.syn_grammar.specs.Say.{marks, parenthesis}
use Rattle.syn_grammar.specs.Table.{table}
use Rattle.syn_grammar.specs.Derives.{Bound}
use Rattle.syn_grammar.specs.Forms.{front, has_right, is_range, kind_of, level}
use Rattle.syn_grammar.specs.Kept.{attributed, held, kept}
use Rattle.syn_grammar.specs.Normal.{formed, normal, passed, stands_behind}
use Rattle.syn_grammar.specs.Parens.{follow, in_parens}
use Rattle.syn_grammar.proofs.Settled.{Settled}
use Rattle.laws_reread_expressions.specs.Formed.{is_attributed_form}
use Rattle.laws_reread_kinds.specs.Covered.{has_form_step, has_step}
use Rattle.laws_reread_kinds.proofs.Fits.{Fits, FitsForms, HasOperands}
use Rattle.laws_reread_kinds.proofs.Statements.{has_left_operand, TakenLaw}
use Rattle.laws_ranges.specs.Opens.{opens_given}
use Rattle.laws_ranges.specs.Shelled.{goes_in, parens_if, shelled}
use Rattle.laws_ranges.proofs.Dotted.{dotted_by, dotted_is}
use Rattle.laws_ranges.proofs.Given.{given_opened, given_shelled}
use Rattle.laws_ranges.proofs.Held.{gains_shells}
use Rattle.laws_ranges.proofs.InKept.{goes_given, lone_kept, range_kept, no_shell}
use Rattle.laws_ranges.proofs.OfStatements.{attributes_seen}
use Rattle.laws_reread.proofs.Given.{cast_left, infix_left}
use Rattle.laws_reread.proofs.Operands.{apart}
use Rattle.laws_reread.proofs.Settled.{settled_inside, settles}
use Rattle.laws_reread.proofs.Wholes.{formed_twice, hash_first, none_more, parens_fit, parens_kept, parens_operands}

-- What is printed for a form, by what is held of it.
abbrev is_infix : Tree → Bool
is_infix (Infix l k y r) = true
is_infix x = false

abbrev is_back : Tree → Bool
is_back (Back l k y) = true
is_back x = false

abbrev is_alone : Tree → Bool
is_alone (Alone k y) = true
is_alone x = false

abbrev left_of : Tree → Tree
left_of (Back l k y) = l
left_of (Infix l k y r) = l
left_of x = x

abbrev own_of : Tree → Tree
own_of (Alone k y) = y
own_of (Back l k y) = y
own_of (Infix l k y r) = y
own_of x = x

abbrev right_of : Tree → Tree
right_of (Infix l k y r) = r
right_of x = x

record AsInfix (f l : Tree) (k : Kind) (y r : Tree) : Type 0 where
  left : Tree
  own : Tree
  right : Tree
  is : f ≡ Infix left k own right
  left_is : kept left ≡ l
  own_is : kept own ≡ y
  right_is : kept right ≡ r

as_infix : (f l : Tree) (k : Kind) (y r : Tree) → kept f ≡ Infix l k y r → AsInfix f l k y r
as_infix (Infix m j w s) l k y r e = record {
  left = m;
  own = w;
  right = s;
  is = ap (λ i. Infix m i w s) (ap kind_of e);
  left_is = ap left_of e;
  own_is = ap own_of e;
  right_is = ap right_of e;
}
as_infix (Back m j w) l k y r e =
    absurd (false≢true (sym (dotted_is (λ z. is_infix z ≡ false) (λ m j w. refl) (kept m) j (kept w)) ∙ ap is_infix e))
as_infix _ l k y r e = absurd (false≢true (ap is_infix e))

record AsBack (f l : Tree) (k : Kind) (y : Tree) : Type 0 where
  left : Tree
  own : Tree
  is : f ≡ Back left k own
  left_is : kept left ≡ l
  own_is : kept own ≡ y

as_back : (f l : Tree) (k : Kind) (y : Tree) → FitsForms f → kept f ≡ Back l k y → AsBack f l k y
as_back (Back m j w) l k y g e =
    let h : Back (kept m) j (kept w) ≡ Back l k y = sym (g.3 (kept m)) ∙ e in
    record {
      left = m;
      own = w;
      is = ap (λ i. Back m i w) (ap kind_of h);
      left_is = ap left_of h;
      own_is = ap own_of h;
    }
as_back _ l k y g e = absurd (false≢true (ap is_back e))

-- and what stands in parentheses
record Opened (u : Tree) : Type 0 where
  tree : Tree
  fits : FitsForms tree
  operands : HasOperands tree
  kept_is : kept tree ≡ u

abbrev is_final : Tree → Bool
is_final (Final x) = true
is_final x = false

abbrev inside_of : Tree → Tree
inside_of (Group d x) = x
inside_of (Final x) = x
inside_of (Node k (Whole x)) = x
inside_of x = x

whole_opened : (v u : Tree) → Fits v (table (Expression Plain))
    → kept (Node (Expression Plain) v) ≡ Node (Expression Plain) (Whole u) → Opened u
unfolding held table
whole_opened (Whole m) u f e = record { tree = m; fits = f.2; operands = f.3; kept_is = ap inside_of e }
whole_opened _ u f e = absurd f

paren_opened : (v u : Tree) → Fits v (table ExprParen)
    → kept v ≡ Group Parenthesis (Final (Node (Expression Plain) (Whole u))) → Opened u
unfolding table
paren_opened (Group d (Final (Node k v))) u f e =
    whole_opened v u (subst (λ j. Fits v (table j)) f.1.0 f.1.3)
    (subst (λ j. kept (Node j v) ≡ Node (Expression Plain) (Whole u)) f.1.0 (ap inside_of (ap inside_of e)))
paren_opened (Group d (Final _)) u f e = absurd f.1
paren_opened (Group d End) u f e = absurd (false≢true (ap is_final (ap inside_of e)))
paren_opened (Group d (More x c i y)) u f e = absurd (false≢true (ap is_final (ap inside_of e)))
paren_opened (Group d _) u f e = absurd f.1
paren_opened _ u f e = absurd f

parens_opened : (f u : Tree) → FitsForms f → kept f ≡ in_parens u → Opened u
parens_opened (Alone k v) u f e =
    paren_opened v u (subst (λ j. Fits v (table j)) (ap kind_of e) f.1) (ap own_of e)
parens_opened (Back m j w) u f e = absurd (false≢true (ap is_alone (sym (f.3 (kept m)) ∙ e)))
parens_opened _ u f e = absurd (false≢true (ap is_alone e))

opened : (b : Bool) (f u : Tree) → FitsForms f → HasOperands f → kept f ≡ parens_if b u → Opened u
opened true f u g o e = parens_opened f u g e
opened false f u g o e = record { tree = f; fits = g; operands = o; kept_is = e }

-- It is settled there, too.
opened_settled : (b : Bool) (u : Tree) (p : Position) (ts : List Token) → Settled p ts (parens_if b u)
    → (q : Position) × (us : List Token) × Settled q us u
opened_settled true u p ts s =
    (Plain, stands_behind Plain, settles u Plain (stands_behind Plain) (settled_inside u s.0))
opened_settled false u p ts s = (p, ts, s)

-- No attributes stand in front of an expression where none are seen.
unattributed : (x : Tree) (p : Position) (r : List Token) → Bound p x r → sees (marks "#") (flat x ++ r) ≡ false
    → is_attributed_form (shelled (kept x)) ≡ false
unattributed (Front ExprAttributed y x) p r d e =
    absurd (false≢true (sym e ∙ ap (sees (marks "#")) (append_assoc (flat y) (flat x) r) ∙ hash_first p _ d.0))
unattributed (Back l k y) p r d e =
    dotted_is (λ z. is_attributed_form (shelled z) ≡ false) (λ l k y. refl) (kept l) k (kept y)
unattributed _ p r d e = refl

attributed_kept : (f : Tree) → is_attributed_form (kept f) ≡ false → is_attributed_form f ≡ false
attributed_kept (Front ExprAttributed y x) e = e
attributed_kept _ e = refl

-- With attributes, and what is printed for these: they stand in front of the leftmost operand.
module _ (a w : Tree) (same : kept w ≡ normal a) (own : Fits w (table ExprAttributed)) where
  record Takes (z : Tree) : Type 0 where
    tree : Tree
    fits : FitsForms tree
    operands : HasOperands tree
    kept_is : kept tree ≡ z

  whole : (x f : Tree) → attributed a (kept x) ≡ Front ExprAttributed a (kept x) → is_range x ≡ false
      → is_attributed_form (shelled (kept x)) ≡ false → FitsForms f → HasOperands f → kept f ≡ shelled (kept x)
      → Takes (shelled (attributed a (kept x)))
  unfolding has_step has_form_step front has_right level
  whole x f i n h g o e = record {
    tree = Front ExprAttributed w f;
    fits = (refl, own, tt, g);
    operands = (
      (refl, Plain, Punct 35 Apart ∷ [], refl),
      refl,
      o,
      refl,
      apart ExprAttributed f (attributed_kept f (ap is_attributed_form e ∙ h)),
    );
    kept_is = ap (λ z. Front ExprAttributed z (kept f)) same
        ∙ ap (Front ExprAttributed (normal a))
        (e ∙ ap (λ b. parens_if b (shelled (kept x))) (sym (lone_kept x ∙ (no_shell x n).0)))
        ∙ ap shelled (sym i);
  }

  -- a left operand, in its parentheses
  inside_left : (k : Kind) (l m : Tree) → is_range l ≡ false → FitsForms m → HasOperands m
      → kept m ≡ parens_if (goes_in k (kept l)) (shelled (kept l))
      → ((f : Tree) → FitsForms f → HasOperands f → kept f ≡ shelled (kept l) → (q : Position) (ts : List Token)
      → Settled q ts (shelled (attributed a (kept l))) → Takes (shelled (attributed a (kept l))))
      → (q : Position) (ts : List Token)
      → Settled q ts (parens_if (goes_in k (attributed a (kept l))) (shelled (attributed a (kept l))))
      → Takes (parens_if (goes_in k (attributed a (kept l))) (shelled (attributed a (kept l))))
  inside_left k l m n g o e h q ts s =
      let b : Bool = goes_in k (attributed a (kept l)) in
      let u = opened b m (shelled (kept l)) g o
      (e ∙ ap (λ c. parens_if c (shelled (kept l))) (sym (goes_given k a (kept l) (range_kept l ∙ n)))) in
      let i = opened_settled b (shelled (attributed a (kept l))) q ts s in
      let t = h u.tree u.fits u.operands u.kept_is i.0 i.1 i.2 in
      let v : kept (parens_if b t.tree) ≡ parens_if b (shelled (attributed a (kept l))) =
      parens_kept b t.tree ∙ ap (parens_if b) t.kept_is in
      record {
        tree = parens_if b t.tree;
        fits = parens_fit b t.tree q ts (subst (Settled q ts) (sym v) s) (λ p us j. t.fits) t.operands;
        operands = parens_operands b t.tree t.operands;
        kept_is = v;
      }

  takes_cast : (l y f : Tree)
      (m : AsBack f (parens_if (goes_in ExprCast (kept l)) (shelled (kept l))) ExprCast (normal (kept y)))
      → FitsForms f → HasOperands f
      → ((g : Tree) → FitsForms g → HasOperands g → kept g ≡ parens_if (goes_in ExprCast (kept l)) (shelled (kept l))
      → Takes (parens_if (goes_in ExprCast (attributed a (kept l))) (shelled (attributed a (kept l)))))
      → Takes (shelled (Back (attributed a (kept l)) ExprCast (kept y)))
  takes_cast l y f m g o h =
      let i = subst FitsForms m.is g in
      let j = subst HasOperands m.is o in
      let t = h m.left i.4 j.2 m.left_is in
      record {
        tree = Back t.tree ExprCast m.own;
        fits = (i.0, i.1, i.2, i.3, t.fits);
        operands = (j.0, j.1, t.operands, λ s. absurd (false≢true s));
        kept_is = ap (Back (kept t.tree) ExprCast) m.own_is
            ∙ ap (λ z. Back z ExprCast (normal (kept y))) t.kept_is;
      }

  takes_infix : (l : Tree) (k : Kind) (y r f : Tree)
      (m : AsInfix f (parens_if (goes_in k (kept l)) (shelled (kept l))) k (normal (kept y)) (shelled (kept r)))
      → FitsForms f → HasOperands f
      → ((g : Tree) → FitsForms g → HasOperands g → kept g ≡ parens_if (goes_in k (kept l)) (shelled (kept l))
      → Takes (parens_if (goes_in k (attributed a (kept l))) (shelled (attributed a (kept l)))))
      → Takes (shelled (Infix (attributed a (kept l)) k (kept y) (kept r)))
  takes_infix l k y r f m g o h =
      let i = subst FitsForms m.is g in
      let j = subst HasOperands m.is o in
      let t = h m.left i.3 j.2 m.left_is in
      record {
        tree = Infix t.tree k m.own m.right;
        fits = (i.0, i.1, i.2, t.fits, i.4);
        operands = (j.0, j.1, t.operands, j.3);
        kept_is = ap (λ z. Infix (kept t.tree) k z (kept m.right)) m.own_is
            ∙ ap (λ z. Infix z k (normal (kept y)) (kept m.right)) t.kept_is
            ∙ ap (Infix (parens_if (goes_in k (attributed a (kept l))) (shelled (attributed a (kept l)))) k
            (normal (kept y))) m.right_is;
      }

  given_infix : (l : Tree) (k : Kind) (y r : Tree) → nat_eq (level k) 3 ≡ false
      → attributed a (Infix l k y r) ≡ Infix (attributed a l) k y r
  given_infix l k y r n =
      ap (λ b. cond b (Front ExprAttributed a (Infix l k y r)) (Infix (attributed a l) k y r)) n

  takes : (x : Tree) (p : Position) (r : List Token) → Bound p x r → is_range x ≡ false
      → sees (marks "#") (flat x ++ r) ≡ false → (f : Tree) → FitsForms f → HasOperands f → kept f ≡ shelled (kept x)
      → (q : Position) (ts : List Token) → Settled q ts (shelled (attributed a (kept x)))
      → Takes (shelled (attributed a (kept x)))
  takes (Alone k y) p r d n h f g o e q ts s =
      whole (Alone k y) f refl n (unattributed (Alone k y) p r d h) g o e
  takes (Front k y x) p r d n h f g o e q ts s =
      whole (Front k y x) f refl n (unattributed (Front k y x) p r d h) g o e
  takes (Back l ExprCast y) p r d n h f g o e q ts s =
      let i = cast_left l y p r d in
      let v = sym (ap (sees (marks "#")) (append_assoc (flat l) (flat y) r)) ∙ h in
      takes_cast l y f (as_back f _ ExprCast (normal (kept y)) g e) g o
      (λ m g o e. inside_left ExprCast l m i g o e
      (λ f g o e q ts s. takes l p (flat y ++ r) d.4 i v f g o e q ts s) q (follow (flat (normal (kept y)))) s.4)
  takes (Back l k y) p r d n h f g o e q ts s =
      whole (Back l k y) f (dotted_by (λ z. attributed a z ≡ Front ExprAttributed a z) (λ m v. refl) (kept l) k (kept y)
      (λ m v. refl)) n (unattributed (Back l k y) p r d h) g o e
  takes (Infix l k y x) p r d n h f g o e q ts s =
      let i = infix_left l k y x p r d in
      let v =
      sym (ap (sees (marks "#")) (append_assoc (flat l) (flat y ++ flat x) r
      ∙ ap (λ us. flat l ++ us) (append_assoc (flat y) (flat x) r))) ∙ h in
      let u = given_infix (kept l) k (kept y) (kept x) n in
      let z = subst (λ z. Settled q ts (shelled z)) u s in
      subst (λ z. Takes (shelled z)) (sym u)
      (takes_infix l k y x f (as_infix f _ k (normal (kept y)) (shelled (kept x)) e) g o
      (λ m g o e. inside_left k l m i g o e
      (λ f g o e q ts s. takes l p (flat y ++ (flat x ++ r)) d.4 i v f g o e q ts s) q
      (follow (flat (normal (kept y)))) z.2))
  takes _ p r d n h f g o e q ts s = absurd d

-- So it is there for a statement's expression.
abbrev is_again : Tree → Bool
is_again (Again x y) = true
is_again x = false

abbrev first_of : Tree → Tree
first_of (Again x y) = x
first_of x = x

abbrev rest_of : Tree → Tree
rest_of (Again x y) = y
rest_of x = x

record Attributes (t b c : Tree) : Type 0 where
  own : Tree
  fits : Fits own (table ExprAttributed)
  kept_is : kept own ≡ Pair t (Node OuterAttributes b)

attributes : (c t b : Tree) → Fits c (table OuterAttributes) → kept c ≡ Again t b → Attributes t b c
unfolding held table has_step
attributes (Again x y) t b f e = record {
  own = Pair x (Node OuterAttributes y);
  fits = (f.0, (refl, refl, refl, f.1, tt));
  kept_is = ap (λ z. Pair z (Node OuterAttributes (kept y))) (ap first_of e)
      ∙ ap (λ z. Pair t (Node OuterAttributes z)) (ap rest_of e);
}
attributes End t b f e = absurd (false≢true (ap is_again e))
attributes _ t b f e = absurd f

opens_range : (x : Tree) → opens_given x ≡ true → is_range x ≡ false
unfolding level
opens_range (Back l ExprCast y) e = refl
opens_range (Infix l k y r) e = go (nat_eq (level k) 3) e
  where
    go : (b : Bool) → (not b && (goes_in k l || opens_given l)) ≡ true → b ≡ false
    go false e = refl
    go true e = absurd (false≢true e)
opens_range _ e = absurd (false≢true e)

given_left : (a x : Tree) → opens_given x ≡ true → has_left_operand (shelled (attributed a (kept x))) ≡ true
given_left a (Back l ExprCast y) e = refl
given_left a (Infix l k y r) e = go (nat_eq (level k) 3) e
  where
    go : (b : Bool) → (not b && (goes_in k l || opens_given l)) ≡ true
        → has_left_operand (shelled (cond b (Front ExprAttributed a (Infix (kept l) k (kept y) (kept r)))
        (Infix (attributed a (kept l)) k (kept y) (kept r)))) ≡ true
    go false e = refl
    go true e = absurd (false≢true e)
given_left a _ e = absurd (false≢true e)

pub taken : TakenLaw
unfolding table held passed stands_behind
taken t b x r d e o c f g h i j =
    let own = attributes c (normal (kept t)) (normal (kept b)) g h in
    let a : Tree = Pair t (Node OuterAttributes b) in
    let u = given_shelled x r a (refl, e) (d.1, (refl, d.2)) (attributes_seen _ d.0) in
    let v : kept f ≡ shelled (kept x) = j ∙ gains_shells InStatement x r (refl, e) (λ k. cc) in
    let n : formed InStatement [] (shelled (attributed (kept a) (kept x))) ≡ shelled (attributed (kept a) (kept x)) =
    ap (formed InStatement []) (sym u) ∙ formed_twice InStatement (attributed (kept a) (kept x)) ∙ u in
    let s = settles (shelled (attributed (kept a) (kept x))) InStatement [] n in
    let z =
    takes (kept a) own.own own.kept_is own.fits x InStatement r e.1 (opens_range x o)
    (none_more b _ _ (flat x ++ r) d.2) f i.2 i.3 v InStatement [] s in
    record {
      tree = z.tree;
      fits = (refl, ap (formed InStatement []) z.kept_is ∙ n ∙ sym z.kept_is, z.fits, z.operands);
      kept_is = z.kept_is ∙ sym u;
      begins = ap (λ y. sees parenthesis (flat y)) z.kept_is
          ∙ ap (sees parenthesis) (sym (append-nil (flat (shelled (attributed (kept a) (kept x))))))
          ∙ given_opened x r [] a (refl, e) (d.1, (refl, d.2)) (attributes_seen _ d.0) ∙ o;
      has_left = ap has_left_operand z.kept_is ∙ given_left (kept a) x o;
    }
