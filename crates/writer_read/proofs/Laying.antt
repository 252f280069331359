-- The tokens of the normal form of a tree, by its form.
use Rattle.std.specs.Prelude.{◌≡◌, ℕ, zero, suc, ◌+◌, ◌<◌, Bool, true, false, cond, not, ◌||◌, List, [], ◌∷◌, ◌++◌}
use Rattle.std.specs.Prelude.{Some, None, codes, refl}
use Rattle.std.specs.List.{list_any}
use Rattle.std.proofs.Common.{ap, ◌∙◌, sym, append_assoc, arith, drop, get_or, length}
use Rattle.std.proofs.lemmas.Bool.{false≢true}
use Rattle.std.proofs.lemmas.List.{append-nil, at_drop_more}
use Rattle.syn_grammar.specs.Tidy.{is_bare_colon, is_bare_generics, is_bare_where, is_lifetime_param, keeps_generics}
use Rattle.proc_macro2.specs.Token.{Token, Ident, Punct}
use Rattle.rust_leaf.specs.declared.punct.Spacing.{Spacing}
use Rattle.rust_leaf.specs.declared.punct.Spacing.TheVariants.{Alone as Apart}
use Rattle.syn_grammar.specs.Kind.{Kind, AnImpl, Arguments, AStatement, BoundsColon, GenericParams, Generics, Index}
use Rattle.syn_grammar.specs.Kind.{LifetimeColon, Member, Parameter, Where}
use Rattle.syn_grammar.specs.Name.{the_unnamed}
use Rattle.syn_grammar.specs.Tree as t
use Rattle.syn_grammar.specs.Tree.{Tree, flat}
use Rattle.reader_tree.specs.declared.tree.Element.{Element}
use Rattle.reader_tree.specs.declared.tree.Tree.TheDeep.{size-Tree}
use Rattle.reader_tree.specs.Size.{node_count}
use Rattle.reader_tree.specs.Forms.{mark_of, seconds, turns, elements}
use Rattle.reader_tree.proofs.Sizes.{tree_size}
use Rattle.writer_rules.specs.declared.within.Within.{Within}
use Rattle.writer_rules.specs.declared.within.Within.TheVariants.{Anywhere, InArguments}
use Rattle.writer_rules.specs.Firsts.{has_other}
use Rattle.writer_rules.specs.Laid.{firsts_laid, laid, laid_in, others_laid, statement_laid, those_laid, within_impl}
use Rattle.writer_rules.specs.Seen.{is_missing, type_alone}
use Rattle.writer_rules.specs.Way.{dotted_of}
use Rattle.writer_rules.proofs.SeenForms.{same_pair, some_none}
use Rattle.writer_rules.proofs.WayForms.{dotted_is, own_else, own_number, own_plain, own_undotted}

pub laid_seconds : (w : Within) (n : ℕ) (x : Tree) → laid_in w (seconds n x) ≡ laid_in w x
laid_seconds w zero x = refl
laid_seconds w (suc n) x = laid_seconds w n x

-- a punctuation whose last mark stands alone
pub laid_mark : (w : Within) (cs : List ℕ) (spacing : Spacing)
    → laid_in w (mark_of cs spacing) ≡ flat (mark_of cs Apart)
laid_mark w [] spacing = refl
laid_mark w (c ∷ cs) spacing = refl

pub laid_turns : (w : Within) (xs : List Tree) → laid_in w (turns xs) ≡ laid (turns xs)
laid_turns w [] = refl
laid_turns w (x ∷ xs) = refl

-- what is written of a node turns not on where it stands
pub node_same : (w : Within) (k : Kind) (x : Tree) → laid_in w (t.Node k x) ≡ laid (t.Node k x)
node_same w Parameter (t.Pair a (t.Second (t.Second (t.First (t.Called the_unnamed y))))) = refl
node_same w Member (t.Second (t.ALiteral cs)) = refl
node_same w Index (t.ALiteral cs) = refl
node_same w AStatement (t.Second (t.Second (t.Second (t.Second x)))) = refl
node_same w k x = refl

-- the elements that a mark follows, and the last one
all_elements : (c : ℕ) (es : List Element) (y : Tree) → laid (elements c es y) ≡ laid (elements c es t.End) ++ laid y
all_elements c [] y = refl
all_elements c (e ∷ es) y =
    ap (λ ts. laid e.tree ++ Punct c Apart ∷ ts) (all_elements c es y)
    ∙ sym (append_assoc (laid e.tree) (Punct c Apart ∷ laid (elements c es t.End)) (laid y))

pub laid_open : (w : Within) (c : ℕ) (es : List Element) → laid_in w (elements c es t.End) ≡ laid (elements c es t.End)
laid_open w c [] = refl
laid_open w c (e ∷ es) = refl

pub laid_closed : (w : Within) (c : ℕ) (es : List Element) (x : Tree)
    → laid_in w (elements c es (t.Final x)) ≡ laid (elements c es t.End) ++ laid x
laid_closed w c [] x = refl
laid_closed w c (e ∷ es) x = all_elements c (e ∷ es) (t.Final x)

-- nothing is written of an option that isn't there, nor of a node that holds it
pub missing_laid : (w : Within) (x : Tree) → is_missing x ≡ true → laid_in w x ≡ []
missing_laid w t.Nil e = refl
missing_laid w (t.Second x) e = missing_laid w x e
missing_laid w x e = absurd (false≢true e)

missing_unless : (b : Bool) (ts : List Token) → ts ≡ [] → cond b [] ts ≡ []
missing_unless true ts e = refl
missing_unless false ts e = e

missing_firsts : (q : Tree → Bool) (x : Tree) → is_missing x ≡ true → firsts_laid q x ≡ []
missing_firsts q t.Nil e = refl
missing_firsts q (t.Second x) e = missing_laid Anywhere x e
missing_firsts q x e = absurd (false≢true e)

missing_statement : (x : Tree) → is_missing x ≡ true → statement_laid (laid x) x ≡ []
missing_statement t.Nil e = refl
missing_statement (t.Second x) e = missing_laid Anywhere x e
missing_statement x e = absurd (false≢true e)

pub missing_node : (k : Kind) (x : Tree) → is_missing x ≡ true → laid (t.Node k x) ≡ []
missing_node Parameter (t.Pair a y) e = absurd (false≢true e)
missing_node Member (t.Second (t.ALiteral cs)) e = absurd (false≢true e)
missing_node Index (t.ALiteral cs) e = absurd (false≢true e)
missing_node Where x e = missing_unless (is_bare_where x) (laid x) (missing_laid Anywhere x e)
missing_node Generics x e = missing_unless (is_bare_generics x) (laid x) (missing_laid Anywhere x e)
missing_node BoundsColon x e = missing_unless (is_bare_colon x) (laid x) (missing_laid Anywhere x e)
missing_node LifetimeColon x e = missing_unless (is_bare_colon x) (laid x) (missing_laid Anywhere x e)
missing_node GenericParams x e = missing_firsts is_lifetime_param x e
missing_node Arguments x e = missing_laid InArguments x e
missing_node AnImpl x e = missing_laid (within_impl (keeps_generics x)) x e
missing_node AStatement (t.Second (t.Second (t.Second (t.Second x)))) e = missing_statement x e
missing_node k x e = missing_laid Anywhere x e

pub ruleset missing = (missing_laid, missing_node, append-nil)

pub ruleset forms =
    (laid_seconds, laid_mark, laid_turns, laid_open, laid_closed, node_same, append_assoc, append-nil)

-- what is put one behind the other
pub three_put : (a b c d x y z w : List Token) → b ≡ a ++ x → c ≡ b ++ y → d ≡ c ++ z → w ≡ y ++ z → d ≡ a ++ (x ++ w)
three_put a b c d x y z w e f g h =
    g ∙ ap (λ ts. ts ++ z) (f ∙ ap (λ ts. ts ++ y) e) ∙ append_assoc (a ++ x) y z ∙ append_assoc a x (y ++ z)
    ∙ ap (λ ts. a ++ (x ++ ts)) (sym h)

pub four_put : (a b c d e x y z w v : List Token) → b ≡ a ++ x → c ≡ b ++ y → d ≡ c ++ z → e ≡ d ++ w
    → v ≡ x ++ (y ++ (z ++ w)) → e ≡ a ++ v
four_put a b c d e x y z w v f g h i j =
    three_put a b c e x y (z ++ w) (y ++ (z ++ w)) f g
    (i ∙ ap (λ ts. ts ++ w) h ∙ append_assoc c z w) refl ∙ ap (λ ts. a ++ ts) (sym j)

-- a parameter that is a type alone, and one that is none
pub parameter_named : (x : Tree) → None ≡ type_alone x → laid (t.Node Parameter x) ≡ laid x
parameter_named (t.Pair a (t.Second (t.Second (t.First (t.Called the_unnamed y))))) e = cc
parameter_named x e = refl

pub alone_is : (x a y : Tree) → Some (a, y) ≡ type_alone x
    → x ≡ t.Pair a (t.Second (t.Second (t.First (t.Called the_unnamed y))))
alone_is (t.Pair b (t.Second (t.Second (t.First (t.Called the_unnamed z))))) a y e =
    let s = same_pair a b y z e in cc (s.0, s.1)
alone_is x a y e = absurd (some_none (a, y) e)

pub parameter_alone : (x a y : Tree) → Some (a, y) ≡ type_alone x
    → laid (t.Node Parameter x) ≡ laid a ++ (Ident (codes "_") ∷ Punct 58 Apart ∷ laid y)
parameter_alone x a y e = ap (λ z. laid (t.Node Parameter z)) (alone_is x a y e)

-- what stands in a parameter, and behind a dot, is smaller
pub alone_below : (x a y : Tree) → Some (a, y) ≡ type_alone x
    → (size-Tree a < size-Tree x) × (size-Tree y < size-Tree x)
alone_below x a y e =
    let n = ap node_count (alone_is x a y e) in
    (omega (arith, n, tree_size a, tree_size x), omega (arith, n, tree_size y, tree_size x))

pub dotted_below : (x d y z : Tree) → Some (d, y, z) ≡ dotted_of x
    → (size-Tree d < size-Tree x) × (size-Tree z < size-Tree x)
dotted_below x d y z e =
    let n = ap node_count (dotted_is x d y z e) in
    (omega (arith, n, tree_size d, tree_size x), omega (arith, n, tree_size z, tree_size x))

-- what is left of elements: past one of which nothing is put, and past one that is put with a mark behind it
module _ (l : List Element → List Token) (es : List Element) (i : ℕ) (x : Element) where
  next_is : i < length es → x ≡ get_or es i x → l (drop i es) ≡ l (x ∷ drop (i + 1) es)
  next_is h e = at_drop_more l es i x h ∙ ap (λ y. l (y ∷ drop (i + 1) es)) (sym e)

  skipped : (ts us : List Token) → i < length es → x ≡ get_or es i x
      → l (x ∷ drop (i + 1) es) ≡ l (drop (i + 1) es) → ts ++ l (drop i es) ≡ us → ts ++ l (drop (i + 1) es) ≡ us
  skipped ts us h e o w = ap (λ vs. ts ++ vs) (sym (next_is h e ∙ o)) ∙ w

  put_next : (m : Token) (ts us vs ws : List Token) → i < length es → x ≡ get_or es i x
      → l (x ∷ drop (i + 1) es) ≡ laid x.tree ++ m ∷ l (drop (i + 1) es) → ts ++ l (drop i es) ≡ us
      → vs ≡ ts ++ laid x.tree → ws ≡ vs ++ m ∷ [] → ws ++ l (drop (i + 1) es) ≡ us
  put_next m ts us vs ws h e o w f g =
      ap (λ zs. zs ++ l (drop (i + 1) es)) (g ∙ ap (λ zs. zs ++ m ∷ []) f ∙ append_assoc ts (laid x.tree) (m ∷ []))
      ∙ append_assoc ts (laid x.tree ++ m ∷ []) (l (drop (i + 1) es))
      ∙ ap (λ zs. ts ++ zs)
      (append_assoc (laid x.tree) (m ∷ []) (l (drop (i + 1) es)) ∙ sym (next_is h e ∙ o))
      ∙ w

pub elements_next : (c : ℕ) (es : List Element) (i : ℕ) (x : Element) (ts us vs ws : List Token) → i < length es
    → x ≡ get_or es i x → ts ++ laid (elements c (drop i es) t.End) ≡ us → vs ≡ ts ++ laid x.tree
    → ws ≡ vs ++ Punct c Apart ∷ [] → ws ++ laid (elements c (drop (i + 1) es) t.End) ≡ us
elements_next c es i x ts us vs ws h e w f g =
    put_next (λ ds. laid (elements c ds t.End)) es i x (Punct c Apart) ts us vs ws h e refl w f g

-- of a list whose elements come first that pass
module _ (q : Tree → Bool) where
  abbrev pub lacks : List Element → Bool
  lacks es = list_any (λ e. not (q e.tree)) es

  -- nothing is added behind one that a mark follows
  those_any : (b : Bool) (c : ℕ) (es : List Element) (y : Tree)
      → those_laid q b (elements c es y) ≡ those_laid q false (elements c es t.End) ++ those_laid q b y
  those_any b c [] y = refl
  those_any b c (e ∷ es) y = by (q e.tree) (those_any b c es y)
    where
      by : (v : Bool)
          → those_laid q b (elements c es y) ≡ those_laid q false (elements c es t.End) ++ those_laid q b y
          → cond v (laid e.tree ++ Punct c Apart ∷ those_laid q b (elements c es y)) (those_laid q b (elements c es y))
          ≡ cond v (laid e.tree ++ Punct c Apart ∷ those_laid q false (elements c es t.End))
          (those_laid q false (elements c es t.End)) ++ those_laid q b y
      by true h = ap (λ ts. laid e.tree ++ Punct c Apart ∷ ts) h
          ∙ sym (append_assoc (laid e.tree) (Punct c Apart ∷ those_laid q false (elements c es t.End))
          (those_laid q b y))
      by false h = h

  -- some element does not pass
  has_other_in : (c : ℕ) (es : List Element) (y : Tree) → has_other q (elements c es y) ≡ (lacks es || has_other q y)
  has_other_in c [] y = refl
  has_other_in c (e ∷ es) y = by (not (q e.tree)) (has_other_in c es y)
    where
      by : (v : Bool) → has_other q (elements c es y) ≡ (lacks es || has_other q y)
          → (v || has_other q (elements c es y)) ≡ ((v || lacks es) || has_other q y)
      by true h = refl
      by false h = h

  -- what is no list is nothing, where nothing is left
  pub others_open : (c : ℕ) (es : List Element)
      → others_laid q (laid (elements c es t.End)) (elements c es t.End) ≡ others_laid q [] (elements c es t.End)
  others_open c [] = refl
  others_open c (e ∷ es) = refl

  others_all : (c : ℕ) (es : List Element) (y : Tree)
      → others_laid q (laid (elements c es y)) (elements c es y)
      ≡ others_laid q [] (elements c es t.End) ++ others_laid q (laid y) y
  others_all c [] y = refl
  others_all c (e ∷ es) y = by (q e.tree) (others_all c es y) (others_open c es)
    where
      by : (v : Bool)
          → others_laid q (laid (elements c es y)) (elements c es y)
          ≡ others_laid q [] (elements c es t.End) ++ others_laid q (laid y) y
          → others_laid q (laid (elements c es t.End)) (elements c es t.End) ≡ others_laid q [] (elements c es t.End)
          → cond v (others_laid q (laid (elements c es y)) (elements c es y))
          (laid e.tree ++ Punct c Apart ∷ others_laid q (laid (elements c es y)) (elements c es y))
          ≡ cond v (others_laid q (laid (elements c es t.End)) (elements c es t.End))
          (laid e.tree ++ Punct c Apart ∷ others_laid q (laid (elements c es t.End)) (elements c es t.End))
          ++ others_laid q (laid y) y
      by true h o = h ∙ ap (λ ts. ts ++ others_laid q (laid y) y) (sym o)
      by false h o =
          ap (λ ts. laid e.tree ++ Punct c Apart ∷ ts) (h ∙ ap (λ ts. ts ++ others_laid q (laid y) y) (sym o))
          ∙ sym (append_assoc (laid e.tree)
          (Punct c Apart ∷ others_laid q (laid (elements c es t.End)) (elements c es t.End)) (others_laid q (laid y) y))

  -- a list of which no last element stands without a mark behind it
  pub firsts_open : (c : ℕ) (es : List Element) → firsts_laid q (elements c es t.End)
      ≡ those_laid q false (elements c es t.End) ++ others_laid q [] (elements c es t.End)
  firsts_open c es =
      ap (λ ts. ts ++ others_laid q (laid (elements c es t.End)) (elements c es t.End))
      (those_any (has_other q (elements c es t.End)) c es t.End ∙ append-nil (those_laid q false (elements c es t.End)))
      ∙ ap (λ ts. those_laid q false (elements c es t.End) ++ ts) (others_open c es)

  or_false : (b : Bool) → (b || false) ≡ b
  or_false true = refl
  or_false false = refl

  -- the last element passes
  pub firsts_passing : (c : ℕ) (es : List Element) (x : Tree) → q x ≡ true → firsts_laid q (elements c es (t.Final x))
      ≡ those_laid q false (elements c es t.End)
      ++ (laid x ++ (cond (lacks es) (Punct 44 Apart ∷ []) [] ++ others_laid q [] (elements c es t.End)))
  firsts_passing c es x h =
      let o : has_other q (elements c es (t.Final x)) ≡ lacks es =
      has_other_in c es (t.Final x) ∙ ap (λ b. lacks es || not b) h ∙ or_false (lacks es) in
      ap (λ ts. ts ++ others_laid q (laid (elements c es (t.Final x))) (elements c es (t.Final x)))
      (ap (λ b. those_laid q b (elements c es (t.Final x))) o ∙ those_any (lacks es) c es (t.Final x)
      ∙ ap (λ b. those_laid q false (elements c es t.End)
      ++ cond b (laid x ++ cond (lacks es) (Punct 44 Apart ∷ []) []) []) h)
      ∙ ap (λ ts. (those_laid q false (elements c es t.End)
      ++ (laid x ++ cond (lacks es) (Punct 44 Apart ∷ []) [])) ++ ts)
      (others_all c es (t.Final x) ∙ ap (λ b. others_laid q [] (elements c es t.End) ++ cond b [] (laid x)) h
      ∙ append-nil (others_laid q [] (elements c es t.End)))
      ∙ append_assoc (those_laid q false (elements c es t.End)) (laid x ++ cond (lacks es) (Punct 44 Apart ∷ []) [])
      (others_laid q [] (elements c es t.End))
      ∙ ap (λ ts. those_laid q false (elements c es t.End) ++ ts)
      (append_assoc (laid x) (cond (lacks es) (Punct 44 Apart ∷ []) []) (others_laid q [] (elements c es t.End)))

  -- it does not pass
  pub firsts_closed : (c : ℕ) (es : List Element) (x : Tree) → q x ≡ false → firsts_laid q (elements c es (t.Final x))
      ≡ those_laid q false (elements c es t.End) ++ (others_laid q [] (elements c es t.End) ++ laid x)
  firsts_closed c es x h =
      ap (λ ts. ts ++ others_laid q (laid (elements c es (t.Final x))) (elements c es (t.Final x)))
      (those_any (has_other q (elements c es (t.Final x))) c es (t.Final x)
      ∙ ap (λ b. those_laid q false (elements c es t.End) ++ cond b (laid x
      ++ cond (has_other q (elements c es (t.Final x))) (Punct 44 Apart ∷ []) []) []) h
      ∙ append-nil (those_laid q false (elements c es t.End)))
      ∙ ap (λ ts. those_laid q false (elements c es t.End) ++ ts)
      (others_all c es (t.Final x) ∙ ap (λ b. others_laid q [] (elements c es t.End) ++ cond b [] (laid x)) h)

  -- an element that passes is not put among the others; one that does not is put, with its mark
  others_passed : (c : ℕ) (es : List Element) (x : Element) → q x.tree ≡ true
      → others_laid q [] (elements c (x ∷ es) t.End) ≡ others_laid q [] (elements c es t.End)
  others_passed c es x h =
      ap (λ b. cond b (others_laid q (laid (elements c es t.End)) (elements c es t.End))
      (laid x.tree ++ Punct c Apart ∷ others_laid q (laid (elements c es t.End)) (elements c es t.End))) h
      ∙ others_open c es

  others_one : (c : ℕ) (es : List Element) (x : Element) → q x.tree ≡ false
      → others_laid q [] (elements c (x ∷ es) t.End)
      ≡ laid x.tree ++ Punct c Apart ∷ others_laid q [] (elements c es t.End)
  others_one c es x h =
      ap (λ b. cond b (others_laid q (laid (elements c es t.End)) (elements c es t.End))
      (laid x.tree ++ Punct c Apart ∷ others_laid q (laid (elements c es t.End)) (elements c es t.End))) h
      ∙ ap (λ ts. laid x.tree ++ Punct c Apart ∷ ts) (others_open c es)

  pub others_skip : (c : ℕ) (es : List Element) (i : ℕ) (x : Element) (ts us : List Token) → i < length es
      → x ≡ get_or es i x → q x.tree ≡ true → ts ++ others_laid q [] (elements c (drop i es) t.End) ≡ us
      → ts ++ others_laid q [] (elements c (drop (i + 1) es) t.End) ≡ us
  others_skip c es i x ts us h e p w =
      skipped (λ ds. others_laid q [] (elements c ds t.End)) es i x ts us h e (others_passed c (drop (i + 1) es) x p) w

  pub others_next : (c : ℕ) (es : List Element) (i : ℕ) (x : Element) (ts us vs ws : List Token) → i < length es
      → x ≡ get_or es i x → q x.tree ≡ false → ts ++ others_laid q [] (elements c (drop i es) t.End) ≡ us
      → vs ≡ ts ++ laid x.tree → ws ≡ vs ++ Punct c Apart ∷ []
      → ws ++ others_laid q [] (elements c (drop (i + 1) es) t.End) ≡ us
  others_next c es i x ts us vs ws h e p w f g =
      put_next (λ ds. others_laid q [] (elements c ds t.End)) es i x (Punct c Apart) ts us vs ws h e
      (others_one c (drop (i + 1) es) x p) w f g

  -- and the other way round among those that pass
  pub those_skip : (c : ℕ) (es : List Element) (i : ℕ) (x : Element) (ts us : List Token) → i < length es
      → x ≡ get_or es i x → q x.tree ≡ false → ts ++ those_laid q false (elements c (drop i es) t.End) ≡ us
      → ts ++ those_laid q false (elements c (drop (i + 1) es) t.End) ≡ us
  those_skip c es i x ts us h e p w =
      let left : List Token = those_laid q false (elements c (drop (i + 1) es) t.End) in
      skipped (λ ds. those_laid q false (elements c ds t.End)) es i x ts us h e
      (ap (λ b. cond b (laid x.tree ++ Punct c Apart ∷ left) left) p) w

  pub those_next : (c : ℕ) (es : List Element) (i : ℕ) (x : Element) (ts us vs ws : List Token) → i < length es
      → x ≡ get_or es i x → q x.tree ≡ true → ts ++ those_laid q false (elements c (drop i es) t.End) ≡ us
      → vs ≡ ts ++ laid x.tree → ws ≡ vs ++ Punct c Apart ∷ []
      → ws ++ those_laid q false (elements c (drop (i + 1) es) t.End) ≡ us
  those_next c es i x ts us vs ws h e p w f g =
      let left : List Token = those_laid q false (elements c (drop (i + 1) es) t.End) in
      put_next (λ ds. those_laid q false (elements c ds t.End)) es i x (Punct c Apart) ts us vs ws h e
      (ap (λ b. cond b (laid x.tree ++ Punct c Apart ∷ left) left) p) w f g

  -- what is no list
  pub firsts_first : (n : ℕ) (x : Tree) → firsts_laid q (seconds n (t.First x)) ≡ laid (seconds n (t.First x))
  firsts_first zero x = refl
  firsts_first (suc n) x = refl

  pub firsts_mark : (cs : List ℕ) (spacing : Spacing) → firsts_laid q (mark_of cs spacing) ≡ laid (mark_of cs spacing)
  firsts_mark [] spacing = refl
  firsts_mark (c ∷ cs) spacing = refl

  pub firsts_turns : (xs : List Tree) → firsts_laid q (turns xs) ≡ laid (turns xs)
  firsts_turns [] = refl
  firsts_turns (x ∷ xs) = refl

pub ruleset lists =
    (firsts_open, firsts_passing, firsts_closed, firsts_first, firsts_mark, firsts_turns, append_assoc, append-nil)

pub ruleset others = (append_assoc, append-nil)

pub ruleset parameters = (parameter_named, parameter_alone, append_assoc, append-nil)

pub ruleset owns = (own_plain, own_undotted, own_number, own_else, append_assoc, append-nil)
