-- What holds of every group, of all words, literals and punctuations and of all raw tokens of a tree holds of those of
-- what is kept, and of its normal form.
use Rattle.std.proofs.Common.{◌≡◌, ℕ, List, [], ◌∷◌, codes, refl, sym, subst}
use Rattle.std.specs.Prelude.{Bool, true, false, ◌&&◌, not, nat_eq, cond}
use Rattle.std.proofs.lemmas.Bool.{false≢true}
use Rattle.proc_macro2.specs.Token.{Token}
use Rattle.proc_macro2.specs.declared.delimiter.Delimiter.{Delimiter}
use Rattle.proc_macro2.specs.declared.delimiter.Delimiter.TheVariants.{Parenthesis}
use Rattle.rust_leaf.specs.declared.punct.Spacing.{Spacing}
use Rattle.rust_leaf.specs.declared.punct.Spacing.TheVariants.{Alone as Apart}
use Rattle.syn_grammar.specs.Kind.{Kind, Position, Plain, Expression, AStatement, AnItem, OuterAttributes, ExprField}
use Rattle.syn_grammar.specs.Kind.{ExprMethodCall, ExprAwait, ExprCast, ExprAttributed, Where, Generics, ImplGenerics}
use Rattle.syn_grammar.specs.Kind.{BoundsColon, LifetimeColon, GenericParams, Arguments, Parameter, DynType, ImplType}
use Rattle.syn_grammar.specs.Kind.{Meta, Member, Index, Arm, AnArgument, ConstParam, Body, ATypeAlias, AnImpl}
use Rattle.syn_grammar.specs.Kind.{Items, ForeignItems, TraitItems, ImplItems, Statements}
use Rattle.syn_grammar.specs.Name.{Part, same_part, the_unnamed, the_attributes, the_expression, the_indices, the_value}
use Rattle.syn_grammar.specs.Name.{the_comma, the_arguments, the_generics}
use Rattle.syn_grammar.specs.Words.{indices, plain_decimal}
use Rattle.syn_grammar.specs.Tree.{Tree, AWord, ALiteral, AMark, ALifetime, Raw, Nil, Pair, First, Second, End, Again}
use Rattle.syn_grammar.specs.Tree.{Final, More, Group, Dropped, Called, Verbatim, Hidden, Node, Whole, Alone, Front}
use Rattle.syn_grammar.specs.Tree.{Back, Infix, flat}
use Rattle.syn_grammar.specs.Part.{changed}
use Rattle.syn_grammar.specs.Forms.{level, inside, form_of}
use Rattle.syn_grammar.specs.Kept.{named, listed_bound, unsafe_path, attributed, attributed_in, given, left_in_front}
use Rattle.syn_grammar.specs.Kept.{is_macro, own_part, is_there, expression_statement, as_statement, plain_index}
use Rattle.syn_grammar.specs.Kept.{plain_member, not_last, constant_argument, constant_default, index_field}
use Rattle.syn_grammar.specs.Kept.{index_fields, fields_in_front, last_fields, dotted_own, dotted, forget, held, kept}
use Rattle.syn_grammar.specs.Tidy.{is_bare_where, is_bare_colon, is_bare_generics, is_lifetime_param}
use Rattle.syn_grammar.specs.Tidy.{is_lifetime_argument, joined, those_then, others_of, lifetimes_first, is_absent}
use Rattle.syn_grammar.specs.Tidy.{moved, keeps_generics, without_generics, tidy}
use Rattle.syn_grammar.specs.Parens.{parens_unless, stays_right, stays_left, with_right, with_left, begins_in}
use Rattle.syn_grammar.specs.Parens.{stands_in, takes_what_follows, follow}
use Rattle.syn_grammar.specs.Normal.{place_of, passed, stands_behind, apart, apart_raw, apart_alternative, apart_item}
use Rattle.syn_grammar.specs.Normal.{apart_if, is_enclosed, normal_in, formed}

-- an item of a file, of a module or among statements
abbrev pub is_item : Kind → Bool
is_item AnItem = true
is_item _ = false

-- lists of items and of statements
abbrev pub is_row : Kind → Bool
is_row Items = true
is_row ForeignItems = true
is_row TraitItems = true
is_row ImplItems = true
is_row Statements = true
is_row _ = false

-- of a raw item one thing, and of other raw tokens another; and, if one wants, of a row another than of other trees
abbrev pub NodeOf : Bool → Bool → (List Token → Type 0) → Tree → (here row : Type 0) → Type 0
NodeOf false false Q x e l = e
NodeOf false true Q x e l = l
NodeOf true b Q (Raw ts) e l = Q ts
NodeOf true b Q (Verbatim x) e l = Q (flat x)
NodeOf true b Q x e l = e

-- What is asked: of an element of a row, before those behind it, in place of what is asked of it elsewhere; of
-- delimiters, of words and lifetimes, of literals, of punctuations and separators, of raw tokens, and of raw items.
abbrev mutual
  pub Every : Bool → (Tree → Tree → Type 0 → Type 0) → (Delimiter → Type 0) → (List ℕ → Type 0) → (List ℕ → Type 0)
      → (ℕ → List ℕ → Spacing → Type 0) → (List Token → Type 0) → (List Token → Type 0) → Tree → Type 0
  Every S T D W L M P Q (AWord cs) = W cs
  Every S T D W L M P Q (ALiteral cs) = L cs
  Every S T D W L M P Q (AMark c cs spacing) = M c cs spacing
  Every S T D W L M P Q (ALifetime cs) = W cs
  Every S T D W L M P Q (Raw ts) = P ts
  Every S T D W L M P Q (Pair x y) = Every S T D W L M P Q x × Every S T D W L M P Q y
  Every S T D W L M P Q (First x) = Every S T D W L M P Q x
  Every S T D W L M P Q (Second x) = Every S T D W L M P Q x
  Every S T D W L M P Q (Again x y) = Every S T D W L M P Q x × Every S T D W L M P Q y
  Every S T D W L M P Q (Final x) = Every S T D W L M P Q x
  Every S T D W L M P Q (More x c spacing y) = Every S T D W L M P Q x × M c [] spacing × Every S T D W L M P Q y
  Every S T D W L M P Q (Group d x) = D d × Every S T D W L M P Q x
  Every S T D W L M P Q (Dropped x) = Every S T D W L M P Q x
  Every S T D W L M P Q (Called n x) = Every S T D W L M P Q x
  Every S T D W L M P Q (Verbatim x) = P (flat x)
  Every S T D W L M P Q (Node k x) =
      NodeOf (is_item k) (is_row k && S) Q x (Every S T D W L M P Q x) (EveryTurn S T D W L M P Q x)
  Every S T D W L M P Q (Whole x) = Every S T D W L M P Q x
  Every S T D W L M P Q (Alone k y) = Every S T D W L M P Q y
  Every S T D W L M P Q (Front k y x) = Every S T D W L M P Q y × Every S T D W L M P Q x
  Every S T D W L M P Q (Back l k y) = Every S T D W L M P Q l × Every S T D W L M P Q y
  Every S T D W L M P Q (Infix l k y r) = Every S T D W L M P Q l × Every S T D W L M P Q y × Every S T D W L M P Q r
  Every S T D W L M P Q _ = Unit {0}

  pub EveryTurn : Bool → (Tree → Tree → Type 0 → Type 0) → (Delimiter → Type 0) → (List ℕ → Type 0)
      → (List ℕ → Type 0) → (ℕ → List ℕ → Spacing → Type 0) → (List Token → Type 0) → (List Token → Type 0) → Tree
      → Type 0
  EveryTurn S T D W L M P Q (First x) = EveryTurn S T D W L M P Q x
  EveryTurn S T D W L M P Q (Again x y) = T x y (Every S T D W L M P Q x) × EveryTurn S T D W L M P Q y
  EveryTurn S T D W L M P Q End = Unit {0}
  EveryTurn S T D W L M P Q x = ⊥

-- nothing is asked of delimiters, of words and literals, or of punctuations, and of an element of a row what is asked
-- elsewhere
abbrev pub AnyDelimiter : Delimiter → Type 0
AnyDelimiter d = Unit {0}

abbrev pub AnyText : List ℕ → Type 0
AnyText cs = Unit {0}

abbrev pub AnyMark : ℕ → List ℕ → Spacing → Type 0
AnyMark c cs spacing = Unit {0}

abbrev pub AnyTurn : Tree → Tree → Type 0 → Type 0
AnyTurn x y e = e

pub no_row : (k : Kind) → is_row k && false ≡ false
no_row k = go (is_row k)
  where
    go : (b : Bool) → b && false ≡ false
    go true = refl
    go false = refl

pub item_kind : (k : Kind) → is_item k ≡ true → k ≡ AnItem
item_kind AnItem e = refl
item_kind _ e = absurd (false≢true e)

row_tidy : (k : Kind) (S : Bool) (x : Tree) → is_row k && S ≡ true → tidy k x ≡ x
row_tidy Items S x e = refl
row_tidy ForeignItems S x e = refl
row_tidy TraitItems S x e = refl
row_tidy ImplItems S x e = refl
row_tidy Statements S x e = refl
row_tidy _ S x e = absurd (false≢true e)

held_item : (k : Kind) → is_item k ≡ false → is_item (held k) ≡ false
unfolding held
held_item AnItem e = absurd (false≢true (sym e))
held_item _ e = refl

module _ (S : Bool) (T : Tree → Tree → Type 0 → Type 0) (D : Delimiter → Type 0) (W L : List ℕ → Type 0)
    (M : ℕ → List ℕ → Spacing → Type 0) (P Q : List Token → Type 0) where
  abbrev E : Tree → Type 0
  E x = Every S T D W L M P Q x

  abbrev R : Tree → Type 0
  R x = EveryTurn S T D W L M P Q x

  pub in_node : (k : Kind) (x : Tree) → is_item k ≡ false → is_row k && S ≡ false → E x → E (Node k x)
  in_node k x e f h =
      subst (λ b. NodeOf b (is_row k && S) Q x (E x) (R x)) (sym e)
      (subst (λ b. NodeOf false b Q x (E x) (R x)) (sym f) h)

  pub out_node : (k : Kind) (x : Tree) → is_item k ≡ false → is_row k && S ≡ false → E (Node k x) → E x
  out_node k x e f h =
      subst (λ b. NodeOf false b Q x (E x) (R x)) f (subst (λ b. NodeOf b (is_row k && S) Q x (E x) (R x)) e h)

  pub in_row : (k : Kind) (x : Tree) → is_item k ≡ false → is_row k && S ≡ true → R x → E (Node k x)
  in_row k x e f h =
      subst (λ b. NodeOf b (is_row k && S) Q x (E x) (R x)) (sym e)
      (subst (λ b. NodeOf false b Q x (E x) (R x)) (sym f) h)

  pub out_row : (k : Kind) (x : Tree) → is_item k ≡ false → is_row k && S ≡ true → E (Node k x) → R x
  out_row k x e f h =
      subst (λ b. NodeOf false b Q x (E x) (R x)) f (subst (λ b. NodeOf b (is_row k && S) Q x (E x) (R x)) e h)

  every_cond : (b : Bool) (x y : Tree) → E x → E y → E (cond b x y)
  every_cond true x y c d = c
  every_cond false x y c d = d

  -- where of no element of a row more is asked than of other trees
  in_item : ((ts : List Token) → P ts → Q ts) → (x : Tree) → E x → E (Node AnItem x)
  in_item f (Raw ts) h = f ts h
  in_item f (Verbatim x) h = f (flat x) h
  in_item f _ h = h

  out_item : ((ts : List Token) → Q ts → P ts) → (x : Tree) → E (Node AnItem x) → E x
  out_item f (Raw ts) h = f ts h
  out_item f (Verbatim x) h = f (flat x) h
  out_item f _ h = h

  pub in_any : ((k : Kind) → is_row k && S ≡ false) → ((ts : List Token) → P ts → Q ts) → (k : Kind) (x : Tree) → E x
      → E (Node k x)
  in_any none f k x h = go (is_item k) refl
    where
      go : (b : Bool) → is_item k ≡ b → E (Node k x)
      go false e = in_node k x e (none k) h
      go true e = subst (λ i. E (Node i x)) (sym (item_kind k e)) (in_item f x h)

  pub out_any : ((k : Kind) → is_row k && S ≡ false) → ((ts : List Token) → Q ts → P ts) → (k : Kind) (x : Tree)
      → E (Node k x) → E x
  out_any none f k x h = go (is_item k) refl
    where
      go : (b : Bool) → is_item k ≡ b → E x
      go false e = out_node k x e (none k) h
      go true e = out_item f x (subst (λ i. E (Node i x)) (item_kind k e) h)

  module _ (n : Part) (f : Tree → Tree) (h : (x : Tree) → E x → E (f x)) where
    every_changed : (x : Tree) → E x → E (changed n f x)
    every_changed (Called m x) c = every_cond (same_part m n) (f x) x (h x c) c
    every_changed (Pair x y) c = (every_changed x c.0, every_changed y c.1)
    every_changed (First x) c = every_changed x c
    every_changed (Second x) c = every_changed x c
    every_changed (Group d x) c = (c.0, every_changed x c.1)
    every_changed _ c = c

  -- what is kept, where `_`, indices, `:` and `.` may be added
  module _ (underscore : W (codes "_")) (index : (cs : List ℕ) → L (plain_decimal cs)) (colon : M 58 [] Apart)
      (dot : M 46 [] Apart) where
    every_named : (x : Tree) → E x → E (named x)
    every_named (Pair a (Second (Second (First (Called the_unnamed t))))) h = (h.0, (underscore, (colon, h.1)))
    every_named _ h = h

    every_listed : (x : Tree) → E x → E (listed_bound x)
    every_listed (Pair w (Second b)) h = h
    every_listed _ h = h

    every_unsafe : (x : Tree) → E x → E (unsafe_path x)
    every_unsafe (Pair (First w) x) h = ((tt, (h.0, tt)), h.1)
    every_unsafe _ h = h

    every_attributed : (a x : Tree) → E a → E x → E (attributed a x)
    every_attributed a (Infix l k y r) h i =
        every_cond (nat_eq (level k) 3) (Front ExprAttributed a (Infix l k y r)) (Infix (attributed a l) k y r) (h, i)
        (every_attributed a l h i.0, i.1, i.2)
    every_attributed a (Back l ExprCast y) h i = (every_attributed a l h i.0, i.1)
    every_attributed a _ h i = (h, i)

    every_given : (a e : Tree) → E a → E e → E (given a e)
    every_given (Node OuterAttributes (Again a b)) e h i = go e i
      where
        go : (e : Tree) → E e → E (attributed_in (Pair a (Node OuterAttributes b)) e)
        go (Node (Expression p) (Whole x)) i = every_attributed (Pair a (Node OuterAttributes b)) x h i
        go _ i = i
    every_given _ e h i = i

    every_left : (a : Tree) → E a → E (left_in_front a)
    every_left (Node OuterAttributes (Again a b)) h = tt
    every_left _ h = h

    every_own : (x : Tree) → E x → E (own_part x)
    every_own (Alone k y) h = h
    every_own _ h = tt

    every_form_of : (x : Tree) → E x → E (form_of x)
    every_form_of (Node (Expression p) (Whole x)) h = h
    every_form_of _ h = h

    every_statement : (a e s : Tree) → E a → E e → E s → E (expression_statement a e s)
    every_statement a e s h i j =
        every_cond (is_macro (form_of e) && is_there s) _ _ (h, (every_own (form_of e) (every_form_of e i), j))
        (every_left a h, (every_given a e h i, j))

    every_as_statement : (x : Tree) → E x → E (as_statement x)
    every_as_statement
        (Second (Second (Second (Second (Pair (Called the_attributes a) (Pair (Called the_expression e) s)))))) h =
        every_statement a e s h.0 h.1.0 h.1.1
    every_as_statement _ h = h

    every_index : (x : Tree) → E x → E (plain_index x)
    every_index (ALiteral cs) h = index cs
    every_index _ h = h

    every_member : (x : Tree) → E x → E (plain_member x)
    every_member (Second x) h = every_index x h
    every_member _ h = h

    every_not_last : (x : Tree) → E x → E (not_last x)
    every_not_last (First x) h = h
    every_not_last _ h = h

    every_argument : (x : Tree) → E x → E (constant_argument x)
    every_argument (Second (First (First x))) h = h
    every_argument (Second (First (Second x))) h = h
    every_argument (Second (Second (First (Node Body x)))) h = (tt, h)
    every_argument _ h = h

    every_default : (x : Tree) → E x → E (constant_default x)
    every_default (First x) h = h
    every_default (Second (First x)) h = (tt, h)
    every_default (Second (Second x)) h = (tt, (h, tt))
    every_default _ h = h

    pub every_forget : (k : Kind) (x : Tree) → E x → E (forget k x)
    every_forget Parameter x h = every_named x h
    every_forget (DynType p) x h = every_listed x h
    every_forget (ImplType p) x h = every_listed x h
    every_forget Meta x h = every_unsafe x h
    every_forget AStatement x h = every_as_statement x h
    every_forget Member x h = every_member x h
    every_forget Index x h = every_index x h
    every_forget AnArgument x h = every_argument x h
    every_forget ConstParam x h = every_changed the_value constant_default every_default x h
    every_forget Arm x h = every_changed the_comma not_last every_not_last x h
    every_forget _ x h = h

    every_fields : (l : Tree) (texts : List (List ℕ)) → E l → E (index_fields l texts)
    every_fields l [] h = h
    every_fields l (cs ∷ texts) h = every_fields (index_field l cs) texts (h, ((dot, tt), index cs))

    every_in_front : (l x : Tree) → E l → E (fields_in_front l x)
    every_in_front l (Again (ALiteral cs) x) h =
        every_in_front (index_fields l (indices cs)) x (every_fields l (indices cs) h)
    every_in_front l _ h = h

    every_last : (l : Tree) (k : Kind) (d x : Tree) → E l → E d → E x → E (last_fields l k d x)
    every_last l ExprField d (Second (Called the_value (ALiteral cs))) h i j = every_fields l (indices cs) h
    every_last l _ d x h i j = (h, ((i, tt), j))

    every_own_dots : (l : Tree) (k : Kind) (y : Tree) → E l → E y → E (dotted_own l k y)
    every_own_dots l k (Pair (Pair d (Called the_indices x)) y) h i =
        every_last (fields_in_front l x) k d y (every_in_front l x h) i.0.0 i.1
    every_own_dots l k _ h i = (h, i)

    pub every_dotted : (l : Tree) (k : Kind) (y : Tree) → E l → E y → E (dotted l k y)
    every_dotted l ExprField y h i = every_own_dots l ExprField y h i
    every_dotted l ExprMethodCall y h i = every_own_dots l ExprMethodCall y h i
    every_dotted l ExprAwait y h i = every_own_dots l ExprAwait y h i
    every_dotted l _ y h i = (h, i)

    -- of a whole tree
    module _ (still : (c : ℕ) (cs : List ℕ) (spacing : Spacing) → M c cs spacing → M c cs Apart)
        (weaken : (ts : List Token) → P ts → Q ts) (none : (k : Kind) → is_row k && S ≡ false) where
      item_kept : (x : Tree) → (E x → E (kept x)) → E (Node AnItem x) → E (Node AnItem (kept x))
      item_kept (Raw ts) f h = h
      item_kept (Verbatim x) f h = h
      item_kept x f h = in_item weaken (kept x) (f h)

      kept_node : (k : Kind) (x : Tree) (b : Bool) → is_item k ≡ b → (E x → E (kept x))
          → E (Node k x) → E (Node (held k) (forget k (kept x)))
      unfolding held
      kept_node k x false e f h = in_node (held k) _ (held_item k e) (none (held k))
          (every_forget k (kept x) (f (out_node k x e (none k) h)))
      kept_node k x true e f h =
          let j : k ≡ AnItem = item_kind k e in
          subst (λ i. E (Node i x) → E (Node (held i) (forget i (kept x)))) (sym j) (item_kept x f) h

      pub every_kept : (x : Tree) → E x → E (kept x)
      every_kept (AWord cs) h = h
      every_kept (ALiteral cs) h = h
      every_kept (AMark c cs spacing) h = still c cs spacing h
      every_kept (ALifetime cs) h = h
      every_kept (Raw ts) h = h
      every_kept Nil h = tt
      every_kept (Pair x y) h = (every_kept x h.0, every_kept y h.1)
      every_kept (First x) h = every_kept x h
      every_kept (Second x) h = every_kept x h
      every_kept End h = tt
      every_kept (Again x y) h = (every_kept x h.0, every_kept y h.1)
      every_kept (Final x) h = every_kept x h
      every_kept (More x c spacing y) h = (every_kept x h.0, still c [] spacing h.1, every_kept y h.2)
      every_kept (Group d x) h = (h.0, every_kept x h.1)
      every_kept (Dropped x) h = tt
      every_kept (Called n x) h = every_kept x h
      every_kept (Verbatim x) h = h
      every_kept (Hidden x) h = tt
      every_kept (Node k x) h = kept_node k x (is_item k) refl (λ i. every_kept x i) h
      every_kept (Whole x) h = every_kept x h
      every_kept (Alone k y) h = every_kept y h
      every_kept (Front k y x) h = (every_kept y h.0, every_kept x h.1)
      every_kept (Back l k y) h = every_dotted (kept l) k (kept y) (every_kept l h.0) (every_kept y h.1)
      every_kept (Infix l k y r) h = (every_kept l h.0, every_kept y h.1, every_kept r h.2)

  -- normal form, where a `,` may be added
  module _ (comma : M 44 [] Apart) where
    every_joined : (x y : Tree) → E x → E y → E (joined x y)
    every_joined x End c d = c
    every_joined x _ c d = (c, comma, d)

    module _ (p : Tree → Bool) where
      every_those : (x o : Tree) → E x → E o → E (those_then p x o)
      every_those (More x m spacing y) o c d =
          let others = every_those y o c.2 d in
          every_cond (p x) (More x m spacing (those_then p y o)) (those_then p y o) (c.0, c.1, others) others
      every_those (Final x) o c d = every_cond (p x) (joined x o) o (every_joined x o c d) d
      every_those _ o c d = d

      every_others : (x : Tree) → E x → E (others_of p x)
      every_others (More x m spacing y) c =
          let others = every_others y c.2 in
          every_cond (p x) (others_of p y) (More x m spacing (others_of p y)) others (c.0, c.1, others)
      every_others (Final x) c = every_cond (p x) End (Final x) tt c
      every_others _ c = c

      every_first : (x : Tree) → E x → E (lifetimes_first p x)
      every_first x c = every_those x (others_of p x) c (every_others x c)

    every_moved : (x : Tree) → E x → E (moved x)
    every_moved (First (Pair w d)) h = every_cond (is_absent w) (Second (Pair d w)) (First (Pair w d)) (h.1, h.0) h
    every_moved _ h = h

    every_without : (x : Tree) → E x → E (without_generics x)
    every_without (Node ImplGenerics g) h = every_cond (is_bare_generics g) (Second Nil) g tt h
    every_without _ h = h

    pub every_tidy : (k : Kind) (x : Tree) → E x → E (tidy k x)
    every_tidy Where x h = every_cond (is_bare_where x) (Second Nil) x tt h
    every_tidy Generics x h = every_cond (is_bare_generics x) (Second Nil) x tt h
    every_tidy BoundsColon x h = every_cond (is_bare_colon x) (Second Nil) x tt h
    every_tidy LifetimeColon x h = every_cond (is_bare_colon x) (Second Nil) x tt h
    every_tidy GenericParams x h = every_first is_lifetime_param x h
    every_tidy Arguments x h = every_changed the_arguments (lifetimes_first is_lifetime_argument)
        (every_first is_lifetime_argument) x h
    every_tidy (ATypeAlias p) x h = every_changed the_value moved every_moved x h
    every_tidy AnImpl x h = every_cond (keeps_generics x) x (changed the_generics without_generics x) h
        (every_changed the_generics without_generics every_without x h)
    every_tidy _ x h = h

-- normal form, with a parenthesis that may be added too, and a raw item whose last mark is set apart
module _ (S : Bool) (T U : Tree → Tree → Type 0 → Type 0) (D : Delimiter → Type 0) (W L : List ℕ → Type 0)
    (M : ℕ → List ℕ → Spacing → Type 0) (P Q : List Token → Type 0) (comma : M 44 [] Apart)
    (still : (c : ℕ) (cs : List ℕ) (spacing : Spacing) → M c cs spacing → M c cs Apart)
    (paren : D Parenthesis) (close : (ts : List Token) → Q ts → Q (apart ts))
    (turn : (p : Position) (x y : Tree) → (Every S T D W L M P Q x
    → Every S U D W L M P Q (apart_if (is_enclosed y (normal_in p y)) (normal_in p x)))
    → T x y (Every S T D W L M P Q x) → U (apart_if (is_enclosed y (normal_in p y)) (normal_in p x)) (normal_in p y)
    (Every S U D W L M P Q (apart_if (is_enclosed y (normal_in p y)) (normal_in p x))))
    (stay : (x y : Tree) → (Every S T D W L M P Q x → Every S U D W L M P Q x) → T x y (Every S T D W L M P Q x)
    → U x y (Every S U D W L M P Q x)) where
  abbrev A : Tree → Type 0
  A x = Every S T D W L M P Q x

  abbrev B : Tree → Type 0
  B x = Every S U D W L M P Q x

  -- a tree as it is
  bare_node : (k : Kind) (x : Tree) (b c : Bool) → is_item k ≡ b → is_row k && S ≡ c → (A x → B x)
      → (EveryTurn S T D W L M P Q x → EveryTurn S U D W L M P Q x) → A (Node k x) → B (Node k x)
  bare_node k x false false e g f l h = in_node S U D W L M P Q k x e g (f (out_node S T D W L M P Q k x e g h))
  bare_node k x false true e g f l h = in_row S U D W L M P Q k x e g (l (out_row S T D W L M P Q k x e g h))
  bare_node k x true c e g f l h = subst (λ i. A (Node i x) → B (Node i x)) (sym (item_kind k e)) (go x f) h
    where
      go : (x : Tree) → (A x → B x) → A (Node AnItem x) → B (Node AnItem x)
      go (Raw ts) f h = h
      go (Verbatim x) f h = h
      go x f h = f h

  mutual
    bare : (x : Tree) → A x → B x
    bare (AWord cs) h = h
    bare (ALiteral cs) h = h
    bare (AMark c cs spacing) h = h
    bare (ALifetime cs) h = h
    bare (Raw ts) h = h
    bare Nil h = tt
    bare (Pair x y) h = (bare x h.0, bare y h.1)
    bare (First x) h = bare x h
    bare (Second x) h = bare x h
    bare End h = tt
    bare (Again x y) h = (bare x h.0, bare y h.1)
    bare (Final x) h = bare x h
    bare (More x c spacing y) h = (bare x h.0, h.1, bare y h.2)
    bare (Group d x) h = (h.0, bare x h.1)
    bare (Dropped x) h = bare x h
    bare (Called n x) h = bare x h
    bare (Verbatim x) h = h
    bare (Hidden x) h = tt
    bare (Node k x) h = bare_node k x (is_item k) (is_row k && S) refl refl (λ i. bare x i) (λ i. bare_turns x i) h
    bare (Whole x) h = bare x h
    bare (Alone k y) h = bare y h
    bare (Front k y x) h = (bare y h.0, bare x h.1)
    bare (Back l k y) h = (bare l h.0, bare y h.1)
    bare (Infix l k y r) h = (bare l h.0, bare y h.1, bare r h.2)

    bare_turns : (x : Tree) → EveryTurn S T D W L M P Q x → EveryTurn S U D W L M P Q x
    bare_turns (First x) h = bare_turns x h
    bare_turns (Again x y) h = (stay x y (λ i. bare x i) h.0, bare_turns y h.1)
    bare_turns End h = tt
    bare_turns _ h = absurd h

  every_raw : (x : Tree) → B x → B (apart_raw x)
  every_raw (Node AnItem (Raw ts)) h = close ts h
  every_raw _ h = h

  every_alternative : (x : Tree) → B x → B (apart_alternative x)
  every_alternative (First x) h = every_raw x h
  every_alternative (Second x) h = every_alternative x h
  every_alternative _ h = h

  every_item : (x : Tree) → B x → B (apart_item x)
  every_item (Second (Node AStatement x)) h = every_alternative x h
  every_item _ h = h

  set_apart : (b : Bool) (x : Tree) → B x → B (apart_if b x)
  set_apart true x h = every_item x h
  set_apart false x h = h

  every_parens : (b : Bool) (x : Tree) → B x → B (parens_unless b x)
  every_parens true x h = h
  every_parens false x h = (paren, h)

  item_normal : (p : Position) (x : Tree) → (A x → B (normal_in p x)) → A (Node AnItem x)
      → B (Node AnItem (normal_in p x))
  item_normal p (Raw ts) f h = h
  item_normal p (Verbatim x) f h = h
  item_normal p x f h = f h

  tidied : (k : Kind) (p : Position) (x : Tree) (b c : Bool) → is_item k ≡ b → is_row k && S ≡ c
      → (A x → B (normal_in (passed k p) x))
      → (EveryTurn S T D W L M P Q x → EveryTurn S U D W L M P Q (normal_in (passed k p) x))
      → A (Node k x) → B (Node k (tidy k (normal_in (passed k p) x)))
  tidied k p x false false e g f l h =
      in_node S U D W L M P Q k _ e g (every_tidy S U D W L M P Q comma k (normal_in (passed k p) x)
      (f (out_node S T D W L M P Q k x e g h)))
  tidied k p x false true e g f l h =
      subst (λ z. B (Node k z)) (sym (row_tidy k S (normal_in (passed k p) x) g))
      (in_row S U D W L M P Q k (normal_in (passed k p) x) e g (l (out_row S T D W L M P Q k x e g h)))
  tidied k p x true c e g f l h =
      let j : k ≡ AnItem = item_kind k e in
      subst (λ i. (A x → B (normal_in (passed i p) x)) → A (Node i x)
      → B (Node i (tidy i (normal_in (passed i p) x)))) (sym j) (item_normal (passed AnItem p) x) f h

  mutual
    pub every_normal : (p : Position) (x : Tree) → A x → B (normal_in p x)
    every_normal p (AWord cs) h = h
    every_normal p (ALiteral cs) h = h
    every_normal p (AMark c cs spacing) h = still c cs spacing h
    every_normal p (ALifetime cs) h = h
    every_normal p (Raw ts) h = h
    every_normal p Nil h = tt
    every_normal p (Pair x y) h = (every_normal p x h.0, every_normal p y h.1)
    every_normal p (First x) h = every_normal p x h
    every_normal p (Second x) h = every_normal p x h
    every_normal p End h = tt
    every_normal p (Again x y) h = (
      set_apart (is_enclosed y (normal_in p y)) (normal_in p x) (every_normal p x h.0),
      every_normal p y h.1,
    )
    every_normal p (Final x) h = every_normal p x h
    every_normal p (More x c spacing y) h =
        (every_normal p x h.0, still c [] spacing h.1, every_normal p y h.2)
    every_normal p (Group d x) h = (h.0, every_normal p x h.1)
    every_normal p (Dropped x) h = tt
    every_normal p (Called n x) h = every_normal (place_of n) x h
    every_normal p (Verbatim x) h = h
    every_normal p (Hidden x) h = tt
    every_normal p (Node k x) h =
        tidied k p x (is_item k) (is_row k && S) refl refl (λ i. every_normal (passed k p) x i)
        (λ i. turns_normal (passed k p) x i) h
    every_normal p (Whole x) h = every_formed p (stands_behind p) x h
    every_normal p (Alone k y) h = bare (Alone k y) h
    every_normal p (Front k y x) h = bare (Front k y x) h
    every_normal p (Back l k y) h = bare (Back l k y) h
    every_normal p (Infix l k y r) h = bare (Infix l k y r) h

    every_formed : (p : Position) (ts : List Token) (x : Tree) → A x → B (formed p ts x)
    every_formed p ts (Alone k y) h = every_parens (not (takes_what_follows p k ts)) (Alone k (normal_in Plain y))
        (every_normal Plain y h)
    every_formed p ts (Front k y x) h =
        let z : Tree = formed (inside p k) ts x in
        every_parens (begins_in p k) (Front k (normal_in Plain y) (with_right p k (normal_in Plain y) z)) (
          every_normal Plain y h.0,
          every_parens (stays_right p k (normal_in Plain y) z) z
              (every_formed (inside p k) ts x h.1),
        )
    every_formed p ts (Back l k y) h =
        let own : Tree = normal_in Plain y in
        let z : Tree = formed p (follow (flat own)) l in
        every_parens (stands_in p k && not (takes_what_follows p k ts)) (Back (with_left p k own z) k own)
        (every_parens (stays_left p k own z) z (every_formed p (follow (flat own)) l h.0), every_normal Plain y h.1)
    every_formed p ts (Infix l k y r) h =
        let own : Tree = normal_in Plain y in
        let z : Tree = formed p (follow (flat own)) l in
        let u : Tree = formed (inside p k) ts r in (
          every_parens (stays_left p k own z) z (every_formed p (follow (flat own)) l h.0),
          every_normal Plain y h.1,
          every_parens (stays_right p k own u) u (every_formed (inside p k) ts r h.2),
        )
    every_formed p ts x h = bare x h

    turns_normal : (p : Position) (x : Tree) → EveryTurn S T D W L M P Q x
        → EveryTurn S U D W L M P Q (normal_in p x)
    turns_normal p (First x) h = turns_normal p x h
    turns_normal p (Again x y) h = (
      turn p x y (λ i. set_apart (is_enclosed y (normal_in p y)) (normal_in p x)
          (every_normal p x i)) h.0,
      turns_normal p y h.1,
    )
    turns_normal p End h = tt
    turns_normal p _ h = absurd h
