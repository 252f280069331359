-- The normal form of what a syntax tree holds is what a syntax tree holds.
use Rattle.std.proofs.Common.{◌≡◌, ℕ, List, [], ◌∷◌, refl, sym, ap, ◌∙◌, subst}
use Rattle.std.specs.Prelude.{Bool, true, false, ◌&&◌, not, cond}
use Rattle.proc_macro2.specs.Token.{Token}
use Rattle.syn_grammar.specs.Kind.{Kind, Position, Plain, Expression, Parameter, DynType, ImplType, AStatement, AnItem}
use Rattle.syn_grammar.specs.Kind.{Meta, Member, Index, Arm, AnArgument, ConstParam, Body, OuterAttributes, ExprField}
use Rattle.syn_grammar.specs.Kind.{ExprMethodCall, ExprAwait, ExprMacro, Where, Generics, ImplGenerics, BoundsColon}
use Rattle.syn_grammar.specs.Kind.{LifetimeColon, GenericParams, Arguments, ATypeAlias, AnImpl}
use Rattle.syn_grammar.specs.Name.{Part, same_part, the_unnamed, the_attributes, the_expression, the_indices, the_value}
use Rattle.syn_grammar.specs.Name.{the_comma, the_arguments, the_generics}
use Rattle.syn_grammar.specs.Words.{before_dot, behind_dots, texts_of, plain_decimal}
use Rattle.syn_grammar.specs.Tree.{Tree, AWord, ALiteral, AMark, ALifetime, Raw, Nil, Pair, First, Second, End, Again}
use Rattle.syn_grammar.specs.Tree.{Final, More, Group, Dropped, Called, Verbatim, Hidden, Node, Whole, Alone, Front}
use Rattle.syn_grammar.specs.Tree.{Back, Infix, flat}
use Rattle.syn_grammar.specs.Part.{changed}
use Rattle.syn_grammar.specs.Forms.{inside, form_of}
use Rattle.syn_grammar.specs.Kept.{lone_dot, named, listed_bound, unsafe_path, given, left_in_front, is_macro, own_part}
use Rattle.syn_grammar.specs.Kept.{is_there, as_statement, plain_index, plain_member, not_last, constant_argument}
use Rattle.syn_grammar.specs.Kept.{constant_default, index_field, index_fields, fields_in_front, last_fields, forget}
use Rattle.syn_grammar.specs.Kept.{held, kept}
use Rattle.syn_grammar.specs.Tidy.{is_bare_where, is_bare_colon, is_bare_generics, is_lifetime_param}
use Rattle.syn_grammar.specs.Tidy.{is_lifetime_argument, joined, those_then, others_of, lifetimes_first, is_absent}
use Rattle.syn_grammar.specs.Tidy.{moved, keeps_generics, without_generics, tidy}
use Rattle.syn_grammar.specs.Parens.{parens_unless, may_lack, takes_what_follows, stays_right, stays_left, with_right}
use Rattle.syn_grammar.specs.Parens.{with_left, begins_in, stands_in, follow, alone}
use Rattle.syn_grammar.specs.Normal.{place_of, passed, stands_behind, apart_raw, apart_alternative, apart_item}
use Rattle.syn_grammar.specs.Normal.{is_enclosed, normal_in, formed, normal}
use Rattle.syn_grammar.proofs.KeptForms.{IsUnsplit, KeptForm, form_cond, changed_form, all_kept, kept_form}

-- what a kind holds of its tree it holds of the normal form

index_stays : (q : Position) (x : Tree) → plain_index x ≡ x → plain_index (normal_in q x) ≡ normal_in q x
index_stays q (ALiteral cs) e = e
index_stays q _ e = refl

member_stays : (q : Position) (x : Tree) → plain_member x ≡ x → plain_member (normal_in q x) ≡ normal_in q x
member_stays q (Second x) e = let f : plain_index x ≡ x = cc in ap Second (index_stays q x f)
member_stays q _ e = refl

named_stays : (q : Position) (x : Tree) → named x ≡ x → named (normal_in q x) ≡ normal_in q x
named_stays q (Pair a (Second (Second (First (Called the_unnamed t))))) e = cc
named_stays q _ e = refl

listed_stays : (q : Position) (x : Tree) → listed_bound x ≡ x → listed_bound (normal_in q x) ≡ normal_in q x
listed_stays q (Pair w (Second b)) e = cc
listed_stays q _ e = refl

unsafe_stays : (q : Position) (x : Tree) → unsafe_path x ≡ x → unsafe_path (normal_in q x) ≡ normal_in q x
unsafe_stays q (Pair (First w) x) e = cc
unsafe_stays q _ e = refl

last_stays : (q : Position) (x : Tree) → not_last x ≡ x → not_last (normal_in q x) ≡ normal_in q x
last_stays q (First x) e = cc
last_stays q _ e = refl

default_stays : (q : Position) (x : Tree) → constant_default x ≡ x → constant_default (normal_in q x) ≡ normal_in q x
default_stays q (First x) e = cc
default_stays q (Second (First x)) e = cc
default_stays q (Second (Second x)) e = cc
default_stays q _ e = refl

argument_stays : (q : Position) (x : Tree) → constant_argument x ≡ x → constant_argument (normal_in q x) ≡ normal_in q x
argument_stays q (Second (First (First x))) e = cc
argument_stays q (Second (First (Second x))) e = cc
argument_stays q (Second (Second (First (Node Body x)))) e = cc
argument_stays q _ e = refl

-- of a part that is changed
module _ (n : Part) (f : Tree → Tree) (h : (q : Position) (x : Tree) → f x ≡ x → f (normal_in q x) ≡ normal_in q x)
  where
    cond_stays : (b : Bool) (q : Position) (x : Tree) → cond b (f x) x ≡ x
        → cond b (f (normal_in q x)) (normal_in q x) ≡ normal_in q x
    cond_stays true q x e = h q x e
    cond_stays false q x e = refl

    changed_stays : (q : Position) (x : Tree) → changed n f x ≡ x → changed n f (normal_in q x) ≡ normal_in q x
    changed_stays q (Called m x) e = let f : cond (same_part m n) (f x) x ≡ x = cc
        in ap (Called m) (cond_stays (same_part m n) (place_of m) x f)
    changed_stays q (Pair x y) e =
        let i : changed n f x ≡ x = cc in
        let j : changed n f y ≡ y = cc in
        ap (λ z. Pair z (changed n f (normal_in q y))) (changed_stays q x i)
        ∙ ap (Pair (normal_in q x)) (changed_stays q y j)
    changed_stays q (First x) e = let i : changed n f x ≡ x = cc in ap First (changed_stays q x i)
    changed_stays q (Second x) e = let i : changed n f x ≡ x = cc in ap Second (changed_stays q x i)
    changed_stays q (Group d x) e = let i : changed n f x ≡ x = cc in ap (Group d) (changed_stays q x i)
    changed_stays q _ e = refl

-- statements
macro_alone : (p : Position) (ts : List Token) (k : Kind) (y z : Tree)
    → is_macro (alone p ts k z) ≡ is_macro (Alone k y)
unfolding may_lack
macro_alone p ts ExprMacro y z = refl
macro_alone p ts k y z = go (not (takes_what_follows p k ts))
  where
    go : (b : Bool) → is_macro (parens_unless b (Alone k z)) ≡ is_macro (Alone k y)
    go true = refl
    go false = refl

macro_parens : (b : Bool) (x : Tree) → is_macro x ≡ false → is_macro (parens_unless b x) ≡ false
macro_parens true x e = e
macro_parens false x e = refl

macro_formed : (p : Position) (ts : List Token) (x : Tree) → is_macro (formed p ts x) ≡ is_macro x
macro_formed p ts (Alone k y) = macro_alone p ts k y (normal_in Plain y)
macro_formed p ts (Front k y x) = macro_parens (begins_in p k)
    (Front k (normal_in Plain y) (with_right p k (normal_in Plain y) (formed (inside p k) ts x))) refl
macro_formed p ts (Back l k y) =
    let own : Tree = normal_in Plain y in
    macro_parens (stands_in p k && not (takes_what_follows p k ts))
    (Back (with_left p k own (formed p (follow (flat own)) l)) k own) refl
macro_formed p ts (Infix l k y r) = refl
macro_formed p ts _ = refl

macro_stays : (q : Position) (e : Tree) → is_macro (form_of (normal_in q e)) ≡ is_macro (form_of e)
macro_stays q (Node (Expression p) (Whole x)) =
    macro_formed (passed (Expression p) q) (stands_behind (passed (Expression p) q)) x
macro_stays q _ = refl

there_stays : (q : Position) (s : Tree) → is_there (normal_in q s) ≡ is_there s
there_stays q (First s) = refl
there_stays q _ = refl

left_stays : (q : Position) (a : Tree) → left_in_front a ≡ a → left_in_front (normal_in q a) ≡ normal_in q a
left_stays q (Node OuterAttributes (Again a b)) e = cc
left_stays q _ e = refl

given_stays : (q : Position) (a e : Tree) → left_in_front a ≡ a → given (normal_in q a) e ≡ e
given_stays q (Node OuterAttributes (Again a b)) e h = cc
given_stays q _ e h = refl

statement_parts : (a e s : Tree) (c : Bool)
    → cond c (Second (First (Pair a (Pair (own_part (form_of e)) s))))
    (Second (Second
    (Second (Second (Pair (Called the_attributes (left_in_front a)) (Pair (Called the_expression (given a e)) s))))))
    ≡ Second (Second (Second (Second (Pair (Called the_attributes a) (Pair (Called the_expression e) s)))))
    → (c ≡ false) × (left_in_front a ≡ a)
statement_parts a e s true h = cc
statement_parts a e s false h = (refl, cc)

statement_stays : (q : Position) (x : Tree) → as_statement x ≡ x → as_statement (normal_in q x) ≡ normal_in q x
statement_stays q
    (Second (Second (Second (Second (Pair (Called the_attributes a) (Pair (Called the_expression e) s)))))) h =
    let p = statement_parts a e s (is_macro (form_of e) && is_there s) h in
    let b : Tree = normal_in (place_of the_attributes) a in
    let f : Tree = normal_in (place_of the_expression) e in
    let t : Tree = normal_in q s in
    ap (λ c. cond (c && is_there t) (Second (First (Pair b (Pair (own_part (form_of f)) t))))
    (Second (Second
    (Second (Second (Pair (Called the_attributes (left_in_front b)) (Pair (Called the_expression (given b f)) t)))))))
    (macro_stays (place_of the_expression) e)
    ∙ ap (λ c. cond (is_macro (form_of e) && c) (Second (First (Pair b (Pair (own_part (form_of f)) t))))
    (Second (Second
    (Second (Second (Pair (Called the_attributes (left_in_front b)) (Pair (Called the_expression (given b f)) t)))))))
    (there_stays q s)
    ∙ ap (λ c. cond c (Second (First (Pair b (Pair (own_part (form_of f)) t))))
    (Second (Second
    (Second (Second (Pair (Called the_attributes (left_in_front b)) (Pair (Called the_expression (given b f)) t)))))))
    p.0
    ∙ ap (λ z. Second
    (Second (Second (Second (Pair (Called the_attributes z) (Pair (Called the_expression (given b f)) t))))))
    (left_stays (place_of the_attributes) a p.1)
    ∙ ap (λ z. Second (Second (Second (Second (Pair (Called the_attributes b) (Pair (Called the_expression z) t))))))
    (given_stays (place_of the_attributes) a f p.1)
statement_stays q _ h = refl

forget_stays : (k : Kind) (q : Position) (x : Tree) → forget k x ≡ x
    → forget k (tidy k (normal_in q x)) ≡ tidy k (normal_in q x)
forget_stays Parameter q x e = named_stays q x e
forget_stays (DynType p) q x e = listed_stays q x e
forget_stays (ImplType p) q x e = listed_stays q x e
forget_stays Meta q x e = unsafe_stays q x e
forget_stays AStatement q x e = statement_stays q x e
forget_stays Member q x e = member_stays q x e
forget_stays Index q x e = index_stays q x e
forget_stays Arm q x e = changed_stays the_comma not_last last_stays q x e
forget_stays AnArgument q x e = argument_stays q x e
forget_stays ConstParam q x e = changed_stays the_value constant_default default_stays q x e
forget_stays _ q x e = refl

-- dots
record Ends (x : Tree) : Type 0 where
  left : Tree
  text : List ℕ
  is : x ≡ index_field left text

fields_end : (l : Tree) (cs : List ℕ) (texts : List (List ℕ)) → Ends (index_fields (index_field l cs) texts)
fields_end l cs [] = record { left = l; text = cs; is = refl }
fields_end l cs (ds ∷ texts) = fields_end (index_field l cs) ds texts

own_normal : (cs : List ℕ) (y : Tree)
    → y ≡ Pair (Pair lone_dot (Called the_indices End)) (Second (Called the_value (ALiteral cs)))
    → normal_in Plain y ≡ y
own_normal cs y e = ap (normal_in Plain) e ∙ sym e

-- an own part without numbers in front, of which nothing is split
none_in_front : (k : Kind) (d x z l m : Tree)
    → Back m k (Pair (Pair d (Called the_indices End)) z) ≡ Back l k (Pair (Pair d (Called the_indices x)) z) → x ≡ End
none_in_front k d x z l m e = cc

end_normal : (q : Position) (x : Tree) → x ≡ End → normal_in q x ≡ End
end_normal q x e = ap (normal_in q) e

unsplit_at : (k : Kind) (d z l w : Tree) → w ≡ End
    → last_fields l k d z ≡ Back l k (Pair (Pair d (Called the_indices End)) z)
    → last_fields (fields_in_front l w) k d z ≡ Back l k (Pair (Pair d (Called the_indices w)) z)
unsplit_at k d z l w e h =
    subst (λ w. last_fields (fields_in_front l w) k d z ≡ Back l k (Pair (Pair d (Called the_indices w)) z)) (sym e) h

value_own : (d x z l m : Tree) (cs : List ℕ) (texts : List (List ℕ))
    → index_fields (index_field m cs) texts ≡ Back l ExprField (Pair (Pair d (Called the_indices x)) z)
    → normal_in Plain (Pair (Pair d (Called the_indices x)) z) ≡ Pair (Pair d (Called the_indices x)) z
value_own d x z l m cs texts e =
    let own = fields_end m cs texts in
    let f : index_field own.left own.text ≡ Back l ExprField (Pair (Pair d (Called the_indices x)) z) = sym own.is ∙ e
    in
    own_normal (plain_decimal own.text) (Pair (Pair d (Called the_indices x)) z) cc

value_unsplit : (d x z m : Tree) → last_fields m ExprField d z
    ≡ Back Nil ExprField (Pair (Pair d (Called the_indices x)) z)
    → IsUnsplit ExprField (Pair (Pair d (Called the_indices x)) z)
    → IsUnsplit ExprField (normal_in Plain (Pair (Pair d (Called the_indices x)) z))
unfolding IsUnsplit
value_unsplit d x (Second (Called the_value (ALiteral cs))) m e h =
    subst (IsUnsplit ExprField)
    (sym (value_own d x (Second (Called the_value (ALiteral cs))) Nil m (before_dot cs) (texts_of (behind_dots cs))
    e)) h
value_unsplit d x z m e h = λ l. unsplit_at ExprField (normal_in Plain d) (normal_in Plain z) l
    (normal_in (place_of the_indices) x) (end_normal (place_of the_indices) x (none_in_front ExprField d x z Nil m e))
    refl

other_unsplit : (k : Kind) (d x z m : Tree)
    → (last : (l d z : Tree) → last_fields l k d z ≡ Back l k (Pair (Pair d (Called the_indices End)) z))
    → last_fields m k d z ≡ Back Nil k (Pair (Pair d (Called the_indices x)) z) → (l : Tree)
    → last_fields (fields_in_front l (normal_in (place_of the_indices) x)) k (normal_in Plain d) (normal_in Plain z)
    ≡ Back l k
    (Pair (Pair (normal_in Plain d) (Called the_indices (normal_in (place_of the_indices) x))) (normal_in Plain z))
other_unsplit k d x z m last e l =
    unsplit_at k (normal_in Plain d) (normal_in Plain z) l (normal_in (place_of the_indices) x)
    (end_normal (place_of the_indices) x (none_in_front k d x z Nil m (sym (last m d z) ∙ e)))
    (last l (normal_in Plain d) (normal_in Plain z))

own_unsplit : (k : Kind) (y : Tree) → IsUnsplit k y → IsUnsplit k (normal_in Plain y)
unfolding IsUnsplit
own_unsplit ExprField (Pair (Pair d (Called the_indices x)) z) h = value_unsplit d x z (fields_in_front Nil x) (h Nil) h
own_unsplit ExprMethodCall (Pair (Pair d (Called the_indices x)) z) h =
    other_unsplit ExprMethodCall d x z (fields_in_front Nil x) (λ l d z. refl) (h Nil)
own_unsplit ExprAwait (Pair (Pair d (Called the_indices x)) z) h =
    other_unsplit ExprAwait d x z (fields_in_front Nil x) (λ l d z. refl) (h Nil)
own_unsplit ExprField _ h = λ l. refl
own_unsplit ExprMethodCall _ h = λ l. refl
own_unsplit ExprAwait _ h = λ l. refl
own_unsplit _ y h = λ l. refl

-- tidy parts
joined_form : (x y : Tree) → KeptForm x → KeptForm y → KeptForm (joined x y)
unfolding KeptForm
joined_form x End h i = h
joined_form x _ h i = (h, refl, i)

module _ (p : Tree → Bool) where
  those_form : (x o : Tree) → KeptForm x → KeptForm o → KeptForm (those_then p x o)
  unfolding KeptForm
  those_form (More x c spacing y) o h i =
      let others = those_form y o h.2 i in
      form_cond (p x) (More x c spacing (those_then p y o)) (those_then p y o) (h.0, h.1, others) others
  those_form (Final x) o h i = form_cond (p x) (joined x o) o (joined_form x o h i) i
  those_form _ o h i = i

  others_form : (x : Tree) → KeptForm x → KeptForm (others_of p x)
  unfolding KeptForm
  others_form (More x c spacing y) h =
      let others = others_form y h.2 in
      form_cond (p x) (others_of p y) (More x c spacing (others_of p y)) others (h.0, h.1, others)
  others_form (Final x) h = form_cond (p x) End (Final x) tt h
  others_form _ h = h

  first_form : (x : Tree) → KeptForm x → KeptForm (lifetimes_first p x)
  first_form x h = those_form x (others_of p x) h (others_form x h)

moved_form : (x : Tree) → KeptForm x → KeptForm (moved x)
unfolding KeptForm
moved_form (First (Pair w d)) h = form_cond (is_absent w) (Second (Pair d w)) (First (Pair w d)) (h.1, h.0) h
moved_form _ h = h

without_form : (x : Tree) → KeptForm x → KeptForm (without_generics x)
unfolding KeptForm
without_form (Node ImplGenerics g) h = (h.0, refl, form_cond (is_bare_generics g) (Second Nil) g tt h.2)
without_form _ h = h

removed_form : (e : Tree → Bool) (x : Tree) → KeptForm x → KeptForm (cond (e x) (Second Nil) x)
unfolding KeptForm
removed_form e x h = form_cond (e x) (Second Nil) x tt h

tidy_form : (k : Kind) (x : Tree) → KeptForm x → KeptForm (tidy k x)
tidy_form Where x h = removed_form is_bare_where x h
tidy_form Generics x h = removed_form is_bare_generics x h
tidy_form BoundsColon x h = removed_form is_bare_colon x h
tidy_form LifetimeColon x h = removed_form is_bare_colon x h
tidy_form GenericParams x h = first_form is_lifetime_param x h
tidy_form Arguments x h = changed_form the_arguments (lifetimes_first is_lifetime_argument)
    (first_form is_lifetime_argument) x h
tidy_form (ATypeAlias p) x h = changed_form the_value moved moved_form x h
tidy_form AnImpl x h = form_cond (keeps_generics x) x (changed the_generics without_generics x) h
    (changed_form the_generics without_generics without_form x h)
tidy_form _ x h = h

-- a raw item's last mark set apart
raw_form : (x : Tree) → KeptForm x → KeptForm (apart_raw x)
unfolding KeptForm
raw_form (Node AnItem (Raw ts)) h = (h.0, refl, tt)
raw_form _ h = h

alternative_form : (x : Tree) → KeptForm x → KeptForm (apart_alternative x)
unfolding KeptForm
alternative_form (First x) h = raw_form x h
alternative_form (Second x) h = alternative_form x h
alternative_form _ h = h

-- an expression is none
statement_form : (x : Tree) → as_statement x ≡ x → as_statement (apart_alternative x) ≡ apart_alternative x
statement_form (First x) e = refl
statement_form (Second (First x)) e = refl
statement_form (Second (Second (First x))) e = refl
statement_form (Second (Second (Second (First x)))) e = refl
statement_form (Second (Second (Second (Second (First x))))) e = refl
statement_form (Second (Second (Second (Second (Second x))))) e = refl
statement_form _ e = e

item_form : (x : Tree) → KeptForm x → KeptForm (apart_item x)
unfolding KeptForm
item_form (Second (Node AStatement x)) h = (h.0, statement_form x h.1, alternative_form x h.2)
item_form _ h = h

parens_form : (b : Bool) (x : Tree) → KeptForm x → KeptForm (parens_unless b x)
unfolding KeptForm held
parens_form true x h = h
parens_form false x h = (refl, refl, h)

mutual
  unfolding KeptForm

  pub normal_form : (q : Position) (x : Tree) → KeptForm x → KeptForm (normal_in q x)
  normal_form q (AWord cs) h = tt
  normal_form q (ALiteral cs) h = tt
  normal_form q (AMark c cs spacing) h = refl
  normal_form q (ALifetime cs) h = tt
  normal_form q (Raw ts) h = tt
  normal_form q Nil h = tt
  normal_form q (Pair x y) h = (normal_form q x h.0, normal_form q y h.1)
  normal_form q (First x) h = normal_form q x h
  normal_form q (Second x) h = normal_form q x h
  normal_form q End h = tt
  normal_form q (Again x y) h = (
    form_cond (is_enclosed y (normal_in q y)) (apart_item (normal_in q x)) (normal_in q x)
        (item_form (normal_in q x) (normal_form q x h.0)) (normal_form q x h.0),
    normal_form q y h.1,
  )
  normal_form q (Final x) h = normal_form q x h
  normal_form q (More x c spacing y) h = (normal_form q x h.0, refl, normal_form q y h.2)
  normal_form q (Group d x) h = normal_form q x h
  normal_form q (Dropped x) h = absurd h
  normal_form q (Called n x) h = normal_form (place_of n) x h
  normal_form q (Verbatim x) h = absurd h
  normal_form q (Hidden x) h = h
  normal_form q (Node k x) h =
      (h.0, forget_stays k (passed k q) x h.1, tidy_form k (normal_in (passed k q) x) (normal_form (passed k q) x h.2))
  normal_form q (Whole x) h = formed_form q (stands_behind q) x h
  normal_form q (Alone k y) h = h
  normal_form q (Front k y x) h = h
  normal_form q (Back l k y) h = h
  normal_form q (Infix l k y r) h = h

  formed_form : (p : Position) (ts : List Token) (x : Tree) → KeptForm x → KeptForm (formed p ts x)
  formed_form p ts (Alone k y) h = parens_form (not (takes_what_follows p k ts)) (Alone k (normal_in Plain y))
      (normal_form Plain y h)
  formed_form p ts (Front k y x) h =
      let z : Tree = formed (inside p k) ts x in
      parens_form (begins_in p k) (Front k (normal_in Plain y) (with_right p k (normal_in Plain y) z)) (
        normal_form Plain y h.0,
        parens_form (stays_right p k (normal_in Plain y) z) z
            (formed_form (inside p k) ts x h.1),
      )
  formed_form p ts (Back l k y) h =
      let own : Tree = normal_in Plain y in
      let z : Tree = formed p (follow (flat own)) l in
      parens_form (stands_in p k && not (takes_what_follows p k ts)) (Back (with_left p k own z) k own) (
        own_unsplit k y h.0,
        parens_form (stays_left p k own z) z (formed_form p (follow (flat own)) l h.1),
        normal_form Plain y h.2,
      )
  formed_form p ts (Infix l k y r) h =
      let own : Tree = normal_in Plain y in
      let z : Tree = formed p (follow (flat own)) l in
      let u : Tree = formed (inside p k) ts r in (
        parens_form (stays_left p k own z) z (formed_form p (follow (flat own)) l h.0),
        normal_form Plain y h.1,
        parens_form (stays_right p k own u) u (formed_form (inside p k) ts r h.2),
      )
  formed_form p ts _ h = h

pub kept_normal : (x : Tree) → kept (normal (kept x)) ≡ normal (kept x)
kept_normal x = all_kept (normal (kept x)) (normal_form Plain (kept x) (kept_form x))
