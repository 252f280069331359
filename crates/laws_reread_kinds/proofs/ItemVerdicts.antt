-- An item that is kept is kept as it is printed, and stands among the same alternatives.
use Rattle.std.proofs.Common.{◌≡◌, suc, List, [], ◌∷◌, ◌++◌, refl, sym, ap, ◌∙◌, subst}
use Rattle.std.specs.Prelude.{Bool, true, false, ◌&&◌, ◌||◌, not, cond, Option, Some, None}
use Rattle.proc_macro2.specs.Token.{Token, Punct}
use Rattle.syn_grammar.specs.Kind.{Kind, AConst, AConstTrait, AForeignModule, AFunction, AMacroDefinition, AModule}
use Rattle.syn_grammar.specs.Kind.{ARestrictedTrait, AStatic, AStruct, ATrait, AType, ATypeAlias, AUnion, AUse, AnEnum}
use Rattle.syn_grammar.specs.Kind.{AnExternCrate, AnImpl, AnyPath, BoundsColon, Generics, ImplGenerics, InFile}
use Rattle.syn_grammar.specs.Kind.{ItemMacro, Plain}
use Rattle.syn_grammar.specs.Kind.{Place, Position}
use Rattle.syn_grammar.specs.Kind.{UseRooted, UseTop, Where, WithPlus}
use Rattle.syn_grammar.specs.Name.{Part, same_part, the_body, the_bounds, the_clause, the_const, the_default, the_first}
use Rattle.syn_grammar.specs.Name.{the_generics, the_parameters, the_path, the_safety, the_self, the_type}
use Rattle.syn_grammar.specs.Name.{the_value, the_where}
use Rattle.syn_grammar.specs.Tree.{Tree, Back, Called, Final, First, Group, More, Nil, Node, Pair, Second, flat}
use Rattle.syn_grammar.specs.Part.{choice, changed, found, has, is_some, or_else, or_nil, the}
use Rattle.syn_grammar.specs.Gram.{Gram, Keep, alt, called, group, judged, never, ref, seq, many}
use Rattle.syn_grammar.specs.Lists.{item_form}
use Rattle.syn_grammar.specs.Items.{type_end}
use Rattle.syn_grammar.specs.Say.{in_braces, many_to_end}
use Rattle.syn_grammar.specs.Verdicts.{const_is_raw, form_in_file, has_bounds, has_root, is_defined, is_bounded}
use Rattle.syn_grammar.specs.Verdicts.{is_generic, is_path, is_path_type, is_where}
use Rattle.syn_grammar.specs.Verdicts.{raw_if, refused_if, root_inside}
use Rattle.syn_grammar.specs.Table.{table}
use Rattle.syn_grammar.specs.Derives.{Derives}
use Rattle.syn_grammar.specs.Kept.{held, kept}
use Rattle.syn_grammar.specs.Tidy.{is_absent, is_bare_colon, is_bare_generics, is_bare_where, moved, removed_if}
use Rattle.syn_grammar.specs.Tidy.{tidy_impl, keeps_generics}
use Rattle.syn_grammar.specs.Tidy.{without_generics}
use Rattle.syn_grammar.specs.Normal.{passed, place_of, normal_in}
use Rattle.laws_reread_kinds.specs.Covered.{has_lone_value, has_step, inner}
use Rattle.laws_reread_kinds.proofs.Choices.{or_same}
use Rattle.laws_reread_kinds.proofs.Elements.{has_fits, has_read}
use Rattle.laws_reread_kinds.proofs.Fits.{Fits, is_item_form, own_place, place}
use Rattle.laws_reread_kinds.proofs.Impls.{changed_has}
use Rattle.laws_reread_kinds.proofs.MacroItems.{plain_same}
use Rattle.laws_reread_kinds.proofs.MacroPaths.{is_plain_macro}
use Rattle.laws_reread_kinds.proofs.Parts.{none_never}
use Rattle.laws_reread_kinds.proofs.Printed.{IsPlaced, KindLaw, Printed, simple_law}
use Rattle.laws_reread_kinds.proofs.Verdicts.{has_normal}

-- Of a form that is read and what is printed for it: where the one is kept, so is the other.
abbrev pub SameItem : Tree → Tree → Type 0
SameItem x w =
    ((b : Bool) → form_in_file b x ≡ Keep → form_in_file b w ≡ Keep) × (own_place w ≡ own_place x)
    × (is_item_form w ≡ is_item_form x)

abbrev pub LawOf : (Tree → Tree → Type 0) → Kind → Type 0
LawOf S k =
    (q : Position) (y v : Tree) (r : List Token) → Derives y (table k) r → Fits v (table k)
    → kept (Node k v) ≡ normal_in q (kept (Node k y)) → S (Node k y) (Node k v)

abbrev pub ItemLaw : Kind → Type 0
ItemLaw k = LawOf SameItem k

abbrev pub EachOf : (Tree → Tree → Type 0) → Gram → Type 0
EachOf S (alt t a b) = EachOf S a × EachOf S b
EachOf S (ref k) = LawOf S k
EachOf S never = Unit {0}
EachOf S _ = ⊥

pub form_same : (S : Tree → Tree → Type 0) (g : Gram) → EachOf S g → (q : Position) (x w : Tree) (r : List Token)
    → Derives x g r → Fits w g
    → kept w ≡ normal_in q (kept x) → S (choice x) (choice w)
form_same S (alt t a b) i q (First x) (First w) r d f e = form_same S a i.0 q x w r d.1 f.1 (ap inside e)
  where
    inside : Tree → Tree
    inside (First x) = x
    inside x = x
form_same S (alt t a b) i q (First x) (Second w) r d f e = cc e
form_same S (alt t a b) i q (First x) _ r d f e = absurd f
form_same S (alt t a b) i q (Second x) (First w) r d f e = cc e
form_same S (alt t a b) i q (Second x) (Second w) r d f e = form_same S b i.1 q x w r d.1 f.1 (ap inside e)
  where
    inside : Tree → Tree
    inside (Second x) = x
    inside x = x
form_same S (alt t a b) i q (Second x) _ r d f e = absurd f
form_same S (alt t a b) i q _ w r d f e = absurd d
form_same S (ref k) i q (Node l y) (Node m v) r d f e =
    subst (λ j. S (Node j y) (Node m v)) (sym d.0)
    (subst (λ j. S (Node k y) (Node j v)) (sym f.0)
    (i q y v r (subst (λ j. Derives y (table j) r) d.0 d.1) (subst (λ j. Fits v (table j)) f.0 f.3)
    (subst (λ j. kept (Node j v) ≡ normal_in q (kept (Node k y))) f.0
    (subst (λ j. kept (Node m v) ≡ normal_in q (kept (Node j y))) d.0 e))))
form_same S (ref k) i q (Node l y) _ r d f e = absurd f
form_same S (ref k) i q _ w r d f e = absurd d
form_same S never i q x w r d f e = absurd (none_never w f)
form_same S _ i q x w r d f e = absurd i

-- the parts that were there
pub same_has : (n : Part) (q : Position) (g : Gram) (y v : Tree) (r : List Token) → Derives y g r → Fits v g
    → kept v ≡ normal_in q (kept y) → has n v ≡ has n y
same_has n q g y v r d f e =
    sym (has_fits n v g f) ∙ ap (has n) e ∙ has_normal n q (kept y) ∙ has_read n y g r d

-- forms that are always kept, or only behind no visibility
pub law_struct : ItemLaw AStruct
law_struct q y v r d f e = ((λ b h. h), refl, refl)

pub law_enum : ItemLaw AnEnum
law_enum q y v r d f e = ((λ b h. h), refl, refl)

pub law_union : ItemLaw AUnion
law_union q y v r d f e = ((λ b h. h), refl, refl)

pub law_crate : ItemLaw AnExternCrate
law_crate q y v r d f e = ((λ b h. h), refl, refl)

law_const_trait : ItemLaw AConstTrait
law_const_trait q y v r d f e = ((λ b h. h), refl, refl)

law_restricted : ItemLaw ARestrictedTrait
law_restricted q y v r d f e = ((λ b h. h), refl, refl)

law_definition : ItemLaw AMacroDefinition
law_definition q y v r d f e = ((λ b h. h), refl, refl)

law_macro : ItemLaw (ItemMacro InFile)
unfolding held passed
law_macro q y v r d f e = ((λ b h. h), refl, plain_same InFile y v r d f (ap inner e))

pub law_block : ItemLaw AForeignModule
unfolding held passed
law_block q y v r d f e =
    ((λ b h. h), ap (λ c. cond c 8 2) (same_has the_safety Plain (table AForeignModule) y v r d f (ap inner e)), refl)

pub law_module : ItemLaw AModule
unfolding held passed
law_module q y v r d f e =
    ((λ b h. h), ap (λ c. cond c 9 12) (same_has the_safety Plain (table AModule) y v r d f (ap inner e)), refl)

law_trait : ItemLaw ATrait
unfolding held passed
law_trait q y v r d f e =
    ((λ b h. h), ap (λ c. cond c 11 18) (same_has the_safety Plain (table ATrait) y v r d f (ap inner e)), refl)

-- forms that need a body, a type, a value
pub law_function : ItemLaw (AFunction InFile)
unfolding held passed
law_function q y v r d f e = (
  λ b h. ap (λ c. raw_if (not c)) (same_has the_body Plain (table (AFunction InFile)) y v r d f (ap inner e)) ∙ h,
  refl,
  refl,
)

pub law_static : ItemLaw AStatic
unfolding held passed
law_static q y v r d f e = (
  λ b h. ap (λ c. refused_if (not c && not (has the_value v)) (raw_if (not (c && has the_value v)))) (same the_type)
      ∙ ap (λ c. refused_if (not (has the_type y) && not c) (raw_if (not (has the_type y && c)))) (same the_value)
      ∙ h,
  refl,
  refl,
)
  where
    same : (n : Part) → has n v ≡ has n y
    same n = same_has n Plain (table AStatic) y v r d f (ap inner e)

-- What isn't true of a part that is read isn't of the part that is printed for it.
abbrev Related : (Tree → Bool) → Option Tree → Option Tree → Type 0
Related p None None = Unit {0}
Related p (Some x) (Some y) = p x ≡ false → p y ≡ false
Related p _ _ = ⊥

related : (p : Tree → Bool) (o q : Option Tree) → Related p o q → p (or_nil o) ≡ false → p (or_nil q) ≡ false
related p None None h e = e
related p (Some x) (Some y) h e = h e
related p None (Some y) h e = absurd h
related p (Some x) None h e = absurd h

related_either : (p : Tree → Bool) (a b c d : Option Tree) → Related p a c → Related p b d
    → Related p (or_else a b) (or_else c d)
related_either p None b None d h i = i
related_either p (Some x) b (Some y) d h i = h
related_either p None b (Some y) d h i = absurd h
related_either p (Some x) b None d h i = absurd h

abbrev IfPart : Bool → Type 0 → Type 0
IfPart true A = A
IfPart false A = Unit {0}

related_called : (p : Tree → Bool) (b : Bool) (x y : Tree) → IfPart b (p x ≡ false → p y ≡ false)
    → Related p (cond b (Some x) None) (cond b (Some y) None)
related_called p true x y h = h
related_called p false x y h = tt

given : (b : Bool) {A B : Type 0} → (A → B) → IfPart b A → IfPart b B
given true f a = f a
given false f a = tt

always : (b : Bool) {A : Type 0} → A → IfPart b A
always true a = a
always false a = tt

module _ (n : Part) (p : Tree → Bool) where
  -- what is kept of what is read
  abbrev EachRead : Gram → Type 0
  EachRead (seq a b) = EachRead a × EachRead b
  EachRead (alt t a b) = EachRead a × EachRead b
  EachRead (group d g) = EachRead g
  EachRead (judged v g) = EachRead g
  EachRead (called m g) =
      IfPart (same_part m n) ((x : Tree) (r : List Token) → Derives x g r → p x ≡ false → p (kept x) ≡ false)
  EachRead _ = Unit {0}

  related_read : (x : Tree) (g : Gram) (r : List Token) → EachRead g → Derives x g r
      → Related p (found n x) (found n (kept x))
  related_read (Called m x) (called l g) r e d =
      subst (λ j. Related p (found n (Called j x)) (found n (Called j (kept x)))) (sym d.0)
      (related_called p (same_part l n) x (kept x) (given (same_part l n) (λ h. h x r d.1) e))
  related_read (Pair x y) (seq a b) r e d =
      related_either p (found n x) (found n y) (found n (kept x)) (found n (kept y))
      (related_read x a (flat y ++ r) e.0 d.0) (related_read y b r e.1 d.1)
  related_read (First x) (alt t a b) r e d = related_read x a r e.0 d.1
  related_read (First x) (judged v g) r e d = related_read x g r e d.1
  related_read (Second x) (alt t a b) r e d = related_read x b r e.1 d.1
  related_read (Group f x) (group h g) r e d = related_read x g [] e d.1
  related_read (Called m x) _ r e d = absurd d
  related_read (Pair x y) _ r e d = absurd d
  related_read (First x) _ r e d = absurd d
  related_read (Second x) _ r e d = absurd d
  related_read (Group f x) _ r e d = absurd d
  related_read (Back l k y) _ r e d = absurd d
  related_read _ _ r e d = tt

  -- what is printed for it
  abbrev EachFits : Gram → Type 0
  EachFits (seq a b) = EachFits a × EachFits b
  EachFits (alt t a b) = EachFits a × EachFits b
  EachFits (group d g) = EachFits g
  EachFits (judged v g) = EachFits g
  EachFits (called m g) =
      IfPart (same_part m n) ((w : Tree) → Fits w g → p (kept w) ≡ false → p w ≡ false)
  EachFits _ = Unit {0}

  related_fits : (w : Tree) (g : Gram) → EachFits g → Fits w g → Related p (found n (kept w)) (found n w)
  related_fits (Called m x) (called l g) e f =
      subst (λ j. Related p (found n (Called j (kept x))) (found n (Called j x))) (sym f.0)
      (related_called p (same_part l n) (kept x) x (given (same_part l n) (λ h. h x f.1) e))
  related_fits (Pair x y) (seq a b) e f =
      related_either p (found n (kept x)) (found n (kept y)) (found n x) (found n y)
      (related_fits x a e.0 f.0) (related_fits y b e.1 f.1)
  related_fits (First x) (alt t a b) e f = related_fits x a e.0 f.1
  related_fits (First x) (judged v g) e f = related_fits x g e f.1
  related_fits (Second x) (alt t a b) e f = related_fits x b e.1 f.1
  related_fits (Group d x) (group h g) e f = related_fits x g e f.1
  related_fits (Called m x) _ e f = absurd f
  related_fits (Pair x y) _ e f = absurd f
  related_fits (First x) _ e f = absurd f
  related_fits (Second x) _ e f = absurd f
  related_fits (Group d x) _ e f = absurd f
  related_fits (Back l k y) _ e f = absurd f
  related_fits _ _ e f = tt

  -- normal form, and a part that it changes
  related_normal : ((q : Position) (x : Tree) → p x ≡ false → p (normal_in q x) ≡ false) → (q : Position) (x : Tree)
      → Related p (found n x) (found n (normal_in q x))
  related_normal h q (Called m x) =
      related_called p (same_part m n) x (normal_in (place_of m) x) (always (same_part m n) (h (place_of m) x))
  related_normal h q (Pair x y) =
      related_either p (found n x) (found n y) (found n (normal_in q x)) (found n (normal_in q y))
      (related_normal h q x) (related_normal h q y)
  related_normal h q (First x) = related_normal h q x
  related_normal h q (Second x) = related_normal h q x
  related_normal h q (Group d x) = related_normal h q x
  related_normal h q _ = tt

  related_changed : (m : Part) (c : Tree → Tree) → ((x : Tree) → p x ≡ false → p (c x) ≡ false) → (x : Tree)
      → Related p (found n x) (found n (changed m c x))
  related_changed m c h (Called o x) =
      related_called p (same_part o n) x (cond (same_part o m) (c x) x)
      (always (same_part o n) (go (same_part o m)))
    where
      go : (b : Bool) → p x ≡ false → p (cond b (c x) x) ≡ false
      go true e = h x e
      go false e = e
  related_changed m c h (Pair x y) =
      related_either p (found n x) (found n y) (found n (changed m c x)) (found n (changed m c y))
      (related_changed m c h x) (related_changed m c h y)
  related_changed m c h (First x) = related_changed m c h x
  related_changed m c h (Second x) = related_changed m c h x
  related_changed m c h (Group d x) = related_changed m c h x
  related_changed m c h _ = tt

  -- together, of an entry whose normal form tidies nothing
  same_part_law : (q : Position) (g : Gram) (y v : Tree) (r : List Token) → EachRead g → EachFits g
      → ((q : Position) (x : Tree) → p x ≡ false → p (normal_in q x) ≡ false) → Derives y g r → Fits v g
      → kept v ≡ normal_in q (kept y) → p (the n y) ≡ false → p (the n v) ≡ false
  same_part_law q g y v r a b h d f e i =
      related p (found n (kept v)) (found n v) (related_fits v g b f)
      (ap (λ z. p (the n z)) e
      ∙ related p (found n (kept y)) (found n (normal_in q (kept y))) (related_normal h q (kept y))
      (related p (found n y) (found n (kept y)) (related_read y g r a d) i))

-- generics, where clauses and colons: nothing in them is nothing in what is left of them
has_tidied : (n : Part) (c : Tree → Bool) (q : Position) (x : Tree) → has n x ≡ false
    → has n (removed_if c (normal_in q x)) ≡ false
has_tidied n c q x e = go (c (normal_in q x))
  where
    go : (b : Bool) → has n (cond b (Second Nil) (normal_in q x)) ≡ false
    go true = refl
    go false = has_normal n q x ∙ e

-- a kind that is what it has of a name
module _ (p : Tree → Bool) (l : Kind) (n : Part) (as_part : (x : Tree) → p (Node l x) ≡ has n x)
    (as_kept : (x : Tree) → kept (Node l x) ≡ Node l (kept x)) where
  part_read : (x : Tree) (r : List Token) → Derives x (ref l) r → p x ≡ false → p (kept x) ≡ false
  part_read (Node k x) r d e =
      subst (λ j. p (Node j x) ≡ false → p (kept (Node j x)) ≡ false) (sym d.0)
      (λ h. ap p (as_kept x) ∙ as_part (kept x) ∙ has_read n x (table k) r d.1 ∙ sym (as_part x) ∙ h) e
  part_read _ r d e = absurd d

  part_fits : (w : Tree) → Fits w (ref l) → p (kept w) ≡ false → p w ≡ false
  part_fits (Node k x) f e =
      subst (λ j. p (kept (Node j x)) ≡ false → p (Node j x) ≡ false) (sym f.0)
      (λ h. as_part x ∙ sym (has_fits n x (table k) f.3) ∙ sym (as_part (kept x)) ∙ sym (ap p (as_kept x)) ∙ h) e
  part_fits _ f e = absurd f

generic_read : (x : Tree) (r : List Token) → Derives x (ref Generics) r → is_generic x ≡ false
    → is_generic (kept x) ≡ false
unfolding held
generic_read = part_read is_generic Generics the_parameters (λ x. refl) (λ x. refl)

generic_fits : (w : Tree) → Fits w (ref Generics) → is_generic (kept w) ≡ false → is_generic w ≡ false
unfolding held
generic_fits = part_fits is_generic Generics the_parameters (λ x. refl) (λ x. refl)

generic_normal : (q : Position) (x : Tree) → is_generic x ≡ false → is_generic (normal_in q x) ≡ false
generic_normal q (Node Generics x) e = has_tidied the_parameters is_bare_generics (passed Generics q) x e
generic_normal q _ e = e

clause_read : (x : Tree) (r : List Token) → Derives x (ref Where) r → is_where x ≡ false → is_where (kept x) ≡ false
unfolding held
clause_read = part_read is_where Where the_clause (λ x. refl) (λ x. refl)

clause_fits : (w : Tree) → Fits w (ref Where) → is_where (kept w) ≡ false → is_where w ≡ false
unfolding held
clause_fits = part_fits is_where Where the_clause (λ x. refl) (λ x. refl)

clause_normal : (q : Position) (x : Tree) → is_where x ≡ false → is_where (normal_in q x) ≡ false
clause_normal q (Node Where x) e = has_tidied the_clause is_bare_where (passed Where q) x e
clause_normal q _ e = e

pub bounded_read : (x : Tree) (r : List Token) → Derives x (ref BoundsColon) r → is_bounded x ≡ false
    → is_bounded (kept x) ≡ false
unfolding held
bounded_read = part_read is_bounded BoundsColon the_bounds (λ x. refl) (λ x. refl)

pub bounded_fits : (w : Tree) → Fits w (ref BoundsColon) → is_bounded (kept w) ≡ false → is_bounded w ≡ false
unfolding held
bounded_fits = part_fits is_bounded BoundsColon the_bounds (λ x. refl) (λ x. refl)

pub bounded_normal : (q : Position) (x : Tree) → is_bounded x ≡ false → is_bounded (normal_in q x) ≡ false
bounded_normal q (Node BoundsColon x) e = has_tidied the_bounds is_bare_colon (passed BoundsColon q) x e
bounded_normal q _ e = e

-- constants
pub none_raw : (a b c : Bool) → raw_if (a || (b || c)) ≡ Keep → (a ≡ false) × (b ≡ false) × (c ≡ false)
none_raw false false false e = (refl, refl, refl)
none_raw true b c e = cc e
none_raw false true c e = cc e
none_raw false false true e = cc e

pub raw_none : (a b c : Bool) → a ≡ false → b ≡ false → c ≡ false → raw_if (a || (b || c)) ≡ Keep
raw_none a b c e f h =
    ap (λ x. raw_if (x || (b || c))) e ∙ ap (λ x. raw_if (false || (x || c))) f
    ∙ ap (λ x. raw_if (false || (false || x))) h

pub constant_parts : (y v : Tree) (r : List Token) → Derives y (table AConst) r → Fits v (table AConst)
    → kept v ≡ normal_in Plain (kept y) → (has the_value v ≡ has the_value y)
    × (is_generic (the the_generics y) ≡ false → is_generic (the the_generics v) ≡ false)
    × (is_where (the the_where y) ≡ false → is_where (the the_where v) ≡ false)
unfolding table same_part
constant_parts y v r d f e = (
  same_has the_value Plain (table AConst) y v r d f e,
  same_part_law the_generics is_generic Plain (table AConst) y v r
      (tt, (tt, (generic_read, (tt, (tt, (((tt, tt), tt), (tt, tt)))))))
      (tt, (tt, (generic_fits, (tt, (tt, (((tt, tt), tt), (tt, tt))))))) generic_normal d f e,
  same_part_law the_where is_where Plain (table AConst) y v r
      (tt, (tt, (tt, (tt, (tt, (((tt, tt), tt), (clause_read, tt)))))))
      (tt, (tt, (tt, (tt, (tt, (((tt, tt), tt), (clause_fits, tt))))))) clause_normal d f e,
)

-- a constant without a where clause behind its value has none as it is printed
lone_value : (a b c d : Bool) → c ≡ a → (b ≡ false → d ≡ false) → not (a && b) ≡ true → not (c && d) ≡ true
lone_value false b c d e f h = ap (λ i. not (i && d)) e
lone_value true false c d e f h = ap (λ i. not (i && d)) e ∙ ap not (f refl)
lone_value true true c d e f h = cc h

pub law_const : KindLaw AConst
unfolding has_step held passed place_of table
law_const = record { entry = λ q l. simple_law Plain (table AConst) refl; node = go }
  where
    go : (q : Position) → IsPlaced q AConst → (x : Tree) (r : List Token) → has_lone_value x ≡ true
        → Derives x (table AConst) r → Printed (table AConst) (normal_in (passed AConst q) (kept x))
        → Printed (ref AConst) (normal_in q (Node (held AConst) (kept x)))
    go q l x r m d i =
        let j = constant_parts x i.tree r d i.fits i.kept_is in
        let b : has_lone_value i.tree ≡ true =
        lone_value (has the_value x) (is_where (the the_where x)) (has the_value i.tree)
        (is_where (the the_where i.tree)) j.0 j.2 m in
        record {
          tree = Node AConst i.tree;
          fits = (refl, refl, refl, i.fits, b);
          kept_is = ap (Node AConst) i.kept_is;
        }

pub constant_stays : (y v : Tree) (r : List Token) → Derives y (table AConst) r → Fits v (table AConst)
    → kept v ≡ normal_in Plain (kept y) → raw_if (const_is_raw true y) ≡ Keep → raw_if (const_is_raw true v) ≡ Keep
constant_stays y v r d f e h =
    let i = none_raw (not (has the_value y)) (is_generic (the the_generics y)) (is_where (the the_where y)) h in
    let j = constant_parts y v r d f e in
    raw_none (not (has the_value v)) (is_generic (the the_generics v)) (is_where (the the_where v))
    (ap not j.0 ∙ i.0) (j.1 i.1) (j.2 i.2)

pub law_constant : ItemLaw AConst
unfolding held passed
law_constant q y v r d f e = (λ b h. constant_stays y v r d f (ap inner e) h, refl, refl)

-- types
commuted : (n : Part) (x y : Tree) → has n (Pair x y) ≡ has n (Pair y x)
commuted n x y = go (found n x) (found n y)
  where
    go : (o p : Option Tree) → is_some (or_else o p) ≡ is_some (or_else p o)
    go None None = refl
    go None (Some y) = refl
    go (Some x) None = refl
    go (Some x) (Some y) = refl

pub has_moved : (n : Part) (x : Tree) → has n (moved x) ≡ has n x
has_moved n (First (Pair w d)) = go (is_absent w)
  where
    go : (b : Bool) → has n (cond b (Second (Pair d w)) (First (Pair w d))) ≡ has n (First (Pair w d))
    go true = commuted n d w
    go false = refl
has_moved n _ = refl

pub bounded_moved : (x : Tree) → is_bounded x ≡ false → is_bounded (moved x) ≡ false
bounded_moved (First (Pair w d)) e = go (is_absent w)
  where
    go : (b : Bool) → is_bounded (cond b (Second (Pair d w)) (First (Pair w d))) ≡ false
    go true = refl
    go false = refl
bounded_moved _ e = e

pub alias_tree : (p : Tree → Bool) (n : Part) (q : Position) (g : Gram) (y v : Tree) (r : List Token) → EachRead n p g
    → EachFits n p g → ((q : Position) (x : Tree) → p x ≡ false → p (normal_in q x) ≡ false)
    → ((x : Tree) → p x ≡ false → p (moved x) ≡ false) → Derives y g r → Fits v g
    → kept v ≡ changed the_value moved (normal_in q (kept y)) → p (the n y) ≡ false → p (the n v) ≡ false
alias_tree p n q g y v r a b h m d f e i =
    related p (found n (kept v)) (found n v) (related_fits n p v g b f)
    (ap (λ z. p (the n z)) e
    ∙ related p (found n (normal_in q (kept y))) (found n (changed the_value moved (normal_in q (kept y))))
    (related_changed n p the_value moved m (normal_in q (kept y)))
    (related p (found n (kept y)) (found n (normal_in q (kept y))) (related_normal n p h q (kept y))
    (related p (found n y) (found n (kept y)) (related_read n p y g r a d) i)))

neither_raw : (a b : Bool) → raw_if (a || not b) ≡ Keep → (a ≡ false) × (not b ≡ false)
neither_raw false true e = (refl, refl)
neither_raw true b e = cc e
neither_raw false false e = cc e

raw_neither : (a b : Bool) → a ≡ false → not b ≡ false → raw_if (a || not b) ≡ Keep
raw_neither false true e f = refl
raw_neither true b e f = cc e
raw_neither false false e f = cc f

abbrev lacks_type : Tree → Bool
lacks_type x = not (has the_type x)

pub alias_stays : (p : Place) (y v : Tree) (r : List Token) → Derives y (table (ATypeAlias p)) r
    → Fits v (table (ATypeAlias p)) → kept v ≡ changed the_value moved (normal_in Plain (kept y))
    → raw_if (has_bounds y || not (is_defined y)) ≡ Keep → raw_if (has_bounds v || not (is_defined v)) ≡ Keep
unfolding table same_part
alias_stays p y v r d f e h =
    let i = neither_raw (is_bounded (the the_bounds y)) (has the_type (the the_value y)) h in
    raw_neither (is_bounded (the the_bounds v)) (has the_type (the the_value v))
    (alias_tree is_bounded the_bounds Plain (table (ATypeAlias p)) y v r
    (tt, (tt, (tt, (bounded_read, (tt, tt))))) (tt, (tt, (tt, (bounded_fits, (tt, tt))))) bounded_normal
    bounded_moved d f e i.0)
    (alias_tree lacks_type the_value Plain (table (ATypeAlias p)) y v r
    (tt, (tt, (tt, (tt, ((λ x r d e. ap not (has_read the_type x (type_end p) r d) ∙ e), tt)))))
    (tt, (tt, (tt, (tt, ((λ w f e. ap not (sym (has_fits the_type w (type_end p) f)) ∙ e), tt)))))
    (λ q x e. ap not (has_normal the_type q x) ∙ e) (λ x e. ap not (has_moved the_type x) ∙ e) d f e i.1)

pub law_alias : ItemLaw (ATypeAlias InFile)
unfolding held passed
law_alias q y v r d f e = (λ b h. alias_stays InFile y v r d f (ap inner e) h, refl, refl)

-- uses: a root inside; of a choice, what is said of what was chosen
abbrev Inside : (Tree → Type 0) → Tree → Type 0
Inside P (First x) = P x
Inside P (Second x) = P x
Inside P _ = Unit {0}

abbrev RootRead : Tree → Type 0
RootRead x = (g : Gram) (r : List Token) → Derives x g r → has_root (kept x) ≡ has_root x

node_read : (k : Kind) (x : Tree) (r : List Token) → Derives x (table k) r → Inside RootRead x
    → has_root (kept (Node k x)) ≡ has_root (Node k x)
unfolding held table
node_read UseTop (First x) r d i = refl
node_read UseTop (Second x) r d i = i (ref UseRooted) r d.1
node_read UseTop _ r d i = absurd d
node_read UseRooted (First x) r d i = i (in_braces (many_to_end (ref UseTop))) r d.1
node_read UseRooted (Second x) r d i = refl
node_read UseRooted _ r d i = absurd d
node_read _ x r d i = refl

root_read : (x : Tree) (g : Gram) (r : List Token) → Derives x g r → has_root (kept x) ≡ has_root x
root_read (Node k (First x)) (ref l) r d = node_read k (First x) r d.1 (λ g s e. root_read x g s e)
root_read (Node k (Second x)) (ref l) r d = node_read k (Second x) r d.1 (λ g s e. root_read x g s e)
root_read (Group e x) (group f g) r d = root_read x g [] d.1
root_read (More x c i y) (many t m g) r d =
    or_same (has_root (kept x)) (has_root (kept y)) (has_root x) (has_root y)
    (root_read x g (Punct c i ∷ flat y ++ r) d.2) (root_read y (many t m g) r d.3)
root_read (Final x) (many t m g) r d = root_read x g r d.1
root_read (Group e x) _ r d = absurd d
root_read (More x c i y) _ r d = absurd d
root_read (Final x) _ r d = absurd d
root_read (Back l k y) _ r d = absurd d
root_read (Node k x) (ref l) r d = node_read k x r d.1 tt
root_read (Node k x) _ r d = absurd d
root_read _ _ r d = refl

abbrev RootFits : Tree → Type 0
RootFits w = (g : Gram) → Fits w g → has_root (kept w) ≡ has_root w

node_fits : (k : Kind) (w : Tree) → Fits w (table k) → Inside RootFits w
    → has_root (kept (Node k w)) ≡ has_root (Node k w)
unfolding held table
node_fits UseTop (First x) f i = refl
node_fits UseTop (Second x) f i = i (ref UseRooted) f.1
node_fits UseTop _ f i = absurd f
node_fits UseRooted (First x) f i = i (in_braces (many_to_end (ref UseTop))) f.1
node_fits UseRooted (Second x) f i = refl
node_fits UseRooted _ f i = absurd f
node_fits _ x f i = refl

root_fits : (w : Tree) (g : Gram) → Fits w g → has_root (kept w) ≡ has_root w
root_fits (Node k (First x)) (ref l) f = node_fits k (First x) f.3 (λ g e. root_fits x g e)
root_fits (Node k (Second x)) (ref l) f = node_fits k (Second x) f.3 (λ g e. root_fits x g e)
root_fits (Group d x) (group e g) f = root_fits x g f.1
root_fits (More x c i y) (many t m g) f =
    or_same (has_root (kept x)) (has_root (kept y)) (has_root x) (has_root y) (root_fits x g f.2)
    (root_fits y (many t m g) f.3)
root_fits (Final x) (many t m g) f = root_fits x g f
root_fits (Group d x) _ f = absurd f
root_fits (More x c i y) _ f = absurd f
root_fits (Final x) _ f = absurd f
root_fits (Back l k y) _ f = absurd f
root_fits (Node k x) (ref l) f = node_fits k x f.3 tt
root_fits (Node k x) _ f = absurd f
root_fits _ _ f = refl

root_normal : (q : Position) (x : Tree) → has_root (normal_in q x) ≡ has_root x
unfolding passed
root_normal q (Node UseTop (First x)) = refl
root_normal q (Node UseTop (Second x)) = root_normal Plain x
root_normal q (Node UseRooted (First x)) = root_normal Plain x
root_normal q (Group d x) = root_normal q x
root_normal q (More x c i y) =
    or_same (has_root (normal_in q x)) (has_root (normal_in q y)) (has_root x) (has_root y) (root_normal q x)
    (root_normal q y)
root_normal q (Final x) = root_normal q x
root_normal q _ = refl

inside_normal : (q : Position) (x : Tree) → root_inside (normal_in q x) ≡ root_inside x
unfolding passed
inside_normal q (Node UseTop (Second x)) = root_normal Plain x
inside_normal q _ = refl

inside_read : (x : Tree) (r : List Token) → Derives x (ref UseTop) r → root_inside (kept x) ≡ root_inside x
unfolding held table
inside_read (Node UseTop (First x)) r d = refl
inside_read (Node UseTop (Second x)) r d = root_read x (ref UseRooted) r d.1.1
inside_read (Node UseTop _) r d = absurd d.1
inside_read (Node k x) r d = refl
inside_read _ r d = absurd d

inside_fits : (w : Tree) → Fits w (ref UseTop) → root_inside (kept w) ≡ root_inside w
unfolding held table
inside_fits (Node UseTop (First x)) f = refl
inside_fits (Node UseTop (Second x)) f = root_fits x (ref UseRooted) f.3.1
inside_fits (Node UseTop _) f = absurd f.3
inside_fits (Node k x) f = refl
inside_fits _ f = absurd f

not_raw : (b : Bool) → raw_if b ≡ Keep → b ≡ false
not_raw false e = refl
not_raw true e = cc e

pub law_use : ItemLaw AUse
unfolding held passed table same_part
law_use q y v r d f e = (
  λ b h. ap raw_if (same_part_law the_path root_inside Plain (table AUse) y v r
      (tt, ((λ x r d e. inside_read x r d ∙ e), tt)) (tt, ((λ w f e. sym (inside_fits w f) ∙ e), tt))
      (λ q x e. inside_normal q x ∙ e) d f (ap inner e) (not_raw (root_inside (the the_path y)) h)),
  refl,
  refl,
)

-- impls: what is implemented is a path
path_in : (k : Kind) (x : Tree) (r : List Token) → Derives x (table k) r → is_path (kept (Node k x))
    ≡ is_path (Node k x)
unfolding held table
path_in (AnyPath s) (First x) r d = refl
path_in (AnyPath s) (Second x) r d = refl
path_in (AnyPath s) _ r d = absurd d
path_in _ x r d = refl

path_chosen : (x : Tree) (g : Gram) (r : List Token) → Derives x g r → is_path (choice (kept x)) ≡ is_path (choice x)
path_chosen (First x) (alt t a b) r d = path_chosen x a r d.1
path_chosen (First x) (judged v g) r d = path_chosen x g r d.1
path_chosen (Second x) (alt t a b) r d = path_chosen x b r d.1
path_chosen (First x) _ r d = absurd d
path_chosen (Second x) _ r d = absurd d
path_chosen (Node k x) (ref l) r d = path_in k x r d.1
path_chosen (Node k x) _ r d = absurd d
path_chosen (Back l k y) _ r d = absurd d
path_chosen _ _ r d = refl

printed_in : (k : Kind) (w : Tree) → Fits w (table k) → is_path (kept (Node k w)) ≡ is_path (Node k w)
unfolding held table
printed_in (AnyPath s) (First x) f = refl
printed_in (AnyPath s) (Second x) f = refl
printed_in (AnyPath s) _ f = absurd f
printed_in _ x f = refl

path_printed : (w : Tree) (g : Gram) → Fits w g → is_path (choice (kept w)) ≡ is_path (choice w)
path_printed (First x) (alt t a b) f = path_printed x a f.1
path_printed (First x) (judged v g) f = path_printed x g f.1
path_printed (Second x) (alt t a b) f = path_printed x b f.1
path_printed (First x) _ f = absurd f
path_printed (Second x) _ f = absurd f
path_printed (Node k x) (ref l) f = printed_in k x f.3
path_printed (Node k x) _ f = absurd f
path_printed (Back l k y) _ f = absurd f
path_printed _ _ f = refl

path_normal : (q : Position) (x : Tree) → is_path (choice (normal_in q x)) ≡ is_path (choice x)
path_normal q (First x) = path_normal q x
path_normal q (Second x) = path_normal q x
path_normal q (Node (AnyPath s) (First x)) = refl
path_normal q (Node (AnyPath s) (Second x)) = refl
path_normal q (Node (AnyPath s) _) = refl
path_normal q (Node k x) = refl
path_normal q _ = refl

abbrev no_path : Tree → Bool
no_path t = not (is_path_type t)

type_read : (x : Tree) (r : List Token) → Derives x (ref (AType WithPlus)) r → no_path x ≡ false
    → no_path (kept x) ≡ false
unfolding held
type_read (Node k x) r d e =
    subst (λ j. no_path (Node j x) ≡ false → no_path (kept (Node j x)) ≡ false) (sym d.0)
    (λ h. ap not (path_chosen x (table k) r d.1) ∙ h) e
type_read _ r d e = absurd d

type_fits : (w : Tree) → Fits w (ref (AType WithPlus)) → no_path (kept w) ≡ false → no_path w ≡ false
unfolding held
type_fits (Node k x) f e =
    subst (λ j. no_path (kept (Node j x)) ≡ false → no_path (Node j x) ≡ false) (sym f.0)
    (λ h. ap not (sym (path_printed x (table k) f.3)) ∙ h) e
type_fits _ f e = absurd f

type_normal : (q : Position) (x : Tree) → no_path x ≡ false → no_path (normal_in q x) ≡ false
type_normal q (Node (AType p) x) e = ap not (path_normal (passed (AType p) q) x) ∙ e
type_normal q _ e = e

has_tidy_impl : (n : Part) (x : Tree) → has n (tidy_impl x) ≡ has n x
has_tidy_impl n x = go (keeps_generics x)
  where
    go : (b : Bool) → has n (cond b x (changed the_generics without_generics x)) ≡ has n x
    go true = refl
    go false = changed_has n the_generics without_generics x

none_without : (x : Tree) → no_path x ≡ false → no_path (without_generics x) ≡ false
none_without (Node ImplGenerics g) e = e
none_without _ e = e

first_tidy : (x : Tree) → no_path (the the_first x) ≡ false → no_path (the the_first (tidy_impl x)) ≡ false
first_tidy x e = go (keeps_generics x)
  where
    go : (b : Bool) → no_path (the the_first (cond b x (changed the_generics without_generics x))) ≡ false
    go true = e
    go false =
        related no_path (found the_first x) (found the_first (changed the_generics without_generics x))
        (related_changed the_first no_path the_generics without_generics none_without x) e

impl_stays : (r c s p i : Bool) → refused_if r (raw_if (c || (s && p))) ≡ Keep → (p ≡ false → i ≡ false)
    → refused_if r (raw_if (c || (s && i))) ≡ Keep
impl_stays true c s p i e h = e
impl_stays false true s p i e h = e
impl_stays false false false p i e h = refl
impl_stays false false true true i e h = cc e
impl_stays false false true false i e h = ap raw_if (h refl)

first_same : (y v : Tree) (r : List Token) → Derives y (table AnImpl) r → Fits v (table AnImpl)
    → kept v ≡ tidy_impl (normal_in Plain (kept y)) → no_path (the the_first y) ≡ false
    → no_path (the the_first v) ≡ false
unfolding table same_part
first_same y v r d f e i =
    related no_path (found the_first (kept v)) (found the_first v) (related_fits the_first no_path v (table AnImpl)
    ((tt, tt), ((tt, tt), ((tt, tt), (tt, (tt, ((tt, tt), (type_fits, (((tt, tt), tt), (tt, (tt, tt)))))))))) f)
    (ap (λ z. no_path (the the_first z)) e
    ∙ first_tidy (normal_in Plain (kept y))
    (related no_path (found the_first (kept y)) (found the_first (normal_in Plain (kept y)))
    (related_normal the_first no_path type_normal Plain (kept y))
    (related no_path (found the_first y) (found the_first (kept y)) (related_read the_first no_path y (table AnImpl) r
    ((tt, tt), ((tt, tt), ((tt, tt), (tt, (tt, ((tt, tt), (type_read, (((tt, tt), tt), (tt, (tt, tt)))))))))) d) i)))

pub law_impl : ItemLaw AnImpl
unfolding held passed
law_impl q y v r d f e = (
  λ b h. ap (λ c. refused_if (b && not (c && not (has the_default v))) (raw_if (c || (has the_self v && no_path
      (the the_first v))))) (same the_const)
      ∙ ap (λ c. refused_if (b && not (has the_const y && not c)) (raw_if (has the_const y || (has the_self v && no_path
      (the the_first v))))) (same the_default)
      ∙ ap (λ c. refused_if (b && not (has the_const y && not (has the_default y))) (raw_if (has the_const y || (c
      && no_path (the the_first v))))) (same the_self)
      ∙ impl_stays (b && not (has the_const y && not (has the_default y))) (has the_const y) (has the_self y)
      (no_path (the the_first y)) (no_path (the the_first v)) h (first_same y v r d f (ap inner e)),
  ap (λ c. cond c 19 (cond (has the_const v) 6 (cond (has the_safety v) 10 19))) (same the_default)
      ∙ ap (λ c. cond (has the_default y) 19 (cond c 6 (cond (has the_safety v) 10 19))) (same the_const)
      ∙ ap (λ c. cond (has the_default y) 19 (cond (has the_const y) 6 (cond c 10 19))) (same the_safety),
  ap not (same the_const),
)
  where
    same : (n : Part) → has n v ≡ has n y
    same n =
        sym (has_fits n v (table AnImpl) f) ∙ ap (has n) (ap inner e) ∙ has_tidy_impl n (normal_in Plain (kept y))
        ∙ has_normal n Plain (kept y) ∙ has_read n y (table AnImpl) r d

pub each_item : EachOf SameItem item_form
each_item = (
  law_function,
  (
    law_crate,
    (
      law_block,
      (
        law_use,
        (
          law_static,
          (
            law_const_trait,
            (
              law_impl,
              (
                law_constant,
                (
                  law_block,
                  (
                    law_module,
                    (
                      law_impl,
                      (
                        law_trait,
                        (
                          law_module,
                          (
                            law_alias,
                            (
                              law_struct,
                              (
                                law_enum,
                                (
                                  law_union,
                                  (
                                    law_restricted,
                                    (
                                      law_trait,
                                      (law_impl, (law_definition, (law_macro, tt))),
                                    ),
                                  ),
                                ),
                              ),
                            ),
                          ),
                        ),
                      ),
                    ),
                  ),
                ),
              ),
            ),
          ),
        ),
      ),
    ),
  ),
)

-- What is kept is no form that is always raw.
pub kept_form : (b : Bool) (x : Tree) → is_plain_macro x ≡ true → form_in_file b x ≡ Keep → is_item_form x ≡ true
kept_form b (Node AConstTrait y) n e = cc e
kept_form b (Node ARestrictedTrait y) n e = cc e
kept_form b (Node AMacroDefinition y) n e = cc e
kept_form b (Node (ItemMacro p) y) n e = n
kept_form b (Node AnImpl y) n e = go (has the_const y) (b && not (has the_const y && not (has the_default y))) e
  where
    go : (c r : Bool) → refused_if r (raw_if (c || (has the_self y && no_path (the the_first y)))) ≡ Keep
        → not c ≡ true
    go true false e = cc e
    go true true e = cc e
    go false r e = refl
kept_form b _ n e = refl

-- normal form leaves an item's form in its place
pub place_normal : (q : Position) (x : Tree) → place (normal_in q x) ≡ place x
place_normal q (Second x) = ap suc (place_normal q x)
place_normal q _ = refl

pub place_read : (x : Tree) (g : Gram) (r : List Token) → Derives x g r → place (kept x) ≡ place x
place_read (Second x) (alt t a b) r d = ap suc (place_read x b r d.1)
place_read (Second x) _ r d = absurd d
place_read (Back l k y) _ r d = absurd d
place_read _ _ r d = refl

pub place_fits : (w : Tree) (g : Gram) → Fits w g → place (kept w) ≡ place w
place_fits (Second x) (alt t a b) f = ap suc (place_fits x b f.1)
place_fits (Second x) _ f = absurd f
place_fits (Back l k y) _ f = absurd f
place_fits _ _ f = refl
