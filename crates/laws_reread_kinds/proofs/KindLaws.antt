-- What is known of the kinds whose entries have turns, whose parts are tidied, or that hold another tree than was read.
use Rattle.std.proofs.Common.{◌≡◌, [], refl, sym, subst, List, ap, ◌∙◌}
use Rattle.std.specs.Prelude.{true}
use Rattle.proc_macro2.specs.Token.{Token}
use Rattle.syn_grammar.specs.Kind.{Kind, Plain, OuterAttributes, OuterAttribute, InnerAttributes, InnerAttribute}
use Rattle.syn_grammar.specs.Kind.{Pattern, SeveralPatterns, Generics, GenericParams, GenericParam, Where}
use Rattle.syn_grammar.specs.Kind.{WhereClause, BoundsColon, Bounds, LifetimeColon, Lifetimes, Arguments}
use Rattle.syn_grammar.specs.Kind.{AnArgument}
use Rattle.syn_grammar.specs.Kind.{ATypeAlias, InTrait, InImpl, Meta, Variant, Visibility, Body}
use Rattle.syn_grammar.specs.Kind.{Position, SomeBounds, DynType, ImplType, WithPlus, WithoutPlus}
use Rattle.syn_grammar.specs.Kind.{Member, Index, Expression, UnnamedField}
use Rattle.syn_grammar.specs.Name.{same_part, the_clause, the_bounds, the_arguments, the_value}
use Rattle.syn_grammar.specs.Part.{some}
use Rattle.syn_grammar.specs.Types.{is_path_bound}
use Rattle.syn_grammar.specs.Tree.{Tree, Called, AWord, Pair, First, Second, Node, Whole, Back, flat}
use Rattle.syn_grammar.specs.Gram.{Gram, seq, called, ref}
use Rattle.syn_grammar.specs.Look.{sees}
use Rattle.syn_grammar.specs.Say.{at, marks, sign}
use Rattle.syn_grammar.specs.Generics.{angled_params}
use Rattle.syn_grammar.specs.Items.{type_end}
use Rattle.syn_grammar.specs.Table.{table}
use Rattle.syn_grammar.specs.Derives.{Derives}
use Rattle.syn_grammar.specs.Kept.{listed_bound, unsafe_path, constant_argument, is_there, held, kept}
use Rattle.syn_grammar.specs.Tidy.{is_bare_generics, is_bare_where, is_bare_colon, is_lifetime_param}
use Rattle.syn_grammar.specs.Tidy.{is_lifetime_argument, lifetimes_first, moved}
use Rattle.syn_grammar.specs.Parens.{may_lack}
use Rattle.syn_grammar.specs.Normal.{passed, stands_behind, place_of, private, normal_in}
use Rattle.laws_reread_kinds.specs.Covered.{has_step, is_taken}
use Rattle.laws_reread_kinds.proofs.Parts.{none_never}
use Rattle.laws_reread_kinds.proofs.ClearFields.{clear_fits, clear_normal, clear_read}
use Rattle.laws_reread_kinds.proofs.FieldTypes.{has_clear_type}
use Rattle.laws_reread_kinds.proofs.Fits.{Fits, has_bare_value}
use Rattle.laws_reread_kinds.proofs.Bare.{bare_kept, bare_formed, bare_read}
use Rattle.laws_reread_kinds.proofs.Verdicts.{some_verdict, path_meant}
use Rattle.laws_reread_kinds.proofs.Printed.{Printed, IsPlaced, TurnLaw, KindLaw, kept_entry, plain_law, simple_law}
use Rattle.laws_reread_kinds.proofs.Printed.{unmoved_turn}
use Rattle.laws_reread_kinds.proofs.Indices.{index_normal, index_held, member_normal, member_held}
use Rattle.laws_reread_kinds.proofs.Tidied.{Held, held_law, tidied_law, as_it_is, removed_printed, lifetimes_printed}
use Rattle.laws_reread_kinds.proofs.Tidied.{changed_printed}

-- turns that are nodes of other kinds, or sequences
node_turns : (k : Kind) → TurnLaw (ref k)
node_turns k b (Node l x) f = unmoved_turn b (Node l x) (ref k) f refl
node_turns k b _ f = absurd f

pair_turns : (g h : Gram) → TurnLaw (seq g h)
pair_turns g h b (Pair x z) f = unmoved_turn b (Pair x z) (seq g h) f refl
pair_turns g h b _ f = absurd f

pub law_outer : KindLaw OuterAttributes
unfolding has_step held passed table
law_outer =
    plain_law OuterAttributes refl (λ x. tt) (λ x. refl) (λ x. refl) (λ q. refl)
    (λ q l. (node_turns OuterAttribute, tt))

pub law_inner : KindLaw InnerAttributes
unfolding has_step held passed table
law_inner =
    plain_law InnerAttributes refl (λ x. tt) (λ x. refl) (λ x. refl) (λ q. refl)
    (λ q l. (node_turns InnerAttribute, tt))

pub law_pattern : KindLaw Pattern
unfolding has_step held passed table
law_pattern =
    plain_law Pattern refl (λ x. tt) (λ x. refl) (λ x. refl) (λ q. refl)
    (λ q l. ((tt, tt), (tt, (pair_turns _ _, (tt, tt)))))

pub law_several : KindLaw SeveralPatterns
unfolding has_step held passed table
law_several =
    plain_law SeveralPatterns refl (λ x. tt) (λ x. refl) (λ x. refl) (λ q. refl)
    (λ q l. (tt, (pair_turns _ _, (tt, tt))))

-- Of parts that may be removed.
pub law_generics : KindLaw Generics
unfolding has_step held passed table
law_generics =
    tidied_law Generics refl (λ x. tt) (λ x. refl) (λ q. refl) (λ q l. simple_law Plain (table Generics) refl)
    (removed_printed (sees (marks "<")) angled_params is_bare_generics refl)

pub law_where : KindLaw Where
unfolding has_step held passed place_of same_part table
law_where =
    tidied_law Where refl (λ x. tt) (λ x. refl) (λ q. refl) (λ q l. simple_law Plain (table Where) refl)
    (removed_printed (sees (at "where")) (called the_clause (ref WhereClause)) is_bare_where refl)

pub law_bounds_colon : KindLaw BoundsColon
unfolding has_step held passed place_of same_part table
law_bounds_colon =
    tidied_law BoundsColon refl (λ x. tt) (λ x. refl) (λ q. refl) (λ q l. simple_law Plain (table BoundsColon) refl)
    (removed_printed (sees (marks ":")) (seq (sign ":") (called the_bounds (ref Bounds))) is_bare_colon refl)

pub law_lifetime_colon : KindLaw LifetimeColon
unfolding has_step held passed place_of same_part table
law_lifetime_colon =
    tidied_law LifetimeColon refl (λ x. tt) (λ x. refl) (λ q. refl)
    (λ q l. simple_law Plain (table LifetimeColon) refl)
    (removed_printed (sees (marks ":")) (seq (sign ":") (called the_bounds (ref Lifetimes))) is_bare_colon refl)

-- Of lists whose lifetimes come first.
pub law_generic_params : KindLaw GenericParams
unfolding has_step held passed table
law_generic_params =
    tidied_law GenericParams refl (λ x. tt) (λ x. refl) (λ q. refl) (λ q l. tt)
    (lifetimes_printed (sees (marks ">")) (ref GenericParam) is_lifetime_param)

pub law_arguments : KindLaw Arguments
unfolding has_step held passed place_of same_part table
law_arguments =
    tidied_law Arguments refl (λ x. tt) (λ x. refl) (λ q. refl) (λ q l. simple_law Plain (table Arguments) refl)
    (λ w f. changed_printed the_arguments (lifetimes_first is_lifetime_argument) w (table Arguments)
    ((tt, tt), (tt, (lifetimes_printed (sees (marks ">")) (ref AnArgument) is_lifetime_argument, tt))) f)

-- Of a where clause that stands behind the definition.
end_printed : (w : Tree) → Fits w (type_end InTrait) → Printed (type_end InTrait) (moved (kept w))
end_printed (Pair x y) f = as_it_is (type_end InTrait) (Pair x y) f
end_printed _ f = absurd f

pub law_trait_type : KindLaw (ATypeAlias InTrait)
unfolding has_step held passed place_of same_part table
law_trait_type =
    tidied_law (ATypeAlias InTrait) refl (λ x. tt) (λ x. refl) (λ q. refl)
    (λ q l. simple_law Plain (table (ATypeAlias InTrait)) refl)
    (λ w f. changed_printed the_value moved w (table (ATypeAlias InTrait))
    (tt, (as_it_is _, (as_it_is _, (as_it_is _, (end_printed, tt))))) f)

pub law_impl_type : KindLaw (ATypeAlias InImpl)
unfolding has_step held passed place_of same_part table
law_impl_type =
    tidied_law (ATypeAlias InImpl) refl (λ x. tt) (λ x. refl) (λ q. refl)
    (λ q l. simple_law Plain (table (ATypeAlias InImpl)) refl)
    (λ w f. changed_printed the_value moved w (table (ATypeAlias InImpl))
    (tt, (as_it_is _, (as_it_is _, (as_it_is _, (end_printed, tt))))) f)

-- Of what is held otherwise than it was read.
unsafe_normal : (v : Tree) → unsafe_path (normal_in Plain v) ≡ normal_in Plain (unsafe_path v)
unfolding passed
unsafe_normal (Pair (First w) x) = refl
unsafe_normal _ = refl

meta_tokens : (w : Tree) → Fits w (table Meta) → flat (unsafe_path (kept w)) ≡ flat (kept w)
unfolding table
meta_tokens (Pair (First (AWord cs)) x) f = refl
meta_tokens (Pair (First _) x) f = absurd f.0.1
meta_tokens (Pair (Second y) x) f = refl
meta_tokens (Pair _ x) f = absurd f.0
meta_tokens _ f = absurd f

-- the value begins with no #
value_fits : (w : Tree) → Fits w (table Meta) → has_bare_value (kept w) ≡ has_bare_value w
unfolding table held
value_fits (Pair p (Second (First (Pair s (Second (Called n (Node (Expression q) (Whole x)))))))) f = bare_kept x
value_fits (Pair p (Second (First (Pair s (Second (Called n (Node (Expression q) _))))))) f = absurd f.1.1.1.1.1.1.3
value_fits (Pair p (Second (First (Pair s (Second (Called n (Node k x))))))) f = refl
value_fits (Pair p (Second (First (Pair s (Second (Called n _)))))) f = absurd f.1.1.1.1.1.1
value_fits (Pair p (Second (First (Pair s (Second _))))) f = absurd f.1.1.1.1.1
value_fits (Pair p (Second (First (Pair s (First y))))) f = refl
value_fits (Pair p (Second (First (Pair s _)))) f = absurd f.1.1.1.1
value_fits (Pair p (Second (First _))) f = absurd f.1.1.1
value_fits (Pair p (Second (Second x))) f = refl
value_fits (Pair p (Second _)) f = absurd f.1.1
value_fits (Pair p (First x)) f = refl
value_fits (Pair p _) f = absurd f.1
value_fits _ f = absurd f

value_kept : (x : Tree) (r : List Token) → Derives x (table Meta) r → has_bare_value (kept x) ≡ has_bare_value x
unfolding table held
value_kept (Pair p (Second (First (Pair s (Second (Called n (Node (Expression q) (Whole x)))))))) r d = bare_kept x
value_kept (Pair p (Second (First (Pair s (Second (Called n (Node (Expression q) _))))))) r d =
    absurd d.1.1.1.1.1.1.1
value_kept (Pair p (Second (First (Pair s (Second (Called n (Node k x))))))) r d = refl
value_kept (Pair p (Second (First (Pair s (Second (Called n _)))))) r d = absurd d.1.1.1.1.1.1
value_kept (Pair p (Second (First (Pair s (Second _))))) r d = absurd d.1.1.1.1.1
value_kept (Pair p (Second (First (Pair s (First y))))) r d = refl
value_kept (Pair p (Second (First (Pair s _)))) r d = absurd d.1.1.1.1
value_kept (Pair p (Second (First _))) r d = absurd d.1.1.1
value_kept (Pair p (Second (Second x))) r d = refl
value_kept (Pair p (Second _)) r d = absurd d.1.1
value_kept (Pair p (First x)) r d = refl
value_kept (Pair p _) r d = absurd d.1
value_kept _ r d = absurd d

value_normal : (v : Tree) → has_bare_value v ≡ true → has_bare_value (normal_in Plain v) ≡ true
unfolding passed place_of
value_normal (Pair p (Second (First (Pair s (Second (Called n (Node (Expression q) (Whole x)))))))) e =
    bare_formed _ _ x e
value_normal _ e = refl

value_read : (x : Tree) (r : List Token) → Derives x (table Meta) r → has_bare_value x ≡ true
unfolding table
value_read (Pair p (Second (First (Pair s (Second (Called n (Node (Expression q) (Whole x)))))))) r d =
    bare_read q x r d.1.1.1.1.1.1.1.1 d.1.1.1.1.0
value_read _ r d = refl

pub law_meta : KindLaw Meta
unfolding has_step held passed place_of table
law_meta = record { entry = λ q l. simple_law Plain (table Meta) refl; node = go }
  where
    go : (q : Position) → IsPlaced q Meta → (x : Tree) (r : List Token)
        → is_taken Meta x ≡ true → Derives x (table Meta) r
        → Printed (table Meta) (normal_in (passed Meta q) (kept x))
        → Printed (ref Meta) (normal_in q (Node (held Meta) (unsafe_path (kept x))))
    go q l x r m d i =
        let b : has_bare_value i.tree ≡ true =
        sym (value_fits i.tree i.fits) ∙ ap has_bare_value i.kept_is
        ∙ value_normal (kept x) (value_kept x r d ∙ value_read x r d) in
        record {
          tree = Node Meta i.tree;
          fits = (refl, refl, meta_tokens i.tree i.fits, i.fits, b);
          kept_is = ap (Node Meta) (ap unsafe_path i.kept_is ∙ unsafe_normal (kept x));
        }

-- Of a visibility that is forgotten.
fits_private : Fits private (ref Visibility)
unfolding has_step table
fits_private = (refl, refl, refl, (([], refl), tt), tt)

pub law_variant : KindLaw Variant
unfolding has_step held passed place_of table
law_variant =
    plain_law Variant refl (λ x. tt) (λ x. refl) (λ x. refl) (λ q. refl)
    (λ q l. (tt, (fits_private, (tt, ((tt, (tt, tt)), ((tt, refl), tt))))))

argument_normal : (v : Tree) → constant_argument (normal_in Plain v) ≡ normal_in Plain (constant_argument v)
unfolding passed stands_behind may_lack
argument_normal (Second (First (First x))) = refl
argument_normal (Second (First (Second x))) = refl
argument_normal (Second (Second (First (Node Body x)))) = refl
argument_normal _ = refl

block_tokens : (k : Kind) (x : Tree) → Body ≡ k
    → flat (constant_argument (kept (Second (Second (First (Node k x)))))) ≡ flat (kept (Node k x))
unfolding held
block_tokens k x e =
    subst (λ j. flat (constant_argument (kept (Second (Second (First (Node j x)))))) ≡ flat (kept (Node j x))) e
    (block x)
  where
    block : (x : Tree) → flat (constant_argument (kept (Second (Second (First (Node Body x))))))
        ≡ flat (kept (Node Body x))
    block x = refl

argument_tokens : (w : Tree) → Fits w (table AnArgument) → flat (constant_argument (kept w)) ≡ flat (kept w)
unfolding table
argument_tokens (First x) f = refl
argument_tokens (Second (First (First x))) f = refl
argument_tokens (Second (First (Second x))) f = refl
argument_tokens (Second (First _)) f = absurd f.1.1
argument_tokens (Second (Second (First (Node k x)))) f = block_tokens k x (sym f.1.1.1.0)
argument_tokens (Second (Second (First _))) f = absurd f.1.1.1
argument_tokens (Second (Second (Second x))) f = refl
argument_tokens (Second (Second _)) f = absurd f.1.1
argument_tokens (Second _) f = absurd f.1
argument_tokens _ f = absurd f

pub law_an_argument : KindLaw AnArgument
unfolding has_step held passed place_of table
law_an_argument =
    held_law AnArgument refl (λ x. tt) (λ q. refl) (λ q. refl) (λ x. refl) argument_normal
    (simple_law Plain (table AnArgument) refl)
    (λ w f. record { tree = w; fits = f; printed = argument_tokens w f; kept_is = refl })

-- Of bounds of which one at least is a path, and of dyn and impl.
pub law_some_bounds : KindLaw SomeBounds
unfolding has_step held passed table
law_some_bounds =
    plain_law SomeBounds refl (λ x. tt) (λ x. refl) (λ x. refl) (λ q. refl)
    (λ q l. kept_entry (some is_path_bound) (some_verdict Plain) tt)

listed_normal : (v : Tree) → listed_bound (normal_in Plain v) ≡ normal_in Plain (listed_bound v)
unfolding passed place_of
listed_normal (Pair w (Second b)) = refl
listed_normal _ = refl

dyn_held : (w : Tree) → Fits w (table (DynType WithPlus)) → Held (DynType WithPlus) w
unfolding table
dyn_held (Pair a (Called n x)) f = record { tree = Pair a (Called n x); fits = f; printed = refl; kept_is = refl }
dyn_held (Pair a _) f = absurd f.1
dyn_held _ f = absurd f

pub law_dyn : KindLaw (DynType WithPlus)
unfolding has_step held passed place_of table
law_dyn =
    held_law (DynType WithPlus) refl (λ x. tt) (λ q. refl) (λ q. refl) (λ x. refl) listed_normal
    (simple_law Plain (table (DynType WithPlus)) refl) dyn_held

impl_held : (w : Tree) → Fits w (table (ImplType WithPlus)) → Held (ImplType WithPlus) w
unfolding table
impl_held (Pair a (Called n x)) f = record { tree = Pair a (Called n x); fits = f; printed = refl; kept_is = refl }
impl_held (Pair a _) f = absurd f.1
impl_held _ f = absurd f

pub law_impl : KindLaw (ImplType WithPlus)
unfolding has_step held passed place_of table
law_impl =
    held_law (ImplType WithPlus) refl (λ x. tt) (λ q. refl) (λ q. refl) (λ x. refl) listed_normal
    (simple_law Plain (table (ImplType WithPlus)) refl) impl_held

dyn_tokens : (w : Tree) → Fits w (table (DynType WithoutPlus)) → flat (listed_bound (kept w)) ≡ flat (kept w)
unfolding table
dyn_tokens (Pair a (Second b)) f = refl
dyn_tokens (Pair a (First b)) f = absurd (none_never b f.1.1)
dyn_tokens (Pair a _) f = absurd f.1
dyn_tokens _ f = absurd f

pub law_dyn_alone : KindLaw (DynType WithoutPlus)
unfolding has_step held passed place_of table
law_dyn_alone = record { entry = λ q l. simple_law Plain (table (DynType WithoutPlus)) refl; node = go }
  where
    go : (q : Position) → IsPlaced q (DynType WithoutPlus) → (x : Tree) (r : List Token)
        → is_taken (DynType WithoutPlus) x ≡ true → Derives x (table (DynType WithoutPlus)) r
        → Printed (table (DynType WithoutPlus)) (normal_in (passed (DynType WithoutPlus) q) (kept x))
        → Printed (ref (DynType WithoutPlus))
        (normal_in q (Node (held (DynType WithoutPlus)) (listed_bound (kept x))))
    go q l x r m d i =
        record {
          tree = Node (DynType WithoutPlus) i.tree;
          fits = (
            refl,
            refl,
            dyn_tokens i.tree i.fits,
            i.fits,
            path_meant "dyn" x i.tree r d i.fits i.kept_is,
          );
          kept_is = ap (Node (DynType WithPlus)) (ap listed_bound i.kept_is ∙ listed_normal (kept x));
        }

impl_tokens : (w : Tree) → Fits w (table (ImplType WithoutPlus)) → flat (listed_bound (kept w)) ≡ flat (kept w)
unfolding table
impl_tokens (Pair a (Second b)) f = refl
impl_tokens (Pair a (First b)) f = absurd (none_never b f.1.1)
impl_tokens (Pair a _) f = absurd f.1
impl_tokens _ f = absurd f

pub law_impl_alone : KindLaw (ImplType WithoutPlus)
unfolding has_step held passed place_of table
law_impl_alone = record { entry = λ q l. simple_law Plain (table (ImplType WithoutPlus)) refl; node = go }
  where
    go : (q : Position) → IsPlaced q (ImplType WithoutPlus) → (x : Tree) (r : List Token)
        → is_taken (ImplType WithoutPlus) x ≡ true → Derives x (table (ImplType WithoutPlus)) r
        → Printed (table (ImplType WithoutPlus)) (normal_in (passed (ImplType WithoutPlus) q) (kept x))
        → Printed (ref (ImplType WithoutPlus))
        (normal_in q (Node (held (ImplType WithoutPlus)) (listed_bound (kept x))))
    go q l x r m d i =
        record {
          tree = Node (ImplType WithoutPlus) i.tree;
          fits = (
            refl,
            refl,
            impl_tokens i.tree i.fits,
            i.fits,
            path_meant "impl" x i.tree r d i.fits i.kept_is,
          );
          kept_is = ap (Node (ImplType WithPlus)) (ap listed_bound i.kept_is ∙ listed_normal (kept x));
        }

-- Of a field's index.
pub law_index : KindLaw Index
unfolding has_step held passed table
law_index =
    held_law Index refl (λ x. tt) (λ q. refl) (λ q. refl) (λ x. refl) index_normal
    (simple_law Plain (table Index) refl) index_held

pub law_member : KindLaw Member
unfolding has_step held passed table
law_member =
    held_law Member refl (λ x. tt) (λ q. refl) (λ q. refl) (λ x. refl) member_normal
    (simple_law Plain (table Member) refl) member_held

-- Of a choice: whether the first was chosen.
pub there_normal : (q : Position) (w : Tree) → is_there (normal_in q w) ≡ is_there w
there_normal q (First w) = refl
there_normal q _ = refl

pub chosen_fits : (w : Tree) (g : Gram) → Fits w g → is_there (kept w) ≡ is_there w
chosen_fits (Back l k y) _ f = absurd f
chosen_fits _ _ f = refl

pub chosen_read : (x : Tree) (g : Gram) (r : List Token) → Derives x g r → is_there (kept x) ≡ is_there x
chosen_read (Back l k y) _ r d = absurd d
chosen_read _ _ r d = refl

-- Of an unnamed field: whether its type begins a restriction, as it is printed.
pub law_unnamed_field : KindLaw UnnamedField
unfolding has_step held passed place_of table
law_unnamed_field = record { entry = λ q l. simple_law Plain (table UnnamedField) refl; node = go }
  where
    go : (q : Position) → IsPlaced q UnnamedField → (x : Tree) (r : List Token)
        → is_taken UnnamedField x ≡ true → Derives x (table UnnamedField) r
        → Printed (table UnnamedField) (normal_in (passed UnnamedField q) (kept x))
        → Printed (ref UnnamedField) (normal_in q (Node (held UnnamedField) (kept x)))
    go q l x r m d i =
        let b : has_clear_type i.tree ≡ true =
        sym (clear_fits i.tree i.fits) ∙ ap has_clear_type i.kept_is ∙ clear_normal Plain x r d ∙ clear_read x r d in
        record {
          tree = Node UnnamedField i.tree;
          fits = (refl, refl, refl, i.fits, b);
          kept_is = ap (Node UnnamedField) i.kept_is;
        }
