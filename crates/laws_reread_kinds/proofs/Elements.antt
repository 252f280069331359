-- Verdicts on lists, by whether their elements have a part: the same of what was read and of what is printed for it.
use Rattle.std.proofs.Common.{◌≡◌, ℕ, List, [], ◌∷◌, ◌++◌, refl, sym, ap, ◌∙◌}
use Rattle.std.specs.Prelude.{Bool, true, ◌&&◌, ◌||◌, not}
use Rattle.proc_macro2.specs.Token.{Token, Punct}
use Rattle.proc_macro2.specs.declared.delimiter.Delimiter.{Delimiter}
use Rattle.syn_grammar.specs.Kind.{Position, Plain, AFieldValue, ARestrictedTrait, ATrait, FieldPattern}
use Rattle.syn_grammar.specs.Kind.{FieldPatterns, FieldValues, FnArg}
use Rattle.syn_grammar.specs.Kind.{Parameter, Parameters}
use Rattle.syn_grammar.specs.Name.{Part, same_part, the_auto, the_base, the_dots, the_equals, the_receiver}
use Rattle.syn_grammar.specs.Name.{the_rest, the_safety}
use Rattle.syn_grammar.specs.Name.{the_unnamed}
use Rattle.syn_grammar.specs.Tree.{Tree, End, Final, More, Pair, First, Second, Group, Called, Node, Back, flat}
use Rattle.syn_grammar.specs.Part.{each, each_but_first, each_but_last, each_separated, found, has, in_group}
use Rattle.syn_grammar.specs.Gram.{Gram, alt, called, group, judged, many, ref, seq}
use Rattle.syn_grammar.specs.Items.{is_receiver, is_trait, is_variadic, restriction, trait_form}
use Rattle.syn_grammar.specs.Expressions.{is_base}
use Rattle.syn_grammar.specs.Patterns.{is_rest}
use Rattle.syn_grammar.specs.Types.{kept_if}
use Rattle.syn_grammar.specs.Table.{table}
use Rattle.syn_grammar.specs.Derives.{Derives}
use Rattle.syn_grammar.specs.Kept.{held, kept, named}
use Rattle.syn_grammar.specs.Normal.{passed, place_of, normal_in}
use Rattle.laws_reread_kinds.proofs.Choices.{both_same}
use Rattle.laws_reread_kinds.specs.Covered.{has_step}
use Rattle.laws_reread_kinds.proofs.Fits.{Fits}
use Rattle.laws_items.proofs.Places.{kept_raw}
use Rattle.laws_reread_kinds.proofs.Printed.{KindLaw, VerdictLaw, kept_entry, plain_law, simple_law}
use Rattle.laws_reread_kinds.proofs.Verdicts.{has_normal, some_called, some_either}

-- what is kept has the parts that were there
pub has_fits : (n : Part) (w : Tree) (g : Gram) → Fits w g → has n (kept w) ≡ has n w
has_fits n (Called m x) (called l g) f = some_called (same_part m n) (kept x) x
has_fits n (Pair x y) (seq a b) f =
    some_either (found n (kept x)) (found n (kept y)) (found n x) (found n y) (has_fits n x a f.0) (has_fits n y b f.1)
has_fits n (First x) (alt t a b) f = has_fits n x a f.1
has_fits n (First x) (judged v g) f = has_fits n x g f.1
has_fits n (Second x) (alt t a b) f = has_fits n x b f.1
has_fits n (Group d x) (group e g) f = has_fits n x g f.1
has_fits n (Called m x) _ f = absurd f
has_fits n (Pair x y) _ f = absurd f
has_fits n (First x) _ f = absurd f
has_fits n (Second x) _ f = absurd f
has_fits n (Group d x) _ f = absurd f
has_fits n (Back l k y) _ f = absurd f
has_fits n _ _ f = refl

pub has_read : (n : Part) (x : Tree) (g : Gram) (r : List Token) → Derives x g r → has n (kept x) ≡ has n x
has_read n (Called m x) (called l g) r d = some_called (same_part m n) (kept x) x
has_read n (Pair x y) (seq a b) r d =
    some_either (found n (kept x)) (found n (kept y)) (found n x) (found n y) (has_read n x a (flat y ++ r) d.0)
    (has_read n y b r d.1)
has_read n (First x) (alt t a b) r d = has_read n x a r d.1
has_read n (First x) (judged v g) r d = has_read n x g r d.1
has_read n (Second x) (alt t a b) r d = has_read n x b r d.1
has_read n (Group e x) (group f g) r d = has_read n x g [] d.1
has_read n (Called m x) _ r d = absurd d
has_read n (Pair x y) _ r d = absurd d
has_read n (First x) _ r d = absurd d
has_read n (Second x) _ r d = absurd d
has_read n (Group e x) _ r d = absurd d
has_read n (Back l k y) _ r d = absurd d
has_read n _ _ r d = refl

-- a list whose elements pass a test that what is kept and normal form pass too
module _ (e : Tree → Bool) (g : Gram) (on_read : (x : Tree) (r : List Token) → Derives x g r → e (kept x) ≡ e x)
    (on_fits : (w : Tree) → Fits w g → e (kept w) ≡ e w)
    (on_normal : (q : Position) (x : Tree) → e (normal_in q x) ≡ e x) where
  separated_read : (x : Tree) (t : List Token → Bool) (c : ℕ) (r : List Token) → Derives x (many t c g) r
      → each_separated e (kept x) ≡ each_separated e x
  separated_read (More x m spacing y) t c r d =
      ap (λ b. b && each_separated e (kept y)) (on_read x (Punct m spacing ∷ flat y ++ r) d.2)
      ∙ ap (λ b. e x && b) (separated_read y t c r d.3)
  separated_read (Final x) t c r d = refl
  separated_read End t c r d = refl
  separated_read _ t c r d = absurd d

  separated_fits : (w : Tree) (t : List Token → Bool) (c : ℕ) → Fits w (many t c g)
      → each_separated e (kept w) ≡ each_separated e w
  separated_fits (More x m spacing y) t c f =
      ap (λ b. b && each_separated e (kept y)) (on_fits x f.2) ∙ ap (λ b. e x && b) (separated_fits y t c f.3)
  separated_fits (Final x) t c f = refl
  separated_fits End t c f = refl
  separated_fits _ t c f = absurd f

  separated_normal : (q : Position) (x : Tree) → each_separated e (normal_in q x) ≡ each_separated e x
  separated_normal q (More x m spacing y) =
      ap (λ b. b && each_separated e (normal_in q y)) (on_normal q x) ∙ ap (λ b. e x && b) (separated_normal q y)
  separated_normal q _ = refl

  each_read : (x : Tree) (t : List Token → Bool) (c : ℕ) (r : List Token) → Derives x (many t c g) r
      → each e (kept x) ≡ each e x
  each_read (More x m spacing y) t c r d =
      ap (λ b. b && each e (kept y)) (on_read x (Punct m spacing ∷ flat y ++ r) d.2)
      ∙ ap (λ b. e x && b) (each_read y t c r d.3)
  each_read (Final x) t c r d = on_read x r d.1
  each_read End t c r d = refl
  each_read _ t c r d = absurd d

  each_fits : (w : Tree) (t : List Token → Bool) (c : ℕ) → Fits w (many t c g) → each e (kept w) ≡ each e w
  each_fits (More x m spacing y) t c f =
      ap (λ b. b && each e (kept y)) (on_fits x f.2) ∙ ap (λ b. e x && b) (each_fits y t c f.3)
  each_fits (Final x) t c f = on_fits x f
  each_fits End t c f = refl
  each_fits _ t c f = absurd f

  each_normal : (q : Position) (x : Tree) → each e (normal_in q x) ≡ each e x
  each_normal q (More x m spacing y) =
      ap (λ b. b && each e (normal_in q y)) (on_normal q x) ∙ ap (λ b. e x && b) (each_normal q y)
  each_normal q (Final x) = on_normal q x
  each_normal q _ = refl

  -- all but the first
  first_read : (x : Tree) (t : List Token → Bool) (c : ℕ) (r : List Token) → Derives x (many t c g) r
      → each_but_first e (kept x) ≡ each_but_first e x
  first_read (More x m spacing y) t c r d = each_read y t c r d.3
  first_read (Final x) t c r d = refl
  first_read End t c r d = refl
  first_read _ t c r d = absurd d

  first_fits : (w : Tree) (t : List Token → Bool) (c : ℕ) → Fits w (many t c g)
      → each_but_first e (kept w) ≡ each_but_first e w
  first_fits (More x m spacing y) t c f = each_fits y t c f.3
  first_fits (Final x) t c f = refl
  first_fits End t c f = refl
  first_fits _ t c f = absurd f

  first_normal : (q : Position) (x : Tree) → each_but_first e (normal_in q x) ≡ each_but_first e x
  first_normal q (More x m spacing y) = each_normal q y
  first_normal q _ = refl

  -- all but the last
  last_read : (x : Tree) (t : List Token → Bool) (c : ℕ) (r : List Token) → Derives x (many t c g) r
      → each_but_last e (kept x) ≡ each_but_last e x
  last_read (More x m spacing End) t c r d = refl
  last_read (More x m spacing (More y n i z)) t c r d =
      ap (λ b. b && each_but_last e (kept (More y n i z)))
      (on_read x (Punct m spacing ∷ flat (More y n i z) ++ r) d.2)
      ∙ ap (λ b. e x && b) (last_read (More y n i z) t c r d.3)
  last_read (More x m spacing (Final y)) t c r d =
      ap (λ b. b && true) (on_read x (Punct m spacing ∷ flat y ++ r) d.2)
  last_read (More x m spacing _) t c r d = absurd d.3
  last_read (Final x) t c r d = refl
  last_read End t c r d = refl
  last_read _ t c r d = absurd d

  last_fits : (w : Tree) (t : List Token → Bool) (c : ℕ) → Fits w (many t c g)
      → each_but_last e (kept w) ≡ each_but_last e w
  last_fits (More x m spacing End) t c f = refl
  last_fits (More x m spacing (More y n i z)) t c f =
      ap (λ b. b && each_but_last e (kept (More y n i z))) (on_fits x f.2)
      ∙ ap (λ b. e x && b) (last_fits (More y n i z) t c f.3)
  last_fits (More x m spacing (Final y)) t c f = ap (λ b. b && true) (on_fits x f.2)
  last_fits (More x m spacing _) t c f = absurd f.3
  last_fits (Final x) t c f = refl
  last_fits End t c f = refl
  last_fits _ t c f = absurd f

  last_normal : (q : Position) (x : Tree) → each_but_last e (normal_in q x) ≡ each_but_last e x
  last_normal q (More x m spacing End) = refl
  last_normal q (More x m spacing y) =
      ap (λ b. b && each_but_last e (normal_in q y)) (on_normal q x) ∙ ap (λ b. e x && b) (last_normal q y)
  last_normal q _ = refl

-- of a list in its group
in_group_law : (q : Position) (p : Tree → Bool) (d : Delimiter) (g : Gram)
    → ((x : Tree) (r : List Token) → Derives x g r → p (kept x) ≡ p x) → ((w : Tree) → Fits w g → p (kept w) ≡ p w)
    → ((x : Tree) → p (normal_in q x) ≡ p x) → VerdictLaw q (λ x. kept_if (in_group p x)) (group d g)
in_group_law q p d g h i j = go
  where
    go : VerdictLaw q (λ x. kept_if (in_group p x)) (group d g)
    go (Group a x) (Group b w) r c u f e v =
        let k : kept w ≡ normal_in q (kept x) = cc in
        ap kept_if (sym (i w f.1) ∙ ap p k ∙ j (kept x) ∙ h x [] u.1) ∙ v
    go (Group a x) _ r c u f e v = absurd f
    go _ w r c u f e v = absurd u

-- fields of a pattern, of which .. is the last
rest_read : (x : Tree) (r : List Token) → Derives x (ref FieldPattern) r → not (is_rest (kept x)) ≡ not (is_rest x)
unfolding held
rest_read (Node FieldPattern x) r d = ap not (has_read the_rest x (table FieldPattern) r d.1)
rest_read (Node k x) r d = refl
rest_read _ r d = absurd d

rest_fits : (w : Tree) → Fits w (ref FieldPattern) → not (is_rest (kept w)) ≡ not (is_rest w)
unfolding held
rest_fits (Node FieldPattern x) f = ap not (has_fits the_rest x (table FieldPattern) f.3)
rest_fits (Node k x) f = refl
rest_fits _ f = absurd f

rest_normal : (q : Position) (x : Tree) → not (is_rest (normal_in q x)) ≡ not (is_rest x)
rest_normal q (Node FieldPattern x) = ap not (has_normal the_rest (passed FieldPattern q) x)
rest_normal q _ = refl

pub law_field_patterns : KindLaw FieldPatterns
unfolding has_step held passed table
law_field_patterns =
    plain_law FieldPatterns refl (λ x. tt) (λ x. refl) (λ x. refl) (λ q. refl)
    (λ q l. (
      in_group_law Plain _ _ _
          (λ x r d. separated_read (λ y. not (is_rest y)) (ref FieldPattern) rest_read rest_fits rest_normal x _ _ r d)
          (λ w f. separated_fits (λ y. not (is_rest y)) (ref FieldPattern) rest_read rest_fits rest_normal w _ _ f)
          (λ x. separated_normal (λ y. not (is_rest y)) (ref FieldPattern) rest_read rest_fits rest_normal Plain x),
      (λ x r d. absurd (kept_raw _ d.0)),
      tt,
    ))

-- fields of a struct expression, of which .. is the last
base_read : (x : Tree) (r : List Token) → Derives x (ref AFieldValue) r → not (is_base (kept x)) ≡ not (is_base x)
unfolding held
base_read (Node AFieldValue x) r d = ap not (has_read the_base x (table AFieldValue) r d.1)
base_read (Node k x) r d = refl
base_read _ r d = absurd d

base_fits : (w : Tree) → Fits w (ref AFieldValue) → not (is_base (kept w)) ≡ not (is_base w)
unfolding held
base_fits (Node AFieldValue x) f = ap not (has_fits the_base x (table AFieldValue) f.3)
base_fits (Node k x) f = refl
base_fits _ f = absurd f

base_normal : (q : Position) (x : Tree) → not (is_base (normal_in q x)) ≡ not (is_base x)
base_normal q (Node AFieldValue x) = ap not (has_normal the_base (passed AFieldValue q) x)
base_normal q _ = refl

pub law_field_values : KindLaw FieldValues
unfolding has_step held passed table
law_field_values =
    plain_law FieldValues refl (λ x. tt) (λ x. refl) (λ x. refl) (λ q. refl)
    (λ q l. (
      in_group_law Plain _ _ _
          (λ x r d. separated_read (λ y. not (is_base y)) (ref AFieldValue) base_read base_fits base_normal x _ _ r d)
          (λ w f. separated_fits (λ y. not (is_base y)) (ref AFieldValue) base_read base_fits base_normal w _ _ f)
          (λ x. separated_normal (λ y. not (is_base y)) (ref AFieldValue) base_read base_fits base_normal Plain x),
      (λ x r d. absurd (kept_raw _ d.0)),
      tt,
    ))

-- parameters: a receiver is the first, and ... the last
named_receiver : (x : Tree) → has the_receiver (named x) ≡ has the_receiver x
unfolding same_part
named_receiver (Pair a (Second (Second (First (Called the_unnamed t))))) = refl
named_receiver _ = refl

named_dots : (x : Tree) → has the_dots (named x) ≡ has the_dots x
unfolding same_part
named_dots (Pair a (Second (Second (First (Called the_unnamed t))))) = refl
named_dots _ = refl

receiver_read : (x : Tree) (r : List Token) → Derives x (ref Parameter) r → not (is_receiver (kept x)) ≡ not
    (is_receiver x)
unfolding held
receiver_read (Node Parameter x) r d =
    ap not (named_receiver (kept x) ∙ has_read the_receiver x (table Parameter) r d.1)
receiver_read (Node k x) r d = refl
receiver_read _ r d = absurd d

receiver_fits : (w : Tree) → Fits w (ref Parameter) → not (is_receiver (kept w)) ≡ not (is_receiver w)
unfolding held
receiver_fits (Node Parameter x) f =
    ap not (named_receiver (kept x) ∙ has_fits the_receiver x (table Parameter) f.3)
receiver_fits (Node k x) f = refl
receiver_fits _ f = absurd f

receiver_normal : (q : Position) (x : Tree) → not (is_receiver (normal_in q x)) ≡ not (is_receiver x)
receiver_normal q (Node Parameter x) = ap not (has_normal the_receiver (passed Parameter q) x)
receiver_normal q _ = refl

dots_read : (x : Tree) (r : List Token) → Derives x (ref Parameter) r → not (is_variadic (kept x)) ≡ not (is_variadic x)
unfolding held
dots_read (Node Parameter x) r d = ap not (named_dots (kept x) ∙ has_read the_dots x (table Parameter) r d.1)
dots_read (Node k x) r d = refl
dots_read _ r d = absurd d

dots_fits : (w : Tree) → Fits w (ref Parameter) → not (is_variadic (kept w)) ≡ not (is_variadic w)
unfolding held
dots_fits (Node Parameter x) f = ap not (named_dots (kept x) ∙ has_fits the_dots x (table Parameter) f.3)
dots_fits (Node k x) f = refl
dots_fits _ f = absurd f

dots_normal : (q : Position) (x : Tree) → not (is_variadic (normal_in q x)) ≡ not (is_variadic x)
dots_normal q (Node Parameter x) = ap not (has_normal the_dots (passed Parameter q) x)
dots_normal q _ = refl

abbrev pub is_own : Tree → Bool
is_own x = not (is_receiver x)

abbrev pub is_fixed : Tree → Bool
is_fixed x = not (is_variadic x)

pub law_parameters : KindLaw Parameters
unfolding has_step held passed table
law_parameters =
    plain_law Parameters refl (λ x. tt) (λ x. refl) (λ x. refl) (λ q. refl)
    (λ q l. (
      in_group_law Plain _ _ _
          (λ x r d. both_same (each_but_first is_own (kept x)) (each_but_last is_fixed (kept x))
          (each_but_first is_own x)
          (each_but_last is_fixed x)
          (first_read is_own (ref Parameter) receiver_read receiver_fits receiver_normal x _ _ r d)
          (last_read is_fixed (ref Parameter) dots_read dots_fits dots_normal x _ _ r d))
          (λ w f. both_same (each_but_first is_own (kept w)) (each_but_last is_fixed (kept w)) (each_but_first is_own w)
          (each_but_last is_fixed w)
          (first_fits is_own (ref Parameter) receiver_read receiver_fits receiver_normal w _ _ f)
          (last_fits is_fixed (ref Parameter) dots_read dots_fits dots_normal w _ _ f))
          (λ x. both_same (each_but_first is_own (normal_in Plain x)) (each_but_last is_fixed (normal_in Plain x))
          (each_but_first is_own x) (each_but_last is_fixed x)
          (first_normal is_own (ref Parameter) receiver_read receiver_fits receiver_normal Plain x)
          (last_normal is_fixed (ref Parameter) dots_read dots_fits dots_normal Plain x)),
      (λ x r d. absurd (kept_raw _ d.0)),
      tt,
    ))

fixed_law : VerdictLaw Plain (λ x. kept_if (not (is_variadic x))) (ref Parameter)
fixed_law x w r c d f e v =
    ap kept_if (sym (dots_fits w f) ∙ ap is_fixed e ∙ dots_normal Plain (kept x) ∙ dots_read x r d) ∙ v

pub law_fn_arg : KindLaw FnArg
unfolding has_step held passed table
law_fn_arg =
    plain_law FnArg refl (λ x. tt) (λ x. refl) (λ x. refl) (λ q. refl)
    (λ q l. kept_entry (λ x. not (is_variadic x)) fixed_law tt)

-- a trait: an alias is neither unsafe nor auto
trait_verdict : (q : Position) → VerdictLaw q (λ x. kept_if (is_trait x)) trait_form
trait_verdict q x w r k d f e v = ap kept_if (same_trait (same the_equals) (same the_safety) (same the_auto)) ∙ v
  where
    same : (n : Part) → has n w ≡ has n x
    same n =
        sym (has_fits n w trait_form f) ∙ ap (has n) e ∙ has_normal n q (kept x) ∙ has_read n x trait_form r d

    same_trait : has the_equals w ≡ has the_equals x → has the_safety w ≡ has the_safety x
        → has the_auto w ≡ has the_auto x → is_trait w ≡ is_trait x
    same_trait a b c =
        ap (λ y. not (y && (has the_safety w || has the_auto w))) a
        ∙ ap (λ y. not (has the_equals x && (y || has the_auto w))) b
        ∙ ap (λ y. not (has the_equals x && (has the_safety x || y))) c

pub law_trait : KindLaw ATrait
unfolding has_step held passed place_of table
law_trait =
    plain_law ATrait refl (λ x. tt) (λ x. refl) (λ x. refl) (λ q. refl)
    (λ q l. kept_entry is_trait (trait_verdict Plain) (simple_law Plain trait_form refl))

-- and one with a restriction is no alias
unaliased : (q : Position) → VerdictLaw q (λ x. kept_if (not (has the_equals x))) trait_form
unaliased q x w r c d f e v =
    ap (λ b. kept_if (not b))
    (sym (has_fits the_equals w trait_form f) ∙ ap (has the_equals) e ∙ has_normal the_equals q (kept x)
    ∙ has_read the_equals x trait_form r d) ∙ v

pub law_restricted_trait : KindLaw ARestrictedTrait
unfolding has_step held passed place_of table
law_restricted_trait =
    plain_law ARestrictedTrait refl (λ x. tt) (λ x. refl) (λ x. refl) (λ q. refl)
    (λ q l. (
      tt,
      (
        simple_law Plain restriction refl,
        ((tt, tt), kept_entry (λ x. not (has the_equals x)) (unaliased Plain) (simple_law Plain trait_form refl)),
      ),
    ))
