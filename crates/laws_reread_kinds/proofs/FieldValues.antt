-- The steps of what stands in a struct expression: fields, and .. with or without an expression, which ends the list.
use Rattle.std.proofs.Common.{◌≡◌, List, [], ◌∷◌, ◌++◌, refl, sym, ap, ◌∙◌, subst, append_assoc, ⊎_elim, inl, inr}
use Rattle.std.specs.Prelude.{Bool, true, false, not}
use Rattle.proc_macro2.specs.Token.{Token, Opens, Closes, Punct}
use Rattle.rust_leaf.specs.declared.punct.Spacing.TheVariants.{Alone as Apart}
use Rattle.syn_grammar.specs.Kind.{AFieldValue, Expression, FieldValue, FieldValues, Plain}
use Rattle.syn_grammar.specs.Name.{same_part, the_base}
use Rattle.syn_grammar.specs.Tree.{Tree, Nil, Pair, First, Second, End, Final, More, Group, Called, Node, flat}
use Rattle.syn_grammar.specs.Part.{each_separated, has, in_group}
use Rattle.syn_grammar.specs.Gram.{Gram, Keep, group, many, nothing, ref}
use Rattle.syn_grammar.specs.Look.{no, sees, the_end}
use Rattle.syn_grammar.specs.Say.{◌∶◌, ◌▸◌, comma, marks, sign, when◌read◌else◌}
use Rattle.syn_grammar.specs.Types.{kept_if}
use Rattle.syn_grammar.specs.Expressions.{is_base}
use Rattle.syn_grammar.specs.Ranks.{skips}
use Rattle.syn_grammar.specs.Table.{table}
use Rattle.syn_grammar.specs.Derives.{Derives}
use Rattle.syn_grammar.specs.Kept.{held, kept}
use Rattle.laws_reread_kinds.proofs.Choices.{both_true, is_false}
use Rattle.laws_reread_kinds.specs.After.{After, behind, is_end}
use Rattle.laws_reread_kinds.specs.Sees.{Lacks, LacksAll}
use Rattle.laws_reread_kinds.proofs.Classes.{Class, Opening, Sign, among_left, among_right, IsAmong}
use Rattle.proc_macro2.specs.declared.delimiter.Delimiter.TheVariants.{Brace}
use Rattle.laws_reread_kinds.proofs.Starts.{starts}
use Rattle.laws_reread_kinds.proofs.Begins.{Begins}
use Rattle.laws_reread_kinds.proofs.Elements.{has_fits}
use Rattle.laws_reread_kinds.proofs.Fits.{Fits}
use Rattle.laws_reread_kinds.proofs.Readies.{Ready, Step}
use Rattle.laws_reread_kinds.proofs.Fine.{At, Fine, fine_ref}
use Rattle.laws_reread_kinds.proofs.Parts.{at_front, found_mark, found_ref, told_at}

-- at the end stands nothing
pub end_is : (s : List Token) → Lacks (no the_end) s → s ≡ []
end_is [] e = refl
end_is (t ∷ s) e = cc

-- .., and an expression or the end
abbrev pub base_end : Gram
base_end = when the_end read nothing else ref (Expression Plain)

abbrev pub base : Gram
base = sign ".." ▸ base_end

base_read : (e : Tree) → Fits e base_end → Ready e → Derives e base_end []
unfolding skips
base_read (First Nil) f w = (refl, tt)
base_read (First _) f w = absurd f.1
base_read (Second e) f w =
    let (d, i) = (found_ref (Expression Plain) refl).fine.by e [] f.1 w (refl, tt) in
    (told_at the_end false (starts (Expression Plain)) (flat e ++ []) (search) i, d)
base_read _ f w = absurd f

abbrev pub dots : List Class
dots = Sign 46 (46 ∷ []) ∷ []

abbrev pub value_classes : List Class
value_classes = dots ++ starts FieldValue

base_at : (x : Tree) → Fits x (the_base ∶ base) → Ready x
    → (sees (marks "..") (flat x ++ []) ≡ true) × Derives x (the_base ∶ base) [] × At value_classes x []
base_at (Called n (Pair m e)) f w =
    let (d, i) = (found_mark {c = 46} {cs = 46 ∷ []}).fine.by m (flat e ++ []) f.1.0 w.0 tt in
    let j : IsAmong dots ((flat m ++ flat e) ++ []) = at_front dots m e [] i in (
      told_at (marks "..") true dots ((flat m ++ flat e) ++ []) (λ us. refl, tt) j,
      (f.0, (d, base_read e f.1.1 w.1)),
      among_left dots (starts FieldValue) ((flat m ++ flat e) ++ []) j,
    )
base_at (Called n _) f w = absurd f.1
base_at _ f w = absurd f

-- a field
field_at : (x : Tree) (s : List Token) → Fits x (ref FieldValue) → Ready x → LacksAll (behind FieldValue) s
    → (sees (marks "..") (flat x ++ s) ≡ false) × Derives x (ref FieldValue) s × At value_classes x s
unfolding skips
field_at x s f w a =
    let (d, i) = (found_ref FieldValue refl).fine.by x s f w a in (
      told_at (marks "..") false (starts FieldValue) (flat x ++ s) (search) i,
      d,
      among_right dots (starts FieldValue) (flat x ++ s) i,
    )

field_after : (x : Tree) (s : List Token) → After AFieldValue (Second x) s → LacksAll (behind FieldValue) s
field_after x s a =
    ⊎_elim (λ h. subst (LacksAll (behind FieldValue)) (sym (end_is s h.0)) (refl, (refl, tt))) (λ h. h.1) a

base_after : (x : Tree) (s : List Token) → Fits x (the_base ∶ base) → After AFieldValue (First x) s → s ≡ []
unfolding same_part
base_after (Called n x) s f a =
    ⊎_elim (λ h. end_is s h.0)
    (λ h. let e : true ≡ false = subst (λ m. has the_base (First (Called m x)) ≡ false) f.0 h.0 in cc e) a
base_after _ s f a = absurd f

pub step_a_field_value : Step AFieldValue
unfolding table skips
step_a_field_value (First x) s f n w a =
    let e = base_after x s f.1 a in
    subst (λ us. Derives (First x) (table AFieldValue) us × Begins AFieldValue (First x) us) (sym e)
    (let h = base_at x f.1 w in ((h.0, h.1), h.2))
step_a_field_value (Second x) s f n w a =
    let h = field_at x s f.1 w (field_after x s a) in ((h.0, h.1), h.2)
step_a_field_value _ s f n w a = absurd f

-- the list, of which .. is the last
not_base_in : (x : Tree) → Fits x (table AFieldValue) → is_base (Node AFieldValue x) ≡ false → is_end x ≡ false
unfolding table
not_base_in (First x) f e = e
not_base_in (Second x) f e = e
not_base_in _ f e = absurd f

not_base : (x : Tree) → Fits x (ref AFieldValue) → is_base x ≡ false → is_end x ≡ false
not_base (Node k x) f e =
    not_base_in x (subst (λ j. Fits x (table j)) f.0 f.3) (subst (λ j. is_base (Node j x) ≡ false) f.0 e)
not_base _ f e = absurd f

abbrev pub values : Gram
values = many (sees the_end) comma (ref AFieldValue)

abbrev pub is_field : Tree → Bool
is_field x = not (is_base x)

values_read : (x : Tree) → Fits x values → Ready x → each_separated is_field x ≡ true → Derives x values []
unfolding skips
values_read End f w e = refl
values_read (Final x) f w e =
    let (d, i) = (fine_ref {k = AFieldValue}).by x [] f w (inl (refl, tt)) in
    (told_at the_end false value_classes (flat x ++ []) (search) i, d, refl)
values_read (More x m spacing y) f w e =
    let h = both_true (is_field x) (each_separated is_field y) e in
    let p : Punct comma Apart ≡ Punct m spacing = ap (λ n. Punct n Apart) (sym f.0) ∙ ap (Punct m) f.1 in
    let a : After AFieldValue x (Punct m spacing ∷ flat y ++ []) =
    inr (
      not_base x f.2 (is_false (is_base x) h.0),
      subst (λ t. LacksAll (behind FieldValue) (t ∷ flat y ++ [])) p (refl, (refl, tt)),
    ) in
    let (d, i) = (fine_ref {k = AFieldValue}).by x (Punct m spacing ∷ flat y ++ []) f.2 w.0 a in (
      ap (sees the_end) (append_assoc (flat x) (Punct m spacing ∷ flat y) [])
          ∙ told_at the_end false value_classes (flat x ++ (Punct m spacing ∷ flat y ++ [])) (search) i,
      f.0,
      d,
      values_read y f.3 w.1 h.1,
    )
values_read _ f w e = absurd f

kept_true : (b : Bool) → kept_if b ≡ Keep → b ≡ true
kept_true true e = refl
kept_true false e = cc

fine_list : Fine (group Brace values) (λ x s. in_group (λ y. each_separated is_field y) x ≡ true)
    (At (Opening Brace ∷ []))
fine_list = record { by = go }
  where
    go : (x : Tree) (s : List Token) → Fits x (group Brace values) → Ready x
        → in_group (λ y. each_separated is_field y) x ≡ true
        → Derives x (group Brace values) s × At (Opening Brace ∷ []) x s
    go (Group d x) s f w a = (
      (f.0, values_read x f.1 w a),
      inl ((flat x ++ Closes d ∷ []) ++ s, ap (λ k. Opens k ∷ (flat x ++ Closes d ∷ []) ++ s) f.0),
    )
    go _ s f w a = absurd f

pub step_field_values : Step FieldValues
unfolding table skips
step_field_values (First x) s f n w a =
    let (d, i) = fine_list.by x s f.1 w (kept_true (in_group (λ y. each_separated is_field y) x) f.0) in
    ((f.0, d), i)
step_field_values _ s f n w a = absurd f

-- what is kept is .. where that was
end_in : (x : Tree) → Fits x (table AFieldValue) → is_end (kept x) ≡ is_end x
unfolding table
end_in (First x) f = has_fits the_base (First x) (table AFieldValue) f
end_in (Second x) f = has_fits the_base (Second x) (table AFieldValue) f
end_in _ f = absurd f

pub end_fits : (x : Tree) → Fits x (ref AFieldValue) → is_end (kept x) ≡ is_end x
unfolding held
end_fits (Node k x) f =
    subst (λ j. is_end (kept (Node j x)) ≡ is_end x) (sym f.0) (end_in x (subst (λ j. Fits x (table j)) f.0 f.3))
end_fits _ f = absurd f
