-- The steps and the laws of what stands behind a dot: numbers that end in one, and then a name, a number, a method with
-- its arguments, or await.
use Rattle.std.proofs.Common.{◌≡◌, ℕ, List, [], ◌∷◌, ◌++◌, refl, sym, ap, ◌∙◌, subst}
use Rattle.std.specs.Prelude.{Bool, true, false, ◌&&◌, not, codes, cond, Some, None}
use Rattle.proc_macro2.specs.Token.{Token}
use Rattle.proc_macro2.specs.declared.delimiter.Delimiter.TheVariants.{Parenthesis}
use Rattle.syn_grammar.specs.Kind.{Position, Plain, Arguments, ExprAwait, ExprField, ExprMethodCall, Expression}
use Rattle.syn_grammar.specs.Name.{the_indices, the_name, the_value}
use Rattle.syn_grammar.specs.Words.{are_indices, ends_in_dot, is_ident}
use Rattle.syn_grammar.specs.Tree.{Tree, ALiteral, Nil, Pair, First, Second, End, Again, Called, Node, flat}
use Rattle.syn_grammar.specs.Gram.{Gram, literal, ref}
use Rattle.syn_grammar.specs.Look.{a_quoted, an_ident, seen, sees}
use Rattle.syn_grammar.specs.Say.{◌∶◌, ◌▸◌, ident, in_parentheses, keyword, marks, optional, repeated}
use Rattle.syn_grammar.specs.Say.{when◌read◌else◌}
use Rattle.syn_grammar.specs.Expressions.{dot, expr_await, expr_field, expr_method_call, expressions}
use Rattle.syn_grammar.specs.Ranks.{skips}
use Rattle.syn_grammar.specs.Table.{table}
use Rattle.syn_grammar.specs.Derives.{Derives}
use Rattle.syn_grammar.specs.Kept.{held, is_there, kept}
use Rattle.syn_grammar.specs.Normal.{passed, place_of, normal_in, is_enclosed}
use Rattle.laws_reread_kinds.proofs.Choices.{both_same, both_true}
use Rattle.laws_reread_kinds.specs.Covered.{front, has_step, inner}
use Rattle.laws_reread_kinds.specs.Sees.{Lacks, LacksAll}
use Rattle.laws_reread_kinds.proofs.Classes.{AnyWord, Class, Opening, Sign, TheWord, among_left, among_right}
use Rattle.laws_reread_kinds.proofs.Starts.{starts}
use Rattle.laws_reread_kinds.proofs.Fits.{Fits, IsMeant, back, has_dots, has_last, has_own_colons, is_dotted}
use Rattle.laws_reread_kinds.proofs.Readies.{Ready, Step}
use Rattle.laws_reread_kinds.proofs.Fine.{Any, At, Fine, fine_called, fine_seq}
use Rattle.laws_reread_kinds.proofs.Parts.{Found, at_front, fine_ahead, found_called, found_group}
use Rattle.laws_reread_kinds.proofs.Parts.{found_mark, found_ref, found_text, found_to_end, found_word, meant_step}
use Rattle.laws_reread_kinds.proofs.Parts.{told_at}
use Rattle.laws_reread_kinds.proofs.Printed.{KindLaw, TurnLaw, unmoved_if, unmoved_turn}
use Rattle.laws_reread_kinds.proofs.Alternatives.{true_of}
use Rattle.laws_reread_kinds.proofs.Seconds.{front_seen}
use Rattle.laws_reread_kinds.proofs.Tidied.{as_it_is, meant_law}
use Rattle.laws_reread_kinds.proofs.Turbofish.{argued_fits, argued_read, arguments_seen}

-- the dot, and the numbers that end in one
abbrev pub numbers : Gram
numbers = repeated (a_quoted ends_in_dot) (literal are_indices)

fine_numbers : Fine numbers (λ x s. (is_dotted x ≡ true) × Lacks (a_quoted ends_in_dot) s) Any
fine_numbers = record { by = go }
  where
    go : (x : Tree) (s : List Token) → Fits x numbers → Ready x
        → (is_dotted x ≡ true) × Lacks (a_quoted ends_in_dot) s → Derives x numbers s × Any x s
    go End s f w a = (a.1, tt)
    go (Again (ALiteral cs) y) s f w a =
        let h = both_true (ends_in_dot cs) (is_dotted y) a.0 in
        let (d, i) = go y s f.1 w.1 (h.1, a.1) in
        ((ap (λ b. seen (cond b (Some (flat y ++ s)) None)) h.0, f.0, d), tt)
    go (Again _ y) s f w a = absurd f.0
    go _ s f w a = absurd f

abbrev pub dot_class : List Class
dot_class = Sign 46 [] ∷ []

fine_dot : Fine dot (λ x s. (has_dots x ≡ true) × Lacks (a_quoted ends_in_dot) s) (At dot_class)
fine_dot =
    fine_seq (λ x s. (has_dots x ≡ true) × Lacks (a_quoted ends_in_dot) s) (At dot_class) found_mark.fine
    (fine_called {n = the_indices} {A = λ x s. (has_dots (Pair Nil x) ≡ true) × Lacks (a_quoted ends_in_dot) s}
    {F = Any}
    fine_numbers) (λ x y s c. c) (λ x y s i c. tt) (λ x y s j i c. at_front dot_class x y s j)

-- and await
pub step_expr_await : Step ExprAwait
unfolding table skips
step_expr_await =
    meant_step ExprAwait refl refl
    (fine_seq (λ x s. LacksAll [] s × IsMeant ExprAwait x) (At dot_class) fine_dot (found_text "await").fine
    (λ x y s c. tt)
    (λ x y s i c. (
      c.1,
      told_at (a_quoted ends_in_dot) false (TheWord (codes "await") ∷ []) (flat y ++ s) (λ us. refl, tt) i,
    ))
    (λ x y s j i c. at_front dot_class x y s j))

-- and a name or a number
abbrev pub field_end : Gram
field_end = when an_ident read the_name ∶ ident else the_value ∶ literal are_indices

fine_field_end : Fine field_end (λ x s. has_last x ≡ true) (λ x s. Lacks (a_quoted ends_in_dot) (flat x ++ s))
fine_field_end = record { by = go }
  where
    not_it : (b : Bool) (us : List Token) → not b ≡ true → seen (cond b (Some us) None) ≡ false
    not_it false us e = refl
    not_it true us e = cc

    go : (x : Tree) (s : List Token) → Fits x field_end → Ready x → has_last x ≡ true
        → Derives x field_end s × Lacks (a_quoted ends_in_dot) (flat x ++ s)
    go (First x) s f w a =
        let (d, i) = (found_called {n = the_name} (found_word is_ident)).fine.by x s f.1 w tt in (
          (told_at an_ident true (AnyWord is_ident ∷ []) (flat x ++ s) ((λ cs h us. simp h refl), tt) i, d),
          told_at (a_quoted ends_in_dot) false (AnyWord is_ident ∷ []) (flat x ++ s) ((λ cs h us. refl), tt) i,
        )
    go (Second (Called n (ALiteral cs))) s f w a = ((refl, f.1), not_it (ends_in_dot cs) s a)
    go (Second (Called n _)) s f w a = absurd f.1.1
    go (Second _) s f w a = absurd f.1
    go _ s f w a = absurd f

pub step_expr_field : Step ExprField
unfolding table skips
step_expr_field =
    meant_step ExprField refl refl
    (fine_seq (λ x s. LacksAll [] s × IsMeant ExprField x) (At dot_class) fine_dot fine_field_end
    (λ x y s c. c.1.1) (λ x y s i c. (c.1.0, i)) (λ x y s j i c. at_front dot_class x y s j))

-- and a method
found_operands : Found (in_parentheses expressions) [] (Opening Parenthesis ∷ [])
unfolding skips
found_operands = (found_group (found_to_end (found_ref (Expression Plain) refl) (search) (λ ts. (refl, tt)) (refl, tt)))

abbrev pub call_end : Gram
call_end = optional (marks "::") (ref Arguments) ▸ in_parentheses expressions

abbrev pub call_classes : List Class
call_classes = starts Arguments ++ (Opening Parenthesis ∷ [])

fine_call_end : Fine call_end (λ x s. has_own_colons x ≡ true) (At call_classes)
unfolding skips
fine_call_end = record { by = go }
  where
    go : (x : Tree) (s : List Token) → Fits x call_end → Ready x → has_own_colons x ≡ true
        → Derives x call_end s × At call_classes x s
    go (Pair (First a) g) s f w c =
        let (e, j) = found_operands.fine.by g s f.1 w.1 tt in
        let (d, i) = (found_ref Arguments refl).fine.by a (flat g ++ s) f.0.1 w.0 tt in
        let h = front_seen ((marks "::") (flat a ++ (flat g ++ s))) (marks "<")
        (arguments_seen a (flat g ++ s) d c) in (
          ((h, d), e),
          among_left (starts Arguments) (Opening Parenthesis ∷ []) ((flat a ++ flat g) ++ s)
              (at_front (starts Arguments) a g s i),
        )
    go (Pair (Second Nil) g) s f w c =
        let (e, j) = found_operands.fine.by g s f.1 w.1 tt in (
          ((told_at (marks "::") false (Opening Parenthesis ∷ []) (flat g ++ s) (λ us. refl, tt) j, tt), e),
          among_right (starts Arguments) (Opening Parenthesis ∷ []) (flat g ++ s) j,
        )
    go (Pair (Second _) g) s f w c = absurd f.0.1
    go (Pair _ g) s f w c = absurd f.0
    go _ s f w c = absurd f

fine_method : Fine (the_name ∶ ident ▸ call_end) (λ x s. has_own_colons (back x) ≡ true) (At (AnyWord is_ident ∷ []))
fine_method =
    fine_ahead (λ x s. has_own_colons (back x) ≡ true) call_classes (found_called (found_word is_ident)) fine_call_end
    tt
    (λ x y s c. c)

pub step_expr_method_call : Step ExprMethodCall
unfolding table skips
step_expr_method_call =
    meant_step ExprMethodCall refl refl
    (fine_seq (λ x s. LacksAll [] s × IsMeant ExprMethodCall x) (At dot_class) fine_dot fine_method
    (λ x y s c. c.1.1)
    (λ x y s i c. (
      c.1.0,
      told_at (a_quoted ends_in_dot) false (AnyWord is_ident ∷ []) (flat y ++ s) ((λ cs h us. refl), tt) i,
    ))
    (λ x y s j i c. at_front dot_class x y s j))

-- the same of what was read and of what is printed
numbers_fits : (w : Tree) → Fits w numbers → is_dotted (kept w) ≡ is_dotted w
numbers_fits End f = refl
numbers_fits (Again (ALiteral cs) y) f = ap (λ b. ends_in_dot cs && b) (numbers_fits y f.1)
numbers_fits (Again _ y) f = absurd f.0
numbers_fits _ f = absurd f

numbers_read : (q : Position) (x : Tree) (r : List Token) → Derives x numbers r
    → is_dotted (normal_in q (kept x)) ≡ true
numbers_read q End r d = refl
numbers_read q (Again (ALiteral cs) y) r d =
    let z = normal_in q (kept y) in
    ap (λ u. is_dotted (Again u z)) (unmoved_if (is_enclosed (kept y) z) (ALiteral cs) refl)
    ∙ both_same (ends_in_dot cs) (is_dotted z) true true (true_of (ends_in_dot cs) (flat y ++ r) d.0)
    (numbers_read q y r d.2)
numbers_read q (Again _ y) r d = absurd d.1
numbers_read q _ r d = absurd d

dots_fits : (w : Tree) → Fits w dot → has_dots (kept w) ≡ has_dots w
dots_fits (Pair m (Called n x)) f = numbers_fits x f.1.1
dots_fits (Pair m _) f = absurd f.1
dots_fits _ f = absurd f

dots_read : (x : Tree) (r : List Token) → Derives x dot r → has_dots (normal_in Plain (kept x)) ≡ true
dots_read (Pair m (Called n x)) r d = numbers_read (place_of n) x r d.1.1
dots_read (Pair m _) r d = absurd d.1
dots_read _ r d = absurd d

dots_meant : (g : Gram) (x w : Tree) (r : List Token) → Derives x (dot ▸ g) r → Fits w (dot ▸ g)
    → kept w ≡ normal_in Plain (kept x) → has_dots (front w) ≡ true
dots_meant g (Pair x y) (Pair w z) r d f e =
    sym (dots_fits w f.0) ∙ ap (λ u. has_dots (front u)) e ∙ dots_read x (flat y ++ r) d.0
dots_meant g (Pair x y) _ r d f e = absurd f
dots_meant g _ w r d f e = absurd d

-- the last number
last_fits : (w : Tree) → Fits w field_end → has_last (kept w) ≡ has_last w
last_fits (First x) f = refl
last_fits (Second (Called n (ALiteral cs))) f = refl
last_fits (Second (Called n _)) f = absurd f.1.1
last_fits (Second _) f = absurd f.1
last_fits _ f = absurd f

no_number : (x : Tree) (s : List Token) → Derives x numbers s → Lacks (a_quoted ends_in_dot) s
no_number End s d = d
no_number (Again x y) s d = no_number y s d.2
no_number _ s d = absurd d

last_read : (x : Tree) (r : List Token) → Derives x field_end r → Lacks (a_quoted ends_in_dot) (flat x ++ r)
    → has_last (normal_in Plain (kept x)) ≡ true
last_read (First x) r d a = refl
last_read (Second (Called n (ALiteral cs))) r d a = go (ends_in_dot cs) a
  where
    go : (b : Bool) → seen (cond b (Some r) None) ≡ false → not b ≡ true
    go false e = refl
    go true e = cc
last_read (Second (Called n _)) r d a = absurd d.1.1
last_read (Second _) r d a = absurd d.1
last_read _ r d a = absurd d

dot_ended : (x : Tree) (s : List Token) → Derives x dot s → Lacks (a_quoted ends_in_dot) s
dot_ended (Pair m (Called n x)) s d = no_number x s d.1.1
dot_ended (Pair m _) s d = absurd d.1
dot_ended _ s d = absurd d

last_meant : (x w : Tree) (r : List Token) → Derives x expr_field r → Fits w expr_field
    → kept w ≡ normal_in Plain (kept x) → has_last (back w) ≡ true
last_meant (Pair x y) (Pair w z) r d f e =
    sym (last_fits z f.1) ∙ ap (λ u. has_last (back u)) e ∙ last_read y r d.1 (dot_ended x (flat y ++ r) d.0)
last_meant (Pair x y) _ r d f e = absurd f
last_meant _ w r d f e = absurd d

-- a method's arguments
colons_fits : (w : Tree) → Fits w call_end → has_own_colons (kept w) ≡ has_own_colons w
colons_fits (Pair (First a) g) f = argued_fits a f.0.1
colons_fits (Pair (Second a) g) f = refl
colons_fits (Pair _ g) f = absurd f.0
colons_fits _ f = absurd f

colons_in : (a : Tree) (r : List Token) → Derives a (table Arguments) r → sees (marks "::") (flat a ++ r) ≡ true
    → is_there (front a) ≡ true
unfolding table
colons_in (Pair (First o) y) r d e = refl
colons_in (Pair (Second Nil) y) r d e =
    let f : true ≡ false = sym e ∙ d.0.0 in
    cc f
colons_in (Pair (Second _) y) r d e = absurd d.0.1
colons_in (Pair _ y) r d e = absurd d.0
colons_in _ r d e = absurd d

colons_meant : (a : Tree) (r : List Token) → Derives a (ref Arguments) r → sees (marks "::") (flat a ++ r) ≡ true
    → is_there (front (inner a)) ≡ true
colons_meant (Node k a) r d e = colons_in a r (subst (λ j. Derives a (table j) r) d.0 d.1) e
colons_meant _ r d e = absurd d

colons_read : (x : Tree) (r : List Token) → Derives x call_end r → has_own_colons (normal_in Plain (kept x)) ≡ true
colons_read (Pair (First a) g) r d =
    argued_read a (flat g ++ r) d.0.1 ∙ colons_meant a (flat g ++ r) d.0.1 d.0.0
colons_read (Pair (Second a) g) r d = refl
colons_read (Pair _ g) r d = absurd d.0
colons_read _ r d = absurd d

method_meant : (x w : Tree) (r : List Token) → Derives x expr_method_call r → Fits w expr_method_call
    → kept w ≡ normal_in Plain (kept x) → has_own_colons (back (back w)) ≡ true
method_meant (Pair x (Pair n y)) (Pair w (Pair m z)) r d f e =
    sym (colons_fits z f.1.1) ∙ ap (λ u. has_own_colons (back (back u))) e ∙ colons_read y r d.1.1
method_meant (Pair x (Pair n y)) (Pair w _) r d f e = absurd f.1
method_meant (Pair x (Pair n y)) _ r d f e = absurd f
method_meant (Pair x _) w r d f e = absurd d.1
method_meant _ w r d f e = absurd d

literal_turns : (p : List ℕ → Bool) → TurnLaw (literal p)
literal_turns p b (ALiteral cs) f = unmoved_turn b (ALiteral cs) (literal p) f refl
literal_turns p b _ f = absurd f

pub law_expr_await : KindLaw ExprAwait
unfolding has_step held passed place_of table
law_expr_await =
    meant_law ExprAwait refl (λ q x w r d f e. dots_meant (keyword "await") x w r d f e) (λ x. refl) (λ q. refl)
    (λ q l. ((tt, (literal_turns are_indices, tt)), tt)) (λ w f. as_it_is expr_await w f)

pub law_expr_field : KindLaw ExprField
unfolding has_step held passed place_of table
law_expr_field =
    meant_law ExprField refl (λ q x w r d f e. (dots_meant field_end x w r d f e, last_meant x w r d f e)) (λ x. refl)
    (λ q. refl) (λ q l. ((tt, (literal_turns are_indices, tt)), (tt, tt))) (λ w f. as_it_is expr_field w f)

pub law_expr_method_call : KindLaw ExprMethodCall
unfolding has_step held passed place_of table
law_expr_method_call =
    meant_law ExprMethodCall refl
    (λ q x w r d f e. (dots_meant (the_name ∶ ident ▸ call_end) x w r d f e, method_meant x w r d f e))
    (λ x. refl) (λ q. refl) (λ q l. ((tt, (literal_turns are_indices, tt)), (tt, ((tt, tt), refl))))
    (λ w f. as_it_is expr_method_call w f)
