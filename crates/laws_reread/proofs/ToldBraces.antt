-- An expression that is a statement is no macro in braces by itself: where no expression goes on behind one, the test
-- of macros that are statements saw it.
use Rattle.std.proofs.Common.{◌≡◌, ℕ, List, [], ◌∷◌, ◌++◌, refl, sym, ap, ◌∙◌, subst, append_assoc}
use Rattle.std.specs.Prelude.{Bool, true, false, ◌&&◌, ◌||◌, ◌==◌, not, cond, Option, Some, None}
use Rattle.std.proofs.lemmas.Bool.{eqb-true}
use Rattle.std.proofs.lemmas.Bool.{false≢true}
use Rattle.proc_macro2.specs.Token.{Token, Punct}
use Rattle.proc_macro2.specs.declared.delimiter.Delimiter.{Delimiter}
use Rattle.proc_macro2.specs.declared.delimiter.Delimiter.TheVariants.{Brace}
use Rattle.rust_leaf.specs.declared.punct.Spacing.{Spacing}
use Rattle.rust_leaf.specs.declared.punct.Spacing.TheVariants.{Alone as Apart, Joint}
use Rattle.syn_grammar.specs.Kind.{Kind, AMacro, Delimited, ExprAttributed, ExprAwait, ExprField, ExprMacro}
use Rattle.syn_grammar.specs.Kind.{ExprMethodCall, ExprRange, ExprRangeClosed, ExprTry, InStatement, OuterAttribute}
use Rattle.syn_grammar.specs.Name.{the_indices, the_value}
use Rattle.syn_grammar.specs.Words.{ends_in_dot, plain_decimal}
use Rattle.syn_grammar.specs.Tree.{Tree, ALiteral, AMark, Alone, Back, Called, End, First, Front, Group, Infix, Node}
use Rattle.syn_grammar.specs.Tree.{Pair, Second, marks as signs, flat}
use Rattle.syn_grammar.specs.Gram.{raw}
use Rattle.syn_grammar.specs.Look.{Look, ◌or◌, ◌then◌, a_group, behind, first_seen, no, past_literals, past_marks, seen}
use Rattle.syn_grammar.specs.Look.{sees}
use Rattle.syn_grammar.specs.Say.{marks}
use Rattle.syn_grammar.specs.Statements.{macro_statement_stands}
use Rattle.syn_grammar.specs.Table.{table}
use Rattle.syn_grammar.specs.Derives.{Derives, Bound}
use Rattle.syn_grammar.specs.Kept.{dotted, held, index_field, kept, lone_dot}
use Rattle.syn_grammar.specs.Normal.{formed, normal, passed}
use Rattle.syn_grammar.specs.Forms.{back, dot_stands, ends_there, goes_on, inside, is_brace_macro, is_dotted, level}
use Rattle.syn_grammar.specs.Forms.{stands_left, takes, takes_kind}
use Rattle.syn_grammar.specs.Parens.{begins_in, follow, may_lack, parens_unless, stands_in, takes_what_follows}
use Rattle.syn_grammar.specs.Parens.{with_left, with_right}
use Rattle.laws_binding.proofs.Shells as Shells
use Rattle.laws_reread_expressions.proofs.ReadBack.{literals_seen}
use Rattle.laws_items.proofs.Passed.{group_passed}
use Rattle.laws_reread.proofs.ToldPaths.{call_behind}

-- A macro in braces by itself: behind it no expression goes on, so the test sees it.

-- behind braces ? or a . that begins no ..
abbrev pub goes_there : Look
goes_there = marks "?" or (no (marks "..") then marks ".")

abbrev Dotted : List Token → Type 0
Dotted ts = (k : Kind) × (back InStatement ts ≡ Some k) × (is_dotted k ≡ true)

one_dotted : (a b c : Bool) → c ≡ true
    → (k : Kind) × (cond a (Some ExprAwait) (cond b (Some ExprMethodCall) (cond c (Some ExprField) None)) ≡ Some k)
    × (is_dotted k ≡ true)
one_dotted true b c e = (ExprAwait, refl, refl)
one_dotted false true c e = (ExprMethodCall, refl, refl)
one_dotted false false true e = (ExprField, refl, refl)
one_dotted false false false e = absurd (false≢true e)

question_goes : (i : Spacing) (ts : List Token) → Dotted (Punct 63 i ∷ ts)
unfolding back
question_goes Apart ts = (ExprTry, refl, refl)
question_goes Joint ts = (ExprTry, refl, refl)

pub past_no : (l m : Look) (ts : List Token) → sees m ts ≡ false → sees (no l then m) ts ≡ false
past_no l m ts e = go (sees l ts)
  where
    go : (b : Bool) → seen (behind (cond b None (Some ts)) m) ≡ false
    go true = refl
    go false = e

dots_closed : (us : List Token) → sees (past_marks 46 []) us ≡ false → sees (past_marks 46 (61 ∷ [])) us ≡ false
dots_closed (Punct c Joint ∷ us) e = go (c == 46) e
  where
    go : (b : Bool) → seen (cond b (Some us) None) ≡ false → seen (cond b (past_marks 61 [] us) None) ≡ false
    go true e = absurd (false≢true (sym e))
    go false e = refl
dots_closed (Punct c Apart ∷ us) e = refl
dots_closed _ e = refl

dot_seen : (i : Spacing) (us : List Token) → sees (marks "..") (Punct 46 i ∷ us) ≡ false
    → sees dot_stands (Punct 46 i ∷ us) ≡ true
dot_seen i us e =
    ap (λ b. seen (behind (cond b None (Some (Punct 46 i ∷ us))) (marks "." then past_literals ends_in_dot))) e
    ∙ literals_seen ends_in_dot us

then_dotted : (o : Option Kind) (a b : Bool) → a ≡ false → b ≡ false
    → (k : Kind) × (o ≡ Some k) × (is_dotted k ≡ true)
    → (k : Kind) × (cond a (Some ExprRangeClosed) (cond b (Some ExprRange) o) ≡ Some k) × (is_dotted k ≡ true)
then_dotted o false false e f g = g
then_dotted o true b e f g = cc e
then_dotted o a true e f g = cc f

dot_goes : (i : Spacing) (us : List Token) → sees (marks "..") (Punct 46 i ∷ us) ≡ false → Dotted (Punct 46 i ∷ us)
unfolding back
dot_goes Apart us e = one_dotted _ _ _ (dot_seen Apart us e)
dot_goes Joint us e =
    then_dotted _ _ _ (dots_closed us e) (past_no (marks "...") (marks "..") (Punct 46 Joint ∷ us) e)
    (one_dotted _ _ _ (dot_seen Joint us e))

dotted_there : (ts : List Token) → sees goes_there ts ≡ true → Dotted ts
dotted_there (Punct c i ∷ us) e = go (c == 63) refl e
  where
    past_dots : (b : Bool) → sees (marks "..") (Punct c i ∷ us) ≡ b
        → seen (behind (cond b None (Some (Punct c i ∷ us))) (marks ".")) ≡ true → Dotted (Punct c i ∷ us)
    past_dots true f g = absurd (false≢true g)
    past_dots false f g = one (c == 46) refl g
      where
        one : (b : Bool) → (c == 46) ≡ b → seen (cond b (Some us) None) ≡ true → Dotted (Punct c i ∷ us)
        one true h g =
            subst (λ d. Dotted (Punct d i ∷ us)) (sym (eqb-true c 46 h))
            (dot_goes i us (subst (λ d. sees (marks "..") (Punct d i ∷ us) ≡ false) (eqb-true c 46 h) f))
        one false h g = absurd (false≢true g)

    go : (b : Bool) → (c == 63) ≡ b
        → seen (first_seen (cond b (Some us) None) ((no (marks "..") then marks ".") (Punct c i ∷ us))) ≡ true
        → Dotted (Punct c i ∷ us)
    go true f g = subst (λ d. Dotted (Punct d i ∷ us)) (sym (eqb-true c 63 f)) (question_goes i us)
    go false f g = past_dots (sees (marks "..") (Punct c i ∷ us)) refl g
dotted_there _ e = absurd (false≢true e)

-- so the expression goes on there
or_true : (b : Bool) → (b || true) ≡ true
or_true true = refl
or_true false = refl

dotted_stands : (k : Kind) (m : Tree) → is_dotted k ≡ true
    → (takes 0 (level k) && stands_left InStatement (Alone ExprMacro m) k) ≡ true
unfolding takes level stands_left
dotted_stands ExprField m e = or_true (not (ends_there InStatement (Alone ExprMacro m)))
dotted_stands ExprMethodCall m e = or_true (not (ends_there InStatement (Alone ExprMacro m)))
dotted_stands ExprAwait m e = or_true (not (ends_there InStatement (Alone ExprMacro m)))
dotted_stands ExprTry m e = or_true (not (ends_there InStatement (Alone ExprMacro m)))
dotted_stands _ m e = absurd (false≢true e)

macro_goes : (m : Tree) (q : List Token) → sees goes_there q ≡ true → goes_on InStatement 0 (Alone ExprMacro m) q ≡ true
macro_goes m q e =
    let (k, f, g) = dotted_there q e in
    ap (takes_kind InStatement 0 (Alone ExprMacro m)) f ∙ dotted_stands k m g

-- where a macro in braces was read as an expression, the test of a macro that is a statement did not see it
not_unseen : (b : Bool) (q : List Token) → seen (cond b None (Some q)) ≡ false → b ≡ true
not_unseen true q e = refl
not_unseen false q e = absurd (false≢true (sym e))

in_braces_goes : (e : Delimiter) (x : Tree) (q : List Token) → e ≡ Brace → Derives x raw []
    → sees (a_group Brace then no goes_there) (flat (Group e x) ++ q) ≡ false → sees goes_there q ≡ true
in_braces_goes e x q f d h =
    not_unseen (sees goes_there q) q
    (sym (ap (λ o. seen (behind o (no goes_there))) (group_passed Brace x raw q d))
    ∙ subst (λ j. sees (a_group Brace then no goes_there) (flat (Group j x) ++ q) ≡ false) f h)

-- of its tree: it is none in braces, or the expression goes on behind it
abbrev Unbraced : Tree → List Token → Type 0
Unbraced m q =
    goes_on InStatement 0 (Alone ExprMacro m) q ≡ false
    → is_brace_macro (formed InStatement [] (kept (Alone ExprMacro m))) ≡ false

delimited_unbraced : (p b z : Tree) (q : List Token) → Derives z (table Delimited) q
    → sees (a_group Brace then no goes_there) (flat z ++ q) ≡ false
    → Unbraced (Node AMacro (Pair p (Pair b (Node Delimited z)))) q
unfolding table held passed may_lack
delimited_unbraced p b (First z) q d h g = refl
delimited_unbraced p b (Second (First (Group e x))) q d h g =
    absurd (false≢true (sym g ∙ macro_goes _ q (in_braces_goes e x q d.1.1.0 d.1.1.1 h)))
delimited_unbraced p b (Second (First _)) q d h g = absurd d.1.1
delimited_unbraced p b (Second (Second z)) q d h g = refl
delimited_unbraced p b (Second _) q d h g = absurd d.1
delimited_unbraced p b _ q d h g = absurd d

macro_unbraced : (x : Tree) (q : List Token) → Derives x (table AMacro) q
    → sees macro_statement_stands (flat x ++ q) ≡ false → Unbraced (Node AMacro x) q
unfolding table
macro_unbraced (Pair (Node k x) (Pair (AMark c cs i) (Node j z))) q d e =
    subst (λ l. Unbraced (Node AMacro (Pair (Node k x) (Pair (AMark c cs i) (Node l z)))) q) (sym d.1.1.0)
    (delimited_unbraced (Node k x) (AMark c cs i) z q (subst (λ l. Derives z (table l) q) d.1.1.0 d.1.1.1)
    (sym (call_behind x c cs i (flat z) q _ d.1.0.0 d.1.0.1
    (subst (λ l. Derives x (table l) ((signs c cs i ++ flat z) ++ q)) d.0.0 d.0.1) (a_group Brace then no goes_there))
    ∙ e))
macro_unbraced (Pair (Node k x) (Pair (AMark c cs i) _)) q d e = absurd d.1.1
macro_unbraced (Pair (Node k x) (Pair _ y)) q d e = absurd d.1.0
macro_unbraced (Pair (Node k x) _) q d e = absurd d.1
macro_unbraced (Pair _ y) q d e = absurd d.0
macro_unbraced _ q d e = absurd d

call_unbraced : (m : Tree) (q : List Token) → Derives m (table ExprMacro) q
    → sees macro_statement_stands (flat m ++ q) ≡ false → Unbraced m q
unfolding table
call_unbraced (Node k x) q d e =
    subst (λ l. Unbraced (Node l x) q) (sym d.0) (macro_unbraced x q (subst (λ l. Derives x (table l) q) d.0 d.1) e)
call_unbraced _ q d e = absurd d

-- other forms are no macros, and attributes went to the statement
abbrev Bare : Tree → Type 0
Bare z = is_brace_macro (formed InStatement [] z) ≡ false

unless_bare : (b : Bool) (z : Tree) → is_brace_macro z ≡ false → is_brace_macro (parens_unless b z) ≡ false
unless_bare true z e = e
unless_bare false z e = refl

back_bare : (l : Tree) (k : Kind) (y : Tree) → Bare (Back l k y)
back_bare l k y =
    let own : Tree = normal y in
    unless_bare (stands_in InStatement k && not (takes_what_follows InStatement k []))
    (Back (with_left InStatement k own (formed InStatement (follow (flat own)) l)) k own) refl

index_bare : (m : Tree) (cs : List ℕ) → Bare (index_field m cs)
index_bare m cs =
    back_bare m ExprField (Pair (Pair lone_dot (Called the_indices End)) (Second (Called the_value
    (ALiteral (plain_decimal cs)))))

dotted_bare : (l : Tree) (k : Kind) (y : Tree) (q : List Token) → Derives y (table k) q
    → Bare (dotted (kept l) k (kept y))
dotted_bare l k y q d = go (Shells.is_dot k) refl
  where
    go : (b : Bool) → Shells.is_dot k ≡ b → Bare (dotted (kept l) k (kept y))
    go false e = subst Bare (sym (Shells.undotted (kept l) k (kept y) e)) (back_bare (kept l) k (kept y))
    go true e =
        let w = Shells.dotted_own k y q e d in
        subst (λ z. Bare (dotted (kept l) k z)) (sym w.is)
        (Shells.dotted_has (λ j z. Bare z) (λ z. Unit {0}) w.back (λ m cs u. tt) (λ m cs u. index_bare m cs)
        (λ j m h u. back_bare m j (Shells.behind_dot End w.back)) k (kept l) w.front e tt)

attributes_seen : (y : Tree) (r ts : List Token) → Derives y (table OuterAttribute) r
    → sees (marks "#") (flat y ++ ts) ≡ true
unfolding table
attributes_seen (Pair (AMark c cs i) z) r ts d =
    ap (λ b. sees (marks "#") ((signs b cs i ++ flat z) ++ ts)) d.0.0
    ∙ ap (λ bs. sees (marks "#") ((signs 35 bs i ++ flat z) ++ ts)) d.0.1
attributes_seen (Pair _ z) r ts d = absurd d.0
attributes_seen _ r ts d = absurd d

attributed_seen : (y : Tree) (r ts : List Token) → Derives y (table ExprAttributed) r
    → sees (marks "#") (flat y ++ ts) ≡ true
unfolding table
attributed_seen (Pair (Node k x) z) r ts d =
    ap (sees (marks "#")) (append_assoc (flat x) (flat z) ts)
    ∙ attributes_seen x (flat z ++ r) (flat z ++ ts) (subst (λ j. Derives x (table j) (flat z ++ r)) d.0.0 d.0.1)
attributed_seen (Pair _ z) r ts d = absurd d.0
attributed_seen _ r ts d = absurd d

pub unbraced : (x : Tree) (q : List Token) → Bound InStatement x q → goes_on InStatement 0 x q ≡ false
    → sees macro_statement_stands (flat x ++ q) ≡ false → sees (marks "#") (flat x ++ q) ≡ false
    → is_brace_macro (formed InStatement [] (kept x)) ≡ false
unbraced (Alone ExprMacro m) q d g e h = call_unbraced m q d.1 e g
unbraced (Alone k y) q d g e h =
    unless_bare (not (takes_what_follows InStatement k [])) (Alone k (normal (kept y))) refl
unbraced (Front ExprAttributed y x) q d g e h =
    absurd (false≢true (sym h ∙ ap (sees (marks "#")) (append_assoc (flat y) (flat x) q)
    ∙ attributed_seen y (flat x ++ q) (flat x ++ q) d.1))
unbraced (Front k y x) q d g e h =
    let own : Tree = normal (kept y) in
    unless_bare (begins_in InStatement k)
    (Front k own (with_right InStatement k own (formed (inside InStatement k) [] (kept x)))) refl
unbraced (Back l k y) q d g e h = dotted_bare l k y q d.1
unbraced (Infix l k y r) q d g e h = refl
unbraced _ q d g e h = absurd d
