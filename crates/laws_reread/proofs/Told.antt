-- What is asked of a tree that was read is all that the steps go by: the tests of its entries saw the rest.
use Rattle.std.proofs.Common.{◌≡◌, List, [], ◌∷◌, ◌++◌, refl, sym, ap, ◌∙◌, subst, append_assoc}
use Rattle.std.proofs.Common.{inl, inr}
use Rattle.std.specs.Prelude.{Bool, true, false, ◌⊎◌, ◌&&◌, ◌||◌, not, Some}
use Rattle.std.proofs.lemmas.Bool.{false≢true}
use Rattle.proc_macro2.specs.Token.{Token, Opens}
use Rattle.proc_macro2.specs.declared.delimiter.Delimiter.{Delimiter}
use Rattle.proc_macro2.specs.declared.delimiter.Delimiter.TheVariants.{Brace, Bracket, Parenthesis}
use Rattle.syn_grammar.specs.Kind.{Kind, Position, AConst, AFile, AMacro, AnImpl, AStatement, Delimited, ExprClosure}
use Rattle.syn_grammar.specs.Kind.{Expression, ExprMacro, ExprTypedClosure, OnePattern, OneStatement}
use Rattle.syn_grammar.specs.Tree.{Tree, AWord, ALiteral, AMark, ALifetime, Raw, Nil, Pair, First, Second, End, Again}
use Rattle.syn_grammar.specs.Tree.{Final, More, Group, Dropped, Called, Verbatim, Node, Whole, Alone, Front, Back}
use Rattle.syn_grammar.specs.Tree.{Infix, marks as signs, flat}
use Rattle.syn_grammar.specs.Gram.{Gram, seq, alt, star, many, group, judged, dropped, called, ref, operand}
use Rattle.syn_grammar.specs.Look.{Look, ◌then◌, ◌or◌, a_group, no, sees}
use Rattle.syn_grammar.specs.Say.{marks}
use Rattle.syn_grammar.specs.Table.{table}
use Rattle.syn_grammar.specs.Derives.{Derives, Bound}
use Rattle.syn_grammar.specs.Forms.{front, inside, is_brace_macro}
use Rattle.syn_grammar.specs.Kept.{kept}
use Rattle.syn_grammar.specs.Normal.{normal}
use Rattle.syn_grammar.specs.Statements.{macro_statement_stands}
use Rattle.laws_reread_kinds.specs.Covered.{all_covered, has_form_step, has_step, is_form, is_known}
use Rattle.laws_reread_kinds.specs.Covered.{is_plain_part, is_statement_form, is_taken, stands_alone}
use Rattle.laws_reread_kinds.proofs.Choices.{both_same, both_true}
use Rattle.laws_reread_kinds.proofs.Passed.{behind_attributes}
use Rattle.laws_reread_kinds.proofs.Printed.{form_known}
use Rattle.laws_reread_kinds.proofs.ReadBack.{is_whole}
use Rattle.laws_reread.specs.Asked.{ends_alone, ends_in_pattern, is_asked_alone, is_asked_statement, is_covered}
use Rattle.laws_reread.specs.Asked.{is_no_lone, no_lone}
use Rattle.laws_reread.proofs.Judged.{are_settled, is_one_statement, settled_inside, statement_settled}
use Rattle.laws_reread.proofs.ToldExpressions.{plain_told}
use Rattle.laws_reread.proofs.ToldItems.{named_told, raw_told}
use Rattle.laws_reread.proofs.ToldKinds.{all_known, back_form, front_form, refs_known}
use Rattle.laws_reread.proofs.ToldPaths.{call_behind}
use Rattle.laws_reread.proofs.ToldClosures.{closure_told, typed_closure_told}
use Rattle.laws_reread.proofs.ToldPatterns.{whole_patterns}

-- braces
abbrev dotless : Look
dotless = no (marks "?" or (no (marks "..") then marks "."))

no_brace : (d : Delimiter) (ts : List Token) → sees (a_group Brace then dotless) (Opens d ∷ ts) ≡ true
    → (d ≡ Parenthesis) ⊎ (d ≡ Bracket) → ⊥
no_brace d ts e (inl h) = false≢true (subst (λ i. sees (a_group Brace then dotless) (Opens i ∷ ts) ≡ true) h e)
no_brace d ts e (inr h) = false≢true (subst (λ i. sees (a_group Brace then dotless) (Opens i ∷ ts) ≡ true) h e)

braces_told : (p s g : Tree) (q : List Token) → Derives g (table Delimited) q
    → sees (a_group Brace then dotless) (flat g ++ q) ≡ true
    → is_brace_macro (Alone ExprMacro (Node AMacro (Pair p (Pair s (Node Delimited g))))) ≡ true
unfolding table
braces_told p s (First (Group d x)) q g e = absurd (no_brace d _ e (inl g.1.0))
braces_told p s (First _) q g e = absurd g.1
braces_told p s (Second (First x)) q g e = refl
braces_told p s (Second (Second (Group d x))) q g e = absurd (no_brace d _ e (inr g.1.1.0))
braces_told p s (Second (Second _)) q g e = absurd g.1.1
braces_told p s (Second _) q g e = absurd g.1
braces_told p s _ q g e = absurd g

macro_in : (x : Tree) (q : List Token) → Derives x (table AMacro) q
    → sees macro_statement_stands (flat x ++ q) ≡ true → is_brace_macro (Alone ExprMacro (Node AMacro x)) ≡ true
unfolding table
macro_in (Pair (Node k x) (Pair (AMark c cs i) (Node j g))) q d e =
    subst (λ l. is_brace_macro (Alone ExprMacro (Node AMacro (Pair (Node k x) (Pair (AMark c cs i) (Node l g)))))
    ≡ true) (sym d.1.1.0)
    (braces_told (Node k x) (AMark c cs i) g q (subst (λ l. Derives g (table l) q) d.1.1.0 d.1.1.1)
    (sym (call_behind x c cs i (flat g) q _ d.1.0.0 d.1.0.1
    (subst (λ l. Derives x (table l) ((signs c cs i ++ flat g) ++ q)) d.0.0 d.0.1) (a_group Brace then dotless)) ∙ e))
macro_in (Pair (Node k x) (Pair (AMark c cs i) _)) q d e = absurd d.1.1
macro_in (Pair (Node k x) (Pair _ y)) q d e = absurd d.1.0
macro_in (Pair (Node k x) _) q d e = absurd d.1
macro_in (Pair _ y) q d e = absurd d.0
macro_in _ q d e = absurd d

macro_told : (m : Tree) (q : List Token) → Derives m (ref AMacro) q → sees macro_statement_stands (flat m ++ q) ≡ true
    → is_brace_macro (Alone ExprMacro m) ≡ true
macro_told (Node k x) q d e =
    subst (λ l. is_brace_macro (Alone ExprMacro (Node l x)) ≡ true) (sym d.0)
    (macro_in x q (subst (λ l. Derives x (table l) q) d.0 d.1) e)
macro_told _ q d e = absurd d

form_told : (x : Tree) (r : List Token) → Derives x (table AStatement) r → is_asked_statement x ≡ true
    → is_statement_form x ≡ true
unfolding table
form_told (Second (First (Pair a (Pair m s)))) r d c =
    macro_told m (flat s ++ r) d.1.1.1.0
    (sym (ap (sees macro_statement_stands) (append_assoc (flat m) (flat s) r))
    ∙ sym (behind_attributes a (Pair m s) macro_statement_stands r _ d.1.1.0 refl) ∙ d.1.0)
form_told (Second (First (Pair a _))) r d c = absurd d.1.1.1
form_told (Second (First _)) r d c = absurd d.1.1
form_told (Second (Second (First x))) r d c = refl
form_told (Second (Second (Second (First (Node k (First x)))))) r d c = c
form_told (Second (Second (Second (First (Node k (Verbatim x)))))) r d c =
    raw_told k x r d.1.1.1.1 d.1.1.1.0
form_told (Second (Second (Second (First (Node k x))))) r d c =
    absurd (subst (λ j. Derives x (table j) r) d.1.1.1.1.0 d.1.1.1.1.1)
form_told (Second (Second (Second (First _)))) r d c = absurd d.1.1.1.1
form_told (Second (Second (Second (Second (Pair (Called n a) (Pair (Called m e) s)))))) r d c =
    let f = d.1.1.1.1 in plain_told a e s r f.0.1 f.1.0.1 d.1.0 d.1.1.1.0
form_told (Second (Second (Second (Second (Pair (Called n a) (Pair _ s)))))) r d c = absurd d.1.1.1.1.1.0
form_told (Second (Second (Second (Second (Pair (Called n a) _))))) r d c = absurd d.1.1.1.1.1
form_told (Second (Second (Second (Second (Pair _ y))))) r d c = absurd d.1.1.1.1.0
form_told (Second (Second (Second (Second _)))) r d c = absurd d.1.1.1.1
form_told (Second (Second (Second _))) r d c = absurd d.1.1.1
form_told (Second (Second _)) r d c = absurd d.1.1
form_told (Second _) r d c = absurd d.1
form_told (First x) r d c = named_told x r d.1 d.0
form_told _ r d c = absurd d

-- of a kind's tree, and of a form's own part
node_told : (k : Kind) (x : Tree) (r : List Token) → Derives x (table k) r → are_settled (Node k x) ≡ true
    → is_no_lone k x ≡ true → is_taken k x ≡ true
node_told AConst x r d s n = s
node_told AnImpl x r d s n = s
node_told OnePattern x r d s n = n
node_told AStatement x r d s n = form_told x r d s
node_told _ x r d s n = refl

part_told : (k : Kind) (p : Position) (y : Tree) (r : List Token) → front p (flat y ++ r) ≡ Some k
    → Derives y (table k) r → is_plain_part k (normal (kept y)) ≡ true
part_told ExprClosure p y r e d = closure_told p y r e d
part_told ExprTypedClosure p y r e d = typed_closure_told p y r e d
part_told _ p y r e d = refl

-- one statement by itself has no step
known_none : (k : Kind) → is_known k ≡ true → is_one_statement k ≡ false
unfolding has_step has_form_step
known_none OneStatement e = absurd (false≢true e)
known_none _ e = refl

-- of all that a tree holds
and_both : (a b : Bool) → a ≡ true → b ≡ true → (a && b) ≡ true
and_both a b e f = both_same a b true true e f

mutual
  told : (x : Tree) (g : Gram) (r : List Token) → Derives x g r → refs_known g ≡ true → are_settled x ≡ true
      → no_lone x ≡ true → all_covered x ≡ true
  told (Pair x y) (seq a b) r d k s n =
      let i = both_true (refs_known a) (refs_known b) k in
      let t = both_true (are_settled x) (are_settled y) s in
      let m = both_true (no_lone x) (no_lone y) n in
      and_both (all_covered x) (all_covered y) (told x a _ d.0 i.0 t.0 m.0) (told y b r d.1 i.1 t.1 m.1)
  told (First x) (alt t a b) r d k s n = told x a r d.1 (both_true (refs_known a) (refs_known b) k).0 s n
  told (Second x) (alt t a b) r d k s n = told x b r d.1 (both_true (refs_known a) (refs_known b) k).1 s n
  told (Again x y) (star t g) r d k s n =
      let u = both_true (are_settled x) (are_settled y) s in
      let m = both_true (no_lone x) (no_lone y) n in
      and_both (all_covered x) (all_covered y) (told x g _ d.1 k u.0 m.0) (told y (star t g) r d.2 k u.1 m.1)
  told (Final x) (many e z g) r d k s n = told x g r d.1 k s n
  told (More x o i y) (many e z g) r d k s n =
      let t = both_true (are_settled x) (are_settled y) s in
      let m = both_true (no_lone x) (no_lone y) n in
      and_both (all_covered x) (all_covered y) (told x g _ d.2 k t.0 m.0) (told y (many e z g) r d.3 k t.1 m.1)
  told (Group e x) (group f g) r d k s n = told x g [] d.1 k s n
  told (First x) (judged v g) r d k s n = told x g r d.1 k s n
  told (Verbatim x) (judged v g) r d k s n = refl
  told (Dropped x) (dropped g) r d k s n = told x g r d k s n
  told (Called l x) (called m g) r d k s n = told x g r d.1 k s n
  told (Node j x) (ref l) r d k s n =
      let m = both_true (is_no_lone j x) (no_lone x) n in
      let i : is_known j ≡ true = ap is_known d.0 ∙ k in
      and_both (is_known j) (is_taken j x && all_covered x) i
      (and_both (is_taken j x) (all_covered x) (node_told j x r d.1 s m.0)
      (told x (table j) r d.1 (all_known j) (settled_inside j x r d.1 (known_none j i)) m.1))
  told (Whole x) (operand p l) r d k s n = form_parts x p r d.1 n
  told (AWord cs) g r d k s n = refl
  told (ALiteral cs) g r d k s n = refl
  told (AMark e cs i) g r d k s n = refl
  told (ALifetime cs) g r d k s n = refl
  told (Raw ts) g r d k s n = refl
  told Nil g r d k s n = refl
  told End g r d k s n = refl
  told _ g r d k s n = absurd d

  form_parts : (x : Tree) (p : Position) (r : List Token) → Bound p x r → no_lone x ≡ true → all_covered x ≡ true
  form_parts (Alone k y) p r d n =
      let f = front_form p k _ d.0 in
      and_both (is_form k) _ f
      (and_both (is_plain_part k (normal (kept y))) (all_covered y) (part_told k p y r d.0 d.1)
      (told y (table k) r d.1 (all_known k) (settled_inside k y r d.1 (known_none k (form_known k f))) n))
  form_parts (Front k y x) p r d n =
      let m = both_true (no_lone y) (no_lone x) n in
      let f = front_form p k _ d.0 in
      and_both (is_form k) _ f
      (and_both (is_plain_part k (normal (kept y))) _ (part_told k p y (flat x ++ r) d.0 d.1)
      (and_both (all_covered y) (all_covered x)
      (told y (table k) (flat x ++ r) d.1 (all_known k) (settled_inside k y _ d.1 (known_none k (form_known k f))) m.0)
      (form_parts x (inside p k) r d.4 m.1)))
  form_parts (Back l k y) p r d n =
      let m = both_true (no_lone l) (no_lone y) n in
      let f = back_form p k _ d.0 in
      and_both (is_form k) _ f
      (and_both (all_covered l) (all_covered y) (form_parts l p _ d.4 m.0)
      (told y (table k) r d.1 (all_known k) (settled_inside k y r d.1 (known_none k (form_known k f))) m.1))
  form_parts (Infix l k y x) p r d n =
      let m = both_true (no_lone y) (no_lone l && no_lone x) n in
      let o = both_true (no_lone l) (no_lone x) m.1 in
      let f = back_form p k _ d.0 in
      and_both (is_form k) _ f
      (and_both (all_covered y) _
      (told y (table k) (flat x ++ r) d.1 (all_known k) (settled_inside k y _ d.1 (known_none k (form_known k f))) m.0)
      (and_both (all_covered l) (all_covered x) (form_parts l p _ d.4 o.0) (form_parts x (inside p k) r d.6 o.1)))
  form_parts _ p r d n = absurd d

-- of an expression in a position
pub expression_covered : (p : Position) (x : Tree) (r : List Token)
    → Derives (Node (Expression p) (Whole x)) (ref (Expression p)) r → all_covered x ≡ true
unfolding table
expression_covered p x r d =
    form_parts x p r d.1.1 (whole_patterns (Expression p) (Node (Expression p) (Whole x)) r refl d)

-- A kind that ends in a pattern is asked to hold no path of one identifier alone; of the others that is told.
lone_told : (k : Kind) (x : Tree) (r : List Token) → Derives x (ref k) r → ends_alone x ≡ true → no_lone x ≡ true
lone_told k (Node j x) r d c = by_end (ends_in_pattern k) refl
  where
    by_end : (b : Bool) → ends_in_pattern k ≡ b → no_lone (Node j x) ≡ true
    by_end false e = whole_patterns k (Node j x) r e d
    by_end true e = ap (λ b. not b || no_lone (Node j x)) (sym (ap ends_in_pattern d.0 ∙ e)) ∙ c
lone_told k _ r d c = absurd d

pub whole_told : (k : Kind) (x : Tree) (r : List Token) → is_known k ≡ true → Derives x (ref k) r
    → is_covered x ≡ true → is_whole x ≡ true
whole_told k (Node l x) r h d c =
    let y : Tree = Node l x in
    let a = both_true (stands_alone y) _ c in
    let e = both_true (is_asked_alone y) (ends_alone y) a.1 in
    and_both (stands_alone y) (all_covered y) a.0 (told y (ref k) r d h e.0 (lone_told k y r d e.1))
whole_told k _ r h d c = absurd d

-- what stands in a tree, of a kind that has no step too
one_statement : (k : Kind) → is_one_statement k ≡ true → k ≡ OneStatement
one_statement OneStatement e = refl
one_statement _ e = absurd (false≢true e)

inside_settled : (k : Kind) (x : Tree) (r : List Token) → Derives x (table k) r → is_asked_alone (Node k x) ≡ true
    → are_settled x ≡ true
inside_settled k x r d c = go (is_one_statement k) refl
  where
    go : (b : Bool) → is_one_statement k ≡ b → are_settled x ≡ true
    go false e = settled_inside k x r d e
    go true e =
        let i = one_statement k e in
        statement_settled x r (subst (λ j. Derives x (table j) r) i d)
        (subst (λ j. is_asked_alone (Node j x) ≡ true) i c)

pub inside_told : (k : Kind) (x : Tree) (r : List Token) → Derives (Node k x) (ref k) r
    → is_covered (Node k x) ≡ true → all_covered x ≡ true
inside_told k x r d c =
    let y : Tree = Node k x in
    let e = both_true (is_asked_alone y) (ends_alone y) (both_true (stands_alone y) _ c).1 in
    told x (table k) r d.1 (all_known k) (inside_settled k x r d.1 e.0)
    (both_true (is_no_lone k x) (no_lone x) (lone_told k y r d e.1)).1

-- Of a file nothing is asked.
file_in : (x : Tree) → is_covered (Node AFile x) ≡ true
file_in x = refl

pub file_covered : (x : Tree) (r : List Token) → Derives x (ref AFile) r → is_covered x ≡ true
file_covered (Node k x) r d = subst (λ j. is_covered (Node j x) ≡ true) (sym d.0) (file_in x)
file_covered _ r d = absurd d
