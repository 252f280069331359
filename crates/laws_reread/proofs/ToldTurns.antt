-- No statement begins with ?, nor with a . that begins no .. : so among statements none of them stands behind another.
use Rattle.std.proofs.Common.{◌≡◌, ℕ, List, [], ◌∷◌, ◌++◌, length, refl, sym, ap, ◌∙◌, subst, append_assoc}
use Rattle.std.specs.Prelude.{Bool, true, false, ◌==◌, cond, Some, None}
use Rattle.std.proofs.lemmas.Bool.{eqb-true}
use Rattle.std.proofs.lemmas.Bool.{false≢true}
use Rattle.proc_macro2.specs.Token.{Token, Punct}
use Rattle.proc_macro2.specs.declared.delimiter.Delimiter.TheVariants.{Bracket}
use Rattle.rust_leaf.specs.declared.punct.Spacing.{Spacing}
use Rattle.rust_leaf.specs.declared.punct.Spacing.TheVariants.{Alone as Apart, Joint}
use Rattle.syn_grammar.specs.Kind.{Position, AStatement, Expression, InStatement, OuterAttributes}
use Rattle.syn_grammar.specs.Tree.{Tree, AMark, Again, Alone, Back, Called, End, First, Front, Infix, Node, Pair}
use Rattle.syn_grammar.specs.Tree.{Second, Whole, marks as signs, flat}
use Rattle.syn_grammar.specs.Gram.{ref, star}
use Rattle.syn_grammar.specs.Look.{Look, ◌then◌, a_group, a_path, all_attributes, as_far, behind, first_seen, lacks}
use Rattle.syn_grammar.specs.Look.{a_name, past_marks, repeatedly, seen, sees, the_end}
use Rattle.syn_grammar.specs.Say.{at, marks}
use Rattle.syn_grammar.specs.Statements.{item_stands, macro_item_stands, macro_statement_stands}
use Rattle.syn_grammar.specs.Table.{table}
use Rattle.syn_grammar.specs.Derives.{Derives, Bound}
use Rattle.syn_grammar.specs.Kept.{kept}
use Rattle.syn_grammar.specs.Normal.{normal}
use Rattle.laws_binding.proofs.Begun.{Begun, a_word, a_literal, an_opening, a_lifetime, a_bang, a_hash, an_and, a_star}
use Rattle.laws_binding.proofs.Begun.{a_minus, a_less, a_bar, dots, colons, begun}
use Rattle.laws_reread_kinds.proofs.Choices.{none_of}
use Rattle.laws_reread_kinds.proofs.Statements.{a_turn}
use Rattle.laws_reread.proofs.ToldBraces.{goes_there, past_no}

abbrev Free : List Token → Type 0
Free ts = sees goes_there ts ≡ false

-- another mark
mark_free : (c : ℕ) (i : Spacing) (ts : List Token) → (c == 63) ≡ false → (c == 46) ≡ false → Free (Punct c i ∷ ts)
mark_free c i ts e f =
    none_of ((marks "?") (Punct c i ∷ ts)) _ (ap (λ b. seen (cond b (Some ts) None)) e)
    (past_no (marks "..") (marks ".") (Punct c i ∷ ts) (ap (λ b. seen (cond b (Some ts) None)) f))

one_free : (b c : ℕ) (i : Spacing) (ts : List Token) → (c == b) ≡ true → (b == 63) ≡ false → (b == 46) ≡ false
    → Free (Punct c i ∷ ts)
one_free b c i ts e f g =
    subst (λ d. Free (Punct d i ∷ ts)) (sym (eqb-true c b e)) (mark_free b i ts f g)

-- an operand
begun_free : (ts us : List Token) → Begun ts us → Free ts
begun_free _ _ (a_word cs e) = refl
begun_free _ _ (a_literal cs) = refl
begun_free _ _ (an_opening d) = refl
begun_free _ _ (a_lifetime cs) = refl
begun_free _ _ (a_bang {r} i) = mark_free 33 i r refl refl
begun_free _ _ (a_hash {r} i) = mark_free 35 i r refl refl
begun_free _ _ (an_and {r} i) = mark_free 38 i r refl refl
begun_free _ _ (a_star {r} i) = mark_free 42 i r refl refl
begun_free _ _ (a_minus {r} i) = mark_free 45 i r refl refl
begun_free _ _ (a_less {r} i) = mark_free 60 i r refl refl
begun_free _ _ (a_bar {r} i) = mark_free 124 i r refl refl
begun_free _ _ (dots i j) = refl
begun_free _ _ (colons i j) = refl

form_free : (x : Tree) (p : Position) (q : List Token) → Bound p x q → Free (flat x ++ q)
form_free (Alone k y) p q d =
    begun_free (flat y ++ q) (flat (normal (kept y))) (begun p k y q (flat y ++ q) d.0 d.1)
form_free (Front k y x) p q d =
    ap (sees goes_there) (append_assoc (flat y) (flat x) q)
    ∙ begun_free (flat y ++ (flat x ++ q)) (flat (normal (kept y))) (begun p k y (flat x ++ q) _ d.0 d.1)
form_free (Back l k y) p q d =
    ap (sees goes_there) (append_assoc (flat l) (flat y) q) ∙ form_free l p (flat y ++ q) d.4
form_free (Infix l k y r) p q d =
    ap (sees goes_there) (append_assoc (flat l) (flat y ++ flat r) q
    ∙ ap (λ ts. flat l ++ ts) (append_assoc (flat y) (flat r) q))
    ∙ form_free l p (flat y ++ (flat r ++ q)) d.4
form_free _ p q d = absurd d

expression_free : (x : Tree) (q : List Token) → Derives x (table (Expression InStatement)) q → Free (flat x ++ q)
unfolding table
expression_free (Whole x) q d = form_free x InStatement q d.1
expression_free _ q d = absurd d

whole_free : (e : Tree) (q : List Token) → Derives e (ref (Expression InStatement)) q → Free (flat e ++ q)
whole_free (Node k x) q d = expression_free x q (subst (λ j. Derives x (table j) q) d.0 d.1)
whole_free _ q d = absurd d

-- what a test sees behind attributes
attributed_free : (l : Look) → ((ts : List Token) → sees l ts ≡ true → Free ts) → (ts : List Token)
    → sees (all_attributes then l) ts ≡ true → Free ts
attributed_free l f (Punct c i ∷ ts) e = go (c == 35) refl
  where
    go : (b : Bool) → (c == 35) ≡ b → Free (Punct c i ∷ ts)
    go true h = one_free 35 c i ts h refl refl
    go false h =
        f (Punct c i ∷ ts)
        (sym (ap (λ b. seen (behind (first_seen (behind (behind (cond b (Some ts) None) (a_group Bracket))
        (as_far (length ts) (marks "#" then a_group Bracket))) (Some (Punct c i ∷ ts))) l)) h) ∙ e)
attributed_free l f _ e = refl

path_free : (l : Look) (ts : List Token) → sees (a_path then l) ts ≡ true → Free ts
path_free l (Punct c i ∷ ts) e = go (c == 58) refl i e
  where
    go : (b : Bool) → (c == 58) ≡ b → (j : Spacing) → sees (a_path then l) (Punct c j ∷ ts) ≡ true
        → Free (Punct c j ∷ ts)
    go true h j e = one_free 58 c j ts h refl refl
    go false h Apart e = absurd (false≢true e)
    go false h Joint e =
        absurd (false≢true (sym (ap (λ b. seen (behind (behind (first_seen (cond b ((past_marks 58 []) ts) None)
        (Some (Punct c Joint ∷ ts))) (a_name then repeatedly (marks "::" then a_name))) l)) h) ∙ e))
path_free l _ e = refl

let_free : (ts : List Token) → sees (at "let") ts ≡ true → Free ts
let_free (Punct c i ∷ ts) e = absurd (false≢true e)
let_free _ e = refl

item_free : (ts : List Token) → sees item_stands ts ≡ true → Free ts
item_free (Punct c i ∷ ts) e = absurd (false≢true e)
item_free _ e = refl

-- attributes in front
hash_free : (ts : List Token) → sees (marks "#") ts ≡ true → Free ts
hash_free (Punct c i ∷ ts) e = go (c == 35) refl e
  where
    go : (b : Bool) → (c == 35) ≡ b → seen (cond b (Some ts) None) ≡ true → Free (Punct c i ∷ ts)
    go true h e = one_free 35 c i ts h refl refl
    go false h e = absurd (false≢true e)
hash_free _ e = refl

front_in : (z y : Tree) (r : List Token) → Derives z (table OuterAttributes) (flat y ++ r) → Free (flat y ++ r)
    → Free ((flat z ++ flat y) ++ r)
unfolding table
front_in End y r d f = f
front_in (Again x w) y r d f =
    hash_free (((flat x ++ flat w) ++ flat y) ++ r)
    (ap (sees (marks "#")) (append_assoc (flat x ++ flat w) (flat y) r) ∙ d.0)
front_in _ y r d f = absurd d

front_free : (a y : Tree) (r : List Token) → Derives a (ref OuterAttributes) (flat y ++ r) → Free (flat y ++ r)
    → Free ((flat a ++ flat y) ++ r)
front_free (Node k z) y r d f = front_in z y r (subst (λ j. Derives z (table j) (flat y ++ r)) d.0 d.1) f
front_free _ y r d f = absurd d

-- a statement
statement_free : (s : Tree) (r : List Token) → Derives s (table AStatement) r → Free (flat s ++ r)
unfolding table
statement_free (First x) r d = attributed_free macro_item_stands (path_free _) (flat x ++ r) d.0
statement_free (Second (First x)) r d = attributed_free macro_statement_stands (path_free _) (flat x ++ r) d.1.0
statement_free (Second (Second (First x))) r d = attributed_free (at "let") let_free (flat x ++ r) d.1.1.0
statement_free (Second (Second (Second (First x)))) r d =
    attributed_free item_stands item_free (flat x ++ r) d.1.1.1.0
statement_free (Second (Second (Second (Second (Pair (Called n a) (Pair (Called m e) t)))))) r d =
    let f = d.1.1.1.1 in
    front_free a (Pair e t) r f.0.1
    (ap (sees goes_there) (append_assoc (flat e) (flat t) r) ∙ whole_free e (flat t ++ r) f.1.0.1)
statement_free (Second (Second (Second (Second (Pair (Called n a) (Pair _ t)))))) r d = absurd d.1.1.1.1.1.0
statement_free (Second (Second (Second (Second (Pair (Called n a) _))))) r d = absurd d.1.1.1.1.1
statement_free (Second (Second (Second (Second (Pair _ y))))) r d = absurd d.1.1.1.1.0
statement_free (Second (Second (Second (Second _)))) r d = absurd d.1.1.1.1
statement_free (Second (Second (Second _))) r d = absurd d.1.1.1
statement_free (Second (Second _)) r d = absurd d.1.1
statement_free (Second _) r d = absurd d.1
statement_free _ r d = absurd d

-- and those behind one
turn_free : (x : Tree) (r : List Token) → Derives x a_turn r → Free (flat x ++ r)
turn_free (First (AMark c cs i)) r d =
    ap (λ b. sees goes_there (signs b cs i ++ r)) d.1.0 ∙ ap (λ bs. sees goes_there (signs 59 bs i ++ r)) d.1.1
    ∙ mark_free 59 i r refl refl
turn_free (First _) r d = absurd d.1
turn_free (Second (Node k s)) r d = statement_free s r (subst (λ j. Derives s (table j) r) d.1.0 d.1.1)
turn_free (Second _) r d = absurd d.1
turn_free _ r d = absurd d

pub turns_free : (z : Tree) (r : List Token) → Derives z (star (lacks the_end) a_turn) r → Free (flat z ++ r)
turns_free End [] d = refl
turns_free End (t ∷ r) d = cc d
turns_free (Again x y) r d =
    ap (sees goes_there) (append_assoc (flat x) (flat y) r) ∙ turn_free x (flat y ++ r) d.1
turns_free _ r d = absurd d
