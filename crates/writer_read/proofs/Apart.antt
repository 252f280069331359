-- Among statements that were read, a raw item's last mark is set apart before a parenthesis that was added.
use Rattle.std.proofs.Common.{◌≡◌, ℕ, List, [], ◌++◌, refl, sym, ap, ◌∙◌, append_assoc}
use Rattle.std.specs.Prelude.{Bool, true, false, not, ◌&&◌, cond}
use Rattle.proc_macro2.specs.Token.{Token}
use Rattle.syn_grammar.specs.Kind.{Kind, Position, Plain, Expression, AStatement, AnItem}
use Rattle.syn_grammar.specs.Name.{the_attributes, the_expression}
use Rattle.syn_grammar.specs.Tree.{Tree, ALiteral, Raw, Pair, First, Second, End, Again, Called, Verbatim, Node}
use Rattle.syn_grammar.specs.Tree.{Whole, Back, flat}
use Rattle.syn_grammar.specs.Gram.{Gram, literal, mark, seq, alt, star, ref}
use Rattle.syn_grammar.specs.Look.{sees}
use Rattle.syn_grammar.specs.Say.{parenthesis}
use Rattle.syn_grammar.specs.Table.{table}
use Rattle.syn_grammar.specs.Derives.{Derives}
use Rattle.syn_grammar.specs.Kept.{as_statement, given, held, is_macro, is_there, kept, left_in_front, own_part}
use Rattle.syn_grammar.specs.Normal.{apart_item, apart_if, is_enclosed, normal_in, passed}
use Rattle.laws_items.proofs.Statements.{node_case, turn_starts}
use Rattle.laws_ranges.specs.Opens.{opens_turns}
use Rattle.laws_ranges.proofs.OfStatements.{paren_same, turns_enclose}
use Rattle.writer_rules.specs.Turns.{apart_where, is_raw, is_raw_choice, is_raw_turn, is_opened, is_set_apart}
use Rattle.writer_read.specs.Formed.{HasGiven, IsFormed, IsFormedStatement}
use Rattle.writer_read.proofs.Fits.{is_turn}

-- a statement, by what stands first
seq_two : (F : Tree → Type 0) (x : Tree) (g h : Gram) (r : List Token) → Derives x (seq g h) r
    → ((y z : Tree) → F (Pair y z)) → F x
seq_two F (Pair y z) g h r d a = a y z
seq_two F _ g h r d a = absurd d

pub alt_two : (F : Tree → Type 0) (x : Tree) (t : List Token → Bool) (g h : Gram) (r : List Token)
    → Derives x (alt t g h) r → ((y : Tree) → Derives y g r → F (First y)) → ((y : Tree) → Derives y h r → F (Second y))
    → F x
alt_two F (First x) t g h r d a b = a x d.1
alt_two F (Second x) t g h r d a b = b x d.1
alt_two F _ t g h r d a b = absurd d

-- what follows begins as it does with all that stands behind it
and_same : (b c d : Bool) → (b ≡ true → c ≡ d) → (b && not c) ≡ (b && not d)
and_same true c d e = ap not (e refl)
and_same false c d e = refl

abbrev SameOpened : Tree → List Token → Type 0
SameOpened y r = (opens_turns y && not (sees parenthesis (flat y ++ r))) ≡ is_opened y

opened_statement : (x y : Tree) (r : List Token) → Derives (Node AStatement x) (ref AStatement) (flat y ++ r)
    → SameOpened (Again (Second (Node AStatement x)) y) r
opened_statement x y r d =
    ap (λ b. opens_turns (Again (Second (Node AStatement x)) y) && not b)
    (ap (sees parenthesis) (append_assoc (flat x) (flat y) r)
    ∙ paren_same _ _ ((turn_starts (Node AStatement x) (flat y ++ r) (flat y ++ r) d).0 [])
    ∙ sym (paren_same _ _ ((turn_starts (Node AStatement x) (flat y ++ r) (flat y) d).0 [])))

opened_same : (y : Tree) (t u : List Token → Bool) (c : ℕ) (cs : List ℕ) (r : List Token)
    → Derives y (star t (alt u (mark c cs) (ref AStatement))) r → SameOpened y r
opened_same End t u c cs r d = refl
opened_same (Again x y) t u c cs r d =
    alt_two (λ z. SameOpened (Again z y) r) x u (mark c cs) (ref AStatement) (flat y ++ r) d.1 (λ z e. refl)
    (λ z e. node_case (λ w. SameOpened (Again (Second w) y) r) z AStatement (flat y ++ r) e
    (λ w f. opened_statement w y r (refl, f)))
opened_same _ t u c cs r d = absurd d

-- a raw item
and_no : (b : Bool) → (b && false) ≡ false
and_no true = refl
and_no false = refl

and_yes : (b : Bool) → (b && true) ≡ b
and_yes true = refl
and_yes false = refl

abbrev SetApart : (Tree → Tree) → Tree → Type 0
SetApart wrap x = flat (apart_item (wrap (normal_in Plain (kept x))))
    ≡ apart_where (is_raw x) (flat (wrap (normal_in Plain (kept x))))

first_item : (x : Tree) → IsFormed Plain x
    → SetApart (λ y. Second (Node AStatement (First (Node AnItem y)))) x
first_item (Raw ts) h = refl
first_item (Verbatim x) h = refl
first_item (Back l k y) h = absurd h
first_item _ h = refl

third_item : (x : Tree) → IsFormed Plain x
    → SetApart (λ y. Second (Node AStatement (Second (Second (Second (First (Node AnItem y))))))) x
third_item (Raw ts) h = refl
third_item (Verbatim x) h = refl
third_item (Back l k y) h = absurd h
third_item _ h = refl

-- no other statement is one
macro_or_not : (b : Bool) (w x y z : Tree)
    → flat (apart_item (Second (Node AStatement (normal_in Plain
    (cond b (Second (First (Pair w x))) (Second (Second (Second (Second (Pair y z))))))))))
    ≡ flat (normal_in Plain (cond b (Second (First (Pair w x))) (Second (Second (Second (Second (Pair y z)))))))
macro_or_not true w x y z = refl
macro_or_not false w x y z = refl

expression_apart : (x : Tree) → HasGiven x
    → flat (apart_item (Second (Node AStatement (normal_in Plain
    (as_statement (Second (Second (Second (Second (kept x))))))))))
    ≡ flat (normal_in Plain (as_statement (Second (Second (Second (Second (kept x)))))))
unfolding held
expression_apart
    (Pair (Called the_attributes a) (Pair (Called the_expression (Node (Expression q) (Whole z))) s)) h =
    macro_or_not (is_macro (kept z) && is_there (kept s)) (kept a) (Pair (own_part (kept z)) (kept s))
    (Called the_attributes (left_in_front (kept a)))
    (Pair (Called the_expression (given (kept a) (Node (Expression Plain) (Whole (kept z))))) (kept s))
expression_apart _ h = absurd h

abbrev Apart : (Tree → Tree) → Tree → Type 0
Apart wrap x = IsFormed Plain x → IsFormedStatement (wrap x)
    → flat (apart_item (Second (Node AStatement (normal_in Plain (as_statement (kept (wrap x)))))))
    ≡ apart_where (is_raw_choice (wrap x)) (flat (normal_in Plain (as_statement (kept (wrap x)))))

statement_apart : (x : Tree) (r : List Token) → Derives x (table AStatement) r → Apart (λ y. y) x
unfolding table held passed
statement_apart x r d =
    alt_two (Apart (λ y. y)) x _ _ _ r d
    (λ y c. node_case (λ u. Apart First u) y AnItem r c (λ i e h n. first_item i h))
    (λ x1 d1. alt_two (Apart (λ y. Second y)) x1 _ _ _ r d1
    (λ y c. seq_two (Apart (λ u. Second (First u))) y _ _ r c (λ u v h n. refl))
    (λ x2 d2. alt_two (Apart (λ y. Second (Second y))) x2 _ _ _ r d2
    (λ y c. seq_two (Apart (λ u. Second (Second (First u)))) y _ _ r c (λ u v h n. refl))
    (λ x3 d3. alt_two (Apart (λ y. Second (Second (Second y)))) x3 _ _ _ r d3
    (λ y c. node_case (λ u. Apart (λ v. Second (Second (Second (First v)))) u) y AnItem r c
    (λ i e h n. third_item i h))
    (λ x4 d4 h n. expression_apart x4 n))))

-- so of a turn
abbrev TurnApart : Position → Bool → Tree → Type 0
TurnApart p b x = flat (apart_if b (normal_in p (kept x)))
    ≡ apart_where (is_raw_turn x && b) (flat (normal_in p (kept x)))

apart_kept : (b : Bool) (z : Tree) → flat (apart_item z) ≡ flat z → flat (apart_if b z) ≡ flat z
apart_kept true z e = e
apart_kept false z e = refl

raw_or_not : (b : Bool) (c : Bool) (z : Tree) → flat (apart_item z) ≡ apart_where c (flat z)
    → flat (apart_if b z) ≡ apart_where (c && b) (flat z)
raw_or_not true c z e = e ∙ ap (λ d. apart_where d (flat z)) (sym (and_yes c))
raw_or_not false c z e = ap (λ d. apart_where d (flat z)) (sym (and_no c))

statement_turn : (p : Position) (b : Bool) (x : Tree) (r : List Token) → Derives x (ref AStatement) r
    → IsFormed p x → TurnApart p b (Second x)
unfolding held passed
statement_turn p b x r d =
    node_case (λ y. IsFormed p y → TurnApart p b (Second y)) x AStatement r d
    (λ y e h. raw_or_not b (is_raw_choice y) (normal_in p (kept (Second (Node AStatement y))))
    (statement_apart y r e h.0 h.1))

mark_turn : (p : Position) (b : Bool) (x : Tree) → TurnApart p b (First x)
mark_turn p b x = apart_kept b (First (normal_in p (kept x))) refl

alternative : (p : Position) (b : Bool) (x : Tree) (u : List Token → Bool) (c : ℕ) (cs : List ℕ) (r : List Token)
    → Derives x (alt u (mark c cs) (ref AStatement)) r → IsFormed p x → TurnApart p b x
alternative p b x u c cs r d =
    alt_two (λ y. IsFormed p y → TurnApart p b y) x u (mark c cs) (ref AStatement) r d (λ y e h. mark_turn p b y)
    (λ y e h. statement_turn p b y r e h)

node_turn : (p : Position) (b : Bool) (k : Kind) (x : Tree) (r : List Token) → Derives x (ref k) r
    → TurnApart p b x
node_turn p b k (Node j x) r d = apart_kept b (normal_in p (kept (Node j x))) refl
node_turn p b k _ r d = absurd d

literal_turn : (p : Position) (b : Bool) (q : List ℕ → Bool) (x : Tree) (r : List Token) → Derives x (literal q) r
    → TurnApart p b x
literal_turn p b q (ALiteral cs) r d = apart_kept b (ALiteral cs) refl
literal_turn p b q _ r d = absurd d

pair_turn : (p : Position) (b : Bool) (g h : Gram) (x : Tree) (r : List Token) → Derives x (seq g h) r
    → TurnApart p b x
pair_turn p b g h (Pair x y) r d = apart_kept b (normal_in p (kept (Pair x y))) refl
pair_turn p b g h _ r d = absurd d

-- among turns
none_apart : (p : Position) (b : Bool) (x y : Tree) → is_raw_turn x ≡ false
    → ((c : Bool) → TurnApart p c x)
    → flat (apart_if b (normal_in p (kept x))) ≡ apart_where (is_set_apart x y) (flat (normal_in p (kept x)))
none_apart p b x y e f =
    f b ∙ ap (λ c. apart_where (c && b) (flat (normal_in p (kept x)))) e
    ∙ sym (ap (λ c. apart_where (c && is_opened y) (flat (normal_in p (kept x)))) e)

no_raw_node : (k : Kind) (x : Tree) (r : List Token) → Derives x (ref k) r → is_raw_turn x ≡ false
no_raw_node k (Node j x) r d = refl
no_raw_node k _ r d = absurd d

no_raw_literal : (q : List ℕ → Bool) (x : Tree) (r : List Token) → Derives x (literal q) r → is_raw_turn x ≡ false
no_raw_literal q (ALiteral cs) r d = refl
no_raw_literal q _ r d = absurd d

no_raw_pair : (g h : Gram) (x : Tree) (r : List Token) → Derives x (seq g h) r → is_raw_turn x ≡ false
no_raw_pair g h (Pair x y) r d = refl
no_raw_pair g h _ r d = absurd d

no_turn : {A : Type 0} → false ≡ true → A
no_turn e = cc

pub turn_apart : (p : Position) (g : Gram) (t : List Token → Bool) (x y : Tree) (r : List Token) → is_turn g ≡ true
    → Derives x g (flat y ++ r) → Derives y (star t g) r → IsFormed p x
    → flat (apart_if (is_enclosed (kept y) (normal_in p (kept y))) (normal_in p (kept x)))
    ≡ apart_where (is_set_apart x y) (flat (normal_in p (kept x)))
turn_apart p (ref k) t x y r i d e h = none_apart p _ x y (no_raw_node k x _ d) (λ c. node_turn p c k x _ d)
turn_apart p (literal q) t x y r i d e h = none_apart p _ x y (no_raw_literal q x _ d) (λ c. literal_turn p c q x _ d)
turn_apart p (seq a b) t x y r i d e h = none_apart p _ x y (no_raw_pair a b x _ d) (λ c. pair_turn p c a b x _ d)
turn_apart p (alt u (mark c cs) (ref AStatement)) t x y r i d e h =
    ap (λ b. flat (apart_if b (normal_in p (kept x)))) (turns_enclose p y t u c cs r e ∙ opened_same y t u c cs r e)
    ∙ alternative p (is_opened y) x u c cs (flat y ++ r) d h
turn_apart p _ t x y r i _ _ _ = no_turn i
