-- Raw turns among statements, and tokens whose last one is set apart.
use Rattle.std.specs.Prelude.{◌≡◌, ℕ, zero, suc, ◌<◌, ◌≤◌, false, List, [], ◌∷◌, ◌++◌, Option, Some}
use Rattle.std.specs.Prelude.{None, length, refl}
use Rattle.std.proofs.Common.{ap, ◌∙◌, sym, arith, ◌+◌, map, take, set, get_or}
use Rattle.std.proofs.lemmas.List.{length-map, length-set, map-append, take_all, take_more, take_more_set}
use Rattle.proc_macro2.specs.Token.{Token, Punct}
use Rattle.rust_leaf.specs.declared.punct.Spacing.{Spacing}
use Rattle.syn_grammar.specs.Kind.{AStatement}
use Rattle.syn_grammar.specs.Normal.{apart}
use Rattle.syn_grammar.specs.Tree as t
use Rattle.syn_grammar.specs.Tree.{Tree}
use Rattle.writer_print.specs.Pieces.{piece_token}
use Rattle.writer_print.specs.declared.piece.Piece.{Piece}
use Rattle.reader_tree.specs.declared.tree.Element.{Element}
use Rattle.reader_tree.specs.Forms.{mark_of, seconds, turns, elements, ending}
use Rattle.reader_tree.specs.Shapes.{first_of, last_of}
use Rattle.writer_rules.specs.Operands.{first_behind, statement_of}
use Rattle.writer_rules.specs.Turns.{is_raw, is_raw_choice, is_raw_node, is_raw_turn}
use Rattle.writer_rules.proofs.SeenForms.{first_is, last_is, some_none}

-- tokens that are held as they are
pub raw_first : (n : ℕ) (x : Tree) → is_raw (seconds n (t.First x)) ≡ false
raw_first zero x = refl
raw_first (suc n) x = refl

pub raw_mark : (cs : List ℕ) (spacing : Spacing) → is_raw (mark_of cs spacing) ≡ false
raw_mark [] spacing = refl
raw_mark (c ∷ cs) spacing = refl

pub raw_turned : (xs : List Tree) → is_raw (turns xs) ≡ false
raw_turned [] = refl
raw_turned (x ∷ xs) = refl

pub raw_elements : {A : Type 0} (c : ℕ) (es : List Element) (f : A → Tree) (o : Option A)
    → is_raw (elements c es (ending f o)) ≡ false
raw_elements c [] f None = refl
raw_elements c [] f (Some y) = refl
raw_elements c (e ∷ es) f o = refl

pub ruleset raws = (raw_first, raw_mark, raw_turned, raw_elements)

-- a statement that is such an item
pub choice_first : (x y : Tree) → Some y ≡ first_of x → is_raw_node y ≡ is_raw_choice x
choice_first x y e = ap is_raw_choice (sym (first_is x y e))

fourth_is : (x y : Tree) → Some y ≡ first_behind x 3 → x ≡ t.Second (t.Second (t.Second (t.First y)))
fourth_is (t.Second (t.Second (t.Second (t.First z)))) y e = cc
fourth_is x y e = absurd (some_none y e)

pub choice_fourth : (x y : Tree) → Some y ≡ first_behind x 3 → is_raw_node y ≡ is_raw_choice x
choice_fourth x y e = ap is_raw_choice (sym (fourth_is x y e))

pub choice_none : (x : Tree) → None ≡ first_of x → None ≡ first_behind x 3 → false ≡ is_raw_choice x
choice_none (t.First y) e f = cc
choice_none (t.Second (t.Second (t.Second (t.First y)))) e f = cc
choice_none x e f = refl

pub ruleset raw_choices = (choice_first, choice_fourth, choice_none)

-- a turn that is one
statement_is : (x y : Tree) → Some y ≡ statement_of x → x ≡ t.Node AStatement y
statement_is (t.Node AStatement z) y e = cc
statement_is x y e = absurd (some_none y e)

no_statement : (x : Tree) → None ≡ statement_of x → false ≡ is_raw_turn (t.Second x)
no_statement (t.Node AStatement y) e = cc
no_statement x e = refl

pub turn_none : (x : Tree) → None ≡ last_of x → false ≡ is_raw_turn x
turn_none (t.Second (t.Node k y)) e = cc
turn_none x e = refl

pub turn_other : (x y : Tree) → Some y ≡ last_of x → None ≡ statement_of y → false ≡ is_raw_turn x
turn_other x y e f = no_statement y f ∙ ap is_raw_turn (sym (last_is x y e))

pub turn_statement : (x y z : Tree) → Some y ≡ last_of x → Some z ≡ statement_of y → is_raw_choice z ≡ is_raw_turn x
turn_statement x y z e f =
    ap (λ w. is_raw_turn (t.Second w)) (sym (statement_is y z f)) ∙ ap is_raw_turn (sym (last_is x y e))

pub ruleset raw_turns = (turn_none, turn_other, turn_statement)

-- the last one of tokens is set apart
skipped : (v w : Token) (ws : List Token) → apart (v ∷ w ∷ ws) ≡ v ∷ apart (w ∷ ws)
skipped (Punct c spacing) w ws = refl
skipped v w ws = refl

apart_end : (vs : List Token) (u : Token) → apart (vs ++ u ∷ []) ≡ vs ++ apart (u ∷ [])
apart_end [] u = refl
apart_end (v ∷ []) u = skipped v u []
apart_end (v ∷ w ∷ ws) u = skipped v w (ws ++ u ∷ []) ∙ ap (λ us. v ∷ us) (apart_end (w ∷ ws) u)

pub apart_last : (ts us vs : List Token) (u : Token) → vs ++ u ∷ [] ≡ ts ++ us → length ts < length (vs ++ u ∷ [])
    → vs ++ apart (u ∷ []) ≡ ts ++ apart us
apart_last [] us vs u e h = sym (apart_end vs u) ∙ ap apart e
apart_last (x ∷ ts) us [] u e h = absurd (omega (arith, h))
apart_last (x ∷ ts) us (v ∷ vs) u e h =
    let head : v ≡ x = cc in
    let rest : vs ++ u ∷ [] ≡ ts ++ us = cc in
    let less : length ts < length (vs ++ u ∷ []) = omega (arith, h) in
    let found = apart_last ts us vs u rest less in cc (head, found)

-- where no token was put
pub apart_none : (ts us vs : List Token) → vs ≡ ts ++ us → length vs ≤ length ts → vs ≡ ts ++ apart us
apart_none [] [] vs e h = e
apart_none [] (u ∷ us) vs e h = absurd (omega (arith, h, ap length e))
apart_none (x ∷ ts) us [] e h = cc
apart_none (x ∷ ts) us (v ∷ vs) e h =
    let head : v ≡ x = cc in
    let rest : vs ≡ ts ++ us = cc in
    let less : length vs ≤ length ts = omega (arith, h) in
    let found = apart_none ts us vs rest less in cc (head, found)

-- the last token is put anew
pub apart_at : (ps : List Piece) (before n : ℕ) (p q : Piece) (ts us : List Token) → n + 1 ≡ length ps → before ≤ n
    → p ≡ get_or ps n p → piece_token q ∷ [] ≡ apart (piece_token p ∷ []) → length ts ≡ before
    → map piece_token ps ≡ ts ++ us → map piece_token (set ps n q) ≡ ts ++ apart us
apart_at ps before n p q ts us e h i j k l =
    let vs : List Token = map piece_token (take n ps) in
    let below : n < length ps = omega arith in
    let whole : ps ≡ take n ps ++ p ∷ [] =
    sym (take_all (n + 1) ps (omega arith)) ∙ take_more ps n p below ∙ ap (λ x. take n ps ++ x ∷ []) (sym i) in
    let changed : set ps n q ≡ take n ps ++ q ∷ [] =
    sym (take_all (n + 1) (set ps n q) (omega (arith, length-set ps n q))) ∙ take_more_set ps n q below in
    let parts : map piece_token ps ≡ vs ++ piece_token p ∷ [] =
    ap (map piece_token) whole ∙ map-append piece_token (take n ps) (p ∷ []) in
    let less : length ts < length (vs ++ piece_token p ∷ []) =
    omega (arith, ap length parts, length-map ps piece_token) in
    ap (map piece_token) changed ∙ map-append piece_token (take n ps) (q ∷ []) ∙ ap (λ xs. vs ++ xs) j
    ∙ apart_last ts us vs (piece_token p) (sym parts ∙ l) less
