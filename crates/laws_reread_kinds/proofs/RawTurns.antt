-- A turn of statements fits with its last mark set apart, too: normal form sets apart that of a raw item alone, and
-- such an item is read with it before whatever follows.
use Rattle.std.proofs.Common.{◌≡◌, [], refl, sym, ap, ◌∙◌, subst}
use Rattle.std.specs.Prelude.{Bool, true, false, not, ◌&&◌, cond}
use Rattle.std.proofs.lemmas.Bool.{false≢true}
use Rattle.syn_grammar.specs.Kind.{Kind, AnImpl, AnItem, AStatement, ItemMacro}
use Rattle.syn_grammar.specs.Name.{the_attributes, the_const, the_default, the_expression}
use Rattle.syn_grammar.specs.Tree.{Tree, Raw, Pair, First, Second, Called, Verbatim, Node, flat}
use Rattle.syn_grammar.specs.Part.{choice, has}
use Rattle.syn_grammar.specs.Gram.{ref}
use Rattle.syn_grammar.specs.Forms.{form_of}
use Rattle.syn_grammar.specs.Table.{table}
use Rattle.syn_grammar.specs.Kept.{as_statement, expression_statement, given, held, is_macro, is_there, kept}
use Rattle.syn_grammar.specs.Kept.{left_in_front, own_part}
use Rattle.syn_grammar.specs.Normal.{apart, apart_item}
use Rattle.laws_items.specs.Apart.{set_apart}
use Rattle.laws_items.proofs.Apart.{SaysSame, choice_same, has_same}
use Rattle.laws_items.proofs.SetApart.{item_apart}
use Rattle.laws_reread_kinds.specs.Covered.{is_begun, is_no_macro, item_of}
use Rattle.laws_reread_kinds.proofs.Fits.{Fits}
use Rattle.laws_reread_kinds.proofs.Printed.{Printed, TurnLaw, unmoved_turn}
use Rattle.laws_reread_kinds.proofs.Statements.{a_turn}

-- what an item among statements begins with, by its form
no_macro_same : SaysSame is_no_macro
no_macro_same (Node (ItemMacro p) x) = refl
no_macro_same _ = refl

begun_same : SaysSame is_begun
begun_same (Node AnImpl y) =
    ap (λ d. not (d && has the_const (set_apart y))) (has_same the_default y)
    ∙ ap (λ c. not (has the_default y && c)) (has_same the_const y)
begun_same _ = refl

item_apart_of : (x : Tree) → item_of (set_apart x) ≡ set_apart (item_of x)
item_apart_of (First x) = item_apart_of x
item_apart_of (Second x) = item_apart_of x
item_apart_of (Pair x y) = item_apart_of y
item_apart_of _ = refl

item_same : {A : Type 0} (f : Tree → A) → SaysSame f → SaysSame (λ x. f (choice (item_of x)))
item_same f h x = ap (λ y. f (choice y)) (item_apart_of x) ∙ choice_same f h (item_of x)

form_same : SaysSame (λ x. is_no_macro (choice (item_of x)) && is_begun (choice (item_of x)))
form_same x =
    ap (λ b. b && is_begun (choice (item_of (set_apart x)))) (item_same is_no_macro no_macro_same x)
    ∙ ap (λ b. is_no_macro (choice (item_of x)) && b) (item_same is_begun begun_same x)

-- the item
raw_fits : (x : Tree) → Fits (Node AnItem (Verbatim x)) (ref AnItem)
    → Fits (Node AnItem (Verbatim (set_apart x))) (ref AnItem)
unfolding table
raw_fits x f =
    (refl, f.1, refl, λ s. (item_apart AnItem (Node AnItem (Verbatim x)) [] s refl (refl, f.3 [])).0.1, (refl, refl))

raw_spelled : (x : Tree) → Fits (Node AnItem (Verbatim x)) (ref AnItem) → flat (set_apart x) ≡ apart (flat x)
unfolding table
raw_spelled x f = (item_apart AnItem (Node AnItem (Verbatim x)) [] [] refl (refl, f.3 [])).1

-- an expression stays
expression_stays : (a e s : Tree)
    → apart_item (Second (Node AStatement (expression_statement a e s)))
    ≡ Second (Node AStatement (expression_statement a e s))
expression_stays a e s = go (is_macro (form_of e) && is_there s)
  where
    other : Tree
    other =
        Second (Second (Second (Second (Pair (Called the_attributes (left_in_front a))
        (Pair (Called the_expression (given a e)) s)))))

    call : Tree
    call = Second (First (Pair a (Pair (own_part (form_of e)) s)))

    go : (b : Bool) → apart_item (Second (Node AStatement (cond b call other)))
        ≡ Second (Node AStatement (cond b call other))
    go true = refl
    go false = refl

held_stays : (y z : Tree)
    → apart_item (Second (Node AStatement (as_statement (Second (Second (Second (Second (Pair y z))))))))
    ≡ Second (Node AStatement (as_statement (Second (Second (Second (Second (Pair y z)))))))
held_stays (Called the_attributes a) (Pair (Called the_expression e) s) = expression_stays a e s
held_stays _ _ = refl

-- a statement that is an item
abbrev named_turn : Kind → Tree → Tree
named_turn k y = Second (Node AStatement (First (Node k y)))

abbrev item_turn : Kind → Tree → Tree
item_turn k y = Second (Node AStatement (Second (Second (Second (First (Node k y))))))

named_printed : (y : Tree) → Fits (named_turn AnItem y) a_turn
    → Printed a_turn (apart_item (kept (named_turn AnItem y)))
unfolding held table
named_printed (First y) f = unmoved_turn true (named_turn AnItem (First y)) a_turn f refl
named_printed (Verbatim y) f = absurd (false≢true f.1.4)
named_printed _ f = absurd f.1.3.1.3

item_printed : (y : Tree) → Fits (item_turn AnItem y) a_turn
    → Printed a_turn (apart_item (kept (item_turn AnItem y)))
unfolding held table
item_printed (First y) f = unmoved_turn true (item_turn AnItem (First y)) a_turn f refl
item_printed (Verbatim y) f =
    let o = f.1.3 in
    let i : Fits (Node AnItem (Verbatim y)) (ref AnItem) = o.1.1.1.1 in
    record {
      tree = item_turn AnItem (Verbatim (set_apart y));
      fits = (f.0, (refl, f.1.1, refl, (o.0, (o.1.0, (o.1.1.0, (o.1.1.1.0, raw_fits y i)))), form_same y ∙ f.1.4));
      kept_is = ap (λ ts. item_turn AnItem (Raw ts)) (raw_spelled y i);
    }
item_printed _ f = absurd f.1.3.1.1.1.1.3

-- any statement
statement_printed : (x : Tree) → Fits (Second (Node AStatement x)) a_turn
    → Printed a_turn (apart_item (kept (Second (Node AStatement x))))
unfolding held table
statement_printed (First (Node k y)) f =
    let e : k ≡ AnItem = f.1.3.1.0 in
    subst (λ j. Printed a_turn (apart_item (kept (named_turn j y)))) (sym e)
    (named_printed y (subst (λ j. Fits (named_turn j y) a_turn) e f))
statement_printed (First _) f = absurd f.1.3.1
statement_printed (Second (First (Pair y z))) f =
    unmoved_turn true (Second (Node AStatement (Second (First (Pair y z))))) a_turn f refl
statement_printed (Second (First _)) f = absurd f.1.3.1.1
statement_printed (Second (Second (First (Pair y z)))) f =
    unmoved_turn true (Second (Node AStatement (Second (Second (First (Pair y z)))))) a_turn f refl
statement_printed (Second (Second (First _))) f = absurd f.1.3.1.1.1
statement_printed (Second (Second (Second (First (Node k y))))) f =
    let e : k ≡ AnItem = f.1.3.1.1.1.1.0 in
    subst (λ j. Printed a_turn (apart_item (kept (item_turn j y)))) (sym e)
    (item_printed y (subst (λ j. Fits (item_turn j y) a_turn) e f))
statement_printed (Second (Second (Second (First _)))) f = absurd f.1.3.1.1.1.1
statement_printed (Second (Second (Second (Second (Pair y z))))) f =
    unmoved_turn true (Second (Node AStatement (Second (Second (Second (Second (Pair y z))))))) a_turn f
    (held_stays (kept y) (kept z))
statement_printed (Second (Second (Second (Second _)))) f = absurd f.1.3.1.1.1.1
statement_printed (Second (Second (Second _))) f = absurd f.1.3.1.1.1
statement_printed (Second (Second _)) f = absurd f.1.3.1.1
statement_printed (Second _) f = absurd f.1.3.1
statement_printed _ f = absurd f.1.3

pub turn_printed : TurnLaw a_turn
turn_printed false x f = record { tree = x; fits = f; kept_is = refl }
turn_printed true (First x) f = unmoved_turn true (First x) a_turn f refl
turn_printed true (Second (Node k x)) f =
    subst (λ j. Printed a_turn (apart_item (kept (Second (Node j x))))) (sym f.1.0)
    (statement_printed x (subst (λ j. Fits (Second (Node j x)) a_turn) f.1.0 f))
turn_printed true (Second _) f = absurd f.1
turn_printed true _ f = absurd f
