-- What rules say of a list's elements, by the elements that a mark follows, and the last one.
use Rattle.std.specs.Prelude.{◌≡◌, ℕ, Bool, true, false, not, ◌&&◌, ◌||◌, List, [], ◌∷◌, ◌++◌, Option, Some, None, refl}
use Rattle.std.specs.List.{list_any}
use Rattle.std.proofs.Common.{ap, ◌∙◌, sym, ◌+◌, ◌<◌, ◌≤◌, length, get_or, drop, arith}
use Rattle.std.proofs.lemmas.List.{at_drop_more, at_drop_all}
use Rattle.syn_grammar.specs.Tree as t
use Rattle.syn_grammar.specs.Tree.{Tree}
use Rattle.syn_grammar.specs.Part.{each, each_but_first, each_but_last, each_separated, each_turn_but_last, some}
use Rattle.reader_tree.specs.declared.tree.Element.{Element}
use Rattle.reader_tree.specs.Forms.{elements, ending, turns}
use Rattle.reader_tree.specs.Shapes.{IsListOf}
use Rattle.reader_verdicts.specs.Last.{on_last}

or_assoc : (a b c : Bool) → (a || (b || c)) ≡ ((a || b) || c)
or_assoc true b c = refl
or_assoc false b c = refl

or_false : (a : Bool) → (a || false) ≡ a
or_false true = refl
or_false false = refl

not_or : (a b : Bool) → (not a && not b) ≡ not (a || b)
not_or true b = refl
not_or false b = refl

pub some_elements : (p : Tree → Bool) (c : ℕ) (es : List Element) (o : Option Tree)
    → some p (elements c es (ending (λ y. y) o)) ≡ (list_any (λ e. p e.tree) es || on_last p o)
some_elements p c [] None = refl
some_elements p c [] (Some x) = refl
some_elements p c (e ∷ es) o = ap (λ b. p e.tree || b) (some_elements p c es o)
    ∙ or_assoc (p e.tree) (list_any (λ e. p e.tree) es) (on_last p o)

pub separated_elements : (p : Tree → Bool) (c : ℕ) (es : List Element) (o : Option Tree)
    → each_separated (λ x. not (p x)) (elements c es (ending (λ y. y) o)) ≡ not (list_any (λ e. p e.tree) es)
separated_elements p c [] None = refl
separated_elements p c [] (Some x) = refl
separated_elements p c (e ∷ es) o = ap (λ b. not (p e.tree) && b) (separated_elements p c es o)
    ∙ not_or (p e.tree) (list_any (λ e. p e.tree) es)

pub each_elements : (p : Tree → Bool) (c : ℕ) (es : List Element) (o : Option Tree)
    → each (λ x. not (p x)) (elements c es (ending (λ y. y) o)) ≡ not (list_any (λ e. p e.tree) es || on_last p o)
each_elements p c [] None = refl
each_elements p c [] (Some x) = refl
each_elements p c (e ∷ es) o = ap (λ b. not (p e.tree) && b) (each_elements p c es o)
    ∙ not_or (p e.tree) (list_any (λ e. p e.tree) es || on_last p o)
    ∙ ap not (or_assoc (p e.tree) (list_any (λ e. p e.tree) es) (on_last p o))

pub but_last_closed : (p : Tree → Bool) (c : ℕ) (es : List Element) (x : Tree)
    → each_but_last (λ x. not (p x)) (elements c es (t.Final x)) ≡ not (list_any (λ e. p e.tree) es)
but_last_closed p c [] x = refl
but_last_closed p c (e ∷ []) x = not_or (p e.tree) false
but_last_closed p c (e ∷ f ∷ es) x = ap (λ b. not (p e.tree) && b) (but_last_closed p c (f ∷ es) x)
    ∙ not_or (p e.tree) (list_any (λ e. p e.tree) (f ∷ es))

pub but_last_open : (p : Tree → Bool) (c : ℕ) (es : List Element) (e : Element)
    → each_but_last (λ x. not (p x)) (elements c (es ++ e ∷ []) t.End) ≡ not (list_any (λ e. p e.tree) es)
but_last_open p c [] e = refl
but_last_open p c (f ∷ []) e = not_or (p f.tree) false
but_last_open p c (f ∷ g ∷ es) e = ap (λ b. not (p f.tree) && b) (but_last_open p c (g ∷ es) e)
    ∙ not_or (p f.tree) (list_any (λ e. p e.tree) (g ∷ es))

pub but_last_turns : (p : Tree → Bool) (xs : List Tree) (x : Tree)
    → each_turn_but_last (λ y. not (p y)) (turns (xs ++ x ∷ [])) ≡ not (list_any p xs)
but_last_turns p [] x = refl
but_last_turns p (y ∷ []) x = not_or (p y) false
but_last_turns p (y ∷ z ∷ xs) x = ap (λ b. not (p y) && b) (but_last_turns p (z ∷ xs) x)
    ∙ not_or (p y) (list_any p (z ∷ xs))

pub some_list : (p : Tree → Bool) (es : List Element) (o : Option Tree) (x : Tree) → IsListOf es o x
    → (list_any (λ e. p e.tree) es || on_last p o) ≡ some p x
some_list p es o x w = sym (ap (some p) w.1 ∙ some_elements p w.0 es o)

pub separated_list : (p : Tree → Bool) (es : List Element) (o : Option Tree) (x : Tree) → IsListOf es o x
    → not (list_any (λ e. p e.tree) es) ≡ each_separated (λ y. not (p y)) x
separated_list p es o x w = sym (ap (each_separated (λ y. not (p y))) w.1 ∙ separated_elements p w.0 es o)

pub but_first_list : (p : Tree → Bool) (e : Element) (es ds : List Element) (o : Option Tree) (x : Tree)
    → IsListOf ds o x → ds ≡ e ∷ es → not (list_any (λ e. p e.tree) es || on_last p o)
    ≡ each_but_first (λ y. not (p y)) x
but_first_list p e es ds o x w h =
    let q : Tree → Bool = λ y. not (p y) in
    sym (ap (each_but_first q) w.1 ∙ ap (λ l. each_but_first q (elements w.0 l (ending (λ y. y) o))) h
    ∙ each_elements p w.0 es o)

first_of_none : (q : Tree → Bool) (c : ℕ) (es : List Element) (o : Option Tree) → length es ≡ 0 → true
    ≡ each_but_first q (elements c es (ending (λ y. y) o))
first_of_none q c [] None h = refl
first_of_none q c [] (Some x) h = refl
first_of_none q c (e ∷ es) o h = absurd (omega arith)

pub but_first_none : (q : Tree → Bool) (es : List Element) (o : Option Tree) (x : Tree) → IsListOf es o x → length es
    ≡ 0 → true ≡ each_but_first q x
but_first_none q es o x w h = first_of_none q w.0 es o h ∙ sym (ap (each_but_first q) w.1)

pub but_last_some : (p : Tree → Bool) (es : List Element) (y x : Tree) → IsListOf es (Some y) x
    → not (list_any (λ e. p e.tree) es) ≡ each_but_last (λ y. not (p y)) x
but_last_some p es y x w = sym (ap (each_but_last (λ y. not (p y))) w.1 ∙ but_last_closed p w.0 es y)

pub but_last_list : (p : Tree → Bool) (e : Element) (es ds : List Element) (x : Tree) → IsListOf ds None x → ds ≡ es
    ++ e ∷ [] → not (list_any (λ e. p e.tree) es) ≡ each_but_last (λ y. not (p y)) x
but_last_list p e es ds x w h =
    let q : Tree → Bool = λ y. not (p y) in
    sym (ap (each_but_last q) w.1 ∙ ap (λ l. each_but_last q (elements w.0 l t.End)) h ∙ but_last_open p w.0 es e)

last_of_none : (q : Tree → Bool) (c : ℕ) (es : List Element) → length es ≡ 0 → true
    ≡ each_but_last q (elements c es t.End)
last_of_none q c [] h = refl
last_of_none q c (e ∷ es) h = absurd (omega arith)

pub but_last_none : (q : Tree → Bool) (es : List Element) (x : Tree) → IsListOf es None x → length es ≡ 0 → true
    ≡ each_but_last q x
but_last_none q es x w h = last_of_none q w.0 es h ∙ sym (ap (each_but_last q) w.1)

pub any_more : {A : Type 0} (p : A → Bool) (xs : List A) (i : ℕ) (x : A) → i < length xs → x ≡ get_or xs i x → p x
    ≡ false → list_any p (drop i xs) ≡ list_any p (drop (i + 1) xs)
any_more p xs i x h e f =
    at_drop_more (list_any p) xs i x h ∙ ap (λ y. p y || list_any p (drop (i + 1) xs)) (sym e)
    ∙ ap (λ b. b || list_any p (drop (i + 1) xs)) f

pub any_here : {A : Type 0} (p : A → Bool) (xs : List A) (i : ℕ) (x : A) → i < length xs → x ≡ get_or xs i x → p x
    ≡ true → list_any p (drop i xs) ≡ true
any_here p xs i x h e f =
    at_drop_more (list_any p) xs i x h ∙ ap (λ y. p y || list_any p (drop (i + 1) xs)) (sym e)
    ∙ ap (λ b. b || list_any p (drop (i + 1) xs)) f

pub any_over : {A : Type 0} (p : A → Bool) (xs : List A) (i : ℕ) → length xs ≤ i → list_any p (drop i xs) ≡ false
any_over p xs i h = at_drop_all (list_any p) xs i h

pub turns_list : (p : Tree → Bool) (x y : Tree) (xs ys : List Tree) → y ≡ turns ys → ys ≡ xs ++ x ∷ []
    → not (list_any p xs) ≡ each_turn_but_last (λ z. not (p z)) y
turns_list p x y xs ys e h =
    let q : Tree → Bool = λ z. not (p z) in
    sym (ap (each_turn_but_last q) (e ∙ ap turns h) ∙ but_last_turns p xs x)

no_turn : (q : Tree → Bool) (ys : List Tree) → length ys ≡ 0 → true ≡ each_turn_but_last q (turns ys)
no_turn q [] h = refl
no_turn q (y ∷ ys) h = absurd (omega arith)

pub turns_none : (q : Tree → Bool) (y : Tree) (ys : List Tree) → y ≡ turns ys → length ys ≡ 0 → true
    ≡ each_turn_but_last q y
turns_none q y ys e h = no_turn q ys h ∙ sym (ap (each_turn_but_last q) e)
