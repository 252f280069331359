-- A closure that is read with a type of its result has one.
use Rattle.std.specs.Prelude.{◌≡◌, Bool, true, false, ◌&&◌, List, ◌++◌, Some, refl}
use Rattle.std.proofs.Common.{ap, sym, subst, ◌∙◌}
use Rattle.std.proofs.lemmas.Bool.{false≢true}
use Rattle.proc_macro2.specs.Token.{Token}
use Rattle.syn_grammar.specs.Kind.{ExprTypedClosure, Kind, Position, ReturnType, WithPlus}
use Rattle.syn_grammar.specs.Forms.{front}
use Rattle.syn_grammar.specs.Kept.{held, kept}
use Rattle.syn_grammar.specs.Look.{sees}
use Rattle.syn_grammar.specs.Normal.{normal, passed}
use Rattle.syn_grammar.specs.Say.{marks}
use Rattle.syn_grammar.specs.Table.{table}
use Rattle.syn_grammar.specs.Tree.{Tree, Nil, Node, Pair, Second, flat}
use Rattle.syn_grammar.specs.Derives.{Derives}
use Rattle.laws_reread_kinds.specs.Covered.{is_bound}
use Rattle.laws_reread.proofs.ToldClosures.{typed_closure_told}
use Rattle.node_shapes.specs.Forms.{has_type}

second : (a b : Bool) → (a && b) ≡ true → b ≡ true
second true b e = e
second false b e = absurd (false≢true e)

nothing_else : (x : Tree) (r : List Token) → Derives (Second x) (table (ReturnType WithPlus)) r → x ≡ Nil
unfolding table
nothing_else Nil r d = refl
nothing_else _ r d = absurd d.1

no_arrow : (l : Kind) (x : Tree) → l ≡ ReturnType WithPlus → x ≡ Nil
    → sees (marks "->") (flat (normal (kept (Node l (Second x))))) ≡ false
unfolding held passed
no_arrow l x e f =
    ap (λ j. sees (marks "->") (flat (normal (kept (Node j (Second x)))))) e
    ∙ ap (λ y. sees (marks "->") (flat (normal (kept (Node (ReturnType WithPlus) (Second y)))))) f

pub typed_stands : (p : Position) (k : Kind) (y : Tree) (r : List Token) → front p (flat y ++ r) ≡ Some k
    → Derives y (table k) r → has_type k y ≡ true
unfolding table
typed_stands p ExprTypedClosure (Pair (Pair o y) (Pair (Node l (Second x)) b)) r f d =
    absurd (false≢true (sym (no_arrow l x d.1.0.0
    (nothing_else x (flat b ++ r) (subst (λ j. Derives (Second x) (table j) (flat b ++ r)) d.1.0.0 d.1.0.1)))
    ∙ second (is_bound (normal (kept o))) _
    (typed_closure_told p (Pair (Pair o y) (Pair (Node l (Second x)) b)) r f d)))
typed_stands p ExprTypedClosure (Pair _ (Pair (Node l (Second x)) b)) r f d = absurd d.0
typed_stands p k y r f d = refl
