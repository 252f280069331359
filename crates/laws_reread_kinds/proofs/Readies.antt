-- Read back by steps: where each part of a tree that fits is read back, so is the tree.
use Rattle.std.proofs.Common.{◌≡◌, List, refl}
use Rattle.std.specs.Prelude.{Bool, true, false}
use Rattle.proc_macro2.specs.Token.{Token}
use Rattle.syn_grammar.specs.Kind.{Kind}
use Rattle.syn_grammar.specs.Tree.{Tree, AWord, ALiteral, AMark, ALifetime, Raw, Nil, Pair, First, Second, End}
use Rattle.syn_grammar.specs.Tree.{Again, Final, More, Group, Dropped, Called, Verbatim, Hidden, Node, Whole, Alone}
use Rattle.syn_grammar.specs.Tree.{Front, Back, Infix}
use Rattle.syn_grammar.specs.Gram.{Gram, seq, alt, star, many, group, judged, dropped, called, ref, operand}
use Rattle.syn_grammar.specs.Table.{table}
use Rattle.syn_grammar.specs.Derives.{Derives}
use Rattle.laws_reread_kinds.specs.After.{After}
use Rattle.laws_reread_kinds.specs.Covered.{is_known}
use Rattle.laws_reread_kinds.proofs.Afters.{after_node}
use Rattle.laws_reread_kinds.proofs.Classes.{Class}
use Rattle.laws_reread_kinds.proofs.Starts.{starts}
use Rattle.laws_reread_kinds.proofs.Begins.{Begins, BeginsBy}
use Rattle.syn_grammar.specs.Ranks.{skips}
use Rattle.laws_reread_kinds.proofs.Fits.{Fits, FitsForms, IsMeant}

-- the own part of a form of the kind is read back, before what may follow it
abbrev pub OwnReady : Kind → Tree → Type 0
OwnReady k y = (s : List Token) → After k y s → Derives y (table k) s × Begins k y s

-- each part that is a kind's is read back, before what may follow it
abbrev pub Ready : Tree → Type 0
Ready (Node k x) = (s : List Token) → After k (Node k x) s → Derives (Node k x) (ref k) s × Begins k (Node k x) s
Ready (Pair x y) = Ready x × Ready y
Ready (First x) = Ready x
Ready (Second x) = Ready x
Ready (Again x y) = Ready x × Ready y
Ready (Final x) = Ready x
Ready (More x c spacing y) = Ready x × Ready y
Ready (Group d x) = Ready x
Ready (Dropped x) = Ready x
Ready (Called n x) = Ready x
Ready (Whole x) = Ready x
Ready (Alone k y) = OwnReady k y
Ready (Front k y x) = OwnReady k y × Ready x
Ready (Back l k y) = Ready l × OwnReady k y
Ready (Infix l k y r) = Ready l × OwnReady k y × Ready r
Ready _ = Unit {0}

-- the step of a kind: where its parts are read back, so is it
abbrev pub Step : Kind → Type 0
Step k = (x : Tree) (s : List Token) → Fits x (table k) → IsMeant k x → Ready x → After k x s
    → Derives x (table k) s × Begins k x s

begins_node : (b : Bool) (cs : List Class) (k : Kind) (x : Tree) (s : List Token) → BeginsBy b cs x s
    → BeginsBy b cs (Node k x) s
begins_node true cs k x s i = i
begins_node false cs k x s i = i

module _ (steps : (k : Kind) → is_known k ≡ true → Step k) where
  mutual
    pub ready : (x : Tree) (g : Gram) → Fits x g → Ready x
    ready (AWord cs) g d = tt
    ready (ALiteral cs) g d = tt
    ready (AMark c cs spacing) g d = tt
    ready (ALifetime cs) g d = tt
    ready (Raw ts) g d = tt
    ready Nil g d = tt
    ready (Pair x y) (seq a b) d = (ready x a d.0, ready y b d.1)
    ready (First x) (alt t a b) d = ready x a d.1
    ready (Second x) (alt t a b) d = ready x b d.1
    ready End g d = tt
    ready (Again x y) (star t g) d = (ready x g d.0, ready y (star t g) d.1)
    ready (Final x) (many e c g) d = ready x g d
    ready (More x m spacing y) (many e c g) d = (ready x g d.2, ready y (many e c g) d.3)
    ready (Group f x) (group e g) d = ready x g d.1
    ready (First x) (judged v g) d = ready x g d.1
    ready (Verbatim x) g d = tt
    ready (Hidden x) g d = tt
    ready (Dropped x) (dropped g) d = ready x g d.1
    ready (Called n x) (called m g) d = ready x g d.1
    ready (Node k x) (ref l) d =
        λ s a. let (t, f) = steps k d.1 x s d.3 d.4 (ready x (table k) d.3) (after_node k x s a) in
        ((refl, t), begins_node (skips k) (starts k) k x s f)
    ready (Whole x) (operand p n) d = ready_forms x d.2
    ready _ _ d = absurd d

    pub ready_forms : (x : Tree) → FitsForms x → Ready x
    ready_forms (Alone k y) d = λ s a. steps k d.0 y s d.1 d.2 (ready y (table k) d.1) a
    ready_forms (Front k y x) d =
        (λ s a. steps k d.0 y s d.1 d.2 (ready y (table k) d.1) a, ready_forms x d.3)
    ready_forms (Back l k y) d =
        (ready_forms l d.4, λ s a. steps k d.0 y s d.1 d.2 (ready y (table k) d.1) a)
    ready_forms (Infix l k y r) d = (
      ready_forms l d.3,
      λ s a. steps k d.0 y s d.1 d.2 (ready y (table k) d.1) a,
      ready_forms r d.4,
    )
    ready_forms _ d = absurd d
