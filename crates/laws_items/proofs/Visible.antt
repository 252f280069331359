-- What is read and printed holds no invisible group.
use Rattle.std.proofs.Common.{ℕ, List, [], ◌∷◌, ◌++◌, refl}
use Rattle.std.specs.Prelude.{false}
use Rattle.proc_macro2.specs.Token.{Token, Opens, Closes, Ident, Literal, Punct}
use Rattle.proc_macro2.specs.Spacing.{IsWellSpaced}
use Rattle.rust_leaf.specs.declared.punct.Spacing.{Spacing}
use Rattle.syn_grammar.specs.Kind.{Kind, Plain}
use Rattle.syn_grammar.specs.Tree.{Tree, AWord, ALiteral, AMark, ALifetime, Raw, Nil, Pair, First, Second, End, Again}
use Rattle.syn_grammar.specs.Tree.{Final, More, Group, Dropped, Called, Verbatim, Hidden, Node, Whole, Alone, Front}
use Rattle.syn_grammar.specs.Tree.{Back, Infix, marks, flat}
use Rattle.syn_grammar.specs.Kept.{kept}
use Rattle.syn_grammar.specs.Normal.{apart, normal}
use Rattle.syn_grammar.proofs.Every.{Every, no_row, AnyText, AnyMark, AnyTurn, in_any, out_any}
use Rattle.syn_grammar.proofs.Every.{every_kept, every_normal}
use Rattle.syn_grammar.proofs.Spaced.{Printed}
use Rattle.laws_items.specs.Visible.{AllVisible}

abbrev V : Tree → Type 0
V x = Every false AnyTurn Printed AnyText AnyText AnyMark AllVisible AllVisible x

pub spaced_visible : (ts : List Token) → IsWellSpaced ts → AllVisible ts
spaced_visible [] w = tt
spaced_visible (Opens d ∷ ts) w = (w.0, spaced_visible ts w.1)
spaced_visible (Closes d ∷ ts) w = (w.0, spaced_visible ts w.1)
spaced_visible (Ident cs ∷ ts) w = spaced_visible ts w.1
spaced_visible (Literal cs ∷ ts) w = spaced_visible ts w.1
spaced_visible (Punct c spacing ∷ ts) w = spaced_visible ts w.1

front : (ts us : List Token) → AllVisible (ts ++ us) → AllVisible ts
front [] us v = tt
front (Opens d ∷ ts) us v = (v.0, front ts us v.1)
front (Closes d ∷ ts) us v = (v.0, front ts us v.1)
front (Ident cs ∷ ts) us v = front ts us v
front (Literal cs ∷ ts) us v = front ts us v
front (Punct c spacing ∷ ts) us v = front ts us v

back : (ts us : List Token) → AllVisible (ts ++ us) → AllVisible us
back [] us v = v
back (Opens d ∷ ts) us v = back ts us v.1
back (Closes d ∷ ts) us v = back ts us v.1
back (Ident cs ∷ ts) us v = back ts us v
back (Literal cs ∷ ts) us v = back ts us v
back (Punct c spacing ∷ ts) us v = back ts us v

both : (ts us : List Token) → AllVisible ts → AllVisible us → AllVisible (ts ++ us)
both [] us v w = w
both (Opens d ∷ ts) us v w = (v.0, both ts us v.1 w)
both (Closes d ∷ ts) us v w = (v.0, both ts us v.1 w)
both (Ident cs ∷ ts) us v w = both ts us v w
both (Literal cs ∷ ts) us v w = both ts us v w
both (Punct c spacing ∷ ts) us v w = both ts us v w

of_marks : (c : ℕ) (cs : List ℕ) (spacing : Spacing) → AllVisible (marks c cs spacing)
of_marks c [] spacing = tt
of_marks c (d ∷ ds) spacing = of_marks d ds spacing

of_apart : (ts : List Token) → AllVisible ts → AllVisible (apart ts)
of_apart [] v = tt
of_apart (Punct c spacing ∷ []) v = tt
of_apart (Punct c spacing ∷ t ∷ ts) v = of_apart (t ∷ ts) v
of_apart (Opens d ∷ ts) v = (v.0, of_apart ts v.1)
of_apart (Closes d ∷ ts) v = (v.0, of_apart ts v.1)
of_apart (Ident cs ∷ ts) v = of_apart ts v
of_apart (Literal cs ∷ ts) v = of_apart ts v

-- of a node as of what stands in it
into : (k : Kind) (x : Tree) → V x → V (Node k x)
into k x h = in_any false AnyTurn Printed AnyText AnyText AnyMark AllVisible AllVisible no_row (λ ts i. i) k x h

inner : (k : Kind) (x : Tree) → V (Node k x) → V x
inner k x h = out_any false AnyTurn Printed AnyText AnyText AnyMark AllVisible AllVisible no_row (λ ts i. i) k x h

of_tokens : (x : Tree) → AllVisible (flat x) → V x
of_tokens (Raw ts) v = v
of_tokens (Verbatim x) v = v
of_tokens (Pair x y) v = (of_tokens x (front (flat x) (flat y) v), of_tokens y (back (flat x) (flat y) v))
of_tokens (First x) v = of_tokens x v
of_tokens (Second x) v = of_tokens x v
of_tokens (Again x y) v = (of_tokens x (front (flat x) (flat y) v), of_tokens y (back (flat x) (flat y) v))
of_tokens (Final x) v = of_tokens x v
of_tokens (More x c spacing y) v = (
  of_tokens x (front (flat x) (Punct c spacing ∷ flat y) v),
  tt,
  of_tokens y (back (flat x) (Punct c spacing ∷ flat y) v),
)
of_tokens (Group d x) v = (v.0, of_tokens x (front (flat x) (Closes d ∷ []) v.1))
of_tokens (Dropped x) v = of_tokens x v
of_tokens (Called n x) v = of_tokens x v
of_tokens (Node k x) v = into k x (of_tokens x v)
of_tokens (Whole x) v = of_tokens x v
of_tokens (Alone k y) v = of_tokens y v
of_tokens (Front k y x) v = (of_tokens y (front (flat y) (flat x) v), of_tokens x (back (flat y) (flat x) v))
of_tokens (Back l k y) v = (of_tokens l (front (flat l) (flat y) v), of_tokens y (back (flat l) (flat y) v))
of_tokens (Infix l k y r) v =
    let w = back (flat l) (flat y ++ flat r) v in (
      of_tokens l (front (flat l) (flat y ++ flat r) v),
      of_tokens y (front (flat y) (flat r) w),
      of_tokens r (back (flat y) (flat r) w),
    )
of_tokens _ v = tt

tokens : (x : Tree) → V x → AllVisible (flat x)
tokens (AWord cs) h = tt
tokens (ALiteral cs) h = tt
tokens (AMark c cs spacing) h = of_marks c cs spacing
tokens (ALifetime cs) h = tt
tokens (Raw ts) h = h
tokens Nil h = tt
tokens (Pair x y) h = both (flat x) (flat y) (tokens x h.0) (tokens y h.1)
tokens (First x) h = tokens x h
tokens (Second x) h = tokens x h
tokens End h = tt
tokens (Again x y) h = both (flat x) (flat y) (tokens x h.0) (tokens y h.1)
tokens (Final x) h = tokens x h
tokens (More x c spacing y) h = both (flat x) (Punct c spacing ∷ flat y) (tokens x h.0) (tokens y h.2)
tokens (Group d x) h = (h.0, both (flat x) (Closes d ∷ []) (tokens x h.1) (h.0, tt))
tokens (Dropped x) h = tokens x h
tokens (Called n x) h = tokens x h
tokens (Verbatim x) h = h
tokens (Hidden x) h = tt
tokens (Node k x) h = tokens x (inner k x h)
tokens (Whole x) h = tokens x h
tokens (Alone k y) h = tokens y h
tokens (Front k y x) h = both (flat y) (flat x) (tokens y h.0) (tokens x h.1)
tokens (Back l k y) h = both (flat l) (flat y) (tokens l h.0) (tokens y h.1)
tokens (Infix l k y r) h =
    both (flat l) (flat y ++ flat r) (tokens l h.0) (both (flat y) (flat r) (tokens y h.1) (tokens r h.2))

-- of every tree
pub printed_visible : (x : Tree) → AllVisible (flat x) → AllVisible (flat (normal (kept x)))
printed_visible x v =
    tokens (normal (kept x))
    (every_normal false AnyTurn AnyTurn Printed AnyText AnyText AnyMark AllVisible AllVisible tt (λ c cs i h. h) refl
    of_apart (λ p a b f h. f h) (λ a b f h. f h) Plain (kept x)
    (every_kept false AnyTurn Printed AnyText AnyText AnyMark AllVisible AllVisible tt (λ cs. tt) tt tt (λ c cs i h. h)
    (λ ts h. h) no_row x (of_tokens x v)))
