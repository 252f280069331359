-- The tokens of a normal form are well spaced where those that were read are: a raw item that ends in a joint mark
-- stands in a row, and what follows it begins in normal form as it did, or the mark is set apart.
use Rattle.std.proofs.Common.{◌≡◌, ℕ, List, [], ◌∷◌, ◌++◌, refl, sym, ap, ◌∙◌, subst, append_assoc, inl, inr}
use Rattle.std.specs.Prelude.{◌⊎◌, Bool, true, false, ◌&&◌, not, ◌==◌, if◌then◌else◌, IsTrue}
use Rattle.std.proofs.lemmas.List.{append-nil}
use Rattle.proc_macro2.specs.Token.{Token, Opens, Closes, Ident, Literal, Punct}
use Rattle.proc_macro2.specs.declared.delimiter.Delimiter.TheVariants.{Parenthesis}
use Rattle.rust_leaf.specs.declared.punct.Spacing.TheVariants.{Alone as Apart, Joint}
use Rattle.proc_macro2.specs.Spacing.{quote, follows_mark, follows_quote, may_stand, IsWellSpaced}
use Rattle.syn_grammar.specs.Kind.{Position}
use Rattle.syn_grammar.specs.Tree.{Tree, flat}
use Rattle.syn_grammar.specs.Look.{sees}
use Rattle.syn_grammar.specs.Say.{parenthesis}
use Rattle.syn_grammar.specs.Calm.{MayPrecede}
use Rattle.syn_grammar.specs.Normal.{apart, apart_if, is_enclosed, normal_in}
use Rattle.syn_grammar.proofs.Every.{Every, EveryTurn, AnyText}
use Rattle.syn_grammar.proofs.Spaced.{next_any, both_precede, Printed, CalmMark, every_precedes}
use Rattle.laws_items.specs.Begins.{unspaced, first_of}
use Rattle.laws_items.proofs.Fronts.{first_apart}
use Rattle.laws_items.proofs.Statements.{Starts, TurnStarts}

-- what may stand before some tokens may stand before all that begin as they do
quote_first : (us : List Token) → follows_quote us ≡ follows_quote (first_of us)
quote_first [] = refl
quote_first (Opens d ∷ us) = refl
quote_first (Closes d ∷ us) = refl
quote_first (Ident cs ∷ us) = refl
quote_first (Literal cs ∷ us) = refl
quote_first (Punct c spacing ∷ us) = refl

mark_first : (c : ℕ) (us : List Token) → follows_mark c us ≡ follows_mark c (first_of us)
mark_first c [] = refl
mark_first c (Opens d ∷ us) = refl
mark_first c (Closes d ∷ us) = refl
mark_first c (Ident cs ∷ us) = refl
mark_first c (Literal cs ∷ us) = refl
mark_first c (Punct d spacing ∷ us) = refl

stands_first : (t : Token) (us : List Token) → may_stand t us ≡ may_stand t (first_of us)
stands_first (Opens d) us = refl
stands_first (Closes d) us = refl
stands_first (Ident cs) us = refl
stands_first (Literal cs) us = refl
stands_first (Punct c Apart) us = refl
stands_first (Punct c Joint) us =
    ap (λ b. if c == quote then b else follows_mark c us) (quote_first us)
    ∙ ap (λ b. if c == quote then follows_quote (first_of us) else b) (mark_first c us)

stands_alike : (t : Token) (us vs : List Token) → first_of us ≡ first_of vs → IsTrue (may_stand t us)
    → IsTrue (may_stand t vs)
stands_alike t us vs e h = sym (stands_first t us ∙ ap (may_stand t) e ∙ sym (stands_first t vs)) ∙ h

pub alike : (ts us vs : List Token) → IsWellSpaced (ts ++ us) → first_of us ≡ first_of vs → IsWellSpaced vs
    → IsWellSpaced (ts ++ vs)
alike [] us vs w e v = v
alike (t ∷ []) us vs w e v = (stands_alike t us vs e w.0, v)
alike (t ∷ u ∷ ts) us vs w e v = (sym (next_any t u (ts ++ us) (ts ++ vs)) ∙ w.0, alike (u ∷ ts) us vs w.1 e v)

-- the last of the tokens is no quote
abbrev pub unquoted : List Token → Bool
unquoted [] = true
unquoted (Punct c spacing ∷ []) = not (c == quote)
unquoted (t ∷ ts) = unquoted ts

pub unquoted_next : (t u : Token) (ts : List Token) → unquoted (t ∷ u ∷ ts) ≡ unquoted (u ∷ ts)
unquoted_next (Opens d) u ts = refl
unquoted_next (Closes d) u ts = refl
unquoted_next (Ident cs) u ts = refl
unquoted_next (Literal cs) u ts = refl
unquoted_next (Punct c spacing) u ts = refl

apart_next : (t u : Token) (ts : List Token) → apart (t ∷ u ∷ ts) ≡ t ∷ apart (u ∷ ts)
apart_next (Opens d) u ts = refl
apart_next (Closes d) u ts = refl
apart_next (Ident cs) u ts = refl
apart_next (Literal cs) u ts = refl
apart_next (Punct c spacing) u ts = refl

apart_one : (t : Token) (us s : List Token) → unquoted (t ∷ []) ≡ true → IsTrue (may_stand t us) → IsWellSpaced s
    → IsWellSpaced (apart (t ∷ []) ++ s)
apart_one (Opens d) us s e h v = (h, v)
apart_one (Closes d) us s e h v = (h, v)
apart_one (Ident cs) us s e h v = (h, v)
apart_one (Literal cs) us s e h v = (h, v)
apart_one (Punct c spacing) us s e h v = (e, v)

pub apart_precedes : (ts us : List Token) → unquoted ts ≡ true → IsWellSpaced (ts ++ us) → MayPrecede (apart ts)
apart_precedes [] us e w s v = v
apart_precedes (t ∷ []) us e w s v = apart_one t us s e w.0 v
apart_precedes (t ∷ u ∷ ts) us e w s v =
    subst (λ vs. IsWellSpaced (vs ++ s)) (sym (apart_next t u ts)) (
      stands_alike t ((u ∷ ts) ++ us) (apart (u ∷ ts) ++ s) (sym (first_apart (u ∷ ts) s)) w.0,
      apart_precedes (u ∷ ts) us (sym (unquoted_next t u ts) ∙ e) w.1 s v,
    )

-- an element may stand before those behind it
abbrev pub Stands : Tree → Tree → Type 0
Stands x y = (s : List Token) → IsWellSpaced (flat y ++ s) → IsWellSpaced (flat x ++ (flat y ++ s))

-- and so may its normal form
abbrev pub Loose : Tree → Tree → Type 0
Loose x y = Stands x y
    × ((p : Position) → Stands (apart_if (is_enclosed y (normal_in p y)) (normal_in p x)) (normal_in p y))

abbrev pub LooseTurn : Tree → Tree → Type 0 → Type 0
LooseTurn x y e = e ⊎ Loose x y

abbrev pub StandingTurn : Tree → Tree → Type 0 → Type 0
StandingTurn x y e = e ⊎ Stands x y

-- what is asked of what is kept, and of a normal form
abbrev pub Quiet : Tree → Type 0
Quiet x = Every true LooseTurn Printed AnyText AnyText CalmMark MayPrecede MayPrecede x

abbrev pub QuietTurns : Tree → Type 0
QuietTurns x = EveryTurn true LooseTurn Printed AnyText AnyText CalmMark MayPrecede MayPrecede x

abbrev pub Still : Tree → Type 0
Still x = Every true StandingTurn Printed AnyText AnyText CalmMark MayPrecede MayPrecede x

-- such a normal form stands before all that is well spaced
pub precedes : (x : Tree) → Still x → MayPrecede (flat x)
precedes x h = every_precedes true StandingTurn turn_precedes x h
  where
    turn_precedes : (x y : Tree) → (Still x → MayPrecede (flat x)) → MayPrecede (flat y) → StandingTurn x y (Still x)
        → MayPrecede (flat x ++ flat y)
    turn_precedes x y f m (inl h) = both_precede (flat x) (flat y) (f h) m
    turn_precedes x y f m (inr h) = λ s v. subst IsWellSpaced (sym (append_assoc (flat x) (flat y) s)) (h s (m s v))

-- a raw item whose last mark was read before what begins so
empty_first : (us zs : List Token) → ((v : List Token) → first_of us ≡ first_of (zs ++ v)) → first_of us ≡ [] → ⊥
empty_first us [] f e = let g : [] ≡ Ident [] ∷ [] = sym e ∙ f (Ident [] ∷ []) in cc g
empty_first us (z ∷ zs) f e = let g : [] ≡ unspaced z ∷ [] = sym e ∙ f [] in cc g

longer_first : (us zs v : List Token) → (first_of us ≡ [] → ⊥) → first_of us ≡ first_of (zs ++ [])
    → first_of us ≡ first_of (zs ++ v)
longer_first us [] v f e = absurd (f e)
longer_first us (z ∷ zs) v f e = e

paren_first : (zs v : List Token) → sees parenthesis zs ≡ true → first_of (zs ++ v) ≡ Opens Parenthesis ∷ []
paren_first (Opens Parenthesis ∷ zs) v e = refl
paren_first (Opens _ ∷ zs) v e = cc
paren_first (Closes d ∷ zs) v e = cc
paren_first (Ident cs ∷ zs) v e = cc
paren_first (Literal cs ∷ zs) v e = cc
paren_first (Punct c spacing ∷ zs) v e = cc
paren_first [] v e = cc

was_paren : (a b : Bool) → a && not b ≡ false → a ≡ true → b ≡ true
was_paren true true e f = refl
was_paren true false e f = cc
was_paren false b e f = cc

-- where no parenthesis was added what follows begins as it did
pub unenclosed : (us : List Token) (y : Tree) (p : Position) (s : List Token) → TurnStarts us y
    → is_enclosed y (normal_in p y) ≡ false → first_of us ≡ first_of (flat (normal_in p y) ++ s)
unenclosed us y p s h e = go (h.1 p [])
  where
    zs : List Token
    zs = flat (normal_in p y)

    go : Starts us (zs ++ []) → first_of us ≡ first_of (zs ++ s)
    go (inl i) = longer_first us zs s (empty_first us (flat y) h.0) i
    go (inr i) =
        let here = ap (sees parenthesis) (sym (append-nil zs)) ∙ i in
        let before = was_paren (sees parenthesis zs) (sees parenthesis (flat y)) e here in
        h.0 [] ∙ paren_first (flat y) [] before ∙ sym (paren_first zs s here)
