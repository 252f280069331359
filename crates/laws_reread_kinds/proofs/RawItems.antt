-- Raw items: what is read as one fits, since it is read so before whatever follows, and what its tokens begin with.
use Rattle.std.proofs.Common.{◌≡◌, List, [], ◌∷◌, ◌++◌, refl, sym, ◌∙◌, subst, append_assoc}
use Rattle.std.specs.Prelude.{ℕ, Bool, true, false, codes, cond, Some, None}
use Rattle.std.specs.Bool.{◌==◌}
use Rattle.std.proofs.lemmas.Bool.Decides.{Decides-eqb}
use Rattle.proc_macro2.specs.Token.{Token, Opens, Closes, Ident, Literal, Punct}
use Rattle.proc_macro2.specs.declared.delimiter.Delimiter.TheVariants.{Bracket}
use Rattle.rust_leaf.specs.declared.punct.Spacing.{Spacing}
use Rattle.rust_leaf.specs.declared.punct.Spacing.TheVariants.{Alone as Apart, Joint}
use Rattle.syn_grammar.specs.Kind.{OuterAttribute, OuterAttributes, Visibility}
use Rattle.syn_grammar.specs.Tree.{Tree, AMark, Again, Called, End, First, Group, Nil, Node, Pair, Second, Verbatim}
use Rattle.syn_grammar.specs.Tree.{flat}
use Rattle.syn_grammar.specs.Gram.{Gram, Verdict, alt, called, judged, never, nothing, ref, seq}
use Rattle.syn_grammar.specs.Look.{Look, behind, no, seen, sees, the_end, ◌then◌}
use Rattle.syn_grammar.specs.Say.{at, marks, ◌∶◌, ◌▸◌}
use Rattle.rust_leaf.specs.Keywords.{same_text}
use Rattle.std.proofs.lemmas.Slice.Eq.{bytes_eq-Decides}
use Rattle.syn_grammar.specs.Name.{the_visibility}
use Rattle.syn_grammar.specs.Table.{table}
use Rattle.syn_grammar.specs.Derives.{Derives}
use Rattle.laws_items.proofs.Places.{none_then}
use Rattle.laws_reread_kinds.proofs.Classes.{IsRawFront}

-- There is a token, and it is neither ; nor . nor ? nor else.
abbrev IsStart : List Token → Type 0
IsStart ts =
    (sees the_end ts ≡ false) × (sees (marks ";") ts ≡ false) × (sees (marks ".") ts ≡ false)
    × (sees (marks "?") ts ≡ false)
    × (sees (at "else") ts ≡ false)

-- the test holds neither at the end nor at these
abbrev pub Avoids : (List Token → Bool) → ℕ → Type 0
Avoids t c =
    ((us : List Token) → t (Punct c Joint ∷ us) ≡ false) × ((us : List Token) → t (Punct c Apart ∷ us) ≡ false)

abbrev pub Wants : (List Token → Bool) → Type 0
Wants t =
    (t [] ≡ false) × Avoids t 59 × Avoids t 46 × Avoids t 63
    × ((us : List Token) → t (Ident (codes "else") ∷ us) ≡ false)

opposed : {b : Bool} {A : Type 0} → b ≡ true → b ≡ false → A
opposed e f = let h : true ≡ false = sym e ∙ f in cc h

avoided : (t : List Token → Bool) (n c : ℕ) (i : Spacing) (us : List Token) → Avoids t n → t (Punct c i ∷ us) ≡ true
    → seen (cond (c == n) (Some us) None) ≡ false
avoided t n c i us w e = go (c == n) refl
  where
    never_there : (i : Spacing) → t (Punct n i ∷ us) ≡ true → ⊥
    never_there Joint f = opposed f (w.0 us)
    never_there Apart f = opposed f (w.1 us)

    go : (b : Bool) → (c == n) ≡ b → seen (cond b (Some us) None) ≡ false
    go true h = absurd (never_there i (subst (λ d. t (Punct d i ∷ us) ≡ true) ((Decides-eqb c n).0 h) e))
    go false h = refl

start_at : (t : List Token → Bool) → Wants t → (ts : List Token) → t ts ≡ true → IsStart ts
start_at t w [] e = opposed e w.0
start_at t w (Punct c spacing ∷ us) e =
    (refl, avoided t 59 c spacing us w.1 e, avoided t 46 c spacing us w.2 e, avoided t 63 c spacing us w.3 e, refl)
start_at t w (Ident cs ∷ us) e = (refl, refl, refl, refl, go (same_text (codes "else") cs) refl)
  where
    go : (b : Bool) → same_text (codes "else") cs ≡ b → seen (cond b (Some us) None) ≡ false
    go true h =
        opposed (subst (λ v. t (Ident v ∷ us) ≡ true) (sym ((bytes_eq-Decides (codes "else") cs).0 h)) e) (w.4 us)
    go false h = refl
start_at t w (Literal cs ∷ us) e = (refl, refl, refl, refl, refl)
start_at t w (Opens d ∷ us) e = (refl, refl, refl, refl, refl)
start_at t w (Closes d ∷ us) e = (refl, refl, refl, refl, refl)

-- The entry is a choice by such tests, and something by such a test may stand before it.
abbrev pub Skipping : Gram → Type 0
Skipping (alt t a nothing) = Wants t
Skipping _ = ⊥

abbrev pub Starting : Gram → Type 0
Starting (alt t a b) = Wants t × Starting b
Starting (called n g) = Starting g
Starting (seq a b) = Skipping a × Starting b
Starting never = Unit {0}
Starting _ = ⊥

skipping : (g : Gram) (x : Tree) (r : List Token) → Skipping g → Derives x g r → IsStart r → IsStart (flat x ++ r)
skipping (alt t a nothing) (First x) r w d i = start_at t w (flat x ++ r) d.0
skipping (alt t a nothing) (Second Nil) r w d i = i
skipping (alt t a nothing) (Second _) r w d i = absurd d.1
skipping (alt t a nothing) _ r w d i = absurd d
skipping _ x r w d i = absurd w

starting : (x : Tree) (g : Gram) (r : List Token) → Starting g → Derives x g r → IsStart (flat x ++ r)
starting (First x) (alt t a b) r s d = start_at t s.0 (flat x ++ r) d.0
starting (Second x) (alt t a b) r s d = starting x b r s.1 d.1
starting (Called n x) (called m g) r s d = starting x g r s d.1
starting (Pair x y) (seq a b) r s d =
    subst IsStart (sym (append_assoc (flat x) (flat y) r))
    (skipping a x (flat y ++ r) s.0 d.0 (starting y b r s.1 d.1))
starting _ (alt t a b) r s d = absurd d
starting _ (called n g) r s d = absurd d
starting _ (seq a b) r s d = absurd d
starting x never r s d = absurd (nowhere x d)
  where
    nowhere : (x : Tree) → Derives x never r → ⊥
    nowhere (Pair x y) d = d
    nowhere _ d = d
starting _ _ r s d = absurd s

visible : (v : Tree) (r : List Token) → Derives v (ref Visibility) r → IsStart r → IsStart (flat v ++ r)
unfolding table
visible (Node k x) r d i =
    skipping (table Visibility) x r (search) (subst (λ j. Derives x (table j) r) d.0 d.1) i
visible _ r d i = absurd d

none_behind : (l m : Look) (ts : List Token) → sees m ts ≡ false → sees (no l then m) ts ≡ false
none_behind l m ts e = go (seen (l ts))
  where
    go : (b : Bool) → seen (behind (cond b None (Some ts)) m) ≡ false
    go true = refl
    go false = e

-- attributes begin with # and a bracket
attribute_in : (x : Tree) (r : List Token) → Derives x (table OuterAttribute) r → IsRawFront (flat x ++ r)
unfolding table
attribute_in (Pair (AMark c cs spacing) (Group e x)) r d =
    subst (λ n. IsRawFront (flat (Pair (AMark n cs spacing) (Group e x)) ++ r)) (sym d.0.0)
    (subst (λ ns. IsRawFront (flat (Pair (AMark 35 ns spacing) (Group e x)) ++ r)) (sym d.0.1)
    (subst (λ f. IsRawFront (flat (Pair (AMark 35 [] spacing) (Group f x)) ++ r)) (sym d.1.0) (
      refl,
      refl,
      refl,
      none_behind (marks "..") (marks ".") (flat (Pair (AMark 35 [] spacing) (Group Bracket x)) ++ r) refl,
      refl,
      refl,
    )))
attribute_in (Pair (AMark c cs spacing) _) r d = absurd d.1
attribute_in (Pair _ y) r d = absurd d.0
attribute_in _ r d = absurd d

attribute : (x : Tree) (r : List Token) → Derives x (ref OuterAttribute) r → IsRawFront (flat x ++ r)
attribute (Node k x) r d = attribute_in x r (subst (λ j. Derives x (table j) r) d.0 d.1)
attribute _ r d = absurd d

attributed : (o : Tree) (r : List Token) → Derives o (table OuterAttributes) r → IsStart r → IsRawFront (flat o ++ r)
unfolding table
attributed End r d i =
    (i.0, i.1, none_then (marks "#") (marks "!") r d, none_behind (marks "..") (marks ".") r i.2, i.3, i.4)
attributed (Again x y) r d i =
    subst IsRawFront (sym (append_assoc (flat x) (flat y) r)) (attribute x (flat y ++ r) d.1)
attributed _ r d i = absurd d

-- behind attributes and a visibility
pub raw_front : (v : Tree → Verdict) (g : Gram) → Starting g → (x : Tree) (s : List Token)
    → Derives (Verbatim x) (judged v (ref OuterAttributes ▸ the_visibility ∶ ref Visibility ▸ g)) s
    → IsRawFront (flat x ++ s)
raw_front v g h (Pair (Node k o) (Pair (Called n u) y)) s d =
    let us : List Token = flat u ++ flat y in
    let i : IsStart (us ++ s) =
    subst IsStart (sym (append_assoc (flat u) (flat y) s))
    (visible u (flat y ++ s) d.1.1.0.1 (starting y g s h d.1.1.1)) in
    subst IsRawFront (sym (append_assoc (flat o) us s))
    (attributed o (us ++ s) (subst (λ j. Derives o (table j) (us ++ s)) d.1.0.0 d.1.0.1) i)
raw_front v g h (Pair (Node k o) (Pair _ y)) s d = absurd d.1.1.0
raw_front v g h (Pair (Node k o) _) s d = absurd d.1.1
raw_front v g h (Pair _ y) s d = absurd d.1.0
raw_front v g h _ s d = absurd d.1
