-- The step and the law of lets, and what statements that are lets or items need for theirs.
use Rattle.std.proofs.Common.{◌≡◌, List, [], ◌∷◌, ◌++◌, refl, sym, ap, ◌∙◌, subst, append_assoc}
use Rattle.std.proofs.Common.{⊎_elim, inl, inr}
use Rattle.std.specs.Prelude.{ℕ, Bool, true, false, ◌&&◌, cond, not, codes, Some, None}
use Rattle.std.proofs.lemmas.Bool.{false≢true}
use Rattle.proc_macro2.specs.Token.{Token, Ident}
use Rattle.syn_grammar.specs.Kind.{ALet, AStatement, AType, AnImpl, AnItem, Block, Expression, OnePattern}
use Rattle.syn_grammar.specs.Kind.{ItemMacro, OuterAttributes}
use Rattle.syn_grammar.specs.Kind.{Plain, Position, WithPlus}
use Rattle.syn_grammar.specs.Name.{Part, same_part, the_const, the_default, the_else, the_type, the_value}
use Rattle.rust_leaf.specs.declared.punct.Spacing.{Spacing}
use Rattle.syn_grammar.specs.Kind.{Kind}
use Rattle.syn_grammar.specs.Tree.{Tree, AMark, AWord, Called, First, Nil, Node, Pair, Second, Verbatim, Whole, flat}
use Rattle.syn_grammar.specs.Part.{choice, found, has, is_some, or_else, or_nil, the}
use Rattle.syn_grammar.specs.Gram.{Gram, Keep, ref}
use Rattle.syn_grammar.specs.Words.{is_name, is_path_keyword}
use Rattle.syn_grammar.specs.Say.{at, keyword, marks, optional, sign, ◌∶◌, ◌▸◌}
use Rattle.syn_grammar.specs.Statements.{ends_in_braces, is_let, let_form, macro_item_stands, macro_statement_stands}
use Rattle.syn_grammar.specs.Look.{all_attributes, sees, ◌then◌}
use Rattle.syn_grammar.specs.Statements.{item_stands, statement}
use Rattle.syn_grammar.specs.Types.{kept_if}
use Rattle.syn_grammar.specs.Ranks.{skips}
use Rattle.syn_grammar.specs.Table.{table}
use Rattle.syn_grammar.specs.Derives.{Derives}
use Rattle.syn_grammar.specs.Kept.{as_statement, held, kept}
use Rattle.syn_grammar.specs.Normal.{passed, place_of, normal_in, stands_behind}
use Rattle.laws_reread_kinds.specs.After.{behind}
use Rattle.laws_reread_kinds.specs.Covered.{has_form_step, has_step, is_begun, is_no_call, is_no_macro}
use Rattle.laws_reread_kinds.specs.Covered.{is_statement_form}
use Rattle.laws_reread_kinds.specs.Covered.{is_statement_item, item_of}
use Rattle.laws_items.proofs.Stays.{item_stays}
use Rattle.laws_reread_kinds.specs.Sees.{LacksAll}
use Rattle.laws_reread_kinds.proofs.Choices.{both_true, is_false}
use Rattle.laws_reread_kinds.proofs.Classes.{Class, IsAmong, Sign, TheWord, among_left, among_right, others}
use Rattle.laws_reread_kinds.proofs.Keywords.{reserved_let}
use Rattle.laws_reread_kinds.proofs.Starts.{expression_starts, starts}
use Rattle.laws_reread_kinds.proofs.Fits.{Fits, IsItem, IsMeant, has_closed_value, is_closed_value, is_item_form}
use Rattle.laws_reread_kinds.proofs.FirstWords.{ItemSeen, item_seen, visible_seen}
use Rattle.laws_reread_kinds.proofs.Passed.{behind_attributes}
use Rattle.laws_reread_kinds.proofs.Readies.{Ready, Step}
use Rattle.laws_reread_kinds.proofs.Fine.{At, Edge, Fine, fine_judged, fine_ref, fine_weaker}
use Rattle.laws_reread_kinds.proofs.Parts.{at_front, fine_ahead, found_called, found_mark, found_optional, found_ref}
use Rattle.laws_reread_kinds.proofs.Parts.{found_seq, found_text, maybe_ahead, maybe_ref, maybe_seq, meant_step}
use Rattle.laws_reread_kinds.proofs.Parts.{told_at}
use Rattle.laws_reread_kinds.proofs.Parts.{unseen_all}
use Rattle.laws_reread_kinds.proofs.Printed.{KindLaw, Printed, VerdictLaw, kept_entry, simple_law}
use Rattle.laws_items.proofs.Places.{kept_raw}
use Rattle.laws_reread_kinds.specs.After.{is_closed}
use Rattle.laws_reread_kinds.proofs.Braces.{else_printed}
use Rattle.laws_reread_kinds.proofs.ItemVerdicts.{same_has}
use Rattle.laws_reread_kinds.proofs.WholeItems.{taken_law, whole_item}
use Rattle.laws_reread_kinds.proofs.CrateMacros.{call_printed}

-- what stands behind the pattern
abbrev pub let_value : Gram
let_value = the_value ∶ ref (Expression Plain) ▸ optional (at "else") (the_else ∶ (keyword "else" ▸ ref Block))

abbrev pub let_end : Gram
let_end = optional (marks "=") (sign "=" ▸ let_value) ▸ sign ";"

abbrev pub let_type : Gram
let_type = optional (marks ":") (sign ":" ▸ the_type ∶ ref (AType WithPlus)) ▸ let_end

abbrev EndEdge : Edge
EndEdge y s = is_closed_value y ≡ true

abbrev Behind : Edge → Edge
Behind E (Pair x y) s = E y s
Behind E x s = Unit {0}

abbrev equals : List Class
equals = Sign 61 [] ∷ []

abbrev semicolon : List Class
semicolon = Sign 59 [] ∷ []

fine_end : Fine let_end EndEdge (At (equals ++ semicolon))
unfolding skips
fine_end = record { by = go }
  where
    go : (x : Tree) (s : List Token) → Fits x let_end → Ready x → EndEdge x s
        → Derives x let_end s × At (equals ++ semicolon) x s
    go (Pair (First (Pair q (Pair e (Second Nil)))) c) s f w n =
        let us : List Token = flat c ++ s in
        let (dc, ic) = (found_mark {c = 59} {cs = []}).fine.by c s f.1 w.1 tt in
        let (de, ie) = (found_called {n = the_value} (found_ref (Expression Plain) refl)).fine.by e us f.0.1.1.0
        w.0.1.0 (unseen_all (behind (Expression Plain)) semicolon us ((λ us. refl, tt), tt) ic) in
        let (dq, iq) = (found_mark {c = 61} {cs = []}).fine.by q ((flat e ++ []) ++ us) f.0.1.0 w.0.0 tt in
        let j = at_front equals q (Pair e (Second Nil)) us iq in (
          (
            (
              told_at (marks "=") true equals ((flat q ++ (flat e ++ [])) ++ us) (λ us. refl, tt) j,
              (dq, (de, (told_at (at "else") false semicolon us (λ us. refl, tt) ic, tt))),
            ),
            dc,
          ),
          at_front (equals ++ semicolon) (Pair q (Pair e (Second Nil))) c s
              (among_left equals semicolon ((flat q ++ (flat e ++ [])) ++ us) j),
        )
    go (Pair (First (Pair q (Pair (Called o e) (First (Called k (Pair (AWord cs) b)))))) c) s f w n =
        let us : List Token = flat c ++ s in
        let (dc, ic) = (found_mark {c = 59} {cs = []}).fine.by c s f.1 w.1 tt in
        let (db, ib) = (found_ref Block refl).fine.by b us f.0.1.1.1.1.1.1 w.0.1.1.1 tt in
        let (dw, iw) = (found_text "else").fine.by (AWord cs) (flat b ++ us) f.0.1.1.1.1.1.0 tt tt in
        let vs : List Token = (Ident cs ∷ flat b) ++ us in
        let i : sees (at "else") vs ≡ true = told_at (at "else") true (TheWord (codes "else") ∷ []) vs
        (λ us. refl, tt) iw
        in
        let (de, ie) = (fine_ref {k = Expression Plain}).by e vs f.0.1.1.0.1 w.0.1.0 (inr (n, i)) in
        let (dq, iq) = (found_mark {c = 61} {cs = []}).fine.by q ((flat e ++
        (Ident cs ∷ flat b)) ++ us) f.0.1.0 w.0.0 tt
        in
        let j = at_front equals q (Pair (Called o e) (First (Called k (Pair (AWord cs) b)))) us iq in (
          (
            (
              told_at (marks "=") true equals ((flat q ++ (flat e ++ (Ident cs ∷ flat b))) ++ us) (λ us. refl, tt) j,
              (dq, ((f.0.1.1.0.0, de), (i, (f.0.1.1.1.1.0, (dw, db))))),
            ),
            dc,
          ),
          at_front (equals ++ semicolon) (Pair q (Pair (Called o e) (First (Called k (Pair (AWord cs) b))))) c s
              (among_left equals semicolon ((flat q ++ (flat e ++ (Ident cs ∷ flat b))) ++ us) j),
        )
    go (Pair (First (Pair q (Pair (Called o e) (First (Called k (Pair _ b)))))) c) s f w n = absurd f.0.1.1.1.1.1.0
    go (Pair (First (Pair q (Pair (Called o e) (First (Called k _))))) c) s f w n = absurd f.0.1.1.1.1.1
    go (Pair (First (Pair q (Pair (Called o e) (First _)))) c) s f w n = absurd f.0.1.1.1.1
    go (Pair (First (Pair q (Pair _ (First z)))) c) s f w n = absurd f.0.1.1.0
    go (Pair (First (Pair q (Pair e (Second _)))) c) s f w n = absurd f.0.1.1.1.1
    go (Pair (First (Pair q (Pair e _))) c) s f w n = absurd f.0.1.1.1
    go (Pair (First (Pair q _)) c) s f w n = absurd f.0.1.1
    go (Pair (First _) c) s f w n = absurd f.0.1
    go (Pair (Second Nil) c) s f w n =
        let (dc, ic) = (found_mark {c = 59} {cs = []}).fine.by c s f.1 w.1 tt in (
          ((told_at (marks "=") false semicolon (flat c ++ s) (λ us. refl, tt) ic, tt), dc),
          among_right equals semicolon (flat c ++ s) ic,
        )
    go (Pair (Second _) c) s f w n = absurd f.0.1
    go (Pair _ c) s f w n = absurd f.0
    go _ s f w n = absurd f

fine_type : Fine let_type (Behind EndEdge) (At (Sign 58 [] ∷ (equals ++ semicolon)))
unfolding skips is_name is_path_keyword
fine_type =
    maybe_ahead (Behind EndEdge) (equals ++ semicolon)
    (found_optional (marks ":") (found_seq found_mark (found_called (found_ref (AType WithPlus) refl)) tt)
    (λ us. refl, tt)) fine_end
    ((search), ((search), ((search), ((search), ((search), ((search), ((search), tt)))))))
    (λ x y s c. c)

fine_let : Fine let_form (Behind (Behind (Behind EndEdge))) (At (TheWord (codes "let") ∷ []))
unfolding skips is_name is_path_keyword
fine_let =
    fine_ahead (Behind (Behind (Behind EndEdge))) (starts OnePattern) (found_text "let")
    (fine_ahead (Behind (Behind EndEdge)) (Sign 58 [] ∷ (equals ++ semicolon)) (found_ref OnePattern refl) fine_type (
      (search),
      (
        (search),
        ((search), ((search), ((search), ((search), ((search), ((search), ((search), tt))))))),
      ),
    )
    (λ x y s c. c)) tt (λ x y s c. c)

let_edge : (x : Tree) (s : List Token) → has_closed_value (First x) ≡ true → Behind (Behind (Behind EndEdge)) x s
let_edge (Pair k (Pair p (Pair t y))) s h = h
let_edge (Pair k (Pair p _)) s h = tt
let_edge (Pair k _) s h = tt
let_edge _ s h = tt

pub step_a_let : Step ALet
unfolding table skips
step_a_let =
    meant_step ALet refl refl
    (fine_weaker (λ x s. LacksAll [] s × IsMeant ALet x) (At (starts ALet))
    (fine_judged {A = λ x s. has_closed_value x ≡ true} {F = At (starts ALet)} is_let
    (fine_weaker (λ x s. has_closed_value (First x) ≡ true) (At (starts ALet)) fine_let let_edge (λ x s i c. i)))
    (λ x s c. c.1) (λ x s i c. i))

pub kept_true : (b : Bool) → kept_if b ≡ Keep → b ≡ true
kept_true true e = refl
kept_true false e = cc e

-- a let with else, by its parts
abbrev plain : Tree → Tree
plain v = Node (Expression Plain) (Whole v)

abbrev with_else : Tree → Tree → Tree → Tree → Tree → Tree → Tree → Tree
with_else k p t q v z c =
    Pair k (Pair p (Pair t (Pair (First (Pair q (Pair (Called the_value (plain v)) (First (Called the_else z))))) c)))

abbrev value_in : Tree → Tree
value_in (Pair k (Pair p (Pair t (Pair (First (Pair q (Pair (Called n (Node l (Whole v))) s))) c)))) = v
value_in x = x

record Facts (w v : Tree) : Type 0 where
  value : the the_value w ≡ plain v
  there : has the_else w ≡ true

elsed : (cs : List ℕ) (j : Kind) (p t : Tree) (b : ℕ) (bs : List ℕ) (i : Spacing) (v z : Tree) (c : ℕ) (ds : List ℕ)
    (g : Spacing) → found the_value t ≡ None → found the_else t ≡ None
    → Facts (with_else (AWord cs) (Node j p) t (AMark b bs i) v z (AMark c ds g)) v
unfolding same_part
elsed cs j p t b bs i v z c ds g e f = record {
  value = ap (λ o. or_nil (or_else o (Some (plain v)))) e;
  there = ap (λ o. is_some (or_else o (Some z))) f;
}

unelsed : (cs : List ℕ) (j : Kind) (p t : Tree) (c : ℕ) (ds : List ℕ) (g : Spacing) → found the_else t ≡ None
    → has the_else (Pair (AWord cs) (Pair (Node j p) (Pair t (Pair (Second Nil) (AMark c ds g))))) ≡ false
unelsed cs j p t c ds g e = ap (λ o. is_some (or_else o None)) e

abbrev lone : List ℕ → Kind → Tree → Tree → ℕ → List ℕ → Spacing → Part → Tree → ℕ → List ℕ → Spacing → Tree
lone cs j p t b bs i n v c ds g =
    Pair (AWord cs) (Pair (Node j p)
    (Pair t (Pair (First (Pair (AMark b bs i) (Pair (Called n v) (Second Nil)))) (AMark c ds g))))

unvalued : (cs : List ℕ) (j : Kind) (p t : Tree) (b : ℕ) (bs : List ℕ) (i : Spacing) (n : Part) (v : Tree) (c : ℕ)
    (ds : List ℕ) (g : Spacing) → n ≡ the_value → found the_else t ≡ None
    → has the_else (lone cs j p t b bs i n v c ds g) ≡ false
unfolding same_part
unvalued cs j p t b bs i n v c ds g e f =
    ap (λ m. has the_else (lone cs j p t b bs i m v c ds g)) e ∙ ap (λ o. is_some (or_else o None)) f

let_is : (k p t q x y z c : Tree) (n m : Part) (l : Kind) → n ≡ the_value → l ≡ Expression Plain → y ≡ Whole x
    → m ≡ the_else
    → Pair k (Pair p (Pair t (Pair (First (Pair q (Pair (Called n (Node l y)) (First (Called m z))))) c)))
    ≡ with_else k p t q x z c
let_is k p t q x y z c n m l e f h i =
    ap (λ j. Pair k (Pair p (Pair t (Pair (First (Pair q (Pair (Called j (Node l y)) (First (Called m z))))) c)))) e
    ∙ ap (λ j. Pair k
    (Pair p (Pair t (Pair (First (Pair q (Pair (Called the_value (Node j y)) (First (Called m z))))) c)))) f
    ∙ ap (λ w. Pair k (Pair p
    (Pair t (Pair (First (Pair q (Pair (Called the_value (Node (Expression Plain) w)) (First (Called m z))))) c)))) h
    ∙ ap (λ j. Pair k
    (Pair p (Pair t (Pair (First (Pair q (Pair (Called the_value (plain x)) (First (Called j z))))) c)))) i

-- as it is printed
abbrev type_part : Gram
type_part = optional (marks ":") (sign ":" ▸ the_type ∶ ref (AType WithPlus))

type_fits : (n : Part) (t : Tree) → same_part the_type n ≡ false → Fits t type_part → found n t ≡ None
type_fits n (First (Pair (AMark b bs i) (Called o y))) h f =
    ap (λ e. cond e (Some y) None) (ap (λ j. same_part j n) f.1.1.0 ∙ h)
type_fits n (First (Pair (AMark b bs i) _)) h f = absurd f.1.1
type_fits n (First (Pair _ y)) h f = absurd f.1.0
type_fits n (First _) h f = absurd f.1
type_fits n (Second Nil) h f = refl
type_fits n (Second _) h f = absurd f.1
type_fits n _ h f = absurd f

value_fits : (y : Tree) → Fits y (table (Expression Plain)) → (x : Tree) × (y ≡ Whole x)
unfolding table
value_fits (Whole x) f = (x, refl)
value_fits _ f = absurd f

abbrev whole_let : List ℕ → Kind → Tree → Tree → Tree → ℕ → List ℕ → Spacing → Tree
whole_let cs j p t s c ds g = Pair (AWord cs) (Pair (Node j p) (Pair t (Pair s (AMark c ds g))))

abbrev NonePrinted : (Tree → Type 0) → Type 0
NonePrinted P = (w : Tree) → has the_else w ≡ false → has_closed_value (First w) ≡ true → P w

abbrev SomePrinted : (Tree → Type 0) → Type 0
SomePrinted P =
    (k p t q v z c : Tree) → Facts (with_else k p t q v z c) v → Fits (with_else k p t q v z c) let_form
    → P (with_else k p t q v z c)

else_fits : (P : Tree → Type 0) → NonePrinted P → SomePrinted P → (cs : List ℕ) (j : Kind) (p t : Tree) (b : ℕ)
    (bs : List ℕ) (i : Spacing) (n : Part) (l : Kind) (y e : Tree) (c : ℕ) (ds : List ℕ) (g : Spacing)
    → Fits (whole_let cs j p t (First (Pair (AMark b bs i) (Pair (Called n (Node l y)) e))) c ds g) let_form
    → P (whole_let cs j p t (First (Pair (AMark b bs i) (Pair (Called n (Node l y)) e))) c ds g)
unfolding same_part
else_fits P none some cs j p t b bs i n l y (First (Called m z)) c ds g f =
    let q = f.1.1.1.0.1.1 in
    let v = value_fits y (subst (λ l. Fits y (table l)) q.0.1.0 q.0.1.3) in
    let u = let_is (AWord cs) (Node j p) t (AMark b bs i) v.0 y z (AMark c ds g) n m l q.0.0 q.0.1.0 v.1 q.1.1.0 in
    subst P (sym u)
    (some (AWord cs) (Node j p) t (AMark b bs i) v.0 z (AMark c ds g)
    (elsed cs j p t b bs i v.0 z c ds g (type_fits the_value t refl f.1.1.0) (type_fits the_else t refl f.1.1.0))
    (subst (λ w. Fits w let_form) u f))
else_fits P none some cs j p t b bs i n l y (Second Nil) c ds g f =
    none (lone cs j p t b bs i n (Node l y) c ds g)
    (unvalued cs j p t b bs i n (Node l y) c ds g f.1.1.1.0.1.1.0.0 (type_fits the_else t refl f.1.1.0)) refl
else_fits P none some cs j p t b bs i n l y (First _) c ds g f = absurd f.1.1.1.0.1.1.1.1
else_fits P none some cs j p t b bs i n l y (Second _) c ds g f = absurd f.1.1.1.0.1.1.1.1
else_fits P none some cs j p t b bs i n l y _ c ds g f = absurd f.1.1.1.0.1.1.1

part_fits : (P : Tree → Type 0) → NonePrinted P → SomePrinted P → (cs : List ℕ) (j : Kind) (p t s : Tree) (c : ℕ)
    (ds : List ℕ) (g : Spacing) → Fits (whole_let cs j p t s c ds g) let_form → P (whole_let cs j p t s c ds g)
unfolding same_part
part_fits P none some cs j p t (First (Pair (AMark b bs i) (Pair (Called n (Node l y)) e))) c ds g f =
    else_fits P none some cs j p t b bs i n l y e c ds g f
part_fits P none some cs j p t (First (Pair (AMark b bs i) (Pair (Called n _) e))) c ds g f = absurd f.1.1.1.0.1.1.0.1
part_fits P none some cs j p t (First (Pair (AMark b bs i) (Pair _ e))) c ds g f = absurd f.1.1.1.0.1.1.0
part_fits P none some cs j p t (First (Pair (AMark b bs i) _)) c ds g f = absurd f.1.1.1.0.1.1
part_fits P none some cs j p t (First (Pair _ s)) c ds g f = absurd f.1.1.1.0.1.0
part_fits P none some cs j p t (First _) c ds g f = absurd f.1.1.1.0.1
part_fits P none some cs j p t (Second Nil) c ds g f =
    none (whole_let cs j p t (Second Nil) c ds g) (unelsed cs j p t c ds g (type_fits the_else t refl f.1.1.0)) refl
part_fits P none some cs j p t (Second _) c ds g f = absurd f.1.1.1.0.1
part_fits P none some cs j p t _ c ds g f = absurd f.1.1.1.0

end_fits : (P : Tree → Type 0) → NonePrinted P → SomePrinted P → (cs : List ℕ) (j : Kind) (p t s c : Tree)
    → Fits (Pair (AWord cs) (Pair (Node j p) (Pair t (Pair s c)))) let_form
    → P (Pair (AWord cs) (Pair (Node j p) (Pair t (Pair s c))))
end_fits P none some cs j p t s (AMark c ds g) f = part_fits P none some cs j p t s c ds g f
end_fits P none some cs j p t s _ f = absurd f.1.1.1.1

let_fits : (P : Tree → Type 0) → NonePrinted P → SomePrinted P → (w : Tree) → Fits w let_form → P w
let_fits P none some (Pair (AWord cs) (Pair (Node j p) (Pair t (Pair s c)))) f =
    end_fits P none some cs j p t s c f
let_fits P none some (Pair (AWord cs) (Pair (Node j p) (Pair t _))) f = absurd f.1.1.1
let_fits P none some (Pair (AWord cs) (Pair (Node j p) _)) f = absurd f.1.1
let_fits P none some (Pair (AWord cs) (Pair _ y)) f = absurd f.1.0
let_fits P none some (Pair (AWord cs) _) f = absurd f.1
let_fits P none some (Pair _ y) f = absurd f.0
let_fits P none some _ f = absurd f

-- as it was read
type_read : (n : Part) (t : Tree) (r : List Token) → same_part the_type n ≡ false → Derives t type_part r
    → found n t ≡ None
type_read n (First (Pair (AMark b bs i) (Called o y))) r h d =
    ap (λ e. cond e (Some y) None) (ap (λ j. same_part j n) d.1.1.0 ∙ h)
type_read n (First (Pair (AMark b bs i) _)) r h d = absurd d.1.1
type_read n (First (Pair _ y)) r h d = absurd d.1.0
type_read n (First _) r h d = absurd d.1
type_read n (Second Nil) r h d = refl
type_read n (Second _) r h d = absurd d.1
type_read n _ r h d = absurd d

value_read : (y : Tree) (r : List Token) → Derives y (table (Expression Plain)) r → (x : Tree) × (y ≡ Whole x)
unfolding table
value_read (Whole x) r d = (x, refl)
value_read _ r d = absurd d

abbrev NoneRead : (Tree → Type 0) → Type 0
NoneRead P = (x : Tree) → has the_else x ≡ false → P x

abbrev SomeRead : (Tree → Type 0) → List Token → Type 0
SomeRead P r =
    (k p t q v z c : Tree) → Facts (with_else k p t q v z c) v → Derives (with_else k p t q v z c) let_form r
    → P (with_else k p t q v z c)

else_read : (P : Tree → Type 0) (r : List Token) → NoneRead P → SomeRead P r → (cs : List ℕ) (j : Kind) (p t : Tree)
    (b : ℕ) (bs : List ℕ) (i : Spacing) (n : Part) (l : Kind) (y e : Tree) (c : ℕ) (ds : List ℕ) (g : Spacing)
    → Derives (whole_let cs j p t (First (Pair (AMark b bs i) (Pair (Called n (Node l y)) e))) c ds g) let_form r
    → P (whole_let cs j p t (First (Pair (AMark b bs i) (Pair (Called n (Node l y)) e))) c ds g)
unfolding same_part
else_read P r none some cs j p t b bs i n l y (First (Called m z)) c ds g d =
    let q = d.1.1.1.0.1.1 in
    let us : List Token = flat z ++ (flat (AMark c ds g) ++ r) in
    let v = value_read y us (subst (λ l. Derives y (table l) us) q.0.1.0 q.0.1.1) in
    let u = let_is (AWord cs) (Node j p) t (AMark b bs i) v.0 y z (AMark c ds g) n m l q.0.0 q.0.1.0 v.1 q.1.1.0 in
    subst P (sym u)
    (some (AWord cs) (Node j p) t (AMark b bs i) v.0 z (AMark c ds g)
    (elsed cs j p t b bs i v.0 z c ds g (type_read the_value t _ refl d.1.1.0) (type_read the_else t _ refl d.1.1.0))
    (subst (λ w. Derives w let_form r) u d))
else_read P r none some cs j p t b bs i n l y (Second Nil) c ds g d =
    none (lone cs j p t b bs i n (Node l y) c ds g)
    (unvalued cs j p t b bs i n (Node l y) c ds g d.1.1.1.0.1.1.0.0 (type_read the_else t _ refl d.1.1.0))
else_read P r none some cs j p t b bs i n l y (First _) c ds g d = absurd d.1.1.1.0.1.1.1.1
else_read P r none some cs j p t b bs i n l y (Second _) c ds g d = absurd d.1.1.1.0.1.1.1.1
else_read P r none some cs j p t b bs i n l y _ c ds g d = absurd d.1.1.1.0.1.1.1

part_read : (P : Tree → Type 0) (r : List Token) → NoneRead P → SomeRead P r → (cs : List ℕ) (j : Kind) (p t s : Tree)
    (c : ℕ) (ds : List ℕ) (g : Spacing) → Derives (whole_let cs j p t s c ds g) let_form r
    → P (whole_let cs j p t s c ds g)
unfolding same_part
part_read P r none some cs j p t (First (Pair (AMark b bs i) (Pair (Called n (Node l y)) e))) c ds g d =
    else_read P r none some cs j p t b bs i n l y e c ds g d
part_read P r none some cs j p t (First (Pair (AMark b bs i) (Pair (Called n _) e))) c ds g d =
    absurd d.1.1.1.0.1.1.0.1
part_read P r none some cs j p t (First (Pair (AMark b bs i) (Pair _ e))) c ds g d = absurd d.1.1.1.0.1.1.0
part_read P r none some cs j p t (First (Pair (AMark b bs i) _)) c ds g d = absurd d.1.1.1.0.1.1
part_read P r none some cs j p t (First (Pair _ s)) c ds g d = absurd d.1.1.1.0.1.0
part_read P r none some cs j p t (First _) c ds g d = absurd d.1.1.1.0.1
part_read P r none some cs j p t (Second Nil) c ds g d =
    none (whole_let cs j p t (Second Nil) c ds g) (unelsed cs j p t c ds g (type_read the_else t _ refl d.1.1.0))
part_read P r none some cs j p t (Second _) c ds g d = absurd d.1.1.1.0.1
part_read P r none some cs j p t _ c ds g d = absurd d.1.1.1.0

end_read : (P : Tree → Type 0) (r : List Token) → NoneRead P → SomeRead P r → (cs : List ℕ) (j : Kind)
    (p t s c : Tree) → Derives (Pair (AWord cs) (Pair (Node j p) (Pair t (Pair s c)))) let_form r
    → P (Pair (AWord cs) (Pair (Node j p) (Pair t (Pair s c))))
end_read P r none some cs j p t s (AMark c ds g) d = part_read P r none some cs j p t s c ds g d
end_read P r none some cs j p t s _ d = absurd d.1.1.1.1

let_read : (P : Tree → Type 0) (r : List Token) → NoneRead P → SomeRead P r → (x : Tree) → Derives x let_form r → P x
let_read P r none some (Pair (AWord cs) (Pair (Node j p) (Pair t (Pair s c)))) d =
    end_read P r none some cs j p t s c d
let_read P r none some (Pair (AWord cs) (Pair (Node j p) (Pair t _))) d = absurd d.1.1.1
let_read P r none some (Pair (AWord cs) (Pair (Node j p) _)) d = absurd d.1.1
let_read P r none some (Pair (AWord cs) (Pair _ y)) d = absurd d.1.0
let_read P r none some (Pair (AWord cs) _) d = absurd d.1
let_read P r none some (Pair _ y) d = absurd d.0
let_read P r none some _ d = absurd d

-- the value of a let with else, as it was read and as it is printed
values : (k p t q v z c a o s b u y g : Tree) (r : List Token) → Facts (with_else k p t q v z c) v
    → Derives (with_else k p t q v z c) let_form r → kept_if (is_let (with_else k p t q v z c)) ≡ Keep
    → Fits (with_else a o s b u y g) let_form
    → kept (with_else a o s b u y g) ≡ normal_in Plain (kept (with_else k p t q v z c))
    → (ends_in_braces (flat u) ≡ false) × (is_closed u ≡ true)
unfolding table held passed place_of stands_behind
values k p t q v z c a o s b u y g r i d h f e =
    else_printed v u (flat z ++ (flat c ++ r)) d.1.1.1.0.1.1.0.1.1.1 d.1.1.1.0.1.1.1.0 not_braced
    f.1.1.1.0.1.1.0.1.3.2 (ap value_in e)
  where
    x : Tree
    x = with_else k p t q v z c

    not_braced : ends_in_braces (flat v) ≡ false
    not_braced =
        is_false (ends_in_braces (flat v))
        (sym (ap (λ a. not (a && ends_in_braces (flat (the the_value x)))) i.there
        ∙ ap (λ y. not (ends_in_braces (flat y))) i.value) ∙ kept_true (is_let x) h)

neither : (a b : Bool) → b ≡ false → (a && b) ≡ false
neither true b e = e
neither false b e = refl

let_verdict : VerdictLaw Plain (λ x. kept_if (is_let x)) let_form
let_verdict x w r c d f e h =
    let_read (λ x. has the_else w ≡ has the_else x → kept w ≡ normal_in Plain (kept x) → kept_if (is_let x) ≡ Keep
    → kept_if (is_let w) ≡ Keep) r
    (λ x n s e h. ap (λ b. kept_if (not (b && ends_in_braces (flat (the the_value w))))) (s ∙ n))
    (λ k p t q v z c i d s e h. let_fits
    (λ w. kept w ≡ normal_in Plain (kept (with_else k p t q v z c)) → kept_if (is_let w) ≡ Keep)
    (λ w n m e. ap (λ b. kept_if (not (b && ends_in_braces (flat (the the_value w))))) n)
    (λ a o s b u y g j f e. ap (λ l. kept_if (not l)) (neither (has the_else (with_else a o s b u y g)) _
    (ap (λ l. ends_in_braces (flat l)) j.value ∙ (values k p t q v z c a o s b u y g r i d h f e).0))) w f e)
    x d (same_has the_else Plain let_form x w r d f e) e h

abbrev inside_let : Tree → Tree
inside_let (First x) = x
inside_let x = x

let_meant : (x w : Tree) (r : List Token) → Derives x (table ALet) r → Fits w (table ALet)
    → kept w ≡ normal_in Plain (kept x) → has_closed_value w ≡ true
unfolding table
let_meant (First x) (First w) r d f e =
    let_read (λ x. has the_else w ≡ has the_else x → kept w ≡ normal_in Plain (kept x) → kept_if (is_let x) ≡ Keep
    → has_closed_value (First w) ≡ true) r
    (λ x n s e h. let_fits (λ w. has the_else w ≡ false → has_closed_value (First w) ≡ true) (λ w n m l. m)
    (λ a o s b u y g j f l. absurd (false≢true (sym l ∙ j.there))) w f.1 (s ∙ n))
    (λ k p t q v z c i d s e h. let_fits
    (λ w. kept w ≡ normal_in Plain (kept (with_else k p t q v z c)) → has_closed_value (First w) ≡ true)
    (λ w n m e. m)
    (λ a o s b u y g j f e. (values k p t q v z c a o s b u y g r i d h f e).1) w f.1 e)
    x d.1 (same_has the_else Plain let_form x w r d.1 f.1 (ap inside_let e)) (ap inside_let e) d.0
let_meant (First x) _ r d f e = absurd f
let_meant (Verbatim x) w r d f e = absurd (kept_raw (is_let x) d.0)
let_meant _ w r d f e = absurd d

pub law_a_let : KindLaw ALet
unfolding has_step held passed place_of table
law_a_let =
    taken_law ALet refl (λ x w r d f e o. let_meant x w r d f e) (λ x. refl)
    (λ x. refl) (λ q. refl) (λ q. refl) (kept_entry is_let let_verdict (simple_law Plain let_form refl))

-- statements
pub step_let : (x : Tree) (s : List Token) → Fits x (ref OuterAttributes ▸ ref ALet) → Ready x
    → Derives (Second (Second (First x))) statement s × At (starts AStatement) x s
unfolding skips is_name is_path_keyword
step_let (Pair o y) s g w =
    let (t, i) = (maybe_seq (maybe_ref OuterAttributes refl) (found_ref ALet refl)
    ((λ us. refl, tt), tt)).fine.by (Pair o y) s g w tt in
    let j = ((found_ref ALet refl).fine.by y s g.1 w.1 tt).1 in (
      (
        behind_attributes o y macro_item_stands s false t.0
            (told_at macro_item_stands false (starts ALet) (flat y ++ s) ((λ us. simp (reserved_let) refl), tt) j),
        (
          behind_attributes o y macro_statement_stands s false t.0
              (told_at macro_statement_stands false (starts ALet) (flat y ++ s)
              ((λ us. simp (reserved_let) refl), tt) j),
          (
            behind_attributes o y (at "let") s true t.0
                (told_at (at "let") true (starts ALet) (flat y ++ s) (λ us. refl, tt) j),
            t,
          ),
        ),
      ),
      inr (⊎_elim (λ h. inl h) (λ h. inr (⊎_elim (λ k. inl k) (λ k. absurd k) h)) i),
    )
step_let _ s g w = absurd g

-- statements
-- an item is seen behind its attributes, and nothing that is looked for before it
begun : (x : Tree) → is_item_form x ≡ true → is_begun x ≡ true
begun (Node AnImpl y) e = go (has the_default y) (has the_const y) e
  where
    go : (a b : Bool) → not b ≡ true → not (a && b) ≡ true
    go true b e = e
    go false b e = refl
begun _ e = refl

no_call : (x : Tree) → is_no_macro x ≡ true → is_no_call x ≡ true
no_call (Node (ItemMacro p) y) e = cc e
no_call _ e = refl

whole_stands : (y : Tree) (s : List Token) → Derives y whole_item s → is_begun (choice (item_of y)) ≡ true
    → is_no_call (choice (item_of y)) ≡ true
    → (sees (all_attributes then macro_item_stands) (flat y ++ s) ≡ false)
    × (sees (all_attributes then macro_statement_stands) (flat y ++ s) ≡ false)
    × (sees (all_attributes then at "let") (flat y ++ s) ≡ false)
    × (sees (all_attributes then item_stands) (flat y ++ s) ≡ true)
whole_stands (Pair o (Pair (Called n v) (Called m z))) s d e c =
    let r : Tree = Pair (Called n v) (Called m z) in
    let h : ItemSeen (flat r ++ s) =
    subst ItemSeen (sym (append_assoc (flat v) (flat z) s))
    (visible_seen v z s d.1.0.1 (item_seen z s d.1.1.1 e c)) in (
      behind_attributes o r macro_item_stands s false d.0 h.0,
      behind_attributes o r macro_statement_stands s false d.0 h.1,
      behind_attributes o r (at "let") s false d.0 h.2,
      behind_attributes o r item_stands s true d.0 h.3,
    )
whole_stands (Pair o (Pair (Called n v) _)) s d e c = absurd d.1.1
whole_stands (Pair o (Pair _ z)) s d e c = absurd d.1.0
whole_stands (Pair o _) s d e c = absurd d.1
whole_stands _ s d e c = absurd d

item_stands_there : (y : Tree) (s : List Token) → Fits y (table AnItem) → Derives y (table AnItem) s
    → IsItem (item_of y) → is_statement_item y ≡ true
    → (sees (all_attributes then macro_item_stands) (flat y ++ s) ≡ false)
    × (sees (all_attributes then macro_statement_stands) (flat y ++ s) ≡ false)
    × (sees (all_attributes then at "let") (flat y ++ s) ≡ false)
    × (sees (all_attributes then item_stands) (flat y ++ s) ≡ true)
unfolding table
item_stands_there (First y) s f d e c = whole_stands y s d.1 (begun (choice (item_of y)) e.1) c
item_stands_there (Verbatim y) s f d e c =
    let h = both_true (is_no_macro (choice (item_of y))) (is_begun (choice (item_of y))) c in
    whole_stands y s d.1 h.1 (no_call (choice (item_of y)) h.0)
item_stands_there _ s f d e c = absurd f

pub item_begins : (ts : List Token) → IsAmong (starts AnItem) ts → IsAmong (starts AStatement) ts
item_begins ts i =
    ⊎_elim (λ h. inl h)
    (λ j. inr (⊎_elim (λ h. inl h) (λ h. inr (inr
    (among_left (others (others (starts AnItem))) expression_starts ts h))) j)) i

pub step_item : (x : Tree) (s : List Token) → Fits x (ref AnItem) → Ready x
    → is_statement_form (Second (Second (Second (First x)))) ≡ true
    → Derives (Second (Second (Second (First x)))) statement s × At (starts AStatement) x s
unfolding skips
step_item (Node k y) s f w n =
    let (d, i) = (found_ref AnItem refl).fine.by (Node k y) s f w tt in
    let q =
    item_stands_there y s (subst (λ j. Fits y (table j)) f.0 f.3) (subst (λ j. Derives y (table j) s) d.0 d.1)
    (subst (λ j. IsMeant j y) f.0 f.4) n in (
      (q.0, (q.1, (q.2, (q.3, d)))),
      item_begins (flat (Node k y) ++ s) i,
    )
step_item _ s f w n = absurd f

pub let_printed : (x w : Tree) → Fits w statement → kept w ≡ normal_in Plain (kept (Second (Second (First x))))
    → (is_statement_form w ≡ true) × (as_statement (kept w) ≡ kept w)
let_printed x (Second (Second (First w))) f e = (refl, refl)
let_printed x (Second (Second (Second w))) f e = cc e
let_printed x (Second (Second _)) f e = absurd f.1.1
let_printed x (Second (First w)) f e = cc e
let_printed x (Second _) f e = absurd f.1
let_printed x (First w) f e = cc e
let_printed x _ f e = absurd f

abbrev is_item_place : Tree → Bool
is_item_place (Second (Second (Second (First x)))) = true
is_item_place _ = false

abbrev item_inside : Tree → Tree
item_inside (Second (Second (Second (First (Node k x))))) = x
item_inside x = x

kept_item : (x w : Tree) (r : List Token) → Derives (First x) (table AnItem) r → Fits w (table AnItem)
    → kept w ≡ normal_in Plain (kept (First x)) → is_statement_item (First x) ≡ true → is_statement_item w ≡ true
unfolding table
kept_item x (First w) r d f e h = call_printed x w r d f e h
kept_item x (Verbatim w) r d f e h = cc e
kept_item x _ r d f e h = absurd f

-- among statements
abbrev pub at_item : Tree → Tree
at_item x = Second (Second (Second (First (Node AnItem x))))

item_printed : (x w : Tree) (r : List Token) → Derives (First x) (table AnItem) r
    → is_statement_item (First x) ≡ true → Fits w statement → kept w ≡ normal_in Plain (kept (at_item (First x)))
    → (is_statement_form w ≡ true) × (as_statement (kept w) ≡ kept w)
unfolding held passed
item_printed x (Second (Second (Second (First (Node l w))))) r d n f e = (
  kept_item x w r d (subst (λ j. Fits w (table j)) f.1.1.1.1.0 f.1.1.1.1.3)
      (ap item_inside (subst (λ j. kept (Second (Second (Second (First (Node j w)))))
      ≡ normal_in Plain (kept (at_item (First x)))) f.1.1.1.1.0 e)) n,
  refl,
)
item_printed x (Second (Second (Second (First _)))) r d n f e = absurd f.1.1.1.1
item_printed x (Second (Second (Second (Second w)))) r d n f e = let g : false ≡ true = ap is_item_place e in cc g
item_printed x (Second (Second (Second _))) r d n f e = absurd f.1.1.1
item_printed x (Second (Second (First w))) r d n f e = let g : false ≡ true = ap is_item_place e in cc g
item_printed x (Second (Second _)) r d n f e = absurd f.1.1
item_printed x (Second (First w)) r d n f e = let g : false ≡ true = ap is_item_place e in cc g
item_printed x (Second _) r d n f e = absurd f.1
item_printed x (First w) r d n f e = let g : false ≡ true = ap is_item_place e in cc g
item_printed x _ r d n f e = absurd f

-- what is printed for a statement
abbrev pub Law : Position → List Token → Tree → Type 0
Law q r x =
    is_statement_form x ≡ true → Derives x (table AStatement) r
    → Printed (table AStatement) (normal_in (passed AStatement q) (kept x))
    → Printed (ref AStatement) (normal_in q (Node (held AStatement) (as_statement (kept x))))

pub item_law : (q : Position) (x : Tree) (r : List Token) → Derives x (table AnItem) r → Law q r (at_item x)
unfolding table held passed has_step has_form_step
item_law q (First x) r c o d i =
    let s = item_printed x i.tree r c o i.fits i.kept_is in
    record {
      tree = Node AStatement i.tree;
      fits = (refl, refl, ap flat s.1, i.fits, s.0);
      kept_is = ap (Node AStatement) (s.1 ∙ i.kept_is);
    }
item_law q (Verbatim x) r c o d i =
    record {
      tree = Node AStatement (at_item (Verbatim x));
      fits = (
        refl,
        refl,
        refl,
        (
          (flat x ++ r, d.0),
          (
            (flat x ++ r, d.1.0),
            (
              (flat x ++ r, d.1.1.0),
              (
                (flat x ++ r, d.1.1.1.0),
                (
                  refl,
                  refl,
                  refl,
                  (λ s. (item_stays AnItem (Node AnItem (Verbatim x)) r s refl (refl, c)).1),
                  (refl, refl),
                ),
              ),
            ),
          ),
        ),
        o,
      );
      kept_is = refl;
    }
item_law q _ r c o d i = absurd c
