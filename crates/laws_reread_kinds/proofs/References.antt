-- The step and the law of a reference pattern: a mut behind its & is its own.
use Rattle.std.proofs.Common.{◌≡◌, List, [], ◌∷◌, ◌++◌, refl, sym, ap, ◌∙◌, subst, append_assoc, ⊎_elim, inl, inr}
use Rattle.std.specs.Prelude.{Bool, true, false, ◌⊎◌, ◌&&◌, not, codes, cond, Some, None}
use Rattle.std.proofs.lemmas.Bool.{false≢true}
use Rattle.proc_macro2.specs.Token.{Token}
use Rattle.syn_grammar.specs.Kind.{Kind, Position, Plain, IdentPattern, OnePattern, ReferencePattern}
use Rattle.syn_grammar.specs.Tree.{Tree, AWord, Nil, Pair, First, Second, Node, Back, flat}
use Rattle.syn_grammar.specs.Part.{choice}
use Rattle.syn_grammar.specs.Gram.{Gram, alt, judged, ref}
use Rattle.syn_grammar.specs.Look.{seen, sees}
use Rattle.syn_grammar.specs.Say.{◌▸◌, at, keyword, optional}
use Rattle.syn_grammar.specs.Patterns.{binding}
use Rattle.syn_grammar.specs.Ranks.{skips}
use Rattle.syn_grammar.specs.Table.{table}
use Rattle.syn_grammar.specs.Tidy.{tidy}
use Rattle.syn_grammar.specs.Derives.{Derives}
use Rattle.syn_grammar.specs.Kept.{forget, held, is_there, kept}
use Rattle.syn_grammar.specs.Normal.{passed, place_of, normal_in}
use Rattle.laws_reread_kinds.proofs.Choices.{either_or, either_same, other_word, second_lacks}
use Rattle.laws_reread_kinds.specs.After.{behind}
use Rattle.laws_reread_kinds.specs.Covered.{has_step, is_taken}
use Rattle.laws_reread_kinds.specs.Sees.{Lacks, LacksAll}
use Rattle.laws_reread_kinds.proofs.Classes.{Class, TheWord}
use Rattle.laws_reread_kinds.proofs.Starts.{starts}
use Rattle.laws_reread_kinds.proofs.Sights.{ident_not}
use Rattle.laws_reread_kinds.proofs.Keywords.{reserved_mut}
use Rattle.laws_reread_kinds.proofs.Fits.{Fits, IsMeant, has_own_mut, is_mut, is_mut_name, is_own_mut}
use Rattle.laws_reread_kinds.proofs.Readies.{Ready, Step}
use Rattle.laws_reread_kinds.proofs.Fine.{Fine, Any, Edge, At, Without, fine_seq}
use Rattle.laws_reread_kinds.proofs.Parts.{Found, at_front, found_mark, found_ref, found_text, meant_step, told_at}
use Rattle.laws_reread_kinds.proofs.Printed.{KindLaw, IsPlaced, Printed, simple_law}
use Rattle.laws_reread_kinds.proofs.KindLaws.{chosen_fits, chosen_read, there_normal}

ident_in : (x : Tree) (s : List Token) → Derives x (table IdentPattern) s → is_mut_name (Node IdentPattern x) ≡ false
    → Lacks (at "mut") (flat x ++ s)
unfolding table
ident_in (Pair (First r) y) s d e =
    subst (Lacks (at "mut")) (sym (append_assoc (flat r) (flat y) s))
    (other_word (codes "mut") (codes "ref") (flat r ++ (flat y ++ s)) refl d.0.0)
ident_in (Pair (Second Nil) (Pair (First m) y)) s d e = cc
ident_in (Pair (Second Nil) (Pair (Second Nil) (Pair (AWord cs) e))) s d h =
    ap (λ b. seen (cond b (Some (flat e ++ s)) None)) (ident_not (codes "mut") cs reserved_mut d.1.1.0)
ident_in (Pair (Second Nil) (Pair (Second Nil) (Pair _ e))) s d h = absurd d.1.1.0
ident_in (Pair (Second Nil) (Pair (Second Nil) _)) s d h = absurd d.1.1
ident_in (Pair (Second Nil) (Pair (Second _) y)) s d h = absurd d.1.0.1
ident_in (Pair (Second Nil) (Pair _ y)) s d h = absurd d.1.0
ident_in (Pair (Second Nil) _) s d h = absurd d.1
ident_in (Pair (Second _) y) s d h = absurd d.0.1
ident_in (Pair _ y) s d h = absurd d.0
ident_in _ s d h = absurd d

ident_lacks : (k : Kind) (x : Tree) (s : List Token) → k ≡ IdentPattern → Derives x (table k) s
    → is_mut_name (Node k x) ≡ false → Lacks (at "mut") (flat x ++ s)
ident_lacks k x s e d h =
    ident_in x s (subst (λ j. Derives x (table j) s) e d) (subst (λ j. is_mut_name (Node j x) ≡ false) e h)

pattern_in : (x : Tree) (s : List Token) → Derives x (table OnePattern) s → is_mut_name (choice x) ≡ false
    → Lacks (at "mut") (flat x ++ s)
unfolding table
pattern_in (First (Node k x)) s d e = ident_lacks k x s d.1.0 d.1.1 e
pattern_in (First _) s d e = absurd d.1
pattern_in (Second x) s d e =
    second_lacks ((at "ref") (flat x ++ s)) ((at "mut") (flat x ++ s)) (binding (flat x ++ s)) d.0
pattern_in _ s d e = absurd d

pattern_lacks : (x : Tree) (s : List Token) → Derives x (ref OnePattern) s → is_mut x ≡ false
    → Lacks (at "mut") (flat x ++ s)
pattern_lacks (Node k x) s d e = pattern_in x s (subst (λ j. Derives x (table j) s) d.0 d.1) e
pattern_lacks _ s d e = absurd d

abbrev pub PatternEdge : Edge
PatternEdge y s = At (starts OnePattern) y s × (is_mut y ≡ false → Lacks (at "mut") (flat y ++ s))

found_pattern : Found (ref OnePattern) (behind OnePattern) (starts OnePattern)
unfolding skips
found_pattern = found_ref OnePattern refl

fine_pattern : Fine (ref OnePattern) (Without (behind OnePattern)) PatternEdge
fine_pattern =
    record { by = λ x s f w a. let (d, i) = found_pattern.fine.by x s f w a in (d, (i, pattern_lacks x s d)) }

-- a mut, or none before what begins with none
abbrev pub MutEdge : Edge
MutEdge o us = (is_there o ≡ true) ⊎ Lacks (at "mut") us

abbrev pub mut_class : List Class
mut_class = TheWord (codes "mut") ∷ []

fine_mut : Fine (optional (at "mut") (keyword "mut")) MutEdge Any
fine_mut = record { by = go }
  where
    go : (x : Tree) (s : List Token) → Fits x (optional (at "mut") (keyword "mut")) → Ready x → MutEdge x s
        → Derives x (optional (at "mut") (keyword "mut")) s × Any x s
    go (First x) s f w a =
        let (d, i) = (found_text "mut").fine.by x s f.1 w tt in
        ((told_at (at "mut") true mut_class (flat x ++ s) (λ us. refl, tt) i, d), tt)
    go (Second Nil) s f w a = ((⊎_elim (λ e. cc) (λ e. e) a, tt), tt)
    go (Second _) s f w a = absurd f.1
    go _ s f w a = absurd f

abbrev pub OwnEdge : Edge
OwnEdge x s = LacksAll (behind OnePattern) s × (is_own_mut x ≡ true)

fine_own : Fine (optional (at "mut") (keyword "mut") ▸ ref OnePattern) OwnEdge Any
fine_own =
    fine_seq OwnEdge Any fine_mut fine_pattern (λ x y s c. c.0)
    (λ x y s i c. ⊎_elim (λ e. inl e) (λ e. inr (i.1 e)) (either_or (is_there x) (is_mut y) c.1))
    (λ x y s j i c. tt)

abbrev pub ReferenceEdge : Edge
ReferenceEdge x s = LacksAll (behind ReferencePattern) s × IsMeant ReferencePattern x

pub step_reference_pattern : Step ReferencePattern
unfolding table skips
step_reference_pattern =
    meant_step ReferencePattern refl refl
    (fine_seq ReferenceEdge (At (starts ReferencePattern)) found_mark.fine fine_own (λ x y s c. c)
    (λ x y s i c. tt) (λ x y s j i c. at_front (starts ReferencePattern) x y s j))

name_same : (a b c d : Bool) → a ≡ c → b ≡ d → (not a && b) ≡ (not c && d)
name_same a b c d e f = ap (λ x. not x && b) e ∙ ap (λ x. not c && x) f

-- the same of what was read and of what is printed
node_fits : (k : Kind) (x : Tree) → Fits x (table k) → is_mut_name (kept (Node k x)) ≡ is_mut_name (Node k x)
unfolding held table
node_fits IdentPattern (Pair r (Pair m y)) f =
    name_same (is_there (kept r)) (is_there (kept m)) (is_there r) (is_there m) (chosen_fits r _ f.0)
    (chosen_fits m _ f.1.0)
node_fits IdentPattern (Pair r _) f = absurd f.1
node_fits IdentPattern _ f = absurd f
node_fits _ x f = refl

mut_fits : (x : Tree) (g : Gram) → Fits x g → is_mut_name (choice (kept x)) ≡ is_mut_name (choice x)
mut_fits (First x) (alt t a b) f = mut_fits x a f.1
mut_fits (First x) (judged v g) f = mut_fits x g f.1
mut_fits (Second x) (alt t a b) f = mut_fits x b f.1
mut_fits (First x) _ f = absurd f
mut_fits (Second x) _ f = absurd f
mut_fits (Node k x) (ref l) f = node_fits k x f.3
mut_fits (Node k x) _ f = absurd f
mut_fits (Back l k y) _ f = absurd f
mut_fits _ _ f = refl

node_read : (k : Kind) (x : Tree) (s : List Token) → Derives x (table k) s
    → is_mut_name (normal_in Plain (kept (Node k x))) ≡ is_mut_name (Node k x)
unfolding held passed table
node_read IdentPattern (Pair r (Pair m y)) s d =
    name_same (is_there (normal_in Plain (kept r))) (is_there (normal_in Plain (kept m))) (is_there r) (is_there m)
    (there_normal Plain (kept r) ∙ chosen_read r _ (flat (Pair m y) ++ s) d.0)
    (there_normal Plain (kept m) ∙ chosen_read m _ (flat y ++ s) d.1.0)
node_read IdentPattern (Pair r _) s d = absurd d.1
node_read IdentPattern _ s d = absurd d
node_read _ x s d = refl

mut_read : (x : Tree) (g : Gram) (r : List Token) → Derives x g r
    → is_mut_name (choice (normal_in Plain (kept x))) ≡ is_mut_name (choice x)
mut_read (First x) (alt t a b) s d = mut_read x a s d.1
mut_read (First x) (judged v g) s d = mut_read x g s d.1
mut_read (Second x) (alt t a b) s d = mut_read x b s d.1
mut_read (First x) _ s d = absurd d
mut_read (Second x) _ s d = absurd d
mut_read (Node k x) (ref l) s d = node_read k x s d.1
mut_read (Node k x) _ s d = absurd d
mut_read (Back l k y) _ s d = absurd d
mut_read _ _ s d = refl

pattern_fits : (w : Tree) → Fits w (ref OnePattern) → is_mut (kept w) ≡ is_mut w
pattern_fits (Node k x) f = ap (λ j. is_mut_name (choice (forget j (kept x)))) f.0 ∙ mut_fits x (table k) f.3
pattern_fits _ f = absurd f

pattern_read : (x : Tree) (r : List Token) → Derives x (ref OnePattern) r → is_mut (normal_in Plain (kept x)) ≡ is_mut x
unfolding held passed
pattern_read (Node k x) r d =
    ap (λ j. is_mut_name (choice (tidy (held j) (normal_in (passed (held j) Plain) (forget j (kept x)))))) d.0
    ∙ mut_read x (table k) r d.1
pattern_read _ r d = absurd d

own_fits : (w : Tree) → Fits w (table ReferencePattern) → has_own_mut (kept w) ≡ has_own_mut w
unfolding table
own_fits (Pair u (Pair o p)) f =
    either_same (is_there (kept o)) (is_mut (kept p)) (is_there o) (is_mut p) (chosen_fits o _ f.1.0)
    (pattern_fits p f.1.1)
own_fits (Pair u _) f = absurd f.1
own_fits _ f = absurd f

own_read : (x : Tree) (r : List Token) → Derives x (table ReferencePattern) r
    → has_own_mut (normal_in Plain (kept x)) ≡ has_own_mut x
unfolding table
own_read (Pair u (Pair o p)) r d =
    either_same (is_there (normal_in Plain (kept o))) (is_mut (normal_in Plain (kept p))) (is_there o) (is_mut p)
    (there_normal Plain (kept o) ∙ chosen_read o _ (flat p ++ r) d.1.0) (pattern_read p r d.1.1)
own_read (Pair u _) r d = absurd d.1
own_read _ r d = absurd d

-- and where no mut was seen none begins it
node_seen : (k : Kind) (x : Tree) (s : List Token) → Derives x (table k) s → is_mut_name (Node k x) ≡ true
    → sees (at "mut") (flat x ++ s) ≡ true
unfolding table
node_seen IdentPattern (Pair (Second Nil) (Pair (First m) y)) s d e =
    subst (λ us. sees (at "mut") us ≡ true) (sym (append_assoc (flat m) (flat y) s)) d.1.0.0
node_seen IdentPattern (Pair (Second Nil) y) s d e = absurd (false≢true e)
node_seen IdentPattern (Pair (Second _) y) s d e = absurd d.0.1
node_seen IdentPattern (Pair (First r) (Pair m y)) s d e = absurd (false≢true e)
node_seen IdentPattern (Pair (First r) _) s d e = absurd d.1
node_seen IdentPattern (Pair _ y) s d e = absurd d.0
node_seen IdentPattern _ s d e = absurd d
node_seen _ x s d e = absurd (false≢true e)

mut_seen : (x : Tree) (g : Gram) (s : List Token) → Derives x g s → is_mut_name (choice x) ≡ true
    → sees (at "mut") (flat x ++ s) ≡ true
mut_seen (First x) (alt t a b) s d e = mut_seen x a s d.1 e
mut_seen (First x) (judged v g) s d e = mut_seen x g s d.1 e
mut_seen (Second x) (alt t a b) s d e = mut_seen x b s d.1 e
mut_seen (First x) _ s d e = absurd d
mut_seen (Second x) _ s d e = absurd d
mut_seen (Node k x) (ref l) s d e = node_seen k x s d.1 e
mut_seen (Node k x) _ s d e = absurd d
mut_seen _ _ s d e = absurd (false≢true e)

is_mut_seen : (x : Tree) (r : List Token) → Derives x (ref OnePattern) r → is_mut x ≡ true
    → sees (at "mut") (flat x ++ r) ≡ true
is_mut_seen (Node k x) r d e = mut_seen x (table k) r d.1 e
is_mut_seen _ r d e = absurd d

own_meant : (x : Tree) (r : List Token) → Derives x (table ReferencePattern) r → has_own_mut x ≡ true
unfolding table
own_meant (Pair u (Pair (Second Nil) p)) r d = go (is_mut p) refl
  where
    go : (b : Bool) → is_mut p ≡ b → not b ≡ true
    go false h = refl
    go true h =
        let f : true ≡ false = sym (is_mut_seen p r d.1.1 h) ∙ d.1.0.0 in
        cc f
own_meant (Pair u (Pair (First o) p)) r d = refl
own_meant (Pair u (Pair (Second _) p)) r d = absurd d.1.0.1
own_meant (Pair u (Pair _ p)) r d = absurd d.1.0
own_meant (Pair u _) r d = absurd d.1
own_meant _ r d = absurd d

pub law_reference_pattern : KindLaw ReferencePattern
unfolding has_step held passed place_of table
law_reference_pattern = record { entry = λ q l. simple_law Plain (table ReferencePattern) refl; node = go }
  where
    go : (q : Position) → IsPlaced q ReferencePattern → (x : Tree) (r : List Token) → is_taken ReferencePattern x ≡ true
        → Derives x (table ReferencePattern) r
        → Printed (table ReferencePattern) (normal_in (passed ReferencePattern q) (kept x))
        → Printed (ref ReferencePattern) (normal_in q (Node (held ReferencePattern) (kept x)))
    go q l x r m d i =
        let b : has_own_mut i.tree ≡ true =
        sym (own_fits i.tree i.fits) ∙ ap has_own_mut i.kept_is ∙ own_read x r d ∙ own_meant x r d in
        record {
          tree = Node ReferencePattern i.tree;
          fits = (refl, refl, refl, i.fits, b);
          kept_is = ap (Node ReferencePattern) i.kept_is;
        }
