-- The step of a type with plus: behind one that is a path may stand what may stand behind one without plus.
use Rattle.std.proofs.Common.{◌≡◌, List, refl, sym, ◌∙◌, subst, inl, inr}
use Rattle.std.specs.Prelude.{true, false}
use Rattle.std.proofs.lemmas.Bool.{false≢true}
use Rattle.proc_macro2.specs.Token.{Token}
use Rattle.syn_grammar.specs.Kind.{Kind, Position, AType, BracketType, DynType, FnPtrType, ImplType}
use Rattle.syn_grammar.specs.Kind.{InferType, NeverType, Plain, Plus, PointerType, ReferenceType, TupleType}
use Rattle.syn_grammar.specs.Kind.{WithPlus}
use Rattle.syn_grammar.specs.Tree.{Tree, Node, First, Second, Back}
use Rattle.syn_grammar.specs.Gram.{Gram, alt, ref}
use Rattle.syn_grammar.specs.Part.{choice}
use Rattle.syn_grammar.specs.Types.{type_entry}
use Rattle.syn_grammar.specs.Ranks.{skips}
use Rattle.syn_grammar.specs.Table.{table}
use Rattle.syn_grammar.specs.Derives.{Derives}
use Rattle.syn_grammar.specs.Kept.{held, kept}
use Rattle.syn_grammar.specs.Normal.{passed, normal_in}
use Rattle.syn_grammar.specs.Verdicts.{is_path, is_path_type}
use Rattle.laws_reread_kinds.specs.After.{is_any_path}
use Rattle.laws_reread_kinds.proofs.Fits.{Fits}
use Rattle.laws_reread_kinds.proofs.Readies.{Step}
use Rattle.laws_reread_kinds.proofs.StepsOfTypes.{entry_a_type_with_plus, step_a_type_without_plus}

pub step_type_with_plus : Step (AType WithPlus)
unfolding table skips
step_type_with_plus x s f n w (inl a) = entry_a_type_with_plus.fine.by x s f w a
step_type_with_plus (Second (Second (Second (Second (Second (Second (Second (Second (Second y))))))))) s f n w
    (inr (e, a)) =
    step_a_type_without_plus (Second (Second (Second (Second (Second (Second (Second (Second (Second y))))))))) s f
    tt w a
step_type_with_plus (Second (Second (Second (Second (Second (Second (Second (Second (First z))))))))) s f n w
    (inr (e, a)) = absurd (false≢true e)
step_type_with_plus (Second (Second (Second (Second (Second (Second (Second (Second _)))))))) s f n w (inr (e, a)) =
    absurd f.1.1.1.1.1.1.1.1
step_type_with_plus (Second (Second (Second (Second (Second (Second (Second (First z)))))))) s f n w
    (inr (e, a)) = absurd (false≢true e)
step_type_with_plus (Second (Second (Second (Second (Second (Second (Second _))))))) s f n w (inr (e, a)) = absurd
    f.1.1.1.1.1.1.1
step_type_with_plus (Second (Second (Second (Second (Second (Second (First z))))))) s f n w (inr (e, a)) = absurd
    (false≢true e)
step_type_with_plus (Second (Second (Second (Second (Second (Second _)))))) s f n w (inr (e, a)) = absurd f.1.1.1.1.1.1
step_type_with_plus (Second (Second (Second (Second (Second (First z)))))) s f n w (inr (e, a)) = absurd (false≢true e)
step_type_with_plus (Second (Second (Second (Second (Second _))))) s f n w (inr (e, a)) = absurd f.1.1.1.1.1
step_type_with_plus (Second (Second (Second (Second (First z))))) s f n w (inr (e, a)) = absurd (false≢true e)
step_type_with_plus (Second (Second (Second (Second _)))) s f n w (inr (e, a)) = absurd f.1.1.1.1
step_type_with_plus (Second (Second (Second (First z)))) s f n w (inr (e, a)) = absurd (false≢true e)
step_type_with_plus (Second (Second (Second _))) s f n w (inr (e, a)) = absurd f.1.1.1
step_type_with_plus (Second (Second (First z))) s f n w (inr (e, a)) = absurd (false≢true e)
step_type_with_plus (Second (Second _)) s f n w (inr (e, a)) = absurd f.1.1
step_type_with_plus (Second (First z)) s f n w (inr (e, a)) = absurd (false≢true e)
step_type_with_plus (Second _) s f n w (inr (e, a)) = absurd f.1
step_type_with_plus (First z) s f n w (inr (e, a)) = absurd (false≢true e)
step_type_with_plus _ s f n w (inr (e, a)) = absurd f

-- a type is a path where what is kept of it is, and its normal form
pub path_fits : (w : Tree) (g : Gram) → Fits w g → is_any_path (kept w) ≡ is_any_path w
unfolding held table
path_fits (Second x) (alt t a b) f = path_fits x b f.1
path_fits (Node (AType p) x) (ref k) f = path_fits x (table (AType p)) f.3
path_fits (Second x) _ f = absurd f
path_fits (Node (AType p) x) _ f = absurd f
path_fits (Back l k y) _ f = absurd f
path_fits _ _ f = refl

pub path_read : (x : Tree) (g : Gram) (r : List Token) → Derives x g r → is_any_path (kept x) ≡ is_any_path x
unfolding held table
path_read (Second x) (alt t a b) r d = path_read x b r d.1
path_read (Node (AType p) x) (ref k) r d = path_read x (table (AType p)) r d.1
path_read (Second x) _ r d = absurd d
path_read (Node (AType p) x) _ r d = absurd d
path_read (Back l k y) _ r d = absurd d
path_read _ _ r d = refl

pub path_normal : (q : Position) (x : Tree) → is_any_path (normal_in q x) ≡ is_any_path x
unfolding passed
path_normal q (Second x) = path_normal q x
path_normal q (Node (AType p) x) = path_normal (passed (AType p) q) x
path_normal q _ = refl

-- a path that isn't qualified is one
not_path : (l : Kind) (x : Tree) (r : List Token) → Derives x (ref l) r → ((y : Tree) → is_path (Node l y) ≡ false)
    → is_path (choice x) ≡ true → ⊥
not_path l (Node k y) r d h e =
    let f : false ≡ true = sym (h y) ∙ subst (λ j. is_path (Node j y) ≡ true) d.0 e in
    cc f
not_path l _ r d h e = absurd d

path_in : (p : Plus) (x : Tree) (r : List Token) → Derives x (type_entry p) r → is_path (choice x) ≡ true
    → is_any_path x ≡ true
path_in p (First x) r d e = absurd (not_path TupleType x r d.1 (λ y. refl) e)
path_in p (Second (First x)) r d e = absurd (not_path NeverType x r d.1.1 (λ y. refl) e)
path_in p (Second (Second (First x))) r d e = absurd (not_path ReferenceType x r d.1.1.1 (λ y. refl) e)
path_in p (Second (Second (Second (First x)))) r d e = absurd (not_path PointerType x r d.1.1.1.1 (λ y. refl) e)
path_in p (Second (Second (Second (Second (First x))))) r d e = absurd
    (not_path BracketType x r d.1.1.1.1.1 (λ y. refl) e)
path_in p (Second (Second (Second (Second (Second (First x)))))) r d e = absurd
    (not_path InferType x r d.1.1.1.1.1.1 (λ y. refl) e)
path_in p (Second (Second (Second (Second (Second (Second (First x))))))) r d e = absurd
    (not_path (DynType p) x r d.1.1.1.1.1.1.1 (λ y. refl) e)
path_in p (Second (Second (Second (Second (Second (Second (Second (First x)))))))) r d e = absurd
    (not_path (ImplType p) x r d.1.1.1.1.1.1.1.1 (λ y. refl) e)
path_in p (Second (Second (Second (Second (Second (Second (Second (Second (First x))))))))) r d e = absurd
    (not_path FnPtrType x r d.1.1.1.1.1.1.1.1.1 (λ y. refl) e)
path_in p (Second (Second (Second (Second (Second (Second (Second (Second (Second (Node k x)))))))))) r d e =
    subst (λ j. is_any_path (Node j x) ≡ true) (sym d.1.1.1.1.1.1.1.1.1.0) refl
path_in p (Second (Second (Second (Second (Second (Second (Second (Second (Second _))))))))) r d e = absurd
    d.1.1.1.1.1.1.1.1.1
path_in p (Second (Second (Second (Second (Second (Second (Second (Second _)))))))) r d e = absurd d.1.1.1.1.1.1.1.1
path_in p (Second (Second (Second (Second (Second (Second (Second _))))))) r d e = absurd d.1.1.1.1.1.1.1
path_in p (Second (Second (Second (Second (Second (Second _)))))) r d e = absurd d.1.1.1.1.1.1
path_in p (Second (Second (Second (Second (Second _))))) r d e = absurd d.1.1.1.1.1
path_in p (Second (Second (Second (Second _)))) r d e = absurd d.1.1.1.1
path_in p (Second (Second (Second _))) r d e = absurd d.1.1.1
path_in p (Second (Second _)) r d e = absurd d.1.1
path_in p (Second _) r d e = absurd d.1
path_in p _ r d e = absurd d

pub path_is : (x : Tree) (r : List Token) → Derives x (ref (AType WithPlus)) r → is_path_type x ≡ true
    → is_any_path (normal_in Plain (kept x)) ≡ true
unfolding table
path_is (Node (AType p) x) r d e =
    path_normal Plain (kept (Node (AType p) x)) ∙ path_read (Node (AType p) x) (ref (AType WithPlus)) r d
    ∙ path_in p x r d.1 e
path_is (Node k x) r d e = cc
path_is _ r d e = absurd d
