-- One statement by itself: it needs no ; that it lacks, and one that is printed for it needs none either.
use Rattle.std.proofs.Common.{◌≡◌, List, [], ◌++◌, refl, sym, ap, ◌∙◌, subst}
use Rattle.std.specs.Prelude.{true, false, not}
use Rattle.proc_macro2.specs.Token.{Token}
use Rattle.syn_grammar.specs.Kind.{AStatement, OneStatement, Plain}
use Rattle.syn_grammar.specs.Tree.{Tree, First, Node, Second, flat}
use Rattle.syn_grammar.specs.Part.{choice}
use Rattle.syn_grammar.specs.Gram.{ref}
use Rattle.syn_grammar.specs.Types.{kept_if}
use Rattle.syn_grammar.specs.Statements.{needs_semicolon}
use Rattle.syn_grammar.specs.Table.{table}
use Rattle.syn_grammar.specs.Derives.{Derives}
use Rattle.syn_grammar.specs.Kept.{held, kept}
use Rattle.syn_grammar.specs.Normal.{passed, normal}
use Rattle.syn_grammar.specs.Read.{IsRead}
use Rattle.laws_reread_kinds.specs.After.{After}
use Rattle.laws_reread_kinds.specs.Covered.{all_covered}
use Rattle.laws_reread_kinds.proofs.Choices.{is_false}
use Rattle.laws_reread_kinds.proofs.Fine.{Any, Fine, fine_judged, fine_ref, fine_weaker}
use Rattle.laws_reread_kinds.proofs.Fits.{Fits}
use Rattle.laws_reread_kinds.proofs.Lets.{kept_true}
use Rattle.laws_reread_kinds.proofs.Printed.{VerdictLaw, kept_entry}
use Rattle.laws_reread_kinds.proofs.ReadBack.{statement_printed}
use Rattle.laws_reread_kinds.proofs.Statements.{turn_needs}
use Rattle.laws_reread.proofs.OneKind.{OneKind, read_one}

read_node : (x : Tree) (r : List Token) → Derives x (ref AStatement) r → choice x ≡ x
read_node (Node k x) r d = refl
read_node _ r d = absurd d

fits_node : (w : Tree) → Fits w (ref AStatement) → choice w ≡ w
fits_node (Node k w) f = refl
fits_node _ f = absurd f

needs_none : VerdictLaw Plain (λ x. kept_if (not (needs_semicolon x))) (ref AStatement)
needs_none x w r c d f e h =
    let i : needs_semicolon (choice x) ≡ false =
    ap needs_semicolon (read_node x r d) ∙ is_false (needs_semicolon x) (kept_true (not (needs_semicolon x)) h) in
    ap (λ b. kept_if (not b)) (sym (ap needs_semicolon (fits_node w f))
    ∙ turn_needs (Second x) (Second w) Plain false r c d (([], refl), f) (ap Second e) i)

statement_fine : Fine (table OneStatement) (After OneStatement) Any
unfolding table
statement_fine =
    fine_judged {A = After OneStatement} {F = Any} (λ x. not (needs_semicolon x))
    (fine_weaker (λ x s. After OneStatement (First x) s) Any (fine_ref {k = AStatement}) (λ x s a. a) (λ x s i a. tt))

one_statement : OneKind OneStatement (After OneStatement)
unfolding table held passed
one_statement = record {
  law = kept_entry (λ x. not (needs_semicolon x)) needs_none tt;
  fine = statement_fine;
  holds = λ x. refl;
  is_normal = λ x. refl;
  ends = refl;
}

-- what may follow what is kept may follow what is printed
after_one : (w : Tree) (s : List Token) → Fits w (table OneStatement) → After OneStatement (kept w) s
    → After OneStatement w s
unfolding table
after_one (First w) s f a = statement_printed w s f.1 a
after_one _ s f a = absurd f

pub read_statement : (x : Tree) (r s : List Token) → Derives x (table OneStatement) r → all_covered x ≡ true
    → After OneStatement (normal (kept (Node OneStatement x))) s
    → IsRead OneStatement (flat (normal (kept (Node OneStatement x))) ++ s) (normal (kept (Node OneStatement x))) s
unfolding held passed
read_statement x r s d c a =
    read_one OneStatement (After OneStatement) one_statement x r s d c
    (λ w e f. after_one w s f (subst (λ z. After OneStatement z s) (sym e) a))
