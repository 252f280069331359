-- A kind that stands nowhere but by itself has no step: what its entry reads is printed by the steps of the kinds that
-- the entry refers to, and is read back before all that may follow it.
use Rattle.std.proofs.Common.{◌≡◌, List, ◌++◌, refl, sym, ap, ◌∙◌}
use Rattle.std.specs.Prelude.{true, false}
use Rattle.proc_macro2.specs.Token.{Token}
use Rattle.syn_grammar.specs.Kind.{Kind, Plain}
use Rattle.syn_grammar.specs.Tree.{Tree, Node, flat}
use Rattle.syn_grammar.specs.Table.{table}
use Rattle.syn_grammar.specs.Derives.{Derives}
use Rattle.syn_grammar.specs.Kept.{forget, held, kept}
use Rattle.syn_grammar.specs.Normal.{normal}
use Rattle.syn_grammar.specs.Read.{IsRead}
use Rattle.laws_reread_kinds.specs.Covered.{all_covered}
use Rattle.laws_reread_kinds.proofs.Conditions.{all_braced, condition_ends, is_condition_kind}
use Rattle.laws_reread_kinds.proofs.Expressions.{all_laws, all_steps}
use Rattle.laws_reread_kinds.proofs.Fine.{Any, Edge, Fine}
use Rattle.laws_reread_kinds.proofs.Fits.{Fits, flat_kept}
use Rattle.laws_reread_kinds.proofs.Printed.{EntryLaw, Printed, printed, unneeded}
use Rattle.laws_reread_kinds.proofs.Readies.{ready}
use Rattle.laws_reread.proofs.Forms.{expressions}

-- What is to be known of such a kind: its entry, that its trees are read back before all that A holds of, and that
-- neither what is held of it nor its normal form is other than that of what it holds.
pub record OneKind (k : Kind) (A : Edge) : Type 0 where
  pub law : EntryLaw Plain (table k)
  pub fine : Fine (table k) A Any
  pub holds : (x : Tree) → Node (held k) (forget k x) ≡ Node k x
  pub is_normal : (x : Tree) → normal (Node k x) ≡ Node k (normal x)
  pub ends : is_condition_kind k ≡ false

pub read_one : (k : Kind) (A : Edge) → OneKind k A → (x : Tree) (r s : List Token) → Derives x (table k) r
    → all_covered x ≡ true → ((w : Tree) → kept w ≡ normal (kept x) → Fits w (table k) → A w s)
    → IsRead k (flat (normal (kept (Node k x))) ++ s) (normal (kept (Node k x))) s
read_one k A one x r s d c a =
    let i : Printed (table k) (normal (kept x)) =
    printed (all_laws expressions) expressions.whole x (table k) r Plain one.law (all_braced k)
    (unneeded (table k) r (condition_ends k ∙ one.ends)) d c in
    let t = (one.fine.by i.tree s i.fits (ready (all_steps expressions) i.tree (table k) i.fits)
    (a i.tree i.kept_is i.fits)).0 in
    let e : kept (Node k i.tree) ≡ normal (kept (Node k x)) =
    one.holds (kept i.tree) ∙ ap (Node k) i.kept_is ∙ sym (ap normal (one.holds (kept x)) ∙ one.is_normal (kept x)) in
    record {
      tree = Node k i.tree;
      derived = (refl, t);
      spelled = ap (λ ts. ts ++ s) (sym (flat_kept i.tree (table k) i.fits)
          ∙ sym (ap flat (one.holds (kept i.tree))) ∙ ap flat e);
      kept_is = e;
    }
