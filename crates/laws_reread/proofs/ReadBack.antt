-- Normal forms are read back, of each kind: of those that have a step by it, of the others by themselves.
use Rattle.std.proofs.Common.{◌≡◌, List, ◌++◌, refl, sym, ap, ◌∙◌}
use Rattle.std.specs.Prelude.{Bool, true, false}
use Rattle.proc_macro2.specs.Token.{Token}
use Rattle.syn_grammar.specs.Kind.{Kind}
use Rattle.syn_grammar.specs.Tree.{Tree, flat}
use Rattle.syn_grammar.specs.Gram.{ref}
use Rattle.syn_grammar.specs.Derives.{Derives}
use Rattle.syn_grammar.specs.Kept.{kept}
use Rattle.syn_grammar.specs.Normal.{normal}
use Rattle.syn_grammar.specs.Read.{IsRead}
use Rattle.syn_grammar.proofs.Theorems.{one}
use Rattle.laws_reread_kinds.specs.After.{After}
use Rattle.laws_reread_kinds.proofs.ReadBack.{node_placed, read_placed}
use Rattle.laws_reread.specs.Asked.{is_covered}
use Rattle.laws_reread.proofs.Forms.{expressions}
use Rattle.laws_reread.proofs.Judged.{is_one_statement}
use Rattle.laws_reread.proofs.OneKinds.{all_others, is_one_kind, one_back, statement_back}
use Rattle.laws_reread.proofs.Told.{whole_told}

pub read_back : (k : Kind) (x : Tree) (r s : List Token) → Derives x (ref k) r → is_covered x ≡ true
    → After k (normal (kept x)) s → IsRead k (flat (normal (kept x)) ++ s) (normal (kept x)) s
read_back k x r s d c a = by_kind (is_one_kind k) (is_one_statement k) refl refl
  where
    by_kind : (b e : Bool) → is_one_kind k ≡ b → is_one_statement k ≡ e
        → IsRead k (flat (normal (kept x)) ++ s) (normal (kept x)) s
    by_kind true e h i = one_back k x r s h d c
    by_kind false true h i = statement_back k x r s i d c a
    by_kind false false h i =
        let w = whole_told k x r (all_others k h i) d c in
        read_placed expressions k x r s (node_placed k x r d w) d w a

pub same_tokens : (k : Kind) (x y : Tree) (r q s : List Token) → Derives x (ref k) r → Derives y (ref k) q
    → is_covered x ≡ true → is_covered y ≡ true → After k (normal (kept x)) s → After k (normal (kept y)) s
    → flat (normal (kept x)) ≡ flat (normal (kept y)) → normal (kept x) ≡ normal (kept y)
same_tokens k x y r q s d e c f a b h =
    let i = read_back k x r s d c a in
    let j = read_back k y q s e f b in
    let t = one (ref k) i.tree j.tree s s i.derived j.derived (i.spelled ∙ ap (λ ts. ts ++ s) h ∙ sym j.spelled) in
    sym i.kept_is ∙ ap kept t.0 ∙ j.kept_is
