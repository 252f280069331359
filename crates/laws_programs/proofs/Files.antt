-- Files: at most one, of all the tokens, or none.
use Rattle.std.proofs.Common.{◌≡◌, List, [], ◌∷◌, ◌++◌, sym, ap, ◌∙◌, subst, ⊎_elim, inl, inr, refl}
use Rattle.std.specs.Prelude.{◌⊎◌}
use Rattle.std.proofs.lemmas.List.{append-nil}
use Rattle.proc_macro2.specs.Token.{Token}
use Rattle.syn_grammar.specs.Kind.{AFile, AnItem, Items}
use Rattle.syn_grammar.specs.Tree.{Tree, Pair, End, Again, Node, flat}
use Rattle.syn_grammar.specs.Gram.{ref, star}
use Rattle.syn_grammar.specs.Derives.{Derives}
use Rattle.syn_grammar.specs.Look.{lacks, the_end}
use Rattle.syn_grammar.specs.Read.{IsDerived, NoneRead}
use Rattle.syn_grammar.specs.Table.{table}
use Rattle.syn_grammar.proofs.Theorems as theorems
use Rattle.laws_programs.specs.Program.{IsFile, NoFile}

pub one_file : (ts : List Token) (t u : Tree) → IsFile ts t → IsFile ts u → t ≡ u
one_file ts t u f g =
    let same = theorems.one (ref AFile) t u [] [] f.derived g.derived
    (ap (λ us. us ++ []) (f.spelled ∙ sym g.spelled)) in
    same.0

-- items are read up to the end
turns_end : (x : Tree) (r : List Token) → Derives x (star (lacks the_end) (ref AnItem)) r → r ≡ []
turns_end End [] d = refl
turns_end End (t ∷ r) d = cc
turns_end (Again x y) r d = turns_end y r d.2
turns_end _ r d = absurd d

pub items_end : (x : Tree) (r : List Token) → Derives x (ref Items) r → r ≡ []
unfolding table
items_end (Node k x) r d = turns_end x r (subst (λ i. Derives x (table i) r) d.0 d.1)
items_end _ r d = absurd d

parts_end : (x : Tree) (r : List Token) → Derives x (table AFile) r → r ≡ []
unfolding table
parts_end (Pair x y) r d = items_end y r d.1
parts_end _ r d = absurd d

file_end : (x : Tree) (r : List Token) → Derives x (ref AFile) r → r ≡ []
file_end (Node k x) r d = parts_end x r (subst (λ i. Derives x (table i) r) d.0 d.1)
file_end _ r d = absurd d

-- what is read as a file is one, and it is all of the tokens
pub whole_file : (ts : List Token) (t : Tree) (rest : List Token) → IsDerived AFile ts t rest
    → IsFile ts t × (rest ≡ [])
whole_file ts t rest d =
    let e : rest ≡ [] = file_end t rest d.0 in (
      record {
        derived = subst (λ (r : List Token). Derives t (ref AFile) r) e d.0;
        spelled = sym (append-nil (flat t)) ∙ ap (λ r. flat t ++ r) (sym e) ∙ d.1;
      },
      e,
    )

pub none_read : (ts : List Token) → NoneRead AFile ts → NoFile ts
none_read ts n t f = n t [] f.derived (append-nil (flat t) ∙ f.spelled)

pub file_or_none : (ts : List Token) → ((t : Tree) × IsFile ts t) ⊎ NoFile ts
file_or_none ts =
    ⊎_elim
    (λ (form, rest, r). inl (r.tree, (whole_file ts r.tree rest (r.derived, r.spelled)).0))
    (λ n. inr (none_read ts n))
    (theorems.decided AFile ts)
