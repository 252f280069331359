-- Outputs: the text of a normal form has its tokens, and is read as its own output.
use Rattle.std.proofs.Common.{◌≡◌, ℕ, List, [], ◌++◌, refl, sym, ap, ap₂, ◌∙◌, subst}
use Rattle.std.specs.Prelude.{◌↔◌, Option, Some, None}
use Rattle.std.proofs.lemmas.List.{append-nil}
use Rattle.rust_leaf.specs.Leaf.{AreCharacters}
use Rattle.proc_macro2.specs.FileForest.{IsFileForest, NoShebang}
use Rattle.proc_macro2.specs.Leaf.{AreLeaves}
use Rattle.proc_macro2.specs.Printed as printed
use Rattle.proc_macro2.specs.Spacing.{IsWellSpaced}
use Rattle.proc_macro2.specs.Token.{Spanned, Token, plain}
use Rattle.syn_grammar.specs.Kept.{kept}
use Rattle.syn_grammar.specs.Kind.{AFile, Plain}
use Rattle.syn_grammar.specs.Normal.{normal}
use Rattle.syn_grammar.specs.Read.{IsRead}
use Rattle.syn_grammar.specs.Tree.{Tree, flat}
use Rattle.syn_grammar.proofs.Settled as settled
use Rattle.laws_reread_kinds.specs.After.{After}
use Rattle.laws_reread.proofs.ReadBack as back
use Rattle.laws_reread.proofs.Told.{file_covered}
use Rattle.laws_programs.specs.Program.{IsFile, IsProgram, IsOutput, Program, shebang_text, written}
use Rattle.laws_programs.proofs.FileForests.{same_file}
use Rattle.laws_programs.proofs.Leaves.{Good, leaves, matching}
use Rattle.laws_programs.proofs.Printed.{is_line, printed_forest}
use Rattle.laws_programs.proofs.Programs.{normal_spaced}
use Rattle.laws_programs.proofs.Shebangs.{file_alone}
use Rattle.laws_programs.proofs.Written.{normal_good, placed, placed_matched, placed_plain}

-- a file's tokens end behind it
at_end : (x : Tree) → After AFile x []
at_end x = (refl, (refl, tt))

-- the tokens of the normal form are a file, of which the normal form is kept
file_again : (tokens : List Token) (tree : Tree) → IsFile tokens tree
    → (u : Tree) × IsFile (flat (normal (kept tree))) u × (kept u ≡ normal (kept tree))
file_again tokens tree f =
    let r : IsRead AFile (flat (normal (kept tree)) ++ []) (normal (kept tree)) [] =
    back.read_back AFile tree [] [] f.derived (file_covered tree [] f.derived) (at_end (normal (kept tree))) in (
      r.tree,
      record {
        derived = r.derived;
        spelled = sym (append-nil (flat r.tree)) ∙ r.spelled ∙ append-nil (flat (normal (kept tree)));
      },
      r.kept_is,
    )

-- the output has the shebang, and the tokens of the normal form
pub output_tokens : (text : List ℕ) (p : Program) → AreCharacters text → IsProgram text p
    → (read : List Spanned) × IsFileForest 0 (written p) p.shebang read × (plain read ≡ flat (normal (kept p.tree)))
output_tokens text p a i =
    let ts : List Token = flat (normal (kept p.tree)) in
    let e : plain (placed ts) ≡ ts = placed_plain ts in
    let h : Good (normal (kept p.tree)) = normal_good text p a i in
    let (u, file, keeps) = file_again (plain i.tokens) p.tree i.file in
    let (read, forest, same) = printed_forest p.shebang (placed ts)
    (is_line 0 text p.shebang i.tokens i.forest)
    (λ n read forest same. file_alone 0 (printed.text (plain (placed ts))) read u forest
    (subst (λ (us : List Token). IsFile us u) (sym (same ∙ e)) file))
    (subst AreLeaves (sym e) (leaves (normal (kept p.tree)) h))
    (placed_matched ts (matching (normal (kept p.tree)) h))
    (subst IsWellSpaced (sym e) (normal_spaced text p a i)) in (
      read,
      subst (λ us. IsFileForest 0 (shebang_text p.shebang ++ printed.text us) p.shebang read) e forest,
      same ∙ e,
    )

-- it has a program, with the shebang, of which the normal form is kept
pub output_program : (text : List ℕ) (p : Program) → AreCharacters text → IsProgram text p
    → (q : Program) × IsProgram (written p) q × (q.shebang ≡ p.shebang) × (kept q.tree ≡ normal (kept p.tree))
output_program text p a i =
    let (read, forest, same) = output_tokens text p a i in
    let (u, file, keeps) = file_again (plain i.tokens) p.tree i.file in (
      record { shebang = p.shebang; tree = u },
      record {
        tokens = read;
        forest = forest;
        file = subst (λ (us : List Token). IsFile us u) (sym same) file;
      },
      refl,
      keeps,
    )

pub fixed : (text output : List ℕ) → AreCharacters text → IsOutput text output → IsOutput output output
fixed text output a o =
    let (q, i, shebangs, e) = output_program text o.program a o.is_program in record {
      program = q;
      is_program = subst (λ (cs : List ℕ). IsProgram cs q) (sym o.is) i;
      is = o.is
          ∙ ap₂ (λ s (x : Tree). shebang_text s ++ printed.text (flat x)) (sym shebangs)
          (sym (ap normal e ∙ settled.normal_twice Plain (kept o.program.tree)));
    }

-- the output of a text without shebang begins with none
none_begins : (base : ℕ) (text : List ℕ) (s : Option (List ℕ)) (ss : List Spanned) → IsFileForest base text s ss
    → s ≡ None → NoShebang text
none_begins base text None ss f e = f.0
none_begins base text (Some line) ss f e = cc

pub no_shebang_begins : (text : List ℕ) (p : Program) → AreCharacters text → IsProgram text p → p.shebang ≡ None
    → NoShebang (written p)
no_shebang_begins text p a i e =
    let (read, forest, same) = output_tokens text p a i in
    none_begins 0 (written p) p.shebang read forest e

-- outputs that are the same are those of the same shebang and the same tokens
same_output : (a b : List ℕ) (p q : Program) → AreCharacters a → AreCharacters b → IsProgram a p → IsProgram b q
    → written p ≡ written q
    → (p.shebang ≡ q.shebang) × (flat (normal (kept p.tree)) ≡ flat (normal (kept q.tree)))
same_output a b p q c d i j e =
    let (ss, f, g) = output_tokens a p c i in
    let (ts, h, k) = output_tokens b q d j in
    let (shebangs, tokens) = same_file 0 0 (written q) p.shebang q.shebang ss ts
    (subst (λ (cs : List ℕ). IsFileForest 0 cs p.shebang ss) e f) h in
    (shebangs, sym g ∙ tokens ∙ k)

pub one_text : (a b : List ℕ) (p q : Program) → AreCharacters a → AreCharacters b → IsProgram a p → IsProgram b q
    → (written p ≡ written q)
    ↔ ((p.shebang ≡ q.shebang) × (flat (normal (kept p.tree)) ≡ flat (normal (kept q.tree))))
one_text a b p q c d i j = (
  same_output a b p q c d i j,
  λ (s, ts). ap₂ (λ s us. shebang_text s ++ printed.text us) s ts,
)

pub one_form : (a b : List ℕ) (p q : Program) → AreCharacters a → AreCharacters b → IsProgram a p → IsProgram b q
    → (written p ≡ written q) ↔ ((p.shebang ≡ q.shebang) × (normal (kept p.tree) ≡ normal (kept q.tree)))
one_form a b p q c d i j = (
  λ e.
      let (s, ts) = same_output a b p q c d i j e in (
        s,
        back.same_tokens AFile p.tree q.tree [] [] [] i.file.derived j.file.derived
            (file_covered p.tree [] i.file.derived) (file_covered q.tree [] j.file.derived)
            (at_end (normal (kept p.tree))) (at_end (normal (kept q.tree))) ts,
      ),
  λ (s, x). ap₂ (λ s (x : Tree). shebang_text s ++ printed.text (flat x)) s x,
)
