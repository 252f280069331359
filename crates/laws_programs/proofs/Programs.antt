-- Programs: at most one, or a fault.
use Rattle.std.proofs.Common.{◌≡◌, ◌∙◌, ℕ, List, sym, ap, subst, ⊎_elim, inl, inr, refl}
use Rattle.std.specs.Prelude.{Option, None, ◌⊎◌}
use Rattle.rust_map.specs.declared.place.LineColumn.{LineColumn}
use Rattle.rust_leaf.specs.Leaf.{AreCharacters}
use Rattle.proc_macro2.specs.FileForest.{IsFileForest, IsFileLexicalFault}
use Rattle.proc_macro2.specs.Spacing.{IsWellSpaced}
use Rattle.proc_macro2.specs.Token.{Spanned, Token, plain}
use Rattle.syn_grammar.specs.Kind.{AFile}
use Rattle.syn_grammar.specs.Tree.{Tree, flat}
use Rattle.syn_grammar.specs.Kept.{kept}
use Rattle.syn_grammar.specs.Normal.{normal}
use Rattle.laws_items.proofs.Quiet as quiet
use Rattle.laws_programs.specs.Program.{IsFile, NoFile, IsProgram, Program}
use Rattle.laws_programs.specs.Faults.{IsSyntaxFault}
use Rattle.proc_macro2.proofs.Files.{file_forest_or_fault, no_file_forest}
use Rattle.laws_programs.proofs.FileForests.{file_elsewhere, file_spaced, same_file}
use Rattle.laws_programs.proofs.Files.{one_file, file_or_none}

-- a shebang, and a tree
abbrev pub program : Option (List ℕ) → Tree → Program
program shebang tree = record { shebang = shebang; tree = tree }

pub one_program : (text : List ℕ) (p q : Program) → IsProgram text p → IsProgram text q → p ≡ q
one_program text p q i j =
    let (shebangs, tokens) = same_file 0 0 text p.shebang q.shebang i.tokens j.tokens i.forest j.forest in
    let trees : p.tree ≡ q.tree =
    one_file (plain i.tokens) p.tree q.tree i.file
    (subst (λ (ts : List Token). IsFile ts q.tree) (sym tokens) j.file) in
    ap (λ s. program s p.tree) shebangs ∙ ap (program q.shebang) trees

-- the program, and a fault, by the forest somewhere
pub program_anywhere : (base : ℕ) (text : List ℕ) (ss : List Spanned) (p : Program)
    → IsFileForest base text p.shebang ss → IsFile (plain ss) p.tree → IsProgram text p
program_anywhere base text ss p f g =
    let (ts, h) = file_elsewhere base 0 text p.shebang ss f in
    let (shebangs, tokens) = same_file base 0 text p.shebang p.shebang ss ts f h in record {
      tokens = ts;
      forest = h;
      file = subst (λ (us : List Token). IsFile us p.tree) tokens g;
    }

pub fault_anywhere : (base : ℕ) (text : List ℕ) (s : Option (List ℕ)) (ss : List Spanned)
    → IsFileForest base text s ss → NoFile (plain ss) → IsSyntaxFault text None
fault_anywhere base text s ss f n =
    let (ts, h) = file_elsewhere base 0 text s ss f in
    let (shebangs, tokens) = same_file base 0 text s s ss ts f h in record {
      shebang = s;
      tokens = ts;
      forest = h;
      no_file = subst NoFile tokens n;
      index = None;
      there = refl;
    }

pub tokens_spaced : (text : List ℕ) (p : Program) → AreCharacters text → IsProgram text p
    → IsWellSpaced (flat p.tree)
tokens_spaced text p a i =
    subst IsWellSpaced (sym i.file.spelled) (file_spaced 0 text p.shebang i.tokens a i.forest).1

pub normal_spaced : (text : List ℕ) (p : Program) → AreCharacters text → IsProgram text p
    → IsWellSpaced (flat (normal (kept p.tree)))
normal_spaced text p a i = quiet.whole AFile p.tree i.file.derived (tokens_spaced text p a i)

pub lexical_fault : (text : List ℕ) (place : LineColumn) (p : Program) → IsFileLexicalFault text place
    → IsProgram text p → ⊥
lexical_fault text place p f i = no_file_forest 0 text place p.shebang i.tokens f i.forest

pub syntax_fault : (text : List ℕ) (place : Option LineColumn) (p : Program) → IsSyntaxFault text place
    → IsProgram text p → ⊥
syntax_fault text place p f i =
    f.no_file p.tree (subst (λ (ts : List Token). IsFile ts p.tree)
    (same_file 0 0 text p.shebang f.shebang i.tokens f.tokens i.forest f.forest).1 i.file)

abbrev pub IsAnswered : List ℕ → Type 0
IsAnswered text =
    ((p : Program) × IsProgram text p) ⊎ ((place : LineColumn) × IsFileLexicalFault text place)
    ⊎ ((place : Option LineColumn) × IsSyntaxFault text place)

forest_answered : (text : List ℕ) (s : Option (List ℕ)) (tokens : List Spanned) → IsFileForest 0 text s tokens
    → IsAnswered text
forest_answered text s tokens f =
    ⊎_elim
    (λ (t, g). inl (program s t, program_anywhere 0 text tokens (program s t) f g))
    (λ n. inr (inr (None, fault_anywhere 0 text s tokens f n)))
    (file_or_none (plain tokens))

pub program_or_fault : (text : List ℕ) → IsAnswered text
program_or_fault text =
    ⊎_elim
    (λ (s, tokens, f). forest_answered text s tokens f)
    (λ (place, f). inr (inl (place, f)))
    (file_forest_or_fault 0 text)
