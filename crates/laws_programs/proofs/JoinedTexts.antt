-- Texts that may be joined: what they are joined to is a program.
use Rattle.std.proofs.Common.{◌≡◌, ℕ, List, [], ◌∷◌, ◌++◌, refl, sym, ap₂, ◌∙◌, subst}
use Rattle.std.proofs.lemmas.Bool.{and_parts}
use Rattle.std.proofs.lemmas.List.{append-nil}
use Rattle.std.proofs.Math.Utf8.{scalar, scalars}
use Rattle.std.specs.Prelude.{Bool, true, false, None}
use Rattle.rust_leaf.specs.Leaf.{AreCharacters}
use Rattle.rust_lex.specs.Chars.{begins}
use Rattle.rust_lex.specs.FileCover.{is_front_mark}
use Rattle.proc_macro2.specs.FileForest.{IsFileForest}
use Rattle.proc_macro2.specs.Token.{plain}
use Rattle.syn_grammar.specs.Table.{table}
use Rattle.syn_grammar.specs.Tree.{Tree}
use Rattle.laws_lexer.proofs.Joining.{joined_file_forest}
use Rattle.laws_programs.specs.Joined.{AreJoinable, IsLater, all_items, attributes_of, file_of, items_of, joined}
use Rattle.laws_programs.specs.Program.{IsFile, IsProgram, Program}
use Rattle.laws_programs.proofs.JoinedFiles.{attributes_are, items_are, joined_files, parts, turns_again}
use Rattle.laws_programs.proofs.Programs.{program}

-- two texts

pub two_programs : (a b : List ℕ) (p q : Program) → IsProgram a p → IsProgram b q → IsLater b q
    → IsProgram (a ++ 10 ∷ b)
    (program p.shebang (file_of (attributes_of p.tree) (items_of p.tree ++ items_of q.tree)))
two_programs a b p q i j l =
    let (read, forest, same) =
    joined_file_forest 0 0 0 a b p.shebang i.tokens j.tokens i.forest
    (subst (λ s. IsFileForest 0 b s j.tokens) l.no_shebang j.forest) l.no_mark in
    let tree : Tree = file_of (attributes_of p.tree) (items_of p.tree ++ items_of q.tree) in
    record {
      tokens = read;
      forest = forest;
      file = subst (λ ts. IsFile ts tree) (sym same)
          (joined_files (plain i.tokens) (plain j.tokens) p.tree q.tree i.file j.file l.no_attributes);
    }

-- all

abbrev pub all_joined : List Program → Program
all_joined [] = program None (file_of [] [])
all_joined (p ∷ ps) = program p.shebang (file_of (attributes_of p.tree) (items_of p.tree ++ all_items ps))

empty_program : IsProgram [] (program None (file_of [] []))
unfolding table
empty_program = record {
  tokens = [];
  forest = (
    refl,
    record {
      pieces = [];
      cover = record { joined = refl; fit = tt };
      tokens_are = refl;
      matched = refl;
      paired = refl;
    },
  );
  file = record { derived = (refl, ((refl, refl), (refl, refl))); spelled = refl };
}

one_joined : (text : List ℕ) (p : Program) → IsProgram text p → IsProgram text (all_joined (p ∷ []))
one_joined text p i =
    let q = parts p.tree i.file.derived in
    let same : p.tree ≡ file_of (attributes_of p.tree) (items_of p.tree ++ []) =
    let items = sym (items_are p.tree q) ∙ sym (append-nil (items_of p.tree)) in
    q.is ∙ ap₂ file_of (sym (attributes_are p.tree q)) items in
    subst (λ (t : Tree). IsProgram text (program p.shebang t)) same i

unmarked_joined : (text : List ℕ) (texts : List (List ℕ)) → begins is_front_mark text ≡ false
    → begins is_front_mark (joined (text ∷ texts)) ≡ false
unmarked_joined text [] n = n
unmarked_joined [] (u ∷ us) n = refl
unmarked_joined (c ∷ cs) (u ∷ us) n = n

later_joined : (text : List ℕ) (texts : List (List ℕ)) (p : Program) (ps : List Program) → IsLater text p
    → IsLater (joined (text ∷ texts)) (all_joined (p ∷ ps))
later_joined text texts p ps l = record {
  no_mark = unmarked_joined text texts l.no_mark;
  no_shebang = l.no_shebang;
  no_attributes = turns_again (attributes_of p.tree) ∙ l.no_attributes;
}

pub program_joined : (later : Bool) (texts : List (List ℕ)) (ps : List Program) → AreJoinable later texts ps
    → IsProgram (joined texts) (all_joined ps)
program_joined later [] [] h = empty_program
program_joined later (t ∷ []) (p ∷ []) h = one_joined t p h.0
program_joined later (t ∷ u ∷ us) (p ∷ q ∷ qs) h =
    let w : Program = all_joined (q ∷ qs) in
    let j = program_joined true (u ∷ us) (q ∷ qs) h.2 in
    let l = later_joined u us q qs (h.2.1 refl) in
    subst
    (λ (xs : List Tree). IsProgram (joined (t ∷ u ∷ us))
    (program p.shebang (file_of (attributes_of p.tree) (items_of p.tree ++ xs))))
    (turns_again (items_of q.tree ++ all_items qs)) (two_programs t (joined (u ∷ us)) p w h.0 j l)
program_joined later (t ∷ []) (p ∷ q ∷ qs) h = absurd h.2
program_joined later (t ∷ u ∷ us) (p ∷ []) h = absurd h.2
program_joined later [] (p ∷ ps) h = absurd h
program_joined later (t ∷ ts) [] h = absurd h

-- characters of each
pub characters_apart : (a b : List ℕ) → AreCharacters (a ++ 10 ∷ b) → AreCharacters a × AreCharacters b
characters_apart [] b h = (refl, h)
characters_apart (c ∷ cs) b h =
    let (one, others) = and_parts (scalar c) (scalars (cs ++ 10 ∷ b)) h in
    let (x, y) = characters_apart cs b others in
    (rw one x, y)
