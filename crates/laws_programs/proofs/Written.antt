-- The tokens of a normal form, as they are written: leaves in groups that match.
use Rattle.std.proofs.Common.{◌≡◌, ℕ, List, [], ◌∷◌, refl, sym, ap, ◌∙◌, subst}
use Rattle.std.proofs.lemmas.List.{append-nil}
use Rattle.rust_map.specs.Spans.{call_site}
use Rattle.rust_leaf.specs.Leaf.{AreCharacters}
use Rattle.proc_macro2.specs.Flat.{spanned}
use Rattle.proc_macro2.specs.Groups.{IsMatched}
use Rattle.proc_macro2.specs.Leaf.{AreLeaves}
use Rattle.proc_macro2.specs.Token.{Spanned, Token, plain}
use Rattle.syn_grammar.specs.Gram.{ref}
use Rattle.syn_grammar.specs.Kept.{kept}
use Rattle.syn_grammar.specs.Kind.{AFile}
use Rattle.syn_grammar.specs.Normal.{normal}
use Rattle.syn_grammar.specs.Tree.{flat}
use Rattle.laws_programs.specs.Program.{IsProgram, Program}
use Rattle.laws_programs.proofs.FileForests.{file_matched, file_spaced}
use Rattle.laws_programs.proofs.Leaves.{Good, IsWithin, good, good_normal}
use Rattle.laws_programs.proofs.Stacks.{IsMatching, opened, opened_plain}

-- tokens somewhere

abbrev pub placed : List Token → List Spanned
placed [] = []
placed (t ∷ ts) = spanned t call_site ∷ placed ts

pub placed_plain : (ts : List Token) → plain (placed ts) ≡ ts
placed_plain [] = refl
placed_plain (t ∷ ts) = ap (λ us. t ∷ us) (placed_plain ts)

pub placed_matched : (ts : List Token) → IsMatching ts → IsMatched (placed ts)
placed_matched ts m =
    opened_plain [] (placed ts) ∙ ap (opened []) (placed_plain ts ∙ sym (append-nil ts)) ∙ m.by [] []

-- the tree of a program is good, and its normal form
file_within : (text : List ℕ) (p : Program) → AreCharacters text → (i : IsProgram text p) → IsWithin (flat p.tree)
file_within text p a i = record {
  leaves = subst AreLeaves (sym i.file.spelled) (file_spaced 0 text p.shebang i.tokens a i.forest).0;
  before = [];
  behind = [];
  after = [];
  opens = ap (opened []) (append-nil (flat p.tree) ∙ i.file.spelled) ∙ sym (opened_plain [] i.tokens)
      ∙ file_matched 0 text p.shebang i.tokens i.forest;
}

pub normal_good : (text : List ℕ) (p : Program) → AreCharacters text → IsProgram text p → Good (normal (kept p.tree))
normal_good text p a i = good_normal p.tree (good p.tree (ref AFile) [] i.file.derived (file_within text p a i))
