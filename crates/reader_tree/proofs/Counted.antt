-- How many tokens a form has.
use Rattle.std.specs.Prelude.{ℕ, suc}
use Rattle.std.proofs.Common.{◌≡◌, List, [], ◌∷◌, ◌++◌, refl, sym, ap, ◌∙◌, length, arith}
use Rattle.std.proofs.lemmas.List.{length-append}
use Rattle.rust_leaf.specs.declared.punct.Spacing.{Spacing}
use Rattle.syn_grammar.specs.Tree.{flat, marks}
use Rattle.reader_tree.specs.Forms.{mark_of}
use Rattle.reader_tree.proofs.Flat.{flat_seconds, flat_elements}

many_marks : (c : ℕ) (cs : List ℕ) (s : Spacing) → length (marks c cs s) ≡ suc (length cs)
many_marks c [] s = refl
many_marks c (d ∷ ds) s = ap suc (many_marks d ds s)

pub marks_counted : (cs : List ℕ) (s : Spacing) → length (flat (mark_of cs s)) ≡ length cs
marks_counted [] s = refl
marks_counted (c ∷ cs) s = many_marks c cs s

pub ruleset forms = (flat_seconds, flat_elements, marks_counted, length-append)
