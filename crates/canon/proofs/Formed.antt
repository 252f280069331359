-- From what was read of a text's tokens to what is said of the text.
use Rattle.std.proofs.Common.{◌≡◌, ◌++◌, ℕ, List, ap, ◌∙◌, subst}
use Rattle.std.specs.Prelude.{Option, Some}
use Rattle.rust_map.specs.declared.place.LineColumn.{LineColumn}
use Rattle.rust_map.specs.declared.span.Span.{Span}
use Rattle.rust_map.specs.Sources.{Sources, next_position, next_span, next_spot, spot, with_text}
use Rattle.proc_macro2.specs.FileForest.{IsFileForest}
use Rattle.proc_macro2.specs.Token.{Spanned, plain}
use Rattle.laws_programs.proofs.FileForests.{file_elsewhere, same_file}
use Rattle.laws_programs.proofs.Programs.{program_anywhere}
use Rattle.laws_programs.specs.Faults.{IsSyntaxFault}
use Rattle.laws_programs.specs.Program.{IsOutput, NoFile, Program, shebang_text}
use Rattle.canon.proofs.Forests.{file_behind, file_lies}
use Rattle.canon.proofs.Places.{placed}
use Rattle.canon.specs.Places.{span_place}
use Rattle.canon.specs.Unread.{IsForm}

-- what is formed of the tokens of a text, behind the shebang, is the text's output
pub output_is : (base : ℕ) (text form out : List ℕ) (shebang : Option (List ℕ)) (ss : List Spanned)
    → IsFileForest base text shebang ss → IsForm (plain ss) form → out ≡ shebang_text shebang ++ form
    → IsOutput text out
output_is base text form out shebang ss forest formed is =
    let p : Program = record { shebang = shebang; tree = formed.tree } in
    record {
      program = p;
      is_program = program_anywhere base text ss p forest formed.file;
      is = is ∙ ap (λ cs. shebang_text shebang ++ cs) formed.is;
    }

-- tokens of a text that are no file, and where the map has the one of which an error speaks
pub syntax_is : (old new : Sources) (text : List ℕ) (shebang : Option (List ℕ)) (ss : List Spanned) (span : Span)
    (place : Option LineColumn) → IsFileForest (next_position old) text shebang ss → new ≡ with_text old text
    → spot new (next_span old text) ≡ Some (next_spot old text) → NoFile (plain ss)
    → place ≡ span_place new span ss → IsSyntaxFault text place
syntax_is old new text shebang ss span place forest grown there none is =
    let base : ℕ = next_position old in
    let (ts, here) = file_elsewhere base 0 text shebang ss forest in
    let spot_there = subst (λ (m : Sources). spot m (next_span old text) ≡ Some (next_spot old text)) grown there in
    let (index, same) = placed old text spot_there span ss ts (file_lies base text shebang ss forest)
    (file_behind base text shebang ss ts forest here) in
    record {
      shebang = shebang;
      tokens = ts;
      forest = here;
      no_file = subst NoFile (same_file base 0 text shebang shebang ss ts forest here).1 none;
      index = index;
      there = is ∙ ap (λ (m : Sources). span_place m span ss) grown ∙ same;
    }
