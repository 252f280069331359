-- Why a text has no canonical form, and no outline.
use Rattle.std.specs.Prelude.{ℕ, List}
use Rattle.proc_macro2.specs.FileForest.{IsFileLexicalFault}
use Rattle.laws_programs.specs.Faults.{IsSyntaxFault}
use Rattle.canon.specs.declared.fault.Fault.{Fault}
use Rattle.canon.specs.declared.fault.Fault.TheVariants.{NotUtf8, Lexical, Syntax, NotFirst, MapFull, Memory}
use Rattle.canon.specs.declared.fault.Fault.TheVariants.{Reading, Writing}

-- what a fault says of the text: that the map is full or memory was refused says nothing of it
abbrev pub IsFaultOf : List ℕ → Fault → Type 0
IsFaultOf text (Lexical place) = IsFileLexicalFault text place
IsFaultOf text (Syntax error place) = IsSyntaxFault text place
IsFaultOf text MapFull = Unit {0}
IsFaultOf text Memory = Unit {0}
IsFaultOf text NotUtf8 = ⊥
IsFaultOf text (NotFirst index) = ⊥
IsFaultOf text Reading = ⊥
IsFaultOf text Writing = ⊥
