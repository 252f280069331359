-- Texts that are read by a function, which is lent an arena and a buffer of the text's tokens.
use Rattle.std.specs.Prelude.{◌≡◌, List, Err, Result}
use Rattle.proc_macro2.specs.Token.{Spanned}
use Rattle.syn_buffer.specs.Entries.{spanned_entries}
use Rattle.syn_buffer.specs.declared.buffer.TokenBuffer.{TokenBuffer}
use Rattle.syn_error.specs.declared.fault.ParseFault.{ParseFault}
use Rattle.syn_error.specs.declared.fault.ParseFault.TheVariants.{Syntax}
use Rattle.syn_error.specs.declared.fault.TextFault.{TextFault}
use Rattle.syn_error.specs.declared.fault.TextFault.TheVariants as fault
use Rattle.reader_tree.specs.declared.arena.Arena.{Arena}
use denote.Bor.{Bor}

-- a function may answer so, lent some arena and some buffer of these tokens
abbrev pub MayAnswer : {T : Type 0} → (Bor Arena → Bor TokenBuffer → Result T ParseFault → Type 0) → List Spanned →
    Result T ParseFault → Type 0
MayAnswer answers tokens answer = (arena : Bor Arena) × (buffer : Bor TokenBuffer)
    × (spanned_entries buffer.now.entries.items ≡ tokens) × answers arena buffer answer

-- it may answer, of these tokens, the fault of syntax that is said of the text
abbrev pub MayRefuse : {T : Type 0} → (Bor Arena → Bor TokenBuffer → Result T ParseFault → Type 0) → TextFault →
    List Spanned → Type 0
MayRefuse answers (fault.Syntax e) tokens = MayAnswer answers tokens (Err (Syntax e))
MayRefuse answers _ tokens = ⊥
