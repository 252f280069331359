-- Places at which several kinds are looked for.
use Rattle.std.specs.Prelude.{◌≡◌, ℕ, List, length}
use Rattle.rust_map.specs.declared.span.Span.{Span}
use Rattle.proc_macro2.specs.Token.{Token}
use Rattle.syn_error.specs.Notes.{place_of}
use Rattle.syn_error.specs.declared.fault.ParseFault.{ParseFault}
use Rattle.syn_error.specs.declared.fault.ParseFault.TheVariants.{Syntax, Memory}
use Rattle.syn_buffer.specs.Position.{left}
use Rattle.syn_input.specs.declared.lookahead.Lookahead1.{Lookahead1}

-- the tokens that stand there
abbrev pub looked_at : Lookahead1 → List Token
looked_at look = left look.cursor

-- how many kinds did not stand there
abbrev pub missed : Lookahead1 → ℕ
missed look = length look.shown.items

-- the fault is of syntax at that place, or that memory was refused
abbrev pub IsAt : Span → ParseFault → Type 0
IsAt span (Syntax e) = place_of e ≡ span
IsAt span Memory = Unit {0}
