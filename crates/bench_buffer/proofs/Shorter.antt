-- What stands behind a token, or in a group, is shorter.
use Rattle.std.proofs.Common.{◌≡◌, ◌<◌, ◌∷◌, ◌++◌, List, length, ap, arith, length-append}
use Rattle.rust_map.specs.declared.span.Span.{Span}
use Rattle.rust_leaf.specs.declared.ident.Ident as Idents
use Rattle.proc_macro2.specs.Flat.{spanned}
use Rattle.proc_macro2.specs.Token.{Closes, Spanned}
use Rattle.proc_macro2.specs.declared.delimiter.Delimiter.{Delimiter}
use Rattle.syn_buffer.specs.Groups.{Enters}
use Rattle.syn_buffer.specs.Lifetimes.{ReadsLifetime}
use Rattle.syn_buffer.specs.Position.{Takes, rest}
use Rattle.syn_buffer.specs.declared.position.Cursor.{Cursor}

pub takes_shorter : (a : Cursor) (t : Spanned) (b : Cursor) → Takes a t b → length (rest b) < length (rest a)
takes_shorter a t b h = omega (arith, ap (λ (x : List Spanned). length x) h.reads)

pub lifetime_shorter : (ts : List Spanned) (s : Span) (i : Idents.Ident) (us : List Spanned) →
    ReadsLifetime ts s i us → length us < length ts
lifetime_shorter ts s i us h = omega (arith, ap (λ (x : List Spanned). length x) h)

pub enters_shorter : (a : Cursor) (d : Delimiter) (s : Span) (i b : Cursor) → Enters a d s i b →
    (length (rest i) < length (rest a)) × (length (rest b) < length (rest a))
enters_shorter a d s i b h =
    let l = ap (λ (x : List Spanned). length x) h.group.reads in
    let m = length-append (rest i) (spanned (Closes d) s ∷ rest b) in
    (omega (arith, l, m), omega (arith, l, m))
