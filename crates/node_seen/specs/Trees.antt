-- How many of some entries their first tree takes.
use Rattle.std.specs.Prelude.{◌≡◌, ℕ, suc, List, [], ◌∷◌}
use Rattle.syn_buffer.specs.declared.entry.Entry.{Entry}
use Rattle.syn_buffer.specs.declared.entry.Entry.TheVariants as entry

-- a group takes its inside and two marks, another token itself; there is none where a group closes
abbrev pub IsTree : List Entry → ℕ → Type 0
IsTree [] n = ⊥
IsTree (entry.Open d span count ∷ es) n = n ≡ suc (suc count)
IsTree (entry.Close d span ∷ es) n = ⊥
IsTree (entry.Ident i ∷ es) n = n ≡ 1
IsTree (entry.Punct p ∷ es) n = n ≡ 1
IsTree (entry.Literal l ∷ es) n = n ≡ 1
