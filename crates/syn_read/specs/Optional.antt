-- What the grammar looks for where a form may stand that may be missing; and the words in front of a function and in a
-- static.
use Rattle.std.specs.Prelude.{◌≡◌, codes, List, ℕ, Bool}
use Rattle.rust_leaf.specs.Leaf.{ident_text}
use Rattle.syn_data.specs.declared.item.StaticMutability.{StaticMutability}
use Rattle.syn_data.specs.declared.item.StaticMutability.TheVariants as mutabilities
use Rattle.syn_grammar.specs.Look.{Look}
use Rattle.syn_grammar.specs.Say.{at}
use Rattle.rust_leaf.specs.Keywords.{same_text}
use Rattle.syn_item.specs.declared.function.Safety.{Safety}
use Rattle.syn_item.specs.declared.function.Safety.TheVariants as safeties
use Rattle.syn_read.specs.Reading.{NoWord, StandsWord, left}
use Rattle.syn_read.specs.declared.reader.Reader.{Reader}

-- the binary interface of a function: extern
abbrev pub abi_stands : Look
abi_stands = at "extern"

-- lifetimes that are bound: for
abbrev pub bound_lifetimes_stand : Look
bound_lifetimes_stand = at "for"

-- a where clause: where
abbrev pub where_clause_stands : Look
where_clause_stands = at "where"

-- the word is unsafe
abbrev pub is_unsafe : List ℕ → Bool
is_unsafe cs = same_text (codes "unsafe") cs

-- the word is safe
abbrev pub is_safe : List ℕ → Bool
is_safe cs = same_text (codes "safe") cs

-- the word is mut
abbrev pub is_mut : List ℕ → Bool
is_mut cs = same_text (codes "mut") cs

-- It is unsafe or nothing: the word stood first and was read, or none stood there and nothing was.
abbrev pub ReadsUnsafe : Safety → Reader → Reader → Type 0
ReadsUnsafe (safeties.Unsafe i) old new = StandsWord is_unsafe (ident_text i.now) (left old) (left new)
ReadsUnsafe (safeties.Safe i) old new = ⊥
ReadsUnsafe safeties.Default old new = NoWord is_unsafe (left old) × (new ≡ old)

-- It is safe, unsafe or nothing, likewise.
abbrev pub ReadsSafety : Safety → Reader → Reader → Type 0
ReadsSafety (safeties.Unsafe i) old new = StandsWord is_unsafe (ident_text i.now) (left old) (left new)
ReadsSafety (safeties.Safe i) old new = StandsWord is_safe (ident_text i.now) (left old) (left new)
ReadsSafety safeties.Default old new = NoWord is_safe (left old) × NoWord is_unsafe (left old) × (new ≡ old)

-- It is mut or nothing, likewise.
abbrev pub ReadsMutability : StaticMutability → Reader → Reader → Type 0
ReadsMutability (mutabilities.Mut i) old new = StandsWord is_mut (ident_text i.now) (left old) (left new)
ReadsMutability mutabilities.None old new = NoWord is_mut (left old) × (new ≡ old)
