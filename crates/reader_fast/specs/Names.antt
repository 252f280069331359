-- Paths of names alone: what stands behind a name, and their trees.
use Rattle.std.specs.Prelude.{◌≡◌, ℕ, ◌≤◌, IsTrue, true, List, [], ◌∷◌, length, None, Some}
use Rattle.proc_macro2.specs.Token.{Token, Ident, Punct}
use Rattle.rust_leaf.specs.Leaf.{ident_text}
use Rattle.rust_leaf.specs.declared.punct.Spacing.{Spacing}
use Rattle.rust_leaf.specs.declared.punct.Spacing.TheVariants.{Joint}
use Rattle.syn_grammar.specs.Kind.{Style, Plus, AnyPath, AType, Path, Segments}
use Rattle.syn_grammar.specs.Look.{Look, ◌then◌, a_name, as_far}
use Rattle.syn_grammar.specs.Paths.{arguments_stand, parentheses_stand}
use Rattle.syn_grammar.specs.Say.{marks}
use Rattle.syn_grammar.specs.Tree.{Tree, AMark, AWord, First, Nil, Node, Pair, Second}
use Rattle.syn_grammar.specs.Words.{is_name, is_path_keyword, is_plain_name}
use Rattle.syn_buffer.specs.Entries.{is_whole}
use Rattle.reader_tree.specs.Forms.{seconds}
use Rattle.reader_tokens.specs.Tokens.{tokens}
use Rattle.reader_fast.specs.declared.names.Beginning.{Beginning}
use Rattle.reader_fast.specs.declared.names.Beginning.TheVariants as begins
use Rattle.reader_fast.specs.declared.names.Behind.{Behind}
use Rattle.reader_fast.specs.declared.names.Behind.TheVariants as behind
use Rattle.reader_fast.specs.declared.names.Name.{Name}
use Rattle.reader_fast.specs.declared.names.Name.TheVariants as names

-- a word is a name of a path as it is said
abbrev pub IsName : Name → List ℕ → Type 0
IsName names.Plain cs = is_plain_name cs ≡ true
IsName names.Keyword cs = is_path_keyword cs ≡ true

-- a name of a path stands first
abbrev pub IsNamed : List Token → Type 0
IsNamed (Ident cs ∷ ts) = is_name cs ≡ true
IsNamed ts = ⊥

-- behind a name of a path, as far as a path of names alone goes
abbrev pub another_name : Look
another_name = marks "::" then a_name

abbrev pub IsPassed : List Token → List Token → Type 0
IsPassed (Ident cs ∷ ts) us = (n : ℕ) → length ts ≤ n → as_far n another_name ts ≡ Some us
IsPassed ts us = ⊥

-- nothing goes on with a path there: no arguments stand there, no ::, and no parentheses that would be its own
abbrev pub IsPathEnd : Style → List Token → Type 0
IsPathEnd s ts = (arguments_stand s ts ≡ None) × (marks "::" ts ≡ None) × (parentheses_stand s ts ≡ None)

-- what stands behind a name is what is said of it
abbrev pub IsBehind : Style → List Token → Behind → Type 0
IsBehind s ts behind.Nothing = IsPathEnd s ts
IsBehind s ts (behind.Name spacing span rest) = ts ≡ Punct 58 Joint ∷ Punct 58 spacing ∷ tokens rest.now
IsBehind s ts behind.Other = Unit {0}

abbrev pub IsWholeBehind : Behind → Type 0
IsWholeBehind (behind.Name spacing span rest) = IsTrue (is_whole rest.now)
IsWholeBehind _ = Unit {0}

-- a path begins with its last name, or with another and ::, as it is said
pub record IsLast (s : Style) (ts : List Token) (n : Name) (cs : List ℕ) (us : List Token) : Type 0 where
  pub first : ts ≡ Ident cs ∷ us
  pub name : IsName n cs
  pub end : IsPathEnd s us

pub record IsFurther (ts : List Token) (n : Name) (cs : List ℕ) (spacing : Spacing) (us : List Token) : Type 0 where
  pub first : ts ≡ Ident cs ∷ Punct 58 Joint ∷ Punct 58 spacing ∷ us
  pub name : IsName n cs

abbrev pub IsBegin : Style → List Token → Beginning → Type 0
IsBegin s ts (begins.Last n word rest) = IsLast s ts n (ident_text word.now) (tokens rest.now)
IsBegin s ts (begins.Further n word spacing span rest) =
    IsFurther ts n (ident_text word.now) spacing (tokens rest.now)
IsBegin s ts begins.Other = Unit {0}

abbrev pub IsWholeBegin : Beginning → Type 0
IsWholeBegin (begins.Last n word rest) = IsTrue (is_whole rest.now)
IsWholeBegin (begins.Further n word spacing span rest) = IsTrue (is_whole rest.now)
IsWholeBegin begins.Other = Unit {0}

-- the segments that a name begins, with that behind it: one that may take arguments is the second of the choice
abbrev pub by_name : Name → Tree → Tree
by_name names.Plain x = Second x
by_name names.Keyword x = First x

abbrev pub segments_of : Style → Name → List ℕ → Tree → Tree
segments_of s n cs x = Node (Segments s) (by_name n (Pair (AWord cs) x))

-- behind it nothing, or :: and other segments
abbrev pub nothing_behind : Name → Tree
nothing_behind names.Plain = seconds 3 Nil
nothing_behind names.Keyword = Second Nil

abbrev pub others_behind : Name → Spacing → Tree → Tree
others_behind names.Plain spacing x = Second (First (Pair (AMark 58 (58 ∷ []) spacing) x))
others_behind names.Keyword spacing x = First (Pair (AMark 58 (58 ∷ []) spacing) x)

-- the segments of a name alone
abbrev pub last_segment : Style → Name → List ℕ → Tree
last_segment s n cs = segments_of s n cs (nothing_behind n)

-- the segments of a name, :: and other segments
abbrev pub further_segments : Style → Name → List ℕ → Spacing → Tree → Tree
further_segments s n cs spacing x = segments_of s n cs (others_behind n spacing x)

-- the path that has these segments, as it stands where a qualified one could, and as a type
abbrev pub path_of : Style → Tree → Tree
path_of s x = Node (Path s) (Pair (Second Nil) x)

abbrev pub unqualified : Style → Tree → Tree
unqualified s x = Node (AnyPath s) (Second x)

abbrev pub type_of : Plus → Tree → Tree
type_of p x = Node (AType p) (seconds 9 x)
