-- The words in which it is said what a node is as a tree of the grammar: as a syntax tree holds it, with each last
-- mark alone, each kind in the style in which a type is written. Of where it stood only the kinds of blocks are left
-- that its entry is for.
use Rattle.std.specs.Prelude.{ℕ, Bool, true, false, List, [], ◌∷◌, Option, Some, None, cond, codes}
use Prim.Native.String.{String}
use Rattle.rust_leaf.specs.Leaf.{ident_text}
use Rattle.rust_leaf.specs.declared.punct.Spacing.TheVariants.{Alone}
use Rattle.proc_macro2.specs.Token.{Spanned, plain}
use Rattle.reader_tree.specs.Forms.{mark_of, seconds}
use Rattle.syn_grammar.specs.Name.{Part}
use Rattle.syn_grammar.specs.Tree.{Tree}
use Rattle.rust_leaf.specs.Keywords.{same_text}
use Rattle.syn_lists.specs.Lists.{values, separators}
use Rattle.syn_grammar.specs.Kind as k
use Rattle.syn_grammar.specs.Tree as t
use Rattle.syn_kinds.specs.Table as table
use Rattle.syn_kinds.specs.Values as kinds
use Rattle.rust_leaf.specs.declared.ident.Ident.{Ident}
use Rattle.syn_kinds.specs.declared.delimiters.Delimiters.{Delimiters}
use Rattle.syn_kinds.specs.declared.keyword.Keyword.{Keyword}
use Rattle.syn_kinds.specs.declared.lifetime.Lifetime.{Lifetime}
use Rattle.syn_kinds.specs.declared.punctuation.Punctuation.{Punctuation}
use Rattle.syn_kinds.specs.declared.underscore.Underscore.{Underscore}
use Rattle.syn_lists.specs.declared.punctuated.Punctuated.{Punctuated}

-- one, and then the other
infixr 20 ◌▸◌
abbrev pub ◌▸◌ : Tree → Tree → Tree
x ▸ y = t.Pair x y

-- a part, by its name
infixr 21 ◌∶◌
abbrev pub ◌∶◌ : Part → Tree → Tree
n ∶ x = t.Called n x

-- of an entry's alternatives that one, counted from 0
abbrev pub alternative : ℕ → Tree → Tree
alternative n x = seconds n (t.First x)

-- the last one, behind so many others
abbrev pub last : ℕ → Tree → Tree
last n x = seconds n x

-- what is read of a judged entry, and kept
abbrev pub judged : Tree → Tree
judged x = t.First x

-- nothing, where something may stand
abbrev pub absent : Tree
absent = t.Second t.Nil

-- what stands there, if anything does
abbrev pub optional : {A : Type 0} → (A → Tree) → Option A → Tree
optional f None = absent
optional f (Some x) = t.First (f x)

-- what stands there, in an entry that asks for it; a node made by hand may lack it
abbrev pub given : {A : Type 0} → (A → Tree) → Option A → Tree
given f None = t.Nil
given f (Some x) = f x

-- a punctuation, a keyword and a pair of delimiters, each by its kind
abbrev pub mark : {K N : ℕ} → Punctuation K N → Tree
mark {K = K} {N = N} m = mark_of (table.marks K N) Alone

abbrev pub keyword : {K : ℕ} → Keyword K → Tree
keyword {K = K} w = t.AWord (table.word K)

abbrev pub underscore : Underscore → Tree
underscore w = t.AWord (codes "_")

abbrev pub enclosed : {D : ℕ} → Delimiters D → Tree → Tree
enclosed {D = D} d x = t.Group (kinds.delimiter_of D) x

-- a punctuation that is filled in where it is missing
abbrev pub mark_or : {K N : ℕ} → Option (Punctuation K N) → Tree
mark_or {K = K} {N = N} m = mark_of (table.marks K N) Alone

-- one that is filled in, by its text
abbrev pub filled : String → Tree
filled s = mark_of (codes s) Alone

-- a name
abbrev pub name : Ident → Tree
name i = t.AWord (ident_text i)

abbrev pub lifetime : Lifetime → Tree
lifetime l = t.ALifetime (ident_text l.ident)

-- a word that may stand where a name does, or a name
abbrev pub name_or : String → Ident → Tree
name_or s i = cond (same_text (codes s) (ident_text i)) (t.First (name i)) (t.Second (name i))

-- tokens that are kept as they are
abbrev pub raw : List Spanned → Tree
raw ts = t.Raw (plain ts)

-- Elements with a mark behind each but the last, which may have one too. Where one is missing between two it is filled
-- in.
abbrev pub listed : {A P : Type 0} → ℕ → (A → Tree) → List A → List P → Tree
listed c f [] ps = t.End
listed c f (x ∷ xs) (p ∷ ps) = t.More (f x) c Alone (listed c f xs ps)
listed c f (x ∷ []) [] = t.Final (f x)
listed {P = P} c f (x ∷ y ∷ xs) [] = t.More (f x) c Alone (listed {P = P} c f (y ∷ xs) [])

-- with commas, and with +
abbrev pub list : {A P : Type 0} → (A → Tree) → Punctuated A P → Tree
list f l = listed 44 f (values l) (separators l)

abbrev pub sum : {A P : Type 0} → (A → Tree) → Punctuated A P → Tree
sum f l = listed 43 f (values l) (separators l)

-- elements of which each has a mark behind it, before others
abbrev pub all_listed : {A : Type 0} → ℕ → (A → Tree) → List A → Tree → Tree
all_listed c f [] y = y
all_listed c f (x ∷ xs) y = t.More (f x) c Alone (all_listed c f xs y)

-- one behind the other
abbrev pub turns : {A : Type 0} → (A → Tree) → List A → Tree
turns f [] = t.End
turns f (x ∷ xs) = t.Again (f x) (turns f xs)

-- an expression by itself, of its form
abbrev pub expression : Tree → Tree
expression x = t.Node (k.Expression k.Plain) (t.Whole x)

abbrev pub is_empty : {A : Type 0} → List A → Bool
is_empty [] = true
is_empty (x ∷ xs) = false
