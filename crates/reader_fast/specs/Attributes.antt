-- Groups at the front of tokens, and attributes: what they are made of.
use Rattle.std.specs.Prelude.{◌≡◌, ℕ, ◌≤◌, List, [], ◌∷◌}
use Rattle.proc_macro2.specs.Token.{Token, Opens}
use Rattle.proc_macro2.specs.declared.delimiter.Delimiter.{Delimiter}
use Rattle.proc_macro2.specs.declared.delimiter.Delimiter.TheVariants as D
use Rattle.rust_leaf.specs.declared.punct.Spacing.{Spacing}
use Rattle.syn_grammar.specs.Gram.{Gram, ref}
use Rattle.syn_grammar.specs.Kind.{Delimited, Expression, Meta, OuterAttribute, Plain}
use Rattle.syn_grammar.specs.Look.{◌or◌}
use Rattle.syn_grammar.specs.Name.{the_value}
use Rattle.syn_grammar.specs.Run.{Got, Out, group_at, interp, run, whole}
use Rattle.syn_grammar.specs.Say.{◌∶◌, ◌▸◌, when◌read◌else◌, brace, bracket, marks, optional, parenthesis, refused}
use Rattle.syn_grammar.specs.Say.{sign}
use Rattle.syn_grammar.specs.Tree.{Tree, AMark, Called, First, Group, Node, Pair, Raw, Second}
use Rattle.reader_fast.specs.Lone.{lone_literal}

-- such a group opens first
abbrev pub IsOpened : Delimiter → List Token → Type 0
IsOpened d (Opens e ∷ ts) = e ≡ d
IsOpened d ts = ⊥

-- a group stands first, in which and behind which these tokens stand
abbrev pub IsEntered : Delimiter → List Token → List Token → List Token → Type 0
IsEntered d ts xs us = (f : List Token → Out) → group_at d f ts ≡ whole d us (f xs)

-- a group whose tokens are kept as they are
abbrev pub IsKept : Delimiter → Type 0
IsKept D.None = ⊥
IsKept d = Unit {0}

abbrev pub chosen : Delimiter → Tree → Tree
chosen D.Parenthesis x = First x
chosen D.Brace x = Second (First x)
chosen D.Bracket x = Second (Second x)
chosen D.None x = x

abbrev pub delimited : Delimiter → List Token → Tree
delimited d xs = Node Delimited (chosen d (Group d (Raw xs)))

-- what stands behind an attribute's path, as the entry of the table says it
abbrev pub behind_path : Gram
behind_path =
    when parenthesis or brace or bracket read ref Delimited
    else optional (marks "=") (sign "=" ▸ (when marks "#" read refused else the_value ∶ ref (Expression Plain)))

-- it is read so, to the end
abbrev pub IsBehindPath : List Token → Tree → Type 0
IsBehindPath ts x = (fuel : ℕ) → 8 ≤ fuel → interp (run fuel) behind_path ts ≡ Got x []

abbrev pub value_of : Spacing → List ℕ → Tree
value_of spacing cs = Second (First (Pair (AMark 61 [] spacing) (Second (Called the_value (lone_literal Plain cs)))))

abbrev pub meta_of : Tree → Tree → Tree
meta_of p x = Node Meta (Pair (Second p) x)

abbrev pub attribute_of : Spacing → Tree → Tree
attribute_of spacing x = Node OuterAttribute (Pair (AMark 35 [] spacing) (Group D.Bracket x))
