-- Where among statements the last mark of a raw item is set apart: before a statement that begins with a parenthesis
-- that was added, and began with none.
use Rattle.std.specs.Prelude.{Bool, true, false, not, ◌&&◌, cond, List, [], ◌∷◌, Option, Some, None}
use Rattle.proc_macro2.specs.Token.{Token}
use Rattle.syn_grammar.specs.Kind.{AStatement, AnItem}
use Rattle.syn_grammar.specs.Tree.{Tree, Raw, First, Second, Verbatim, Node, flat}
use Rattle.syn_grammar.specs.Look.{sees}
use Rattle.syn_grammar.specs.Say.{parenthesis}
use Rattle.syn_grammar.specs.Normal.{apart}
use Rattle.laws_ranges.specs.Opens.{opens_turns}

-- tokens that are held as they are
abbrev pub is_raw : Tree → Bool
is_raw (Raw ts) = true
is_raw (Verbatim x) = true
is_raw x = false

-- an item that is
abbrev pub is_raw_node : Tree → Bool
is_raw_node (Node AnItem x) = is_raw x
is_raw_node x = false

-- a statement that is such an item, or an item behind attributes
abbrev pub is_raw_third : Tree → Bool
is_raw_third (Second (Second (First x))) = is_raw_node x
is_raw_third x = false

abbrev pub is_raw_choice : Tree → Bool
is_raw_choice (First x) = is_raw_node x
is_raw_choice (Second x) = is_raw_third x
is_raw_choice x = false

abbrev pub is_raw_statement : Tree → Bool
is_raw_statement (Node AStatement x) = is_raw_choice x
is_raw_statement x = false

-- a turn among statements that is one
abbrev pub is_raw_turn : Tree → Bool
is_raw_turn (Second x) = is_raw_statement x
is_raw_turn x = false

-- A parenthesis is added in front of what follows, which began with none.
abbrev pub is_opened : Tree → Bool
is_opened y = opens_turns y && not (sees parenthesis (flat y))

-- a turn, and those behind it
abbrev pub is_set_apart : Tree → Tree → Bool
is_set_apart x y = is_raw_turn x && is_opened y

abbrev pub apart_where : Bool → List Token → List Token
apart_where b ts = cond b (apart ts) ts

-- whether there are tokens, and whether the first one opens a parenthesis
abbrev pub begun : List Token → Option Bool
begun [] = None
begun (t ∷ ts) = Some (sees parenthesis (t ∷ []))

-- what the earlier one says, if there is one
abbrev pub earlier : Option Bool → Option Bool → Option Bool
earlier None o = o
earlier (Some b) o = Some b
