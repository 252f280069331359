-- The receiver and the dots of a function, by its parameters.
use Rattle.std.specs.Prelude.{None, Option, Some}
use Rattle.std.specs.Option.{option_and_then}
use Rattle.syn_grammar.specs.Kind as k
use Rattle.syn_grammar.specs.Name as n
use Rattle.syn_grammar.specs.Part.{or_else}
use Rattle.syn_grammar.specs.Tree as t
use Rattle.syn_grammar.specs.Tree.{Tree}

-- of the parameters of a function, which are kept as they were read, those that stand in its parentheses
abbrev pub inputs_of : Tree → Tree
inputs_of (t.Node k.Parameters (t.First (t.Group d x))) = x
inputs_of _ = t.Nil

-- the first element of a list, if it has one
abbrev pub first_element : Tree → Option Tree
first_element (t.More x c spacing y) = Some x
first_element (t.Final x) = Some x
first_element _ = None

-- the last element of a list, if it has one
abbrev pub last_element : Tree → Option Tree
last_element (t.More x c spacing y) = or_else (last_element y) (Some x)
last_element (t.Final x) = Some x
last_element _ = None

-- the receiver that a parameter is, behind its attributes
abbrev pub receiver_in : Tree → Option Tree
receiver_in (t.Node k.Parameter (t.Pair a (t.First (t.Called n.the_receiver x)))) = Some x
receiver_in _ = None

-- what a parameter is behind its attributes, if that is dots, behind a pattern or alone
abbrev pub variadic_in : Tree → Option Tree
variadic_in (t.Node k.Parameter (t.Pair a (t.Second (t.First x)))) = Some (t.Second (t.First x))
variadic_in (t.Node k.Parameter (t.Pair a (t.Second (t.Second (t.Second (t.Pair p (t.Pair c (t.First x)))))))) =
    Some (t.Second (t.Second (t.Second (t.Pair p (t.Pair c (t.First x))))))
variadic_in _ = None

-- the receiver of a function: its first parameter, if that is one
abbrev pub first_receiver : Tree → Option Tree
first_receiver x = option_and_then receiver_in (first_element (inputs_of x))

-- the dots of a function: what its last parameter is behind its attributes, if that is some
abbrev pub last_variadic : Tree → Option Tree
last_variadic x = option_and_then variadic_in (last_element (inputs_of x))
