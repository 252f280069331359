-- The ways in which the inside of a node, or of a part, is written.
use Rattle.std.specs.Prelude.{ℕ, Bool, true, false, List, [], ◌∷◌, Option, Some, None}
use Rattle.proc_macro2.specs.Token.{Token, Literal}
use Rattle.rust_leaf.specs.Leaf.{literal_text}
use Rattle.syn_grammar.specs.Kind.{Kind, ImplGenerics, Parameter, AStatement, ExprField, ExprMethodCall, ExprAwait}
use Rattle.syn_grammar.specs.Name.{the_indices, the_value}
use Rattle.syn_grammar.specs.Words.{plain_decimal}
use Rattle.syn_grammar.specs.Tidy.{is_bare_generics, is_lifetime_param}
use Rattle.syn_grammar.specs.Tree.{Tree, ALiteral, Pair, Second, Called, Node}
use Rattle.writer_rules.specs.declared.way.Firsts.{Firsts}
use Rattle.writer_rules.specs.declared.way.Firsts.TheVariants as firsts
use Rattle.writer_rules.specs.declared.way.Way.{Way}
use Rattle.writer_rules.specs.declared.way.Way.TheVariants as ways
use Rattle.writer_rules.specs.Seen.{text_of_literal}
use Rattle.writer_rules.specs.Laid.{firsts_laid, is_lifetime_read, laid, laid_in}

-- the elements that come first
abbrev pub passes : Firsts → Tree → Bool
passes firsts.Params x = is_lifetime_param x
passes firsts.Arguments x = is_lifetime_read x

-- the tokens of an inside that is written so
abbrev pub way_laid : Way → Tree → List Token
way_laid ways.Nothing x = []
way_laid (ways.Number l) x = Literal (plain_decimal (literal_text l.now)) ∷ []
way_laid ways.Parameter x = laid (Node Parameter x)
way_laid ways.Statement x = laid (Node AStatement x)
way_laid (ways.Firsts f) x = firsts_laid (passes f) x
way_laid (ways.Parts w) x = laid_in w x

-- generics of an impl without parameters
abbrev pub is_bare_angled : Tree → Bool
is_bare_angled (Node ImplGenerics x) = is_bare_generics x
is_bare_angled _ = false

-- the forms whose own part begins with a dot, behind which numbers may stand
abbrev pub is_dotted : Kind → Bool
is_dotted ExprField = true
is_dotted ExprMethodCall = true
is_dotted ExprAwait = true
is_dotted _ = false

-- the numbers behind a dot
abbrev pub indices_of : Tree → Option Tree
indices_of (Called the_indices x) = Some x
indices_of _ = None

-- an own part that begins with a dot: that, the numbers behind it, and what stands behind the last dot
abbrev pub dotted_of : Tree → Option (Tree × Tree × Tree)
dotted_of (Pair (Pair d (Called the_indices x)) y) = Some (d, x, y)
dotted_of _ = None

-- the text of a literal that is a value
abbrev pub value_text : Tree → Option (List ℕ)
value_text (Called the_value x) = text_of_literal x
value_text _ = None

-- the text of the number behind the last dot of a field, if it is one
abbrev pub last_text : Kind → Tree → Option (List ℕ)
last_text ExprField (Second (Called the_value (ALiteral cs))) = Some cs
last_text _ _ = None
