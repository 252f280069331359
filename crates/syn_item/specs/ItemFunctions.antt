-- The trees that functions are, with their signatures, parameters and receivers.
use Rattle.reader_table.specs.Kinds.{place_of}
use Rattle.reader_table.specs.declared.kind.Place.{Place}
use Rattle.std.specs.Prelude.{◌≡◌, ◌≢◌, IfSome, None, Option, Some, codes}
use Rattle.rust_leaf.specs.Leaf.{ident_text}
use Rattle.rust_leaf.specs.declared.ident.Ident.{Ident}
use Rattle.syn_part.specs.Leaves.{lifetime_tree, list_tree, mark_tree, node_tree, optional_tree, word_tree}
use Rattle.syn_part.specs.declared.leaf.Lifetime.{Lifetime}
use Rattle.syn_part.specs.declared.leaf.Mark.{Mark}
use Rattle.syn_pat.specs.declared.pat_type.PatType.{PatType}
use Rattle.syn_grammar.specs.Kind as k
use Rattle.syn_grammar.specs.Name as n
use Rattle.syn_grammar.specs.Tree as t
use Rattle.syn_grammar.specs.Tree.{◌▸◌, ◌∶◌, Tree}
use Rattle.syn_item.specs.ItemParts.{named_tree, safety_tree}
use Rattle.syn_item.specs.declared.function.FnArg.{FnArg}
use Rattle.syn_item.specs.declared.function.ItemFn.{ItemFn}
use Rattle.syn_item.specs.declared.function.OneParameter.{OneParameter}
use Rattle.syn_item.specs.declared.function.Parameter.{Parameter}
use Rattle.syn_item.specs.declared.function.Parameters.{Parameters}
use Rattle.syn_item.specs.declared.function.Receiver.{Receiver}
use Rattle.syn_item.specs.declared.function.ReceiverKind.{ReceiverKind}
use Rattle.syn_item.specs.declared.function.Safety.{Safety}
use Rattle.syn_item.specs.declared.function.Signature.{Signature}
use Rattle.syn_item.specs.declared.function.VariadicPat.{VariadicPat}
use Rattle.syn_item.specs.declared.function.FnArg.TheVariants as arguments
use Rattle.syn_item.specs.declared.function.ReceiverKind.TheVariants as receivers
use Rattle.syn_item.specs.declared.function.Safety.TheVariants as safeties
use denote.Bor.{Bor}

-- the parameters of a function, which are kept as they were read: (a: A, b: B)
abbrev pub parameters : Parameters → Tree
parameters x = t.Node k.Parameters (t.First (t.Group x.paren_token.delimiter (list_tree x.inputs)))

-- dots, behind a pattern and a colon, or alone
abbrev pub variadic_tree : Option VariadicPat → Mark → Tree
variadic_tree None d = t.Second (t.First (t.Called n.the_dots (mark_tree d)))
variadic_tree (Some p) d = t.Second (t.Second (t.Second (t.Pair (t.Called n.the_pattern p.pat.now) (t.Pair
    (mark_tree p.colon_token) (t.First (t.Called n.the_dots (mark_tree d)))))))

-- a receiver, a type alone, a pattern with its type, or dots
abbrev pub fn_arg_tree : FnArg → Tree
fn_arg_tree (arguments.Receiver x) = t.First (t.Called n.the_receiver x.now)
fn_arg_tree (arguments.Unnamed x) = t.Second (t.Second (t.First (t.Called n.the_unnamed x.now)))
fn_arg_tree (arguments.Typed x) = t.Second (t.Second (t.Second (t.Pair (t.Called n.the_pattern x.pat.now) (t.Pair
    (mark_tree x.colon_token) (t.Second (t.Called n.the_type x.ty.now))))))
fn_arg_tree (arguments.Variadic x) = variadic_tree x.pat x.dots

-- the pattern with its type that it is, if it is that
abbrev pub typed_pattern : FnArg → Option PatType
typed_pattern (arguments.Typed x) = Some x
typed_pattern _ = None

-- if it is a pattern with its type, these are the attributes in it
abbrev pub IsBehind : Bor Tree → FnArg → Type 0
IsBehind a x = IfSome (typed_pattern x) (λ p. p.attrs ≡ Some a)

-- a parameter of a function: its attributes, and what it is behind them
abbrev pub parameter : Parameter → Tree
parameter x = t.Node k.Parameter (t.Pair x.attrs.now (fn_arg_tree x.arg))

-- one parameter by itself, which is kept as it was read
abbrev pub one_parameter : OneParameter → Tree
one_parameter x = t.Node k.FnArg (t.First x.parameter.now)

-- a receiver that is not taken by reference: mut self: T; what stands behind self is given
abbrev pub value_tree : Option (Bor Ident) → Bor Ident → Tree → Tree
value_tree m s y = t.Node k.Receiver (t.Second (t.Pair (optional_tree word_tree m) (t.Pair (word_tree s) y)))

-- a receiver that is taken by reference: &'a mut self
abbrev pub reference_tree : Mark → Option Lifetime → Option (Bor Ident) → Bor Ident → Tree
reference_tree a l m s = t.Node k.Receiver (t.First (t.Pair (mark_tree a) (t.Pair (optional_tree lifetime_tree l)
    (t.Pair (optional_tree word_tree m) (word_tree s)))))

-- the tree is a receiver that is taken so, with a mut in front of self, unless it is taken by reference: its mut
-- stands behind the &
abbrev pub IsReceiverOf : ReceiverKind → Option (Bor Ident) → Bor Ident → Tree → Type 0
IsReceiverOf receivers.Value m s y = y ≡ value_tree m s (t.Second t.Nil)
IsReceiverOf (receivers.Typed c x) m s y = y ≡ value_tree m s (t.First (t.Pair (mark_tree c) x.now))
IsReceiverOf (receivers.Reference a l m) None s y = y ≡ reference_tree a l m s
IsReceiverOf (receivers.Reference a l m) (Some w) s y = ⊥

-- the tree is that receiver
abbrev pub IsReceiver : Receiver → Tree → Type 0
IsReceiver x y = IsReceiverOf x.kind x.mutability x.self_token y

-- whether it is safe to call a function: unsafe or safe, as a part, or neither; which of both, the word alone tells
abbrev pub safety_is : Safety → Tree
safety_is (safeties.Unsafe i) = t.First (safety_tree i)
safety_is (safeties.Safe i) = t.First (safety_tree i)
safety_is safeties.Default = t.Second t.Nil

-- it is unsafe exactly by that word; where it is safe, another word stands there
abbrev pub IsSafety : Safety → Type 0
IsSafety (safeties.Unsafe i) = ident_text i.now ≡ codes "unsafe"
IsSafety (safeties.Safe i) = ident_text i.now ≢ codes "unsafe"
IsSafety safeties.Default = Unit {0}

-- a signature, by the place where it stands, the words before fn each if it stands there:
-- const async unsafe extern "C" fn a<T>(b: B) -> C where ..
abbrev pub signature : Signature → Tree
signature x =
    t.Node (k.Signature (place_of x.place))
    (optional_tree word_tree x.constness ▸ optional_tree word_tree x.asyncness ▸ safety_is x.safety
    ▸ optional_tree node_tree x.abi ▸ word_tree x.fn_token ▸ named_tree x.ident ▸ n.the_generics ∶ x.generics.now
    ▸ x.inputs.now ▸ x.output.now ▸ n.the_where ∶ x.where_clause.now)

-- a function, in its place, of this signature, and of what stands behind that
abbrev pub function_tree : Place → Bor Tree → Tree → Tree
function_tree p s y = t.Node (k.AFunction (place_of p)) (t.Pair s.now y)

-- the tree is a function of a signature and a block, or of a signature and a semicolon, and never of both
abbrev pub IsFunctionOf : Place → Bor Tree → Option (Bor Tree) → Option Mark → Tree → Type 0
IsFunctionOf p s (Some b) None y = y ≡ function_tree p s (t.First (t.Called n.the_body b.now))
IsFunctionOf p s None (Some m) y = y ≡ function_tree p s (t.Second (mark_tree m))
IsFunctionOf p s _ _ y = ⊥

-- the tree is that function
abbrev pub IsItemFn : ItemFn → Tree → Type 0
IsItemFn x y = IsFunctionOf x.place x.sig x.block x.semi_token y
