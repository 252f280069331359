-- The trees that the types of types are.
use Rattle.syn_part.specs.Name.{name_tree}
use Rattle.syn_part.specs.Leaves.{lifetime_tree, list_tree, literal_tree, mark_tree, node_tree, optional_tree}
use Rattle.syn_part.specs.Leaves.{word_tree}
use Rattle.syn_part.specs.Sub.{marked_type_tree, marked_value_tree}
use Rattle.syn_ast.specs.declared.types.Abi.{Abi}
use Rattle.syn_ast.specs.declared.types.AnyPath.{AnyPath}
use Rattle.syn_ast.specs.declared.types.ArgumentName.{ArgumentName}
use Rattle.syn_ast.specs.declared.types.BoundLifetimes.{BoundLifetimes}
use Rattle.syn_ast.specs.declared.types.FnPtrArg.{FnPtrArg}
use Rattle.syn_ast.specs.declared.types.PointerMutability.{PointerMutability}
use Rattle.syn_ast.specs.declared.types.ReturnType.{ReturnType}
use Rattle.syn_ast.specs.declared.types.«Type».{«Type» as Type'}
use Rattle.syn_ast.specs.declared.types.TypeArray.{TypeArray}
use Rattle.syn_ast.specs.declared.types.TypeBounds.{TypeBounds}
use Rattle.syn_ast.specs.declared.types.TypeBracketed.{TypeBracketed}
use Rattle.syn_ast.specs.declared.types.TypeFnPtr.{TypeFnPtr}
use Rattle.syn_ast.specs.declared.types.TypeImplTrait.{TypeImplTrait}
use Rattle.syn_ast.specs.declared.types.TypeInfer.{TypeInfer}
use Rattle.syn_ast.specs.declared.types.TypeNever.{TypeNever}
use Rattle.syn_ast.specs.declared.types.TypeParen.{TypeParen}
use Rattle.syn_ast.specs.declared.types.TypeParenthesized.{TypeParenthesized}
use Rattle.syn_ast.specs.declared.types.TypePath.{TypePath}
use Rattle.syn_ast.specs.declared.types.TypePtr.{TypePtr}
use Rattle.syn_ast.specs.declared.types.TypeReference.{TypeReference}
use Rattle.syn_ast.specs.declared.types.TypeSlice.{TypeSlice}
use Rattle.syn_ast.specs.declared.types.TypeTraitObject.{TypeTraitObject}
use Rattle.syn_ast.specs.declared.types.TypeTuple.{TypeTuple}
use Rattle.syn_ast.specs.declared.types.AnyPath.TheVariants as paths
use Rattle.syn_ast.specs.declared.types.TypeBounds.TheVariants as boundses
use Rattle.syn_ast.specs.declared.types.«Type».TheVariants as types
use Rattle.syn_grammar.specs.Part.{choice}
use Rattle.syn_ast.specs.declared.types.PointerMutability.TheVariants as mutabilities
use Rattle.reader_table.specs.Kinds.{style_of, plus_of}
use Rattle.syn_grammar.specs.Kind as k
use Rattle.syn_grammar.specs.Name as n
use Rattle.syn_grammar.specs.Tree as t
use Rattle.syn_grammar.specs.Tree.{Tree}

-- whether what a pointer points to can be written: const, or mut
abbrev pub pointer_mutability : PointerMutability → Tree
pointer_mutability (mutabilities.Const i) = t.First (word_tree i)
pointer_mutability (mutabilities.Mut i) = t.Second (word_tree i)

-- bounds behind dyn or impl: a list, where + may stand between them, or the one that stands where no + may
abbrev pub type_bounds : TypeBounds → Tree
type_bounds (boundses.Several x) = t.Called n.the_bounds x.now
type_bounds (boundses.One x) = t.Second x.now

-- a pointer: *const T
abbrev pub type_ptr : TypePtr → Tree
type_ptr x = t.Node k.PointerType (t.Pair (mark_tree x.star_token) (t.Pair
    (pointer_mutability x.mutability) x.elem.now))

-- a reference: &'a mut T, the lifetime and mut where they stand
abbrev pub type_reference : TypeReference → Tree
type_reference x = t.Node k.ReferenceType (t.Pair (mark_tree x.and_token) (t.Pair
    (optional_tree lifetime_tree x.lifetime) (t.Pair (optional_tree word_tree x.mutability) x.elem.now)))

-- the type of what never returns: !
abbrev pub type_never : TypeNever → Tree
type_never x = t.Node k.NeverType (mark_tree x.bang_token)

-- a type that is to be inferred: _
abbrev pub type_infer : TypeInfer → Tree
type_infer x = t.Node k.InferType (word_tree x.underscore_token)

-- a function pointer: for<'a> unsafe extern "C" fn(A, B) -> C, what stands before fn where it does
abbrev pub type_fn_ptr : TypeFnPtr → Tree
type_fn_ptr x = t.Node k.FnPtrType (t.Pair (optional_tree node_tree x.lifetimes) (t.Pair
    (optional_tree word_tree x.unsafety) (t.Pair (optional_tree node_tree x.abi) (t.Pair (word_tree x.fn_token)
    (t.Pair (t.Group x.paren_token.delimiter (list_tree x.inputs)) x.output.now)))))

-- the name of an argument of a function pointer: a:, _:
abbrev pub argument_name_tree : ArgumentName → Tree
argument_name_tree x = t.Pair (name_tree x.ident) (mark_tree x.colon_token)

-- an argument of a function pointer: its attributes, its name if it has one, and its type: a: T
abbrev pub fn_ptr_arg : FnPtrArg → Tree
fn_ptr_arg x = t.Node k.FnPtrArg (t.Pair x.attrs.now (t.Pair (optional_tree argument_name_tree x.name) x.ty.now))

-- the binary interface of a function: extern "C", or extern alone
abbrev pub abi : Abi → Tree
abi x = t.Node k.Abi (t.Pair (word_tree x.extern_token) (optional_tree literal_tree x.name))

-- lifetimes that are bound, each as a parameter: for<'a>
abbrev pub bound_lifetimes : BoundLifetimes → Tree
bound_lifetimes x = t.Node k.BoundLifetimes (t.Pair (word_tree x.for_token) (t.Pair (mark_tree x.lt_token) (t.Pair
    (list_tree x.lifetimes) (mark_tree x.gt_token))))

-- what a function returns: -> T, or nothing
abbrev pub return_type : ReturnType → Tree
return_type x = t.Node (k.ReturnType (plus_of x.plus)) (optional_tree marked_type_tree x.ty)

-- a slice or an array: [T], [T; n]
abbrev pub type_bracketed : TypeBracketed → Tree
type_bracketed x = t.Node k.BracketType (t.Group x.bracket_token.delimiter (t.Pair x.elem.now
    (optional_tree marked_value_tree x.len)))

-- a tuple, or a type in parentheses: any list of types in them
abbrev pub type_parenthesized : TypeParenthesized → Tree
type_parenthesized x = t.Node k.TupleType (t.Group x.paren_token.delimiter (list_tree x.elems))

-- a trait object: dyn and its bounds
abbrev pub type_trait_object : TypeTraitObject → Tree
type_trait_object x = t.Node (k.DynType (plus_of x.plus)) (t.Pair (word_tree x.dyn_token) (type_bounds x.bounds))

-- an opaque type: impl and its bounds
abbrev pub type_impl_trait : TypeImplTrait → Tree
type_impl_trait x = t.Node (k.ImplType (plus_of x.plus)) (t.Pair (word_tree x.impl_token) (type_bounds x.bounds))

-- a qualified path, or another
abbrev pub any_path : AnyPath → Tree
any_path (paths.Qualified x) = t.First x.now
any_path (paths.Plain x) = t.Second x.now

-- either of them, in the style that it is written in
abbrev pub type_path : TypePath → Tree
type_path x = t.Node (k.AnyPath (style_of x.style)) (any_path x.path)

-- a slice: [T]
abbrev pub type_slice : TypeSlice → Tree
type_slice x = t.Node k.BracketType (t.Group x.bracket_token.delimiter (t.Pair x.elem.now (t.Second t.Nil)))

-- an array: [T; n]
abbrev pub type_array : TypeArray → Tree
type_array x =
    t.Node k.BracketType (t.Group x.bracket_token.delimiter
    (t.Pair x.elem.now (t.First (t.Pair (mark_tree x.semi_token) (t.Called n.the_value x.len.now)))))

-- a type in parentheses, without a comma: (T)
abbrev pub type_paren : TypeParen → Tree
type_paren x = t.Node k.TupleType (t.Group x.paren_token.delimiter (t.Final x.elem.now))

-- the list of a tuple: one element without a comma is none, and of it there is no tuple's tree
abbrev pub no_lone : Tree → Tree
no_lone (t.Final x) = t.Nil
no_lone l = l

-- a tuple: (), (A,), (A, B)
abbrev pub type_tuple : TypeTuple → Tree
type_tuple x = t.Node k.TupleType (t.Group x.paren_token.delimiter (no_lone (list_tree x.elems)))

-- the tree that a type is, by its form
abbrev pub type_tree : Type' → Tree
type_tree (types.Array x) = type_array x
type_tree (types.FnPtr x) = type_fn_ptr x
type_tree (types.ImplTrait x) = type_impl_trait x
type_tree (types.Infer x) = type_infer x
type_tree (types.Never x) = type_never x
type_tree (types.Paren x) = type_paren x
type_tree (types.Path x) = type_path x
type_tree (types.Ptr x) = type_ptr x
type_tree (types.Reference x) = type_reference x
type_tree (types.Slice x) = type_slice x
type_tree (types.TraitObject x) = type_trait_object x
type_tree (types.Tuple x) = type_tuple x

-- of a node of the kind of types, with plus or without, its form: the alternative that was chosen
abbrev pub form_of_type : Tree → Tree
form_of_type (t.Node (k.AType p) x) = choice x
form_of_type _ = t.Nil
