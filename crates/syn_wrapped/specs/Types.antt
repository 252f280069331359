-- What stands in the tree of a type of its form: the form behind the alternatives before its own.
use Rattle.reader_table.specs.declared.kind.Plus.{Plus}
use Rattle.reader_table.specs.declared.kind.Style.TheVariants as styles
use Rattle.reader_tree.specs.Forms.{seconds}
use Rattle.std.specs.Prelude.{◌≡◌, ℕ}
use Rattle.syn_ast.specs.Types.{type_path, type_tree}
use Rattle.syn_ast.specs.declared.types.«Type».{«Type» as Type'}
use Rattle.syn_ast.specs.declared.types.«Type».TheVariants as types
use Rattle.syn_grammar.specs.Kind as k
use Rattle.syn_grammar.specs.Tree as t
use Rattle.syn_grammar.specs.Tree.{Tree}
use Rattle.syn_made.specs.MadeAst.{AreBounds}

-- how many alternatives stand before the one that reads a type's form
abbrev pub before_type : Type' → ℕ
before_type (types.Tuple x) = 0
before_type (types.Paren x) = 0
before_type (types.Never x) = 1
before_type (types.Reference x) = 2
before_type (types.Ptr x) = 3
before_type (types.Slice x) = 4
before_type (types.Array x) = 4
before_type (types.Infer x) = 5
before_type (types.TraitObject x) = 6
before_type (types.ImplTrait x) = 7
before_type (types.FnPtr x) = 8
before_type (types.Path x) = 9

-- a type's form among those of types, of which a path is the last
abbrev pub type_inside : Type' → Tree
type_inside (types.Path x) = seconds 9 (type_path x)
type_inside x = seconds (before_type x) (t.First (type_tree x))

-- the kind of a type's form
abbrev pub type_kind : k.Plus → Type' → k.Kind
type_kind p (types.Tuple x) = k.TupleType
type_kind p (types.Paren x) = k.TupleType
type_kind p (types.Never x) = k.NeverType
type_kind p (types.Reference x) = k.ReferenceType
type_kind p (types.Ptr x) = k.PointerType
type_kind p (types.Slice x) = k.BracketType
type_kind p (types.Array x) = k.BracketType
type_kind p (types.Infer x) = k.InferType
type_kind p (types.TraitObject x) = k.DynType p
type_kind p (types.ImplTrait x) = k.ImplType p
type_kind p (types.FnPtr x) = k.FnPtrType
type_kind p (types.Path x) = k.AnyPath k.AtType

-- where a type stands, a + may stand between its bounds or may not: those of dyn and impl are as the place has them,
-- and a path is one of types
abbrev pub IsTypeAt : Plus → Type' → Type 0
IsTypeAt p (types.TraitObject x) = AreBounds p x.bounds
IsTypeAt p (types.ImplTrait x) = AreBounds p x.bounds
IsTypeAt p (types.Path x) = x.style ≡ styles.AtType
IsTypeAt p _ = Unit {0}
