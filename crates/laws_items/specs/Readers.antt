-- What is read where an item of any kind may stand, and what the reader of one kind of item reads.
use Rattle.std.specs.Prelude.{◌≡◌, Bool, true, false, List}
use Rattle.proc_macro2.specs.Token.{Token}
use Rattle.syn_grammar.specs.Kind.{Kind, InFile, AStruct, AnEnum, AUnion, AStatic, AConst, AnExternCrate}
use Rattle.syn_grammar.specs.Kind.{AForeignModule, AUse, AModule, AnImpl, AFunction, ATypeAlias, ItemStruct}
use Rattle.syn_grammar.specs.Kind.{ItemEnum, ItemUnion, ItemFn, ItemExternCrate, ItemForeignMod, ItemUse, ItemStatic}
use Rattle.syn_grammar.specs.Kind.{ItemConst, ItemMod, ItemType, ItemImpl, ItemTrait, ItemTraitAlias}
use Rattle.syn_grammar.specs.Tree.{Tree, Pair, First, Called, Node}
use Rattle.syn_grammar.specs.Part.{choice}
use Rattle.syn_grammar.specs.Read.{IsDerived}

-- The readers of one kind of item, and the kind of its form. Macros have none here, and traits stand below.
pub data Reader : Kind → Kind → Type 0 where
  of_structs : Reader ItemStruct AStruct
  of_enums : Reader ItemEnum AnEnum
  of_unions : Reader ItemUnion AUnion
  of_functions : Reader ItemFn (AFunction InFile)
  of_extern_crates : Reader ItemExternCrate AnExternCrate
  of_extern_blocks : Reader ItemForeignMod AForeignModule
  of_uses : Reader ItemUse AUse
  of_statics : Reader ItemStatic AStatic
  of_constants : Reader ItemConst AConst
  of_modules : Reader ItemMod AModule
  of_aliases : Reader ItemType (ATypeAlias InFile)
  of_impls : Reader ItemImpl AnImpl

-- What an item is made of, if it isn't raw.
pub data Parts : Type 0 where
  NoParts : Parts
  ItemParts : (attributes visibility form : Tree) → Parts

abbrev pub unnamed : Tree → Tree
unnamed (Called n x) = x
unnamed x = x

abbrev pub item_parts : Tree → Parts
item_parts (Node k (First (Pair o (Pair v (Called n x))))) = ItemParts o (unnamed v) (choice x)
item_parts x = NoParts

-- The tokens begin with an item that is read as a kind, with these attributes, this visibility and this form; this
-- rest follows it.
pub record ReadsItem (k : Kind) (tokens : List Token) (attributes visibility form : Tree) (rest : List Token)
    : Type 0 where
  pub tree : Tree
  pub derived : IsDerived k tokens tree rest
  pub parts : item_parts tree ≡ ItemParts attributes visibility form

-- A trait and an alias of traits have one form, in which the alias has a =. Each has its reader.
abbrev pub trait_reader : Bool → Kind
trait_reader false = ItemTrait
trait_reader true = ItemTraitAlias
