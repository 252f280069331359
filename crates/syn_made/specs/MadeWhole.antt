-- Which values of the types are trees, where their fields may contradict each other.
use Rattle.reader_table.specs.declared.kind.Place.{Place}
use Rattle.reader_table.specs.declared.kind.Place.TheVariants as places
use Rattle.rust_leaf.specs.declared.ident.Ident.{Ident}
use Rattle.std.specs.Prelude.{◌≡◌, None, Option, Some}
use Rattle.syn_part.specs.declared.leaf.Mark.{Mark}
use Rattle.syn_part.specs.declared.name.Name.{Name}
use Rattle.syn_ast.specs.declared.paths.MacroDelimiter.{MacroDelimiter}
use Rattle.syn_ast.specs.declared.paths.MacroDelimiter.TheVariants as delimiters
use Rattle.syn_grammar.specs.Tree.{Tree}
use Rattle.syn_item.specs.declared.function.FnArg.{FnArg}
use Rattle.syn_item.specs.declared.function.FnArg.TheVariants as arguments
use Rattle.syn_item.specs.declared.macros.ItemMacro.{ItemMacro}
use Rattle.syn_item.specs.declared.function.Safety.{Safety}
use Rattle.syn_item.specs.declared.function.Safety.TheVariants as safeties
use Rattle.syn_item.specs.declared.impls.ImplTrait.{ImplTrait}
use Rattle.syn_item.specs.declared.part.Braced.{Braced}
use Rattle.syn_item.specs.declared.traits.TraitForm.{TraitForm}
use Rattle.syn_item.specs.declared.traits.TraitForm.TheVariants as trait_forms
use denote.Bor.{Bor}

-- a module has what stands in it, or a semicolon, and never both
abbrev pub IsModuleEnd : Option Braced → Option Mark → Type 0
IsModuleEnd (Some b) None = Unit {0}
IsModuleEnd None (Some m) = Unit {0}
IsModuleEnd _ _ = ⊥

-- a macro has a name of its own in a file, a module or a block alone
abbrev pub IsMacroName : Place → Option Name → Type 0
IsMacroName places.InFile o = Unit {0}
IsMacroName p None = Unit {0}
IsMacroName p (Some i) = ⊥

-- a semicolon stands behind parentheses and brackets, and behind no braces
abbrev pub IsMacroEnd : MacroDelimiter → Option Mark → Type 0
IsMacroEnd (delimiters.Brace d) None = Unit {0}
IsMacroEnd (delimiters.Brace d) (Some m) = ⊥
IsMacroEnd d None = ⊥
IsMacroEnd d (Some m) = Unit {0}

-- both hold of a macro that stands as an item
abbrev pub IsWholeMacro : ItemMacro → Type 0
IsWholeMacro x = IsMacroName x.place x.ident × IsMacroEnd x.delimiter x.semi_token

-- attributes, where there are some, are those of the parameter
abbrev pub AreThese : Option (Bor Tree) → Tree → Type 0
AreThese (Some o) a = o.now ≡ a
AreThese None a = Unit {0}

-- of a parameter a pattern with its type has no others
abbrev pub AreOwn : Tree → FnArg → Type 0
AreOwn a (arguments.Typed x) = AreThese x.attrs a
AreOwn a _ = Unit {0}

-- safe stands in an extern block alone
abbrev pub IsSafetyIn : Place → Safety → Type 0
IsSafetyIn places.InForeign s = Unit {0}
IsSafetyIn p (safeties.Safe i) = ⊥
IsSafetyIn p _ = Unit {0}

-- behind ! a trait stands
abbrev pub IsPolarityOf : Option ImplTrait → Option Mark → Type 0
IsPolarityOf None (Some m) = ⊥
IsPolarityOf _ _ = Unit {0}

-- an alias of traits is neither unsafe nor auto
abbrev pub IsAliasHead : Option (Bor Ident) → Option (Bor Ident) → Type 0
IsAliasHead None None = Unit {0}
IsAliasHead _ _ = ⊥

-- a trait may have both words in front, and an alias has neither
abbrev pub IsTraitHead : TraitForm → Type 0
IsTraitHead (trait_forms.Trait x) = Unit {0}
IsTraitHead (trait_forms.Alias x) = IsAliasHead x.unsafety x.auto_token
