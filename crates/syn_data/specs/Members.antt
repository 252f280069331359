-- What fields are named by: their names, or how many stand before them.
use Rattle.std.specs.List.{range_with_len}
use Rattle.std.specs.Prelude.{◌≡◌, ℕ, suc, Bool, List, [], ◌∷◌, map}
use Rattle.proc_macro2.specs.Token.{Token}
use Rattle.syn_part.specs.Iter.{parts}
use Rattle.syn_part.specs.Name.{name_tree}
use Rattle.syn_part.specs.Leaves.{list_tree}
use Rattle.syn_part.specs.Shape.{IsShaped}
use Rattle.syn_data.specs.declared.data.Fields.{Fields}
use Rattle.syn_data.specs.declared.data.Fields.TheVariants as fields
use Rattle.syn_data.specs.declared.members.Member.{Member}
use Rattle.syn_data.specs.declared.members.Member.TheVariants as members
use Rattle.syn_grammar.specs.Gram as g
use Rattle.syn_grammar.specs.Kind as k
use Rattle.syn_grammar.specs.Tree as t
use Rattle.syn_grammar.specs.Tree.{Tree}

-- the name of a field with a name, as the alternative that it is: an identifier, or _
abbrev pub name_of : Tree → Tree
name_of (t.Node k.NamedField (t.Pair a (t.Pair v (t.Pair i x)))) = i
name_of _ = t.Nil

-- the names of fields, in their order
abbrev pub names_in : Tree → List Tree
names_in (t.More x c spacing y) = name_of x ∷ names_in y
names_in (t.Final x) = name_of x ∷ []
names_in _ = []

-- how many elements a list has
abbrev pub elements_in : Tree → ℕ
elements_in (t.More x c spacing y) = suc (elements_in y)
elements_in (t.Final x) = 1
elements_in _ = 0

-- the name that a member is, if it is one, as the alternative that it is: an identifier, or a keyword, as _
abbrev pub member_name : Member → Tree
member_name (members.Named i) = name_tree i
member_name (members.Unnamed n) = t.Nil

-- how many fields there are
abbrev pub field_count : Fields → ℕ
field_count (fields.Named x) = elements_in (list_tree x.named)
field_count (fields.Unnamed x) = elements_in (list_tree x.unnamed)
field_count fields.Unit = 0

-- the fields, in their order
abbrev pub fields_in : Fields → List Tree
fields_in (fields.Named x) = parts (list_tree x.named)
fields_in (fields.Unnamed x) = parts (list_tree x.unnamed)
fields_in fields.Unit = []

-- fields with names, where each is such a field, are named by these, each as an identifier or as a keyword, whichever
-- it is, in their order; those without by the numbers from 0 on, as many as there are; and where there are none, by
-- nothing
abbrev pub AreMembers : Fields → List Member → Type 0
AreMembers (fields.Named x) ms = (e : List Token → Bool) (c : ℕ)
    → IsShaped (list_tree x.named) (g.many e c (g.ref k.NamedField)) → map member_name ms ≡ names_in (list_tree x.named)
AreMembers (fields.Unnamed x) ms = ms ≡ map members.Unnamed (range_with_len 0 (elements_in (list_tree x.unnamed)))
AreMembers fields.Unit ms = ms ≡ []
