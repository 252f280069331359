use Rattle.std.specs.List.{All}
use Rattle.std.specs.Prelude.{◌≡◌, ◌++◌, map, take}
use Rattle.reader_tree.specs.declared.tree.Element.{Element}
use Rattle.syn_part.specs.Shape.{IsShaped}
use Rattle.syn_data.specs.Members.{member_name, name_of}
use Rattle.syn_grammar.specs.Gram as g
use Rattle.syn_grammar.specs.Kind as k
use Rattle.syn_data.proofs.members.push_names.Given as goal

-- the names so far stand behind those that were found
abbrev pub invariant-loop-field : goal.invariant-loop-field
invariant-loop-field l =
    All (λ (e : Element). IsShaped e.tree (g.ref k.NamedField)) l.fields
    → map member_name l.found.items ≡ map member_name l.initial.found.items
    ++ map (λ (e : Element). name_of e.tree) (take l.field-index l.fields)
