use Rattle.std.specs.Prelude.{Some, false}
use Rattle.std.proofs.Common.{◌≡◌, rules}
use Rattle.syn_grammar.specs.Kind.{AnyPath, AtType}
use Rattle.syn_grammar.specs.Tidy.{is_bracketed}
use Rattle.syn_grammar.specs.Tree as t
use Rattle.reader_table.specs.Kinds.{kind_of}
use Rattle.reader_tree.specs.Shapes.{node_of}
use Rattle.writer_rules.proofs.OffKinds.{in_node, is_bracketed_path_off}
use Rattle.writer_rules.proofs.seen.is_bracketed_path.Goals as goal

pub returns-in_default : goal.returns-in_default
returns-in_default c =
    let e : Some (kind_of c.in-Some.kind, c.in-Some.parts.now) ≡ node_of c.args.path.now = search rules in
    in_node (λ z. is_bracketed (t.Node (AnyPath AtType) (t.First z))) false c.args.path.now (kind_of c.in-Some.kind)
    c.in-Some.parts.now e (is_bracketed_path_off c.in-Some.kind c.in-Some.parts.now c.in_default.not-QualifiedPath)
