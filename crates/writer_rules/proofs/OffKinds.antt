-- Of a node of another kind, and of a part of another name, nothing is seen, kind by kind and name by name.
use Rattle.std.specs.Prelude.{◌≡◌, false, Some, None, refl}
use Rattle.std.proofs.Common.{ap, ◌∙◌, sym}
use Rattle.syn_grammar.specs.Kind.{Kind, AnyPath, AtType}
use Rattle.syn_grammar.specs.Name.{Part}
use Rattle.syn_grammar.specs.Tidy.{begins_bracketed, is_bare_bounds, is_bare_clause, is_bare_params, is_bracketed}
use Rattle.syn_grammar.specs.Tidy.{is_ident_type, is_lifetime_param, is_lone_path, is_lone_segment}
use Rattle.syn_grammar.specs.Tree as t
use Rattle.syn_grammar.specs.Tree.{Tree}
use Rattle.reader_table.specs.Kinds.{kind_of}
use Rattle.reader_table.specs.declared.kind.Kind as g
use Rattle.reader_table.specs.declared.kind.Kind.TheVariants as kinds
use Rattle.reader_table.specs.declared.kind.Plus.{Plus}
use Rattle.reader_table.specs.declared.kind.Position.{Position}
use Rattle.reader_table.specs.declared.kind.Style.{Style}
use Rattle.reader_table.specs.declared.part.Part as p
use Rattle.reader_table.specs.declared.part.Part.TheVariants as parts
use Rattle.reader_table.specs.Parts.{part_of}
use Rattle.reader_tree.specs.Shapes.{node_of}
use Rattle.writer_rules.specs.Laid.{has_attributes, is_lifetime_read}
use Rattle.writer_rules.specs.Operands.{before_of, expression_of, form_in, is_attributed, statement_of}
use Rattle.writer_rules.specs.Seen.{called_of, unnamed_of}
use Rattle.writer_rules.specs.Turns.{is_raw_node}
use Rattle.writer_rules.specs.Way.{indices_of, is_bare_angled, value_text}
use Rattle.writer_rules.proofs.SeenForms.{node_is, same_pair, some_none}

-- what is seen of a node is seen of the tree that it is
pub in_node : {A : Type 0} (f : Tree → A) (a : A) (x : Tree) (k : Kind) (y : Tree) → Some (k, y) ≡ node_of x
    → a ≡ f (t.Node k y) → a ≡ f x
in_node f a x k y e h = h ∙ ap f (sym (node_is x k y e))

pub is_bare_clause_off : (k : g.Kind) (x : Tree) → (k ≡ kinds.WhereClause → ⊥)
    → false ≡ is_bare_clause (t.Node (kind_of k) x)
is_bare_clause_off kinds.WhereClause x h = absurd (h refl)
is_bare_clause_off k x h = refl

pub is_bare_params_off : (k : g.Kind) (x : Tree) → (k ≡ kinds.GenericParams → ⊥)
    → false ≡ is_bare_params (t.Node (kind_of k) x)
is_bare_params_off kinds.GenericParams x h = absurd (h refl)
is_bare_params_off k x h = refl

pub is_lifetime_param_off : (k : g.Kind) (x : Tree) → (k ≡ kinds.GenericParam → ⊥)
    → false ≡ is_lifetime_param (t.Node (kind_of k) x)
is_lifetime_param_off kinds.GenericParam x h = absurd (h refl)
is_lifetime_param_off k x h = refl

pub is_lifetime_read_off : (k : g.Kind) (x : Tree) → (k ≡ kinds.AnArgument → ⊥)
    → false ≡ is_lifetime_read (t.Node (kind_of k) x)
is_lifetime_read_off kinds.AnArgument x h = absurd (h refl)
is_lifetime_read_off k x h = refl

pub is_bare_angled_off : (k : g.Kind) (x : Tree) → (k ≡ kinds.ImplGenerics → ⊥)
    → false ≡ is_bare_angled (t.Node (kind_of k) x)
is_bare_angled_off kinds.ImplGenerics x h = absurd (h refl)
is_bare_angled_off k x h = refl

pub has_attributes_off : (k : g.Kind) (x : Tree) → (k ≡ kinds.OuterAttributes → ⊥)
    → false ≡ has_attributes (t.Node (kind_of k) x)
has_attributes_off kinds.OuterAttributes x h = absurd (h refl)
has_attributes_off k x h = refl

pub statement_off : (k : g.Kind) (x : Tree) → (k ≡ kinds.AStatement → ⊥)
    → None ≡ statement_of (t.Node (kind_of k) x)
statement_off kinds.AStatement x h = absurd (h refl)
statement_off k x h = refl

pub is_raw_node_off : (k : g.Kind) (x : Tree) → (k ≡ kinds.AnItem → ⊥)
    → false ≡ is_raw_node (t.Node (kind_of k) x)
is_raw_node_off kinds.AnItem x h = absurd (h refl)
is_raw_node_off k x h = refl

pub is_lone_segment_off : (k : g.Kind) (x : Tree) → ((s : Style) → k ≡ kinds.Segments s → ⊥)
    → false ≡ is_lone_segment (t.Node (kind_of k) x)
is_lone_segment_off (kinds.Segments s) x h = absurd (h s refl)
is_lone_segment_off k x h = refl

pub is_lone_path_off : (k : g.Kind) (x : Tree) → ((s : Style) → k ≡ kinds.AnyPath s → ⊥)
    → false ≡ is_lone_path (t.Node (kind_of k) x)
is_lone_path_off (kinds.AnyPath s) x h = absurd (h s refl)
is_lone_path_off k x h = refl

pub is_ident_type_off : (k : g.Kind) (x : Tree) → ((s : Plus) → k ≡ kinds.AType s → ⊥)
    → false ≡ is_ident_type (t.Node (kind_of k) x)
is_ident_type_off (kinds.AType s) x h = absurd (h s refl)
is_ident_type_off k x h = refl

pub is_bracketed_off : (k : g.Kind) (x : Tree) → ((s : Style) → k ≡ kinds.AnyPath s → ⊥)
    → false ≡ is_bracketed (t.Node (kind_of k) x)
is_bracketed_off (kinds.AnyPath s) x h = absurd (h s refl)
is_bracketed_off k x h = refl

pub begins_bracketed_off : (k : g.Kind) (x : Tree) → ((s : Plus) → k ≡ kinds.AType s → ⊥)
    → false ≡ begins_bracketed (t.Node (kind_of k) x)
begins_bracketed_off (kinds.AType s) x h = absurd (h s refl)
begins_bracketed_off k x h = refl

pub form_in_off : (k : g.Kind) (x : Tree) → ((s : Position) → k ≡ kinds.Expression s → ⊥)
    → None ≡ form_in (t.Node (kind_of k) x)
form_in_off (kinds.Expression s) x h = absurd (h s refl)
form_in_off k x h = refl

pub is_bare_bounds_off : (k : g.Kind) (x : Tree) → (k ≡ kinds.Bounds → ⊥) → (k ≡ kinds.Lifetimes → ⊥)
    → false ≡ is_bare_bounds (t.Node (kind_of k) x)
is_bare_bounds_off kinds.Bounds x h i = absurd (h refl)
is_bare_bounds_off kinds.Lifetimes x h i = absurd (i refl)
is_bare_bounds_off k x h i = refl

pub is_attributed_off : (k : g.Kind) → (k ≡ kinds.ExprAttributed → ⊥) → false ≡ is_attributed (kind_of k)
is_attributed_off kinds.ExprAttributed h = absurd (h refl)
is_attributed_off k h = refl

pub is_lone_plain_off : (k : g.Kind) (x : Tree) → ((s : Style) → k ≡ kinds.Path s → ⊥)
    → false ≡ is_lone_path (t.Node (AnyPath AtType) (t.Second (t.Node (kind_of k) x)))
is_lone_plain_off (kinds.Path s) x h = absurd (h s refl)
is_lone_plain_off k x h = refl

pub is_bracketed_path_off : (k : g.Kind) (x : Tree) → ((s : Style) → k ≡ kinds.QualifiedPath s → ⊥)
    → false ≡ is_bracketed (t.Node (AnyPath AtType) (t.First (t.Node (kind_of k) x)))
is_bracketed_path_off (kinds.QualifiedPath s) x h = absurd (h s refl)
is_bracketed_path_off k x h = refl

-- what is seen of a part is seen of the tree that it is
called_is : (x : Tree) (n : Part) (y : Tree) → Some (n, y) ≡ called_of x → x ≡ t.Called n y
called_is (t.Called m z) n y e = let s = same_pair n m y z e in cc (s.0, s.1)
called_is x n y e = absurd (some_none (n, y) e)

pub in_part : {A : Type 0} (f : Tree → A) (a : A) (x : Tree) (n : Part) (y : Tree) → Some (n, y) ≡ called_of x
    → a ≡ f (t.Called n y) → a ≡ f x
in_part f a x n y e h = h ∙ ap f (sym (called_is x n y e))

pub unnamed_off : (n : p.Part) (x : Tree) → (n ≡ parts.Unnamed → ⊥) → None ≡ unnamed_of (t.Called (part_of n) x)
unnamed_off parts.Unnamed x h = absurd (h refl)
unnamed_off n x h = refl

pub indices_off : (n : p.Part) (x : Tree) → (n ≡ parts.Indices → ⊥) → None ≡ indices_of (t.Called (part_of n) x)
indices_off parts.Indices x h = absurd (h refl)
indices_off n x h = refl

pub value_off : (n : p.Part) (x : Tree) → (n ≡ parts.Value → ⊥) → None ≡ value_text (t.Called (part_of n) x)
value_off parts.Value x h = absurd (h refl)
value_off n x h = refl

pub before_off : (n : p.Part) (x : Tree) → (n ≡ parts.Attributes → ⊥) → None ≡ before_of (t.Called (part_of n) x)
before_off parts.Attributes x h = absurd (h refl)
before_off n x h = refl

pub expression_off : (n : p.Part) (x : Tree) → (n ≡ parts.Expression → ⊥)
    → None ≡ expression_of (t.Called (part_of n) x)
expression_off parts.Expression x h = absurd (h refl)
expression_off n x h = refl
