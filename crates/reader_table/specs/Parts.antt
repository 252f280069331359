-- What the names of parts are in the written grammar.
use Rattle.syn_grammar.specs.Name as n
use Rattle.reader_table.specs.declared.part.Part.{Part}
use Rattle.reader_table.specs.declared.part.Part.TheVariants as parts

abbrev pub part_of : Part → n.Part
part_of parts.Name = n.the_name
part_of parts.Visibility = n.the_visibility
part_of parts.Pub = n.the_pub
part_of parts.Item = n.the_item
part_of parts.Safety = n.the_safety
part_of parts.Const = n.the_const
part_of parts.Default = n.the_default
part_of parts.Auto = n.the_auto
part_of parts.Generics = n.the_generics
part_of parts.Parameters = n.the_parameters
part_of parts.Where = n.the_where
part_of parts.Clause = n.the_clause
part_of parts.Bounds = n.the_bounds
part_of parts.Type = n.the_type
part_of parts.Value = n.the_value
part_of parts.Body = n.the_body
part_of parts.Equals = n.the_equals
part_of parts.Polarity = n.the_polarity
part_of parts.First = n.the_first
part_of parts.SelfType = n.the_self
part_of parts.Path = n.the_path
part_of parts.Lifetime = n.the_lifetime
part_of parts.Arguments = n.the_arguments
part_of parts.Receiver = n.the_receiver
part_of parts.Unnamed = n.the_unnamed
part_of parts.Pattern = n.the_pattern
part_of parts.Dots = n.the_dots
part_of parts.Condition = n.the_condition
part_of parts.Indices = n.the_indices
part_of parts.Base = n.the_base
part_of parts.Rest = n.the_rest
part_of parts.Comma = n.the_comma
part_of parts.Expression = n.the_expression
part_of parts.Semicolon = n.the_semicolon
part_of parts.Else = n.the_else
part_of parts.Label = n.the_label
part_of parts.Attributes = n.the_attributes
