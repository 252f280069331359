-- The names of the parts of a form.
use Rattle.std.specs.Prelude.{ℕ, Bool, nat_eq}

pub data Part : Type 0 where
  -- of items and fields
  the_name the_visibility the_pub the_item the_safety the_const the_default the_auto : Part
  the_generics the_parameters the_where the_clause the_bounds the_type the_value the_body : Part
  -- of an alias of traits, its =; of an impl, its !, the type behind impl and the one behind for
  the_equals the_polarity the_first the_self : Part
  -- of bounds and arguments
  the_path the_lifetime the_arguments : Part
  -- of a parameter: a receiver, a type without a name, its pattern, and ...
  the_receiver the_unnamed the_pattern the_dots : Part
  -- of expressions and statements
  the_condition the_indices the_base the_rest the_comma the_attributes the_expression the_semicolon the_else : Part
  the_label : Part

abbrev pub number : Part → ℕ
number the_name = 0
number the_visibility = 1
number the_pub = 2
number the_item = 3
number the_safety = 4
number the_const = 5
number the_default = 6
number the_auto = 7
number the_generics = 8
number the_parameters = 9
number the_where = 10
number the_clause = 11
number the_bounds = 12
number the_type = 13
number the_value = 14
number the_body = 15
number the_equals = 16
number the_polarity = 17
number the_first = 18
number the_self = 19
number the_path = 20
number the_lifetime = 21
number the_arguments = 22
number the_receiver = 23
number the_unnamed = 24
number the_pattern = 25
number the_dots = 26
number the_condition = 27
number the_indices = 28
number the_base = 29
number the_rest = 30
number the_comma = 31
number the_expression = 32
number the_semicolon = 33
number the_else = 34
number the_label = 35
number the_attributes = 36

-- two names are one
unfoldable pub same_part : Part → Part → Bool
same_part m n = nat_eq (number m) (number n)
