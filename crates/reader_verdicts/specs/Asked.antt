-- What is asked of a tree, in the words of the written grammar.
use Rattle.std.specs.Prelude.{Bool}
use Rattle.syn_grammar.specs.Tree.{Tree}
use Rattle.syn_grammar.specs.Types.{is_path_bound}
use Rattle.syn_grammar.specs.Patterns.{is_rest}
use Rattle.syn_grammar.specs.Expressions.{is_base}
use Rattle.syn_grammar.specs.Items.{is_receiver, is_variadic}
use Rattle.syn_grammar.specs.Lists.{is_trait_alias}
use Rattle.syn_grammar.specs.Verdicts.{is_public, is_generic, is_where, is_bounded}
use Rattle.reader_verdicts.specs.declared.asked.Asked.{Asked}
use Rattle.reader_verdicts.specs.declared.asked.Asked.TheVariants as asked

abbrev pub asked_of : Asked → Tree → Bool
asked_of asked.PathBound x = is_path_bound x
asked_of asked.Rest x = is_rest x
asked_of asked.Base x = is_base x
asked_of asked.Receiver x = is_receiver x
asked_of asked.Variadic x = is_variadic x
asked_of asked.Public x = is_public x
asked_of asked.Generic x = is_generic x
asked_of asked.Where x = is_where x
asked_of asked.Bounded x = is_bounded x
asked_of asked.TraitAlias x = is_trait_alias x
