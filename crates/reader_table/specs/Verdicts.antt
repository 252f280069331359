-- How what was read is judged, in the words of the written grammar.
use Rattle.std.specs.Prelude.{not}
use Rattle.syn_grammar.specs.Name.{the_item, the_equals}
use Rattle.syn_grammar.specs.Tree.{Tree}
use Rattle.syn_grammar.specs.Part.{has, the, choice, some, each_separated, each_turn_but_last, in_group}
use Rattle.syn_grammar.specs.Gram.{Verdict}
use Rattle.syn_grammar.specs.Types.{kept_if, is_path_bound}
use Rattle.syn_grammar.specs.Patterns.{is_rest}
use Rattle.syn_grammar.specs.Expressions.{is_base, is_arm}
use Rattle.syn_grammar.specs.Items.{are_parameters, is_variadic, is_trait, is_impl}
use Rattle.syn_grammar.specs.Lists.{typed, is_trait_alias}
use Rattle.syn_grammar.specs.Statements.{is_let, needs_semicolon}
use Rattle.syn_grammar.specs.Verdicts.{item_verdict}
use Rattle.reader_table.specs.Kinds.{place_of}
use Rattle.reader_table.specs.declared.op.Verdicts.{Verdicts}
use Rattle.reader_table.specs.declared.op.Verdicts.TheVariants as verdicts

abbrev pub verdict_of : Verdicts → Tree → Verdict
verdict_of (verdicts.Item p) x = item_verdict (place_of p) x
verdict_of (verdicts.Typed p) x = typed (place_of p) x
verdict_of verdicts.SomeBounds x = kept_if (some is_path_bound x)
verdict_of verdicts.FieldPatterns x = kept_if (in_group (each_separated (λ y. not (is_rest y))) x)
verdict_of verdicts.FieldValues x = kept_if (in_group (each_separated (λ y. not (is_base y))) x)
verdict_of verdicts.Arm x = kept_if (is_arm x)
verdict_of verdicts.Parameters x = kept_if (in_group are_parameters x)
verdict_of verdicts.FnArg x = kept_if (not (is_variadic x))
verdict_of verdicts.Trait x = kept_if (is_trait x)
verdict_of verdicts.RestrictedTrait x = kept_if (not (has the_equals x))
verdict_of verdicts.Impl x = kept_if (is_impl x)
verdict_of verdicts.TraitByItself x = kept_if (not (is_trait_alias (the the_item x)))
verdict_of verdicts.TraitAliasByItself x = kept_if (is_trait_alias (the the_item x))
verdict_of verdicts.Let x = kept_if (is_let x)
verdict_of verdicts.OneStatement x = kept_if (not (needs_semicolon x))
verdict_of verdicts.Statements x = kept_if (each_turn_but_last (λ y. not (needs_semicolon (choice y))) x)
