-- The steps of attributes, of those that go by first tokens alone. Written by tools/steps.py, from the entries.
use Rattle.laws_reread_kinds.proofs.Parts.{found_ended, found_group, found_mark, found_ref, found_seq, found_star}
use Rattle.laws_reread_kinds.proofs.Parts.{found_step, found_then, maybe_step}
use Rattle.laws_reread_kinds.proofs.Readies.{Step}
use Rattle.std.specs.Prelude.{refl}
use Rattle.syn_grammar.specs.Kind.{InnerAttribute, InnerAttributes, Meta, OuterAttribute, OuterAttributes}
use Rattle.syn_grammar.specs.Look.{◌then◌}
use Rattle.syn_grammar.specs.Ranks.{skips}
use Rattle.syn_grammar.specs.Say.{marks}
use Rattle.syn_grammar.specs.Table.{table}
use Rattle.syn_grammar.specs.Words.{is_name, is_path_keyword, is_plain_name, is_bool}

pub step_outer_attributes : Step OuterAttributes
unfolding table skips is_path_keyword is_plain_name is_bool is_name
step_outer_attributes = maybe_step OuterAttributes refl refl
    (found_star (marks "#") (found_ref OuterAttribute refl) (λ us. refl, tt) tt)

pub step_outer_attribute : Step OuterAttribute
unfolding table skips is_path_keyword is_plain_name is_bool is_name
step_outer_attribute = found_step OuterAttribute refl refl
    (found_then (found_group (found_ended (found_ref Meta refl) (refl, (refl, (refl, (refl, tt)))))))

pub step_inner_attributes : Step InnerAttributes
unfolding table skips is_path_keyword is_plain_name is_bool is_name
step_inner_attributes = maybe_step InnerAttributes refl refl
    (found_star (marks "#" then marks "!") (found_ref InnerAttribute refl) (λ us. refl, tt) tt)

pub step_inner_attribute : Step InnerAttribute
unfolding table skips is_path_keyword is_plain_name is_bool is_name
step_inner_attribute = found_step InnerAttribute refl refl
    (found_then (found_seq found_mark
    (found_group (found_ended (found_ref Meta refl) (refl, (refl, (refl, (refl, tt)))))) tt))
