-- The steps of paths, of those that go by first tokens alone. Written by tools/steps.py, from the entries.
use Rattle.laws_reread_kinds.proofs.Classes.{◌&◌}
use Rattle.laws_reread_kinds.proofs.Fine.{fine_raw}
use Rattle.laws_reread_kinds.proofs.Keywords.{reserved_as, reserved_crate, reserved_false, reserved_self}
use Rattle.laws_reread_kinds.proofs.Keywords.{reserved_super, reserved_true}
use Rattle.laws_reread_kinds.proofs.Parts.{found_alt, found_before, found_called, found_group, found_lifetime}
use Rattle.laws_reread_kinds.proofs.Parts.{found_literal, found_many, found_mark, found_name, found_optional}
use Rattle.laws_reread_kinds.proofs.Parts.{found_perhaps_then, found_ref, found_seq, found_step, found_text}
use Rattle.laws_reread_kinds.proofs.Parts.{found_then, found_to_end, found_word, found_words, maybe_alt, maybe_called}
use Rattle.laws_reread_kinds.proofs.Parts.{maybe_none, maybe_seq, maybe_unseen, weaken, weaken_maybe}
use Rattle.laws_reread_kinds.proofs.Readies.{Step}
use Rattle.laws_reread_kinds.proofs.Seconds.{found_bound}
use Rattle.laws_reread_kinds.proofs.Sights.{ident_not}
use Rattle.std.specs.Prelude.{codes, refl, [], ◌∷◌}
use Rattle.syn_grammar.specs.Kind.{AMacro, AType, AnArgument, AnyPath, Arguments, AtType, Body, Delimited}
use Rattle.syn_grammar.specs.Kind.{InExpression, InModule, InType, Index, Member, ParenthesizedArguments, Path}
use Rattle.syn_grammar.specs.Kind.{QualifiedPath, Segment, Segments, WithPlus, WithoutPlus}
use Rattle.syn_grammar.specs.Look.{a_word, an_ident, a_literal, a_quoted, a_lifetime}
use Rattle.syn_grammar.specs.Paths.{arguments_stand, parentheses_stand}
use Rattle.syn_grammar.specs.Ranks.{skips}
use Rattle.syn_grammar.specs.Say.{at, marks, parenthesis, brace}
use Rattle.syn_grammar.specs.Table.{table}
use Rattle.syn_grammar.specs.Types.{bound_stands}
use Rattle.syn_grammar.specs.Words.{is_ident, is_index, any_text, is_name, is_path_keyword, is_plain_name, is_bool}

pub step_path_in_module : Step (Path InModule)
unfolding table skips is_path_keyword is_plain_name is_bool is_name
step_path_in_module = found_step (Path InModule) refl refl
    (found_perhaps_then (marks "::") (found_ref (Segments InModule) refl) (search) (search))

pub step_path_in_expression : Step (Path InExpression)
unfolding table skips is_path_keyword is_plain_name is_bool is_name
step_path_in_expression = found_step (Path InExpression) refl refl
    (found_perhaps_then (marks "::") (found_ref (Segments InExpression) refl) (search) (search))

pub step_path_in_type : Step (Path InType)
unfolding table skips is_path_keyword is_plain_name is_bool is_name
step_path_in_type = found_step (Path InType) refl refl
    (found_perhaps_then (marks "::") (found_ref (Segments InType) refl) (search) (search))

pub step_path_at_type : Step (Path AtType)
unfolding table skips is_path_keyword is_plain_name is_bool is_name
step_path_at_type = found_step (Path AtType) refl refl
    (found_perhaps_then (marks "::") (found_ref (Segments AtType) refl) (search) (search))

pub step_segments_in_module : Step (Segments InModule)
unfolding table skips is_path_keyword is_plain_name is_bool is_name
step_segments_in_module = found_step (Segments InModule) refl refl
    (weaken ((marks "::") ∷ [])
    (found_alt (a_word is_path_keyword)
    (found_before (found_words (codes "self" ∷ codes "super" ∷ codes "crate" ∷ []))
    (found_optional (marks "::") (found_then (found_ref (Segments InModule) refl)) (search)) tt (λ s a. tt))
    (found_before found_name
    (maybe_unseen (arguments_stand InModule) (λ ts. refl)
    (maybe_alt (marks "::") (found_then (found_ref (Segments InModule) refl))
    (weaken_maybe ((marks "::") ∷ []) (maybe_unseen (parentheses_stand InModule) (λ ts. refl) maybe_none)
    (λ s a. tt)) (search) tt)) tt (λ s a. tt)) (search)
    ((λ cs h us. simp (
      ident_not (codes "self") cs reserved_self h,
      ident_not (codes "super") cs reserved_super h,
      ident_not (codes "crate") cs reserved_crate h,
    ) refl) & (λ us. refl) & tt)) (λ s a. (a.0, (a.0, tt))))

pub step_segments_in_type : Step (Segments InType)
unfolding table skips is_path_keyword is_plain_name is_bool is_name
step_segments_in_type = found_step (Segments InType) refl refl
    (weaken ((marks "::") ∷ (arguments_stand InType) ∷ [])
    (found_alt (a_word is_path_keyword)
    (found_before (found_words (codes "self" ∷ codes "super" ∷ codes "crate" ∷ []))
    (found_optional (marks "::") (found_then (found_ref (Segments InType) refl)) (search)) tt (λ s a. tt))
    (weaken ((marks "::") ∷ (marks "::") ∷ (arguments_stand InType) ∷ [])
    (found_before found_name
    (maybe_alt (arguments_stand InType)
    (found_before (found_ref Arguments refl)
    (found_optional (marks "::") (found_then (found_ref (Segments InType) refl)) (search)) tt (λ s a. tt))
    (maybe_alt (marks "::") (found_then (found_ref (Segments InType) refl))
    (weaken_maybe ((marks "::") ∷ (arguments_stand InType) ∷ [])
    (maybe_unseen (parentheses_stand InType) (λ ts. refl) maybe_none) (λ s a. tt)) (search) tt) (search) (search)) tt
    (λ s a. tt)) (λ s a. (a.1.1.0, (a.0, (a.0, (a.1.1.0, tt)))))) (search)
    ((λ cs h us. simp (
      ident_not (codes "self") cs reserved_self h,
      ident_not (codes "super") cs reserved_super h,
      ident_not (codes "crate") cs reserved_crate h,
    ) refl) & (λ us. refl) & tt)) (λ s a. (a.0, (a.0, (a.1.0, tt)))))

pub step_segments_at_type : Step (Segments AtType)
unfolding table skips is_path_keyword is_plain_name is_bool is_name
step_segments_at_type = found_step (Segments AtType) refl refl
    (weaken ((marks "::") ∷ (arguments_stand AtType) ∷ (parentheses_stand AtType) ∷ (marks "->") ∷ [])
    (found_alt (a_word is_path_keyword)
    (found_before (found_words (codes "self" ∷ codes "super" ∷ codes "crate" ∷ []))
    (found_optional (marks "::") (found_then (found_ref (Segments AtType) refl)) (search)) tt (λ s a. tt))
    (weaken ((marks "::") ∷ (marks "::") ∷ (arguments_stand AtType) ∷ (parentheses_stand AtType) ∷ (marks "->") ∷ [])
    (found_before found_name
    (maybe_alt (arguments_stand AtType)
    (found_before (found_ref Arguments refl)
    (found_optional (marks "::") (found_then (found_ref (Segments AtType) refl)) (search)) tt (λ s a. tt))
    (maybe_alt (marks "::") (found_then (found_ref (Segments AtType) refl))
    (weaken_maybe ((marks "::") ∷ (arguments_stand AtType) ∷ (parentheses_stand AtType) ∷ (marks "->") ∷ [])
    (found_optional (parentheses_stand AtType) (found_ref ParenthesizedArguments refl) (λ us. refl, tt))
    (λ s a. (a.1.1.0, (a.1.1.1.0, (a.0, (a.1.0, (a.1.1.0, tt))))))) (search) (λ us. refl, tt)) (search) (search)) tt
    (λ s a. tt)) (λ s a. (a.1.1.0, (a.0, (a.0, (a.1.1.0, (a.1.1.1.0, (a.1.1.1.1.0, tt)))))))) (search)
    ((λ cs h us. simp (
      ident_not (codes "self") cs reserved_self h,
      ident_not (codes "super") cs reserved_super h,
      ident_not (codes "crate") cs reserved_crate h,
    ) refl) & (λ us. refl) & tt))
    (λ s a. (a.0, (a.0, (a.1.0, (a.1.1.0, (a.1.1.1.0, tt)))))))

pub step_segment_in_module : Step (Segment InModule)
unfolding table skips is_path_keyword is_plain_name is_bool is_name
step_segment_in_module = found_step (Segment InModule) refl refl
    (found_alt (a_word is_path_keyword) (found_words (codes "self" ∷ codes "super" ∷ codes "crate" ∷ []))
    (found_before found_name
    (maybe_unseen (arguments_stand InModule) (λ ts. refl)
    (maybe_unseen (parentheses_stand InModule) (λ ts. refl) maybe_none)) tt (λ s a. tt)) (search)
    ((λ cs h us. simp (
      ident_not (codes "self") cs reserved_self h,
      ident_not (codes "super") cs reserved_super h,
      ident_not (codes "crate") cs reserved_crate h,
    ) refl) & (λ us. refl) & tt))

pub step_segment_in_type : Step (Segment InType)
unfolding table skips is_path_keyword is_plain_name is_bool is_name
step_segment_in_type = found_step (Segment InType) refl refl
    (found_alt (a_word is_path_keyword)
    (weaken ((arguments_stand InType) ∷ []) (found_words (codes "self" ∷ codes "super" ∷ codes "crate" ∷ []))
    (λ s a. tt)) (found_before found_name
    (maybe_alt (arguments_stand InType) (found_ref Arguments refl)
    (maybe_unseen (parentheses_stand InType) (λ ts. refl) maybe_none) (search) tt) tt (λ s a. tt)) (search)
    ((λ cs h us. simp (
      ident_not (codes "self") cs reserved_self h,
      ident_not (codes "super") cs reserved_super h,
      ident_not (codes "crate") cs reserved_crate h,
    ) refl) & (λ us. refl) & tt))

pub step_segment_at_type : Step (Segment AtType)
unfolding table skips is_path_keyword is_plain_name is_bool is_name
step_segment_at_type = found_step (Segment AtType) refl refl
    (weaken ((arguments_stand AtType) ∷ (parentheses_stand AtType) ∷ (marks "->") ∷ (marks "::") ∷ [])
    (found_alt (a_word is_path_keyword)
    (weaken ((arguments_stand AtType) ∷ (parentheses_stand AtType) ∷ (marks "->") ∷ (marks "::") ∷
    (arguments_stand AtType) ∷ (parentheses_stand AtType) ∷ [])
    (found_words (codes "self" ∷ codes "super" ∷ codes "crate" ∷ [])) (λ s a. tt))
    (found_before found_name
    (maybe_alt (arguments_stand AtType)
    (weaken ((parentheses_stand AtType) ∷ (marks "->") ∷ (marks "::") ∷ (arguments_stand AtType) ∷
    (parentheses_stand AtType) ∷ []) (found_ref Arguments refl) (λ s a. tt))
    (found_optional (parentheses_stand AtType) (found_ref ParenthesizedArguments refl) (λ us. refl, tt)) (search)
    (λ us. refl, tt)) tt (λ s a. tt)) (search)
    ((λ cs h us. simp (
      ident_not (codes "self") cs reserved_self h,
      ident_not (codes "super") cs reserved_super h,
      ident_not (codes "crate") cs reserved_crate h,
    ) refl) & (λ us. refl) & tt))
    (λ s a. (a.0, (a.1.0, (a.1.1.0, (a.1.1.1.0, (a.0, (a.1.0, tt))))))))

pub step_qualified_path_in_module : Step (QualifiedPath InModule)
unfolding table skips is_path_keyword is_plain_name is_bool is_name
step_qualified_path_in_module = found_step (QualifiedPath InModule) refl refl
    (found_seq found_mark
    (found_seq (found_ref (AType WithPlus) refl)
    (maybe_seq (found_optional (at "as") (found_seq (found_text "as") (found_ref (Path InType) refl) tt)
    (λ us. refl, tt)) (found_seq found_mark (found_then (found_ref (Segments InModule) refl)) tt)
    ((λ us. refl, tt), ((λ us. refl, tt), ((λ us. refl, tt), tt)))) (
      (search),
      (
        (search),
        ((search), ((search), (((λ us. simp (reserved_as) refl) & (λ us. refl) & tt), ((search), tt)))),
      ),
    )) tt)

pub step_qualified_path_in_expression : Step (QualifiedPath InExpression)
unfolding table skips is_path_keyword is_plain_name is_bool is_name
step_qualified_path_in_expression = found_step (QualifiedPath InExpression) refl refl
    (found_seq found_mark
    (found_seq (found_ref (AType WithPlus) refl)
    (maybe_seq (found_optional (at "as") (found_seq (found_text "as") (found_ref (Path InType) refl) tt)
    (λ us. refl, tt)) (found_seq found_mark (found_then (found_ref (Segments InExpression) refl)) tt)
    ((λ us. refl, tt), ((λ us. refl, tt), ((λ us. refl, tt), tt)))) (
      (search),
      (
        (search),
        ((search), ((search), (((λ us. simp (reserved_as) refl) & (λ us. refl) & tt), ((search), tt)))),
      ),
    )) tt)

pub step_qualified_path_in_type : Step (QualifiedPath InType)
unfolding table skips is_path_keyword is_plain_name is_bool is_name
step_qualified_path_in_type = found_step (QualifiedPath InType) refl refl
    (found_seq found_mark
    (found_seq (found_ref (AType WithPlus) refl)
    (maybe_seq (found_optional (at "as") (found_seq (found_text "as") (found_ref (Path InType) refl) tt)
    (λ us. refl, tt)) (found_seq found_mark (found_then (found_ref (Segments InType) refl)) tt)
    ((λ us. refl, tt), ((λ us. refl, tt), ((λ us. refl, tt), tt)))) (
      (search),
      (
        (search),
        ((search), ((search), (((λ us. simp (reserved_as) refl) & (λ us. refl) & tt), ((search), tt)))),
      ),
    )) tt)

pub step_qualified_path_at_type : Step (QualifiedPath AtType)
unfolding table skips is_path_keyword is_plain_name is_bool is_name
step_qualified_path_at_type = found_step (QualifiedPath AtType) refl refl
    (found_seq found_mark
    (found_seq (found_ref (AType WithPlus) refl)
    (maybe_seq (found_optional (at "as") (found_seq (found_text "as") (found_ref (Path InType) refl) tt)
    (λ us. refl, tt)) (found_seq found_mark (found_then (found_ref (Segments AtType) refl)) tt)
    ((λ us. refl, tt), ((λ us. refl, tt), ((λ us. refl, tt), tt)))) (
      (search),
      (
        (search),
        ((search), ((search), (((λ us. simp (reserved_as) refl) & (λ us. refl) & tt), ((search), tt)))),
      ),
    )) tt)

pub step_any_path_in_module : Step (AnyPath InModule)
unfolding table skips is_path_keyword is_plain_name is_bool is_name
step_any_path_in_module = found_step (AnyPath InModule) refl refl
    (found_alt (marks "<") (found_ref (QualifiedPath InModule) refl) (found_ref (Path InModule) refl)
    (λ us. refl, tt) (search))

pub step_any_path_in_expression : Step (AnyPath InExpression)
unfolding table skips is_path_keyword is_plain_name is_bool is_name
step_any_path_in_expression = found_step (AnyPath InExpression) refl refl
    (found_alt (marks "<") (found_ref (QualifiedPath InExpression) refl) (found_ref (Path InExpression) refl)
    (λ us. refl, tt) (search))

pub step_any_path_in_type : Step (AnyPath InType)
unfolding table skips is_path_keyword is_plain_name is_bool is_name
step_any_path_in_type = found_step (AnyPath InType) refl refl
    (found_alt (marks "<") (found_ref (QualifiedPath InType) refl) (found_ref (Path InType) refl) (λ us. refl, tt)
    (search))

pub step_any_path_at_type : Step (AnyPath AtType)
unfolding table skips is_path_keyword is_plain_name is_bool is_name
step_any_path_at_type = found_step (AnyPath AtType) refl refl
    (found_alt (marks "<") (found_ref (QualifiedPath AtType) refl) (found_ref (Path AtType) refl) (λ us. refl, tt)
    (search))

pub step_arguments : Step Arguments
unfolding table skips is_path_keyword is_plain_name is_bool is_name
step_arguments = found_step Arguments refl refl
    (found_perhaps_then (marks "::")
    (found_seq found_mark
    (maybe_seq (maybe_called
    (found_many (marks ">") (found_ref AnArgument refl) (search)
    (λ ts. (refl, (refl, (refl, (refl, (refl, (refl, (refl, tt)))))))))) found_mark (
      (λ us. refl, tt),
      (
        (λ us. refl, tt),
        (
          (λ us. refl, tt),
          (
            (λ us. refl, tt),
            ((λ us. refl, tt), ((λ us. refl, tt), ((λ us. refl, tt), ((λ us. refl, tt), ((λ us. refl, tt), tt))))),
          ),
        ),
      ),
    )) tt)
    (λ us. refl, tt) (λ us. refl, tt))

pub step_an_argument : Step AnArgument
unfolding table skips is_path_keyword is_plain_name is_bool is_name
step_an_argument = found_step AnArgument refl refl
    (found_alt a_lifetime
    (weaken ((marks "=") ∷ (marks "::") ∷ (arguments_stand AtType) ∷ (parentheses_stand AtType) ∷ (marks "->") ∷
    bound_stands ∷ (marks "+") ∷ []) (found_called found_lifetime) (λ s a. tt))
    (found_alt a_literal (weaken
    ((marks "=") ∷ (marks "::") ∷ (arguments_stand AtType) ∷ (parentheses_stand AtType) ∷ (marks "->") ∷ bound_stands
    ∷ (marks "+") ∷ []) (found_alt (a_quoted any_text) (found_literal any_text)
    (found_words (codes "true" ∷ codes "false" ∷ [])) (λ cs h us. refl, tt) (search)) (λ s a. tt))
    (found_alt brace (weaken
    ((marks "=") ∷ (marks "::") ∷ (arguments_stand AtType) ∷ (parentheses_stand AtType) ∷ (marks "->") ∷ bound_stands
    ∷ (marks "+") ∷ []) (found_ref Body refl) (λ s a. tt)) found_bound (λ us. refl, tt) (search)) (search)
    ((λ us. refl) & (λ cs h us. simp
    (ident_not (codes "true") cs reserved_true h, ident_not (codes "false") cs reserved_false h) refl) & (λ us. refl)
    & (λ us. refl) & (λ us. refl) & (λ us. refl) & (λ us. refl) & (λ us. refl) & (λ us. refl) & (λ us. refl) &
    (λ us. refl) & (λ us. refl) & (λ us. refl) & (λ us. refl) & (λ us. refl) & (λ us. refl) & (λ us. refl) &
    (λ us. refl) & (λ cs h us. refl) & (λ us. refl) & (λ us. refl) & (λ us. refl) & (λ us. refl) &
    (λ cs h us. simp (ident_not (codes "true") cs reserved_true h, ident_not (codes "false") cs reserved_false h)
    refl) & (λ us. refl) & tt)) (λ cs us. refl, tt) (search))

pub step_parenthesized_arguments : Step ParenthesizedArguments
unfolding table skips is_path_keyword is_plain_name is_bool is_name
step_parenthesized_arguments = found_step ParenthesizedArguments refl refl
    (weaken ((marks "->") ∷ (marks "::") ∷ (arguments_stand AtType) ∷ (parentheses_stand AtType) ∷ [])
    (found_before (found_group
    (found_to_end (found_ref (AType WithPlus) refl) (search)
    (λ ts. (refl, (refl, (refl, (refl, (refl, (refl, tt))))))) (refl, (refl, (refl, (refl, (refl, (refl, tt))))))))
    (found_optional (marks "->") (found_seq found_mark (found_ref (AType WithoutPlus) refl) tt) (λ us. refl, tt)) tt
    (λ s a. tt)) (λ s a. (a.0, (a.1.0, (a.1.1.0, (a.1.1.1.0, (a.0, tt)))))))

pub step_a_macro : Step AMacro
unfolding table skips is_path_keyword is_plain_name is_bool is_name
step_a_macro = found_step AMacro refl refl
    (found_seq (found_ref (Path InModule) refl) (found_seq found_mark (found_ref Delimited refl) tt)
    ((λ us. refl, tt), tt))

pub step_delimited : Step Delimited
unfolding table skips is_path_keyword is_plain_name is_bool is_name
step_delimited = found_step Delimited refl refl
    (found_alt parenthesis (found_group fine_raw)
    (found_alt brace (found_group fine_raw) (found_group fine_raw) (λ us. refl, tt) (λ us. refl, tt))
    (λ us. refl, tt) (search))

pub step_member : Step Member
unfolding table skips is_path_keyword is_plain_name is_bool is_name
step_member = found_step Member refl refl
    (found_alt an_ident (found_word is_ident) (found_literal is_index) ((λ cs h us. simp (h) refl) & tt)
    (λ cs h us. refl, tt))

pub step_index : Step Index
unfolding table skips is_path_keyword is_plain_name is_bool is_name
step_index = found_step Index refl refl (found_literal is_index)
