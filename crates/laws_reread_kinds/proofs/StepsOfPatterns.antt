-- The steps of patterns, of those that go by first tokens alone. Written by tools/steps.py, from the entries.
use Rattle.laws_reread_kinds.proofs.Classes.{◌&◌}
use Rattle.laws_reread_kinds.proofs.FieldNames.{member_seen, no_member_seen}
use Rattle.laws_reread_kinds.proofs.Keywords.{reserved_big_self, reserved_crate, reserved_false, reserved_mut}
use Rattle.laws_reread_kinds.proofs.Keywords.{reserved_ref, reserved_self, reserved_super, reserved_true}
use Rattle.laws_reread_kinds.proofs.Parts.{found_alt, found_alt_by, found_before, found_called, found_group}
use Rattle.laws_reread_kinds.proofs.Parts.{found_judged, found_literal, found_mark, found_never, found_optional}
use Rattle.laws_reread_kinds.proofs.Parts.{found_ref, found_seq, found_signs_then, found_star, found_step, found_text}
use Rattle.laws_reread_kinds.proofs.Parts.{found_to_end, found_word, found_words, maybe_alt, maybe_ref, maybe_seq}
use Rattle.laws_reread_kinds.proofs.Parts.{weaken}
use Rattle.laws_reread_kinds.proofs.Readies.{Step}
use Rattle.laws_reread_kinds.proofs.Sights.{ident_not}
use Rattle.std.specs.Prelude.{codes, refl, [], ◌∷◌}
use Rattle.syn_grammar.specs.Kind.{AnyPath, FieldPattern, FieldPatterns, IdentPattern, InExpression}
use Rattle.syn_grammar.specs.Kind.{LiteralPattern, Member, OnePattern, OuterAttributes, PathPattern, Pattern}
use Rattle.syn_grammar.specs.Kind.{RangeBound, RangeEnd, RangeToPattern, RestPattern, SeveralPatterns}
use Rattle.syn_grammar.specs.Kind.{SlicePattern, TuplePattern, WildPattern}
use Rattle.syn_grammar.specs.Look.{an_ident, a_literal, a_quoted, ◌then◌, ◌or◌}
use Rattle.syn_grammar.specs.Paths.{arguments_stand}
use Rattle.syn_grammar.specs.Patterns.{vert, range_bound_stands, range_end_stands}
use Rattle.syn_grammar.specs.Ranks.{skips}
use Rattle.syn_grammar.specs.Say.{at, marks, parenthesis, brace}
use Rattle.syn_grammar.specs.Table.{table}
use Rattle.syn_grammar.specs.Words.{is_ident, is_index, any_text, is_number, is_name, is_path_keyword}
use Rattle.syn_grammar.specs.Words.{is_plain_name, is_bool}

pub step_pattern : Step Pattern
unfolding table skips is_path_keyword is_plain_name is_bool is_name
step_pattern = found_step Pattern refl refl
    (maybe_seq (found_optional vert found_mark (λ us. refl, tt))
    (found_before (found_ref OnePattern refl)
    (found_star vert (found_seq found_mark (found_ref OnePattern refl) tt) (λ us. refl, tt) (
      (λ us. refl, tt),
      (
        (λ us. refl, tt),
        (
          (λ us. refl, tt),
          (
            (λ us. refl, tt),
            ((λ us. refl, tt), ((λ us. refl, tt), ((λ us. refl, tt), ((λ us. refl, tt), ((λ us. refl, tt), tt))))),
          ),
        ),
      ),
    )) (
      (λ us. refl, tt),
      (
        (λ us. refl, tt),
        (
          (λ us. refl, tt),
          (
            (λ us. refl, tt),
            ((λ us. refl, tt), ((λ us. refl, tt), ((λ us. refl, tt), ((λ us. refl, tt), ((λ us. refl, tt), tt))))),
          ),
        ),
      ),
    )
    (λ s a. (
      a.1.0,
      (
        a.1.1.0,
        (
          a.1.1.1.0,
          (
            a.1.1.1.1.0,
            (a.1.1.1.1.1.0, (a.1.1.1.1.1.1.0, (a.1.1.1.1.1.1.1.0, (a.1.1.1.1.1.1.1.1.0, (a.1.1.1.1.1.1.1.1.1.0, tt))))),
          ),
        ),
      ),
    )))
    ((search), tt))

pub step_several_patterns : Step SeveralPatterns
unfolding table skips is_path_keyword is_plain_name is_bool is_name
step_several_patterns = found_step SeveralPatterns refl refl
    (found_before (found_ref OnePattern refl)
    (found_star vert (found_seq found_mark (found_ref OnePattern refl) tt) (λ us. refl, tt) (
      (λ us. refl, tt),
      (
        (λ us. refl, tt),
        (
          (λ us. refl, tt),
          (
            (λ us. refl, tt),
            ((λ us. refl, tt), ((λ us. refl, tt), ((λ us. refl, tt), ((λ us. refl, tt), ((λ us. refl, tt), tt))))),
          ),
        ),
      ),
    )) (
      (λ us. refl, tt),
      (
        (λ us. refl, tt),
        (
          (λ us. refl, tt),
          (
            (λ us. refl, tt),
            ((λ us. refl, tt), ((λ us. refl, tt), ((λ us. refl, tt), ((λ us. refl, tt), ((λ us. refl, tt), tt))))),
          ),
        ),
      ),
    )
    (λ s a. (
      a.1.0,
      (
        a.1.1.0,
        (
          a.1.1.1.0,
          (
            a.1.1.1.1.0,
            (a.1.1.1.1.1.0, (a.1.1.1.1.1.1.0, (a.1.1.1.1.1.1.1.0, (a.1.1.1.1.1.1.1.1.0, (a.1.1.1.1.1.1.1.1.1.0, tt))))),
          ),
        ),
      ),
    )))

pub step_ident_pattern : Step IdentPattern
unfolding table skips is_path_keyword is_plain_name is_bool is_name
step_ident_pattern = found_step IdentPattern refl refl
    (weaken ((marks "!") ∷ (marks "@") ∷ (marks "..") ∷ range_end_stands ∷ parenthesis ∷ brace ∷ (marks "::") ∷
    (arguments_stand InExpression) ∷ range_bound_stands ∷ [])
    (maybe_seq (found_optional (at "ref") (found_text "ref") (λ us. refl, tt))
    (maybe_seq (found_optional (at "mut") (found_text "mut") (λ us. refl, tt))
    (found_before (found_word is_ident)
    (maybe_alt (marks "!") found_never
    (found_optional (marks "@") (found_seq found_mark (found_ref OnePattern refl) tt) (λ us. refl, tt)) tt
    (λ us. refl, tt)) tt (λ s a. tt))
    (((λ cs h us. simp (ident_not (codes "mut") cs reserved_mut h) refl) & tt), tt))
    (((λ us. refl) & (λ cs h us. simp (ident_not (codes "ref") cs reserved_ref h) refl) & tt), tt))
    (λ s a. (
      a.0,
      (
        a.1.0,
        (
          a.1.1.0,
          (
            a.0,
            (
              a.1.0,
              (
                a.1.1.1.0,
                (
                  a.1.1.1.1.0,
                  (a.1.1.1.1.1.0, (a.1.1.1.1.1.1.0, (a.1.1.1.1.1.1.1.0, (a.1.1.1.1.1.1.1.1.0, tt)))),
                ),
              ),
            ),
          ),
        ),
      ),
    )))

pub step_wild_pattern : Step WildPattern
unfolding table skips is_path_keyword is_plain_name is_bool is_name
step_wild_pattern = found_step WildPattern refl refl (found_text "_")

pub step_range_to_pattern : Step RangeToPattern
unfolding table skips is_path_keyword is_plain_name is_bool is_name
step_range_to_pattern = found_step RangeToPattern refl refl
    (found_signs_then (marks "..=") (found_ref RangeBound refl) (search) (search))

pub step_rest_pattern : Step RestPattern
unfolding table skips is_path_keyword is_plain_name is_bool is_name
step_rest_pattern = found_step RestPattern refl refl found_mark

pub step_tuple_pattern : Step TuplePattern
unfolding table skips is_path_keyword is_plain_name is_bool is_name
step_tuple_pattern = found_step TuplePattern refl refl
    (found_group (found_to_end (found_ref Pattern refl) (search)
    (λ ts. (refl, (refl, (refl, (refl, (refl, (refl, (refl, (refl, (refl, (refl, tt)))))))))))
    (refl, (refl, (refl, (refl, (refl, (refl, (refl, (refl, (refl, (refl, tt))))))))))))

pub step_slice_pattern : Step SlicePattern
unfolding table skips is_path_keyword is_plain_name is_bool is_name
step_slice_pattern = found_step SlicePattern refl refl
    (found_group (found_to_end (found_ref Pattern refl) (search)
    (λ ts. (refl, (refl, (refl, (refl, (refl, (refl, (refl, (refl, (refl, (refl, tt)))))))))))
    (refl, (refl, (refl, (refl, (refl, (refl, (refl, (refl, (refl, (refl, tt))))))))))))

pub step_literal_pattern : Step LiteralPattern
unfolding table skips is_path_keyword is_plain_name is_bool is_name
step_literal_pattern = found_step LiteralPattern refl refl
    (found_before (found_alt (marks "-") (found_seq found_mark (found_literal is_number) tt)
    (found_alt (a_quoted any_text) (found_literal any_text) (found_words (codes "true" ∷ codes "false" ∷ []))
    (λ cs h us. refl, tt) (search)) (λ us. refl, tt) (search))
    (found_optional range_end_stands (found_ref RangeEnd refl) (search)) tt (λ s a. tt))

pub step_path_pattern : Step PathPattern
unfolding table skips is_path_keyword is_plain_name is_bool is_name
step_path_pattern = found_step PathPattern refl refl
    (weaken (parenthesis ∷ brace ∷ range_end_stands ∷ (marks "::") ∷ (arguments_stand InExpression) ∷
    range_bound_stands ∷ [])
    (found_before (found_ref (AnyPath InExpression) refl)
    (maybe_alt parenthesis
    (weaken (brace ∷ range_end_stands ∷ range_bound_stands ∷ (marks "::") ∷ (arguments_stand InExpression) ∷ [])
    (found_group (found_to_end (found_ref Pattern refl) (search)
    (λ ts. (refl, (refl, (refl, (refl, (refl, (refl, (refl, (refl, (refl, (refl, tt)))))))))))
    (refl, (refl, (refl, (refl, (refl, (refl, (refl, (refl, (refl, (refl, tt)))))))))))) (λ s a. tt))
    (maybe_alt brace (weaken
    (range_end_stands ∷ range_bound_stands ∷ (marks "::") ∷ (arguments_stand InExpression) ∷ [])
    (found_ref FieldPatterns refl) (λ s a. tt)) (found_optional range_end_stands (found_ref RangeEnd refl) (search))
    (λ us. refl, tt) (search)) (λ us. refl, tt) (search)) ((search), ((search), tt))
    (λ s a. (a.1.1.1.1.0, (a.1.1.1.1.1.0, tt))))
    (λ s a. (a.0, (a.1.0, (a.1.1.0, (a.1.1.1.1.1.0, (a.1.1.1.0, (a.1.1.1.1.0, tt))))))))

pub step_range_end : Step RangeEnd
unfolding table skips is_path_keyword is_plain_name is_bool is_name
step_range_end = found_step RangeEnd refl refl
    (weaken (range_bound_stands ∷ (marks "::") ∷ (arguments_stand InExpression) ∷ [])
    (found_alt (marks "..=")
    (weaken ((marks "::") ∷ (arguments_stand InExpression) ∷ range_bound_stands ∷ [])
    (found_seq found_mark (found_ref RangeBound refl) tt) (λ s a. (a.0, (a.1.0, tt))))
    (weaken ((marks "::") ∷ (arguments_stand InExpression) ∷ range_bound_stands ∷ [])
    (found_before found_mark
    (found_optional range_bound_stands (found_ref RangeBound refl)
    ((λ us. refl) & (λ cs h us. refl) & (λ us. refl) & (λ us. refl) & (λ us. refl) & (λ us. refl) & (λ us. refl) &
    (λ us. refl) & (λ cs h us. refl) & (λ us. refl) & (λ us. simp (reserved_self) refl) &
    (λ us. simp (reserved_super) refl) & (λ us. simp (reserved_crate) refl) &
    (λ cs h us. simp (ident_not (codes "true") cs reserved_true h, ident_not (codes "false") cs reserved_false h, h)
    refl) & (λ us. simp (reserved_big_self) refl) & tt)) tt (λ s a. tt)) (λ s a. (a.1.1.0, (a.0, (a.1.0, tt)))))
    (λ us. refl, tt) (λ us. refl, tt)) (λ s a. (a.1.0, (a.1.1.0, (a.0, tt)))))

pub step_range_bound : Step RangeBound
unfolding table skips is_path_keyword is_plain_name is_bool is_name
step_range_bound = found_step RangeBound refl refl
    (found_alt (a_literal or marks "-")
    (weaken ((marks "::") ∷ (arguments_stand InExpression) ∷ [])
    (found_alt (marks "-") (found_seq found_mark (found_literal is_number) tt)
    (found_alt (a_quoted any_text) (found_literal any_text) (found_words (codes "true" ∷ codes "false" ∷ []))
    (λ cs h us. refl, tt) (search)) (λ us. refl, tt) (search)) (λ s a. tt)) (found_ref (AnyPath InExpression) refl)
    (search) ((λ us. refl) & (λ us. refl) & (λ us. refl) & (λ us. refl) & (λ cs h us. refl) & (λ us. refl) &
    (λ us. refl) & (λ us. refl) & (λ us. refl) &
    (λ cs h us. simp (ident_not (codes "true") cs reserved_true h, ident_not (codes "false") cs reserved_false h)
    refl) & (λ us. refl) & tt))

pub step_field_patterns : Step FieldPatterns
unfolding table skips is_path_keyword is_plain_name is_bool is_name
step_field_patterns = found_step FieldPatterns refl refl
    (found_judged _ (found_group
    (found_to_end (found_ref FieldPattern refl) (search)
    (λ ts. (refl, (refl, (refl, (refl, (refl, (refl, (refl, (refl, (refl, (refl, (refl, tt))))))))))))
    (refl, (refl, (refl, (refl, (refl, (refl, (refl, (refl, (refl, (refl, (refl, tt))))))))))))))

pub step_field_pattern : Step FieldPattern
unfolding table skips is_path_keyword is_plain_name is_bool is_name
step_field_pattern = found_step FieldPattern refl refl
    (weaken (vert ∷ (marks ":") ∷ (marks "..") ∷ (marks "!") ∷ (marks "@") ∷ range_end_stands ∷ parenthesis ∷ brace ∷
    (marks "::") ∷ (arguments_stand InExpression) ∷ range_bound_stands ∷ [])
    (maybe_seq (maybe_ref OuterAttributes refl)
    (found_alt (marks "..")
    (weaken (vert ∷ (marks "..") ∷ (marks "!") ∷ (marks "@") ∷ range_end_stands ∷ parenthesis ∷ brace ∷ (marks "::")
    ∷ (arguments_stand InExpression) ∷ range_bound_stands ∷ (marks ":") ∷ [])
    (found_called (found_ref RestPattern refl)) (λ s a. tt))
    (found_alt_by ((an_ident or a_quoted is_index) then marks ":")
    (weaken (vert ∷ (marks "..") ∷ (marks "!") ∷ (marks "@") ∷ range_end_stands ∷ parenthesis ∷ brace ∷ (marks "::")
    ∷ (arguments_stand InExpression) ∷ range_bound_stands ∷ (marks ":") ∷ [])
    (found_seq (found_ref Member refl) (found_seq found_mark (found_ref Pattern refl) tt) tt)
    (λ s a. (
      a.0,
      (
        a.1.0,
        (
          a.1.1.0,
          (
            a.1.1.1.0,
            (
              a.1.1.1.1.0,
              (
                a.1.1.1.1.1.0,
                (a.1.1.1.1.1.1.0, (a.1.1.1.1.1.1.1.0, (a.1.1.1.1.1.1.1.1.0, (a.1.1.1.1.1.1.1.1.1.0, tt)))),
              ),
            ),
          ),
        ),
      ),
    )))
    (weaken (vert ∷ (marks "..") ∷ (marks "!") ∷ (marks "@") ∷ range_end_stands ∷ parenthesis ∷ brace ∷ (marks "::")
    ∷ (arguments_stand InExpression) ∷ range_bound_stands ∷ (marks ":") ∷ [])
    (maybe_seq (found_optional (at "ref") (found_text "ref") (λ us. refl, tt))
    (maybe_seq (found_optional (at "mut") (found_text "mut") (λ us. refl, tt)) (found_word is_ident)
    (((λ cs h us. simp (ident_not (codes "mut") cs reserved_mut h) refl) & tt), tt))
    (((λ us. refl) & (λ cs h us. simp (ident_not (codes "ref") cs reserved_ref h) refl) & tt), tt)) (λ s a. tt))
    (λ x s d c. member_seen x s d) (λ x s d c. no_member_seen x s d c.1.1.1.1.1.1.1.1.1.1.0)) (λ us. refl, tt)
    (search)) ((search), tt))
    (λ s a. (
      a.0,
      (
        a.1.1.0,
        (
          a.1.1.1.0,
          (
            a.1.1.1.1.0,
            (
              a.1.1.1.1.1.0,
              (
                a.1.1.1.1.1.1.0,
                (
                  a.1.1.1.1.1.1.1.0,
                  (
                    a.1.1.1.1.1.1.1.1.0,
                    (a.1.1.1.1.1.1.1.1.1.0, (a.1.1.1.1.1.1.1.1.1.1.0, (a.1.0, tt))),
                  ),
                ),
              ),
            ),
          ),
        ),
      ),
    )))
