-- The steps of generics, of those that go by first tokens alone. Written by tools/steps.py, from the entries.
use Rattle.laws_reread_kinds.proofs.Classes.{◌&◌}
use Rattle.laws_reread_kinds.proofs.Keywords.{reserved_false, reserved_true}
use Rattle.laws_reread_kinds.proofs.Params.{lifetime_param_seen, const_param_seen, type_param_seen, no_lifetime_seen}
use Rattle.laws_reread_kinds.proofs.Parts.{found_alt, found_alt_by, found_before, found_called, found_lifetime}
use Rattle.laws_reread_kinds.proofs.Parts.{found_literal, found_many, found_mark, found_optional, found_ref, found_seq}
use Rattle.laws_reread_kinds.proofs.Parts.{found_step, found_text, found_word, found_words, maybe_both, maybe_called}
use Rattle.laws_reread_kinds.proofs.Parts.{maybe_ref, maybe_seq, maybe_step, stops, weaken, weaken_maybe}
use Rattle.laws_reread_kinds.proofs.Readies.{Step}
use Rattle.laws_reread_kinds.proofs.Sights.{ident_not}
use Rattle.std.specs.Prelude.{codes, refl, [], ◌∷◌}
use Rattle.syn_grammar.specs.Generics.{where_ends}
use Rattle.syn_grammar.specs.Kind.{AType, AtType, Body, Bounds, BoundsColon, ConstParam, GenericParam}
use Rattle.syn_grammar.specs.Kind.{GenericParams, Generics, LifetimeColon, LifetimeParam, Lifetimes}
use Rattle.syn_grammar.specs.Kind.{OuterAttributes, TypeParam, Where, WhereClause, WherePredicate, WithPlus}
use Rattle.syn_grammar.specs.Look.{no, a_literal, a_quoted, a_lifetime, all_attributes, ◌then◌}
use Rattle.syn_grammar.specs.Paths.{arguments_stand, parentheses_stand}
use Rattle.syn_grammar.specs.Ranks.{skips}
use Rattle.syn_grammar.specs.Say.{at, marks, brace}
use Rattle.syn_grammar.specs.Table.{table}
use Rattle.syn_grammar.specs.Types.{bound_stands}
use Rattle.syn_grammar.specs.Words.{is_ident, any_text, is_name, is_path_keyword, is_plain_name, is_bool}

pub step_generics : Step Generics
unfolding table skips is_path_keyword is_plain_name is_bool is_name
step_generics = maybe_step Generics refl refl
    (found_optional (marks "<")
    (found_seq found_mark
    (maybe_seq (maybe_called (maybe_ref GenericParams refl)) found_mark (
      (λ us. refl, tt),
      (
        (λ us. refl, tt),
        (
          (λ us. refl, tt),
          (
            (λ us. refl, tt),
            (
              (λ us. refl, tt),
              (
                (λ us. refl, tt),
                ((λ us. refl, tt), ((λ us. refl, tt), ((λ us. refl, tt), ((λ us. refl, tt), ((λ us. refl, tt), tt))))),
              ),
            ),
          ),
        ),
      ),
    )) tt)
    (λ us. refl, tt))

pub step_generic_params : Step GenericParams
unfolding table skips is_path_keyword is_plain_name is_bool is_name
step_generic_params = maybe_step GenericParams refl refl
    (found_many (marks ">") (found_ref GenericParam refl) (search)
    (λ ts. (refl, (refl, (refl, (refl, (refl, (refl, (refl, (refl, (refl, tt)))))))))))

pub step_generic_param : Step GenericParam
unfolding table skips is_path_keyword is_plain_name is_bool is_name
step_generic_param = found_step GenericParam refl refl
    (weaken ((marks "=") ∷ (marks "::") ∷ (arguments_stand AtType) ∷ (parentheses_stand AtType) ∷ (marks ":") ∷
    a_lifetime ∷ (marks "+") ∷ (marks "->") ∷ bound_stands ∷ [])
    (found_alt_by (all_attributes then a_lifetime)
    (weaken ((marks ":") ∷ a_lifetime ∷ (marks "+") ∷ (marks "=") ∷ (marks "::") ∷ (arguments_stand AtType) ∷
    (parentheses_stand AtType) ∷ (marks "->") ∷ bound_stands ∷ []) (found_called (found_ref LifetimeParam refl))
    (λ s a. (a.0, (a.1.0, (a.1.1.0, tt)))))
    (weaken ((marks ":") ∷ a_lifetime ∷ (marks "+") ∷ (marks "=") ∷ (marks "::") ∷ (arguments_stand AtType) ∷
    (parentheses_stand AtType) ∷ (marks "->") ∷ bound_stands ∷ [])
    (found_alt_by (all_attributes then at "const")
    (weaken ((marks "=") ∷ (marks "::") ∷ (arguments_stand AtType) ∷ (parentheses_stand AtType) ∷ (marks "->") ∷
    bound_stands ∷ (marks "+") ∷ (marks ":") ∷ []) (found_ref ConstParam refl)
    (λ s a. (a.0, (a.1.0, (a.1.1.0, (a.1.1.1.0, (a.1.1.1.1.0, (a.1.1.1.1.1.0, (a.1.1.1.1.1.1.0, tt)))))))))
    (weaken ((marks "=") ∷ (marks "::") ∷ (arguments_stand AtType) ∷ (parentheses_stand AtType) ∷ (marks "->") ∷
    bound_stands ∷ (marks "+") ∷ (marks ":") ∷ []) (found_ref TypeParam refl)
    (λ s a. (
      a.0,
      (
        a.1.0,
        (a.1.1.0, (a.1.1.1.0, (a.1.1.1.1.0, (a.1.1.1.1.1.1.1.0, (a.1.1.1.1.1.0, (a.1.1.1.1.1.1.0, tt)))))),
      ),
    )))
    (λ x s d c. (const_param_seen x s d).1) (λ x s d c. (type_param_seen x s d).1))
    (λ s a. (
      a.1.1.1.0,
      (
        a.1.1.1.1.0,
        (a.1.1.1.1.1.0, (a.1.1.1.1.1.1.0, (a.1.1.1.1.1.1.1.0, (a.1.1.1.1.1.1.1.1.0, (a.1.1.0, (a.0, tt)))))),
      ),
    )))
    (λ x s d c. lifetime_param_seen x s d) (λ x s d c. no_lifetime_seen x s d))
    (λ s a. (
      a.1.1.1.1.0,
      (
        a.1.1.1.1.1.0,
        (
          a.1.1.1.1.1.1.0,
          (a.0, (a.1.0, (a.1.1.0, (a.1.1.1.0, (a.1.1.1.1.1.1.1.0, (a.1.1.1.1.1.1.1.1.0, tt)))))),
        ),
      ),
    )))

pub step_lifetime_param : Step LifetimeParam
unfolding table skips is_path_keyword is_plain_name is_bool is_name
step_lifetime_param = found_step LifetimeParam refl refl
    (maybe_seq (maybe_ref OuterAttributes refl)
    (found_before found_lifetime (maybe_ref LifetimeColon refl) tt (λ s a. tt)) ((λ cs us. refl, tt), tt))

pub step_lifetime_colon : Step LifetimeColon
unfolding table skips is_path_keyword is_plain_name is_bool is_name
step_lifetime_colon = maybe_step LifetimeColon refl refl
    (found_optional (marks ":") (found_before found_mark (maybe_called (maybe_ref Lifetimes refl)) tt (λ s a. tt))
    (λ us. refl, tt))

pub step_const_param : Step ConstParam
unfolding table skips is_path_keyword is_plain_name is_bool is_name
step_const_param = found_step ConstParam refl refl
    (maybe_seq (maybe_ref OuterAttributes refl)
    (found_seq (found_text "const")
    (found_seq (found_word is_ident)
    (found_seq found_mark
    (found_before (found_ref (AType WithPlus) refl)
    (weaken_maybe ((marks "=") ∷ (marks "::") ∷ (arguments_stand AtType) ∷ (parentheses_stand AtType) ∷ (marks "->")
    ∷ bound_stands ∷ (marks "+") ∷ [])
    (found_optional (marks "=")
    (found_seq found_mark
    (found_called (found_alt a_literal
    (found_alt (a_quoted any_text) (found_literal any_text) (found_words (codes "true" ∷ codes "false" ∷ []))
    (λ cs h us. refl, tt) (search))
    (found_alt brace (found_ref Body refl) (found_word is_ident) (λ us. refl, tt) (λ cs h us. refl, tt)) (search)
    ((λ us. refl) & (λ cs h us. simp
    (ident_not (codes "true") cs reserved_true h, ident_not (codes "false") cs reserved_false h) refl) & tt))) tt)
    (λ us. refl, tt)) (λ s a. (a.0, tt))) (
      (λ us. refl, tt),
      (
        (λ us. refl, tt),
        ((λ us. refl, tt), ((λ us. refl, tt), ((λ us. refl, tt), ((λ us. refl, tt), tt)))),
      ),
    )
    (λ s a. (a.1.0, (a.1.1.0, (a.1.1.1.0, (a.1.1.1.1.0, (a.1.1.1.1.1.0, (a.1.1.1.1.1.1.0, tt)))))))) tt) tt) tt)
    ((λ us. refl, tt), tt))

pub step_type_param : Step TypeParam
unfolding table skips is_path_keyword is_plain_name is_bool is_name
step_type_param = found_step TypeParam refl refl
    (weaken ((marks "=") ∷ (marks "::") ∷ (arguments_stand AtType) ∷ (parentheses_stand AtType) ∷ (marks "->") ∷
    (marks ":") ∷ bound_stands ∷ (marks "+") ∷ [])
    (maybe_seq (maybe_ref OuterAttributes refl)
    (found_before (found_word is_ident)
    (maybe_both (maybe_ref BoundsColon refl)
    (weaken_maybe ((marks "=") ∷ (marks "::") ∷ (arguments_stand AtType) ∷ (parentheses_stand AtType) ∷ (marks "->")
    ∷ bound_stands ∷ (marks "+") ∷ (marks ":") ∷ [])
    (found_optional (marks "=") (found_seq found_mark (found_ref (AType WithPlus) refl) tt) (λ us. refl, tt))
    (λ s a. (a.0, (a.1.0, (a.1.1.0, (a.1.1.1.0, (a.1.1.1.1.0, (a.1.1.1.1.1.0, (a.1.1.1.1.1.1.0, tt))))))))) (
      (λ us. refl, tt),
      (
        (λ us. refl, tt),
        ((λ us. refl, tt), ((λ us. refl, tt), ((λ us. refl, tt), ((λ us. refl, tt), ((λ us. refl, tt), tt))))),
      ),
    )
    (λ s a. (
      a.1.1.1.1.1.1.1.0,
      (a.1.1.1.1.1.0, (a.1.1.1.1.1.1.0, (a.1.0, (a.1.1.0, (a.1.1.1.0, (a.1.1.1.1.0, tt)))))),
    ))) tt (λ s a. tt))
    ((λ cs h us. refl, tt), tt))
    (λ s a. (
      a.0,
      (
        a.1.0,
        (a.1.1.0, (a.1.1.1.0, (a.1.1.1.1.0, (a.1.1.1.1.1.1.0, (a.1.1.1.1.1.1.1.0, (a.1.1.1.1.1.0, tt)))))),
      ),
    )))

pub step_bounds_colon : Step BoundsColon
unfolding table skips is_path_keyword is_plain_name is_bool is_name
step_bounds_colon = maybe_step BoundsColon refl refl
    (found_optional (marks ":") (found_before found_mark (maybe_called (maybe_ref Bounds refl)) tt (λ s a. tt))
    (λ us. refl, tt))

pub step_where : Step Where
unfolding table skips is_path_keyword is_plain_name is_bool is_name
step_where = maybe_step Where refl refl
    (found_optional (at "where") (found_called (found_ref WhereClause refl)) (λ us. refl, tt))

pub step_where_clause : Step WhereClause
unfolding table skips is_path_keyword is_plain_name is_bool is_name
step_where_clause = found_step WhereClause refl refl
    (found_before (found_text "where")
    (maybe_both (maybe_called
    (found_many where_ends (found_ref WherePredicate refl) (search)
    (λ ts. (refl, (refl, (refl, (refl, (refl, (refl, (refl, tt))))))))))
    (weaken_maybe ((no where_ends) ∷ (marks ",") ∷ a_lifetime ∷ (marks "+") ∷ bound_stands ∷ (marks "::") ∷
    (arguments_stand AtType) ∷ (parentheses_stand AtType) ∷ (marks "->") ∷ []) (stops where_ends) (λ s a. (a.0, tt)))
    (tt, (tt, (tt, (tt, (tt, (tt, (tt, (tt, (tt, tt)))))))))
    (λ s a. (
      a.0,
      (
        a.1.0,
        (
          a.1.1.0,
          (
            a.1.1.1.0,
            (a.1.1.1.1.0, (a.1.1.1.1.1.0, (a.1.1.1.1.1.1.0, (a.1.1.1.1.1.1.1.0, (a.1.1.1.1.1.1.1.1.0, tt))))),
          ),
        ),
      ),
    ))) tt
    (λ s a. tt))
