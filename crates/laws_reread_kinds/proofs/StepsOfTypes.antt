-- The steps of types, of those that go by first tokens alone. Written by tools/steps.py, from the entries.
use Rattle.laws_reread_kinds.proofs.Classes.{◌&◌}
use Rattle.laws_reread_kinds.proofs.Keywords.{reserved_big_self, reserved_crate, reserved_dyn, reserved_extern}
use Rattle.laws_reread_kinds.proofs.Keywords.{reserved_fn, reserved_for, reserved_impl, reserved_mut, reserved_self}
use Rattle.laws_reread_kinds.proofs.Keywords.{reserved_super, reserved_underscore, reserved_unsafe}
use Rattle.laws_reread_kinds.proofs.Parts.{found_alt, found_before, found_called, found_ended, found_group}
use Rattle.laws_reread_kinds.proofs.Parts.{found_lifetime, found_literal, found_many, found_mark, found_optional}
use Rattle.laws_reread_kinds.proofs.Parts.{found_ref, found_seq, found_step, found_text, found_to_end, found_while}
use Rattle.laws_reread_kinds.proofs.Parts.{maybe_alt, maybe_called, maybe_judged, maybe_ref, maybe_seq, maybe_step}
use Rattle.laws_reread_kinds.proofs.Parts.{weaken, weaken_maybe, Found}
use Rattle.laws_reread_kinds.proofs.Readies.{Step}
use Rattle.laws_reread_kinds.proofs.Seconds.{found_named_type}
use Rattle.laws_reread_kinds.proofs.Sights.{ident_not}
use Rattle.laws_reread_kinds.proofs.Starts.{starts}
use Rattle.laws_reread_kinds.specs.After.{behind}
use Rattle.std.specs.Prelude.{codes, refl, [], ◌∷◌}
use Rattle.syn_grammar.specs.Kind.{AType, Abi, AnyPath, AtType, Bound, BoundLifetimes, Bounds, BracketType}
use Rattle.syn_grammar.specs.Kind.{DynType, Expression, FnPtrArg, FnPtrType, ImplType, InferType, LifetimeParam}
use Rattle.syn_grammar.specs.Kind.{Lifetimes, NeverType, OuterAttributes, Path, Plain, PointerType, ReferenceType}
use Rattle.syn_grammar.specs.Kind.{ReturnType, SomeBounds, TraitPath, TupleType, WithPlus, WithoutPlus}
use Rattle.syn_grammar.specs.Look.{no, a_quoted, a_lifetime, the_end, ◌or◌}
use Rattle.syn_grammar.specs.Paths.{arguments_stand, parentheses_stand}
use Rattle.syn_grammar.specs.Ranks.{skips}
use Rattle.syn_grammar.specs.Say.{at, marks, parenthesis, bracket}
use Rattle.syn_grammar.specs.Table.{table}
use Rattle.syn_grammar.specs.Types.{bound_stands}
use Rattle.syn_grammar.specs.Words.{is_string, is_name, is_path_keyword, is_plain_name, is_bool}

pub entry_a_type_with_plus : Found (table (AType WithPlus)) (behind (AType WithPlus)) (starts (AType WithPlus))
unfolding table skips is_path_keyword is_plain_name is_bool is_name
entry_a_type_with_plus =
    (found_alt parenthesis
    (weaken ((marks "::") ∷ (arguments_stand AtType) ∷ (parentheses_stand AtType) ∷ (marks "->") ∷ bound_stands ∷
    (marks "+") ∷ []) (found_ref TupleType refl) (λ s a. tt))
    (found_alt (marks "!")
    (weaken ((marks "::") ∷ (arguments_stand AtType) ∷ (parentheses_stand AtType) ∷ (marks "->") ∷ bound_stands ∷
    (marks "+") ∷ []) (found_ref NeverType refl) (λ s a. tt))
    (found_alt (marks "&")
    (weaken ((marks "::") ∷ (arguments_stand AtType) ∷ (parentheses_stand AtType) ∷ (marks "->") ∷ bound_stands ∷
    (marks "+") ∷ []) (found_ref ReferenceType refl) (λ s a. (a.0, (a.1.0, (a.1.1.0, (a.1.1.1.0, tt))))))
    (found_alt (marks "*")
    (weaken ((marks "::") ∷ (arguments_stand AtType) ∷ (parentheses_stand AtType) ∷ (marks "->") ∷ bound_stands ∷
    (marks "+") ∷ []) (found_ref PointerType refl) (λ s a. (a.0, (a.1.0, (a.1.1.0, (a.1.1.1.0, tt))))))
    (weaken ((marks "::") ∷ (arguments_stand AtType) ∷ (parentheses_stand AtType) ∷ (marks "->") ∷ bound_stands ∷
    (marks "+") ∷ []) (found_alt bracket
    (weaken (bound_stands ∷ (marks "+") ∷ (marks "::") ∷ (arguments_stand AtType) ∷ (parentheses_stand AtType) ∷
    (marks "->") ∷ []) (found_ref BracketType refl) (λ s a. tt))
    (found_alt (at "_") (weaken
    (bound_stands ∷ (marks "+") ∷ (marks "::") ∷ (arguments_stand AtType) ∷ (parentheses_stand AtType) ∷ (marks "->")
    ∷ []) (found_ref InferType refl) (λ s a. tt))
    (found_alt (at "dyn") (found_ref (DynType WithPlus) refl)
    (found_alt (at "impl") (found_ref (ImplType WithPlus) refl)
    (weaken (bound_stands ∷ (marks "+") ∷ (marks "::") ∷ (arguments_stand AtType) ∷ (parentheses_stand AtType) ∷
    (marks "->") ∷ []) (found_alt (at "for" or at "unsafe" or at "extern" or at "fn") (found_ref FnPtrType refl)
    (weaken ((marks "->") ∷ (marks "::") ∷ (arguments_stand AtType) ∷ (parentheses_stand AtType) ∷ [])
    (found_ref (AnyPath AtType) refl) (λ s a. (a.1.0, (a.1.1.0, (a.1.1.1.0, (a.0, tt)))))) (search)
    ((λ us. refl) & (λ us. refl) & (λ us. refl) & (λ us. refl) & (λ cs h us. refl) & (λ us. refl) & (λ us. refl) &
    (λ us. refl) & (λ us. refl) &
    (λ cs h us. simp (
      ident_not (codes "for") cs reserved_for h,
      ident_not (codes "unsafe") cs reserved_unsafe h,
      ident_not (codes "extern") cs reserved_extern h,
      ident_not (codes "fn") cs reserved_fn h,
    ) refl) & (λ us. refl) &
    tt)) (λ s a. (a.1.1.1.1.1.0, (a.1.1.0, (a.1.1.1.0, (a.1.1.1.1.0, tt)))))) (λ us. refl, tt)
    ((λ us. refl) & (λ us. refl) & (λ us. refl) & (λ us. refl) & (λ us. refl) & (λ us. refl) & (λ us. refl) &
    (λ us. refl) & (λ cs h us. refl) & (λ us. refl) & (λ us. refl) & (λ us. refl) & (λ us. refl) &
    (λ cs h us. simp (ident_not (codes "impl") cs reserved_impl h) refl) & (λ us. refl) & tt)) (λ us. refl, tt)
    ((λ us. refl) & (λ us. refl) & (λ us. refl) & (λ us. refl) & (λ us. refl) & (λ us. refl) & (λ us. refl) &
    (λ us. refl) & (λ us. refl) & (λ cs h us. refl) & (λ us. refl) & (λ us. refl) & (λ us. refl) & (λ us. refl) &
    (λ cs h us. simp (ident_not (codes "dyn") cs reserved_dyn h) refl) & (λ us. refl) & tt)) (λ us. refl, tt)
    ((λ us. refl) & (λ us. refl) & (λ us. refl) & (λ us. refl) & (λ us. refl) & (λ us. refl) & (λ us. refl) &
    (λ us. refl) & (λ us. refl) & (λ us. refl) & (λ cs h us. refl) & (λ us. refl) & (λ us. refl) & (λ us. refl) &
    (λ us. refl) & (λ cs h us. simp (ident_not (codes "_") cs reserved_underscore h) refl) & (λ us. refl) & tt))
    (λ us. refl, tt) (search)) (λ s a. (a.1.1.1.1.0, (a.1.1.1.1.1.0, (a.0, (a.1.0, (a.1.1.0, (a.1.1.1.0, tt))))))))
    (λ us. refl, tt) (search)) (λ us. refl, tt) (search)) (λ us. refl, tt) (search)) (λ us. refl, tt) (search))

pub step_a_type_without_plus : Step (AType WithoutPlus)
unfolding table skips is_path_keyword is_plain_name is_bool is_name
step_a_type_without_plus = found_step (AType WithoutPlus) refl refl
    (found_alt parenthesis
    (weaken ((marks "::") ∷ (arguments_stand AtType) ∷ (parentheses_stand AtType) ∷ (marks "->") ∷ [])
    (found_ref TupleType refl) (λ s a. tt))
    (found_alt (marks "!")
    (weaken ((marks "::") ∷ (arguments_stand AtType) ∷ (parentheses_stand AtType) ∷ (marks "->") ∷ [])
    (found_ref NeverType refl) (λ s a. tt))
    (found_alt (marks "&") (found_ref ReferenceType refl)
    (found_alt (marks "*") (found_ref PointerType refl)
    (found_alt bracket (weaken
    ((marks "::") ∷ (arguments_stand AtType) ∷ (parentheses_stand AtType) ∷ (marks "->") ∷ [])
    (found_ref BracketType refl) (λ s a. tt))
    (found_alt (at "_") (weaken
    ((marks "::") ∷ (arguments_stand AtType) ∷ (parentheses_stand AtType) ∷ (marks "->") ∷ [])
    (found_ref InferType refl) (λ s a. tt))
    (found_alt (at "dyn") (found_ref (DynType WithoutPlus) refl)
    (found_alt (at "impl") (found_ref (ImplType WithoutPlus) refl)
    (weaken ((marks "::") ∷ (arguments_stand AtType) ∷ (parentheses_stand AtType) ∷ (marks "->") ∷ [])
    (found_alt (at "for" or at "unsafe" or at "extern" or at "fn") (found_ref FnPtrType refl)
    (weaken ((marks "->") ∷ (marks "::") ∷ (arguments_stand AtType) ∷ (parentheses_stand AtType) ∷ [])
    (found_ref (AnyPath AtType) refl) (λ s a. (a.1.0, (a.1.1.0, (a.1.1.1.0, (a.0, tt)))))) (search)
    ((λ us. refl) & (λ us. refl) & (λ us. refl) & (λ us. refl) & (λ cs h us. refl) & (λ us. refl) & (λ us. refl) &
    (λ us. refl) & (λ us. refl) &
    (λ cs h us. simp (
      ident_not (codes "for") cs reserved_for h,
      ident_not (codes "unsafe") cs reserved_unsafe h,
      ident_not (codes "extern") cs reserved_extern h,
      ident_not (codes "fn") cs reserved_fn h,
    ) refl) & (λ us. refl) &
    tt)) (λ s a. (a.1.1.1.0, (a.0, (a.1.0, (a.1.1.0, tt)))))) (λ us. refl, tt)
    ((λ us. refl) & (λ us. refl) & (λ us. refl) & (λ us. refl) & (λ us. refl) & (λ us. refl) & (λ us. refl) &
    (λ us. refl) & (λ cs h us. refl) & (λ us. refl) & (λ us. refl) & (λ us. refl) & (λ us. refl) &
    (λ cs h us. simp (ident_not (codes "impl") cs reserved_impl h) refl) & (λ us. refl) & tt)) (λ us. refl, tt)
    ((λ us. refl) & (λ us. refl) & (λ us. refl) & (λ us. refl) & (λ us. refl) & (λ us. refl) & (λ us. refl) &
    (λ us. refl) & (λ us. refl) & (λ cs h us. refl) & (λ us. refl) & (λ us. refl) & (λ us. refl) & (λ us. refl) &
    (λ cs h us. simp (ident_not (codes "dyn") cs reserved_dyn h) refl) & (λ us. refl) & tt)) (λ us. refl, tt)
    ((λ us. refl) & (λ us. refl) & (λ us. refl) & (λ us. refl) & (λ us. refl) & (λ us. refl) & (λ us. refl) &
    (λ us. refl) & (λ us. refl) & (λ us. refl) & (λ cs h us. refl) & (λ us. refl) & (λ us. refl) & (λ us. refl) &
    (λ us. refl) & (λ cs h us. simp (ident_not (codes "_") cs reserved_underscore h) refl) & (λ us. refl) & tt))
    (λ us. refl, tt) (search)) (λ us. refl, tt) (search)) (λ us. refl, tt) (search)) (λ us. refl, tt) (search))
    (λ us. refl, tt) (search))

pub step_dyn_type_with_plus : Step (DynType WithPlus)
unfolding table skips is_path_keyword is_plain_name is_bool is_name
step_dyn_type_with_plus = found_step (DynType WithPlus) refl refl
    (found_before (found_text "dyn") (maybe_called (maybe_ref SomeBounds refl)) tt (λ s a. tt))

pub step_impl_type_with_plus : Step (ImplType WithPlus)
unfolding table skips is_path_keyword is_plain_name is_bool is_name
step_impl_type_with_plus = found_step (ImplType WithPlus) refl refl
    (found_before (found_text "impl") (maybe_called (maybe_ref SomeBounds refl)) tt (λ s a. tt))

pub step_return_type_with_plus : Step (ReturnType WithPlus)
unfolding table skips is_path_keyword is_plain_name is_bool is_name
step_return_type_with_plus = maybe_step (ReturnType WithPlus) refl refl
    (weaken_maybe ((marks "->") ∷ (marks "::") ∷ (arguments_stand AtType) ∷ (parentheses_stand AtType) ∷ bound_stands
    ∷ (marks "+") ∷ []) (found_optional (marks "->")
    (found_seq found_mark (found_called (found_ref (AType WithPlus) refl)) tt) (λ us. refl, tt))
    (λ s a. (a.0, (a.1.0, (a.1.1.0, (a.1.1.1.0, (a.0, (a.1.1.1.1.0, (a.1.1.1.1.1.0, tt)))))))))

pub step_return_type_without_plus : Step (ReturnType WithoutPlus)
unfolding table skips is_path_keyword is_plain_name is_bool is_name
step_return_type_without_plus = maybe_step (ReturnType WithoutPlus) refl refl
    (weaken_maybe ((marks "->") ∷ (marks "::") ∷ (arguments_stand AtType) ∷ (parentheses_stand AtType) ∷ [])
    (found_optional (marks "->") (found_seq found_mark (found_called (found_ref (AType WithoutPlus) refl)) tt)
    (λ us. refl, tt)) (λ s a. (a.0, (a.1.0, (a.1.1.0, (a.1.1.1.0, (a.0, tt)))))))

pub step_tuple_type : Step TupleType
unfolding table skips is_path_keyword is_plain_name is_bool is_name
step_tuple_type = found_step TupleType refl refl
    (found_group (found_to_end (found_ref (AType WithPlus) refl) (search)
    (λ ts. (refl, (refl, (refl, (refl, (refl, (refl, tt))))))) (refl, (refl, (refl, (refl, (refl, (refl, tt))))))))

pub step_never_type : Step NeverType
unfolding table skips is_path_keyword is_plain_name is_bool is_name
step_never_type = found_step NeverType refl refl found_mark

pub step_reference_type : Step ReferenceType
unfolding table skips is_path_keyword is_plain_name is_bool is_name
step_reference_type = found_step ReferenceType refl refl
    (found_seq found_mark
    (maybe_seq (found_optional a_lifetime found_lifetime (λ cs us. refl, tt))
    (maybe_seq (found_optional (at "mut") (found_text "mut") (λ us. refl, tt)) (found_ref (AType WithoutPlus) refl) (
      ((λ us. refl) & (λ us. refl) & (λ us. refl) & (λ us. refl) & (λ us. refl) & (λ us. refl) & (λ us. refl) &
          (λ us. refl) & (λ us. refl) & (λ us. refl) & (λ us. refl) & (λ us. refl) & (λ us. refl) & (λ us. refl) &
          (λ us. refl) & (λ us. refl) & (λ cs h us. refl) & (λ us. refl) & (λ us. refl) & (λ us. refl) & (λ us. refl) &
          (λ cs h us. simp (ident_not (codes "mut") cs reserved_mut h) refl) & (λ us. refl) & tt),
      tt,
    )) ((search), tt)) tt)

pub step_pointer_type : Step PointerType
unfolding table skips is_path_keyword is_plain_name is_bool is_name
step_pointer_type = found_step PointerType refl refl
    (found_seq found_mark
    (found_seq (found_alt (at "const") (found_text "const") (found_text "mut") (λ us. refl, tt) (λ us. refl, tt))
    (found_ref (AType WithoutPlus) refl) tt) tt)

pub step_bracket_type : Step BracketType
unfolding table skips is_path_keyword is_plain_name is_bool is_name
step_bracket_type = found_step BracketType refl refl
    (found_group (found_ended
    (found_before (found_ref (AType WithPlus) refl)
    (weaken_maybe ((marks ";") ∷ (no (the_end or marks "," or marks ";" or marks "=>")) ∷ (marks "::") ∷
    (arguments_stand AtType) ∷ (parentheses_stand AtType) ∷ (marks "->") ∷ bound_stands ∷ (marks "+") ∷ [])
    (found_optional (marks ";") (found_seq found_mark (found_called (found_ref (Expression Plain) refl)) tt)
    (λ us. refl, tt)) (λ s a. (a.0, (a.1.0, tt)))) (
      (λ us. refl, tt),
      (
        (λ us. refl, tt),
        ((λ us. refl, tt), ((λ us. refl, tt), ((λ us. refl, tt), ((λ us. refl, tt), tt)))),
      ),
    )
    (λ s a. (a.1.1.0, (a.1.1.1.0, (a.1.1.1.1.0, (a.1.1.1.1.1.0, (a.1.1.1.1.1.1.0, (a.1.1.1.1.1.1.1.0, tt))))))))
    (refl, (refl, (refl, (refl, (refl, (refl, (refl, (refl, tt))))))))))

pub step_infer_type : Step InferType
unfolding table skips is_path_keyword is_plain_name is_bool is_name
step_infer_type = found_step InferType refl refl (found_text "_")

pub step_fn_ptr_type : Step FnPtrType
unfolding table skips is_path_keyword is_plain_name is_bool is_name
step_fn_ptr_type = found_step FnPtrType refl refl
    (maybe_seq (found_optional (at "for") (found_ref BoundLifetimes refl) (λ us. refl, tt))
    (maybe_seq (found_optional (at "unsafe") (found_text "unsafe") (λ us. refl, tt))
    (maybe_seq (found_optional (at "extern") (found_ref Abi refl) (λ us. refl, tt))
    (found_seq (found_text "fn")
    (found_before (found_group
    (found_to_end (found_ref FnPtrArg refl) (search)
    (λ ts. (refl, (refl, (refl, (refl, (refl, (refl, (refl, tt))))))))
    (refl, (refl, (refl, (refl, (refl, (refl, (refl, tt))))))))) (maybe_ref (ReturnType WithoutPlus) refl) tt
    (λ s a. tt)) tt) ((λ us. refl, tt), ((λ us. refl, tt), tt))) ((search), tt)) ((search), tt))

pub step_fn_ptr_arg : Step FnPtrArg
unfolding table skips is_path_keyword is_plain_name is_bool is_name
step_fn_ptr_arg = found_step FnPtrArg refl refl
    (maybe_seq (maybe_ref OuterAttributes refl) found_named_type ((search), tt))

pub step_some_bounds : Step SomeBounds
unfolding table skips is_path_keyword is_plain_name is_bool is_name
step_some_bounds = maybe_step SomeBounds refl refl
    (maybe_judged _ (found_while bound_stands
    (bound_stands ∷ (marks "+") ∷ (marks "::") ∷ (arguments_stand AtType) ∷ (parentheses_stand AtType) ∷ (marks "->")
    ∷ []) (found_ref Bound refl)
    ((λ cs us. refl) & (λ us. refl) & (λ us. refl) & (λ us. refl) & (λ us. refl) & (λ us. refl) & (λ cs h us. refl) &
    (λ us. refl) & (λ us. simp (reserved_self) refl) & (λ us. simp (reserved_super) refl) &
    (λ us. simp (reserved_crate) refl) & (λ cs h us. simp (ident_not (codes "for") cs reserved_for h, h) refl) &
    (λ us. simp (reserved_big_self) refl) & tt) (λ ts. (refl, (refl, (refl, (refl, tt)))))
    (λ s a. (a.0, (a.1.0, (a.1.1.0, (a.1.1.1.0, (a.1.1.1.1.0, (a.1.1.1.1.1.0, tt)))))))))

pub step_bounds : Step Bounds
unfolding table skips is_path_keyword is_plain_name is_bool is_name
step_bounds = maybe_step Bounds refl refl
    (found_while bound_stands
    (bound_stands ∷ (marks "+") ∷ (marks "::") ∷ (arguments_stand AtType) ∷ (parentheses_stand AtType) ∷ (marks "->")
    ∷ []) (found_ref Bound refl)
    ((λ cs us. refl) & (λ us. refl) & (λ us. refl) & (λ us. refl) & (λ us. refl) & (λ us. refl) & (λ cs h us. refl) &
    (λ us. refl) & (λ us. simp (reserved_self) refl) & (λ us. simp (reserved_super) refl) &
    (λ us. simp (reserved_crate) refl) & (λ cs h us. simp (ident_not (codes "for") cs reserved_for h, h) refl) &
    (λ us. simp (reserved_big_self) refl) & tt) (λ ts. (refl, (refl, (refl, (refl, tt)))))
    (λ s a. (a.0, (a.1.0, (a.1.1.0, (a.1.1.1.0, (a.1.1.1.1.0, (a.1.1.1.1.1.0, tt))))))))

pub step_bound : Step Bound
unfolding table skips is_path_keyword is_plain_name is_bool is_name
step_bound = found_step Bound refl refl
    (found_alt a_lifetime
    (weaken ((marks "::") ∷ (arguments_stand AtType) ∷ (parentheses_stand AtType) ∷ (marks "->") ∷ []) found_lifetime
    (λ s a. tt)) (found_called (found_ref TraitPath refl)) (λ cs us. refl, tt) (search))

pub step_trait_path : Step TraitPath
unfolding table skips is_path_keyword is_plain_name is_bool is_name
step_trait_path = found_step TraitPath refl refl
    (maybe_seq (maybe_alt (marks "?") (weaken ((at "for") ∷ []) found_mark (λ s a. tt))
    (found_optional (at "for") (found_ref BoundLifetimes refl) (λ us. refl, tt)) (λ us. refl, tt) (λ us. refl, tt))
    (found_ref (Path AtType) refl) (
      (search),
      (
        ((λ us. refl) & (λ us. refl) & (λ us. refl) & (λ cs h us. refl) & (λ us. refl) & (λ us. refl) &
            (λ us. refl) & (λ us. refl) & (λ cs h us. simp (ident_not (codes "for") cs reserved_for h) refl) &
            (λ us. refl) &
            tt),
        tt,
      ),
    ))

pub step_bound_lifetimes : Step BoundLifetimes
unfolding table skips is_path_keyword is_plain_name is_bool is_name
step_bound_lifetimes = found_step BoundLifetimes refl refl
    (found_seq (found_text "for")
    (found_seq found_mark
    (maybe_seq (found_many (marks ">") (found_ref LifetimeParam refl) (search) (λ ts. (refl, (refl, (refl, tt)))))
    found_mark (
      (λ us. refl, tt),
      ((λ us. refl, tt), ((λ us. refl, tt), ((λ us. refl, tt), ((λ us. refl, tt), tt)))),
    )) tt) tt)

pub step_lifetimes : Step Lifetimes
unfolding table skips is_path_keyword is_plain_name is_bool is_name
step_lifetimes = maybe_step Lifetimes refl refl
    (found_while a_lifetime (a_lifetime ∷ (marks "+") ∷ []) found_lifetime (λ cs us. refl, tt) (λ ts. tt)
    (λ s a. (a.0, (a.1.0, tt))))

pub step_abi : Step Abi
unfolding table skips is_path_keyword is_plain_name is_bool is_name
step_abi = found_step Abi refl refl
    (found_before (found_text "extern")
    (found_optional (a_quoted is_string) (found_literal is_string) ((λ cs h us. simp h refl) & tt)) tt (λ s a. tt))
