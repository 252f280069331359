-- The steps of items, of those that go by first tokens alone. Written by tools/steps.py, from the entries.
use Rattle.laws_reread_kinds.proofs.Classes.{◌&◌}
use Rattle.laws_reread_kinds.proofs.Fine.{fine_raw}
use Rattle.laws_reread_kinds.proofs.HandSteps.{found_restriction}
use Rattle.laws_reread_kinds.proofs.Keywords.{reserved_crate, reserved_mut, reserved_pub, reserved_self}
use Rattle.laws_reread_kinds.proofs.Keywords.{reserved_super, reserved_try, reserved_underscore, reserved_where}
use Rattle.laws_reread_kinds.proofs.Parts.{found_alt, found_before, found_called, found_dropped, found_group}
use Rattle.laws_reread_kinds.proofs.Parts.{found_judged, found_lifetime, found_mark, found_optional, found_ref}
use Rattle.laws_reread_kinds.proofs.Parts.{found_seq, found_step, found_text, found_then, found_to_end, found_word}
use Rattle.laws_reread_kinds.proofs.Parts.{found_words, maybe_alt, maybe_both, maybe_called, maybe_ended, maybe_none}
use Rattle.laws_reread_kinds.proofs.Parts.{maybe_ref, maybe_seq, maybe_step, weaken, weaken_maybe}
use Rattle.laws_reread_kinds.proofs.Readies.{Step}
use Rattle.laws_reread_kinds.proofs.Sights.{ident_not}
use Rattle.std.specs.Prelude.{codes, refl, [], ◌∷◌}
use Rattle.syn_grammar.specs.Generics.{where_ends}
use Rattle.syn_grammar.specs.Items.{use_words}
use Rattle.syn_grammar.specs.Kind.{AConstTrait, AFile, AForeignModule, AFunction, AMacroDefinition, AModule}
use Rattle.syn_grammar.specs.Kind.{ARestrictedTrait, AStatic, AStruct, ATrait, AType, ATypeAlias, AUnion, AUse}
use Rattle.syn_grammar.specs.Kind.{Abi, AnEnum, AnExternCrate, AtType, Block, Body, Bounds, BoundsColon}
use Rattle.syn_grammar.specs.Kind.{Expression, FnArg, ForeignItems, Generics, InFile, InForeign, InImpl, InModule}
use Rattle.syn_grammar.specs.Kind.{InTrait, InnerAttributes, ItemMacro, Items, Label, NamedField, NamedFields}
use Rattle.syn_grammar.specs.Kind.{OuterAttributes, Parameter, Parameters, Path, Plain, Receiver, ReturnType}
use Rattle.syn_grammar.specs.Kind.{Signature, Statements, TraitItems, UnnamedField, UnnamedFields, UseBranch}
use Rattle.syn_grammar.specs.Kind.{UseRooted, UseTop, UseTree, Variant, Visibility, Where, WithPlus}
use Rattle.syn_grammar.specs.Look.{no, one_of, an_ident, a_lifetime, the_end, ◌then◌, ◌or◌}
use Rattle.syn_grammar.specs.Paths.{arguments_stand, parentheses_stand}
use Rattle.syn_grammar.specs.Ranks.{skips}
use Rattle.syn_grammar.specs.Say.{at, marks, parenthesis, brace}
use Rattle.syn_grammar.specs.Table.{table}
use Rattle.syn_grammar.specs.Types.{bound_stands}
use Rattle.syn_grammar.specs.Words.{is_ident, is_name, is_path_keyword, is_plain_name, is_bool}

pub step_named_fields : Step NamedFields
unfolding table skips is_path_keyword is_plain_name is_bool is_name
step_named_fields = found_step NamedFields refl refl
    (found_group (found_to_end (found_ref NamedField refl) (search)
    (λ ts. (refl, (refl, (refl, (refl, (refl, (refl, (refl, (refl, tt)))))))))
    (refl, (refl, (refl, (refl, (refl, (refl, (refl, (refl, tt))))))))))

pub step_unnamed_fields : Step UnnamedFields
unfolding table skips is_path_keyword is_plain_name is_bool is_name
step_unnamed_fields = found_step UnnamedFields refl refl
    (found_group (found_to_end (found_ref UnnamedField refl) (search)
    (λ ts. (refl, (refl, (refl, (refl, (refl, (refl, (refl, tt))))))))
    (refl, (refl, (refl, (refl, (refl, (refl, (refl, tt)))))))))

pub step_named_field : Step NamedField
unfolding table skips is_path_keyword is_plain_name is_bool is_name
step_named_field = found_step NamedField refl refl
    (maybe_seq (maybe_ref OuterAttributes refl)
    (maybe_seq (maybe_ref Visibility refl)
    (found_seq (found_alt (at "_") (found_text "_") (found_word is_ident) (λ us. refl, tt)
    ((λ cs h us. simp (ident_not (codes "_") cs reserved_underscore h) refl) & tt))
    (found_seq found_mark
    (found_before (found_ref (AType WithPlus) refl)
    (weaken_maybe ((marks "=") ∷ (no (the_end or marks "," or marks ";" or marks "=>")) ∷ (marks "::") ∷
    (arguments_stand AtType) ∷ (parentheses_stand AtType) ∷ (marks "->") ∷ bound_stands ∷ (marks "+") ∷ [])
    (found_optional (marks "=") (found_seq found_mark (found_called (found_ref (Expression Plain) refl)) tt)
    (λ us. refl, tt)) (λ s a. (a.0, (a.1.0, tt)))) (
      (λ us. refl, tt),
      (
        (λ us. refl, tt),
        ((λ us. refl, tt), ((λ us. refl, tt), ((λ us. refl, tt), ((λ us. refl, tt), tt)))),
      ),
    )
    (λ s a. (a.1.1.0, (a.1.1.1.0, (a.1.1.1.1.0, (a.1.1.1.1.1.0, (a.1.1.1.1.1.1.0, (a.1.1.1.1.1.1.1.0, tt)))))))) tt)
    tt) (((λ us. refl) & (λ cs h us. simp (ident_not (codes "pub") cs reserved_pub h) refl) & tt), ((search), tt)))
    ((search), tt))

pub step_variant : Step Variant
unfolding table skips is_path_keyword is_plain_name is_bool is_name
step_variant = found_step Variant refl refl
    (maybe_seq (maybe_ref OuterAttributes refl)
    (maybe_seq (found_dropped (maybe_ref Visibility refl))
    (found_before (found_word is_ident)
    (maybe_both (maybe_alt brace (weaken (parenthesis ∷ []) (found_ref NamedFields refl) (λ s a. tt))
    (found_optional parenthesis (found_ref UnnamedFields refl) (λ us. refl, tt)) (λ us. refl, tt) (λ us. refl, tt))
    (weaken_maybe ((marks "=") ∷ (no (the_end or marks "," or marks ";" or marks "=>")) ∷ brace ∷ parenthesis ∷ [])
    (found_optional (marks "=") (found_seq found_mark (found_called (found_ref (Expression Plain) refl)) tt)
    (λ us. refl, tt)) (λ s a. (a.0, (a.1.0, tt)))) ((λ us. refl, tt), ((λ us. refl, tt), tt))
    (λ s a. (a.1.1.0, (a.1.1.1.0, tt)))) tt (λ s a. tt))
    (((λ cs h us. simp (ident_not (codes "pub") cs reserved_pub h) refl) & tt), ((λ cs h us. refl, tt), tt)))
    ((λ cs h us. refl, tt), tt))

pub step_a_struct : Step AStruct
unfolding table skips is_path_keyword is_plain_name is_bool is_name
step_a_struct = found_step AStruct refl refl
    (found_seq (found_text "struct")
    (found_seq (found_called (found_word is_ident))
    (maybe_seq (maybe_called (maybe_ref Generics refl))
    (found_alt parenthesis
    (found_seq (found_ref UnnamedFields refl)
    (maybe_seq (maybe_called (maybe_ref Where refl)) found_mark (
      (λ us. refl, tt),
      (
        (λ us. refl, tt),
        (
          (λ us. refl, tt),
          (
            (λ us. refl, tt),
            (
              (λ us. refl, tt),
              (
                (λ us. refl, tt),
                ((λ us. refl, tt), ((λ us. refl, tt), ((λ us. refl, tt), ((λ us. refl, tt), tt)))),
              ),
            ),
          ),
        ),
      ),
    )) tt)
    (maybe_seq (maybe_called (maybe_ref Where refl))
    (found_alt brace (found_ref NamedFields refl) found_mark (λ us. refl, tt) (λ us. refl, tt)) (
      (search),
      (
        (search),
        ((search), ((search), ((search), ((search), ((search), ((search), ((search), ((search), tt)))))))),
      ),
    ))
    (λ us. refl, tt) (search)) ((search), tt)) tt) tt)

pub step_an_enum : Step AnEnum
unfolding table skips is_path_keyword is_plain_name is_bool is_name
step_an_enum = found_step AnEnum refl refl
    (found_seq (found_text "enum")
    (found_seq (found_called (found_word is_ident))
    (maybe_seq (maybe_called (maybe_ref Generics refl))
    (maybe_seq (maybe_called (maybe_ref Where refl))
    (found_group (found_to_end (found_ref Variant refl) (search) (λ ts. (refl, (refl, (refl, (refl, tt)))))
    (refl, (refl, (refl, (refl, tt)))))) (
      (λ us. refl, tt),
      (
        (λ us. refl, tt),
        (
          (λ us. refl, tt),
          (
            (λ us. refl, tt),
            (
              (λ us. refl, tt),
              (
                (λ us. refl, tt),
                ((λ us. refl, tt), ((λ us. refl, tt), ((λ us. refl, tt), ((λ us. refl, tt), tt)))),
              ),
            ),
          ),
        ),
      ),
    )) ((search), tt)) tt) tt)

pub step_a_union : Step AUnion
unfolding table skips is_path_keyword is_plain_name is_bool is_name
step_a_union = found_step AUnion refl refl
    (found_seq (found_text "union")
    (found_seq (found_called (found_word is_ident))
    (maybe_seq (maybe_called (maybe_ref Generics refl))
    (maybe_seq (maybe_called (maybe_ref Where refl)) (found_ref NamedFields refl) (
      (λ us. refl, tt),
      (
        (λ us. refl, tt),
        (
          (λ us. refl, tt),
          (
            (λ us. refl, tt),
            (
              (λ us. refl, tt),
              (
                (λ us. refl, tt),
                ((λ us. refl, tt), ((λ us. refl, tt), ((λ us. refl, tt), ((λ us. refl, tt), tt)))),
              ),
            ),
          ),
        ),
      ),
    )) ((search), tt)) tt) tt)

pub step_a_static : Step AStatic
unfolding table skips is_path_keyword is_plain_name is_bool is_name
step_a_static = found_step AStatic refl refl
    (found_seq (found_text "static")
    (maybe_seq (found_optional (at "mut") (found_text "mut") (λ us. refl, tt))
    (found_seq (found_called (found_word is_ident))
    (maybe_seq (found_optional (marks ":") (found_seq found_mark (found_called (found_ref (AType WithPlus) refl)) tt)
    (λ us. refl, tt)) (maybe_seq
    (found_optional (marks "=") (found_seq found_mark (found_called (found_ref (Expression Plain) refl)) tt)
    (λ us. refl, tt)) found_mark ((λ us. refl, tt), ((λ us. refl, tt), tt)))
    ((search), ((search), ((search), ((search), ((search), ((search), ((search), tt)))))))) tt)
    (((λ cs h us. simp (ident_not (codes "mut") cs reserved_mut h) refl) & tt), tt)) tt)

pub step_an_extern_crate : Step AnExternCrate
unfolding table skips is_path_keyword is_plain_name is_bool is_name
step_an_extern_crate = found_step AnExternCrate refl refl
    (found_seq (found_text "extern")
    (found_seq (found_text "crate")
    (found_seq (found_called
    (found_alt (at "self") (found_text "self") (found_word is_ident) (λ us. refl, tt)
    ((λ cs h us. simp (ident_not (codes "self") cs reserved_self h) refl) & tt)))
    (maybe_seq (found_optional (at "as")
    (found_seq (found_text "as")
    (found_alt (at "_") (found_text "_") (found_word is_ident) (λ us. refl, tt)
    ((λ cs h us. simp (ident_not (codes "_") cs reserved_underscore h) refl) & tt)) tt) (λ us. refl, tt)) found_mark
    ((λ us. refl, tt), tt)) tt) tt) tt)

pub step_a_use : Step AUse
unfolding table skips is_path_keyword is_plain_name is_bool is_name
step_a_use = found_step AUse refl refl
    (found_seq (found_text "use")
    (found_seq (found_called (found_ref UseTop refl)) found_mark ((λ us. refl, tt), ((λ us. refl, tt), tt))) tt)

pub step_use_top : Step UseTop
unfolding table skips is_path_keyword is_plain_name is_bool is_name
step_use_top = found_step UseTop refl refl
    (found_alt (marks "::") (found_then (found_ref UseTree refl)) (found_ref UseRooted refl) (search) (search))

pub step_use_tree : Step UseTree
unfolding table skips is_path_keyword is_plain_name is_bool is_name
step_use_tree = found_step UseTree refl refl
    (found_alt brace (weaken ((marks "::") ∷ (at "as") ∷ [])
    (found_group (found_to_end (found_ref UseTree refl) (search) (λ ts. (refl, (refl, tt))) (refl, (refl, tt))))
    (λ s a. tt)) (found_ref UseBranch refl) (λ us. refl, tt) (search))

pub step_use_branch : Step UseBranch
unfolding table skips is_path_keyword is_plain_name is_bool is_name
step_use_branch = found_step UseBranch refl refl
    (weaken ((marks "::") ∷ (at "as") ∷ [])
    (found_alt (marks "*") (weaken ((marks "::") ∷ (marks "::") ∷ (at "as") ∷ []) found_mark (λ s a. tt))
    (found_before (found_alt (one_of use_words) (found_words use_words) (found_word is_ident) (search)
    ((λ cs h us. simp (
      ident_not (codes "self") cs reserved_self h,
      ident_not (codes "super") cs reserved_super h,
      ident_not (codes "crate") cs reserved_crate h,
      ident_not (codes "try") cs reserved_try h,
    ) refl) & tt))
    (maybe_alt (marks "::") (found_then (found_ref UseTree refl))
    (weaken_maybe ((marks "::") ∷ (at "as") ∷ [])
    (found_optional (at "as")
    (found_seq (found_text "as")
    (found_alt (at "_") (found_text "_") (found_word is_ident) (λ us. refl, tt)
    ((λ cs h us. simp (ident_not (codes "_") cs reserved_underscore h) refl) & tt)) tt) (λ us. refl, tt))
    (λ s a. (a.1.0, tt))) (search) (λ us. refl, tt)) tt (λ s a. tt)) (λ us. refl, tt) (search))
    (λ s a. (a.0, (a.0, (a.1.0, tt)))))

pub step_use_rooted : Step UseRooted
unfolding table skips is_path_keyword is_plain_name is_bool is_name
step_use_rooted = found_step UseRooted refl refl
    (found_alt brace (weaken ((marks "::") ∷ (at "as") ∷ [])
    (found_group (found_to_end (found_ref UseTop refl) (search) (λ ts. (refl, (refl, tt))) (refl, (refl, tt))))
    (λ s a. tt)) (found_ref UseBranch refl) (λ us. refl, tt) (search))

pub step_parameters : Step Parameters
unfolding table skips is_path_keyword is_plain_name is_bool is_name
step_parameters = found_step Parameters refl refl
    (found_judged _ (found_group
    (found_to_end (found_ref Parameter refl) (search)
    (λ ts. (refl, (refl, (refl, (refl, (refl, (refl, (refl, tt))))))))
    (refl, (refl, (refl, (refl, (refl, (refl, (refl, tt))))))))))

pub step_fn_arg : Step FnArg
unfolding table skips is_path_keyword is_plain_name is_bool is_name
step_fn_arg = found_step FnArg refl refl (found_judged _ (found_ref Parameter refl))

pub step_receiver : Step Receiver
unfolding table skips is_path_keyword is_plain_name is_bool is_name
step_receiver = found_step Receiver refl refl
    (found_alt (marks "&")
    (weaken ((marks ":") ∷ (marks "::") ∷ (arguments_stand AtType) ∷ (parentheses_stand AtType) ∷ (marks "->") ∷
    bound_stands ∷ (marks "+") ∷ [])
    (found_seq found_mark
    (maybe_seq (found_optional a_lifetime found_lifetime (λ cs us. refl, tt))
    (maybe_seq (found_optional (at "mut") (found_text "mut") (λ us. refl, tt)) (found_text "self")
    ((λ us. refl, tt), tt)) ((search), tt)) tt) (λ s a. tt))
    (maybe_seq (found_optional (at "mut") (found_text "mut") (λ us. refl, tt))
    (found_before (found_text "self")
    (found_optional (marks ":") (found_seq found_mark (found_ref (AType WithPlus) refl) tt) (λ us. refl, tt)) tt
    (λ s a. tt)) ((λ us. refl, tt), tt)) (λ us. refl, tt) (search))

pub step_signature_in_file : Step (Signature InFile)
unfolding table skips is_path_keyword is_plain_name is_bool is_name
step_signature_in_file = found_step (Signature InFile) refl refl
    (weaken ((at "where") ∷ (marks "->") ∷ (marks "::") ∷ (arguments_stand AtType) ∷ (parentheses_stand AtType) ∷
    (no where_ends) ∷ (marks ",") ∷ a_lifetime ∷ (marks "+") ∷ bound_stands ∷ [])
    (maybe_seq (found_optional (at "const") (found_text "const") (λ us. refl, tt))
    (maybe_seq (found_optional (at "async") (found_text "async") (λ us. refl, tt))
    (maybe_seq (found_optional (at "unsafe") (found_called (found_text "unsafe")) (λ us. refl, tt))
    (maybe_seq (found_optional (at "extern") (found_ref Abi refl) (λ us. refl, tt))
    (found_seq (found_text "fn")
    (found_seq (found_called (found_word is_ident))
    (maybe_seq (maybe_called (maybe_ref Generics refl))
    (found_before (found_ref Parameters refl)
    (maybe_both (maybe_ref (ReturnType WithPlus) refl) (maybe_called (maybe_ref Where refl)) (
      (λ us. refl, tt),
      (
        (λ us. refl, tt),
        ((λ us. refl, tt), ((λ us. refl, tt), (((λ us. simp (reserved_where) refl) & tt), ((λ us. refl, tt), tt)))),
      ),
    )
    (λ s a. (
      a.1.1.1.1.1.1.1.1.1.0,
      (a.1.1.1.1.1.1.0, (a.1.1.1.1.1.1.1.0, (a.1.1.1.1.1.1.1.1.0, (a.1.1.1.1.1.0, (a.1.1.1.1.0, tt))))),
    ))) tt
    (λ s a. tt)) ((λ us. refl, tt), tt)) tt) tt) ((λ us. refl, tt), ((λ us. refl, tt), tt))) ((search), tt))
    ((search), tt)) ((search), tt))
    (λ s a. (
      a.0,
      (
        a.1.1.1.1.1.0,
        (
          a.1.1.1.1.1.1.0,
          (
            a.1.1.1.1.1.1.1.0,
            (a.1.1.1.1.1.1.1.1.0, (a.1.1.1.1.1.1.1.1.1.0, (a.1.1.0, (a.1.1.1.0, (a.1.1.1.1.0, (a.1.0, tt)))))),
          ),
        ),
      ),
    )))

pub step_signature_in_foreign : Step (Signature InForeign)
unfolding table skips is_path_keyword is_plain_name is_bool is_name
step_signature_in_foreign = found_step (Signature InForeign) refl refl
    (weaken ((at "where") ∷ (marks "->") ∷ (marks "::") ∷ (arguments_stand AtType) ∷ (parentheses_stand AtType) ∷
    (no where_ends) ∷ (marks ",") ∷ a_lifetime ∷ (marks "+") ∷ bound_stands ∷ [])
    (maybe_seq (found_optional (at "const") (found_text "const") (λ us. refl, tt))
    (maybe_seq (found_optional (at "async") (found_text "async") (λ us. refl, tt))
    (maybe_seq (found_optional (at "unsafe" or at "safe")
    (found_called (found_words (codes "unsafe" ∷ codes "safe" ∷ []))) (search))
    (maybe_seq (found_optional (at "extern") (found_ref Abi refl) (λ us. refl, tt))
    (found_seq (found_text "fn")
    (found_seq (found_called (found_word is_ident))
    (maybe_seq (maybe_called (maybe_ref Generics refl))
    (found_before (found_ref Parameters refl)
    (maybe_both (maybe_ref (ReturnType WithPlus) refl) (maybe_called (maybe_ref Where refl)) (
      (λ us. refl, tt),
      (
        (λ us. refl, tt),
        ((λ us. refl, tt), ((λ us. refl, tt), (((λ us. simp (reserved_where) refl) & tt), ((λ us. refl, tt), tt)))),
      ),
    )
    (λ s a. (
      a.1.1.1.1.1.1.1.1.1.0,
      (a.1.1.1.1.1.1.0, (a.1.1.1.1.1.1.1.0, (a.1.1.1.1.1.1.1.1.0, (a.1.1.1.1.1.0, (a.1.1.1.1.0, tt))))),
    ))) tt
    (λ s a. tt)) ((λ us. refl, tt), tt)) tt) tt) ((λ us. refl, tt), ((λ us. refl, tt), tt))) ((search), tt))
    ((search), tt)) ((search), tt))
    (λ s a. (
      a.0,
      (
        a.1.1.1.1.1.0,
        (
          a.1.1.1.1.1.1.0,
          (
            a.1.1.1.1.1.1.1.0,
            (a.1.1.1.1.1.1.1.1.0, (a.1.1.1.1.1.1.1.1.1.0, (a.1.1.0, (a.1.1.1.0, (a.1.1.1.1.0, (a.1.0, tt)))))),
          ),
        ),
      ),
    )))

pub step_signature_in_trait : Step (Signature InTrait)
unfolding table skips is_path_keyword is_plain_name is_bool is_name
step_signature_in_trait = found_step (Signature InTrait) refl refl
    (weaken ((at "where") ∷ (marks "->") ∷ (marks "::") ∷ (arguments_stand AtType) ∷ (parentheses_stand AtType) ∷
    (no where_ends) ∷ (marks ",") ∷ a_lifetime ∷ (marks "+") ∷ bound_stands ∷ [])
    (maybe_seq (found_optional (at "const") (found_text "const") (λ us. refl, tt))
    (maybe_seq (found_optional (at "async") (found_text "async") (λ us. refl, tt))
    (maybe_seq (found_optional (at "unsafe") (found_called (found_text "unsafe")) (λ us. refl, tt))
    (maybe_seq (found_optional (at "extern") (found_ref Abi refl) (λ us. refl, tt))
    (found_seq (found_text "fn")
    (found_seq (found_called (found_word is_ident))
    (maybe_seq (maybe_called (maybe_ref Generics refl))
    (found_before (found_ref Parameters refl)
    (maybe_both (maybe_ref (ReturnType WithPlus) refl) (maybe_called (maybe_ref Where refl)) (
      (λ us. refl, tt),
      (
        (λ us. refl, tt),
        ((λ us. refl, tt), ((λ us. refl, tt), (((λ us. simp (reserved_where) refl) & tt), ((λ us. refl, tt), tt)))),
      ),
    )
    (λ s a. (
      a.1.1.1.1.1.1.1.1.1.0,
      (a.1.1.1.1.1.1.0, (a.1.1.1.1.1.1.1.0, (a.1.1.1.1.1.1.1.1.0, (a.1.1.1.1.1.0, (a.1.1.1.1.0, tt))))),
    ))) tt
    (λ s a. tt)) ((λ us. refl, tt), tt)) tt) tt) ((λ us. refl, tt), ((λ us. refl, tt), tt))) ((search), tt))
    ((search), tt)) ((search), tt))
    (λ s a. (
      a.0,
      (
        a.1.1.1.1.1.0,
        (
          a.1.1.1.1.1.1.0,
          (
            a.1.1.1.1.1.1.1.0,
            (a.1.1.1.1.1.1.1.1.0, (a.1.1.1.1.1.1.1.1.1.0, (a.1.1.0, (a.1.1.1.0, (a.1.1.1.1.0, (a.1.0, tt)))))),
          ),
        ),
      ),
    )))

pub step_signature_in_impl : Step (Signature InImpl)
unfolding table skips is_path_keyword is_plain_name is_bool is_name
step_signature_in_impl = found_step (Signature InImpl) refl refl
    (weaken ((at "where") ∷ (marks "->") ∷ (marks "::") ∷ (arguments_stand AtType) ∷ (parentheses_stand AtType) ∷
    (no where_ends) ∷ (marks ",") ∷ a_lifetime ∷ (marks "+") ∷ bound_stands ∷ [])
    (maybe_seq (found_optional (at "const") (found_text "const") (λ us. refl, tt))
    (maybe_seq (found_optional (at "async") (found_text "async") (λ us. refl, tt))
    (maybe_seq (found_optional (at "unsafe") (found_called (found_text "unsafe")) (λ us. refl, tt))
    (maybe_seq (found_optional (at "extern") (found_ref Abi refl) (λ us. refl, tt))
    (found_seq (found_text "fn")
    (found_seq (found_called (found_word is_ident))
    (maybe_seq (maybe_called (maybe_ref Generics refl))
    (found_before (found_ref Parameters refl)
    (maybe_both (maybe_ref (ReturnType WithPlus) refl) (maybe_called (maybe_ref Where refl)) (
      (λ us. refl, tt),
      (
        (λ us. refl, tt),
        ((λ us. refl, tt), ((λ us. refl, tt), (((λ us. simp (reserved_where) refl) & tt), ((λ us. refl, tt), tt)))),
      ),
    )
    (λ s a. (
      a.1.1.1.1.1.1.1.1.1.0,
      (a.1.1.1.1.1.1.0, (a.1.1.1.1.1.1.1.0, (a.1.1.1.1.1.1.1.1.0, (a.1.1.1.1.1.0, (a.1.1.1.1.0, tt))))),
    ))) tt
    (λ s a. tt)) ((λ us. refl, tt), tt)) tt) tt) ((λ us. refl, tt), ((λ us. refl, tt), tt))) ((search), tt))
    ((search), tt)) ((search), tt))
    (λ s a. (
      a.0,
      (
        a.1.1.1.1.1.0,
        (
          a.1.1.1.1.1.1.0,
          (
            a.1.1.1.1.1.1.1.0,
            (a.1.1.1.1.1.1.1.1.0, (a.1.1.1.1.1.1.1.1.1.0, (a.1.1.0, (a.1.1.1.0, (a.1.1.1.1.0, (a.1.0, tt)))))),
          ),
        ),
      ),
    )))

pub step_a_function_in_file : Step (AFunction InFile)
unfolding table skips is_path_keyword is_plain_name is_bool is_name
step_a_function_in_file = found_step (AFunction InFile) refl refl
    (found_seq (found_ref (Signature InFile) refl)
    (found_alt brace (found_called (found_ref Body refl)) found_mark (λ us. refl, tt) (λ us. refl, tt)) (
      (search),
      (
        (search),
        ((search), ((search), ((search), ((search), ((search), ((search), ((search), ((search), tt)))))))),
      ),
    ))

pub step_a_function_in_foreign : Step (AFunction InForeign)
unfolding table skips is_path_keyword is_plain_name is_bool is_name
step_a_function_in_foreign = found_step (AFunction InForeign) refl refl
    (found_seq (found_ref (Signature InForeign) refl)
    (found_alt brace (found_called (found_ref Body refl)) found_mark (λ us. refl, tt) (λ us. refl, tt)) (
      (search),
      (
        (search),
        ((search), ((search), ((search), ((search), ((search), ((search), ((search), ((search), tt)))))))),
      ),
    ))

pub step_a_function_in_trait : Step (AFunction InTrait)
unfolding table skips is_path_keyword is_plain_name is_bool is_name
step_a_function_in_trait = found_step (AFunction InTrait) refl refl
    (found_seq (found_ref (Signature InTrait) refl)
    (found_alt brace (found_called (found_ref Body refl)) found_mark (λ us. refl, tt) (λ us. refl, tt)) (
      (search),
      (
        (search),
        ((search), ((search), ((search), ((search), ((search), ((search), ((search), ((search), tt)))))))),
      ),
    ))

pub step_a_function_in_impl : Step (AFunction InImpl)
unfolding table skips is_path_keyword is_plain_name is_bool is_name
step_a_function_in_impl = found_step (AFunction InImpl) refl refl
    (found_seq (found_ref (Signature InImpl) refl)
    (found_alt brace (found_called (found_ref Body refl)) found_mark (λ us. refl, tt) (λ us. refl, tt)) (
      (search),
      (
        (search),
        ((search), ((search), ((search), ((search), ((search), ((search), ((search), ((search), tt)))))))),
      ),
    ))

pub step_a_type_alias_in_trait : Step (ATypeAlias InTrait)
unfolding table skips is_path_keyword is_plain_name is_bool is_name
step_a_type_alias_in_trait = found_step (ATypeAlias InTrait) refl refl
    (found_seq (found_text "type")
    (found_seq (found_called (found_word is_ident))
    (maybe_seq (maybe_called (maybe_ref Generics refl))
    (maybe_seq (maybe_called (maybe_ref BoundsColon refl))
    (maybe_seq (maybe_called
    (maybe_both (found_optional (marks "=")
    (found_seq found_mark (found_called (found_ref (AType WithPlus) refl)) tt) (λ us. refl, tt))
    (weaken_maybe ((at "where") ∷ (no where_ends) ∷ (marks ",") ∷ a_lifetime ∷ (marks "+") ∷ bound_stands ∷
    (marks "::") ∷ (arguments_stand AtType) ∷ (parentheses_stand AtType) ∷ (marks "->") ∷ (marks "=") ∷ [])
    (maybe_called (maybe_ref Where refl))
    (λ s a. (
      a.0,
      (
        a.1.0,
        (
          a.1.1.0,
          (
            a.1.1.1.0,
            (
              a.1.1.1.1.0,
              (
                a.1.1.1.1.1.0,
                (a.1.1.1.1.1.1.0, (a.1.1.1.1.1.1.1.0, (a.1.1.1.1.1.1.1.1.0, (a.1.1.1.1.1.1.1.1.1.0, tt)))),
              ),
            ),
          ),
        ),
      ),
    ))) (
      (λ us. refl, tt),
      (
        (λ us. refl, tt),
        (
          (λ us. refl, tt),
          (
            (λ us. refl, tt),
            ((λ us. refl, tt), (((λ us. simp (reserved_where) refl) & tt), ((λ us. refl, tt), tt))),
          ),
        ),
      ),
    )
    (λ s a. (
      a.1.1.1.1.1.1.1.1.1.1.0,
      (
        a.1.1.1.1.1.1.0,
        (
          a.1.1.1.1.1.1.1.0,
          (a.1.1.1.1.1.1.1.1.0, (a.1.1.1.1.1.1.1.1.1.0, (a.1.1.1.1.1.0, (a.1.1.1.1.0, tt)))),
        ),
      ),
    )))) found_mark (
      (λ us. refl, tt),
      (
        (λ us. refl, tt),
        (
          (λ us. refl, tt),
          (
            (λ us. refl, tt),
            (
              (λ us. refl, tt),
              (
                (λ us. refl, tt),
                ((λ us. refl, tt), ((λ us. refl, tt), ((λ us. refl, tt), ((λ us. refl, tt), ((λ us. refl, tt), tt))))),
              ),
            ),
          ),
        ),
      ),
    )) (
      (search),
      (
        ((λ us. refl) & (λ us. simp (reserved_where) refl) & (λ us. refl) & tt),
        ((search), ((search), ((search), ((search), ((search), tt))))),
      ),
    )) ((search), tt)) tt) tt)

pub step_a_type_alias_in_impl : Step (ATypeAlias InImpl)
unfolding table skips is_path_keyword is_plain_name is_bool is_name
step_a_type_alias_in_impl = found_step (ATypeAlias InImpl) refl refl
    (found_seq (found_text "type")
    (found_seq (found_called (found_word is_ident))
    (maybe_seq (maybe_called (maybe_ref Generics refl))
    (maybe_seq (maybe_called (maybe_ref BoundsColon refl))
    (maybe_seq (maybe_called
    (maybe_both (found_optional (marks "=")
    (found_seq found_mark (found_called (found_ref (AType WithPlus) refl)) tt) (λ us. refl, tt))
    (weaken_maybe ((at "where") ∷ (no where_ends) ∷ (marks ",") ∷ a_lifetime ∷ (marks "+") ∷ bound_stands ∷
    (marks "::") ∷ (arguments_stand AtType) ∷ (parentheses_stand AtType) ∷ (marks "->") ∷ (marks "=") ∷ [])
    (maybe_called (maybe_ref Where refl))
    (λ s a. (
      a.0,
      (
        a.1.0,
        (
          a.1.1.0,
          (
            a.1.1.1.0,
            (
              a.1.1.1.1.0,
              (
                a.1.1.1.1.1.0,
                (a.1.1.1.1.1.1.0, (a.1.1.1.1.1.1.1.0, (a.1.1.1.1.1.1.1.1.0, (a.1.1.1.1.1.1.1.1.1.0, tt)))),
              ),
            ),
          ),
        ),
      ),
    ))) (
      (λ us. refl, tt),
      (
        (λ us. refl, tt),
        (
          (λ us. refl, tt),
          (
            (λ us. refl, tt),
            ((λ us. refl, tt), (((λ us. simp (reserved_where) refl) & tt), ((λ us. refl, tt), tt))),
          ),
        ),
      ),
    )
    (λ s a. (
      a.1.1.1.1.1.1.1.1.1.1.0,
      (
        a.1.1.1.1.1.1.0,
        (
          a.1.1.1.1.1.1.1.0,
          (a.1.1.1.1.1.1.1.1.0, (a.1.1.1.1.1.1.1.1.1.0, (a.1.1.1.1.1.0, (a.1.1.1.1.0, tt)))),
        ),
      ),
    )))) found_mark (
      (λ us. refl, tt),
      (
        (λ us. refl, tt),
        (
          (λ us. refl, tt),
          (
            (λ us. refl, tt),
            (
              (λ us. refl, tt),
              (
                (λ us. refl, tt),
                ((λ us. refl, tt), ((λ us. refl, tt), ((λ us. refl, tt), ((λ us. refl, tt), ((λ us. refl, tt), tt))))),
              ),
            ),
          ),
        ),
      ),
    )) (
      (search),
      (
        ((λ us. refl) & (λ us. simp (reserved_where) refl) & (λ us. refl) & tt),
        ((search), ((search), ((search), ((search), ((search), tt))))),
      ),
    )) ((search), tt)) tt) tt)

pub step_item_macro_in_file : Step (ItemMacro InFile)
unfolding table skips is_path_keyword is_plain_name is_bool is_name
step_item_macro_in_file = found_step (ItemMacro InFile) refl refl
    (found_seq (found_ref (Path InModule) refl)
    (found_seq found_mark
    (maybe_seq (found_optional (an_ident or at "try")
    (found_called (found_alt (at "try") (found_text "try") (found_word is_ident) (λ us. refl, tt)
    ((λ cs h us. simp (ident_not (codes "try") cs reserved_try h) refl) & tt)))
    ((λ us. simp (reserved_try) refl) & (λ cs h us. simp (ident_not (codes "try") cs reserved_try h, h) refl) & tt))
    (found_alt brace (found_group fine_raw)
    (found_seq (found_alt parenthesis (found_group fine_raw) (found_group fine_raw) (λ us. refl, tt)
    (λ us. refl, tt)) found_mark tt) (λ us. refl, tt) (search)) ((search), tt)) tt) ((λ us. refl, tt), tt))

pub step_item_macro_in_foreign : Step (ItemMacro InForeign)
unfolding table skips is_path_keyword is_plain_name is_bool is_name
step_item_macro_in_foreign = found_step (ItemMacro InForeign) refl refl
    (found_seq (found_ref (Path InModule) refl)
    (found_seq found_mark
    (maybe_seq maybe_none
    (found_alt brace (found_group fine_raw)
    (found_seq (found_alt parenthesis (found_group fine_raw) (found_group fine_raw) (λ us. refl, tt)
    (λ us. refl, tt)) found_mark tt) (λ us. refl, tt) (search)) tt) tt) ((λ us. refl, tt), tt))

pub step_item_macro_in_trait : Step (ItemMacro InTrait)
unfolding table skips is_path_keyword is_plain_name is_bool is_name
step_item_macro_in_trait = found_step (ItemMacro InTrait) refl refl
    (found_seq (found_ref (Path InModule) refl)
    (found_seq found_mark
    (maybe_seq maybe_none
    (found_alt brace (found_group fine_raw)
    (found_seq (found_alt parenthesis (found_group fine_raw) (found_group fine_raw) (λ us. refl, tt)
    (λ us. refl, tt)) found_mark tt) (λ us. refl, tt) (search)) tt) tt) ((λ us. refl, tt), tt))

pub step_item_macro_in_impl : Step (ItemMacro InImpl)
unfolding table skips is_path_keyword is_plain_name is_bool is_name
step_item_macro_in_impl = found_step (ItemMacro InImpl) refl refl
    (found_seq (found_ref (Path InModule) refl)
    (found_seq found_mark
    (maybe_seq maybe_none
    (found_alt brace (found_group fine_raw)
    (found_seq (found_alt parenthesis (found_group fine_raw) (found_group fine_raw) (λ us. refl, tt)
    (λ us. refl, tt)) found_mark tt) (λ us. refl, tt) (search)) tt) tt) ((λ us. refl, tt), tt))

pub step_label : Step Label
unfolding table skips is_path_keyword is_plain_name is_bool is_name
step_label = found_step Label refl refl (found_seq found_lifetime found_mark tt)

pub step_body : Step Body
unfolding table skips is_path_keyword is_plain_name is_bool is_name
step_body = found_step Body refl refl
    (found_group (maybe_ended
    (maybe_both (maybe_ref InnerAttributes refl)
    (weaken_maybe ((no the_end) ∷ (marks "#" then marks "!") ∷ []) (maybe_ref Statements refl) (λ s a. (a.0, tt)))
    ((λ us. refl, (λ us h. h.2, (search))), tt) (λ s a. (a.1.0, tt))) (refl, (refl, tt))))

pub step_block : Step Block
unfolding table skips is_path_keyword is_plain_name is_bool is_name
step_block = found_step Block refl refl (found_group (maybe_ended (maybe_ref Statements refl) (refl, tt)))

pub step_a_module : Step AModule
unfolding table skips is_path_keyword is_plain_name is_bool is_name
step_a_module = found_step AModule refl refl
    (maybe_seq (found_optional (at "unsafe") (found_called (found_text "unsafe")) (λ us. refl, tt))
    (found_seq (found_text "mod")
    (found_seq (found_called
    (found_alt (at "try") (found_text "try") (found_word is_ident) (λ us. refl, tt)
    ((λ cs h us. simp (ident_not (codes "try") cs reserved_try h) refl) & tt)))
    (found_alt (marks ";") found_mark
    (found_group (maybe_ended
    (maybe_both (maybe_ref InnerAttributes refl)
    (weaken_maybe ((no the_end) ∷ (marks "#" then marks "!") ∷ []) (maybe_ref Items refl) (λ s a. (a.0, tt)))
    ((λ us h. h.2, (search)), tt) (λ s a. (a.1.0, tt))) (refl, (refl, tt)))) (λ us. refl, tt) (λ us. refl, tt)) tt)
    tt) ((λ us. refl, tt), tt))

pub step_a_foreign_module : Step AForeignModule
unfolding table skips is_path_keyword is_plain_name is_bool is_name
step_a_foreign_module = found_step AForeignModule refl refl
    (maybe_seq (found_optional (at "unsafe") (found_called (found_text "unsafe")) (λ us. refl, tt))
    (found_seq (found_ref Abi refl)
    (found_group (maybe_ended
    (maybe_both (maybe_ref InnerAttributes refl)
    (weaken_maybe ((no the_end) ∷ (marks "#" then marks "!") ∷ []) (maybe_ref ForeignItems refl) (λ s a. (a.0, tt)))
    ((λ us h. h.2, (search)), tt) (λ s a. (a.1.0, tt))) (refl, (refl, tt)))) ((λ us. refl, tt), tt))
    ((λ us. refl, tt), tt))

pub step_a_macro_definition : Step AMacroDefinition
unfolding table skips is_path_keyword is_plain_name is_bool is_name
step_a_macro_definition = found_step AMacroDefinition refl refl
    (found_seq (found_text "macro")
    (found_seq (found_word is_ident)
    (maybe_seq (found_optional parenthesis (found_group fine_raw) (λ us. refl, tt)) (found_group fine_raw)
    ((λ us. refl, tt), tt)) tt) tt)

pub step_a_trait : Step ATrait
unfolding table skips is_path_keyword is_plain_name is_bool is_name
step_a_trait = found_step ATrait refl refl
    (found_judged _ (maybe_seq (found_optional (at "unsafe") (found_called (found_text "unsafe")) (λ us. refl, tt))
    (maybe_seq (found_optional (at "auto") (found_called (found_text "auto")) (λ us. refl, tt))
    (found_seq (found_text "trait")
    (found_seq (found_called (found_word is_ident))
    (maybe_seq (maybe_called (maybe_ref Generics refl))
    (found_alt (marks "=")
    (found_seq (found_called found_mark)
    (maybe_seq (maybe_ref Bounds refl)
    (maybe_seq (maybe_called (maybe_ref Where refl)) found_mark (
      (λ us. refl, tt),
      (
        (λ us. refl, tt),
        (
          (λ us. refl, tt),
          (
            (λ us. refl, tt),
            (
              (λ us. refl, tt),
              (
                (λ us. refl, tt),
                ((λ us. refl, tt), ((λ us. refl, tt), ((λ us. refl, tt), ((λ us. refl, tt), tt)))),
              ),
            ),
          ),
        ),
      ),
    )) (
      ((λ us. simp (reserved_where) refl) & (λ us. refl) & tt),
      ((search), ((search), ((search), ((search), ((search), tt))))),
    )) tt)
    (maybe_seq (maybe_ref BoundsColon refl)
    (maybe_seq (maybe_called (maybe_ref Where refl))
    (found_group (maybe_ended
    (maybe_both (maybe_ref InnerAttributes refl)
    (weaken_maybe ((no the_end) ∷ (marks "#" then marks "!") ∷ []) (maybe_ref TraitItems refl) (λ s a. (a.0, tt)))
    ((λ us h. h.2, (search)), tt) (λ s a. (a.1.0, tt))) (refl, (refl, tt)))) (
      (λ us. refl, tt),
      (
        (λ us. refl, tt),
        (
          (λ us. refl, tt),
          (
            (λ us. refl, tt),
            (
              (λ us. refl, tt),
              (
                (λ us. refl, tt),
                ((λ us. refl, tt), ((λ us. refl, tt), ((λ us. refl, tt), ((λ us. refl, tt), tt)))),
              ),
            ),
          ),
        ),
      ),
    )) (
      (search),
      (
        ((λ us. simp (reserved_where) refl) & (λ us. refl) & tt),
        ((search), ((search), ((search), ((search), ((search), tt))))),
      ),
    )) (λ us. refl, tt) (search)) ((search), tt)) tt)
    tt) ((λ us. refl, tt), tt)) ((search), tt)))

pub step_a_const_trait : Step AConstTrait
unfolding table skips is_path_keyword is_plain_name is_bool is_name
step_a_const_trait = found_step AConstTrait refl refl (found_seq (found_text "const") (found_ref ATrait refl) tt)

pub step_a_restricted_trait : Step ARestrictedTrait
unfolding table skips is_path_keyword is_plain_name is_bool is_name
step_a_restricted_trait = found_step ARestrictedTrait refl refl
    (found_seq (found_text "impl")
    (found_seq found_restriction
    (maybe_seq (found_optional (at "const") (found_text "const") (λ us. refl, tt))
    (found_judged _ (maybe_seq (found_optional (at "unsafe") (found_called (found_text "unsafe")) (λ us. refl, tt))
    (maybe_seq (found_optional (at "auto") (found_called (found_text "auto")) (λ us. refl, tt))
    (found_seq (found_text "trait")
    (found_seq (found_called (found_word is_ident))
    (maybe_seq (maybe_called (maybe_ref Generics refl))
    (found_alt (marks "=")
    (found_seq (found_called found_mark)
    (maybe_seq (maybe_ref Bounds refl)
    (maybe_seq (maybe_called (maybe_ref Where refl)) found_mark (
      (λ us. refl, tt),
      (
        (λ us. refl, tt),
        (
          (λ us. refl, tt),
          (
            (λ us. refl, tt),
            (
              (λ us. refl, tt),
              (
                (λ us. refl, tt),
                ((λ us. refl, tt), ((λ us. refl, tt), ((λ us. refl, tt), ((λ us. refl, tt), tt)))),
              ),
            ),
          ),
        ),
      ),
    )) (
      ((λ us. simp (reserved_where) refl) & (λ us. refl) & tt),
      ((search), ((search), ((search), ((search), ((search), tt))))),
    )) tt)
    (maybe_seq (maybe_ref BoundsColon refl)
    (maybe_seq (maybe_called (maybe_ref Where refl))
    (found_group (maybe_ended
    (maybe_both (maybe_ref InnerAttributes refl)
    (weaken_maybe ((no the_end) ∷ (marks "#" then marks "!") ∷ []) (maybe_ref TraitItems refl) (λ s a. (a.0, tt)))
    ((λ us h. h.2, (search)), tt) (λ s a. (a.1.0, tt))) (refl, (refl, tt)))) (
      (λ us. refl, tt),
      (
        (λ us. refl, tt),
        (
          (λ us. refl, tt),
          (
            (λ us. refl, tt),
            (
              (λ us. refl, tt),
              (
                (λ us. refl, tt),
                ((λ us. refl, tt), ((λ us. refl, tt), ((λ us. refl, tt), ((λ us. refl, tt), tt)))),
              ),
            ),
          ),
        ),
      ),
    )) (
      (search),
      (
        ((λ us. simp (reserved_where) refl) & (λ us. refl) & tt),
        ((search), ((search), ((search), ((search), ((search), tt))))),
      ),
    )) (λ us. refl, tt) (search)) ((search), tt)) tt)
    tt) ((λ us. refl, tt), tt)) ((search), tt))) ((search), tt)) tt) tt)

pub step_a_file : Step AFile
unfolding table skips is_path_keyword is_plain_name is_bool is_name
step_a_file = maybe_step AFile refl refl
    (maybe_both (maybe_ref InnerAttributes refl)
    (weaken_maybe ((no the_end) ∷ (marks "#" then marks "!") ∷ []) (maybe_ref Items refl) (λ s a. (a.0, tt)))
    ((λ us h. h.2, (search)), tt) (λ s a. (a.1.0, tt)))
