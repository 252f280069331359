-- The steps of expressions, of those that go by first tokens alone. Written by tools/steps.py, from the entries.
use Rattle.laws_reread_kinds.proofs.Classes.{◌&◌}
use Rattle.laws_reread_kinds.proofs.FieldNames.{short_seen, no_short_seen}
use Rattle.laws_reread_kinds.proofs.Keywords.{reserved_in}
use Rattle.laws_reread_kinds.proofs.Parts.{found_alt, found_alt_by, found_before, found_called, found_ended}
use Rattle.laws_reread_kinds.proofs.Parts.{found_group, found_lifetime, found_literal, found_many, found_mark}
use Rattle.laws_reread_kinds.proofs.Parts.{found_never, found_optional, found_ref, found_seq, found_step, found_text}
use Rattle.laws_reread_kinds.proofs.Parts.{found_to_end, found_word, found_words, maybe_both, maybe_ended, maybe_ref}
use Rattle.laws_reread_kinds.proofs.Parts.{maybe_seq, weaken, weaken_maybe}
use Rattle.laws_reread_kinds.proofs.Readies.{Step}
use Rattle.std.specs.Prelude.{codes, refl, [], ◌∷◌}
use Rattle.syn_grammar.specs.Expressions.{postfix_stands}
use Rattle.syn_grammar.specs.Kind.{AMacro, AType, AnyPath, Arms, AtType, Block, Body, BoundLifetimes}
use Rattle.syn_grammar.specs.Kind.{ClosureParam, ExprAnd, ExprArray, ExprAssign, ExprAsync, ExprAttributed}
use Rattle.syn_grammar.specs.Kind.{ExprBitAnd, ExprBitOr, ExprBitXor, ExprBlock, ExprBreak, ExprCall, ExprCast}
use Rattle.syn_grammar.specs.Kind.{ExprClosure, ExprCompare, ExprConst, ExprContinue, ExprForLoop, ExprGroup}
use Rattle.syn_grammar.specs.Kind.{ExprIf, ExprIndex, ExprInfer, ExprLet, ExprLit, ExprLoop, ExprMacro, ExprMatch}
use Rattle.syn_grammar.specs.Kind.{ExprOr, ExprParen, ExprPath, ExprProduct, ExprRange, ExprRangeClosed}
use Rattle.syn_grammar.specs.Kind.{ExprRawAddr, ExprReference, ExprRepeat, ExprReturn, ExprShift, ExprStruct}
use Rattle.syn_grammar.specs.Kind.{ExprSum, ExprTry, ExprTryBlock, ExprTypedClosure, ExprUnary, ExprUnsafe}
use Rattle.syn_grammar.specs.Kind.{ExprWhile, ExprYield, Expression, FieldValue, FieldValues, InCondition}
use Rattle.syn_grammar.specs.Kind.{InExpression, InnerAttributes, Label, Member, OnePattern, OuterAttribute}
use Rattle.syn_grammar.specs.Kind.{OuterAttributes, Pattern, Plain, ReturnType, WithPlus, WithoutPlus}
use Rattle.syn_grammar.specs.Look.{no, an_ident, a_quoted, a_lifetime, the_end, ◌then◌, ◌or◌}
use Rattle.syn_grammar.specs.Paths.{arguments_stand, parentheses_stand}
use Rattle.syn_grammar.specs.Patterns.{range_bound_stands, range_end_stands}
use Rattle.syn_grammar.specs.Ranks.{skips}
use Rattle.syn_grammar.specs.Say.{at, marks, parenthesis, brace}
use Rattle.syn_grammar.specs.Table.{table}
use Rattle.syn_grammar.specs.Types.{bound_stands}
use Rattle.syn_grammar.specs.Words.{is_ident, any_text, is_name, is_path_keyword, is_plain_name, is_bool}

pub step_expr_lit : Step ExprLit
unfolding table skips is_path_keyword is_plain_name is_bool is_name
step_expr_lit = found_step ExprLit refl refl
    (found_alt (a_quoted any_text) (found_literal any_text) (found_words (codes "true" ∷ codes "false" ∷ []))
    (λ cs h us. refl, tt) (search))

pub step_expr_path : Step ExprPath
unfolding table skips is_path_keyword is_plain_name is_bool is_name
step_expr_path = found_step ExprPath refl refl (found_ref (AnyPath InExpression) refl)

pub step_expr_macro : Step ExprMacro
unfolding table skips is_path_keyword is_plain_name is_bool is_name
step_expr_macro = found_step ExprMacro refl refl (found_ref AMacro refl)

pub step_expr_paren : Step ExprParen
unfolding table skips is_path_keyword is_plain_name is_bool is_name
step_expr_paren = found_step ExprParen refl refl
    (found_group (found_to_end (found_ref (Expression Plain) refl) (search) (λ ts. (refl, tt)) (refl, tt)))

pub step_expr_array : Step ExprArray
unfolding table skips is_path_keyword is_plain_name is_bool is_name
step_expr_array = found_step ExprArray refl refl
    (found_group (found_to_end (found_ref (Expression Plain) refl) (search) (λ ts. (refl, tt)) (refl, tt)))

pub step_expr_repeat : Step ExprRepeat
unfolding table skips is_path_keyword is_plain_name is_bool is_name
step_expr_repeat = found_step ExprRepeat refl refl
    (found_group (found_ended
    (found_seq (found_ref (Expression Plain) refl) (found_seq found_mark (found_ref (Expression Plain) refl) tt)
    ((λ us. refl, tt), tt)) (refl, tt)))

pub step_expr_group : Step ExprGroup
unfolding table skips is_path_keyword is_plain_name is_bool is_name
step_expr_group = found_step ExprGroup refl refl
    (found_group (found_ended (found_ref (Expression Plain) refl) (refl, tt)))

pub step_expr_infer : Step ExprInfer
unfolding table skips is_path_keyword is_plain_name is_bool is_name
step_expr_infer = found_step ExprInfer refl refl (found_text "_")

pub step_expr_block : Step ExprBlock
unfolding table skips is_path_keyword is_plain_name is_bool is_name
step_expr_block = found_step ExprBlock refl refl
    (maybe_seq (found_optional a_lifetime (found_called (found_ref Label refl)) (λ cs us. refl, tt))
    (found_ref Body refl) ((λ us. refl, tt), tt))

pub step_expr_unsafe : Step ExprUnsafe
unfolding table skips is_path_keyword is_plain_name is_bool is_name
step_expr_unsafe = found_step ExprUnsafe refl refl (found_seq (found_text "unsafe") (found_ref Body refl) tt)

pub step_expr_async : Step ExprAsync
unfolding table skips is_path_keyword is_plain_name is_bool is_name
step_expr_async = found_step ExprAsync refl refl
    (found_seq (found_text "async")
    (maybe_seq (found_optional (at "move") (found_text "move") (λ us. refl, tt)) (found_ref Block refl)
    ((λ us. refl, tt), tt)) tt)

pub step_expr_const : Step ExprConst
unfolding table skips is_path_keyword is_plain_name is_bool is_name
step_expr_const = found_step ExprConst refl refl (found_seq (found_text "const") (found_ref Body refl) tt)

pub step_expr_try_block : Step ExprTryBlock
unfolding table skips is_path_keyword is_plain_name is_bool is_name
step_expr_try_block = found_step ExprTryBlock refl refl (found_seq (found_text "try") (found_ref Block refl) tt)

pub step_expr_if : Step ExprIf
unfolding table skips is_path_keyword is_plain_name is_bool is_name
step_expr_if = found_step ExprIf refl refl
    (weaken ((at "else") ∷ [])
    (found_seq (found_text "if")
    (found_seq (found_called (found_ref (Expression InCondition) refl))
    (found_before (found_ref Block refl)
    (found_optional (at "else")
    (found_seq (found_text "else")
    (found_alt (at "if") (found_ref ExprIf refl) (weaken ((at "else") ∷ []) (found_ref Block refl) (λ s a. tt))
    (λ us. refl, tt) (λ us. refl, tt)) tt) (λ us. refl, tt)) tt (λ s a. tt)) ((λ us. refl, tt), tt)) tt)
    (λ s a. (a.0, (a.0, tt))))

pub step_expr_match : Step ExprMatch
unfolding table skips is_path_keyword is_plain_name is_bool is_name
step_expr_match = found_step ExprMatch refl refl
    (found_seq (found_text "match")
    (found_seq (found_called (found_ref (Expression InCondition) refl))
    (found_group (maybe_ended
    (maybe_both (maybe_ref InnerAttributes refl)
    (weaken_maybe ((no the_end) ∷ (marks "#" then marks "!") ∷ []) (maybe_ref Arms refl) (λ s a. (a.0, tt)))
    ((search), tt) (λ s a. (a.1.0, tt))) (refl, (refl, tt)))) ((λ us. refl, tt), tt)) tt)

pub step_expr_loop : Step ExprLoop
unfolding table skips is_path_keyword is_plain_name is_bool is_name
step_expr_loop = found_step ExprLoop refl refl
    (maybe_seq (found_optional a_lifetime (found_called (found_ref Label refl)) (λ cs us. refl, tt))
    (found_seq (found_text "loop") (found_ref Body refl) tt) ((λ us. refl, tt), tt))

pub step_expr_while : Step ExprWhile
unfolding table skips is_path_keyword is_plain_name is_bool is_name
step_expr_while = found_step ExprWhile refl refl
    (maybe_seq (found_optional a_lifetime (found_called (found_ref Label refl)) (λ cs us. refl, tt))
    (found_seq (found_text "while")
    (found_seq (found_called (found_ref (Expression InCondition) refl)) (found_ref Body refl) ((λ us. refl, tt), tt))
    tt) ((λ us. refl, tt), tt))

pub step_expr_for_loop : Step ExprForLoop
unfolding table skips is_path_keyword is_plain_name is_bool is_name
step_expr_for_loop = found_step ExprForLoop refl refl
    (maybe_seq (found_optional a_lifetime (found_called (found_ref Label refl)) (λ cs us. refl, tt))
    (found_seq (found_text "for")
    (found_seq (found_ref Pattern refl)
    (found_seq (found_text "in")
    (found_seq (found_called (found_ref (Expression InCondition) refl)) (found_ref Body refl) ((λ us. refl, tt), tt))
    tt) (
      (λ us. refl, tt),
      (
        (λ us. refl, tt),
        (
          (λ us. refl, tt),
          (
            (λ us. refl, tt),
            (
              (λ us. refl, tt),
              (
                (λ us. refl, tt),
                (
                  (λ us. refl, tt),
                  ((λ us. refl, tt), ((λ us. refl, tt), (((λ us. simp (reserved_in) refl) & tt), tt))),
                ),
              ),
            ),
          ),
        ),
      ),
    )) tt)
    ((λ us. refl, tt), tt))

pub step_expr_continue : Step ExprContinue
unfolding table skips is_path_keyword is_plain_name is_bool is_name
step_expr_continue = found_step ExprContinue refl refl
    (found_before (found_text "continue") (found_optional a_lifetime found_lifetime (λ cs us. refl, tt)) tt
    (λ s a. tt))

pub step_expr_typed_closure : Step ExprTypedClosure
unfolding table skips is_path_keyword is_plain_name is_bool is_name
step_expr_typed_closure = found_step ExprTypedClosure refl refl
    (found_seq (maybe_seq (found_optional (at "for") (found_ref BoundLifetimes refl) (λ us. refl, tt))
    (maybe_seq (found_optional (at "const") (found_text "const") (λ us. refl, tt))
    (maybe_seq (found_optional (at "static") (found_text "static") (λ us. refl, tt))
    (maybe_seq (found_optional (at "async") (found_text "async") (λ us. refl, tt))
    (maybe_seq (found_optional (at "move") (found_text "move") (λ us. refl, tt))
    (found_seq found_mark
    (maybe_seq (found_many (marks "|") (found_ref ClosureParam refl) (search)
    (λ ts. (
      refl,
      (
        refl,
        (
          refl,
          (refl, (refl, (refl, (refl, (refl, (refl, (refl, (refl, (refl, (refl, (refl, (refl, tt)))))))))))),
        ),
      ),
    )))
    found_mark (
      (λ us. refl, tt),
      (
        (λ us. refl, tt),
        (
          (λ us. refl, tt),
          (
            (λ us. refl, tt),
            (
              (λ us. refl, tt),
              (
                (λ us. refl, tt),
                (
                  (λ us. refl, tt),
                  (
                    (λ us. refl, tt),
                    (
                      (λ us. refl, tt),
                      (
                        (λ us. refl, tt),
                        (
                          (λ us. refl, tt),
                          (
                            (λ us. refl, tt),
                            (
                              (λ us. refl, tt),
                              ((λ us. refl, tt), ((λ us. refl, tt), ((λ us. refl, tt), ((λ us. refl, tt), tt)))),
                            ),
                          ),
                        ),
                      ),
                    ),
                  ),
                ),
              ),
            ),
          ),
        ),
      ),
    )) tt)
    ((λ us. refl, tt), tt)) ((search), tt)) ((search), tt)) ((search), tt)) ((search), tt))
    (maybe_seq (maybe_ref (ReturnType WithPlus) refl) (found_ref Block refl) (
      (λ us. refl, tt),
      (
        (λ us. refl, tt),
        ((λ us. refl, tt), ((λ us. refl, tt), ((λ us. refl, tt), ((λ us. refl, tt), tt)))),
      ),
    )) tt)

pub step_expr_struct : Step ExprStruct
unfolding table skips is_path_keyword is_plain_name is_bool is_name
step_expr_struct = found_step ExprStruct refl refl (found_ref FieldValues refl)

pub step_expr_call : Step ExprCall
unfolding table skips is_path_keyword is_plain_name is_bool is_name
step_expr_call = found_step ExprCall refl refl
    (found_group (found_to_end (found_ref (Expression Plain) refl) (search) (λ ts. (refl, tt)) (refl, tt)))

pub step_expr_index : Step ExprIndex
unfolding table skips is_path_keyword is_plain_name is_bool is_name
step_expr_index = found_step ExprIndex refl refl
    (found_group (found_ended (found_ref (Expression Plain) refl) (refl, tt)))

pub step_expr_try : Step ExprTry
unfolding table skips is_path_keyword is_plain_name is_bool is_name
step_expr_try = found_step ExprTry refl refl found_mark

pub step_expr_cast : Step ExprCast
unfolding table skips is_path_keyword is_plain_name is_bool is_name
step_expr_cast = found_step ExprCast refl refl
    (found_seq (found_text "as")
    (found_before (found_called (found_ref (AType WithoutPlus) refl))
    (weaken_maybe (postfix_stands ∷ (marks "::") ∷ (arguments_stand AtType) ∷ (parentheses_stand AtType) ∷
    (marks "->") ∷ []) (found_optional postfix_stands (found_never {ls = []}) tt) (λ s a. (a.0, tt)))
    (tt, (tt, (tt, (tt, tt)))) (λ s a. (a.1.0, (a.1.1.0, (a.1.1.1.0, (a.1.1.1.1.0, tt)))))) tt)

pub step_expr_attributed : Step ExprAttributed
unfolding table skips is_path_keyword is_plain_name is_bool is_name
step_expr_attributed = found_step ExprAttributed refl refl
    (found_before (found_ref OuterAttribute refl) (maybe_ref OuterAttributes refl) tt (λ s a. tt))

pub step_expr_unary : Step ExprUnary
unfolding table skips is_path_keyword is_plain_name is_bool is_name
step_expr_unary = found_step ExprUnary refl refl
    (found_alt (marks "*") found_mark
    (found_alt (marks "!") found_mark (found_alt (marks "-") found_mark found_never (λ us. refl, tt) tt)
    (λ us. refl, tt) (λ us. refl, tt)) (λ us. refl, tt) (search))

pub step_expr_raw_addr : Step ExprRawAddr
unfolding table skips is_path_keyword is_plain_name is_bool is_name
step_expr_raw_addr = found_step ExprRawAddr refl refl
    (found_seq found_mark (found_seq (found_text "raw") (found_words (codes "const" ∷ codes "mut" ∷ [])) tt) tt)

pub step_expr_reference : Step ExprReference
unfolding table skips is_path_keyword is_plain_name is_bool is_name
step_expr_reference = found_step ExprReference refl refl
    (found_before found_mark (found_optional (at "mut") (found_text "mut") (λ us. refl, tt)) tt (λ s a. tt))

pub step_expr_let : Step ExprLet
unfolding table skips is_path_keyword is_plain_name is_bool is_name
step_expr_let = found_step ExprLet refl refl
    (found_seq (found_text "let")
    (found_seq (found_ref Pattern refl) found_mark (
      (λ us. refl, tt),
      (
        (λ us. refl, tt),
        (
          (λ us. refl, tt),
          (
            (λ us. refl, tt),
            (
              (λ us. refl, tt),
              (
                (λ us. refl, tt),
                ((λ us. refl, tt), ((λ us. refl, tt), ((λ us. refl, tt), ((λ us. refl, tt), tt)))),
              ),
            ),
          ),
        ),
      ),
    )) tt)

pub step_expr_break : Step ExprBreak
unfolding table skips is_path_keyword is_plain_name is_bool is_name
step_expr_break = found_step ExprBreak refl refl
    (found_before (found_text "break")
    (found_optional a_lifetime
    (found_before (found_called found_lifetime) (found_optional (marks ":") (found_never {ls = []}) tt) tt
    (λ s a. tt)) (λ cs us. refl, tt)) tt (λ s a. tt))

pub step_expr_return : Step ExprReturn
unfolding table skips is_path_keyword is_plain_name is_bool is_name
step_expr_return = found_step ExprReturn refl refl (found_text "return")

pub step_expr_yield : Step ExprYield
unfolding table skips is_path_keyword is_plain_name is_bool is_name
step_expr_yield = found_step ExprYield refl refl (found_text "yield")

pub step_expr_closure : Step ExprClosure
unfolding table skips is_path_keyword is_plain_name is_bool is_name
step_expr_closure = found_step ExprClosure refl refl
    (maybe_seq (found_optional (at "for") (found_ref BoundLifetimes refl) (λ us. refl, tt))
    (maybe_seq (found_optional (at "const") (found_text "const") (λ us. refl, tt))
    (maybe_seq (found_optional (at "static") (found_text "static") (λ us. refl, tt))
    (maybe_seq (found_optional (at "async") (found_text "async") (λ us. refl, tt))
    (maybe_seq (found_optional (at "move") (found_text "move") (λ us. refl, tt))
    (found_seq found_mark
    (maybe_seq (found_many (marks "|") (found_ref ClosureParam refl) (search)
    (λ ts. (
      refl,
      (
        refl,
        (
          refl,
          (refl, (refl, (refl, (refl, (refl, (refl, (refl, (refl, (refl, (refl, (refl, (refl, tt)))))))))))),
        ),
      ),
    )))
    found_mark (
      (λ us. refl, tt),
      (
        (λ us. refl, tt),
        (
          (λ us. refl, tt),
          (
            (λ us. refl, tt),
            (
              (λ us. refl, tt),
              (
                (λ us. refl, tt),
                (
                  (λ us. refl, tt),
                  (
                    (λ us. refl, tt),
                    (
                      (λ us. refl, tt),
                      (
                        (λ us. refl, tt),
                        (
                          (λ us. refl, tt),
                          (
                            (λ us. refl, tt),
                            (
                              (λ us. refl, tt),
                              ((λ us. refl, tt), ((λ us. refl, tt), ((λ us. refl, tt), ((λ us. refl, tt), tt)))),
                            ),
                          ),
                        ),
                      ),
                    ),
                  ),
                ),
              ),
            ),
          ),
        ),
      ),
    )) tt)
    ((λ us. refl, tt), tt)) ((search), tt)) ((search), tt)) ((search), tt)) ((search), tt))

pub step_expr_range : Step ExprRange
unfolding table skips is_path_keyword is_plain_name is_bool is_name
step_expr_range = found_step ExprRange refl refl found_mark

pub step_expr_range_closed : Step ExprRangeClosed
unfolding table skips is_path_keyword is_plain_name is_bool is_name
step_expr_range_closed = found_step ExprRangeClosed refl refl found_mark

pub step_expr_assign : Step ExprAssign
unfolding table skips is_path_keyword is_plain_name is_bool is_name
step_expr_assign = found_step ExprAssign refl refl
    (found_alt (marks "=") found_mark
    (found_alt (marks "+=") found_mark
    (found_alt (marks "-=") found_mark
    (found_alt (marks "*=") found_mark
    (found_alt (marks "/=") found_mark
    (found_alt (marks "%=") found_mark
    (found_alt (marks "^=") found_mark
    (found_alt (marks "&=") found_mark
    (found_alt (marks "|=") found_mark
    (found_alt (marks "<<=") found_mark (found_alt (marks ">>=") found_mark found_never (λ us. refl, tt) tt)
    (λ us. refl, tt) (λ us. refl, tt)) (λ us. refl, tt) (search)) (λ us. refl, tt) (search)) (λ us. refl, tt)
    (search)) (λ us. refl, tt) (search)) (λ us. refl, tt) (search)) (λ us. refl, tt) (search)) (λ us. refl, tt)
    (search)) (λ us. refl, tt) (search)) (λ us. refl, tt) (search))

pub step_expr_or : Step ExprOr
unfolding table skips is_path_keyword is_plain_name is_bool is_name
step_expr_or = found_step ExprOr refl refl found_mark

pub step_expr_and : Step ExprAnd
unfolding table skips is_path_keyword is_plain_name is_bool is_name
step_expr_and = found_step ExprAnd refl refl found_mark

pub step_expr_compare : Step ExprCompare
unfolding table skips is_path_keyword is_plain_name is_bool is_name
step_expr_compare = found_step ExprCompare refl refl
    (found_alt (marks "==") found_mark
    (found_alt (marks "<=") found_mark
    (found_alt (marks "!=") found_mark
    (found_alt (marks ">=") found_mark
    (found_alt (marks "<") found_mark (found_alt (marks ">") found_mark found_never (λ us. refl, tt) tt)
    (λ us. refl, tt) (λ us. refl, tt)) (λ us. refl, tt) (search)) (λ us. refl, tt) (search)) (λ us. refl, tt)
    (search)) (λ us. refl, tt) (search))

pub step_expr_bit_or : Step ExprBitOr
unfolding table skips is_path_keyword is_plain_name is_bool is_name
step_expr_bit_or = found_step ExprBitOr refl refl found_mark

pub step_expr_bit_xor : Step ExprBitXor
unfolding table skips is_path_keyword is_plain_name is_bool is_name
step_expr_bit_xor = found_step ExprBitXor refl refl found_mark

pub step_expr_bit_and : Step ExprBitAnd
unfolding table skips is_path_keyword is_plain_name is_bool is_name
step_expr_bit_and = found_step ExprBitAnd refl refl found_mark

pub step_expr_shift : Step ExprShift
unfolding table skips is_path_keyword is_plain_name is_bool is_name
step_expr_shift = found_step ExprShift refl refl
    (found_alt (marks "<<") found_mark (found_alt (marks ">>") found_mark found_never (λ us. refl, tt) tt)
    (λ us. refl, tt) (λ us. refl, tt))

pub step_expr_sum : Step ExprSum
unfolding table skips is_path_keyword is_plain_name is_bool is_name
step_expr_sum = found_step ExprSum refl refl
    (found_alt (marks "+") found_mark (found_alt (marks "-") found_mark found_never (λ us. refl, tt) tt)
    (λ us. refl, tt) (λ us. refl, tt))

pub step_expr_product : Step ExprProduct
unfolding table skips is_path_keyword is_plain_name is_bool is_name
step_expr_product = found_step ExprProduct refl refl
    (found_alt (marks "*") found_mark
    (found_alt (marks "/") found_mark (found_alt (marks "%") found_mark found_never (λ us. refl, tt) tt)
    (λ us. refl, tt) (λ us. refl, tt)) (λ us. refl, tt) (search))

pub step_field_value : Step FieldValue
unfolding table skips is_path_keyword is_plain_name is_bool is_name
step_field_value = found_step FieldValue refl refl
    (maybe_seq (maybe_ref OuterAttributes refl)
    (found_alt_by (an_ident then no (marks ":"))
    (weaken ((no (the_end or marks "," or marks ";" or marks "=>")) ∷ (marks ":") ∷ []) (found_word is_ident)
    (λ s a. tt)) (weaken ((no (the_end or marks "," or marks ";" or marks "=>")) ∷ (marks ":") ∷ [])
    (found_seq (found_ref Member refl) (found_seq found_mark (found_called (found_ref (Expression Plain) refl)) tt)
    tt) (λ s a. (a.0, tt))) (λ x s d c. short_seen x s d c.1.0) (λ x s d c. no_short_seen x s d)) ((search), tt))

pub step_closure_param : Step ClosureParam
unfolding table skips is_path_keyword is_plain_name is_bool is_name
step_closure_param = found_step ClosureParam refl refl
    (weaken ((marks ":") ∷ (marks "::") ∷ (arguments_stand AtType) ∷ (parentheses_stand AtType) ∷ (marks "..") ∷
    (marks "->") ∷ (marks "!") ∷ (marks "@") ∷ range_end_stands ∷ parenthesis ∷ brace ∷
    (arguments_stand InExpression) ∷ bound_stands ∷ (marks "+") ∷ range_bound_stands ∷ [])
    (maybe_seq (maybe_ref OuterAttributes refl)
    (found_before (found_ref OnePattern refl)
    (weaken_maybe ((marks ":") ∷ (marks "::") ∷ (arguments_stand AtType) ∷ (parentheses_stand AtType) ∷ (marks "->")
    ∷ bound_stands ∷ (marks "+") ∷ (marks "..") ∷ (marks "!") ∷ (marks "@") ∷ range_end_stands ∷ parenthesis ∷ brace
    ∷ (arguments_stand InExpression) ∷ range_bound_stands ∷ [])
    (found_optional (marks ":") (found_seq found_mark (found_ref (AType WithPlus) refl) tt) (λ us. refl, tt))
    (λ s a. (a.0, (a.1.0, (a.1.1.0, (a.1.1.1.0, (a.1.1.1.1.0, (a.1.1.1.1.1.0, (a.1.1.1.1.1.1.0, tt))))))))) (
      (λ us. refl, tt),
      (
        (λ us. refl, tt),
        (
          (λ us. refl, tt),
          (
            (λ us. refl, tt),
            ((λ us. refl, tt), ((λ us. refl, tt), ((λ us. refl, tt), ((λ us. refl, tt), ((λ us. refl, tt), tt))))),
          ),
        ),
      ),
    )
    (λ s a. (
      a.1.1.1.1.1.1.1.0,
      (
        a.1.1.1.1.1.1.1.1.0,
        (
          a.1.1.1.1.1.1.1.1.1.0,
          (
            a.1.1.1.1.1.1.1.1.1.1.0,
            (
              a.1.1.1.1.1.1.1.1.1.1.1.0,
              (
                a.1.1.1.1.1.1.1.1.1.1.1.1.0,
                (a.1.0, (a.1.1.1.1.1.1.1.1.1.1.1.1.1.0, (a.1.1.1.1.1.1.1.1.1.1.1.1.1.1.0, tt))),
              ),
            ),
          ),
        ),
      ),
    ))) ((search), tt))
    (λ s a. (
      a.0,
      (
        a.1.0,
        (
          a.1.1.0,
          (
            a.1.1.1.0,
            (
              a.1.1.1.1.1.0,
              (
                a.1.1.1.1.1.1.1.1.1.1.1.1.0,
                (
                  a.1.1.1.1.1.1.1.1.1.1.1.1.1.0,
                  (
                    a.1.1.1.1.0,
                    (
                      a.1.1.1.1.1.1.0,
                      (
                        a.1.1.1.1.1.1.1.0,
                        (
                          a.1.1.1.1.1.1.1.1.0,
                          (
                            a.1.1.1.1.1.1.1.1.1.0,
                            (
                              a.1.1.1.1.1.1.1.1.1.1.0,
                              (
                                a.1.1.1.1.1.1.1.1.1.1.1.0,
                                (a.1.1.1.1.1.1.1.1.1.1.1.1.1.1.0, tt),
                              ),
                            ),
                          ),
                        ),
                      ),
                    ),
                  ),
                ),
              ),
            ),
          ),
        ),
      ),
    )))
