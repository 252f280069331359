-- Covered expressions there are: -(1 + x), as it is read; m!() in a condition; m!{} before another
-- statement; || 1; 1 as _ < 1; #[unsafe] 1; and as statements 1; and #[unsafe] 1; and
-- #[unsafe] ..; , whose range stands in parentheses then; and #[unsafe] 1 && #[unsafe] .. == 1; , whose first
-- attribute stands inside parentheses then: (#[unsafe] 1 && #[unsafe] (..)) == 1; . One statement and one item, 1; and
-- struct a; , are read back by their own readers.
use Rattle.std.proofs.Common.{◌≡◌, List, [], ◌∷◌, ◌++◌, refl, inl, inr}
use Rattle.std.specs.Prelude.{true, codes}
use Rattle.syn_grammar.specs.Kind.{AMacro, AStatement, Delimited, ExprMacro, InCondition, InModule, Path, Plain}
use Rattle.syn_grammar.specs.Kind.{AStruct, ExprAnd, ExprRange, Expression, Generics, ItemStruct, OneStatement}
use Rattle.syn_grammar.specs.Kind.{Visibility, Where}
use Rattle.syn_grammar.specs.Kind.{ExprClosure, ExprLit, InStatement, Segments, AType, ExprAttributed, ExprCast}
use Rattle.syn_grammar.specs.Kind.{ExprCompare, InferType, Meta, OuterAttribute, OuterAttributes, WithoutPlus}
use Rattle.syn_grammar.specs.Name.{same_part, the_attributes, the_expression, the_generics, the_item, the_name}
use Rattle.syn_grammar.specs.Name.{the_semicolon, the_type, the_visibility, the_where}
use Rattle.proc_macro2.specs.Token.{Token, Opens, Closes, Literal, Punct}
use Rattle.proc_macro2.specs.declared.delimiter.Delimiter.TheVariants.{Parenthesis, Brace, Bracket}
use Rattle.rust_leaf.specs.declared.punct.Spacing.TheVariants.{Alone as Apart, Joint}
use Rattle.syn_grammar.specs.Words.{is_bool, is_name, is_path_keyword, is_plain_name}
use Rattle.rust_leaf.specs.Keywords.{is_reserved}
use Rattle.syn_grammar.specs.Gram.{ref}
use Rattle.syn_grammar.specs.Table.{table}
use Rattle.syn_grammar.specs.Derives.{Derives}
use Rattle.laws_reread_kinds.specs.After.{EndsThere}
use Rattle.laws_reread.proofs.Positions.{read_ended_in, read_in_position}
use Rattle.syn_grammar.specs.Tree.{Tree, ALiteral, AMark, End, Front, Alone, AWord, First, Group, Nil, Node, Pair}
use Rattle.syn_grammar.specs.Tree.{Again, Back, Called, Infix, Raw, Second, Whole, flat}
use Rattle.syn_grammar.specs.Forms.{back, chains, front, has_right, inside, level, stands_left, takes}
use Rattle.syn_grammar.specs.Kept.{held, kept}
use Rattle.syn_grammar.specs.Look.{sees}
use Rattle.syn_grammar.specs.Say.{parenthesis}
use Rattle.syn_grammar.specs.Normal.{passed, place_of, stands_behind, normal, normal_in}
use Rattle.syn_grammar.specs.Parens.{may_lack}
use Rattle.syn_grammar.specs.Read.{IsRead}
use Rattle.laws_reread_kinds.specs.Covered.{all_covered, has_step, has_form_step}
use Rattle.laws_reread.specs.Asked.{is_covered}
use Rattle.laws_reread_expressions.proofs.Examples.{minus, sum_back}
use Rattle.laws_reread.proofs.ReadBack.{read_back}

abbrev printed : Tree
printed = normal_in Plain (Node (Expression Plain) (Whole minus))

covered : is_covered printed ≡ true
unfolding has_step has_form_step passed stands_behind level has_right may_lack takes inside chains
covered = refl

-- so it is read back
pub minus_back : IsRead (Expression Plain) (flat (normal (kept printed)) ++ []) (normal (kept printed)) []
minus_back = read_back (Expression Plain) printed [] [] sum_back covered (inl (refl, tt))

abbrev call_of : Tree → Tree
call_of group =
    Alone ExprMacro
    (Node AMacro
    (Pair (Node (Path InModule) (Pair (Second Nil)
    (Node (Segments InModule) (Second (Pair (AWord (codes "m")) (Second (Second (Second Nil))))))))
    (Pair (AMark 33 [] Apart) (Node Delimited group))))

abbrev call : Tree
call = call_of (First (Group Parenthesis (Raw [])))

abbrev body : List Token
body = Opens Brace ∷ Closes Brace ∷ []

call_read : Derives (Node (Expression InCondition) (Whole call)) (ref (Expression InCondition)) body
unfolding table front back has_right is_bool is_name is_plain_name is_path_keyword is_reserved level
call_read = (
  refl,
  (
    (refl, refl),
    (
      refl,
      (
        refl,
        (
          (refl, ((refl, tt), (refl, (refl, (refl, (refl, (refl, (refl, tt)))))))),
          ((refl, refl), (refl, (refl, (refl, (refl, refl))))),
        ),
      ),
      refl,
    ),
  ),
)

call_parts : all_covered call ≡ true
unfolding has_step has_form_step
call_parts = refl

-- so it is read back before a brace
pub call_back :
    IsRead (Expression InCondition)
    (flat (normal_in InCondition (kept (Node (Expression InCondition) (Whole call)))) ++ body)
    (normal_in InCondition (kept (Node (Expression InCondition) (Whole call)))) body
call_back = read_in_position InCondition call body body call_read (λ e. refl) call_parts refl

-- and m!{} is, as a statement, before - 1
abbrev statement : Tree
statement = call_of (Second (First (Group Brace (Raw []))))

abbrev next : List Token
next = Punct 45 Apart ∷ Literal (codes "1") ∷ []

statement_read : Derives (Node (Expression InStatement) (Whole statement)) (ref (Expression InStatement)) next
unfolding table front back has_right is_bool is_name is_plain_name is_path_keyword is_reserved level takes stands_left
statement_read = (
  refl,
  (
    (refl, refl),
    (
      refl,
      (
        refl,
        (
          (refl, ((refl, tt), (refl, (refl, (refl, (refl, (refl, (refl, tt)))))))),
          ((refl, refl), (refl, (refl, (refl, (refl, (refl, refl)))))),
        ),
      ),
      refl,
    ),
  ),
)

statement_parts : all_covered statement ≡ true
unfolding has_step has_form_step
statement_parts = refl

statement_ends : EndsThere InStatement (normal_in InStatement (kept (Node (Expression InStatement) (Whole statement))))
    next
unfolding held passed stands_behind may_lack
statement_ends = (refl, (refl, (refl, (refl, tt))))

pub statement_back :
    IsRead (Expression InStatement)
    (flat (normal_in InStatement (kept (Node (Expression InStatement) (Whole statement)))) ++ next)
    (normal_in InStatement (kept (Node (Expression InStatement) (Whole statement)))) next
statement_back =
    read_ended_in InStatement statement next next statement_read statement_parts statement_ends

-- and || 1 is, whose bars then stand apart
abbrev closure : Tree
closure =
    Front ExprClosure
    (Pair (Second Nil) (Pair (Second Nil) (Pair (Second Nil) (Pair (Second Nil) (Pair (Second Nil)
    (Pair (AMark 124 [] Joint) (Pair End (AMark 124 [] Apart))))))))
    (Alone ExprLit (First (ALiteral (codes "1"))))

closure_read : Derives (Node (Expression Plain) (Whole closure)) (ref (Expression Plain)) []
unfolding table front back has_right is_bool is_reserved level takes stands_left inside
closure_read = (
  refl,
  (
    (refl, refl),
    (
      refl,
      (
        (refl, tt),
        ((refl, tt), ((refl, tt), ((refl, tt), ((refl, tt), ((refl, refl), (refl, (refl, refl))))))),
      ),
      refl,
      (refl, refl),
      (refl, (refl, refl), refl),
    ),
  ),
)

closure_parts : all_covered closure ≡ true
unfolding has_step has_form_step level
closure_parts = refl

pub closure_back :
    IsRead (Expression Plain) (flat (normal_in Plain (kept (Node (Expression Plain) (Whole closure)))) ++ [])
    (normal_in Plain (kept (Node (Expression Plain) (Whole closure)))) []
unfolding back
closure_back =
    read_in_position Plain closure [] [] closure_read (λ e. cc) closure_parts (refl, refl, refl, refl)

-- and 1 as _ < 1 is: the type ends before the <
abbrev number : Tree
number = Alone ExprLit (First (ALiteral (codes "1")))

abbrev any_type : Tree
any_type =
    Node (AType WithoutPlus)
    (Second (Second (Second (Second (Second (First (Node InferType (AWord (codes "_")))))))))

abbrev cast : Tree
cast =
    Infix
    (Back number ExprCast (Pair (AWord (codes "as")) (Pair (Called the_type any_type) (Second Nil))))
    ExprCompare (Second (Second (Second (Second (First (AMark 60 [] Apart)))))) number

cast_read : Derives (Node (Expression Plain) (Whole cast)) (ref (Expression Plain)) []
unfolding table front back has_right is_bool is_reserved level takes stands_left inside chains
cast_read = (
  refl,
  (
    (refl, refl),
    (
      refl,
      (refl, (refl, (refl, (refl, (refl, (refl, refl)))))),
      refl,
      (refl, refl),
      (
        refl,
        (
          refl,
          ((refl, (refl, (refl, (refl, (refl, (refl, (refl, (refl, (refl, refl))))))))), (refl, tt)),
        ),
        refl,
        (refl, refl),
        (refl, (refl, refl), refl),
      ),
      (refl, refl),
      (refl, (refl, refl), refl),
    ),
  ),
)

cast_parts : all_covered cast ≡ true
unfolding has_step has_form_step
cast_parts = refl

pub cast_back :
    IsRead (Expression Plain) (flat (normal_in Plain (kept (Node (Expression Plain) (Whole cast)))) ++ [])
    (normal_in Plain (kept (Node (Expression Plain) (Whole cast)))) []
unfolding back
cast_back =
    read_in_position Plain cast [] [] cast_read (λ e. cc) cast_parts (refl, refl, refl, refl)

-- and #[unsafe] 1
abbrev attribute : Tree
attribute =
    Node OuterAttribute
    (Pair (AMark 35 [] Apart)
    (Group Bracket (Node Meta (Pair (First (AWord (codes "unsafe"))) (Second (Second Nil))))))

abbrev attributed : Tree
attributed = Front ExprAttributed (Pair attribute (Node OuterAttributes End)) number

attributed_read : Derives (Node (Expression Plain) (Whole attributed)) (ref (Expression Plain)) []
unfolding table front back has_right is_bool is_reserved level takes stands_left inside
attributed_read = (
  refl,
  (
    (refl, refl),
    (
      refl,
      (
        (refl, ((refl, refl), (refl, (refl, ((refl, refl), (refl, (refl, tt))))))),
        (refl, refl),
      ),
      refl,
      (refl, refl),
      (refl, (refl, refl), refl),
    ),
  ),
)

attributed_parts : all_covered attributed ≡ true
unfolding has_step has_form_step level
attributed_parts = refl

pub attributed_back :
    IsRead (Expression Plain) (flat (normal_in Plain (kept (Node (Expression Plain) (Whole attributed)))) ++ [])
    (normal_in Plain (kept (Node (Expression Plain) (Whole attributed)))) []
unfolding back
attributed_back =
    read_in_position Plain attributed [] [] attributed_read (λ e. cc) attributed_parts (refl, refl, refl, refl)

-- 1; as a statement
abbrev semicolon : Tree
semicolon = First (Called the_semicolon (AMark 59 [] Apart))

abbrev behind : Tree → Tree → Tree
behind attributes form =
    Node AStatement
    (Second (Second
    (Second (Second (Pair (Called the_attributes (Node OuterAttributes attributes))
    (Pair (Called the_expression (Node (Expression InStatement) (Whole form))) semicolon))))))

abbrev one_statement : Tree
one_statement = behind End number

one_read : Derives one_statement (ref AStatement) []
unfolding table front back has_right level is_bool is_name is_path_keyword is_reserved
one_read = (
  refl,
  (
    refl,
    (
      refl,
      (
        refl,
        (
          refl,
          (
            (refl, (refl, refl)),
            (
              (refl, (refl, ((refl, refl), (refl, (refl, refl), refl)))),
              (refl, (refl, (refl, refl))),
            ),
          ),
        ),
      ),
    ),
  ),
)

one_covered : is_covered one_statement ≡ true
unfolding has_step has_form_step held passed stands_behind level has_right may_lack
one_covered = refl

pub one_back : IsRead AStatement (flat (normal (kept one_statement)) ++ []) (normal (kept one_statement)) []
one_back = read_back AStatement one_statement [] [] one_read one_covered (inl (refl, tt))

-- and #[unsafe] 1;
abbrev attributed_statement : Tree
attributed_statement = behind (Again attribute End) number

behind_read : Derives attributed_statement (ref AStatement) []
unfolding table front back has_right level is_bool is_name is_path_keyword is_reserved
behind_read = (
  refl,
  (
    refl,
    (
      refl,
      (
        refl,
        (
          refl,
          (
            (
              refl,
              (
                refl,
                (refl, (refl, ((refl, refl), (refl, (refl, ((refl, refl), (refl, (refl, tt))))))), refl),
              ),
            ),
            (
              (refl, (refl, ((refl, refl), (refl, (refl, refl), refl)))),
              (refl, (refl, (refl, refl))),
            ),
          ),
        ),
      ),
    ),
  ),
)

behind_covered : is_covered attributed_statement ≡ true
unfolding has_step has_form_step held passed stands_behind level has_right may_lack
behind_covered = refl

pub attributed_statement_back :
    IsRead AStatement (flat (normal (kept attributed_statement)) ++ []) (normal (kept attributed_statement)) []
attributed_statement_back =
    read_back AStatement attributed_statement [] [] behind_read behind_covered (inl (refl, tt))

-- and #[unsafe] ..;
abbrev range_statement : Tree
range_statement = behind (Again attribute End) (Alone ExprRange (AMark 46 (46 ∷ []) Apart))

range_read : Derives range_statement (ref AStatement) []
unfolding table front back has_right level is_bool is_name is_path_keyword is_reserved
range_read = (
  refl,
  (
    refl,
    (
      refl,
      (
        refl,
        (
          refl,
          (
            (
              refl,
              (
                refl,
                (refl, (refl, ((refl, refl), (refl, (refl, ((refl, refl), (refl, (refl, tt))))))), refl),
              ),
            ),
            (
              (refl, (refl, ((refl, refl), (refl, (refl, refl), refl)))),
              (refl, (refl, (refl, refl))),
            ),
          ),
        ),
      ),
    ),
  ),
)

range_covered : is_covered range_statement ≡ true
unfolding has_step has_form_step held passed stands_behind level has_right may_lack
range_covered = refl

pub range_statement_back :
    IsRead AStatement (flat (normal (kept range_statement)) ++ []) (normal (kept range_statement)) []
range_statement_back =
    read_back AStatement range_statement [] [] range_read range_covered (inl (refl, tt))

-- and #[unsafe] 1 && #[unsafe] .. == 1;
abbrev opened_statement : Tree
opened_statement =
    behind (Again attribute End)
    (Infix
    (Infix number ExprAnd (AMark 38 (38 ∷ []) Apart)
    (Front ExprAttributed (Pair attribute (Node OuterAttributes End)) (Alone ExprRange (AMark 46 (46 ∷ []) Apart))))
    ExprCompare (First (AMark 61 (61 ∷ []) Apart)) number)

opened_read : Derives opened_statement (ref AStatement) []
unfolding table front back has_right level is_bool is_name is_path_keyword is_reserved takes stands_left inside chains
opened_read = (
  refl,
  (
    refl,
    (
      refl,
      (
        refl,
        (
          refl,
          (
            (
              refl,
              (
                refl,
                (refl, (refl, ((refl, refl), (refl, (refl, ((refl, refl), (refl, (refl, tt))))))), refl),
              ),
            ),
            (
              (
                refl,
                (
                  refl,
                  (
                    (refl, refl),
                    (
                      refl,
                      (refl, (refl, refl)),
                      refl,
                      (refl, refl),
                      (
                        refl,
                        (refl, refl),
                        refl,
                        (refl, refl),
                        (refl, (refl, refl), refl),
                        (refl, refl),
                        (
                          refl,
                          (
                            (refl, ((refl, refl), (refl, (refl, ((refl, refl), (refl, (refl, tt))))))),
                            (refl, refl),
                          ),
                          refl,
                          (refl, refl),
                          (refl, (refl, refl), refl),
                        ),
                      ),
                      (refl, refl),
                      (refl, (refl, refl), refl),
                    ),
                  ),
                ),
              ),
              (refl, (refl, (refl, refl))),
            ),
          ),
        ),
      ),
    ),
  ),
)

opened_covered : is_covered opened_statement ≡ true
unfolding has_step has_form_step held passed stands_behind level has_right may_lack
opened_covered = refl

pub opened_statement_back :
    IsRead AStatement (flat (normal (kept opened_statement)) ++ []) (normal (kept opened_statement)) []
opened_statement_back =
    read_back AStatement opened_statement [] [] opened_read opened_covered (inl (refl, tt))

-- which begins with a parenthesis
opened_begins : sees parenthesis (flat (normal (kept opened_statement))) ≡ true
unfolding held passed place_of stands_behind level has_right may_lack takes stands_left inside chains
opened_begins = refl

-- Readers that stand nowhere but by themselves: of one statement, as of 1; before whatever follows it
abbrev alone_statement : Tree
alone_statement = Node OneStatement (First one_statement)

alone_read : Derives alone_statement (ref OneStatement) []
unfolding table same_part
alone_read = (refl, (refl, one_read))

alone_covered : is_covered alone_statement ≡ true
alone_covered = refl

pub alone_back :
    (s : List Token)
    → IsRead OneStatement (flat (normal (kept alone_statement)) ++ s) (normal (kept alone_statement)) s
unfolding held passed stands_behind level has_right may_lack
alone_back s = read_back OneStatement alone_statement [] s alone_read alone_covered (inr (inl refl))

-- and of one kind of item, as of struct a;
abbrev struct : Tree
struct =
    Node ItemStruct
    (First
    (Pair (Node OuterAttributes End)
    (Pair (Called the_visibility (Node Visibility (Second Nil)))
    (Called the_item
    (Node AStruct
    (Pair (AWord (codes "struct"))
    (Pair (Called the_name (AWord (codes "a")))
    (Pair (Called the_generics (Node Generics (Second Nil)))
    (Second (Pair (Called the_where (Node Where (Second Nil))) (Second (AMark 59 [] Apart))))))))))))

struct_read : Derives struct (ref ItemStruct) []
unfolding table same_part is_reserved
struct_read = (
  refl,
  (
    refl,
    (
      (refl, refl),
      (
        (refl, (refl, (refl, tt))),
        (
          refl,
          (
            refl,
            (
              refl,
              (
                (refl, refl),
                ((refl, (refl, (refl, tt))), (refl, ((refl, (refl, (refl, tt))), (refl, (refl, refl))))),
              ),
            ),
          ),
        ),
      ),
    ),
  ),
)

struct_covered : is_covered struct ≡ true
struct_covered = refl

pub struct_back : (s : List Token) → IsRead ItemStruct (flat (normal (kept struct)) ++ s) (normal (kept struct)) s
struct_back s = read_back ItemStruct struct [] s struct_read struct_covered tt
