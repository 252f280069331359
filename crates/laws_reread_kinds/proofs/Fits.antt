-- A tree fits an entry, whatever its tests say of the tokens that stand there: the part of the grammar that normal form
-- keeps by itself. It is a tree as it is printed: each mark stands apart, and what a kind holds has the kind's tokens.
-- Its kinds are covered. An expression in it is in normal form where it stands, the own part of each of its forms fits
-- the entry of the form's kind, no number in it is to be split, and its forms have the operands of their kinds.
use Rattle.std.proofs.Common.{◌≡◌, List, [], ◌∷◌, ◌++◌, refl, sym, ap, ◌∙◌}
use Rattle.std.specs.Prelude.{ℕ, suc, Bool, true, false, cond, not, ◌||◌, ◌&&◌, codes, Some}
use Rattle.proc_macro2.specs.Token.{Token, Opens, Closes, Punct}
use Rattle.proc_macro2.specs.declared.delimiter.Delimiter.TheVariants.{Parenthesis}
use Rattle.rust_leaf.specs.declared.punct.Spacing.TheVariants.{Alone as Apart}
use Rattle.syn_grammar.specs.Kind.{Kind, Position, Plain, DynType, ImplType, WithoutPlus, OnePattern, IdentPattern}
use Rattle.syn_grammar.specs.Kind.{PathPattern, ReferencePattern, InExpression, Parameter, Segment, Segments}
use Rattle.syn_grammar.specs.Kind.{ATypeAlias, FnPtrType, InFile, InForeign, WherePredicate}
use Rattle.syn_grammar.specs.Kind.{AConst, AForeignItem, ALet, AStatement, Statements, AnImpl, AnItem, NeverType}
use Rattle.syn_grammar.specs.Kind.{Arms, UnnamedField}
use Rattle.syn_grammar.specs.Kind.{Meta}
use Rattle.syn_grammar.specs.Kind.{AConstTrait, AForeignModule, AMacroDefinition, AModule, ARestrictedTrait, AStatic}
use Rattle.syn_grammar.specs.Kind.{AStruct, ATrait, ATraitItem, AUnion, AnImplItem, AUse, AnEnum, AnExternCrate}
use Rattle.syn_grammar.specs.Kind.{ItemMacro, OuterAttributes}
use Rattle.syn_grammar.specs.Kind.{Expression}
use Rattle.syn_grammar.specs.Kind.{ExprAttributed, ExprAwait, ExprField, ExprMethodCall}
use Rattle.syn_grammar.specs.Tree.{Tree, AWord, ALiteral, AMark, ALifetime, Raw, Nil, Pair, First, Second, End}
use Rattle.syn_grammar.specs.Tree.{Again, Final, More, Group, Dropped, Called, Node, Whole, Alone, Front, Back}
use Rattle.syn_grammar.specs.Tree.{Infix, Verbatim}
use Rattle.syn_grammar.specs.Tree.{marks, flat}
use Rattle.syn_grammar.specs.Gram.{Gram, word, literal, mark, lifetime, raw, nothing, seq, alt, star, many, group}
use Rattle.syn_grammar.specs.Gram.{judged, dropped, called, ref, operand, Verdict, Keep, is_balanced}
use Rattle.syn_grammar.specs.Types.{is_path_bound}
use Rattle.syn_grammar.specs.Words.{ends_in_dot}
use Rattle.rust_leaf.specs.Keywords.{same_text}
use Rattle.syn_grammar.specs.Table.{table}
use Rattle.syn_grammar.specs.Derives.{Derives}
use Rattle.syn_grammar.specs.Tidy.{begins_bracketed, is_absent, is_none}
use Rattle.syn_grammar.specs.Kept.{forget, dotted, is_there, kept}
use Rattle.syn_grammar.specs.Forms.{front as form_in_front, back as form_behind, has_right, is_path_form}
use Rattle.syn_grammar.specs.Parens.{is_struct}
use Rattle.syn_grammar.specs.Name.{the_const, the_default, the_safety}
use Rattle.syn_grammar.specs.Part.{choice, has}
use Rattle.syn_grammar.specs.Normal.{stands_behind, formed}
use Rattle.laws_reread_kinds.specs.After.{is_any_path, is_closed, is_generic, is_open}
use Rattle.laws_reread_kinds.specs.Covered.{front, inner, is_lone, has_lone_value, is_known}
use Rattle.laws_reread_kinds.specs.Covered.{is_form, is_plain_part, is_statement_form, item_of}
use Rattle.laws_reread_kinds.proofs.FieldTypes.{has_clear_type}
use Rattle.laws_reread_kinds.proofs.MacroPaths.{has_plain_path, is_plain_macro}

-- the test can say so
abbrev pub CanSay : (List Token → Bool) → Bool → Type 0
CanSay t b = (ts : List Token) × (t ts ≡ b)

-- what is held of a kind's tree has the tree's tokens
abbrev pub IsPrinted : Kind → Tree → Type 0
IsPrinted k x = flat (forget k (kept x)) ≡ flat (kept x)

-- of dyn and impl without plus: the one bound is a path
abbrev pub has_path_bound : Tree → Bool
has_path_bound (Pair w (Second b)) = is_path_bound b
has_path_bound _ = false

-- the leftmost form has no attributes
abbrev pub is_bare : Tree → Bool
is_bare (Front ExprAttributed y x) = false
is_bare (Back l k y) = is_bare l
is_bare (Infix l k y r) = is_bare l
is_bare x = true

-- of what stands in an attribute: its value is such an expression
abbrev pub has_bare_value : Tree → Bool
has_bare_value (Pair p (Second (First (Pair s (Second (Called n (Node (Expression q) (Whole x)))))))) = is_bare x
has_bare_value _ = true

-- a type begins with the for of a function pointer; before the type of a predicate stands a for, or it doesn't
abbrev pub is_long : Tree → Bool
is_long (Node FnPtrType y) = is_there (front y)
is_long _ = false

abbrev pub is_for : Tree → Bool
is_for (Node k x) = is_long (choice x)
is_for _ = false

abbrev pub has_own_for : Tree → Bool
has_own_for (Second (Pair o y)) = is_there o || not (is_for (front y))
has_own_for _ = true

-- of a path's names in an expression: arguments stand behind ::
abbrev pub has_turbofish : Tree → Bool
has_turbofish (Second (Pair n (First x))) = is_there (front (inner (front x)))
has_turbofish _ = true

abbrev pub is_turbofish : Tree → Bool
is_turbofish (First a) = is_there (front (inner a))
is_turbofish _ = true

abbrev pub has_own_turbofish : Tree → Bool
has_own_turbofish (Second (Pair n y)) = is_turbofish y
has_own_turbofish _ = true

-- a pattern begins with the mut of a name; behind & stands a mut, or the pattern begins with none
abbrev pub is_mut_name : Tree → Bool
is_mut_name (Node IdentPattern (Pair r (Pair m y))) = not (is_there r) && is_there m
is_mut_name _ = false

abbrev pub is_mut : Tree → Bool
is_mut (Node k x) = is_mut_name (choice x)
is_mut _ = false

abbrev pub is_own_mut : Tree → Bool
is_own_mut (Pair o p) = is_there o || not (is_mut p)
is_own_mut _ = true

abbrev pub has_own_mut : Tree → Bool
has_own_mut (Pair u y) = is_own_mut y
has_own_mut _ = true

-- of a function's parameter: its pattern begins as a receiver does, with self alone, which a & may stand before
abbrev pub is_self_names : Tree → Bool
is_self_names (First (Pair (AWord cs) (Second m))) = same_text (codes "self") cs
is_self_names _ = false

abbrev pub is_self_path : Tree → Bool
is_self_path (Pair (Second z) y) = is_self_names (inner y)
is_self_path _ = false

abbrev pub is_self_any : Tree → Bool
is_self_any (Second y) = is_self_path (inner y)
is_self_any _ = false

abbrev pub is_self_alone : Tree → Bool
is_self_alone (Node PathPattern (Pair p e)) = is_self_any (inner p)
is_self_alone _ = false

abbrev pub is_self : Tree → Bool
is_self (Node ReferencePattern (Pair u (Pair m p))) = is_self_alone (choice (inner p))
is_self x = is_self_alone x

abbrev pub has_own_name : Tree → Bool
has_own_name (Pair o (Second (Second (Second (Pair (Called n p) y))))) = not (is_self (choice (inner p)))
has_own_name _ = true

-- and it has a pattern, if it has a type
abbrev pub is_named : Tree → Bool
is_named (Pair o (Second (Second (First t)))) = false
is_named _ = true

-- of a type's definition and where clause, behind its name, generics and bounds: a where clause stands before the
-- definition, or behind it where there is one
abbrev pub back : Tree → Tree
back (Pair x y) = y
back x = x

abbrev pub has_own_place : Tree → Bool
has_own_place (First (Pair w d)) = not (is_absent w)
has_own_place (Second (Pair d w)) = is_there d || is_absent w
has_own_place _ = true

abbrev pub has_own_where : Tree → Bool
has_own_where (Pair (Called n v) e) = has_own_place v
has_own_where _ = true

-- of what stands behind a dot: each number before the last ends in a dot, and a last one doesn't
abbrev pub is_dotted : Tree → Bool
is_dotted (Again (ALiteral cs) x) = ends_in_dot cs && is_dotted x
is_dotted _ = true

abbrev pub has_dots : Tree → Bool
has_dots (Pair m (Called n x)) = is_dotted x
has_dots _ = true

abbrev pub has_last : Tree → Bool
has_last (Second (Called n (ALiteral cs))) = not (ends_in_dot cs)
has_last _ = true

-- and the arguments of a method stand behind ::
abbrev pub has_own_colons : Tree → Bool
has_own_colons (Pair (First a) g) = is_there (front (inner a))
has_own_colons _ = true

-- of what is kept of an impl, behind the word: its generics are there, or its type begins with no < Ident >, which
-- would be them; its ! is there, or its type is no !, or its braces follow that; and before for stands a path
abbrev pub is_never : Tree → Bool
is_never (Node NeverType x) = true
is_never _ = false

abbrev pub is_never_type : Tree → Bool
is_never_type (Node k x) = is_never (choice x)
is_never_type _ = false

abbrev pub IsOwn : Bool → Bool → Tree → Bool → Tree → Type 0
IsOwn g p t f w =
    ((g || (p || not (begins_bracketed t))) ≡ true)
    × ((p || (not (is_never_type t) || (not f && is_absent w))) ≡ true)
    × ((not f || is_any_path t) ≡ true)

abbrev pub IsOwnImpl : Tree → Type 0
IsOwnImpl (Pair (Called n g) (Pair p (Pair (Called m t) (Pair f (Pair w b))))) =
    IsOwn (is_generic g) (is_there p) t (is_there f) w
IsOwnImpl _ = Unit {0}

abbrev pub behind_impl : Tree → Tree
behind_impl (First x) = back (back (back (back x)))
behind_impl x = x

-- of an item's form: so many alternatives stand before it, and before what was chosen, by its words in front
abbrev pub place : Tree → ℕ
place (Second x) = suc (place x)
place _ = 0

abbrev pub own_place : Tree → ℕ
own_place (Node AnExternCrate y) = 1
own_place (Node AForeignModule y) = cond (has the_safety y) 8 2
own_place (Node AUse y) = 3
own_place (Node AStatic y) = 4
own_place (Node AConstTrait y) = 5
own_place (Node AnImpl y) = cond (has the_default y) 19 (cond (has the_const y) 6 (cond (has the_safety y) 10 19))
own_place (Node AConst y) = 7
own_place (Node AModule y) = cond (has the_safety y) 9 12
own_place (Node ATrait y) = cond (has the_safety y) 11 18
own_place (Node (ATypeAlias p) y) = 13
own_place (Node AStruct y) = 14
own_place (Node AnEnum y) = 15
own_place (Node AUnion y) = 16
own_place (Node ARestrictedTrait y) = 17
own_place (Node AMacroDefinition y) = 20
own_place (Node (ItemMacro p) y) = 21
own_place _ = 0

-- it isn't always raw
abbrev pub is_item_form : Tree → Bool
is_item_form (Node AConstTrait y) = false
is_item_form (Node ARestrictedTrait y) = false
is_item_form (Node AMacroDefinition y) = false
is_item_form (Node AnImpl y) = not (has the_const y)
is_item_form (Node (ItemMacro p) y) = has_plain_path p y
is_item_form _ = true

abbrev pub IsItem : Tree → Type 0
IsItem x = (place x ≡ own_place (choice x)) × (is_item_form (choice x) ≡ true)

-- of statements: behind an expression without its ; stands no lone ; , which would be its own
abbrev pub is_open_turn : Tree → Bool
is_open_turn (Second (Node k x)) = is_open x
is_open_turn _ = false

abbrev pub is_lone_mark : Tree → Bool
is_lone_mark (Again (First x) y) = true
is_lone_mark _ = false

abbrev pub are_ended : Tree → Bool
are_ended (Again x y) = not (is_open_turn x && is_lone_mark y) && are_ended y
are_ended _ = true

abbrev pub has_own_semicolons : Tree → Bool
has_own_semicolons (First x) = are_ended x
has_own_semicolons _ = true

-- of a let: before else stands what else may follow
abbrev pub is_closed_value : Tree → Bool
is_closed_value (Pair (First (Pair q (Pair (Called n e) (First z)))) c) = is_closed e
is_closed_value x = true

abbrev pub has_closed_value : Tree → Bool
has_closed_value (First (Pair k (Pair p (Pair t y)))) = is_closed_value y
has_closed_value x = true

-- of arms: one without a comma says whether it is the last
abbrev pub is_comma : Bool → Tree → Bool
is_comma last (First z) = last
is_comma last (Second (Second z)) = not last
is_comma last c = true

abbrev pub has_comma : Bool → Tree → Bool
has_comma last (Node k (First (Pair o (Pair p (Pair g (Pair a (Pair e (Called n c)))))))) = is_comma last c
has_comma last x = true

abbrev pub have_commas : Tree → Bool
have_commas (Again x y) = has_comma (is_none y) x && have_commas y
have_commas _ = true

-- what the tests say of what a kind holds, where its entry's shape doesn't
abbrev pub IsMeant : Kind → Tree → Type 0
IsMeant (DynType WithoutPlus) x = has_path_bound x ≡ true
IsMeant (ImplType WithoutPlus) x = has_path_bound x ≡ true
IsMeant WherePredicate x = has_own_for x ≡ true
IsMeant (Segments InExpression) x = has_turbofish x ≡ true
IsMeant (Segment InExpression) x = has_own_turbofish x ≡ true
IsMeant ReferencePattern x = has_own_mut x ≡ true
IsMeant OnePattern x = is_lone (choice x) ≡ false
IsMeant UnnamedField x = has_clear_type x ≡ true
IsMeant AConst x = has_lone_value x ≡ true
IsMeant Meta x = has_bare_value x ≡ true
IsMeant (ATypeAlias InFile) x = has_own_where (back (back (back (back x)))) ≡ true
IsMeant (ATypeAlias InForeign) x = has_own_where (back (back (back (back x)))) ≡ true
IsMeant AnImpl x = IsOwnImpl (behind_impl (kept x))
IsMeant AnItem x = IsItem (item_of x)
IsMeant ALet x = has_closed_value x ≡ true
IsMeant AStatement x = is_statement_form x ≡ true
IsMeant Statements x = has_own_semicolons x ≡ true
IsMeant Arms x = have_commas x ≡ true
IsMeant AForeignItem x = is_plain_macro (choice (item_of x)) ≡ true
IsMeant ATraitItem x = is_plain_macro (choice (item_of x)) ≡ true
IsMeant AnImplItem x = is_plain_macro (choice (item_of x)) ≡ true
IsMeant ExprField x = (has_dots (front x) ≡ true) × (has_last (back x) ≡ true)
IsMeant ExprMethodCall x = (has_dots (front x) ≡ true) × (has_own_colons (back (back x)) ≡ true)
IsMeant ExprAwait x = has_dots (front x) ≡ true
IsMeant Parameter x = (is_named x ≡ true) × (has_own_name x ≡ true)
IsMeant _ x = Unit {0}

-- it is in normal form, where it stands
abbrev pub IsFormed : Position → Tree → Type 0
IsFormed p x = formed p (stands_behind p) (kept x) ≡ kept x

-- behind a left operand it is held as it is
abbrev pub IsWhole : Kind → Tree → Type 0
IsWhole k y = (l : Tree) → dotted l k (kept y) ≡ Back l k (kept y)

-- a form of that kind begins somewhere, or has its left operand before it
abbrev pub IsFrontKind : Kind → Type 0
IsFrontKind k = (is_form k ≡ true) × (p : Position) × (ts : List Token) × (form_in_front p ts ≡ Some k)

abbrev pub IsBackKind : Kind → Type 0
IsBackKind k = (is_form k ≡ true) × (p : Position) × (ts : List Token) × (form_behind p ts ≡ Some k)

-- it may lack an operand behind it, or may have one
abbrev pub MayLack : Kind → Type 0
MayLack k = has_right Plain k [] ≡ false

abbrev pub MayHave : Kind → Type 0
MayHave k = has_right Plain k (Opens Parenthesis ∷ []) ≡ true

-- attributes stand together
abbrev pub are_together : Kind → Tree → Bool
are_together ExprAttributed (Front ExprAttributed y x) = false
are_together k x = true

-- The forms are of kinds that have the operands that they have here; their own parts begin them (is_plain_part); before
-- the braces of a struct stands a path.
abbrev pub HasOperands : Tree → Type 0
HasOperands (Alone k y) = IsFrontKind k × MayLack k × (is_plain_part k y ≡ true)
HasOperands (Front k y x) =
    IsFrontKind k × MayHave k × HasOperands x × (is_plain_part k y ≡ true) × (are_together k x ≡ true)
HasOperands (Back l k y) = IsBackKind k × MayLack k × HasOperands l × (is_struct k ≡ true → is_path_form l ≡ true)
HasOperands (Infix l k y r) = IsBackKind k × MayHave k × HasOperands l × HasOperands r
HasOperands _ = ⊥

-- A raw item was read so before whatever follows; its attributes and its visibility stand in front.
abbrev pub FitsRaw : (Tree → Verdict) → Tree → Gram → Type 0
FitsRaw v x (seq (ref OuterAttributes) (seq (called n g) h)) =
    (s : List Token) → Derives (Verbatim x) (judged v (seq (ref OuterAttributes) (seq (called n g) h))) s
FitsRaw v x _ = ⊥

pub raw_reads : (v : Tree → Verdict) (x : Tree) (g : Gram) (s : List Token) → FitsRaw v x g
    → Derives (Verbatim x) (judged v g) s
raw_reads v x (seq (ref OuterAttributes) (seq (called n g) h)) s f = f s
raw_reads v x _ s f = absurd f

abbrev mutual
  pub Fits : Tree → Gram → Type 0
  Fits (AWord cs) (word p) = p cs ≡ true
  Fits (ALiteral cs) (literal p) = p cs ≡ true
  Fits (AMark c cs spacing) (mark d ds) = (c ≡ d) × (cs ≡ ds) × (Apart ≡ spacing)
  Fits (ALifetime cs) lifetime = Unit {0}
  Fits (Raw ts) raw = is_balanced ts ≡ true
  Fits Nil nothing = Unit {0}
  Fits (Pair x y) (seq a b) = Fits x a × Fits y b
  Fits (First x) (alt t a b) = CanSay t true × Fits x a
  Fits (Second x) (alt t a b) = CanSay t false × Fits x b
  Fits End (star t g) = Unit {0}
  Fits (Again x y) (star t g) = Fits x g × Fits y (star t g)
  Fits End (many e c g) = Unit {0}
  Fits (Final x) (many e c g) = Fits x g
  Fits (More x d spacing y) (many e c g) = (d ≡ c) × (Apart ≡ spacing) × Fits x g × Fits y (many e c g)
  Fits (Group d x) (group e g) = (d ≡ e) × Fits x g
  Fits (First x) (judged v g) = (v x ≡ Keep) × Fits x g
  Fits (Verbatim x) (judged v g) = FitsRaw v x g
  Fits (Dropped x) (dropped g) = (flat x ≡ []) × Fits x g
  Fits (Called n x) (called m g) = (n ≡ m) × Fits x g
  Fits (Node k x) (ref l) = (k ≡ l) × (is_known k ≡ true) × IsPrinted k x × Fits x (table k) × IsMeant k x
  Fits (Whole x) (operand p n) = (n ≡ 0) × IsFormed p x × FitsForms x × HasOperands x
  Fits _ _ = ⊥

  -- the own part of each of an expression's forms fits the entry of the form's kind
  pub FitsForms : Tree → Type 0
  FitsForms (Alone k y) = (is_known k ≡ true) × Fits y (table k) × IsMeant k y
  FitsForms (Front k y x) = (is_known k ≡ true) × Fits y (table k) × IsMeant k y × FitsForms x
  FitsForms (Back l k y) = (is_known k ≡ true) × Fits y (table k) × IsMeant k y × IsWhole k y × FitsForms l
  FitsForms (Infix l k y r) = (is_known k ≡ true) × Fits y (table k) × IsMeant k y × FitsForms l × FitsForms r
  FitsForms _ = ⊥

-- its tokens are those of what is kept of it
mutual
  pub flat_kept : (x : Tree) (g : Gram) → Fits x g → flat (kept x) ≡ flat x
  flat_kept (AWord cs) (word p) h = refl
  flat_kept (ALiteral cs) (literal p) h = refl
  flat_kept (AMark c cs spacing) (mark d ds) h = ap (marks c cs) h.2
  flat_kept (ALifetime cs) lifetime h = refl
  flat_kept (Raw ts) raw h = refl
  flat_kept Nil nothing h = refl
  flat_kept (Pair x y) (seq a b) h =
      ap (λ us. us ++ flat (kept y)) (flat_kept x a h.0) ∙ ap (λ us. flat x ++ us) (flat_kept y b h.1)
  flat_kept (First x) (alt t a b) h = flat_kept x a h.1
  flat_kept (Second x) (alt t a b) h = flat_kept x b h.1
  flat_kept End (star t g) h = refl
  flat_kept (Again x y) (star t g) h =
      ap (λ us. us ++ flat (kept y)) (flat_kept x g h.0) ∙ ap (λ us. flat x ++ us) (flat_kept y (star t g) h.1)
  flat_kept End (many e c g) h = refl
  flat_kept (Final x) (many e c g) h = flat_kept x g h
  flat_kept (More x m spacing y) (many e c g) h =
      ap (λ us. us ++ Punct m Apart ∷ flat (kept y)) (flat_kept x g h.2)
      ∙ ap (λ us. flat x ++ Punct m Apart ∷ us) (flat_kept y (many e c g) h.3)
      ∙ ap (λ s. flat x ++ Punct m s ∷ flat y) h.1
  flat_kept (Group d x) (group e g) h = ap (λ us. Opens d ∷ us ++ Closes d ∷ []) (flat_kept x g h.1)
  flat_kept (First x) (judged v g) h = flat_kept x g h.1
  flat_kept (Verbatim x) (judged v g) h = refl
  flat_kept (Dropped x) (dropped g) h = sym h.0
  flat_kept (Called n x) (called m g) h = flat_kept x g h.1
  flat_kept (Node k x) (ref l) h = h.2 ∙ flat_kept x (table k) h.3
  flat_kept (Whole x) (operand p n) h = flat_forms x h.2
  flat_kept _ _ h = absurd h

  pub flat_forms : (x : Tree) → FitsForms x → flat (kept x) ≡ flat x
  flat_forms (Alone k y) h = flat_kept y (table k) h.1
  flat_forms (Front k y x) h =
      ap (λ us. us ++ flat (kept x)) (flat_kept y (table k) h.1) ∙ ap (λ us. flat y ++ us) (flat_forms x h.3)
  flat_forms (Back l k y) h =
      ap flat (h.3 (kept l)) ∙ ap (λ us. us ++ flat (kept y)) (flat_forms l h.4)
      ∙ ap (λ us. flat l ++ us) (flat_kept y (table k) h.1)
  flat_forms (Infix l k y r) h =
      ap (λ us. us ++ (flat (kept y) ++ flat (kept r))) (flat_forms l h.3)
      ∙ ap (λ us. flat l ++ (us ++ flat (kept r))) (flat_kept y (table k) h.1)
      ∙ ap (λ us. flat l ++ (flat y ++ us)) (flat_forms r h.4)
  flat_forms _ h = absurd h
