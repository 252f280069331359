-- An expression where a statement begins: no macro is seen there, no let and no item. So statements are read back;
-- those that are macros by what is seen of their braces.
use Rattle.std.proofs.Common.{◌≡◌, ℕ, List, [], ◌∷◌, ◌++◌, refl, sym, ap, ◌∙◌, subst, append_assoc, ⊎_elim}
use Rattle.std.proofs.Common.{inl, inr}
use Rattle.std.specs.Prelude.{Bool, true, false, not, ◌&&◌, ◌||◌, codes, cond, Option, Some, None}
use Rattle.std.specs.Bool.{◌==◌}
use Rattle.std.proofs.lemmas.Slice.Eq.{bytes_eq-Decides}
use Rattle.std.proofs.lemmas.Bool.{false≢true}
use Rattle.proc_macro2.specs.Token.{Token, Opens, Closes, Ident, Literal, Punct}
use Rattle.proc_macro2.specs.declared.delimiter.Delimiter.TheVariants.{Brace}
use Rattle.rust_leaf.specs.declared.punct.Spacing.{Spacing}
use Rattle.rust_leaf.specs.declared.punct.Spacing.TheVariants.{Alone as Apart, Joint}
use Rattle.syn_grammar.specs.Kind.{Kind, AMacro, AStatement, Delimited, Expression, ExprAttributed, ExprClosure}
use Rattle.syn_grammar.specs.Kind.{ExprGroup}
use Rattle.syn_grammar.specs.Kind.{ExprMacro, ExprPath}
use Rattle.syn_grammar.specs.Kind.{ExprTypedClosure, ExprUnsafe, InStatement, OuterAttributes}
use Rattle.syn_grammar.specs.Name.{the_semicolon}
use Rattle.syn_grammar.specs.Words.{ends_in_dot, is_bool, is_ident, is_name, is_path_keyword, is_plain_name}
use Rattle.rust_leaf.specs.Keywords.{is_among}
use Rattle.rust_leaf.specs.Keywords.{is_reserved}
use Rattle.rust_leaf.specs.Keywords.{same_text}
use Rattle.syn_grammar.specs.Tree.{Tree, AMark, AWord, Alone, Back, Called, First, Front, Group, Infix, Nil, Node, Pair}
use Rattle.syn_grammar.specs.Tree.{Second, Whole, marks as signs, flat}
use Rattle.syn_grammar.specs.Gram.{raw, ref}
use Rattle.syn_grammar.specs.Look.{Look, a_group, a_path, behind, first_seen, no, past_literals, seen, sees}
use Rattle.syn_grammar.specs.Look.{the_end, ◌or◌, ◌then◌}
use Rattle.syn_grammar.specs.Say.{at, marks, optional, sign, ◌∶◌, ◌▸◌}
use Rattle.syn_grammar.specs.Ranks.{skips}
use Rattle.syn_grammar.specs.Table.{table}
use Rattle.syn_grammar.specs.Forms.{Case, back, backs, dot_stands, first_form, form, front, has_right, is_block_like}
use Rattle.syn_grammar.specs.Forms.{is_brace_macro, is_dotted, level, macro_call_stands, may_be_left, stands_left}
use Rattle.syn_grammar.specs.Forms.{typed_closure_stands}
use Rattle.syn_grammar.specs.Statements.{item_stands, macro_item_stands, macro_statement_stands, statement}
use Rattle.syn_grammar.specs.Derives.{Bound, Derives}
use Rattle.syn_grammar.specs.Kept.{held, kept}
use Rattle.syn_grammar.specs.Normal.{normal_in, passed, stands_behind}
use Rattle.laws_reread_kinds.specs.After.{After}
use Rattle.laws_reread_kinds.specs.Covered.{is_plain_expression, is_plain_part}
use Rattle.laws_reread_kinds.specs.Covered.{is_plain_start, no_word, soft_words}
use Rattle.laws_reread_kinds.proofs.Choices.{both_true, first_of, is_false, none_of, second_seen}
use Rattle.laws_reread_kinds.proofs.Classes.{IsAmong, among_right, of_all, ◌&◌}
use Rattle.laws_reread_kinds.proofs.Ends.{each_call}
use Rattle.laws_reread_kinds.proofs.FieldValues.{end_is}
use Rattle.laws_reread_kinds.proofs.Fits.{Fits, FitsForms, HasOperands, flat_forms}
use Rattle.laws_reread_kinds.proofs.Lets.{step_item, step_let}
use Rattle.laws_reread_kinds.proofs.Parts.{at_back, at_front, found_ref, maybe_ref, told_at}
use Rattle.laws_reread_kinds.proofs.Passed.{behind_attributes}
use Rattle.laws_items.proofs.Passed.{group_passed}
use Rattle.laws_reread_kinds.proofs.Readies.{Ready, Step}
use Rattle.laws_reread_kinds.proofs.Seconds.{front_seen}
use Rattle.laws_reread_kinds.proofs.Starts.{expression_starts, starts, statement_starts}
use Rattle.laws_reread_kinds.proofs.Statements.{fits_expression, held_form, in_front}
use Rattle.laws_reread.proofs.Blocks.{body_opens, word_first}
use Rattle.laws_reread.proofs.Parts.{among}
use Rattle.laws_reread.proofs.Closures.{closure_free, typed_free}
use Rattle.laws_reread.proofs.NamedMacros.{item_name, macro_item_read}
use Rattle.laws_reread.proofs.Macros.{behind_call, delimited_in, name_front, unlike}
use Rattle.laws_reread.proofs.Paths.{bang, keyword_is, or_macro, root_front}

-- a macro's call that is an item, and one that is a statement, behind the path and its !
abbrev dotted : Look
dotted = marks "?" or (no (marks "..") then marks ".")

abbrev group_behind : Look
group_behind = a_group Brace then no dotted

abbrev NoCall : List Token → Type 0
NoCall us = (sees macro_item_stands us ≡ false) × (sees macro_statement_stands us ≡ false)

abbrev Begun : List Token → Type 0
Begun us =
    (sees macro_item_stands us ≡ false) × (sees macro_statement_stands us ≡ false) × (sees (at "let") us ≡ false)
    × (sees item_stands us ≡ false)

-- the form that begins there
abbrev is_closure : Kind → Bool
is_closure ExprClosure = true
is_closure ExprTypedClosure = true
is_closure k = false

record Start (k : Kind) (us : List Token) : Type 0 where
  free : is_closure k ≡ true → sees item_stands us ≡ false
  fronts : front InStatement us ≡ Some k
  plain : is_plain_start us ≡ true
  unsafe : k ≡ ExprUnsafe → (vs : List Token) × (us ≡ Ident (codes "unsafe") ∷ Opens Brace ∷ vs)
  call : k ≡ ExprMacro → NoCall us

abbrev is_closure_there : Option Kind → Bool
is_closure_there (Some k) = is_closure k
is_closure_there None = false

closure_there : (b : Bool) (k : Kind) → cond b (Some ExprTypedClosure) (Some ExprClosure) ≡ Some k
    → is_closure k ≡ true
closure_there true k e = sym (ap is_closure_there e)
closure_there false k e = sym (ap is_closure_there e)

at_static : (us : List Token) (k : Kind) → Start k (Ident (codes "static") ∷ us)
    → Begun (Ident (codes "static") ∷ us)
unfolding front is_bool is_name is_path_keyword is_reserved
at_static us k h = (
  refl,
  refl,
  refl,
  h.free (closure_there (seen (typed_closure_stands (Ident (codes "static") ∷ us))) k h.fronts),
)

at_const : (us : List Token) (k : Kind) → Start k (Ident (codes "const") ∷ us) → Begun (Ident (codes "const") ∷ us)
unfolding front is_bool is_name is_path_keyword is_reserved
at_const (Opens Brace ∷ vs) k h = (refl, refl, refl, refl)
at_const us k h = (
  refl,
  refl,
  refl,
  h.free (closure_there (seen (typed_closure_stands (Ident (codes "const") ∷ us))) k h.fronts),
)

async_front : (cs : List ℕ) (us : List Token) → same_text (codes "move") cs ≡ false
    → front InStatement (Ident (codes "async") ∷ Ident cs ∷ us)
    ≡ cond (seen (typed_closure_stands (Ident (codes "async") ∷ Ident cs ∷ us))) (Some ExprTypedClosure)
    (Some ExprClosure)
unfolding front is_bool
async_front cs us e = rw e refl

at_async : (us : List Token) (k : Kind) → Start k (Ident (codes "async") ∷ us) → Begun (Ident (codes "async") ∷ us)
unfolding is_name is_path_keyword is_reserved
at_async (Ident cs ∷ us) k h = go (same_text (codes "move") cs) refl
  where
    go : (b : Bool) → same_text (codes "move") cs ≡ b → Begun (Ident (codes "async") ∷ Ident cs ∷ us)
    go true i =
        subst (λ v. Begun (Ident (codes "async") ∷ Ident v ∷ us)) ((bytes_eq-Decides (codes "move") cs).0 i)
        (refl, refl, refl, refl)
    go false i = (
      refl,
      refl,
      refl,
      h.free (closure_there (seen (typed_closure_stands (Ident (codes "async") ∷ Ident cs ∷ us))) k
          (sym (async_front cs us i) ∙ h.fronts)),
    )
at_async _ k h = (refl, refl, refl, refl)

abbrev kind_there : Option Kind → Kind
kind_there (Some k) = k
kind_there None = ExprGroup

at_unsafe : (us : List Token) (k : Kind) → Start k (Ident (codes "unsafe") ∷ us) → Begun (Ident (codes "unsafe") ∷ us)
unfolding front is_bool is_name is_path_keyword is_reserved
at_unsafe us k h =
    let (vs, e) = h.unsafe (sym (ap kind_there h.fronts)) in
    subst Begun (sym e) (refl, refl, refl, refl)

-- where no macro's call is seen, neither of these is
cond_none : (b : Bool) → cond {A = Option (List Token)} b None None ≡ None
cond_none true = refl
cond_none false = refl

bang_off : (l : Look) → ((d : ℕ) (i : Spacing) (xs : List Token) → seen (l (Punct d i ∷ xs)) ≡ false)
    → (vs : List Token) → seen (bang vs) ≡ false → sees (marks "!" then l) vs ≡ false
bang_off l h (Punct c Apart ∷ ws) e = go (c == 33) e
  where
    go : (b : Bool) → seen (cond b (Some ws) None) ≡ false → seen (behind (cond b (Some ws) None) l) ≡ false
    go true e = cc e
    go false e = refl
bang_off l h (Punct c Joint ∷ Punct d i ∷ xs) e = go (c == 33)
  where
    go : (b : Bool) → seen (behind (cond b (Some (Punct d i ∷ xs)) None) l) ≡ false
    go true = h d i xs
    go false = refl
bang_off l h (Punct c Joint ∷ ws) e = go (c == 33) (sym joined ∙ e)
  where
    joined : seen (bang (Punct c Joint ∷ ws)) ≡ seen (cond (c == 33) (Some ws) None)
    joined = ap (λ o. seen (behind (cond (seen o) None (Some (Punct c Joint ∷ ws))) (marks "!"))) (cond_none (c == 33))

    go : (b : Bool) → seen (cond b (Some ws) None) ≡ false → seen (behind (cond b (Some ws) None) l) ≡ false
    go true e = cc e
    go false e = refl
bang_off l h _ e = refl

call_off : (us : List Token) → sees macro_call_stands us ≡ false → NoCall us
call_off us e = go (a_path us) e
  where
    go : (o : Option (List Token)) → seen (behind o bang) ≡ false
        → (seen (behind o (marks "!" then item_name)) ≡ false) × (seen (behind o (marks "!" then group_behind)) ≡ false)
    go None e = (refl, refl)
    go (Some vs) e =
        (bang_off item_name (λ d i xs. refl) vs e, bang_off group_behind (λ d i xs. refl) vs e)

calls : (us : List Token) (k : Kind) → Start k us
    → ((b : Bool) → seen (macro_call_stands us) ≡ b → front InStatement us ≡ or_macro b) → NoCall us
calls us k h f = go (sees macro_call_stands us) refl
  where
    go : (b : Bool) → sees macro_call_stands us ≡ b → NoCall us
    go true e = h.call (sym (ap kind_there (sym (f true e) ∙ h.fronts)))
    go false e = call_off us e

-- names
or_split : (a b : Bool) → (a || b) ≡ false → (a ≡ false) × (b ≡ false)
or_split false b e = (refl, e)
or_split true b e = cc e

item_off : (cs : List ℕ) (us : List Token) → is_plain_name cs ≡ true → is_among soft_words cs ≡ false
    → sees item_stands (Ident cs ∷ us) ≡ false
unfolding is_plain_name is_reserved
item_off cs us h s =
    let a = or_split (same_text (codes "union") cs) _ s in
    let b = or_split (same_text (codes "auto") cs) _ a.1 in
    let c = or_split (same_text (codes "default") cs) _ b.1 in
    rw (
      unlike (codes "extern") cs refl h,
      unlike (codes "use") cs refl h,
      unlike (codes "fn") cs refl h,
      unlike (codes "mod") cs refl h,
      unlike (codes "type") cs refl h,
      unlike (codes "struct") cs refl h,
      unlike (codes "enum") cs refl h,
      unlike (codes "trait") cs refl h,
      unlike (codes "impl") cs refl h,
      unlike (codes "macro") cs refl h,
      unlike (codes "pub") cs refl h,
      unlike (codes "crate") cs refl h,
      unlike (codes "static") cs refl h,
      unlike (codes "const") cs refl h,
      unlike (codes "unsafe") cs refl h,
      unlike (codes "async") cs refl h,
      a.0,
      b.0,
      c.0,
    ) refl

let_off : (cs : List ℕ) (us : List Token) → is_plain_name cs ≡ true → sees (at "let") (Ident cs ∷ us) ≡ false
unfolding is_plain_name is_reserved
let_off cs us h = ap (λ b. seen (cond b (Some us) None)) (unlike (codes "let") cs refl h)

ident_plain : (cs : List ℕ) → is_ident cs ≡ true → is_plain_name cs ≡ true
unfolding is_plain_name
ident_plain cs e = ap (λ b. b || same_text (codes "Self") cs) e

-- a word that begins items too, and no other word behind it but as
each_soft : (P : List ℕ → Type 0) → P (codes "union") → P (codes "auto") → P (codes "default") → (cs : List ℕ)
    → is_among soft_words cs ≡ true → P cs
each_soft P a b c cs e =
    go (same_text (codes "union") cs) (same_text (codes "auto") cs) (same_text (codes "default") cs) refl refl refl e
  where
    go : (f g h : Bool) → same_text (codes "union") cs ≡ f → same_text (codes "auto") cs ≡ g
        → same_text (codes "default") cs ≡ h → (f || (g || (h || false))) ≡ true → P cs
    go true g h i j k e = subst P ((bytes_eq-Decides (codes "union") cs).0 i) a
    go false true h i j k e = subst P ((bytes_eq-Decides (codes "auto") cs).0 j) b
    go false false true i j k e = subst P ((bytes_eq-Decides (codes "default") cs).0 k) c
    go false false false i j k e = cc e

as_off : (w cs : List ℕ) (us : List Token) → sees item_stands (Ident w ∷ Ident (codes "as") ∷ us) ≡ false
    → same_text (codes "as") cs ≡ true → sees item_stands (Ident w ∷ Ident cs ∷ us) ≡ false
as_off w cs us h e =
    subst (λ v. sees item_stands (Ident w ∷ Ident v ∷ us) ≡ false) ((bytes_eq-Decides (codes "as") cs).0 e) h

union_off : (us : List Token) → no_word us ≡ true → sees item_stands (Ident (codes "union") ∷ us) ≡ false
unfolding is_reserved
union_off (Ident cs ∷ us) e = as_off (codes "union") cs us refl e
union_off _ e = refl

auto_off : (us : List Token) → no_word us ≡ true → sees item_stands (Ident (codes "auto") ∷ us) ≡ false
auto_off (Ident cs ∷ us) e = as_off (codes "auto") cs us refl e
auto_off _ e = refl

default_off : (us : List Token) → no_word us ≡ true → sees item_stands (Ident (codes "default") ∷ us) ≡ false
default_off (Ident cs ∷ us) e = as_off (codes "default") cs us refl e
default_off _ e = refl

soft_off : (cs : List ℕ) (us : List Token) → is_among soft_words cs ≡ true → no_word us ≡ true
    → sees item_stands (Ident cs ∷ us) ≡ false
soft_off cs us s e =
    each_soft (λ v. sees item_stands (Ident v ∷ us) ≡ false) (union_off us e) (auto_off us e) (default_off us e) cs s

word_off : (cs : List ℕ) (us : List Token) → is_plain_name cs ≡ true
    → (not (is_among soft_words cs) || no_word us) ≡ true → sees item_stands (Ident cs ∷ us) ≡ false
word_off cs us h e = go (is_among soft_words cs) refl e
  where
    go : (b : Bool) → is_among soft_words cs ≡ b → (not b || no_word us) ≡ true
        → sees item_stands (Ident cs ∷ us) ≡ false
    go true i e = soft_off cs us i e
    go false i e = item_off cs us h i

at_ident : (cs : List ℕ) (us : List Token) → is_ident cs ≡ true → (k : Kind) → Start k (Ident cs ∷ us)
    → Begun (Ident cs ∷ us)
at_ident cs us p k h =
    let q = ident_plain cs p in
    let c = calls (Ident cs ∷ us) k h (λ b e. name_front cs q us b InStatement e) in
    let s = both_true (not (is_among soft_words cs) || no_word us) _ h.plain in
    (c.0, c.1, let_off cs us q, word_off cs us q s.0)

at_big_self : (us : List Token) (k : Kind) → Start k (Ident (codes "Self") ∷ us) → Begun (Ident (codes "Self") ∷ us)
unfolding is_plain_name is_reserved
at_big_self us k h =
    let c = calls (Ident (codes "Self") ∷ us) k h (λ b e. name_front (codes "Self") refl us b InStatement e) in
    (c.0, c.1, refl, refl)

at_self : (us : List Token) (k : Kind) → Start k (Ident (codes "self") ∷ us) → Begun (Ident (codes "self") ∷ us)
unfolding is_path_keyword
at_self us k h =
    let c =
    calls (Ident (codes "self") ∷ us) k h (λ b e. (keyword_is (codes "self") refl).front_is InStatement us b e) in
    (c.0, c.1, refl, refl)

at_super : (us : List Token) (k : Kind) → Start k (Ident (codes "super") ∷ us) → Begun (Ident (codes "super") ∷ us)
unfolding is_path_keyword
at_super us k h =
    let c =
    calls (Ident (codes "super") ∷ us) k h (λ b e. (keyword_is (codes "super") refl).front_is InStatement us b e) in
    (c.0, c.1, refl, refl)

colons_behind : (us : List Token) → sees (marks "::") us ≡ true
    → sees item_stands (Ident (codes "crate") ∷ us) ≡ false
colons_behind us e = go (seen (marks "::" us)) e
  where
    go : (b : Bool) → b ≡ true → seen (first_seen (cond b None (Some us)) None) ≡ false
    go true e = refl
    go false e = cc e

at_crate : (us : List Token) (k : Kind) → Start k (Ident (codes "crate") ∷ us) → Begun (Ident (codes "crate") ∷ us)
unfolding is_path_keyword
at_crate us k h =
    let c =
    calls (Ident (codes "crate") ∷ us) k h (λ b e. (keyword_is (codes "crate") refl).front_is InStatement us b e) in
    (c.0, c.1, refl, colons_behind us h.plain)

at_root : (cs : List ℕ) (us : List Token) (k : Kind) → Start k (Punct 58 Joint ∷ Punct 58 Apart ∷ Ident cs ∷ us)
    → Begun (Punct 58 Joint ∷ Punct 58 Apart ∷ Ident cs ∷ us)
at_root cs us k h =
    let c =
    calls (Punct 58 Joint ∷ Punct 58 Apart ∷ Ident cs ∷ us) k h (λ b e. root_front InStatement Apart cs us b e) in
    (c.0, c.1, refl, refl)

-- whatever it begins with
begun_there : (us : List Token) (k : Kind) → IsAmong expression_starts us → Start k us → Begun us
unfolding is_name is_path_keyword is_reserved
begun_there us k i h = of_all (λ vs. (k : Kind) → Start k vs → Begun vs) expression_starts us (
    (λ us k h. absurd (false≢true h.plain)) & (λ cs p us k h. (refl, refl, refl, refl)) &
    (λ cs us k h. (refl, refl, refl, refl)) & (λ us k h. (refl, refl, refl, refl)) &
    (λ us k h. (refl, refl, refl, refl)) & (λ us k h. (refl, refl, refl, refl)) &
    (λ us k h. (refl, refl, refl, refl)) & (λ us k h. (refl, refl, refl, refl)) &
    (λ us k h. (refl, refl, refl, refl)) & (λ us k h. (refl, refl, refl, refl)) &
    (λ us k h. (refl, refl, refl, refl)) & (λ us k h. (refl, refl, refl, refl)) &
    (λ us k h. at_static us k h) & (λ us k h. (refl, refl, refl, refl)) & (λ us k h. at_const us k h) &
    (λ us k h. at_async us k h) & (λ us k h. at_unsafe us k h) & (λ us k h. (refl, refl, refl, refl)) &
    (λ us k h. (refl, refl, refl, refl)) & (λ us k h. (refl, refl, refl, refl)) &
    (λ us k h. (refl, refl, refl, refl)) & (λ us k h. (refl, refl, refl, refl)) &
    (λ us k h. (refl, refl, refl, refl)) & (λ us k h. (refl, refl, refl, refl)) &
    (λ us k h. (refl, refl, refl, refl)) & (λ us k h. (refl, refl, refl, refl)) &
    (λ us k h. (refl, refl, refl, refl)) & (λ us k h. (refl, refl, refl, refl)) &
    (λ us k h. (refl, refl, refl, refl)) & (λ us k h. (refl, refl, refl, refl)) &
    (λ us k h. (refl, refl, refl, refl)) & (λ us k h. (refl, refl, refl, refl)) &
    (λ us k h. (refl, refl, refl, refl)) & (λ cs p us k h. at_ident cs us p k h) & (λ us k h. at_big_self us k h) &
    (λ us k h. at_self us k h) & (λ us k h. at_super us k h) & (λ us k h. at_crate us k h) &
    (λ cs p us k h. at_root cs us k h) & (λ us k h. at_root (codes "Self") us k h) &
    (λ us k h. at_root (codes "self") us k h) & (λ us k h. at_root (codes "super") us k h) &
    (λ us k h. at_root (codes "crate") us k h) & tt
    ) i k h

-- The form on the left of all begins there.
unsafe_tokens : (y : Tree) → Fits y (table ExprUnsafe)
    → (vs : List Token) × (flat y ≡ Ident (codes "unsafe") ∷ Opens Brace ∷ vs)
unfolding table
unsafe_tokens (Pair (AWord cs) b) f =
    let i = body_opens b f.1 in
    (i.0, word_first "unsafe" cs (flat b) f.0 ∙ ap (λ vs. Ident (codes "unsafe") ∷ vs) i.1)
unsafe_tokens (Pair _ b) f = absurd f.0
unsafe_tokens _ f = absurd f

unsafe_there : (y : Tree) (rest us : List Token) → Fits y (table ExprUnsafe) → flat y ++ rest ≡ us
    → (vs : List Token) × (us ≡ Ident (codes "unsafe") ∷ Opens Brace ∷ vs)
unsafe_there y rest us f e =
    let i = unsafe_tokens y f in
    (i.0 ++ rest, sym e ∙ ap (λ vs. vs ++ rest) i.1)

-- behind the ! of a call that is not in braces
abbrev Ends : Tree → Type 0
Ends d =
    (ts : List Token) → (seen (item_name (flat d ++ ts)) ≡ false) × (seen (group_behind (flat d ++ ts)) ≡ false)

delimited_ends : (p b d : Tree) → Fits d (table Delimited)
    → is_brace_macro (Alone ExprMacro (Node AMacro (Pair p (Pair b (Node Delimited d))))) ≡ false → Ends d
unfolding table
delimited_ends p b (First (Group e x)) f n =
    subst (λ c. Ends (First (Group c x))) (sym f.1.0) (λ ts. (refl, refl))
delimited_ends p b (First _) f n = absurd f.1
delimited_ends p b (Second (First g)) f n = absurd (false≢true (sym n))
delimited_ends p b (Second (Second (Group e x))) f n =
    subst (λ c. Ends (Second (Second (Group c x)))) (sym f.1.1.0) (λ ts. (refl, refl))
delimited_ends p b (Second (Second _)) f n = absurd f.1.1
delimited_ends p b (Second _) f n = absurd f.1
delimited_ends p b _ f n = absurd f

call_ends : (y : Tree) → Fits y (table ExprMacro) → is_brace_macro (Alone ExprMacro y) ≡ false
    → Ends (delimited_in y)
call_ends y f n =
    each_call (λ z. is_brace_macro (Alone ExprMacro z) ≡ false → Ends (delimited_in z)) delimited_ends y f n

-- a macro in braces
record Braced (y : Tree) (ts : List Token) : Type 0 where
  no_item : seen (item_name (flat (delimited_in y) ++ ts)) ≡ false
  passed : group_behind (flat (delimited_in y) ++ ts) ≡ no dotted ts

delimited_braced : (a b d : Tree) → Fits d (table Delimited)
    → is_brace_macro (Alone ExprMacro (Node AMacro (Pair a (Pair b (Node Delimited d))))) ≡ true → (ts : List Token)
    → Derives (Node AMacro (Pair a (Pair b (Node Delimited d)))) (ref AMacro) ts
    → Braced (Node AMacro (Pair a (Pair b (Node Delimited d)))) ts
unfolding table
delimited_braced a b (Second (First (Group e x))) f n ts d =
    subst (λ c. Braced (Node AMacro (Pair a (Pair b (Node Delimited (Second (First (Group c x))))))) ts)
    (sym d.1.1.1.1.1.1.0) record {
      no_item = refl;
      passed = ap (λ o. behind o (no dotted)) (group_passed Brace x raw ts d.1.1.1.1.1.1.1);
    }
delimited_braced a b (Second (First _)) f n ts d = absurd f.1.1
delimited_braced a b (Second (Second g)) f n ts d = absurd (false≢true n)
delimited_braced a b (Second _) f n ts d = absurd f.1
delimited_braced a b (First g) f n ts d = absurd (false≢true n)
delimited_braced a b _ f n ts d = absurd f

braced : (y : Tree) → Fits y (table ExprMacro) → is_brace_macro (Alone ExprMacro y) ≡ true → (ts : List Token)
    → Derives y (ref AMacro) ts → Braced y ts
braced y f n ts d =
    each_call (λ z. is_brace_macro (Alone ExprMacro z) ≡ true → (ts : List Token) → Derives z (ref AMacro) ts
    → Braced z ts) delimited_braced y f n ts d

-- Behind one in braces the expression goes on with . or ? .
dotted_off : (ts : List Token) → sees dotted ts ≡ true → sees (no dotted) ts ≡ false
dotted_off ts e = ap (λ b. seen (cond b None (Some ts))) e

call_there : (y : Tree) (rest us : List Token) → Fits y (table ExprMacro) → Derives y (table ExprMacro) rest
    → (is_brace_macro (Alone ExprMacro y) ≡ true → sees dotted rest ≡ true) → flat y ++ rest ≡ us → NoCall us
unfolding table
call_there y rest us f d m e = subst NoCall e (go (is_brace_macro (Alone ExprMacro y)) refl)
  where
    go : (b : Bool) → is_brace_macro (Alone ExprMacro y) ≡ b → NoCall (flat y ++ rest)
    go true i =
        let b = braced y f i rest d in (
          behind_call item_name y rest f ∙ b.no_item,
          behind_call group_behind y rest f ∙ ap seen b.passed ∙ dotted_off rest (m i),
        )
    go false i =
        let c = call_ends y f i rest in
        (behind_call item_name y rest f ∙ c.0, behind_call group_behind y rest f ∙ c.1)

-- The forms that go on with these are those that do behind what ends there.
abbrev Goes : List Case → List Token → Type 0
Goes [] ts = Unit {0}
Goes (form k l ∷ cs) ts = (is_dotted k ≡ true → sees l ts ≡ true → sees dotted ts ≡ true) × Goes cs ts

goes : (cs : List Case) (ts : List Token) (k : Kind) → Goes cs ts → first_form cs ts ≡ Some k → is_dotted k ≡ true
    → sees dotted ts ≡ true
goes [] ts k g e d = cc e
goes (form j l ∷ cs) ts k g e d = go (λ i. goes cs ts k g.1 i d) (sees l ts) refl e
  where
    go : (first_form cs ts ≡ Some k → sees dotted ts ≡ true) → (b : Bool) → sees l ts ≡ b
        → cond b (Some j) (first_form cs ts) ≡ Some k → sees dotted ts ≡ true
    go more true i e = g.0 (subst (λ i. is_dotted i ≡ true) (sym (ap kind_there e)) d) i
    go more false i e = more e

dot_seen : (ts : List Token) → sees dot_stands ts ≡ true → sees dotted ts ≡ true
dot_seen ts e = second_seen _ _ (go (no (marks "..") ts) e)
  where
    go : (o : Option (List Token)) → seen (behind o (marks "." then past_literals ends_in_dot)) ≡ true
        → seen (behind o (marks ".")) ≡ true
    go (Some us) e = front_seen (marks "." us) (past_literals ends_in_dot) e
    go None e = cc e

dotted_seen : (k : Kind) (ts : List Token) → back InStatement ts ≡ Some k → is_dotted k ≡ true
    → sees dotted ts ≡ true
unfolding back
dotted_seen k ts e d =
    goes (backs InStatement) ts k
    (undotted & undotted & undotted & undotted & undotted & undotted & undotted & undotted & undotted & undotted &
    undotted & undotted & undotted & undotted & undotted & undotted & undotted & undotted &
    (λ h s. first_of _ _ s) & (λ h s. dot_seen ts (front_seen (dot_stands ts) (at "await") s)) &
    (λ h s. dot_seen ts (front_seen (dot_stands ts) _ s)) & (λ h s. dot_seen ts s) & tt) e d
  where
    undotted : {b : Bool} → false ≡ true → b ≡ true → sees dotted ts ≡ true
    undotted h s = absurd (false≢true h)

left_dotted : (a b c e : Bool) → (a && (not (b || c) || e)) ≡ true → c ≡ true → e ≡ true
left_dotted true true true e h i = h
left_dotted true false true e h i = h
left_dotted true b false e h i = cc i
left_dotted false b c e h i = cc h

goes_on : (l : Tree) (k : Kind) (ts : List Token) → stands_left InStatement l k ≡ true
    → back InStatement ts ≡ Some k → is_brace_macro l ≡ true → sees dotted ts ≡ true
unfolding stands_left
goes_on l k ts h e n =
    dotted_seen k ts e (left_dotted (may_be_left k l) (is_block_like l) (is_brace_macro l) (is_dotted k) h n)

no_operand_behind : (k : Kind) (ts : List Token) → has_right InStatement k ts ≡ true → k ≡ ExprMacro → ⊥
unfolding has_right level
no_operand_behind k ts h e = false≢true (subst (λ j. has_right InStatement j ts ≡ true) e h)

record Leads (us : List Token) : Type 0 where
  kind : Kind
  start : Start kind us

own_free : (k : Kind) (y : Tree) (q : List Token) → Fits y (table k) → is_plain_part k y ≡ true
    → Derives y (table k) q → is_closure k ≡ true → sees item_stands (flat y ++ q) ≡ false
own_free ExprClosure y q f u d e = closure_free y f u q d q
own_free ExprTypedClosure y q f u d e = typed_free y f u q d q
own_free _ y q f u d e = absurd (false≢true e)

leads : (x : Tree) (rest us : List Token) → flat x ++ rest ≡ us → Bound InStatement x rest → FitsForms x
    → HasOperands x → (is_brace_macro x ≡ true → sees dotted rest ≡ true) → is_plain_start us ≡ true → Leads us
leads (Alone k y) rest us e d f o m p = record {
  kind = k;
  start = record {
    free = λ c. ap (sees item_stands) (sym e) ∙ own_free k y rest f.1 o.2 d.1 c;
    fronts = ap (front InStatement) (sym e) ∙ d.0;
    plain = p;
    unsafe = λ i. unsafe_there y rest us (subst (λ j. Fits y (table j)) i f.1) e;
    call = λ i. call_there y rest us (subst (λ j. Fits y (table j)) i f.1)
        (subst (λ j. Derives y (table j) rest) i d.1)
        (λ n. m (subst (λ j. is_brace_macro (Alone j y) ≡ true) (sym i) n)) e;
  };
}
leads (Front k y x) rest us e d f o m p =
    let g : flat y ++ (flat x ++ rest) ≡ us = sym (append_assoc (flat y) (flat x) rest) ∙ e in
    record {
      kind = k;
      start = record {
        free = λ c. ap (sees item_stands) (sym g) ∙ own_free k y (flat x ++ rest) f.1 o.3 d.1 c;
        fronts = ap (front InStatement) (sym g) ∙ d.0;
        plain = p;
        unsafe = λ i. unsafe_there y (flat x ++ rest) us (subst (λ j. Fits y (table j)) i f.1) g;
        call = λ i. absurd (no_operand_behind k (flat x ++ rest) d.2 i);
      };
    }
leads (Back l k y) rest us e d f o m p =
    leads l (flat y ++ rest) us (sym (append_assoc (flat l) (flat y) rest) ∙ e) d.4 f.4 o.2
    (goes_on l k (flat y ++ rest) d.3.0 d.0) p
leads (Infix l k y r) rest us e d f o m p =
    leads l (flat y ++ (flat r ++ rest)) us
    (sym (append_assoc (flat l) (flat y ++ flat r) rest
    ∙ ap (λ ts. flat l ++ ts) (append_assoc (flat y) (flat r) rest)) ∙ e) d.4 f.3 o.2
    (goes_on l k (flat y ++ (flat r ++ rest)) d.3.0 d.0) p
leads _ rest us e d f o m p = absurd d

-- what is held of it is in normal form
call_kept : (x : Tree) → is_brace_macro x ≡ true → is_brace_macro (kept x) ≡ true
unfolding held
call_kept (Alone ExprMacro (Node AMacro (Pair p (Pair s (Node Delimited (Second (First g))))))) e = refl
call_kept (Front ExprAttributed y x) e = call_kept x e
call_kept _ e = absurd (false≢true e)

no_call : (x : Tree) → is_brace_macro (kept x) ≡ false → is_brace_macro x ≡ false
no_call x e = go (is_brace_macro x) refl
  where
    go : (b : Bool) → is_brace_macro x ≡ b → is_brace_macro x ≡ false
    go true i = absurd (false≢true (sym e ∙ call_kept x i))
    go false i = i

colons_more : (ts us : List Token) → sees (marks "::") ts ≡ true → sees (marks "::") (ts ++ us) ≡ true
colons_more (Punct c Joint ∷ Punct d i ∷ ts) us e = go (c == 58) (d == 58) e
  where
    go : (a b : Bool) → seen (cond a (cond b (Some ts) None) None) ≡ true
        → seen (cond a (cond b (Some (ts ++ us)) None) None) ≡ true
    go true true e = refl
    go true false e = cc e
    go false b e = cc e
colons_more (Punct c Joint ∷ []) us e = absurd (go (c == 58) e)
  where
    go : (a : Bool) → seen (cond a None None) ≡ true → ⊥
    go true e = false≢true e
    go false e = false≢true e
colons_more (Punct c Joint ∷ t ∷ ts) us e = absurd (go (c == 58) e)
  where
    go : (a : Bool) → seen (cond a None None) ≡ true → ⊥
    go true e = false≢true e
    go false e = false≢true e
colons_more (Punct c Apart ∷ ts) us e = absurd (false≢true e)
colons_more _ us e = absurd (false≢true e)

-- where such a word is all of the expression, none stands behind it
abbrev NoneBehind : List Token → List Token → Type 0
NoneBehind ts us = (cs : List ℕ) → ts ≡ Ident cs ∷ [] → is_among soft_words cs ≡ true → no_word us ≡ true

word_more : (t : Token) (ts us : List Token) → no_word (t ∷ ts) ≡ true → no_word (t ∷ ts ++ us) ≡ true
word_more (Ident cs) ts us e = e
word_more (Punct c i) ts us e = refl
word_more (Literal cs) ts us e = refl
word_more (Opens d) ts us e = refl
word_more (Closes d) ts us e = refl

soft_more : (cs : List ℕ) (ts us : List Token) → (not (is_among soft_words cs) || no_word ts) ≡ true
    → NoneBehind (Ident cs ∷ ts) us → (not (is_among soft_words cs) || no_word (ts ++ us)) ≡ true
soft_more cs ts us e h = go (is_among soft_words cs) refl e
  where
    behind : (ts : List Token) → NoneBehind (Ident cs ∷ ts) us → is_among soft_words cs ≡ true → no_word ts ≡ true
        → no_word (ts ++ us) ≡ true
    behind [] h i e = h cs refl i
    behind (t ∷ ts) h i e = word_more t ts us e

    go : (b : Bool) → is_among soft_words cs ≡ b → (not b || no_word ts) ≡ true → (not b || no_word (ts ++ us)) ≡ true
    go true i e = behind ts h i e
    go false i e = refl

plain_more : (ts us : List Token) → is_plain_start ts ≡ true → NoneBehind ts us → is_plain_start (ts ++ us) ≡ true
plain_more [] us e h = cc e
plain_more (Ident cs ∷ ts) us e h =
    let i = both_true (not (is_among soft_words cs) || no_word ts) _ e in
    ap (λ b. b && (not (same_text (codes "crate") cs) || sees (marks "::") (ts ++ us))) (soft_more cs ts us i.0 h)
    ∙ go (not (same_text (codes "crate") cs)) i.1
  where
    go : (b : Bool) → (b || sees (marks "::") ts) ≡ true → (b || sees (marks "::") (ts ++ us)) ≡ true
    go true e = refl
    go false e = colons_more ts us e
plain_more (Punct c i ∷ ts) us e h = e
plain_more (Literal cs ∷ ts) us e h = e
plain_more (Opens d ∷ ts) us e h = e
plain_more (Closes d ∷ ts) us e h = e

-- so it is, since a form that ends there is none of one word
abbrev is_name_form : Kind → Bool
is_name_form ExprMacro = true
is_name_form ExprPath = true
is_name_form k = false

record Blocked (us : List Token) : Type 0 where
  kind : Kind
  fronts : front InStatement us ≡ Some kind
  other : is_name_form kind ≡ false

block_other : (k : Kind) (y : Tree) → is_block_like (Alone k y) ≡ true → is_name_form k ≡ false
block_other ExprMacro y e = absurd (false≢true e)
block_other ExprPath y e = absurd (false≢true e)
block_other _ y e = refl

blocked : (x : Tree) (ts : List Token) → Bound InStatement x ts → is_block_like x ≡ true → Blocked (flat x ++ ts)
blocked (Alone k y) ts d e = record { kind = k; fronts = d.0; other = block_other k y e }
blocked (Front ExprAttributed y x) ts d e = record {
  kind = ExprAttributed;
  fronts = ap (front InStatement) (append_assoc (flat y) (flat x) ts) ∙ d.0;
  other = refl;
}
blocked (Front _ y x) ts d e = absurd (false≢true e)
blocked (Back l k y) ts d e = absurd (false≢true e)
blocked (Infix l k y r) ts d e = absurd (false≢true e)
blocked _ ts d e = absurd d

soft_plain : (cs : List ℕ) → is_among soft_words cs ≡ true → is_plain_name cs ≡ true
unfolding is_plain_name is_reserved
soft_plain cs s = each_soft (λ v. is_plain_name v ≡ true) refl refl refl cs s

no_block : (cs : List ℕ) (ts : List Token) → is_among soft_words cs ≡ true → Blocked (Ident cs ∷ ts) → ⊥
no_block cs ts s b =
    go (seen (macro_call_stands (Ident cs ∷ ts)))
    (name_front cs (soft_plain cs s) ts (seen (macro_call_stands (Ident cs ∷ ts))) InStatement refl)
  where
    go : (m : Bool) → front InStatement (Ident cs ∷ ts) ≡ or_macro m → ⊥
    go true e = false≢true (sym b.other ∙ ap is_name_form (ap kind_there (sym b.fronts ∙ e)))
    go false e = false≢true (sym b.other ∙ ap is_name_form (ap kind_there (sym b.fronts ∙ e)))

ended_none : (ts : List Token) → sees (no (the_end or marks ";")) ts ≡ false → no_word ts ≡ true
ended_none (Ident cs ∷ ts) e = cc e
ended_none _ e = refl

either_block : (a b : Bool) → (a || b) ≡ true → b ≡ false → a ≡ true
either_block true b e f = refl
either_block false b e f = absurd (false≢true (sym f ∙ e))

none_behind : (x : Tree) (ts : List Token) → Bound InStatement x ts → is_brace_macro x ≡ false
    → After (Expression InStatement) (Node (Expression InStatement) (Whole x)) ts → NoneBehind (flat x) ts
none_behind x ts d n (inl a) = λ cs e s. ended_none ts a.0
none_behind x ts d n (inr a) =
    λ cs e s. absurd (no_block cs ts s (subst (λ us. Blocked (us ++ ts)) e
    (blocked x ts d (either_block (is_block_like x) (is_brace_macro x) a.0 n))))

no_hash : (us : List Token) → is_plain_start us ≡ true → sees (marks "#") us ≡ false
no_hash (Punct c i ∷ ts) e = go (c == 35) e
  where
    go : (b : Bool) → not b ≡ true → seen (cond b (Some ts) None) ≡ false
    go true e = cc e
    go false e = refl
no_hash [] e = cc e
no_hash (Ident cs ∷ ts) e = refl
no_hash (Literal cs ∷ ts) e = refl
no_hash (Opens d ∷ ts) e = refl
no_hash (Closes d ∷ ts) e = refl

-- an expression and what stands behind it in its statement
record Begins (us : List Token) : Type 0 where
  seen : Begun us
  bare : sees (marks "#") us ≡ false

begins : (x : Tree) (ts : List Token) → Fits (Whole x) (table (Expression InStatement))
    → After (Expression InStatement) (Node (Expression InStatement) (Whole x)) ts
    → is_plain_expression (normal_in InStatement (held_form (kept x))) ≡ true
    → Derives (Whole x) (table (Expression InStatement)) ts → IsAmong expression_starts (flat x ++ ts)
    → Begins (flat x ++ ts)
unfolding table passed stands_behind
begins x ts f a p d i =
    let q : (is_plain_start (flat (kept x)) && not (is_brace_macro (kept x))) ≡ true =
    subst (λ z. (is_plain_start (flat z) && not (is_brace_macro z)) ≡ true) f.1 p in
    let r = both_true (is_plain_start (flat (kept x))) (not (is_brace_macro (kept x))) q in
    let n = no_call x (is_false (is_brace_macro (kept x)) r.1) in
    let s : is_plain_start (flat x ++ ts) ≡ true =
    plain_more (flat x) ts (subst (λ us. is_plain_start us ≡ true) (flat_forms x f.2) r.0)
    (none_behind x ts d.1 n a) in
    let l = leads x ts (flat x ++ ts) refl d.1 f.2 f.3 (λ i. absurd (false≢true (sym n ∙ i))) s in
    record { seen = begun_there (flat x ++ ts) l.kind i l.start; bare = no_hash (flat x ++ ts) s }

-- its ;
abbrev semicolon_end : Look
semicolon_end = the_end or marks ";"

semicolon_ends : (ts : List Token) → sees (marks ";") ts ≡ true → sees (no semicolon_end) ts ≡ false
semicolon_ends [] e = refl
semicolon_ends (t ∷ ts) e = go (sees (marks ";") (t ∷ ts)) e
  where
    go : (b : Bool) → b ≡ true → seen (cond b None (Some (t ∷ ts))) ≡ false
    go true e = refl
    go false e = cc e

semicolon_seen : (c : ℕ) (cs : List ℕ) (i : Spacing) (s : List Token) → c ≡ 59 → cs ≡ []
    → sees (marks ";") (signs c cs i ++ s) ≡ true
semicolon_seen c cs i s e f =
    subst (λ d. sees (marks ";") (signs d cs i ++ s) ≡ true) (sym e)
    (subst (λ ds. sees (marks ";") (signs 59 ds i ++ s) ≡ true) (sym f) refl)

record Ended (x t : Tree) (s : List Token) : Type 0 where
  after : After (Expression InStatement) (Node (Expression InStatement) (Whole x)) (flat t ++ s)
  derived : Derives t (optional (marks ";") (the_semicolon ∶ sign ";")) s

ended : (o x t : Tree) (s : List Token) → Fits t (optional (marks ";") (the_semicolon ∶ sign ";"))
    → After AStatement (in_front o (Node (Expression InStatement) (Whole x)) t) s → Ended x t s
ended o x (First (Called n (AMark c cs i))) s f a =
    let e = semicolon_seen c cs i s f.1.1.0 f.1.1.1 in
    record { after = inl (semicolon_ends (signs c cs i ++ s) e, tt); derived = (e, (f.1.0, (f.1.1.0, f.1.1.1))) }
ended o x (First (Called n _)) s f a = absurd f.1.1
ended o x (First _) s f a = absurd f.1
ended o x (Second Nil) s f (inl a) =
    subst (Ended x (Second Nil)) (sym (end_is s a.0)) record { after = inl (refl, tt); derived = (refl, tt) }
ended o x (Second Nil) s f (inr (inl e)) = absurd (false≢true (sym e))
ended o x (Second Nil) s f (inr (inr e)) = record { after = inr e.0; derived = (e.1.0, tt) }
ended o x (Second _) s f a = absurd f.1
ended o x _ s f a = absurd f

-- the statement, behind its attributes
expression_read : (a x t : Tree) (s : List Token) → Fits (Node OuterAttributes a) (ref OuterAttributes)
    → Fits (Whole x) (table (Expression InStatement)) → Fits t (optional (marks ";") (the_semicolon ∶ sign ";"))
    → is_plain_expression (normal_in InStatement (held_form (kept x))) ≡ true → Ready (Node OuterAttributes a)
    → Ready (Node (Expression InStatement) (Whole x))
    → After AStatement (in_front a (Node (Expression InStatement) (Whole x)) t) s
    → Derives (in_front a (Node (Expression InStatement) (Whole x)) t) statement s
    × IsAmong (starts AStatement) (flat (in_front a (Node (Expression InStatement) (Whole x)) t) ++ s)
unfolding skips
expression_read a x t s u f g p v w n =
    let h = ended a x t s g n in
    let (d, i) = w (flat t ++ s) h.after in
    let b = begins x (flat t ++ s) f h.after p d.1 i in
    let o : Tree = Node OuterAttributes a in
    let y : Tree = Pair (Whole x) t in
    let e : flat x ++ (flat t ++ s) ≡ flat y ++ s = sym (append_assoc (flat x) (flat t) s) in
    let c = subst Begins e b in
    let j = subst (IsAmong expression_starts) e i in
    let (m, k) = (maybe_ref OuterAttributes refl).fine.by o (flat y ++ s) u v (c.bare, tt) in (
      (
        behind_attributes o y macro_item_stands s false m c.seen.0,
        (
          behind_attributes o y macro_statement_stands s false m c.seen.1,
          (
            behind_attributes o y (at "let") s false m c.seen.2,
            (behind_attributes o y item_stands s false m c.seen.3, ((refl, m), ((refl, d), h.derived))),
          ),
        ),
      ),
      among_right statement_starts expression_starts (flat (Pair o y) ++ s)
          (⊎_elim (λ l. at_back expression_starts o y s l j)
          (λ l. at_front expression_starts o y s (⊎_elim (λ z. inl z) (λ z. absurd z) l)) k),
    )

macro_begins : (ts : List Token) → IsAmong (starts AMacro) ts → IsAmong expression_starts ts
macro_begins ts i =
    among (40 ∷ 41 ∷ 42 ∷ 38 ∷ 39 ∷ 35 ∷ 36 ∷ 37 ∷ 33 ∷ 34 ∷ []) (starts AMacro) expression_starts ts
    (refl, (refl, (refl, (refl, (refl, (refl, (refl, (refl, (refl, (refl, tt)))))))))) i

record CallEnded (t : Tree) (s : List Token) : Type 0 where
  free : sees dotted (flat t ++ s) ≡ false
  derived : Derives t (optional (marks ";") (the_semicolon ∶ sign ";")) s

semicolon_free : (c : ℕ) (cs : List ℕ) (i : Spacing) (s : List Token) → c ≡ 59 → cs ≡ [] → Apart ≡ i
    → sees dotted (signs c cs i ++ s) ≡ false
semicolon_free c cs i s e f g =
    ap (λ d. sees dotted (signs d cs i ++ s)) e ∙ ap (λ ds. sees dotted (signs 59 ds i ++ s)) f
    ∙ ap (λ j. sees dotted (Punct 59 j ∷ s)) (sym g)

call_ended : (o m t : Tree) (s : List Token) → Fits t (optional (marks ";") (the_semicolon ∶ sign ";"))
    → After AStatement (Second (First (Pair o (Pair m t)))) s → CallEnded t s
call_ended o m (First (Called n (AMark c cs i))) s f a = record {
  free = semicolon_free c cs i s f.1.1.0 f.1.1.1 f.1.1.2;
  derived = (semicolon_seen c cs i s f.1.1.0 f.1.1.1, (f.1.0, (f.1.1.0, f.1.1.1)));
}
call_ended o m (First (Called n _)) s f a = absurd f.1.1
call_ended o m (First _) s f a = absurd f.1
call_ended o m (Second Nil) s f (inl a) =
    subst (CallEnded (Second Nil)) (sym (end_is s a.0)) record { free = refl; derived = (refl, tt) }
call_ended o m (Second Nil) s f (inr (inl e)) = absurd (false≢true (sym e))
call_ended o m (Second Nil) s f (inr (inr e)) =
    record { free = none_of _ _ e.0.1.1.0 e.0.1.0; derived = (e.1.0, tt) }
call_ended o m (Second _) s f a = absurd f.1
call_ended o m _ s f a = absurd f

no_dotted : (ts : List Token) → sees dotted ts ≡ false → sees (no dotted) ts ≡ true
no_dotted ts e = ap (λ b. seen (cond b None (Some ts))) e

macro_statement_read : (o m t : Tree) (s : List Token)
    → Fits (Pair o (Pair m t)) (ref OuterAttributes ▸ ref AMacro ▸ optional (marks ";") (the_semicolon ∶ sign ";"))
    → is_brace_macro (Alone ExprMacro m) ≡ true → Ready (Pair o (Pair m t))
    → After AStatement (Second (First (Pair o (Pair m t)))) s
    → Derives (Second (First (Pair o (Pair m t)))) statement s
    × IsAmong (starts AStatement) (flat (Pair o (Pair m t)) ++ s)
unfolding table skips
macro_statement_read o m t s f n w a =
    let c = call_ended o m t s f.1.1 a in
    let (d, i) = (found_ref AMacro refl).fine.by m (flat t ++ s) f.1.0 w.1.0 tt in
    let b = braced m f.1.0 n (flat t ++ s) d in
    let y : Tree = Pair m t in
    let e : flat m ++ (flat t ++ s) ≡ flat y ++ s = sym (append_assoc (flat m) (flat t) s) in
    let j = subst (IsAmong (starts AMacro)) e i in
    let (g, h) =
    (maybe_ref OuterAttributes refl).fine.by o (flat y ++ s) f.0 w.0
    (told_at (marks "#") false (starts AMacro) (flat y ++ s) (search) j, tt) in (
      (
        behind_attributes o y macro_item_stands s false g
            (subst (λ us. sees macro_item_stands us ≡ false) e
            (behind_call item_name m (flat t ++ s) f.1.0 ∙ b.no_item)),
        (
          behind_attributes o y macro_statement_stands s true g
              (subst (λ us. sees macro_statement_stands us ≡ true) e
              (behind_call group_behind m (flat t ++ s) f.1.0 ∙ ap seen b.passed ∙ no_dotted (flat t ++ s) c.free)),
          (g, (d, c.derived)),
        ),
      ),
      among_right statement_starts expression_starts (flat (Pair o y) ++ s)
          (⊎_elim (λ k. at_back expression_starts o y s k (macro_begins (flat y ++ s) j))
          (λ k. at_front expression_starts o y s (⊎_elim (λ l. inl l) (λ l. absurd l) k)) h),
    )

pub step_a_statement : Step AStatement
unfolding table skips
step_a_statement (Second (Second (First x))) s f n w a = step_let x s f.1.1.1 w
step_a_statement (Second (Second (Second (First x)))) s f n w a = step_item x s f.1.1.1.1 w n
step_a_statement (Second (Second (Second (Second x)))) s f n w a =
    let e = fits_expression x f.1.1.1.1 n in
    let z : Tree = in_front e.front (Node (Expression InStatement) (Whole e.form)) e.semicolon in
    let v : Ready z = subst Ready e.is w in
    let r =
    expression_read e.front e.form e.semicolon s e.attributes e.fits e.ended e.plain v.0 v.1.0
    (subst (λ y. After AStatement y s) e.is a) in (
      subst (λ y. Derives y statement s) (sym e.is) r.0,
      subst (λ y. IsAmong (starts AStatement) (flat y ++ s)) (sym e.is) r.1,
    )
step_a_statement (Second (Second (Second _))) s f n w a = absurd f.1.1.1
step_a_statement (Second (Second _)) s f n w a = absurd f.1.1
step_a_statement (Second (First (Pair o (Pair m t)))) s f n w a = macro_statement_read o m t s f.1.1 n w a
step_a_statement (Second (First (Pair o _))) s f n w a = absurd f.1.1.1
step_a_statement (Second (First _)) s f n w a = absurd f.1.1
step_a_statement (Second _) s f n w a = absurd f.1
step_a_statement (First x) s f n w a = macro_item_read x s f.1 w n
step_a_statement _ s f n w a = absurd f
