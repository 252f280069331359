-- An expression that is one form alone, as each run reads it.
use Rattle.std.proofs.Common.{Bor, ◌≡◌, ℕ, zero, suc, List, [], ◌∷◌, refl, sym, ap, subst, ◌∙◌, inl, inr, arith}
use Rattle.std.specs.Prelude.{Bool, true, false, cond, not, length, Some, None, codes}
use Rattle.proc_macro2.specs.Token.{Token, Closes, Ident, Literal, Opens, Punct}
use Rattle.proc_macro2.specs.declared.delimiter.Delimiter.{Delimiter}
use Rattle.proc_macro2.specs.declared.delimiter.Delimiter.TheVariants as D
use Rattle.rust_leaf.specs.Leaf.{literal_text}
use Rattle.rust_leaf.specs.Minus.{starts_with_minus}
use Rattle.rust_leaf.specs.declared.literal.Literal as L
use Rattle.rust_leaf.specs.declared.punct.Spacing.{Spacing}
use Rattle.rust_leaf.specs.declared.punct.Spacing.TheVariants.{Alone, Joint}
use Rattle.rust_map.specs.declared.span.Span.{Span}
use Rattle.syn_buffer.specs.Entries.{entry_token, is_whole}
use Rattle.syn_buffer.specs.declared.entry.Entry.{Entry}
use Rattle.syn_buffer.specs.declared.entry.Entry.TheVariants as entry
use Rattle.syn_grammar.specs.Forms.{back, front, has_right, let_stands, level}
use Rattle.syn_grammar.specs.Kind.{AnyPath, ExprPath, Expression, InArm, InCondition, InExpression, InStatement}
use Rattle.syn_grammar.specs.Kind.{Plain, Position}
use Rattle.syn_grammar.specs.Look.{Look, ◌then◌, as_far, behind, no, seen}
use Rattle.syn_grammar.specs.Run.{Got, Out, ◌>>=◌, climb, from_front, front_right, literal_at, run, wrap}
use Rattle.syn_grammar.specs.Say.{marks}
use Rattle.syn_grammar.specs.Table.{table}
use Rattle.syn_grammar.specs.Tree.{Tree, Node, Whole}
use Rattle.syn_grammar.specs.Tree as t
use Rattle.syn_grammar.specs.Words.{is_bool, is_name, is_path_keyword}
use Rattle.rust_leaf.specs.Keywords.{is_reserved, same_text}
use Rattle.syn_grammar.proofs.Whole.{and_true}
use Rattle.reader_tokens.specs.Tokens.{tokens}
use Rattle.reader_fast.specs.Lone.{IsOver, lone_literal, lone_path}
use Rattle.reader_fast.specs.Names.{IsNamed, IsPassed, another_name}
use Rattle.reader_fast.specs.Read.{IsReadIn}
use Rattle.reader_fast.proofs.Same.{as_read}
use Rattle.reader_fast.proofs.Steps.{named}
use Rattle.reader_fast.proofs.Words.{no_name}

pub behind_literal : (l : Bor L.Literal) (es : List Entry) → is_whole (entry.Literal l ∷ es) ≡ true
    → is_whole es ≡ true
behind_literal l es h = (and_true (not (starts_with_minus (literal_text l.now))) _ h).1

-- no form has its left operand before the end, a comma or a semicolon, nor before the braces of a condition
pub at_end : (p : Position) → back p [] ≡ None
unfolding back
at_end Plain = refl
at_end InCondition = refl
at_end InArm = refl
at_end InStatement = refl

at_comma : (p : Position) (spacing : Spacing) (ts : List Token) → back p (Punct 44 spacing ∷ ts) ≡ None
unfolding back
at_comma Plain Alone ts = refl
at_comma InCondition Alone ts = refl
at_comma InArm Alone ts = refl
at_comma InStatement Alone ts = refl
at_comma Plain Joint ts = refl
at_comma InCondition Joint ts = refl
at_comma InArm Joint ts = refl
at_comma InStatement Joint ts = refl

at_semicolon : (p : Position) (spacing : Spacing) (ts : List Token) → back p (Punct 59 spacing ∷ ts) ≡ None
unfolding back
at_semicolon Plain Alone ts = refl
at_semicolon InCondition Alone ts = refl
at_semicolon InArm Alone ts = refl
at_semicolon InStatement Alone ts = refl
at_semicolon Plain Joint ts = refl
at_semicolon InCondition Joint ts = refl
at_semicolon InArm Joint ts = refl
at_semicolon InStatement Joint ts = refl

at_brace : (ts : List Token) → back InCondition (Opens D.Brace ∷ ts) ≡ None
unfolding back
at_brace ts = refl

over : (p : Position) (ts : List Token) → IsOver p ts → back p ts ≡ None
over p [] h = at_end p
over Plain (Opens d ∷ ts) h = absurd h
over InArm (Opens d ∷ ts) h = absurd h
over InStatement (Opens d ∷ ts) h = absurd h
over InCondition (Opens D.Parenthesis ∷ ts) h = absurd h
over InCondition (Opens D.Brace ∷ ts) h = at_brace ts
over InCondition (Opens D.Bracket ∷ ts) h = absurd h
over InCondition (Opens D.None ∷ ts) h = absurd h
over p (Closes d ∷ ts) h = absurd h
over p (Ident cs ∷ ts) h = absurd h
over p (Literal cs ∷ ts) h = absurd h
over p (Punct c spacing ∷ ts) (inl h) =
    ap (λ c. back p (Punct c spacing ∷ ts)) h ∙ at_comma p spacing ts
over p (Punct c spacing ∷ ts) (inr h) =
    ap (λ c. back p (Punct c spacing ∷ ts)) h ∙ at_semicolon p spacing ts

-- and no macro's ! stands there
no_bang : (p : Position) (ts : List Token) → IsOver p ts → marks "!" ts ≡ None
no_bang p [] h = refl
no_bang p (Opens d ∷ ts) h = refl
no_bang p (Closes d ∷ ts) h = refl
no_bang p (Ident cs ∷ ts) h = refl
no_bang p (Literal cs ∷ ts) h = refl
no_bang p (Punct c spacing ∷ ts) (inl h) = ap (λ c. marks "!" (Punct c spacing ∷ ts)) h
no_bang p (Punct c spacing ∷ ts) (inr h) = ap (λ c. marks "!" (Punct c spacing ∷ ts)) h

-- where a group opens
pub over_before : (p : Position) (d : Delimiter) (span : Span) (n : ℕ) (x : Entry) (es fs : List Entry) (b : Bool)
    → es ≡ x ∷ fs → x ≡ entry.Open d span n → ((ts : List Token) → b ≡ true → IsOver p (Opens d ∷ ts))
    → b ≡ true → IsOver p (tokens es)
over_before p d span n x es fs b e f h t =
    let P : List Entry → Type 0 = λ es. IsOver p (tokens es) in
    let Q : Entry → Type 0 = λ x. IsOver p (entry_token x ∷ tokens fs) in
    subst P (sym e) (subst Q (sym f) (h (tokens fs) t))

-- a literal
pub alone : (p : Position) (cs : List ℕ) (ts : List Token) → back p ts ≡ None
    → IsReadIn 8 (Expression p) (Literal cs ∷ ts) (lone_literal p cs) ts
unfolding table front has_right level literal_at
alone p cs ts h zero l = absurd (omega arith)
alone p cs ts h (suc zero) l = absurd (omega arith)
alone p cs ts h (suc (suc zero)) l = absurd (omega arith)
alone p cs ts h (suc (suc (suc n))) l = rw h refl

pub alone_at : (p : Position) (cs : List ℕ) (ts us : List Token) (x : Tree) → ts ≡ Literal cs ∷ us → IsOver p us
    → x ≡ lone_literal p cs → IsReadIn 8 (Expression p) ts x us
alone_at p cs ts us x a o q =
    as_read 8 (Expression p) ts (Literal cs ∷ us) us (lone_literal p cs) x a q (alone p cs us (over p us o))

-- a name is none of the words that begin other forms
record IsNoOther (cs : List ℕ) : Type 0 where
  no_true : same_text (codes "true") cs ≡ false
  no_false : same_text (codes "false") cs ≡ false
  no_let : same_text (codes "let") cs ≡ false
  no_loop : same_text (codes "loop") cs ≡ false
  no_while : same_text (codes "while") cs ≡ false
  no_static : same_text (codes "static") cs ≡ false
  no_move : same_text (codes "move") cs ≡ false
  no_const : same_text (codes "const") cs ≡ false
  no_async : same_text (codes "async") cs ≡ false
  no_for : same_text (codes "for") cs ≡ false
  no_underscore : same_text (codes "_") cs ≡ false
  no_unsafe : same_text (codes "unsafe") cs ≡ false
  no_try : same_text (codes "try") cs ≡ false
  no_if : same_text (codes "if") cs ≡ false
  no_match : same_text (codes "match") cs ≡ false
  no_continue : same_text (codes "continue") cs ≡ false
  no_break : same_text (codes "break") cs ≡ false
  no_return : same_text (codes "return") cs ≡ false
  no_yield : same_text (codes "yield") cs ≡ false

no_other : (cs : List ℕ) → is_name cs ≡ true → IsNoOther cs
unfolding is_name is_path_keyword is_reserved
no_other cs i =
    record {
      no_true = no_name (codes "true") cs refl i;
      no_false = no_name (codes "false") cs refl i;
      no_let = no_name (codes "let") cs refl i;
      no_loop = no_name (codes "loop") cs refl i;
      no_while = no_name (codes "while") cs refl i;
      no_static = no_name (codes "static") cs refl i;
      no_move = no_name (codes "move") cs refl i;
      no_const = no_name (codes "const") cs refl i;
      no_async = no_name (codes "async") cs refl i;
      no_for = no_name (codes "for") cs refl i;
      no_underscore = no_name (codes "_") cs refl i;
      no_unsafe = no_name (codes "unsafe") cs refl i;
      no_try = no_name (codes "try") cs refl i;
      no_if = no_name (codes "if") cs refl i;
      no_match = no_name (codes "match") cs refl i;
      no_continue = no_name (codes "continue") cs refl i;
      no_break = no_name (codes "break") cs refl i;
      no_return = no_name (codes "return") cs refl i;
      no_yield = no_name (codes "yield") cs refl i;
    }

no_bool : (cs : List ℕ) → IsNoOther cs → is_bool cs ≡ false
unfolding is_bool
no_bool cs o = rw (o.no_true, o.no_false) refl

no_let_stands : (p : Position) (cs : List ℕ) (ts : List Token) → IsNoOther cs → let_stands p (Ident cs ∷ ts) ≡ None
no_let_stands Plain cs ts o = rw o.no_let refl
no_let_stands InCondition cs ts o = rw o.no_let refl
no_let_stands InArm cs ts o = rw o.no_let refl
no_let_stands InStatement cs ts o = refl

abbrev no_call : Look
no_call = no (marks "!=") then marks "!"

unseen : (b : Bool) (ts : List Token) → marks "!" ts ≡ None → behind (cond b None (Some ts)) (marks "!") ≡ None
unseen true ts h = refl
unseen false ts h = h

-- so it begins no other form than a path's, if no macro is called
begins : (p : Position) (cs : List ℕ) (ts : List Token) → is_name cs ≡ true → IsNoOther cs
    → behind (as_far (length ts) another_name ts) no_call ≡ None → front p (Ident cs ∷ ts) ≡ Some ExprPath
unfolding front
begins p cs ts i o m =
    rw (
      no_bool cs o,
      o.no_loop,
      o.no_while,
      o.no_static,
      o.no_move,
      o.no_const,
      o.no_async,
      o.no_async,
      o.no_for,
      o.no_underscore,
      o.no_unsafe,
      o.no_try,
      o.no_if,
      o.no_match,
      o.no_continue,
      o.no_break,
      o.no_return,
      o.no_yield,
      no_let_stands p cs ts o,
      i,
      m,
    ) refl

begins_path : (p : Position) (ts us : List Token) → IsNamed ts → IsPassed ts us → marks "!" us ≡ None
    → front p ts ≡ Some ExprPath
begins_path p ts us h =
    named (λ ts. IsPassed ts us → marks "!" us ≡ None → front p ts ≡ Some ExprPath) go ts h
  where
    go : (cs : List ℕ) (vs : List Token) → is_name cs ≡ true → IsPassed (Ident cs ∷ vs) us → marks "!" us ≡ None
        → front p (Ident cs ∷ vs) ≡ Some ExprPath
    go cs vs i f b =
        begins p cs vs i (no_other cs i)
        (ap (λ o. behind o no_call) (f (length vs) (omega arith)) ∙ unseen (seen (marks "!=" us)) us b)

-- a path
ends : (p : Position) (n : ℕ) (left : Tree) (us : List Token) → back p us ≡ None
    → run (suc n) (climb p 0 left) us ≡ Got left us
ends p n left us h = rw h refl

a_path : (p : Position) (ts us : List Token) (x : Tree) → front p ts ≡ Some ExprPath → back p us ≡ None
    → IsReadIn 6 (AnyPath InExpression) ts x us → IsReadIn 8 (Expression p) ts (lone_path p x) us
unfolding table has_right level
a_path p ts us x f b r zero l = absurd (omega arith)
a_path p ts us x f b r (suc zero) l = absurd (omega arith)
a_path p ts us x f b r (suc (suc zero)) l = absurd (omega arith)
a_path p ts us x f b r (suc (suc (suc n))) l =
    let whole : Out → Out = λ o. wrap (Node (Expression p)) (wrap Whole o) in
    let own : Out → Out = λ o. o
    >>= λ y vs. front_right (run (suc n)) p 0 ExprPath y vs (has_right p ExprPath vs) in
    ap (λ k. whole (from_front (run (suc n)) p 0 ts k)) f
    ∙ ap (λ o. whole (own o)) (r (suc n) (omega arith))
    ∙ ap whole (ends p n (t.Alone ExprPath x) us b)

pub path_at : (p : Position) (ts us : List Token) (x y : Tree) → IsNamed ts → IsPassed ts us
    → IsReadIn 6 (AnyPath InExpression) ts x us → IsOver p us → y ≡ lone_path p x → IsReadIn 8 (Expression p) ts y us
path_at p ts us x y h f r o q =
    as_read 8 (Expression p) ts ts us (lone_path p x) y refl q
    (a_path p ts us x (begins_path p ts us h f (no_bang p us o)) (over p us o) r)
