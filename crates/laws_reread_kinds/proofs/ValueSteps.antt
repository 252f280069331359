-- The steps of kinds whose value may not begin or end as each expression does.
use Rattle.std.proofs.Common.{◌≡◌, List, [], ◌∷◌, ◌++◌, refl, sym, ap, ◌∙◌, subst}
use Rattle.std.specs.Prelude.{Bool, true, false, not, codes, cond, Some, None}
use Rattle.std.proofs.lemmas.Bool.{false≢true}
use Rattle.proc_macro2.specs.Token.{Token}
use Rattle.syn_grammar.specs.Kind.{Kind, AConst, AType, Delimited, Expression, Generics, InModule, Meta, Path}
use Rattle.syn_grammar.specs.Kind.{Plain, Where, WhereClause}
use Rattle.syn_grammar.specs.Kind.{WithPlus}
use Rattle.syn_grammar.specs.Name.{Part, same_part, the_clause, the_generics, the_name, the_type, the_value, the_where}
use Rattle.syn_grammar.specs.Part.{found, has, is_some, or_else, or_nil, the}
use Rattle.syn_grammar.specs.Verdicts.{is_where}
use Rattle.syn_grammar.specs.Tree.{Tree, Nil, Pair, First, Second, Called, Node, Whole, flat}
use Rattle.syn_grammar.specs.Gram.{Gram, ref}
use Rattle.syn_grammar.specs.Look.{no, the_end, ◌or◌}
use Rattle.syn_grammar.specs.Words.{is_ident, is_name, is_path_keyword}
use Rattle.syn_grammar.specs.Say.{◌∶◌, ◌▸◌, at, brace, bracket, ident_or, keyword, marks, optional, parenthesis}
use Rattle.syn_grammar.specs.Say.{sign}
use Rattle.syn_grammar.specs.Say.{refused, when◌read◌else◌}
use Rattle.syn_grammar.specs.Ranks.{skips}
use Rattle.syn_grammar.specs.Table.{table}
use Rattle.syn_grammar.specs.Derives.{Derives}
use Rattle.laws_reread_kinds.specs.After.{behind}
use Rattle.laws_reread_kinds.specs.Sees.{Lacks}
use Rattle.laws_reread_kinds.specs.Covered.{has_lone_value}
use Rattle.laws_reread_kinds.proofs.CalledParts.{called_fits, past_fits}
use Rattle.laws_reread_kinds.proofs.Choices.{both_same}
use Rattle.laws_reread_kinds.proofs.Classes.{Sign, TheWord, ◌&◌}
use Rattle.laws_reread_kinds.proofs.Starts.{starts}
use Rattle.laws_reread_kinds.proofs.Sights.{ident_not}
use Rattle.laws_reread_kinds.proofs.Keywords.{reserved_underscore, reserved_unsafe, reserved_where}
use Rattle.laws_reread_kinds.proofs.Fits.{Fits, has_bare_value}
use Rattle.laws_reread_kinds.proofs.Bare.{bare_lacks}
use Rattle.laws_reread_kinds.proofs.Verdicts.{some_either}
use Rattle.laws_reread_kinds.proofs.Readies.{Step}
use Rattle.laws_reread_kinds.proofs.Parts.{Found, found_alt, found_before, found_called, found_mark, found_never}
use Rattle.laws_reread_kinds.proofs.Parts.{found_optional}
use Rattle.laws_reread_kinds.proofs.Parts.{found_ref, found_seq, found_text, found_word, maybe_alt, maybe_called}
use Rattle.laws_reread_kinds.proofs.Parts.{maybe_ref}
use Rattle.laws_reread_kinds.proofs.Parts.{maybe_seq, none_never, weaken, weaken_maybe}

-- an attribute, whatever its value begins with
abbrev pub any_meta : Gram
any_meta =
    (when at "unsafe" read keyword "unsafe" else ref (Path InModule))
    ▸ (when parenthesis or brace or bracket read ref Delimited
    else optional (marks "=") (sign "=" ▸ the_value ∶ ref (Expression Plain)))

found_meta : Found any_meta (behind Meta) (starts Meta)
unfolding skips
found_meta = (found_before
    (found_alt (at "unsafe") (weaken ((marks "::") ∷ []) (found_text "unsafe") (λ s a. tt))
    (found_ref (Path InModule) refl) (λ us. refl, tt)
    ((λ us. refl) & (λ us. refl) & (λ us. refl) & (λ cs h us. refl) & (λ us. refl) & (λ us. refl) & (λ us. refl) &
    (λ us. refl) & (λ cs h us. simp (ident_not (codes "unsafe") cs reserved_unsafe h) refl) & (λ us. refl) & tt))
    (weaken_maybe ((parenthesis or brace or bracket) ∷ (marks "=") ∷
    (no (the_end or marks "," or marks ";" or marks "=>")) ∷ (marks "::") ∷ [])
    (maybe_alt (parenthesis or brace or bracket)
    (weaken ((marks "=") ∷ (no (the_end or marks "," or marks ";" or marks "=>")) ∷ []) (found_ref Delimited refl)
    (λ s a. tt)) (found_optional (marks "=")
    (found_seq found_mark (found_called (found_ref (Expression Plain) refl)) tt) (λ us. refl, tt)) (search)
    (λ us. refl, tt)) (λ s a. (a.0, (a.1.0, (a.1.1.0, tt))))) ((search), tt) (λ s a. (a.1.1.1.0, tt)))

value_lacks : (p u : Tree) (n : Part) (x : Tree) (s : List Token)
    → has_bare_value (Pair p (Second (First (Pair u (Second (Called n (Node (Expression Plain) x))))))) ≡ true
    → Derives x (table (Expression Plain)) s → Lacks (marks "#") (flat x ++ s)
unfolding table
value_lacks p u n (Whole x) s m d = bare_lacks Plain x s d.1 m
value_lacks p u n _ s m d = absurd d

pub step_meta : Step Meta
unfolding table skips
step_meta (Pair p (Second (First (Pair u (Second (Called n (Node k x))))))) s f m w a =
    let (t, i) = found_meta.fine.by (Pair p (Second (First (Pair u (Called n (Node k x)))))) s
    (f.0, (f.1.0, (f.1.1.0, (f.1.1.1.0, f.1.1.1.1.1)))) w a in
    let d = t.1.1.1.1.1 in
    let h : Lacks (marks "#") (flat x ++ s) =
    value_lacks p u n x s
    (subst (λ j. has_bare_value (Pair p (Second (First (Pair u (Second (Called n (Node j x)))))))
    ≡ true) d.0 m) (subst (λ j. Derives x (table j) s) d.0 d.1) in
    ((t.0, (t.1.0, (t.1.1.0, (t.1.1.1.0, (h, t.1.1.1.1))))), i)
step_meta (Pair p (Second (First (Pair u (Second (Called n _)))))) s f m w a = absurd f.1.1.1.1.1.1
step_meta (Pair p (Second (First (Pair u (Second _))))) s f m w a = absurd f.1.1.1.1.1
step_meta (Pair p (Second (First (Pair u (First y))))) s f m w a = absurd (none_never y f.1.1.1.1.1)
step_meta (Pair p (Second (First (Pair u _)))) s f m w a = absurd f.1.1.1.1
step_meta (Pair p (Second (First _))) s f m w a = absurd f.1.1.1
step_meta (Pair p (Second (Second x))) s f m w a = found_meta.fine.by (Pair p (Second (Second x))) s f w a
step_meta (Pair p (Second _)) s f m w a = absurd f.1.1
step_meta (Pair p (First x)) s f m w a = found_meta.fine.by (Pair p (First x)) s f w a
step_meta (Pair p _) s f m w a = absurd f.1
step_meta _ s f m w a = absurd f

-- a constant without a where clause, and one without a value
abbrev pub const_head : Gram → Gram
const_head g =
    keyword "const" ▸ the_name ∶ ident_or "_" ▸ the_generics ∶ ref Generics ▸ sign ":" ▸ the_type ∶ ref
    (AType WithPlus)
    ▸ g

abbrev pub value_end : Gram
value_end = optional (marks "=") (sign "=" ▸ the_value ∶ ref (Expression Plain)) ▸ sign ";"

abbrev pub where_end : Gram
where_end = the_where ∶ ref Where ▸ sign ";"

found_valued : Found (const_head value_end) [] (TheWord (codes "const") ∷ [])
unfolding skips
found_valued = (found_seq (found_text "const")
    (found_seq (found_called
    (found_alt (at "_") (found_text "_") (found_word is_ident) (λ us. refl, tt)
    ((λ cs h us. simp (ident_not (codes "_") cs reserved_underscore h) refl) & tt)))
    (maybe_seq (maybe_called (maybe_ref Generics refl))
    (found_seq found_mark
    (found_seq (found_called (found_ref (AType WithPlus) refl))
    (maybe_seq (found_optional (marks "=")
    (found_seq found_mark (found_called (found_ref (Expression Plain) refl)) tt) (λ us. refl, tt)) found_mark
    ((λ us. refl, tt), ((λ us. refl, tt), tt)))
    ((search), ((search), ((search), ((search), ((search), ((search), tt))))))) tt) ((λ us. refl, tt), tt)) tt) tt)

found_where : Found where_end [] (TheWord (codes "where") ∷ Sign 59 [] ∷ [])
unfolding skips
found_where = (maybe_seq (maybe_called (maybe_ref Where refl)) found_mark (
  (λ us. refl, tt),
  (
    (λ us. refl, tt),
    (
      (λ us. refl, tt),
      (
        (λ us. refl, tt),
        (
          (λ us. refl, tt),
          (
            (λ us. refl, tt),
            ((λ us. refl, tt), ((λ us. refl, tt), ((λ us. refl, tt), ((λ us. refl, tt), tt)))),
          ),
        ),
      ),
    ),
  ),
))

found_bare : Found (const_head (optional (marks "=") refused ▸ where_end)) [] (TheWord (codes "const") ∷ [])
unfolding skips is_name is_path_keyword
found_bare = (found_seq (found_text "const")
    (found_seq (found_called
    (found_alt (at "_") (found_text "_") (found_word is_ident) (λ us. refl, tt)
    ((λ cs h us. simp (ident_not (codes "_") cs reserved_underscore h) refl) & tt)))
    (maybe_seq (maybe_called (maybe_ref Generics refl))
    (found_seq found_mark
    (found_seq (found_called (found_ref (AType WithPlus) refl))
    (maybe_seq (found_optional (marks "=") (found_never {ls = []}) tt) found_where ((search), tt)) (
      (search),
      (
        (search),
        ((search), ((search), (((λ us. simp (reserved_where) refl) & (λ us. refl) & tt), ((search), tt)))),
      ),
    )) tt)
    ((λ us. refl, tt), tt)) tt) tt)

-- what is held of a where clause
abbrev pub is_chosen : Tree → Bool
is_chosen (First w) = true
is_chosen (Second Nil) = true
is_chosen _ = false

chosen_in : (w : Tree) → Fits w (table Where) → is_chosen w ≡ true
unfolding table
chosen_in (First w) f = refl
chosen_in (Second Nil) f = refl
chosen_in (Second _) f = absurd f.1
chosen_in _ f = absurd f

where_chosen : (k : Kind) (w : Tree) → k ≡ Where → Fits w (table k) → is_chosen w ≡ true
where_chosen k w e f = chosen_in w (subst (λ j. Fits w (table j)) e f)

-- one that is there, behind a value
value_there : (v : Tree) → Fits v (sign "=" ▸ the_value ∶ ref (Expression Plain)) → has the_value v ≡ true
unfolding same_part
value_there (Pair a b) f =
    ap is_some (past_fits the_value 1 (Pair a b) (sign "=" ▸ the_value ∶ ref (Expression Plain)) f refl)
    ∙ called_fits the_value b (ref (Expression Plain)) f.1 refl
value_there _ f = absurd f

clause_there : (k : Kind) (z : Tree) → k ≡ Where → Fits (First z) (table k) → is_where (Node k (First z)) ≡ true
unfolding table same_part
clause_there k z e f =
    ap (λ j. is_where (Node j (First z))) e
    ∙ called_fits the_clause z (ref WhereClause) (subst (λ j. Fits (First z) (table j)) e f).1 refl

value_and_where : (c n g q t v z e : Tree) (l : Part) (k : Kind)
    → Fits (Pair c (Pair n (Pair g (Pair q (Pair t (Pair (First v) (Pair (Called l (Node k (First z))) e)))))))
    (table AConst)
    → has_lone_value (Pair c (Pair n (Pair g (Pair q (Pair t (Pair (First v)
    (Pair (Called l (Node k (First z))) e))))))) ≡ false
unfolding table same_part
value_and_where c n g q t v z e l k f =
    let w : Tree = Pair (Called l (Node k (First z))) e in
    let x : Tree = Pair c (Pair n (Pair g (Pair q (Pair t (Pair (First v) w))))) in
    let h = f.1.1.1.1.1 in
    let i : has the_value x ≡ true =
    ap is_some (past_fits the_value 5 x (table AConst) f refl)
    ∙ some_either (found the_value v) (found the_value w) (Some Nil) (found the_value w) (value_there v h.0.1) refl in
    let j : is_where (the the_where x) ≡ true =
    ap (λ o. is_where (or_nil o)) (past_fits the_where 6 x (table AConst) f refl
    ∙ ap (λ m. or_else (cond (same_part m the_where) (Some (Node k (First z))) None) (found the_where e)) h.1.0.0)
    ∙ clause_there k z h.1.0.1.0 h.1.0.1.3 in
    ap not (both_same (has the_value x) (is_where (the the_where x)) true true i j)

pub step_a_const : Step AConst
unfolding table skips
step_a_const (Pair c (Pair n (Pair g (Pair q (Pair t (Pair (Second z) e)))))) s f m w a =
    found_bare.fine.by (Pair c (Pair n (Pair g (Pair q (Pair t (Pair (Second z) e)))))) s f w a
step_a_const (Pair c (Pair n (Pair g (Pair q (Pair t (Pair (First v) (Pair (Called l (Node k (Second Nil))) e)))))))
    s f m w a =
    let x = f.1.1.1.1.1 in
    let y = w.1.1.1.1.1 in
    let (d, i) = found_valued.fine.by (Pair c (Pair n (Pair g (Pair q (Pair t (Pair (First v) e)))))) s
    (f.0, (f.1.0, (f.1.1.0, (f.1.1.1.0, (f.1.1.1.1.0, (x.0, x.1.1))))))
    (w.0, (w.1.0, (w.1.1.0, (w.1.1.1.0, (w.1.1.1.1.0, (y.0, y.1.1)))))) a in
    let (h, j) = found_where.fine.by (Pair (Called l (Node k (Second Nil))) e) s x.1 y.1 a in
    let u = d.1.1.1.1.1 in
    ((d.0, (d.1.0, (d.1.1.0, (d.1.1.1.0, (d.1.1.1.1.0, (u.0, h)))))), i)
step_a_const (Pair c (Pair n (Pair g (Pair q (Pair t (Pair (First v) (Pair (Called l (Node k (First z))) e))))))) s f
    m w a =
    absurd (false≢true (sym (value_and_where c n g q t v z e l k f) ∙ m))
step_a_const (Pair c (Pair n (Pair g (Pair q (Pair t (Pair (First v) (Pair (Called l (Node k z)) e))))))) s f m w a =
    let h = f.1.1.1.1.1.1.0.1 in
    let o : is_chosen z ≡ true = where_chosen k z h.0 h.3 in
    cc o
step_a_const (Pair c (Pair n (Pair g (Pair q (Pair t (Pair (First v) (Pair (Called l _) e))))))) s f m w a =
    absurd f.1.1.1.1.1.1.0.1
step_a_const (Pair c (Pair n (Pair g (Pair q (Pair t (Pair (First v) (Pair _ e))))))) s f m w a =
    absurd f.1.1.1.1.1.1.0
step_a_const (Pair c (Pair n (Pair g (Pair q (Pair t (Pair (First v) _)))))) s f m w a = absurd f.1.1.1.1.1.1
step_a_const (Pair c (Pair n (Pair g (Pair q (Pair t (Pair _ e)))))) s f m w a = absurd f.1.1.1.1.1.0
step_a_const (Pair c (Pair n (Pair g (Pair q (Pair t _))))) s f m w a = absurd f.1.1.1.1.1
step_a_const (Pair c (Pair n (Pair g (Pair q _)))) s f m w a = absurd f.1.1.1.1
step_a_const (Pair c (Pair n (Pair g _))) s f m w a = absurd f.1.1.1
step_a_const (Pair c (Pair n _)) s f m w a = absurd f.1.1
step_a_const (Pair c _) s f m w a = absurd f.1
step_a_const _ s f m w a = absurd f
