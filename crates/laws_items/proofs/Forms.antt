-- The forms of expressions: which begins before a stop, which goes on there and whether it has a right operand is seen
-- without what stands behind the stop; of closures, since their two | stand before it.
use Prim.Native.String.{String}
use Rattle.std.proofs.Common.{◌≡◌, ℕ, List, [], ◌∷◌, refl, sym, ap, ◌∙◌}
use Rattle.std.specs.Prelude.{Bool, true, false, not, ◌&&◌, cond, codes, Option, Some, None}
use Rattle.proc_macro2.specs.Token.{Token}
use Rattle.proc_macro2.specs.declared.delimiter.Delimiter.TheVariants.{Bracket}
use Rattle.syn_grammar.specs.Kind.{Kind, Position, Plain, InCondition, InArm, InStatement}
use Rattle.syn_grammar.specs.Kind.{ExprTypedClosure}
use Rattle.syn_grammar.specs.Kind.{ExprClosure, ExprBreak, ExprReturn, ExprYield, ExprRange}
use Rattle.syn_grammar.specs.Words.{is_name, is_ident, any_text, ends_in_dot}
use Rattle.syn_grammar.specs.Look.{an_ident, ◌or◌}
use Rattle.syn_grammar.specs.Say.{parenthesis}
use Rattle.syn_grammar.specs.Look.{seen, behind, ◌then◌, a_path, any_mark}
use Rattle.syn_grammar.specs.Say.{at, marks}
use Rattle.syn_grammar.specs.Forms.{Case, form, first_form, fronts, front, backs, back, labelled, asynchronous}
use Rattle.syn_grammar.specs.Forms.{closure_stands, past_bar, range_stands}
use Rattle.syn_grammar.specs.Forms.{let_stands, dot_stands, struct_stands, operand_stands, brace_ends}
use Rattle.syn_grammar.specs.Forms.{range_is_open, has_right}
use Rattle.syn_grammar.proofs.Whole.{and_true}
use Rattle.laws_items.proofs.Bars.{Barred, bars_seen}
use Rattle.laws_items.proofs.Alike.{Alike, IsSure, IsBlind, blind_sure, sure_then, strict_then, blind_then, sure_or}
use Rattle.laws_items.proofs.Alike.{blind_or, sure_maybe, sure_no, sure_none, sure_word, sure_quoted}
use Rattle.laws_items.proofs.Alike.{no_semicolon, strict_mark, sure_marks, blind_sign, sure_lifetime, blind_opens}
use Rattle.laws_items.proofs.Alike.{sure_first, blind_opening, sure_literals, sure_end, sure_repeatedly}
use Rattle.laws_items.proofs.Steady.{is_steady, no_kind, a_mark, the_text, sure_literal}

by_mark : (s : String) → no_semicolon (codes s) ≡ true → IsBlind (marks s)
by_mark s e = blind_sure (a_mark s e)

by_text : (s : String) → IsBlind (at s)
by_text s = blind_sure (the_text s)

blind_closure : IsBlind closure_stands
blind_closure =
    blind_or (blind_sure (a_mark "|" refl)) (blind_or (blind_sure (the_text "static"))
    (blind_or (blind_sure (the_text "move")) (blind_or (blind_then (the_text "const") (blind_sure
    (sure_no blind_opens))) (blind_or (blind_then (sure_no blind_asynchronous) (blind_sure (the_text "async")))
    (blind_sure (sure_then (the_text "for") (sure_then (a_mark "<" refl)
    (sure_or sure_lifetime (a_mark ">" refl)))))))))
  where
    blind_asynchronous : IsBlind asynchronous
    blind_asynchronous =
        blind_then (the_text "async") (blind_or blind_opens (blind_then (the_text "move") blind_opens))

sure_labelled : IsSure labelled
sure_labelled = sure_maybe (sure_then sure_lifetime (a_mark ":" refl))

sure_path : IsSure a_path
sure_path =
    sure_then (sure_maybe (a_mark "::" refl)) (sure_then (sure_word is_name)
    (sure_repeatedly (strict_then (strict_mark (codes "::") refl) (sure_word is_name))))

sure_range : IsSure range_stands
sure_range = sure_then (sure_no (blind_sure (a_mark "..." refl))) (a_mark ".." refl)

blind_let : (p : Position) → IsBlind (let_stands p)
blind_let Plain = blind_sure (the_text "let")
blind_let InCondition = blind_sure (the_text "let")
blind_let InArm = blind_sure (the_text "let")
blind_let InStatement = blind_sure sure_none

sure_dot : IsSure dot_stands
sure_dot = sure_then (sure_no (by_mark ".." refl)) (sure_then (a_mark "." refl) (sure_literals ends_in_dot))

blind_struct : (p : Position) → IsBlind (struct_stands p)
blind_struct Plain = blind_opens
blind_struct InCondition = blind_sure sure_none
blind_struct InArm = blind_opens
blind_struct InStatement = blind_opens

blind_operand : IsBlind operand_stands
blind_operand =
    blind_or (blind_then (sure_no (by_text "as")) (blind_sure (sure_word any_text))) (blind_or blind_opening (blind_or
    (blind_sure (sure_quoted any_text)) (blind_or (blind_sure sure_lifetime) (blind_or
    (blind_then (sure_no (by_mark "!=" refl)) (by_mark "!" refl)) (blind_or
    (blind_then (sure_no (blind_or (by_mark "-=" refl) (by_mark "->" refl))) (by_mark "-" refl)) (blind_or
    (blind_then (sure_no (by_mark "*=" refl)) (by_mark "*" refl)) (blind_or
    (blind_then (sure_no (by_mark "|=" refl)) (by_mark "|" refl)) (blind_or
    (blind_then (sure_no (by_mark "&=" refl)) (by_mark "&" refl)) (blind_or (by_mark ".." refl) (blind_or
    (blind_then (sure_no (blind_or (by_mark "<=" refl) (by_mark "<<=" refl))) (by_mark "<" refl)) (blind_or
    (by_mark "::" refl) (by_mark "#" refl))))))))))))

blind_brace : (p : Position) → IsBlind (brace_ends p)
blind_brace Plain = blind_sure sure_none
blind_brace InCondition = blind_opens
blind_brace InArm = blind_sure sure_none
blind_brace InStatement = blind_sure sure_none

blind_marks : IsBlind (any_mark (codes "," ∷ codes ";" ∷ codes "?" ∷ codes "=" ∷ codes "+" ∷ codes "/" ∷ codes "%"
    ∷ codes "^" ∷ codes ">" ∷ codes "<=" ∷ codes "!=" ∷ codes "-=" ∷ codes "*=" ∷ codes "&=" ∷ codes "|="
    ∷ codes "<<=" ∷ []))
blind_marks =
    blind_or (by_mark "," refl) (blind_or (blind_sign 59) (blind_sure (sure_marks (codes "?" ∷ codes "=" ∷ codes "+"
    ∷ codes "/" ∷ codes "%" ∷ codes "^" ∷ codes ">" ∷ codes "<=" ∷ codes "!=" ∷ codes "-=" ∷ codes "*=" ∷ codes "&="
    ∷ codes "|=" ∷ codes "<<=" ∷ []) refl)))

blind_range : (p : Position) → IsBlind (range_is_open p)
blind_range p =
    blind_or (blind_or (blind_sure sure_end) (blind_or blind_marks (blind_or (by_text "as")
    (blind_then (sure_no (by_mark ".." refl)) (by_mark "." refl))))) (blind_brace p)

abbrev pub is_closure : Kind → Bool
is_closure ExprClosure = true
is_closure ExprTypedClosure = true
is_closure _ = false

-- each is seen of both or of neither
abbrev AreBlind : List Case → Type 0
AreBlind [] = Unit {0}
AreBlind (form k l ∷ cases) = IsBlind l × AreBlind cases

same_if : (b c : Bool) (k : Kind) (o p : Option Kind) → b ≡ c → o ≡ p → cond b (Some k) o ≡ cond c (Some k) p
same_if true true k o p e f = refl
same_if false false k o p e f = f
same_if true false k o p e f = cc
same_if false true k o p e f = cc

-- forms that begin behind the cases of closures
abbrev behind_closures : List Case → List Case
behind_closures (a ∷ b ∷ c ∷ d ∷ e ∷ f ∷ g ∷ cases) = cases
behind_closures cases = cases

others_blind : (p : Position) → AreBlind (behind_closures (fronts p))
others_blind p = (
  blind_then sure_labelled (by_text "for"),
  (
    blind_opens,
    (
      blind_sure (sure_first 59 Bracket refl),
      (
        blind_opens,
        (
          blind_opens,
          (
            by_text "_",
            (
              by_text "unsafe",
              (
                by_text "async",
                (
                  by_text "const",
                  (
                    by_text "try",
                    (
                      by_text "if",
                      (
                        by_text "match",
                        (
                          by_text "continue",
                          (
                            by_text "break",
                            (
                              by_text "return",
                              (
                                by_text "yield",
                                (
                                  blind_let p,
                                  (
                                    blind_sure (sure_then (a_mark "&" refl) (sure_then (the_text "raw")
                                        (sure_or (the_text "const") (the_text "mut")))),
                                    (
                                      by_mark "&" refl,
                                      (
                                        blind_or (by_mark "*" refl) (blind_or
                                            (by_mark "!" refl) (by_mark "-" refl)),
                                        (
                                          by_mark "..=" refl,
                                          (
                                            blind_sure sure_range,
                                            (
                                              blind_then sure_path
                                                  (blind_then (sure_no (by_mark "!=" refl)) (by_mark "!" refl)),
                                              (
                                                blind_or (blind_sure (sure_word is_name))
                                                    (blind_or (by_mark "::" refl) (by_mark "<" refl)),
                                                tt,
                                              ),
                                            ),
                                          ),
                                        ),
                                      ),
                                    ),
                                  ),
                                ),
                              ),
                            ),
                          ),
                        ),
                      ),
                    ),
                  ),
                ),
              ),
            ),
          ),
        ),
      ),
    ),
  ),
)

blind_assigns : IsBlind (any_mark (codes "+=" ∷ codes "-=" ∷ codes "*=" ∷ codes "/=" ∷ codes "%=" ∷ codes "^="
    ∷ codes "&=" ∷ codes "|=" ∷ codes "<<=" ∷ codes ">>=" ∷ []))
blind_assigns =
    blind_sure (sure_marks (codes "+=" ∷ codes "-=" ∷ codes "*=" ∷ codes "/=" ∷ codes "%=" ∷ codes "^=" ∷ codes "&="
    ∷ codes "|=" ∷ codes "<<=" ∷ codes ">>=" ∷ []) refl)

blind_compares : IsBlind (any_mark (codes "==" ∷ codes "<=" ∷ codes "!=" ∷ codes ">=" ∷ []))
blind_compares = blind_sure (sure_marks (codes "==" ∷ codes "<=" ∷ codes "!=" ∷ codes ">=" ∷ []) refl)

blind_call : IsBlind (dot_stands then an_ident then (parenthesis or marks "::"))
blind_call = blind_then sure_dot (blind_then (sure_word is_ident) (blind_or blind_opens (by_mark "::" refl)))

backs_blind : (p : Position) → AreBlind (backs p)
backs_blind p = (
  blind_assigns,
  (
    blind_compares,
    (
      blind_then (sure_no (by_mark "=>" refl)) (by_mark "=" refl),
      (
        by_mark "||" refl,
        (
          by_mark "&&" refl,
          (
            blind_or (by_mark "<<" refl) (by_mark ">>" refl),
            (
              blind_or
                  (by_mark "<" refl) (by_mark ">" refl),
              (
                by_mark "|" refl,
                (
                  by_mark "^" refl,
                  (
                    by_mark "&" refl,
                    (
                      blind_or
                          (by_mark "+" refl) (by_mark "-" refl),
                      (
                        blind_or (by_mark "*" refl) (blind_or (by_mark "/" refl)
                            (by_mark "%" refl)),
                        (
                          by_mark "..=" refl,
                          (
                            blind_sure sure_range,
                            (
                              by_text "as",
                              (
                                blind_struct p,
                                (
                                  blind_opens,
                                  (
                                    blind_opens,
                                    (
                                      by_mark "?" refl,
                                      (
                                        blind_then sure_dot (by_text "await"),
                                        (
                                          blind_call,
                                          (blind_sure sure_dot, tt),
                                        ),
                                      ),
                                    ),
                                  ),
                                ),
                              ),
                            ),
                          ),
                        ),
                      ),
                    ),
                  ),
                ),
              ),
            ),
          ),
        ),
      ),
    ),
  ),
)

module _ (n m : ℕ) (a b : List Token) (h : Alike n m a b) where
  cases_same : (cases : List Case) → AreBlind cases → first_form cases a ≡ first_form cases b
  cases_same [] f = refl
  cases_same (form k l ∷ cases) f =
      same_if _ _ k (first_form cases a) (first_form cases b) (f.0.by n m a b h) (cases_same cases f.1)

  first_if : (c d : Bool) (j k : Kind) (o p : Option Kind) → c ≡ d → (o ≡ Some k → p ≡ Some k)
      → cond c (Some j) o ≡ Some k → cond d (Some j) p ≡ Some k
  first_if true true j k o p e f i = i
  first_if false false j k o p e f i = f i
  first_if true false j k o p e f i = cc e
  first_if false true j k o p e f i = cc e

  -- of no closure
  typed_off : (c : Bool) → c ≡ false
      → seen (behind (cond (seen (cond c None (Some b))) None (Some b))
      (past_bar then past_bar then marks "->")) ≡ false
  typed_off false e = refl
  typed_off true e = cc e

  abbrev closed : Option Kind → Bool
  closed None = false
  closed (Some k) = is_closure k

  other_if : (k : Kind) → is_closure k ≡ false → (c d u v : Bool) (o p : Option Kind) → d ≡ v
      → (v ≡ false → u ≡ false) → (o ≡ Some k → p ≡ Some k)
      → cond c (Some ExprTypedClosure) (cond d (Some ExprClosure) o) ≡ Some k
      → cond u (Some ExprTypedClosure) (cond v (Some ExprClosure) p) ≡ Some k
  other_if k e true d u v o p f g i j = no_kind (sym e ∙ sym (ap closed j))
  other_if k e false true u v o p f g i j = no_kind (sym e ∙ sym (ap closed j))
  other_if k e false false true true o p f g i j = cc f
  other_if k e false false false true o p f g i j = cc f
  other_if k e false false true false o p f g i j = no_kind (sym (g refl))
  other_if k e false false false false o p f g i j = i j

  pub back_same : (p : Position) → back p a ≡ back p b
  unfolding back
  back_same p = cases_same (backs p) (backs_blind p)

  pub right_same : (p : Position) (k : Kind) → has_right p k a ≡ has_right p k b
  unfolding has_right
  right_same p ExprBreak = (blind_then (sure_no (blind_brace p)) blind_operand).by n m a b h
  right_same p ExprReturn = blind_operand.by n m a b h
  right_same p ExprYield = blind_operand.by n m a b h
  right_same p ExprRange = ap not ((blind_range p).by n m a b h)
  right_same p _ = refl

  pub front_same : (p : Position) (k : Kind) → is_closure k ≡ false → front p a ≡ Some k → front p b ≡ Some k
  unfolding front
  front_same p k e =
      first_if _ _ _ k _ _ ((by_mark "#" refl).by n m a b h) (first_if _ _ _ k _ _
      ((blind_sure sure_literal).by n m a b h)
      (first_if _ _ _ k _ _ ((blind_then sure_labelled blind_opens).by n m a b h)
      (first_if _ _ _ k _ _ ((blind_then sure_labelled (by_text "loop")).by n m a b h)
      (first_if _ _ _ k _ _ ((blind_then sure_labelled (by_text "while")).by n m a b h)
      (other_if k e _ _ _ _ _ _ (blind_closure.by n m a b h) (λ v. typed_off (seen (closure_stands b)) v)
      (λ i. sym (cases_same (behind_closures (fronts p)) (others_blind p)) ∙ i))))))

  -- of a closure, where its two | stand before the stop
  typed_if : (u v : Bool) → u ≡ v → Barred 0 2 a b
      → seen (behind (cond (seen (cond u None (Some a))) None (Some a)) (past_bar then past_bar then marks "->"))
      ≡ seen (behind (cond (seen (cond v None (Some b))) None (Some b)) (past_bar then past_bar then marks "->"))
  typed_if true true e w = bars_seen a b w
  typed_if false false e w = refl
  typed_if true false e w = cc e
  typed_if false true e w = cc e

  pub closure_same : (p : Position) → Barred 0 2 a b → front p a ≡ front p b
  unfolding front
  closure_same p w =
      same_if _ _ _ _ _ ((by_mark "#" refl).by n m a b h) (same_if _ _ _ _ _ ((blind_sure sure_literal).by n m a b h)
      (same_if _ _ _ _ _ ((blind_then sure_labelled blind_opens).by n m a b h)
      (same_if _ _ _ _ _ ((blind_then sure_labelled (by_text "loop")).by n m a b h)
      (same_if _ _ _ _ _ ((blind_then sure_labelled (by_text "while")).by n m a b h)
      (same_if _ _ _ _ _
      (typed_if (seen (closure_stands a)) (seen (closure_stands b)) (blind_closure.by n m a b h) w)
      (same_if _ _ _ _ _ (blind_closure.by n m a b h)
      (cases_same (behind_closures (fronts p)) (others_blind p))))))))

-- forms have steady entries
abbrev are_steady : List Case → Bool
are_steady [] = true
are_steady (form k l ∷ cases) = is_steady k && are_steady cases

some_steady : (cases : List Case) (ts : List Token) (k : Kind) → are_steady cases ≡ true
    → first_form cases ts ≡ Some k → is_steady k ≡ true
some_steady [] ts k e f = cc f
some_steady (form j l ∷ cases) ts k e f =
    let i = and_true (is_steady j) (are_steady cases) e in
    go (seen (l ts)) (first_form cases ts) (some_steady cases ts k i.1) i.0 f
  where
    go : (b : Bool) (o : Option Kind) → (o ≡ Some k → is_steady k ≡ true) → is_steady j ≡ true
        → cond b (Some j) o ≡ Some k → is_steady k ≡ true
    go true o g h e = cc
    go false o g h e = g e

pub front_steady : (p : Position) (ts : List Token) (k : Kind) → front p ts ≡ Some k → is_steady k ≡ true
unfolding front
front_steady p ts k f = some_steady (fronts p) ts k refl f

pub back_steady : (p : Position) (ts : List Token) (k : Kind) → back p ts ≡ Some k → is_steady k ≡ true
unfolding back
back_steady p ts k f = some_steady (backs p) ts k refl f
