-- Behind a field's name no parenthesis stands: it would be a method's. So a field before a call has a number.
use Rattle.std.proofs.Common.{◌≡◌, ℕ, List, [], ◌∷◌, ◌++◌, refl, sym, ap, ◌∙◌, append_assoc}
use Rattle.std.specs.Prelude.{Bool, true, false, cond, Some, None}
use Rattle.proc_macro2.specs.Token.{Token, Ident, Literal, Punct}
use Rattle.rust_leaf.specs.declared.punct.Spacing.{Spacing}
use Rattle.rust_leaf.specs.declared.punct.Spacing.TheVariants.{Alone as Apart, Joint}
use Rattle.syn_grammar.specs.Kind.{Position, ExprCall, ExprField}
use Rattle.syn_grammar.specs.Name.{the_name, the_value, the_indices}
use Rattle.syn_grammar.specs.Words.{is_ident, are_indices, ends_in_dot}
use Rattle.syn_grammar.specs.Tree.{Tree, AWord, ALiteral, AMark, Pair, First, Second, End, Again, Called}
use Rattle.syn_grammar.specs.Tree.{marks as mark_tokens, flat}
use Rattle.syn_grammar.specs.Gram.{Gram, word, literal, mark, seq, alt, star, called}
use Rattle.syn_grammar.specs.Look.{seen, sees, behind, ◌then◌, ◌or◌, an_ident, a_quoted, past_literals}
use Rattle.syn_grammar.specs.Say.{marks, parenthesis}
use Rattle.syn_grammar.specs.Table.{table}
use Rattle.syn_grammar.specs.Forms.{back, dot_stands}
use Rattle.syn_grammar.specs.Derives.{Derives}
use Rattle.laws_binding.proofs.Sights.{both, seen_left, call_seen, field_alone}

abbrev numbers : Gram
numbers = star (sees (a_quoted ends_in_dot)) (literal are_indices)

passes : (b : Bool) (ts : List Token) → seen (cond b (Some ts) None) ≡ true → b ≡ true
passes true ts e = refl
passes false ts e = cc

past_numbers : (w : Tree) (cs : List ℕ) (rest : List Token) → Derives w numbers (Ident cs ∷ rest)
    → past_literals ends_in_dot (flat w ++ (Ident cs ∷ rest)) ≡ Some (Ident cs ∷ rest)
past_numbers End cs rest d = refl
past_numbers (Again (ALiteral ds) w) cs rest d =
    ap (λ b. cond b (past_literals ends_in_dot (flat w ++ (Ident cs ∷ rest)))
    (Some (Literal ds ∷ (flat w ++ (Ident cs ∷ rest))))) (passes (ends_in_dot ds) _ d.0)
    ∙ past_numbers w cs rest d.2
past_numbers (Again _ w) cs rest d = elim d.1 [ ]
past_numbers _ cs rest d = elim d [ ]

dot_then : (i : Spacing) (w : Tree) (cs : List ℕ) (rest : List Token) → Derives w numbers (Ident cs ∷ rest)
    → dot_stands (Punct 46 i ∷ (flat w ++ (Ident cs ∷ rest))) ≡ past_literals ends_in_dot (flat w ++ (Ident cs ∷ rest))
dot_then Apart End cs rest d = refl
dot_then Joint End cs rest d = refl
dot_then Apart (Again (ALiteral ds) w) cs rest d = refl
dot_then Joint (Again (ALiteral ds) w) cs rest d = refl
dot_then i (Again _ w) cs rest d = elim d.1 [ ]
dot_then i _ cs rest d = elim d [ ]

method_seen : (i : Spacing) (w : Tree) (cs : List ℕ) (rest : List Token) → Derives w numbers (Ident cs ∷ rest)
    → is_ident cs ≡ true → sees parenthesis rest ≡ true
    → seen ((dot_stands then an_ident then (parenthesis or marks "::")) (Punct 46 i ∷ (flat w ++ (Ident cs ∷ rest))))
    ≡ true
method_seen i w cs rest d e f =
    ap (λ o. seen (behind o (an_ident then (parenthesis or marks "::"))))
    (dot_then i w cs rest d ∙ past_numbers w cs rest d)
    ∙ ap (λ b. seen (behind (cond b (Some rest) None) (parenthesis or marks "::"))) e ∙ seen_left (parenthesis rest)
    (marks "::" rest) f

abbrev field_entry : Gram
field_entry = seq (seq (mark 46 []) (called the_indices numbers))
    (alt (sees an_ident) (called the_name (word is_ident)) (called the_value (literal are_indices)))

-- what such a field is
pub record Numbered (y : Tree) : Type 0 where
  pub spacing : Spacing
  pub indices : Tree
  pub value : Tree
  pub is : y ≡ Pair (Pair (AMark 46 [] spacing) (Called the_indices indices)) (Second (Called the_value value))

numbered_at : (q : Position) (rest : List Token) (y : Tree) → Derives y field_entry rest → back q (flat y ++ rest)
    ≡ Some ExprField → sees parenthesis rest ≡ true → Numbered y
numbered_at q rest (Pair (Pair (AMark c cs i) (Called n v)) (Second (Called m x))) d e f =
    record {
      spacing = i;
      indices = v;
      value = x;
      is = ap (λ b. Pair (Pair (AMark b cs i) (Called n v)) (Second (Called m x))) d.0.0.0
          ∙ ap (λ bs. Pair (Pair (AMark 46 bs i) (Called n v)) (Second (Called m x))) d.0.0.1
          ∙ ap (λ j. Pair (Pair (AMark 46 [] i) (Called j v)) (Second (Called m x))) d.0.1.0
          ∙ ap (λ j. Pair (Pair (AMark 46 [] i) (Called the_indices v)) (Second (Called j x))) d.1.1.0;
    }
numbered_at q rest (Pair (Pair (AMark c cs i) (Called n v)) (First (Called m (AWord ds)))) d e f =
    absurd (both _ (method_seen i v ds rest d.0.1.1 d.1.1.1 f) (field_alone q _ (ap (back q) (sym here) ∙ e)))
  where
    here : flat (Pair (Pair (AMark c cs i) (Called n v)) (First (Called m (AWord ds)))) ++ rest
        ≡ Punct 46 i ∷ (flat v ++ (Ident ds ∷ rest))
    here =
        ap (λ b. ((mark_tokens b cs i ++ flat v) ++ (Ident ds ∷ [])) ++ rest) d.0.0.0
        ∙ ap (λ bs. ((mark_tokens 46 bs i ++ flat v) ++ (Ident ds ∷ [])) ++ rest) d.0.0.1
        ∙ ap (λ ts. Punct 46 i ∷ ts) (append_assoc (flat v) (Ident ds ∷ []) rest)
numbered_at q rest (Pair (Pair (AMark c cs i) (Called n v)) (First (Called m _))) d e f = elim d.1.1.1 [ ]
numbered_at q rest (Pair (Pair (AMark c cs i) (Called n v)) (First _)) d e f = elim d.1.1 [ ]
numbered_at q rest (Pair (Pair (AMark c cs i) (Called n v)) (Second _)) d e f = elim d.1.1 [ ]
numbered_at q rest (Pair (Pair (AMark c cs i) (Called n v)) _) d e f = elim d.1 [ ]
numbered_at q rest (Pair (Pair (AMark c cs i) _) x) d e f = elim d.0.1 [ ]
numbered_at q rest (Pair (Pair _ v) x) d e f = elim d.0.0 [ ]
numbered_at q rest (Pair _ x) d e f = elim d.0 [ ]
numbered_at q rest _ d e f = elim d [ ]

pub numbered : (q r : Position) (rest : List Token) (y : Tree) → Derives y (table ExprField) rest
    → back q (flat y ++ rest) ≡ Some ExprField → back r rest ≡ Some ExprCall → Numbered y
unfolding table
numbered q r rest y d e f = numbered_at q rest y d e (call_seen r rest f)
