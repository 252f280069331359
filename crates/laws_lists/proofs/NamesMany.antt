-- Names and punctuations are entries of the written grammar.
use Rattle.std.proofs.Common.{◌≡◌, ◌<◌, ℕ, List, [], ◌∷◌, drop, get_or, length, refl, sym, ap, ◌∙◌, subst, arith}
use Rattle.std.proofs.lemmas.Bool.{leb-true}
use Rattle.std.specs.Prelude.{Bool, true, false, cond, ◌==◌, ◌&&◌, Option, Some, None}
use Rattle.rust_map.specs.declared.span.Span.{Span}
use Rattle.rust_leaf.specs.Leaf.{ident_span, ident_text}
use Rattle.rust_leaf.specs.declared.punct.Spacing.TheVariants.{Alone as Apart, Joint}
use Rattle.proc_macro2.specs.Token.{Token, Opens, Closes, Ident, Literal, Punct, plain}
use Rattle.syn_kinds.specs.Stands.{ident_stands, marks_stand}
use Rattle.syn_kinds.specs.Table.{marks}
use Rattle.rust_leaf.specs.Keywords.{is_reserved}
use Rattle.syn_kinds.proofs.Marks.{mark_at as row_mark, marks_count}
use Rattle.syn_buffer.specs.Leaves.{ident_token}
use Rattle.syn_peek.specs.Marks.{ReadsMarks}
use Rattle.syn_grammar.specs.Look.{past_marks, seen, sees}
use Rattle.syn_grammar.specs.Ranks.{top}
use Rattle.syn_grammar.specs.Say.{ident}
use Rattle.laws_lists.specs.Leaves.{mark_of}
use Rattle.laws_lists.proofs.Leaves.{ident_none, ident_read, marks_none, marks_read}
use Rattle.laws_lists.specs.Chain.{others_of}
use Rattle.laws_lists.specs.Many.{IsEntry, IsListable, IsSeparator, name_tree}

-- a name takes a token
pub name_listable : IsListable ident
unfolding top
name_listable = (refl, refl, leb-true 1 top refl)

pub name_entry : IsEntry ident name_tree
    (λ ts i us. (ts ≡ ident_token i ∷ us) × (is_reserved (ident_text i) ≡ false))
    (λ ts. ident_stands (plain ts) ≡ false)
name_entry = record {
  found = λ ts i us h. ident_read (ident_text i) (ident_span i) ts us h.0 h.1;
  none = ident_none;
}

joint_seen : (b s : Bool) (o : Option (List Token)) → s ≡ seen o → ((b && true) && s) ≡ seen (cond b o None)
joint_seen true s o e = e
joint_seen false s o e = refl

apart_seen : (b s : Bool) → ((b && false) && s) ≡ false
apart_seen true s = refl
apart_seen false s = refl

last_seen : (b : Bool) (ts : List Token) → seen (cond b (Some ts) None) ≡ b
last_seen true ts = refl
last_seen false ts = refl

-- marks are seen where the grammar sees them
sees_marks : (c : ℕ) (cs : List ℕ) (ts : List Token) → marks_stand (c ∷ cs) ts ≡ sees (past_marks c cs) ts
sees_marks c [] [] = refl
sees_marks c [] (Punct d spacing ∷ ts) = sym (last_seen (d == c) ts)
sees_marks c [] (Opens d ∷ ts) = refl
sees_marks c [] (Closes d ∷ ts) = refl
sees_marks c [] (Ident cs ∷ ts) = refl
sees_marks c [] (Literal cs ∷ ts) = refl
sees_marks c (e ∷ es) [] = refl
sees_marks c (e ∷ es) (Punct d Joint ∷ ts) =
    joint_seen (d == c) (marks_stand (e ∷ es) ts) (past_marks e es ts) (sees_marks e es ts)
sees_marks c (e ∷ es) (Punct d Apart ∷ ts) = apart_seen (d == c) (marks_stand (e ∷ es) ts)
sees_marks c (e ∷ es) (Opens d ∷ ts) = refl
sees_marks c (e ∷ es) (Closes d ∷ ts) = refl
sees_marks c (e ∷ es) (Ident cs ∷ ts) = refl
sees_marks c (e ∷ es) (Literal cs ∷ ts) = refl

module _ {P : Type 0} (spans : P → List Span) where
  separator_of : (ms : List ℕ) (c : ℕ) (cs : List ℕ) → ms ≡ c ∷ cs → IsSeparator {P = P} c cs
      (λ ts p us. ReadsMarks ms (spans p) ts us) (λ ts. marks_stand ms (plain ts) ≡ false) (marks_stand ms)
  separator_of ms c cs is =
      subst (λ xs. IsSeparator {P = P} c cs (λ ts p us. ReadsMarks xs (spans p) ts us)
      (λ ts. marks_stand xs (plain ts) ≡ false) (marks_stand xs)) (sym is) (record {
        entry = record {
          found = λ ts p us r. marks_read (c ∷ cs) (spans p) ts us r;
          none = marks_none (c ∷ cs);
        };
        seen = sees_marks c cs;
      })

  first_of : (xs : List ℕ) (d : ℕ) → 0 < length xs → xs ≡ get_or xs 0 d ∷ drop 1 xs
  first_of [] d h = absurd (omega arith)
  first_of (x ∷ xs) d h = refl

  none_of : (xs : List ℕ) → length xs ≡ 1 → drop 1 xs ≡ []
  none_of [] h = refl
  none_of (x ∷ []) h = refl
  none_of (x ∷ y ∷ xs) h = absurd (omega arith)

  -- a punctuation of so many marks, and of one
  pub marks_separator : (kind width : ℕ) → 0 < width → IsSeparator {P = P} (mark_of kind) (others_of kind width)
      (λ ts p us. ReadsMarks (marks kind width) (spans p) ts us)
      (λ ts. marks_stand (marks kind width) (plain ts) ≡ false) (marks_stand (marks kind width))
  marks_separator kind width some =
      separator_of (marks kind width) (mark_of kind) (others_of kind width)
      (first_of (marks kind width) 126 (omega (arith, some, marks_count kind width))
      ∙ ap (λ c. c ∷ others_of kind width) (row_mark kind width 0 some))

  pub mark_separator : (kind : ℕ) → IsSeparator {P = P} (mark_of kind) []
      (λ ts p us. ReadsMarks (marks kind 1) (spans p) ts us) (λ ts. marks_stand (marks kind 1) (plain ts) ≡ false)
      (marks_stand (marks kind 1))
  mark_separator kind =
      separator_of (marks kind 1) (mark_of kind) []
      (first_of (marks kind 1) 126 (omega (arith, marks_count kind 1))
      ∙ ap (λ c. c ∷ others_of kind 1) (row_mark kind 1 0 (omega arith))
      ∙ ap (λ cs. mark_of kind ∷ cs) (none_of (marks kind 1) (marks_count kind 1)))
