-- Patterns of their forms have that form, and the shape of their entry where the form has it.
use Rattle.std.specs.Prelude.{◌≡◌, Option, Some, None, refl}
use Rattle.std.proofs.Common.{◌∙◌, ap, subst, sym}
use Rattle.syn_pat.specs.Pat.{form_of_pat, pat_tree}
use Rattle.syn_part.specs.Shape.{IsShaped}
use Rattle.syn_pat.specs.declared.pat.Pat.{Pat}
use Rattle.syn_pat.specs.declared.patterns.PatOr.{PatOr}
use Rattle.syn_pat.specs.declared.patterns.RangeBound.{RangeBound}
use Rattle.syn_pat.specs.declared.pat.Pat.TheVariants as pats
use Rattle.syn_pat.specs.declared.patterns.RangeBound.TheVariants as bounds
use Rattle.syn_grammar.specs.Gram as g
use Rattle.syn_grammar.specs.Kind as k
use Rattle.syn_grammar.specs.Part.{choice}
use Rattle.syn_grammar.specs.Patterns.{one_pattern}
use Rattle.syn_grammar.specs.Table.{table}
use Rattle.syn_grammar.specs.Tree as t
use Rattle.syn_grammar.specs.Tree.{Tree}
use Rattle.syn_wrapped.specs.Patterns.{one_form_of, one_inside, one_pattern_tree, pat_kind, pattern_form_of}
use Rattle.syn_wrapped.specs.Patterns.{pattern_tree, range_inside_one, range_kind, several_form_of, several_tree}

range_choice : (o : Option RangeBound) (x : Tree) → choice (range_inside_one o x) ≡ choice x
range_choice None x = refl
range_choice (Some (bounds.Lit l)) x = refl
range_choice (Some (bounds.Path p)) x = refl

pub one_form_is : (x : Pat) → form_of_pat (one_pattern_tree x) ≡ one_form_of x
one_form_is (pats.Range x) = range_choice x.start (pat_tree (pats.Range x))
one_form_is x = refl

pub pattern_form_is : (x : Pat) → form_of_pat (pattern_tree x) ≡ pattern_form_of x
pattern_form_is (pats.Range x) = range_choice x.start (pat_tree (pats.Range x))
pattern_form_is x = refl

pub several_form_is : (x : Pat) → form_of_pat (several_tree x) ≡ several_form_of x
several_form_is (pats.Range x) = range_choice x.start (pat_tree (pats.Range x))
several_form_is x = refl

range_shaped : (o : Option RangeBound) (x : Tree) → IsShaped x (g.ref (range_kind o))
    → IsShaped (range_inside_one o x) one_pattern
range_shaped None x h = h
range_shaped (Some (bounds.Lit l)) x h = h
range_shaped (Some (bounds.Path p)) x h = h

one_inside_shaped : (x : Pat) → IsShaped (pat_tree x) (g.ref (pat_kind x)) → IsShaped (one_inside x) one_pattern
unfolding table
one_inside_shaped (pats.Range x) h = range_shaped x.start (pat_tree (pats.Range x)) h
one_inside_shaped (pats.Or x) h = (refl, (refl, h))
one_inside_shaped x h = h

pub one_shaped : (x : Pat) → IsShaped (pat_tree x) (g.ref (pat_kind x))
    → IsShaped (one_pattern_tree x) (g.ref k.OnePattern)
unfolding table
one_shaped x h = (refl, one_inside_shaped x h)

pub pattern_shaped : (x : Pat) → IsShaped (pat_tree x) (g.ref (pat_kind x))
    → IsShaped (pattern_tree x) (g.ref k.Pattern)
unfolding table
pattern_shaped (pats.Or x) h = h
pattern_shaped x h = (refl, (tt, (one_shaped x h, tt)))

pub several_shaped : (x : Pat) → IsShaped (pat_tree x) (g.ref (pat_kind x))
    → IsShaped (several_tree x) (g.ref k.SeveralPatterns)
unfolding table
several_shaped (pats.Or x) h = (refl, h.1.1)
several_shaped x h = (refl, (one_shaped x h, tt))

-- what is no alternatives stands alone
pub pattern_alone : (x : Pat) → ((y : PatOr) → x ≡ pats.Or y → ⊥)
    → t.Node k.Pattern (t.Pair (t.Second t.Nil) (t.Pair (one_pattern_tree x) t.End)) ≡ pattern_tree x
pattern_alone (pats.Or y) d = absurd (d y refl)
pattern_alone x d = refl

pub several_alone : (x : Pat) → ((y : PatOr) → x ≡ pats.Or y → ⊥)
    → t.Node k.SeveralPatterns (t.Pair (one_pattern_tree x) t.End) ≡ several_tree x
several_alone (pats.Or y) d = absurd (d y refl)
several_alone x d = refl

-- a tree that is this one has its form and its shape
pub one_at : (p : Pat) (x y : Tree) → x ≡ t.Node k.OnePattern y → y ≡ one_inside p → x ≡ one_pattern_tree p
one_at p x y e d = e ∙ ap (t.Node k.OnePattern) d

pub one_form_at : (p : Pat) (x : Tree) → x ≡ one_pattern_tree p → form_of_pat x ≡ one_form_of p
one_form_at p x e = ap form_of_pat e ∙ one_form_is p

pub one_shaped_at : (p : Pat) (x : Tree) → x ≡ one_pattern_tree p → IsShaped (pat_tree p) (g.ref (pat_kind p))
    → IsShaped x (g.ref k.OnePattern)
one_shaped_at p x e h = subst (λ z. IsShaped z (g.ref k.OnePattern)) (sym e) (one_shaped p h)

pub pattern_at : (p : Pat) (x y : Tree) → ((z : PatOr) → p ≡ pats.Or z → ⊥)
    → x ≡ t.Node k.Pattern (t.Pair (t.Second t.Nil) (t.Pair y t.End)) → y ≡ one_pattern_tree p → x ≡ pattern_tree p
pattern_at p x y d e f =
    (e ∙ ap (λ z. t.Node k.Pattern (t.Pair (t.Second t.Nil) (t.Pair z t.End))) f) ∙ pattern_alone p d

pub pattern_form_at : (p : Pat) (x : Tree) → x ≡ pattern_tree p → form_of_pat x ≡ pattern_form_of p
pattern_form_at p x e = ap form_of_pat e ∙ pattern_form_is p

pub pattern_shaped_at : (p : Pat) (x : Tree) → x ≡ pattern_tree p → IsShaped (pat_tree p) (g.ref (pat_kind p))
    → IsShaped x (g.ref k.Pattern)
pattern_shaped_at p x e h = subst (λ z. IsShaped z (g.ref k.Pattern)) (sym e) (pattern_shaped p h)

pub several_at : (p : Pat) (x y : Tree) → ((z : PatOr) → p ≡ pats.Or z → ⊥)
    → x ≡ t.Node k.SeveralPatterns (t.Pair y t.End) → y ≡ one_pattern_tree p → x ≡ several_tree p
several_at p x y d e f = (e ∙ ap (λ z. t.Node k.SeveralPatterns (t.Pair z t.End)) f) ∙ several_alone p d

pub several_form_at : (p : Pat) (x : Tree) → x ≡ several_tree p → form_of_pat x ≡ several_form_of p
several_form_at p x e = ap form_of_pat e ∙ several_form_is p

pub several_shaped_at : (p : Pat) (x : Tree) → x ≡ several_tree p → IsShaped (pat_tree p) (g.ref (pat_kind p))
    → IsShaped x (g.ref k.SeveralPatterns)
several_shaped_at p x e h = subst (λ z. IsShaped z (g.ref k.SeveralPatterns)) (sym e) (several_shaped p h)

pub ruleset one_whole = (one_at, one_form_at, one_shaped_at)

pub ruleset pattern_whole = (pattern_at, pattern_form_at, pattern_shaped_at)

pub ruleset several_whole = (several_at, several_form_at, several_shaped_at)
