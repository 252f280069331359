-- How many segments a tree has, by its form; and that segments are one more than those behind the first.
use Rattle.std.specs.Prelude.{◌≡◌, ℕ, zero, suc, Bool, true, false, List, [], ◌∷◌, Option, Some, None, refl}
use Rattle.std.proofs.Common.{ap, subst, sym}
use Rattle.proc_macro2.specs.Token.{Token}
use Rattle.rust_leaf.specs.declared.punct.Spacing.{Spacing}
use Rattle.reader_table.specs.Kinds.{kind_of, style_of}
use Rattle.reader_table.specs.declared.kind.Kind.{Kind}
use Rattle.reader_table.specs.declared.kind.Kind.TheVariants as kinds
use Rattle.reader_table.specs.declared.kind.Style.{Style as GivenStyle}
use Rattle.reader_tree.specs.declared.tree.Element.{Element}
use Rattle.reader_tree.specs.Forms.{mark_of, seconds, turns, elements, ending}
use Rattle.syn_ast.specs.Paths.{behind_keyword, behind_name, segments, segments_inside}
use Rattle.syn_ast.specs.Position.{further_count, path_count, segment_count}
use Rattle.syn_part.specs.Shape.{IsShaped}
use Rattle.syn_ast.specs.declared.paths.PathArguments.{PathArguments}
use Rattle.syn_ast.specs.declared.paths.PathSegment.{PathSegment}
use Rattle.syn_part.specs.declared.sub.Marked.{Marked}
use Rattle.syn_ast.specs.declared.paths.PathArguments.TheVariants as arguments
use Rattle.syn_ast.specs.declared.paths.Segments.{Segments}
use Rattle.syn_grammar.specs.Gram as g
use Rattle.syn_grammar.specs.Kind as k
use Rattle.syn_grammar.specs.Table.{table}
use Rattle.syn_grammar.specs.Tree as t
use Rattle.syn_grammar.specs.Tree.{Tree}

pub count_seconds : (n : ℕ) (x : Tree) → segment_count (seconds n x) ≡ segment_count x
count_seconds zero x = refl
count_seconds (suc n) x = count_seconds n x

pub count_mark : (cs : List ℕ) (spacing : Spacing) → segment_count (mark_of cs spacing) ≡ 0
count_mark [] spacing = refl
count_mark (c ∷ cs) spacing = refl

pub count_turns : (xs : List Tree) → segment_count (turns xs) ≡ 0
count_turns [] = refl
count_turns (x ∷ xs) = refl

pub count_elements : {A : Type 0} (c : ℕ) (es : List Element) (f : A → Tree) (o : Option A)
    → segment_count (elements c es (ending f o)) ≡ 0
count_elements c [] f None = refl
count_elements c [] f (Some y) = refl
count_elements c (e ∷ es) f o = refl

-- a node of another kind holds no segment at its end
pub count_other : (a : Kind) (x : Tree) → ((s : GivenStyle) → a ≡ kinds.Segments s → ⊥)
    → segment_count (t.Node (kind_of a) x) ≡ 0
count_other (kinds.Segments s) x f = absurd (f s refl)
count_other _ x f = refl

pub path_seconds : (n : ℕ) (x : Tree) → path_count (seconds n (t.First x)) ≡ 0
path_seconds zero x = refl
path_seconds (suc n) x = refl

pub path_mark : (cs : List ℕ) (spacing : Spacing) → path_count (mark_of cs spacing) ≡ 0
path_mark [] spacing = refl
path_mark (c ∷ cs) spacing = refl

pub path_turns : (xs : List Tree) → path_count (turns xs) ≡ 0
path_turns [] = refl
path_turns (x ∷ xs) = refl

pub path_elements : {A : Type 0} (c : ℕ) (es : List Element) (f : A → Tree) (o : Option A)
    → path_count (elements c es (ending f o)) ≡ 0
path_elements c [] f None = refl
path_elements c [] f (Some y) = refl
path_elements c (e ∷ es) f o = refl

-- a node of another kind is no path
pub path_other : (a : Kind) (x : Tree) → ((s : GivenStyle) → a ≡ kinds.Path s → ⊥)
    → path_count (t.Node (kind_of a) x) ≡ 0
path_other (kinds.Path s) x f = absurd (f s refl)
path_other _ x f = refl

pub ruleset counts = (
  count_seconds,
  count_mark,
  count_turns,
  count_elements,
  count_other,
  path_seconds,
  path_mark,
  path_turns,
  path_elements,
  path_other,
)

-- arguments in parentheses end in no segment
in_parentheses : (x : Tree) → IsShaped x (g.ref k.ParenthesizedArguments) → segment_count x ≡ 0
in_parentheses (t.Node l x) h = subst (λ z. segment_count (t.Node z x) ≡ 0) (sym h.0) refl
in_parentheses _ h = absurd h

behind_keyword_counted : (a : PathArguments) (o : Option Marked) (r : List Token → Bool) (b : g.Gram)
    → IsShaped (behind_keyword a o) (g.alt r b g.nothing) → segment_count (behind_keyword a o) ≡ further_count o
behind_keyword_counted arguments.None None r b h = refl
behind_keyword_counted arguments.None (Some m) r b h = refl
behind_keyword_counted (arguments.AngleBracketed x) o r b h = absurd h
behind_keyword_counted (arguments.Parenthesized x) o r b h = absurd h

behind_name_counted : (a : PathArguments) (o : Option Marked) (r u v : List Token → Bool) (b e : g.Gram)
    → IsShaped (behind_name a o) (g.alt r b (g.alt u e (g.alt v (g.ref k.ParenthesizedArguments) g.nothing)))
    → segment_count (behind_name a o) ≡ further_count o
behind_name_counted (arguments.AngleBracketed x) None r u v b e h = refl
behind_name_counted (arguments.AngleBracketed x) (Some m) r u v b e h = refl
behind_name_counted arguments.None None r u v b e h = refl
behind_name_counted arguments.None (Some m) r u v b e h = refl
behind_name_counted (arguments.Parenthesized x) None r u v b e h = in_parentheses x.now h
behind_name_counted (arguments.Parenthesized x) (Some m) r u v b e h = absurd h

inside_counted : (c : Bool) (s : k.Style) (x : PathSegment) (o : Option Marked)
    → IsShaped (segments_inside c x o) (table (k.Segments s)) → segment_count (segments_inside c x o) ≡ further_count o
unfolding table
inside_counted true s x o h = behind_keyword_counted x.arguments o _ _ h.1
inside_counted false s x o h = behind_name_counted x.arguments o _ _ _ _ _ h.1

pub segments_counted : (x : Segments) (s : k.Style) → IsShaped (segments x) (g.ref (k.Segments s))
    → segment_count (segments x) ≡ suc (further_count x.others)
segments_counted x s h = ap suc (inside_counted x.is_keyword (style_of x.style) x.first x.others h.1)
