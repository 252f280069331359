-- Tests of the tokens of trees.
use Rattle.std.proofs.Common.{◌≡◌, ℕ, zero, suc, ◌<◌, ◌≤◌, List, [], ◌∷◌, ◌++◌, length, get_or, refl, sym, ap, ◌∙◌}
use Rattle.std.proofs.Common.{arith, length-append}
use Rattle.std.specs.Prelude.{Bool, true, false, ◌&&◌, ◌||◌, if◌then◌else◌, Option, Some, None}
use Rattle.std.specs.List.{list_any}
use Rattle.rust_map.specs.Answers.{start_place}
use Rattle.rust_map.specs.Sources.{Sources, is_held}
use Rattle.rust_map.specs.Spans.{first_of}
use Rattle.rust_map.specs.declared.place.LineColumn.{LineColumn}
use Rattle.rust_map.specs.declared.span.Span.{Span}
use Rattle.proc_macro2.specs.Token.{Spanned}
use Rattle.proc_macro2.specs.Flat.{tree_tokens, trees_tokens}
use Rattle.proc_macro2.specs.declared.tree.TokenTree.{TokenTree}
use Rattle.canon.specs.Places.{begins_with, span_place}

-- a tree has no more tokens than the trees among which it stands
pub part_length : (ts : List TokenTree) (i : ℕ) (d : TokenTree) → i < length ts →
    length (tree_tokens (get_or ts i d)) ≤ length (trees_tokens ts)
part_length [] i d h = absurd (omega arith)
part_length (t ∷ ts) zero d h = omega (arith, length-append (tree_tokens t) (trees_tokens ts))
part_length (t ∷ ts) (suc i) d h = omega (
  arith,
  part_length ts i d (omega arith),
  length-append (tree_tokens t)
      (trees_tokens ts),
)

or_assoc : (a b c : Bool) → ((a || b) || c) ≡ (a || (b || c))
or_assoc true b c = refl
or_assoc false b c = refl

any_append : (p : Spanned → Bool) (ss ts : List Spanned) → list_any p (ss ++ ts) ≡ (list_any p ss || list_any p ts)
any_append p [] ts = refl
any_append p (s ∷ ss) ts = ap (λ b. p s || b) (any_append p ss ts)
    ∙ sym (or_assoc (p s) (list_any p ss) (list_any p ts))

-- one of the tokens of trees passes where one of a tree of them does
pub any_trees : (p : Spanned → Bool) (ts : List TokenTree) → list_any p (trees_tokens ts) ≡
    list_any (λ t. list_any p (tree_tokens t)) ts
any_trees p [] = refl
any_trees p (t ∷ ts) = any_append p (tree_tokens t) (trees_tokens ts)
    ∙ ap (λ b. list_any p (tree_tokens t) || b) (any_trees p ts)

or_false : (b : Bool) → (b || false) ≡ b
or_false true = refl
or_false false = refl

or_swap : (a b c : Bool) → (a || (b || c)) ≡ ((a || c) || b)
or_swap true b c = refl
or_swap false true true = refl
or_swap false true false = refl
or_swap false false c = sym (or_false c)

-- and of those of a group where one of its marks or one inside does
pub any_group : (p : Spanned → Bool) (opens closes : Spanned) (ss : List Spanned) →
    list_any p (opens ∷ ss ++ closes ∷ []) ≡ ((p opens || p closes) || list_any p ss)
any_group p opens closes ss =
    ap (λ b. p opens || b) (any_append p ss (closes ∷ []) ∙ ap (λ b. list_any p ss || b) (or_false (p closes)))
    ∙ or_swap (p opens) (list_any p ss) (p closes)

-- a place where both tests pass, and where one fails
both_pass : (a b : Bool) (x : Option LineColumn) → a ≡ true → b ≡ true → x ≡ (if a && b then x else None)
both_pass true true x e f = refl
both_pass true false x e f = cc
both_pass false b x e f = cc

one_fails : (a b : Bool) (x : Option LineColumn) → (a && b) ≡ false → None ≡ (if a && b then x else None)
one_fails true true x e = cc
one_fails true false x e = refl
one_fails false b x e = refl

and_false : (a b : Bool) → b ≡ false → (a && b) ≡ false
and_false true b e = e
and_false false b e = refl

-- whether a token begins with the first character of a span, asked of trees
abbrev pub any_begun : Span → List TokenTree → Bool
any_begun first ts = list_any (λ t. list_any (begins_with first) (tree_tokens t)) ts

begun_is : (span first : Span) (ts : List TokenTree) (tokens : List Spanned) (b : Bool) → first ≡ first_of span →
    trees_tokens ts ≡ tokens → any_begun first ts ≡ b → list_any (begins_with (first_of span)) tokens ≡ b
begun_is span first ts tokens b e f h =
    ap (λ (s : Span). list_any (begins_with s) tokens) (sym e) ∙ ap (list_any (begins_with first)) (sym f)
    ∙ any_trees (begins_with first) ts ∙ h

pub span_found : (map : Sources) (span first : Span) (ts : List TokenTree) (tokens : List Spanned) (p : LineColumn) →
    first ≡ first_of span → trees_tokens ts ≡ tokens → is_held map first ≡ true → any_begun first ts ≡ true →
    p ≡ start_place map first → Some p ≡ span_place map span tokens
span_found map span first ts tokens p e f held any is =
    ap Some (is ∙ ap (start_place map) e)
    ∙ both_pass (is_held map (first_of span)) (list_any (begins_with (first_of span)) tokens) _
    (ap (is_held map) (sym e) ∙ held) (begun_is span first ts tokens true e f any)

pub span_not_held : (map : Sources) (span first : Span) (tokens : List Spanned) → first ≡ first_of span →
    is_held map first ≡ false → None ≡ span_place map span tokens
span_not_held map span first tokens e held =
    one_fails (is_held map (first_of span)) (list_any (begins_with (first_of span)) tokens) _
    (ap (λ b. b && list_any (begins_with (first_of span)) tokens) (ap (is_held map) (sym e) ∙ held))

pub span_not_begun : (map : Sources) (span first : Span) (ts : List TokenTree) (tokens : List Spanned) →
    first ≡ first_of span → trees_tokens ts ≡ tokens → any_begun first ts ≡ false → None ≡ span_place map span tokens
span_not_begun map span first ts tokens e f any =
    one_fails (is_held map (first_of span)) (list_any (begins_with (first_of span)) tokens) _
    (and_false (is_held map (first_of span)) _ (begun_is span first ts tokens false e f any))
