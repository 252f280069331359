-- How many tokens trees have, and of how many nodes they are made.
use Rattle.std.specs.Prelude.{ℕ, zero, suc}
use Rattle.std.proofs.Common.{◌≡◌, ◌+◌, List, [], ◌∷◌, ◌++◌, refl, length, arith}
use Rattle.std.proofs.lemmas.List.{length-append}
use Rattle.std.proofs.lemmas.List.Sums.{sum_by-append}
use Rattle.proc_macro2.specs.Token.{Punct}
use Rattle.syn_grammar.specs.Tree.{Tree, flat}
use Rattle.reader_tree.specs.declared.tree.Element.{Element}
use Rattle.reader_tree.specs.Forms.{elements, seconds, turns}
use Rattle.reader_tree.specs.Size.{node_count}
use Rattle.reader_tree.proofs.Counted.{marks_counted}
use Rattle.reader_tree.proofs.Flat.{flat_seconds}
use Rattle.reader_rust.specs.Count.{element_nodes, element_tokens, tokens_left, tokens_of, turn_nodes, turn_tokens}
use Rattle.reader_rust.specs.Count.{weight_left, weight_of}
use Rattle.reader_rust.specs.declared.count.Left.{Left}

pub turns_tokens : (xs : List Tree) → length (flat (turns xs)) ≡ turn_tokens xs
turns_tokens [] = refl
turns_tokens (x ∷ xs) = omega (arith, length-append (flat x) (flat (turns xs)), turns_tokens xs)

pub turns_nodes : (xs : List Tree) → node_count (turns xs) ≡ suc (turn_nodes xs)
turns_nodes [] = refl
turns_nodes (x ∷ xs) = omega (arith, turns_nodes xs)

pub elements_tokens : (c : ℕ) (es : List Element) (y : Tree)
    → length (flat (elements c es y)) ≡ element_tokens es + length (flat y)
elements_tokens c [] y = omega arith
elements_tokens c (e ∷ es) y =
    omega (arith, length-append (flat e.tree) (Punct c e.spacing ∷ flat (elements c es y)), elements_tokens c es y)

pub elements_nodes : (c : ℕ) (es : List Element) (y : Tree)
    → node_count (elements c es y) ≡ element_nodes es + node_count y
elements_nodes c [] y = omega arith
elements_nodes c (e ∷ es) y = omega (arith, elements_nodes c es y)

pub seconds_nodes : (n : ℕ) (x : Tree) → node_count (seconds n x) ≡ n + node_count x
seconds_nodes zero x = omega arith
seconds_nodes (suc n) x = omega (arith, seconds_nodes n x)

pub ruleset forms = (
  flat_seconds,
  marks_counted,
  length-append,
  turns_tokens,
  turns_nodes,
  elements_tokens,
  elements_nodes,
  seconds_nodes,
)

-- one more is left
pub tokens_more : (ws : List Left) (w : Left) → tokens_left (ws ++ w ∷ []) ≡ tokens_of w + tokens_left ws
tokens_more ws w = omega (arith, sum_by-append tokens_of ws (w ∷ []))

pub weight_more : (ws : List Left) (w : Left) → weight_left (ws ++ w ∷ []) ≡ weight_of w + weight_left ws
weight_more ws w = omega (arith, sum_by-append weight_of ws (w ∷ []))

pub ruleset lefts = (tokens_more, weight_more)
