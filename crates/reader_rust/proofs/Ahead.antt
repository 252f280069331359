-- What is left to be listed, where one more is.
use Rattle.std.specs.Prelude.{ℕ, suc}
use Rattle.std.proofs.Common.{◌≡◌, ◌+◌, List, [], ◌∷◌, ◌++◌, ap, ap₂, ◌∙◌, refl, sym}
use Rattle.std.proofs.Common.{append_assoc, arith, length}
use Rattle.std.proofs.lemmas.List.{append-nil}
use Rattle.std.proofs.lemmas.List.Sums.{sum_by-append}
use Rattle.syn_grammar.specs.Names.{Name}
use Rattle.reader_tree.proofs.Flat.{flat_seconds}
use Rattle.reader_rust.specs.Ahead.{ahead_names, ahead_tokens, ahead_weight, next_names, next_tokens, next_weight}
use Rattle.reader_rust.specs.declared.names.Next.{Next}
use Rattle.reader_rust.proofs.Counts.{seconds_nodes, turns_nodes}

pub tokens_more : (ws : List Next) (w : Next) → ahead_tokens (ws ++ w ∷ []) ≡ next_tokens w + ahead_tokens ws
tokens_more ws w = omega (arith, sum_by-append next_tokens ws (w ∷ []))

pub weight_more : (ws : List Next) (w : Next) → ahead_weight (ws ++ w ∷ []) ≡ next_weight w + ahead_weight ws
weight_more ws w = omega (arith, sum_by-append next_weight ws (w ∷ []))

-- the same place
at_place : (n m : ℕ) (ws : List Next) → n ≡ m → ahead_names n ws ≡ ahead_names m ws
at_place n m ws h = ap (λ i. ahead_names i ws) h

named_at : (n m : ℕ) (w : Next) → n ≡ m → next_names n w ≡ next_names m w
named_at n m w h = ap (λ i. next_names i w) h

pub names_more : (n : ℕ) (ws : List Next) (w : Next)
    → ahead_names n (ws ++ w ∷ []) ≡ next_names n w ++ ahead_names (n + next_tokens w) ws
names_more n [] w = named_at (n + 0) n w (omega arith) ∙ sym (append-nil (next_names n w))
names_more n (v ∷ ws) w =
    ap₂ (λ xs ys. xs ++ ys) (names_more n ws w)
    (named_at (n + ahead_tokens (ws ++ w ∷ [])) (n + next_tokens w + ahead_tokens ws) v
    (omega (arith, tokens_more ws w)))
    ∙ append_assoc (next_names n w) (ahead_names (n + next_tokens w) ws)
    (next_names (n + next_tokens w + ahead_tokens ws) v)

pub names_two : (n : ℕ) (ws : List Next) (v w : Next)
    → ahead_names n ((ws ++ v ∷ []) ++ w ∷ [])
    ≡ next_names n w ++ (next_names (n + next_tokens w) v ++ ahead_names (n + (next_tokens w + next_tokens v)) ws)
names_two n ws v w =
    names_more n (ws ++ v ∷ []) w
    ∙ ap (λ xs. next_names n w ++ xs) (names_more (n + next_tokens w) ws v
    ∙ ap (λ xs. next_names (n + next_tokens w) v ++ xs)
    (at_place (n + next_tokens w + next_tokens v) (n + (next_tokens w + next_tokens v)) ws (omega arith)))

pub at_zero : (n : ℕ) (ws : List Next) → ahead_names (n + 0) ws ≡ ahead_names n ws
at_zero n ws = at_place (n + 0) n ws (omega arith)

-- behind a group
pub at_group : (n m : ℕ) (ws : List Next) → ahead_names (n + 1 + (m + 1)) ws ≡ ahead_names (n + suc (m + 1)) ws
at_group n m ws = at_place (n + 1 + (m + 1)) (n + suc (m + 1)) ws (omega arith)

pub ruleset aheads = (names_more, tokens_more, weight_more)

pub ruleset both = (names_two, tokens_more, weight_more)

pub ruleset steps = (append_assoc, append-nil, at_group, at_zero, flat_seconds, seconds_nodes, turns_nodes)
