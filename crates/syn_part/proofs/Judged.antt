-- What is judged by whether it is kept is never its tokens alone.
use Rattle.std.specs.Prelude.{◌≡◌, Bool, true, false, List, not}
use Rattle.std.proofs.Common.{subst}
use Rattle.proc_macro2.specs.Token.{Token}
use Rattle.syn_grammar.specs.Derives.{Derives}
use Rattle.syn_grammar.specs.Gram.{Gram, AsRaw, judged, ref}
use Rattle.syn_grammar.specs.Kind.{SomeBounds, FieldPattern, FieldPatterns}
use Rattle.syn_grammar.specs.Part.{each_separated, in_group, some}
use Rattle.syn_grammar.specs.Patterns.{is_rest}
use Rattle.syn_grammar.specs.Say.{in_braces, many_to_end}
use Rattle.syn_grammar.specs.Table.{table}
use Rattle.syn_grammar.specs.Tree.{Tree, First, Verbatim, Node}
use Rattle.syn_grammar.specs.Types.{bounds, is_path_bound, kept_if}
use Rattle.syn_part.specs.Kept.{IsFirst, IsKept}

kept_alone : (b : Bool) → kept_if b ≡ AsRaw → ⊥
kept_alone true e = cc
kept_alone false e = cc

-- what is read by a judged entry whose verdict is whether it is kept is kept
pub kept_judged : (x : Tree) (p : Tree → Bool) (g : Gram) (rest : List Token)
    → Derives x (judged (λ y. kept_if (p y)) g) rest → IsFirst x
kept_judged (First x) p g rest d = tt
kept_judged (Verbatim x) p g rest d = absurd (kept_alone (p x) d.0)
kept_judged _ p g rest d = absurd d

pub kept_bounds : (x : Tree) (rest : List Token) → Derives x (ref SomeBounds) rest → IsKept x
unfolding table
kept_bounds (Node k x) rest d =
    let s : Derives x (table SomeBounds) rest = subst (λ z. Derives x (table z) rest) d.0 d.1 in
    kept_judged x (some is_path_bound) bounds rest s
kept_bounds _ rest d = absurd d

pub kept_fields : (x : Tree) (rest : List Token) → Derives x (ref FieldPatterns) rest → IsKept x
unfolding table
kept_fields (Node k x) rest d =
    let s : Derives x (table FieldPatterns) rest = subst (λ z. Derives x (table z) rest) d.0 d.1 in
    kept_judged x (in_group (each_separated (λ y. not (is_rest y)))) (in_braces (many_to_end (ref FieldPattern))) rest s
kept_fields _ rest d = absurd d

pub ruleset kept = (kept_bounds, kept_fields)
