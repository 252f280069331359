use Rattle.std.proofs.Common.{◌≡◌, drop}
use Rattle.std.specs.List.{list_any}
use Rattle.rust_leaf.specs.Leaf.{ident_text}
use Rattle.syn_kinds.specs.Table.{kept_words}
use Rattle.rust_leaf.specs.Keywords.{same_text}
use Rattle.syn_kinds.proofs.table.is_kept.Given as goal

abbrev pub invariant-loop-kind : goal.invariant-loop-kind
invariant-loop-kind l =
    list_any (λ word. same_text word (ident_text l.ident)) (drop l.kind kept_words)
    ≡ list_any (λ word. same_text word (ident_text l.ident)) kept_words
