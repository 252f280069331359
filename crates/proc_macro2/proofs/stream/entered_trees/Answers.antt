use Rattle.std.proofs.Common.{◌++◌, [], ◌∷◌, sym, ap, ◌∙◌, subst}
use Rattle.std.proofs.lemmas.List.{append-nil}
use Rattle.std.proofs.lemmas.List.Concat.{flat_map-append}
use Rattle.std.specs.List.{flat_map}
use Rattle.proc_macro2.specs.Entered.{entered}
use Rattle.proc_macro2.specs.Stream.{IsStream}
use Rattle.proc_macro2.proofs.StreamLemmas.{joined_stream}
use Rattle.proc_macro2.proofs.stream.entered_trees.Goals as goal

pub loop-tree-preserved : goal.loop-tree-preserved
loop-tree-preserved c = (
  c.in_ok-enter.ensures.added ∙ ap (λ ts. ts ++ entered c.in-Some.tree) c.loop-tree.invariant.0
      ∙ sym (flat_map-append entered c.loop-tree.yielded (c.in-Some.tree ∷ [])
      ∙ ap (λ ts. flat_map entered c.loop-tree.yielded ++ ts) (append-nil (entered c.in-Some.tree))),
  subst IsStream (sym c.in_ok-enter.ensures.added)
      (joined_stream _ _ c.loop-tree.invariant.1 c.in_ok-enter.ensures.known),
)
