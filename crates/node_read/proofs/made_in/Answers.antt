use Rattle.std.proofs.Common.{◌∙◌, ◌++◌, List, ap, subst, sym}
use Rattle.proc_macro2.specs.Token.{Token}
use Rattle.reader_rust.proofs.Behind.{left}
use Rattle.reader_steps.specs.Answers.{tokens}
use Rattle.syn_buffer.specs.declared.entry.Entry.{Entry}
use Rattle.syn_grammar.specs.Derives.{Derives}
use Rattle.syn_grammar.specs.Gram.{ref}
use Rattle.syn_grammar.specs.Tree.{Tree, flat}
use Rattle.node_read.proofs.made_in.Goals as goal

pub returns-in-Ok-clause-found : goal.returns-in-Ok-clause-found
returns-in-Ok-clause-found g c =
    let tree : Tree = c.in_ok-tree.tree in
    let es : List Entry = c.args.entries.now in
    let others : List Entry = c.in_ok-tree.rest.now in
    let form = left (flat tree) es others c.in_ok-tree.ensures.found.1 c.requires c.in_ok-tree.ensures.whole in
    record {
      tree = tree;
      derived = subst (λ ts. Derives tree (ref g.M.Makes.kind) ts) (sym form.same)
          (subst (λ k. Derives tree (ref k) (tokens others)) c.kind.ensures c.in_ok-tree.ensures.found.0);
      spelled = ap (λ (ts : List Token). flat tree ++ ts) form.same ∙ c.in_ok-tree.ensures.found.1;
      kept_is = sym c.in-Ok.ensures;
    }

pub returns-in-Ok-clause-within : goal.returns-in-Ok-clause-within
returns-in-Ok-clause-within g c =
    (left (flat c.in_ok-tree.tree) c.args.entries.now c.in_ok-tree.rest.now c.in_ok-tree.ensures.found.1 c.requires
    c.in_ok-tree.ensures.whole).within

pub returns-in-Ok-clause-whole : goal.returns-in-Ok-clause-whole
returns-in-Ok-clause-whole g c =
    (left (flat c.in_ok-tree.tree) c.args.entries.now c.in_ok-tree.rest.now c.in_ok-tree.ensures.found.1 c.requires
    c.in_ok-tree.ensures.whole).whole
