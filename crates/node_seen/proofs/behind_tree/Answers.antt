use Rattle.std.proofs.Common.{◌≡◌, ◌∙◌, ◌++◌, ◌∷◌, [], List, take, length, ap, sym, subst}
use Rattle.rust_map.specs.declared.span.Span.{Span}
use Rattle.proc_macro2.specs.declared.delimiter.Delimiter.{Delimiter}
use Rattle.proc_macro2.specs.Flat.{spanned}
use Rattle.proc_macro2.specs.Token.{Closes, Opens, Spanned}
use Rattle.syn_buffer.specs.Behind.{Passes}
use Rattle.syn_buffer.specs.Groups.{Enters}
use Rattle.syn_buffer.specs.Position.{rest}
use Rattle.syn_buffer.specs.declared.position.Cursor.{Cursor}
use Rattle.node_seen.proofs.Passing.{passes_group, taken_all}
use Rattle.node_seen.proofs.Wholes.{group_stands, seen_rest}
use Rattle.node_seen.proofs.behind_tree.Goals as goal

pub returns-in-Group : goal.returns-in-Group
returns-in-Group c = λ n t.
    let from : Cursor = c.args.from in
    let behind : Cursor = c.in-Group.behind in
    let inside : Cursor = c.in-Group.field-2 in
    let d : Delimiter = c.in-Group.field-0 in
    let s : Span = c.in-Group.field-1 in
    let enters : Enters from d s inside behind = c.in-Group.ensures in
    let group : List Spanned = spanned (Opens d) s ∷ rest inside ++ spanned (Closes d) s ∷ [] in
    let passes : Passes from group behind = passes_group from inside behind d s enters in
    let long : length group ≡ n =
    group_stands c.one_group.ensures (rest from) d s (rest inside) (rest behind) enters.group c.args.entries.now n
    c.requires.seen c.requires.whole (seen_rest c.args.entries.now from c.requires.seen) t in
    let same : take n (rest from) ≡ group =
    ap (λ k. take k (rest from)) (sym long) ∙ ap (take (length group)) passes.reads ∙ taken_all group (rest behind) in
    subst (λ ts. Passes from ts behind) (sym same) passes
