use Rattle.std.proofs.Common.{◌≡◌, ◌∙◌, ap, sym, get_or, ◌-◌}
use Rattle.rust_map.specs.Files.{text_of}
use Rattle.rust_map.proofs.LineLemmas.{ascend_table, some_line, place_by_table}
use Rattle.rust_map.proofs.file.SourceFile.place.Goals as goal

pub lines_begun-line-requires : goal.lines_begun-line-requires
lines_begun-line-requires c = ascend_table (text_of c.args.self.now) _ (c.deref.ensures.value ∙ c.args.self.now.lines)

pub overflow_sub-line : goal.overflow_sub-line
overflow_sub-line c = some_line (text_of c.args.self.now) _ _ _ (c.deref.ensures.value ∙ c.args.self.now.lines)
    c.lines_begun-line.ensures.split

pub overflow_sub-result : goal.overflow_sub-result
overflow_sub-result c =
    let line = c.lines_begun-line.result in
    let read : c.index.result.now ≡ get_or c.deref.result.now (line - 1) c.index.result.now =
    c.index.ensures ∙ ap (λ s. get_or s (line - 1) c.index.result.now) (sym c.deref.ensures.value) in
    (place_by_table (text_of c.args.self.now) _ _ _ _ (c.deref.ensures.value ∙ c.args.self.now.lines) c.requires
    c.lines_begun-line.ensures.bound c.lines_begun-line.ensures.split read).behind

pub returns : goal.returns
returns c =
    let line = c.lines_begun-line.result in
    let read : c.index.result.now ≡ get_or c.deref.result.now (line - 1) c.index.result.now =
    c.index.ensures ∙ ap (λ s. get_or s (line - 1) c.index.result.now) (sym c.deref.ensures.value) in
    (place_by_table (text_of c.args.self.now) _ _ _ _ (c.deref.ensures.value ∙ c.args.self.now.lines) c.requires
    c.lines_begun-line.ensures.bound c.lines_begun-line.ensures.split read).place
