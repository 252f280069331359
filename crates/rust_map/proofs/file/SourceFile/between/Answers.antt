use Rattle.std.proofs.Common.{arith, ◌≡◌, ◌∙◌, ◌-◌, ap, take, drop}
use Rattle.std.specs.String.{string_bytes}
use Rattle.std.proofs.lemmas.Str.{IsUtf8-string_bytes, IsCharBoundary-from_drop}
use Rattle.rust_map.specs.Files.{text_of}
use Rattle.rust_map.proofs.ByteLemmas.{cut_at, byte_count_more, between_bytes}
use Rattle.rust_map.proofs.file.SourceFile.between.Goals as goal

pub range-requires-clause-start_le_end : goal.range-requires-clause-start_le_end
range-requires-clause-start_le_end c =
    let more = byte_count_more (text_of c.args.self.now) c.args.from (c.args.to - c.args.from) c.args.to (omega arith)
    in
    omega arith

pub range-requires-clause-start_boundary : goal.range-requires-clause-start_boundary
range-requires-clause-start_boundary c = λ _.
    let cut = cut_at (string_bytes c.args.self.now.text) c.args.from (IsUtf8-string_bytes c.args.self.now.text) in
    rw (c.as_str.ensures.value, c.byte-start.ensures) (IsCharBoundary-from_drop _ _ cut.place.within cut.place.cut)

pub range-requires-clause-end_boundary : goal.range-requires-clause-end_boundary
range-requires-clause-end_boundary c =
    let cut = cut_at (string_bytes c.args.self.now.text) c.args.to (IsUtf8-string_bytes c.args.self.now.text) in
    rw (c.as_str.ensures.value, c.byte-end.ensures) (IsCharBoundary-from_drop _ _ cut.place.within cut.place.cut)

pub returns : goal.returns
returns c =
    let e : c.range.result.now
    ≡ take (c.byte-end.result - c.byte-start.result) (drop c.byte-start.result (string_bytes c.args.self.now.text))
    = c.range.ensures.value ∙ ap (λ b. take (c.byte-end.result - c.byte-start.result) (drop c.byte-start.result b))
    c.as_str.ensures.value in
    rw e (between_bytes _ _ _ _ _ (IsUtf8-string_bytes c.args.self.now.text) c.requires.ordered c.byte-start.ensures
    c.byte-end.ensures)
