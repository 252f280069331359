use Rattle.std.proofs.Common.{arith, ◌≡◌, ◌∙◌, ◌/◌, ap, sym, length}
use Rattle.std.specs.String.{string_bytes}
use Rattle.std.proofs.lemmas.Str.{IsUtf8-string_bytes}
use Rattle.rust_map.specs.Files.{text_of}
use Rattle.rust_map.proofs.ByteLemmas.{byte_count_narrow, byte_length-chars, step_start, step_within}
use Rattle.rust_map.proofs.file.SourceFile.byte.Goals as goal

pub returns-then-text-self : goal.returns-then-text-self
returns-then-text-self c =
    let bytes = byte_length-chars (string_bytes c.args.self.now.text) (IsUtf8-string_bytes c.args.self.now.text) in
    let counted : c.args.self.now.characters ≡ length (text_of c.args.self.now) = c.args.self.now.counted in
    let same : length c.as_str-text.result.now ≡ length (string_bytes c.args.self.now.text) =
    ap length c.as_str-text.ensures.value in
    sym (byte_count_narrow (text_of c.args.self.now) c.args.count (omega arith) c.requires)

pub index-requires : goal.index-requires
index-requires c =
    let bytes = byte_length-chars (string_bytes c.args.self.now.text) (IsUtf8-string_bytes c.args.self.now.text) in
    let counted : c.args.self.now.characters ≡ length (text_of c.args.self.now) = c.args.self.now.counted in
    let same : length c.as_str-text.result.now ≡ length (string_bytes c.args.self.now.text) =
    ap length c.as_str-text.ensures.value in
    let within = step_within (text_of c.args.self.now) _ (c.args.count / 128) c.args.self.now.steps
    (λ e. c.if-text-self.false (omega arith)) (omega arith) in
    let len = c.args.self.now.byte_steps.ok in
    omega arith

pub byte_behind-requires : goal.byte_behind-requires
byte_behind-requires c =
    let counted : c.args.self.now.characters ≡ length (text_of c.args.self.now) = c.args.self.now.counted in
    let text = c.as_str-text.ensures.value in
    let start = step_start (string_bytes c.args.self.now.text) _ c.args.count c.index.result.now
    (IsUtf8-string_bytes c.args.self.now.text) c.args.self.now.steps
    (λ e. c.if-text-self.false (ap length text ∙ (e ∙ sym counted))) c.requires c.index.ensures in
    rw text (record { place = start.place; there = start.there })

pub returns : goal.returns
returns c =
    let counted : c.args.self.now.characters ≡ length (text_of c.args.self.now) = c.args.self.now.counted in
    let text = c.as_str-text.ensures.value in
    let start = step_start (string_bytes c.args.self.now.text) _ c.args.count c.index.result.now
    (IsUtf8-string_bytes c.args.self.now.text) c.args.self.now.steps
    (λ e. c.if-text-self.false (ap length text ∙ (e ∙ sym counted))) c.requires c.index.ensures in
    (rw text at c.byte_behind.ensures) ∙ start.all
