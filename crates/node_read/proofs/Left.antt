-- What a stream has left behind some of the entries that are seen.
use Rattle.std.proofs.Common.{◌≡◌, ◌∙◌, ℕ, List, take, drop, sym, ap}
use Rattle.std.proofs.lemmas.List.{append_cancel_left, drop-map, take-append-drop}
use Rattle.proc_macro2.specs.Token.{plain}
use Rattle.reader_rust.proofs.Behind.{plain_entries}
use Rattle.reader_steps.specs.Answers.{tokens}
use Rattle.syn_buffer.specs.Behind.{Passes}
use Rattle.syn_buffer.specs.Entries.{spanned_entries, spanned_entry}
use Rattle.syn_buffer.specs.Position.{rest}
use Rattle.syn_buffer.specs.declared.position.Cursor.{Cursor}
use Rattle.syn_buffer.specs.declared.entry.Entry.{Entry}

pub seen_tokens : (c : Cursor) (es : List Entry) → spanned_entries es ≡ rest c → plain (rest c) ≡ tokens es
seen_tokens c es e = ap plain (sym e) ∙ plain_entries es

pub behind_tokens : (before after : Cursor) (es : List Entry) (n : ℕ) → spanned_entries es ≡ rest before
    → Passes before (take n (rest before)) after → plain (rest after) ≡ tokens (drop n es)
behind_tokens before after es n e p =
    let same : rest after ≡ drop n (rest before) =
    append_cancel_left (take n (rest before)) (rest after) (drop n (rest before))
    (sym p.reads ∙ sym (take-append-drop n (rest before))) in
    ap plain (same ∙ ap (drop n) (sym e) ∙ drop-map spanned_entry n es) ∙ plain_entries (drop n es)
