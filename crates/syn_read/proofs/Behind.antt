-- What a stream has left behind a form of its entries.
use Rattle.std.proofs.Common.{◌≡◌, ◌∙◌, ℕ, ◌-◌, List, length, take, drop, sym, ap}
use Rattle.std.proofs.lemmas.List.{append_cancel_left, drop-map, take-append-drop}
use Rattle.proc_macro2.specs.Token.{plain}
use Rattle.reader_rust.proofs.Behind.{Left, plain_entries}
use Rattle.reader_steps.specs.Answers.{tokens}
use Rattle.syn_buffer.specs.Behind.{Passes}
use Rattle.syn_buffer.specs.Entries.{spanned_entries, spanned_entry}
use Rattle.syn_buffer.specs.Position.{rest}
use Rattle.syn_buffer.specs.declared.position.Cursor.{Cursor}
use Rattle.syn_buffer.specs.declared.entry.Entry.{Entry}

-- the tokens that a stream has left, by its entries, and behind a form of them
pub left_entries : (c : Cursor) (es : List Entry) → spanned_entries es ≡ rest c → plain (rest c) ≡ tokens es
left_entries c es e = ap plain (sym e) ∙ plain_entries es

pub left_behind : (before after : Cursor) (es others : List Entry) → spanned_entries es ≡ rest before →
    Passes before (take (length es - length others) (rest before)) after → Left es others →
    plain (rest after) ≡ tokens others
left_behind before after es others e p l =
    let n : ℕ = length es - length others in
    let same : rest after ≡ drop n (rest before) =
    append_cancel_left (take n (rest before)) (rest after) (drop n (rest before))
    (sym p.reads ∙ sym (take-append-drop n (rest before))) in
    ap plain (same ∙ ap (drop n) (sym e) ∙ drop-map spanned_entry n es) ∙ plain_entries (drop n es) ∙ l.same
