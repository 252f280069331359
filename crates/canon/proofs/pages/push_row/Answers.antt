use Rattle.std.proofs.Common.{Global, ◌≡◌, ◌++◌, ◌∷◌, [], List, ℕ, ◌<◌, ◌^◌, refl, sym, ap, ◌∙◌, append_assoc, arith}
use Rattle.std.specs.Prelude.{Result, Ok, Err, MatchResult, OnOk, codes, String, string_bytes}
use Rattle.std.specs.Fmt.{decimal}
use Rattle.std.specs.Str.{chars, IsAscii}
use Rattle.std.proofs.lemmas.Fmt.{IsAscii-decimal}
use Rattle.std.proofs.lemmas.Str.{IsAscii-append, IsUtf8-string_bytes, chars-IsAscii, chars-append}
use Rattle.rust_leaf.proofs.Pushed.{word_pushed}
use Rattle.rust_leaf.proofs.Texts.{ascii_word, chars_behind}
use Rattle.rust_leaf.specs.Leaf.{text_of}
use Rattle.canon.specs.Run.{row_text}
use Rattle.canon.specs.declared.outlines.Row.{Row}
use Rattle.canon.proofs.pages.push_row.Goals as goal

ok_of : {T E : Type 0} (r : Result T E) (P : T → Type 0) (Q : E → Type 0) (R : Type 0) → MatchResult r P Q →
    ((x : T) → P x → R) → OnOk r R
ok_of (Ok x) P Q R h f = f x h
ok_of (Err e) P Q R h f = tt

-- what is written of a place, with a line feed behind it
place_line : ℕ → ℕ → List ℕ
place_line l k = codes " " ++ (decimal l ++ (codes ":" ++ (decimal k ++ codes "\n")))

ascii_place : (l k : ℕ) → l < 2 ^ 64 → k < 2 ^ 64 → IsAscii (place_line l k)
unfolding place_line
ascii_place l k f g =
    IsAscii-append (codes " ") (decimal l ++ (codes ":" ++ (decimal k ++ codes "\n"))) (ascii_word (codes " ") refl)
    (IsAscii-append (decimal l) (codes ":" ++ (decimal k ++ codes "\n")) (IsAscii-decimal l f)
    (IsAscii-append (codes ":") (decimal k ++ codes "\n") (ascii_word (codes ":") refl)
    (IsAscii-append (decimal k) (codes "\n") (IsAscii-decimal k g) (ascii_word (codes "\n") refl))))

-- as the line is read, and as it is written
grouped : (a b c d e f g h : List ℕ) → a ++ b ++ c ++ d ++ (e ++ f ++ g) ++ h
    ≡ a ++ (b ++ (c ++ (d ++ (e ++ (f ++ (g ++ h))))))
grouped a b c d e f g h = simp append_assoc refl

-- from the two writes to the line of the row
row_pushed : (old mid new : String Global) (row : Row) → row.place.line < 2 ^ 64 → row.place.column < 2 ^ 64
    → string_bytes mid ≡ string_bytes old ++ row.kind.now
    → string_bytes new ≡ string_bytes mid
    ++ (codes " " ++ (string_bytes row.name ++ place_line row.place.line row.place.column))
    → text_of new ≡ text_of old ++ row_text row
unfolding place_line
row_pushed old mid new row f g e h =
    let rest : List ℕ = place_line row.place.line row.place.column in
    let name : List ℕ = string_bytes row.name in
    word_pushed mid new (codes " " ++ (name ++ rest)) h
    ∙ ap (λ cs. cs ++ chars (codes " " ++ (name ++ rest))) (word_pushed old mid row.kind.now e)
    ∙ append_assoc (text_of old) (chars row.kind.now) (chars (codes " " ++ (name ++ rest)))
    ∙ ap (λ cs. text_of old ++ (chars row.kind.now ++ cs))
    (chars_behind (codes " ") (name ++ rest) (ascii_word (codes " ") refl)
    ∙ ap (λ cs. codes " " ++ cs) (chars-append name rest (IsUtf8-string_bytes row.name)
    ∙ ap (λ cs. chars name ++ cs) (chars-IsAscii rest (ascii_place row.place.line row.place.column f g))))
    ∙ ap (λ cs. text_of old ++ cs)
    (sym (grouped (chars row.kind.now) (codes " ") (chars name) (codes " ") (decimal row.place.line) (codes ":")
    (decimal row.place.column) (10 ∷ [])))

pub returns : goal.returns
unfolding place_line
returns c = ok_of c.writeln.result _ _ _ c.writeln.ensures.bytes (λ x e.
    let h : string_bytes c.writeln.new.self ≡ string_bytes c.push_str.new.self
    ++ (codes " " ++ (c.as_str-name.result.now ++ (codes " " ++ (decimal c.args.row.now.place.line
    ++ (codes ":" ++ (decimal c.args.row.now.place.column ++ codes "\n")))))) = e in
    let g : c.as_str-name.result.now ≡ string_bytes c.args.row.now.name = c.as_str-name.ensures.value in
    row_pushed c.args.out.now c.push_str.new.self c.writeln.new.self c.args.row.now
    (omega arith) (omega arith) c.in_ok-push_str.ensures.bytes
    (h ∙ ap (λ n. string_bytes c.push_str.new.self ++ (codes " " ++ (n ++ place_line c.args.row.now.place.line
    c.args.row.now.place.column))) g))
