-- Characters that do nothing within a comment or a raw string, many at once.
use Rattle.std.proofs.Common.{◌≡◌, ℕ, List, [], ◌∷◌, ◌++◌, refl, sym, ap, ◌∙◌}
use Rattle.std.specs.Prelude.{Bool, true, ◌||◌, ◌&&◌, ◌==◌, not, nat_lt, nat_le}
use Rattle.std.specs.List.{list_all}
use Rattle.std.proofs.lemmas.Bool.{and_parts, not-true, eqb-false, or_left}
use Rattle.rust_escape.specs.LexicalScan.{is_common}
use Rattle.rust_escape.specs.declared.mode.Mode.{Mode}
use Rattle.rust_escape.specs.Unit.{Lexical, is_plain}
use Rattle.rust_escape.proofs.Commons.{common_plain}
use Rattle.text_chars.specs.Chars.{narrow}
use Rattle.text_chars.specs.Places.{IsPassed}
pub use Rattle.text_chars.proofs.Blocks.{passed_from}
use Rattle.rust_lex.specs.Chars.{begins, is_line_feed}
use Rattle.rust_lex.specs.Comment.{past_comment}
use Rattle.rust_lex.specs.Places.{rest_at}
use Rattle.rust_lex.specs.QuotedScan.{past_raw}
use Rattle.rust_lex.specs.Scan.{is_quiet}
use Rattle.rust_lex.proofs.Steps.{comment_step_quiet, raw_step_other}

quiet_run : (doc : Bool) (n : ℕ) (xs rest : List ℕ) → list_all (narrow is_quiet) xs ≡ true
    → past_comment doc n (xs ++ rest) ≡ past_comment doc n rest
quiet_run doc n [] rest h = refl
quiet_run doc n (x ∷ xs) rest h =
    let (here, others) = and_parts (narrow is_quiet x) (list_all (narrow is_quiet) xs) h in
    let edges = not-true (x == 42 || (x == 47 || x == 13)) (and_parts (nat_lt x 128) (is_quiet x) here).1 in
    comment_step_quiet doc n x (xs ++ rest) edges ∙ quiet_run doc n xs rest others

-- the end of a comment is the same behind some of them
pub quiet_behind : (bytes : List ℕ) (start at : ℕ) (doc : Bool) (n : ℕ) → IsPassed (narrow is_quiet) bytes start at
    → past_comment doc n (rest_at bytes at) ≡ past_comment doc n (rest_at bytes start)
quiet_behind bytes start at doc n h =
    sym (ap (past_comment doc n) h.joined ∙ quiet_run doc n h.passed (rest_at bytes at) h.pass)

raw_run : (mode : Mode) (n : ℕ) (xs rest : List ℕ) → list_all (narrow is_common) xs ≡ true
    → past_raw mode n (xs ++ rest) ≡ past_raw mode n rest
raw_run mode n [] rest h = refl
raw_run mode n (x ∷ xs) rest h =
    let (here, others) = and_parts (narrow is_common x) (list_all (narrow is_common) xs) h in
    let common = (and_parts (nat_lt x 128) (is_common x) here).1 in
    let (_, marks) = and_parts (nat_le 32 x && nat_le x 126) (not (x == 34) && not (x == 92)) common in
    let no_quote = eqb-false x 34 (not-true (x == 34) (and_parts (not (x == 34)) (not (x == 92)) marks).0) in
    let stands = or_left (is_plain Lexical mode x) (x == 13 && begins is_line_feed (xs ++ rest))
    (common_plain mode x common) in
    raw_step_other mode n x (xs ++ rest) no_quote stands ∙ raw_run mode n xs rest others

-- and so is the end of a raw string behind some that stand for themselves
pub raw_behind : (bytes : List ℕ) (start at : ℕ) (mode : Mode) (n : ℕ) → IsPassed (narrow is_common) bytes start at
    → past_raw mode n (rest_at bytes at) ≡ past_raw mode n (rest_at bytes start)
raw_behind bytes start at mode n h =
    sym (ap (past_raw mode n) h.joined ∙ raw_run mode n h.passed (rest_at bytes at) h.pass)
