-- What stands behind the first tree of tokens. A lifetime is one tree.
use Rattle.std.specs.Prelude.{ℕ, zero, suc, Bool, not, cond, ◌≡◌, ◌<◌, ◌==◌, ◌&&◌, List, [], ◌∷◌, ◌++◌}
use Rattle.rust_map.specs.Spans.{last_of}
use Rattle.rust_map.specs.declared.span.Span.{Span}
use Rattle.proc_macro2.specs.Token.{Token, Opens, Closes, Ident, Literal, Punct, Joint, Spanned}
use Rattle.syn_buffer.specs.Position.{IsPast, ahead, left, rest}
use Rattle.syn_buffer.specs.Stands.{end_stands}
use Rattle.syn_buffer.specs.declared.position.Cursor.{Cursor}

-- behind the mark that closes a group in which so many others are open
abbrev pub behind_group : ℕ → List Token → List Token
behind_group n [] = []
behind_group n (Opens d ∷ ts) = behind_group (suc n) ts
behind_group zero (Closes d ∷ ts) = ts
behind_group (suc n) (Closes d ∷ ts) = behind_group n ts
behind_group n (Ident cs ∷ ts) = behind_group n ts
behind_group n (Literal cs ∷ ts) = behind_group n ts
behind_group n (Punct c spacing ∷ ts) = behind_group n ts

-- behind an identifier, if one stands first
abbrev pub behind_ident : List Token → List Token
behind_ident (Ident cs ∷ ts) = ts
behind_ident ts = ts

-- behind the first tree; 39 is '
abbrev pub behind_tree : List Token → List Token
behind_tree [] = []
behind_tree (Opens d ∷ ts) = behind_group zero ts
behind_tree (Punct c Joint ∷ ts) = cond (c == 39) (behind_ident ts) ts
behind_tree (t ∷ ts) = ts

-- a kind stands behind the first tree, if there is one
abbrev pub stands_behind : (List Token → Bool) → List Token → Bool
stands_behind stands ts = not (end_stands ts) && stands (behind_tree ts)

-- where a token ends: the mark that closes a group at the last character of that
abbrev pub token_end : Token → Span → Span
token_end (Opens d) s = s
token_end (Closes d) s = last_of s
token_end (Ident cs) s = s
token_end (Literal cs) s = s
token_end (Punct c spacing) s = s

-- where the last of tokens ends, and of none what is said
abbrev pub tokens_end : Span → List Spanned → Span
tokens_end none [] = none
tokens_end none (t ∷ ts) = tokens_end (token_end t.token t.span) ts

-- these tokens stand at the one place, and the other is behind them; what was taken last is where they end
pub record Passes (before : Cursor) (tokens : List Spanned) (after : Cursor) : Type 0 where
  pub reads : rest before ≡ tokens ++ rest after
  pub past : IsPast before after
  pub taken : after.before ≡ tokens_end before.before tokens

-- the first tree of the one place stands between it and the other; what was taken last is the end of that tree
pub record PassesTree (before after : Cursor) : Type 0 where
  pub tree : List Spanned
  pub reads : rest before ≡ tree ++ rest after
  pub behind : left after ≡ behind_tree (left before)
  pub past : IsPast before after
  pub onward : ahead after < ahead before
  pub taken : after.before ≡ tokens_end before.before tree
