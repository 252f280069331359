-- Where the entries of a part stand among those of a whole.
--
-- A tree's tokens are those that it was read from, in their order, so what stands in a tree has tokens that stand
-- together among the tree's: in front of them stand the tokens of what stands in front of it in the tree, and behind
-- them those of what stands behind it. An entry is a token where it stands in the text. So a part stands in the text
-- where those entries stand that are left of the whole's when as many are taken away from the front and from the back.
use Rattle.std.specs.Prelude.{◌≡◌, List, ◌++◌, map}
use Rattle.proc_macro2.specs.Token.{Token, Spanned, plain}
use Rattle.syn_buffer.specs.Entries.{entry_token}
use Rattle.syn_buffer.specs.declared.entry.Entry.{Entry}
use Rattle.syn_grammar.specs.Tree.{Tree, flat}

-- the tokens that entries are
abbrev pub tokens : List Entry → List Token
tokens es = map entry_token es

-- entries begin with the tokens of a tree
pub record Begins (x : Tree) (es : List Entry) : Type 0 where
  pub rest : List Token
  pub is : tokens es ≡ flat x ++ rest

-- Entries with a tree's tokens, with which they begin, taken away.
pub record IsPast (x : Tree) (es left : List Entry) : Type 0 where
  pub front : List Entry
  pub is_front : tokens front ≡ flat x
  pub is : front ++ left ≡ es

-- Of a whole's entries those of a part: in front of them stand entries of these tokens, and others behind them.
pub record StandsBehind (before : List Token) (its whole : List Entry) : Type 0 where
  pub front : List Entry
  pub behind : List Entry
  pub is_front : tokens front ≡ before
  pub is : front ++ (its ++ behind) ≡ whole

-- The same of tokens with where they stand: in front of the part's stand these tokens, and others behind them.
pub record StandsAmong (before : List Token) (its whole : List Spanned) : Type 0 where
  pub front : List Spanned
  pub behind : List Spanned
  pub is_front : plain front ≡ before
  pub is : front ++ (its ++ behind) ≡ whole

-- Two stand in a whole apart: one, entries of these tokens behind it, and the other.
pub record StandApart (one : List Entry) (gap : List Token) (other whole : List Entry) : Type 0 where
  pub front : List Entry
  pub between : List Entry
  pub behind : List Entry
  pub is_between : tokens between ≡ gap
  pub is : front ++ (one ++ (between ++ (other ++ behind))) ≡ whole
