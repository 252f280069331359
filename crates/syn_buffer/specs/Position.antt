-- Places in a list of tokens: the list that is being read, by what is left of it.
use Rattle.std.specs.Prelude.{◌≡◌, ◌≤◌, ◌<◌, ℕ, ◌-◌, Bool, List, [], ◌∷◌, ◌++◌, length}
use Rattle.rust_map.specs.Spans.{call_site, last_of}
use Rattle.rust_map.specs.declared.span.Span.{Span}
use Rattle.rust_leaf.specs.Leaf.{ident_span, literal_span, punct_span}
use Rattle.proc_macro2.specs.declared.delimiter.Delimiter.{Delimiter}
use Rattle.proc_macro2.specs.declared.delimiter.Delimiter.TheVariants as delimiter
use Rattle.proc_macro2.specs.Flat.{tree_tokens}
use Rattle.proc_macro2.specs.Token.{Token, Spanned, plain}
use Rattle.proc_macro2.specs.declared.tree.TokenTree.{TokenTree}
use Rattle.proc_macro2.specs.declared.tree.TokenTree.TheVariants as tree
use Rattle.syn_buffer.specs.Seen.{seen}
use Rattle.syn_buffer.specs.Entries.{spanned_entries}
use Rattle.syn_buffer.specs.Standing.{trees_of}
use Rattle.syn_buffer.specs.declared.position.Cursor.{Cursor}

-- the tokens that are left in the list, with where they stand
abbrev pub rest : Cursor → List Spanned
rest c = seen (spanned_entries c.entries.now)

-- the tokens alone
abbrev pub left : Cursor → List Token
left c = plain (rest c)

-- the tokens of the trees that are left in the list, those of invisible groups with their marks
abbrev pub trees_left : Cursor → List Spanned
trees_left c = trees_of c.entries.now

-- which list is read: of the buffer with that number, the one that ends at that index, where a group with
-- that delimiter closes there; and whether no group in that buffer is invisible
pub record Scope : Type 0 where
  pub number : ℕ
  pub end : ℕ
  pub closing : Span
  pub closer : Delimiter
  pub all_visible : Bool

-- the whole of a buffer with that number, of so many entries, which nothing closes; at its end that span is said
abbrev pub whole_at : Span → ℕ → ℕ → Bool → Scope
whole_at closing number end all_visible = record {
  number = number;
  end = end;
  closing = closing;
  closer = delimiter.None;
  all_visible = all_visible;
}

-- by itself it ends at the call site
abbrev pub whole : ℕ → ℕ → Bool → Scope
whole number end all_visible = whole_at call_site number end all_visible

abbrev pub scope : Cursor → Scope
scope c = record {
  number = c.number;
  end = c.end;
  closing = c.closing;
  closer = c.closer;
  all_visible = c.all_visible;
}

-- how far a place is from the end of its list, and its index in its buffer
abbrev pub ahead : Cursor → ℕ
ahead c = length c.entries.now

abbrev pub index : Cursor → ℕ
index c = c.end - ahead c

-- a place of the same list, at the first one or past it
pub record IsPast (before after : Cursor) : Type 0 where
  pub same_list : scope after ≡ scope before
  pub further : ahead after ≤ ahead before

-- the token stands at the one place, and the other is behind it, farther in its list
pub record Takes (before : Cursor) (token : Spanned) (after : Cursor) : Type 0 where
  pub reads : rest before ≡ token ∷ rest after
  pub past : IsPast before after
  pub onward : ahead after < ahead before
  pub taken : after.before ≡ token.span

-- where the next token stands, a group with all of it, or where the list closes
abbrev pub next_span : Span → List Spanned → Span
next_span closing [] = closing
next_span closing (t ∷ ts) = t.span

-- where a tree ends: a group at its closing mark
abbrev pub tree_end : TokenTree → Span
tree_end (tree.Group g) = last_of g.span
tree_end (tree.Ident i) = ident_span i
tree_end (tree.Punct p) = punct_span p
tree_end (tree.Literal l) = literal_span l

-- a tree stands first at the one place, and the other is behind it
pub record TakesTree (before : Cursor) (tree : TokenTree) (after : Cursor) : Type 0 where
  pub stands : trees_left before ≡ tree_tokens tree ++ trees_left after
  pub reads : rest before ≡ seen (tree_tokens tree) ++ rest after
  pub past : IsPast before after
  pub onward : ahead after < ahead before
  pub taken : after.before ≡ tree_end tree
