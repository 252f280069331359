-- Tokens as they stand in trees, marks of invisible groups among them.
use Rattle.std.specs.Prelude.{◌≡◌, ◌<◌, ◌≤◌, ℕ, zero, suc, Bool, true, false, cond, IsTrue, List, [], ◌∷◌, ◌++◌}
use Rattle.std.specs.Prelude.{length, drop}
use Rattle.proc_macro2.specs.Entered.{entered}
use Rattle.proc_macro2.specs.Flat.{tree_tokens}
use Rattle.proc_macro2.specs.Token.{Token, Opens, Closes, Ident, Literal, Punct, Spanned}
use Rattle.proc_macro2.specs.declared.tree.TokenTree.{TokenTree}
use Rattle.syn_buffer.specs.Entries.{is_laid, spanned_entries}
use Rattle.syn_buffer.specs.Seen.{seen}
use Rattle.syn_buffer.specs.declared.entry.Entry.{Entry}

-- a token closes nothing where so many groups are open: it is the mark of one that was entered before
abbrev pub is_behind : Token → ℕ → Bool
is_behind (Opens d) n = false
is_behind (Closes d) zero = true
is_behind (Closes d) (suc n) = false
is_behind (Ident cs) n = false
is_behind (Literal cs) n = false
is_behind (Punct c spacing) n = false

-- how many are open behind it
abbrev pub depth : Token → ℕ → ℕ
depth (Opens d) n = suc n
depth (Closes d) zero = zero
depth (Closes d) (suc n) = n
depth (Ident cs) n = n
depth (Literal cs) n = n
depth (Punct c spacing) n = n

-- tokens without the marks that close nothing among them: they are those of trees
abbrev pub standing : ℕ → List Spanned → List Spanned
standing n [] = []
standing n (t ∷ ts) = cond (is_behind t.token n) (standing (depth t.token n) ts) (t ∷ standing (depth t.token n) ts)

-- the trees of entries
abbrev pub trees_of : List Entry → List Spanned
trees_of es = standing zero (spanned_entries es)

-- the first of the trees of entries, and how many of the entries it takes with the marks before it: a tool
pub record FirstTree (es : List Entry) (tree : TokenTree) (count : ℕ) : Type 0 where
  pub stands : trees_of es ≡ tree_tokens tree ++ trees_of (drop count es)
  pub sees : seen (spanned_entries es) ≡ seen (tree_tokens tree) ++ seen (spanned_entries (drop count es))
  pub as_it_is : entered tree ≡ tree_tokens tree
  pub lies : IsTrue (is_laid (drop count es))
  pub some : 0 < count
  pub within : count ≤ length es

-- there is no tree among entries
pub record NoTree (es : List Entry) : Type 0 where
  pub none : trees_of es ≡ []
  pub unseen : seen (spanned_entries es) ≡ []
