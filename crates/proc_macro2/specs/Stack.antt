-- One stack of trees: those of a group that is open lie behind those before it.
use Rattle.std.specs.Prelude.{◌≡◌, ℕ, ◌≤◌, List, [], ◌∷◌, ◌++◌, length, take, drop}
use Rattle.proc_macro2.specs.Token.{Delimiter, Spanned}
use Rattle.proc_macro2.specs.Flat.{trees_tokens}
use Rattle.proc_macro2.specs.Stream.{IsStream}
use Rattle.proc_macro2.specs.declared.builder.Frame.{Frame}
use Rattle.proc_macro2.specs.declared.tree.TokenTree.{TokenTree}

-- a group that is open: what encloses it, the number of characters before its opening mark, and the tokens before it
-- that stand in the group around it
pub record Parent : Type 0 where
  pub delimiter : Delimiter
  pub count : ℕ
  pub before : List Spanned

-- the groups that are open, the innermost last, and the tokens of the innermost
pub record Open : Type 0 where
  pub groups : List Parent
  pub inside : List Spanned

-- the tokens behind the mark of the innermost of some frames, which is the first
abbrev pub inside_of : List Frame → List TokenTree → List Spanned
inside_of [] trees = trees_tokens trees
inside_of (f ∷ fs) trees = trees_tokens (drop f.mark trees)

-- the group of a frame, before which these tokens stand
abbrev pub parent_of : Frame → List Spanned → Parent
parent_of f before = record { delimiter = f.delimiter; count = f.count; before = before }

-- the groups of frames
abbrev pub groups_of : List Frame → List TokenTree → List Parent
groups_of [] trees = []
groups_of (f ∷ fs) trees = groups_of fs (take f.mark trees) ++ parent_of f (inside_of fs (take f.mark trees)) ∷ []

abbrev pub open_of : List Frame → List TokenTree → Open
open_of fs trees = record { groups = groups_of fs trees; inside = inside_of fs trees }

-- no mark lies behind another of a group inside, and what lies between two of them is a stream
abbrev pub IsStack : List Frame → List TokenTree → Type 0
IsStack [] trees = IsStream (trees_tokens trees)
IsStack (f ∷ fs) trees = (f.mark ≤ length trees) × IsStream (trees_tokens (drop f.mark trees))
    × IsStack fs (take f.mark trees)

-- a group is the innermost of those that are open
pub record IsInnermost (groups : List Parent) (count : ℕ) : Type 0 where
  pub others : List Parent
  pub group : Parent
  pub are : groups ≡ others ++ group ∷ []
  pub count_is : group.count ≡ count

-- the innermost of some open groups was taken off them: its frame and its tokens
pub record IsTaken (old new : Open) (frame : Frame) (stream : List Spanned) : Type 0 where
  pub groups_were : old.groups ≡ new.groups ++ parent_of frame new.inside ∷ []
  pub stream_is : stream ≡ old.inside
