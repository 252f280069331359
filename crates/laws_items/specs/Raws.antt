-- The raw tokens that a tree holds.
use Rattle.std.specs.Prelude.{◌≡◌, ◌⊎◌, List}
use Rattle.proc_macro2.specs.Token.{Token}
use Rattle.syn_grammar.specs.Kind.{AnItem}
use Rattle.syn_grammar.specs.Tree.{Tree, Raw, Pair, First, Second, Again, Final, More, Group, Dropped, Called, Verbatim}
use Rattle.syn_grammar.specs.Tree.{Node, Whole, Alone, Front, Back, Infix, flat}
use Rattle.syn_grammar.specs.Normal.{apart}

-- The tree is raw: it is these tokens, or was read so that these are kept of it.
abbrev pub IsRaw : List Token → Tree → Type 0
IsRaw ts (Raw us) = us ≡ ts
IsRaw ts (Verbatim x) = flat x ≡ ts
IsRaw ts x = ⊥

-- Somewhere in the tree these tokens are raw: a group's inside, or a whole item.
abbrev pub HasRaw : List Token → Tree → Type 0
HasRaw ts (Raw us) = us ≡ ts
HasRaw ts (Verbatim x) = flat x ≡ ts
HasRaw ts (Pair x y) = HasRaw ts x ⊎ HasRaw ts y
HasRaw ts (First x) = HasRaw ts x
HasRaw ts (Second x) = HasRaw ts x
HasRaw ts (Again x y) = HasRaw ts x ⊎ HasRaw ts y
HasRaw ts (Final x) = HasRaw ts x
HasRaw ts (More x c spacing y) = HasRaw ts x ⊎ HasRaw ts y
HasRaw ts (Group d x) = HasRaw ts x
HasRaw ts (Dropped x) = HasRaw ts x
HasRaw ts (Called n x) = HasRaw ts x
HasRaw ts (Node k x) = HasRaw ts x
HasRaw ts (Whole x) = HasRaw ts x
HasRaw ts (Alone k y) = HasRaw ts y
HasRaw ts (Front k y x) = HasRaw ts y ⊎ HasRaw ts x
HasRaw ts (Back l k y) = HasRaw ts l ⊎ HasRaw ts y
HasRaw ts (Infix l k y r) = HasRaw ts l ⊎ (HasRaw ts y ⊎ HasRaw ts r)
HasRaw ts x = ⊥

-- Somewhere in it they are those of a raw item of a file, of a module or of a list of statements.
abbrev pub HasRawItem : List Token → Tree → Type 0
HasRawItem ts (Node k x) = ((k ≡ AnItem) × IsRaw ts x) ⊎ HasRawItem ts x
HasRawItem ts (Pair x y) = HasRawItem ts x ⊎ HasRawItem ts y
HasRawItem ts (First x) = HasRawItem ts x
HasRawItem ts (Second x) = HasRawItem ts x
HasRawItem ts (Again x y) = HasRawItem ts x ⊎ HasRawItem ts y
HasRawItem ts (Final x) = HasRawItem ts x
HasRawItem ts (More x c spacing y) = HasRawItem ts x ⊎ HasRawItem ts y
HasRawItem ts (Group d x) = HasRawItem ts x
HasRawItem ts (Dropped x) = HasRawItem ts x
HasRawItem ts (Called n x) = HasRawItem ts x
HasRawItem ts (Whole x) = HasRawItem ts x
HasRawItem ts (Alone k y) = HasRawItem ts y
HasRawItem ts (Front k y x) = HasRawItem ts y ⊎ HasRawItem ts x
HasRawItem ts (Back l k y) = HasRawItem ts l ⊎ HasRawItem ts y
HasRawItem ts (Infix l k y r) = HasRawItem ts l ⊎ (HasRawItem ts y ⊎ HasRawItem ts r)
HasRawItem ts x = ⊥

-- They are those of a raw item in it, whose last mark was set apart.
abbrev pub IsSetApart : List Token → Tree → Type 0
IsSetApart ts x = (us : List Token) × HasRawItem us x × (ts ≡ apart us)
