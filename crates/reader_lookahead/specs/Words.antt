-- Words that begin forms.
use Rattle.std.specs.Prelude.{ℕ, Bool, ◌||◌, List, [], ◌∷◌, codes}
use Rattle.syn_grammar.specs.Words.{is_bool, is_ident}
use Rattle.rust_leaf.specs.Keywords.{is_among, is_reserved}

-- The words that begin a form of expressions, but for names, true and false: in two lists, each of which is tested
-- at once.
abbrev pub early_words : List (List ℕ)
early_words =
    codes "loop" ∷ codes "while" ∷ codes "static" ∷ codes "move"
    ∷ codes "const" ∷ codes "async" ∷ codes "for" ∷ []

abbrev pub late_words : List (List ℕ)
late_words =
    codes "_" ∷ codes "unsafe" ∷ codes "try" ∷ codes "if" ∷ codes "match" ∷ codes "continue"
    ∷ codes "break" ∷ codes "return" ∷ codes "yield" ∷ codes "let" ∷ []

-- a word that begins a form by itself
abbrev pub begins_form : List ℕ → Bool
begins_form cs = is_bool cs || (is_among early_words cs || is_among late_words cs)

-- the words that begin a function's signature, perhaps behind const
abbrev pub signature_words : List (List ℕ)
signature_words = codes "fn" ∷ codes "async" ∷ codes "unsafe" ∷ codes "extern" ∷ []

-- the words that begin a trait behind const, and an impl
abbrev pub trait_words : List (List ℕ)
trait_words = codes "unsafe" ∷ codes "auto" ∷ codes "trait" ∷ []

abbrev pub impl_words : List (List ℕ)
impl_words = codes "unsafe" ∷ codes "impl" ∷ []

-- a word that begins a name in a pattern: an Ident, or one of these
abbrev pub begins_pattern : List ℕ → Bool
begins_pattern cs = is_ident cs || is_among (codes "ref" ∷ codes "mut" ∷ []) cs

-- the words that begin a closure
abbrev pub closure_words : List (List ℕ)
closure_words = codes "static" ∷ codes "move" ∷ codes "const" ∷ codes "async" ∷ codes "for" ∷ []

-- the words that begin a function pointer
abbrev pub pointer_words : List (List ℕ)
pointer_words = codes "for" ∷ codes "unsafe" ∷ codes "extern" ∷ codes "fn" ∷ []

-- a word that may begin an item: a reserved one, or one of these names
abbrev pub may_begin_item : List ℕ → Bool
may_begin_item cs = is_reserved cs || is_among (codes "union" ∷ codes "auto" ∷ codes "default" ∷ []) cs
