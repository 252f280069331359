-- The words, literals and punctuations of which entries speak, by their texts.
use Rattle.std.specs.Prelude.{ℕ, Bool, List, [], ◌∷◌, codes}
use Rattle.syn_grammar.specs.Words.{is_ident, is_name, is_plain_name, is_path_keyword, is_bool}
use Rattle.rust_leaf.specs.Keywords.{same_text, is_among}
use Rattle.syn_grammar.specs.Words.{any_text, is_number, is_string, is_index, are_indices, ends_in_dot}
use Rattle.syn_grammar.specs.Items.{use_words}
use Rattle.syn_grammar.specs.Statements.{item_words}
use Rattle.reader_table.specs.declared.word.Keyword.{Keyword}
use Rattle.reader_table.specs.declared.word.Keyword.TheVariants as keywords
use Rattle.reader_table.specs.declared.word.Words.{Words}
use Rattle.reader_table.specs.declared.word.Words.TheVariants as words
use Rattle.reader_table.specs.declared.word.Literals.{Literals}
use Rattle.reader_table.specs.declared.word.Literals.TheVariants as literals
use Rattle.reader_table.specs.declared.word.Sign.{Sign}
use Rattle.reader_table.specs.declared.word.Sign.TheVariants as signs

abbrev pub keyword_text : Keyword → List ℕ
keyword_text keywords.Unsafe = codes "unsafe"
keyword_text keywords.Const = codes "const"
keyword_text keywords.Mut = codes "mut"
keyword_text keywords.Underscore = codes "_"
keyword_text keywords.For = codes "for"
keyword_text keywords.Async = codes "async"
keyword_text keywords.Impl = codes "impl"
keyword_text keywords.Extern = codes "extern"
keyword_text keywords.As = codes "as"
keyword_text keywords.Static = codes "static"
keyword_text keywords.Default = codes "default"
keyword_text keywords.Move = codes "move"
keyword_text keywords.Try = codes "try"
keyword_text keywords.Trait = codes "trait"
keyword_text keywords.Auto = codes "auto"
keyword_text keywords.Type = codes "type"
keyword_text keywords.SelfValue = codes "self"
keyword_text keywords.Ref = codes "ref"
keyword_text keywords.If = codes "if"
keyword_text keywords.Fn = codes "fn"
keyword_text keywords.Let = codes "let"
keyword_text keywords.Else = codes "else"
keyword_text keywords.Where = codes "where"
keyword_text keywords.Union = codes "union"
keyword_text keywords.Struct = codes "struct"
keyword_text keywords.Mod = codes "mod"
keyword_text keywords.In = codes "in"
keyword_text keywords.Enum = codes "enum"
keyword_text keywords.Dyn = codes "dyn"
keyword_text keywords.Crate = codes "crate"
keyword_text keywords.Yield = codes "yield"
keyword_text keywords.While = codes "while"
keyword_text keywords.Use = codes "use"
keyword_text keywords.Safe = codes "safe"
keyword_text keywords.Return = codes "return"
keyword_text keywords.Raw = codes "raw"
keyword_text keywords.Pub = codes "pub"
keyword_text keywords.Match = codes "match"
keyword_text keywords.Macro = codes "macro"
keyword_text keywords.Loop = codes "loop"
keyword_text keywords.Continue = codes "continue"
keyword_text keywords.Break = codes "break"
keyword_text keywords.Await = codes "await"
keyword_text keywords.Super = codes "super"
keyword_text keywords.SelfType = codes "Self"

-- the words that pass
abbrev pub words_of : Words → List ℕ → Bool
words_of (words.Keyword k) cs = same_text (keyword_text k) cs
words_of words.Any cs = any_text cs
words_of words.Ident cs = is_ident cs
words_of words.Name cs = is_name cs
words_of words.PlainName cs = is_plain_name cs
words_of words.PathKeyword cs = is_path_keyword cs
words_of words.Bool cs = is_bool cs
words_of words.Restriction cs = is_among (codes "crate" ∷ codes "self" ∷ codes "super" ∷ []) cs
words_of words.MacroStart cs = is_among (codes "self" ∷ codes "super" ∷ codes "crate" ∷ []) cs
words_of words.UseWord cs = is_among use_words cs
words_of words.Safety cs = is_among (codes "unsafe" ∷ codes "safe" ∷ []) cs
words_of words.ConstOrMut cs = is_among (codes "const" ∷ codes "mut" ∷ []) cs
words_of words.ItemWord cs = is_among item_words cs

-- the literals that pass
abbrev pub literals_of : Literals → List ℕ → Bool
literals_of literals.Any cs = any_text cs
literals_of literals.Number cs = is_number cs
literals_of literals.Text cs = is_string cs
literals_of literals.Index cs = is_index cs
literals_of literals.Indices cs = are_indices cs
literals_of literals.EndsInDot cs = ends_in_dot cs

-- the marks of a punctuation
abbrev pub sign_text : Sign → List ℕ
sign_text signs.Not = codes "!"
sign_text signs.Ne = codes "!="
sign_text signs.Pound = codes "#"
sign_text signs.Percent = codes "%"
sign_text signs.PercentEq = codes "%="
sign_text signs.And = codes "&"
sign_text signs.AndAnd = codes "&&"
sign_text signs.AndEq = codes "&="
sign_text signs.Star = codes "*"
sign_text signs.StarEq = codes "*="
sign_text signs.Plus = codes "+"
sign_text signs.PlusEq = codes "+="
sign_text signs.Comma = codes ","
sign_text signs.Minus = codes "-"
sign_text signs.MinusEq = codes "-="
sign_text signs.RArrow = codes "->"
sign_text signs.Dot = codes "."
sign_text signs.DotDot = codes ".."
sign_text signs.DotDotDot = codes "..."
sign_text signs.DotDotEq = codes "..="
sign_text signs.Slash = codes "/"
sign_text signs.SlashEq = codes "/="
sign_text signs.Colon = codes ":"
sign_text signs.PathSep = codes "::"
sign_text signs.Semi = codes ";"
sign_text signs.Lt = codes "<"
sign_text signs.Shl = codes "<<"
sign_text signs.ShlEq = codes "<<="
sign_text signs.Le = codes "<="
sign_text signs.Eq = codes "="
sign_text signs.EqEq = codes "=="
sign_text signs.FatArrow = codes "=>"
sign_text signs.Gt = codes ">"
sign_text signs.Ge = codes ">="
sign_text signs.Shr = codes ">>"
sign_text signs.ShrEq = codes ">>="
sign_text signs.Question = codes "?"
sign_text signs.At = codes "@"
sign_text signs.Caret = codes "^"
sign_text signs.CaretEq = codes "^="
sign_text signs.Or = codes "|"
sign_text signs.OrEq = codes "|="
sign_text signs.OrOr = codes "||"
