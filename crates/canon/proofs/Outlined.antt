-- Where the names of a file stand.
use Rattle.std.proofs.Common.{◌≡◌, ℕ, zero, suc, ◌+◌, List, [], ◌∷◌, ◌++◌, length, map, refl, sym, ap, ◌∙◌}
use Rattle.std.proofs.Common.{subst, arith}
use Rattle.std.specs.Prelude.{Bool, true, false, ◌&&◌, Option, Some, None, IsTrue, slice_get}
use Rattle.std.specs.Option.{option_map}
use Rattle.rust_map.specs.Answers.{start_place}
use Rattle.rust_map.specs.Sources.{Sources, spot, is_held, next_position, next_span, next_spot, with_text}
use Rattle.rust_map.specs.declared.place.LineColumn.{LineColumn}
use Rattle.proc_macro2.proofs.Lies.{AllLie, Lies}
use Rattle.proc_macro2.specs.FileForest.{IsFileForest}
use Rattle.proc_macro2.specs.Held.{are_held}
use Rattle.proc_macro2.specs.Pieces.{edged}
use Rattle.proc_macro2.specs.Token.{Token, Opens, Closes, Ident, Literal, Punct, Spanned, plain}
use Rattle.syn_buffer.specs.Entries.{entry_span, spanned_entries}
use Rattle.syn_buffer.specs.declared.entry.Entry.{Entry}
use Rattle.syn_grammar.specs.Names.{AllStand, Name, StandsIn, names}
use Rattle.syn_grammar.specs.Tree.{Tree}
use Rattle.syn_grammar.proofs.NamesStand.{all_stand}
use Rattle.laws_programs.specs.Faults.{begins_at, token_place}
use Rattle.laws_programs.specs.Program.{IsFile}
use Rattle.laws_programs.proofs.FileForests.{file_elsewhere, same_file}
use Rattle.canon.specs.Outline.{AreThere, IsOutline, Line, kind_word, line_for, line_of, lines_for, lines_of}
use Rattle.canon.specs.Outline.{span_begins}
use Rattle.canon.specs.declared.outlines.Row.{Row}
use Rattle.std.specs.Slice.{IsItemAt}
use Rattle.reader_rust.specs.Names.{name_of, named_of}
use Rattle.reader_rust.specs.declared.names.Name as read
use Rattle.rust_leaf.specs.Leaf.{ident_text, text_of}
use Rattle.std.proofs.Common.{Bor, Global}
use Rattle.std.proofs.lemmas.Option.{slice_get_read}
use Rattle.std.specs.Prelude.{String}
use Rattle.canon.proofs.Places.{AreBehind, place_span}
use Rattle.canon.proofs.Forests.{file_behind, file_lies}

-- the token behind so many
got_behind : (before behind : List Token) (t : Token) → slice_get (before ++ t ∷ behind) (length before) ≡ Some t
got_behind [] behind t = refl
got_behind (b ∷ before) behind t = got_behind before behind t

behind_none : (i n : ℕ) → i ≡ 0 + n → i ≡ n
behind_none i n e = omega (arith, e)

stands_there : (ts : List Token) (n : Name) → StandsIn ts 0 n → slice_get ts n.index ≡ Some (Ident n.text)
stands_there ts n s =
    ap (λ us. slice_get us n.index) s.split
    ∙ ap (slice_get (s.before ++ Ident n.text ∷ s.behind)) (behind_none n.index (length s.before) s.place)
    ∙ got_behind s.before s.behind (Ident n.text)

all_there : (ts : List Token) (ns : List Name) → AllStand ts 0 ns → AreThere ts ns
all_there ts [] s = tt
all_there ts (n ∷ ns) s = (stands_there ts n s.0, all_there ts ns s.1)

-- each name of a file is a token of it
pub names_there : (ts : List Token) (tree : Tree) → IsFile ts tree → AreThere ts (names tree)
names_there ts tree f = all_there ts (names tree) (subst (λ us. AllStand us 0 (names tree)) f.spelled (all_stand tree))

-- at an index that has a token stands an entry
pub is_there : (es : List Entry) (i : ℕ) (t : Token) → slice_get (plain (spanned_entries es)) i ≡ Some t
    → slice_get es i ≡ None → ⊥
is_there [] i t e f = cc
is_there (x ∷ es) zero t e f = cc
is_there (x ∷ es) (suc i) t e f = is_there es i t e f

and_left : (a b : Bool) → IsTrue (a && b) → IsTrue a
and_left true b h = refl
and_left false b h = cc

and_right : (a b : Bool) → IsTrue (a && b) → IsTrue b
and_right true b h = h
and_right false b h = cc

pub held_there : (map : Sources) (es : List Entry) (i : ℕ) (e : Entry) → IsTrue (are_held map (spanned_entries es))
    → slice_get es i ≡ Some e → IsTrue (is_held map (entry_span e))
held_there map [] i e h f = cc
held_there map (x ∷ es) zero e h f = subst (λ y. IsTrue (is_held map (entry_span y))) (some_is x e f) (and_left _ _ h)
  where
    some_is : (x e : Entry) → Some x ≡ Some e → x ≡ e
    some_is x e f = cc
held_there map (x ∷ es) (suc i) e h f = held_there map es i e (and_right _ _ h) f

pub begins_there : (map : Sources) (es : List Entry) (i : ℕ) (e : Entry) → slice_get es i ≡ Some e
    → span_begins map (spanned_entries es) i ≡ Some (start_place map (entry_span e))
begins_there map [] i e f = cc
begins_there map (x ∷ es) zero e f = ap (option_map (λ y. start_place map (entry_span y))) f
begins_there map (x ∷ es) (suc i) e f = begins_there map es i e f

-- what a slice has at an index
pub got : (es : List Entry) (i : ℕ) (e : Bor Entry) → IsItemAt es i (Some e) → slice_get es i ≡ Some e.now
got es i e (some, item, there, (low, holds), all) = slice_get_read es (length es) i e.now refl low item

-- the row of a name says what is to be said of it
pub line_is : (map : Sources) (es : List Entry) (name : read.Name) (word : Bor (List ℕ)) (text : String Global)
    (place : LineColumn) (e : Bor Entry) → IsItemAt es name.index (Some e)
    → word.now ≡ kind_word (named_of name.kind) → text_of text ≡ ident_text name.ident.now
    → place ≡ start_place map (entry_span e.now)
    → line_of (record { kind = word; name = text; place = place })
    ≡ line_for (span_begins map (spanned_entries es)) (name_of name)
line_is map es name word text place e h w t p =
    let begins = begins_there map es name.index e.now (got es name.index e h) in
    ap (λ (k : List ℕ). let l : Line = record { kind = k; name = text_of text; place = Some place } in l) w
    ∙ ap (λ (n : List ℕ).
    let l : Line = record { kind = kind_word (named_of name.kind); name = n; place = Some place } in l) t
    ∙ ap (λ (o : Option LineColumn).
    let l : Line = record { kind = kind_word (named_of name.kind); name = ident_text name.ident.now; place = o } in l)
    (ap Some p ∙ sym begins)

-- the same is said of names by two who agree where each of them begins
agreed : (f g : ℕ → Option LineColumn) (ts : List Token) (ns : List Name) → AreThere ts ns
    → ((i : ℕ) (cs : List ℕ) → slice_get ts i ≡ Some (Ident cs) → f i ≡ g i) → lines_for f ns ≡ lines_for g ns
agreed f g ts [] a h = refl
agreed f g ts (n ∷ ns) a h =
    ap (λ (place : Option LineColumn).
    let line : Line = record { kind = kind_word n.kind; name = n.text; place = place } in line ∷ lines_for f ns)
    (h n.index n.text a.0)
    ∙ ap (λ ls. line_for g n ∷ ls) (agreed f g ts ns a.1 h)

-- the text was put into the map
module _ (sources : Sources) (text : List ℕ) (there : spot (with_text sources text) (next_span sources text) ≡
    Some (next_spot sources text)) where
  abbrev pub base : ℕ
  base = next_position sources

  abbrev pub grown : Sources
  grown = with_text sources text

  -- where the map has a word, it stands in the text
  word_there : (ss ts : List Spanned) (i : ℕ) (cs : List ℕ) → AllLie base (base + length text) (map edged ss)
      → AreBehind base (map edged ss) (map edged ts) → slice_get (plain ss) i ≡ Some (Ident cs)
      → span_begins grown ss i ≡ token_place text ts (Some i)
  word_there [] ts i cs l b e = cc
  word_there (s ∷ ss) [] i cs l b e = absurd b
  word_there (s ∷ ss) (t ∷ ts) zero cs l b e = ap Some (go s.token s.span t e l.0 b.0)
    where
      go : (k : Token) (span : _) (t : Spanned) → Some k ≡ Some (Ident cs)
          → Lies base (base + length text) (edged (record { token = k; span = span })).span
          → (edged (record { token = k; span = span })).span.start ≡ base + (edged t).span.start
          → start_place grown span ≡ begins_at text t
      go (Ident ds) span t e l b = place_span sources text there span (edged t).span.start l b
      go (Opens d) span t e l b = cc
      go (Closes d) span t e l b = cc
      go (Literal ds) span t e l b = cc
      go (Punct c spacing) span t e l b = cc
  word_there (s ∷ ss) (t ∷ ts) (suc i) cs l b e = word_there ss ts i cs l.1 b.1 e

  -- the names of the file that a text's forest is, as the map has them, are the text's outline
  pub outline_is : (shebang : Option (List ℕ)) (ss : List Spanned) (rows : List Row)
      → IsFileForest base text shebang ss
      → (tree : Tree) × IsFile (plain ss) tree × (lines_of rows ≡ lines_for (span_begins grown ss) (names tree))
      → IsOutline text rows
  outline_is shebang ss rows forest (tree, file, are) =
      let (ts, here) = file_elsewhere base 0 text shebang ss forest in
      let lie = file_lies base text shebang ss forest in
      let behind = file_behind base text shebang ss ts forest here in
      record {
        program = record { shebang = shebang; tree = tree };
        is_program = record {
          tokens = ts;
          forest = here;
          file = subst (λ (us : List Token). IsFile us tree)
              (same_file base 0 text shebang shebang ss ts forest here).1 file;
        };
        are = are ∙ agreed _ _ (plain ss) (names tree) (names_there (plain ss) tree file)
            (λ i cs e. word_there ss ts i cs lie behind e);
      }

pub outline_here : (old new : Sources) (text : List ℕ) (shebang : Option (List ℕ)) (ss : List Spanned)
    (rows : List Row) → IsFileForest (next_position old) text shebang ss → new ≡ with_text old text
    → spot new (next_span old text) ≡ Some (next_spot old text)
    → (tree : Tree) × IsFile (plain ss) tree × (lines_of rows ≡ lines_for (span_begins new ss) (names tree))
    → IsOutline text rows
outline_here old new text shebang ss rows forest grew there found =
    outline_is old text
    (subst (λ (m : Sources). spot m (next_span old text) ≡ Some (next_spot old text)) grew there) shebang ss rows forest
    (subst (λ (m : Sources). (tree : Tree) × IsFile (plain ss) tree
    × (lines_of rows ≡ lines_for (span_begins m ss) (names tree))) grew found)
