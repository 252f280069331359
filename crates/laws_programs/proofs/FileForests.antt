-- The tokens of files, wherever their characters stand.
use Rattle.std.proofs.Common.{◌≡◌, ℕ, ◌+◌, List, [], ◌∷◌, ◌++◌, refl, sym, ap, subst, ⊎_elim}
use Rattle.std.specs.Prelude.{false, Option, Some, None}
use Rattle.std.proofs.lemmas.Bool.{and_parts}
use Rattle.std.proofs.Math.Utf8.{scalar, scalars}
use Rattle.rust_leaf.specs.Leaf.{AreCharacters}
use Rattle.rust_lex.specs.Chars.{begins}
use Rattle.rust_lex.specs.FileCover.{FileFront, is_front_mark}
use Rattle.proc_macro2.specs.FileForest.{IsFileForest, behind_mark}
use Rattle.proc_macro2.specs.Forest.{IsForest}
use Rattle.proc_macro2.specs.Groups.{IsMatched}
use Rattle.proc_macro2.specs.Leaf.{AreLeaves}
use Rattle.proc_macro2.specs.Spacing.{IsWellSpaced}
use Rattle.proc_macro2.specs.Token.{Spanned, plain}
use Rattle.proc_macro2.proofs.Files.{file_forest_or_fault, no_file_forest}
use Rattle.proc_macro2.proofs.Shebangs.{one_shebang, shebang_there}
use Rattle.laws_lexer.proofs.Forests.{forest_read, forest_spaced}
use Rattle.laws_lexer.proofs.Plain.{one_reading}

-- the tokens of a text do not depend on where its characters stand
same_tokens : (a b : ℕ) (text : List ℕ) (ss ts : List Spanned) → IsForest a text ss → IsForest b text ts
    → plain ss ≡ plain ts
same_tokens a b text ss ts f g = one_reading text (plain ss) (plain ts) (forest_read a text ss f)
    (forest_read b text ts g)

-- nor do a file's shebang and its tokens
pub same_file : (a b : ℕ) (text : List ℕ) (s t : Option (List ℕ)) (ss ts : List Spanned)
    → IsFileForest a text s ss → IsFileForest b text t ts → (s ≡ t) × (plain ss ≡ plain ts)
same_file a b text None None ss ts (none, f) (other, g) = (refl, same_tokens a b text ss ts f g)
same_file a b text None (Some k) ss ts (none, f) g = absurd (shebang_there text k g.rest g.count g.shebang none)
same_file a b text (Some l) None ss ts f (none, g) = absurd (shebang_there text l f.rest f.count f.shebang none)
same_file a b text (Some l) (Some k) ss ts f g =
    let (lines, rests, counts) = one_shebang text l k f.rest g.rest f.count g.count f.shebang g.shebang in (
      ap Some lines,
      same_tokens (a + f.count) (b + g.count) g.rest ss ts
          (subst (λ cs. IsForest (a + f.count) cs ss) rests f.forest) g.forest,
    )

-- a file that has a forest has it also where its characters stand elsewhere
pub file_elsewhere : (a b : ℕ) (text : List ℕ) (s : Option (List ℕ)) (ss : List Spanned) → IsFileForest a text s ss
    → (ts : List Spanned) × IsFileForest b text s ts
file_elsewhere a b text s ss f =
    ⊎_elim
    (λ (t, ts, g).
    (ts, subst (λ o. IsFileForest b text o ts) (sym (same_file a b text s t ss ts f g).0) g))
    (λ (place, fault). absurd (no_file_forest a text place s ss fault f))
    (file_forest_or_fault b text)

-- a text that begins with no byte order mark
pub behind_none : (text : List ℕ) → begins is_front_mark text ≡ false → behind_mark text ≡ text
behind_none [] e = refl
behind_none (c ∷ cs) e = rw e refl

-- the groups of a file's tokens match
pub file_matched : (base : ℕ) (text : List ℕ) (s : Option (List ℕ)) (ss : List Spanned) → IsFileForest base text s ss
    → IsMatched ss
file_matched base text None ss (none, f) = f.matched
file_matched base text (Some line) ss f = f.forest.matched

-- they are leaves, and well spaced
characters_behind : (cs ds : List ℕ) → AreCharacters (cs ++ ds) → AreCharacters ds
characters_behind [] ds h = h
characters_behind (c ∷ cs) ds h = characters_behind cs ds (and_parts (scalar c) (scalars (cs ++ ds)) h).1

rest_characters : (text mark line rest : List ℕ) → AreCharacters text → FileFront text mark line rest
    → AreCharacters rest
rest_characters text mark line rest a f =
    characters_behind line rest (characters_behind mark (line ++ rest) (subst AreCharacters f.joined a))

pub file_spaced : (base : ℕ) (text : List ℕ) (s : Option (List ℕ)) (ss : List Spanned) → AreCharacters text
    → IsFileForest base text s ss → AreLeaves (plain ss) × IsWellSpaced (plain ss)
file_spaced base text None ss a (none, f) = forest_spaced base text ss a f
file_spaced base text (Some line) ss a f =
    let characters = rest_characters text f.shebang.mark line f.rest a f.shebang.front in
    forest_spaced (base + f.count) f.rest ss characters f.forest
