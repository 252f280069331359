-- Streams of one tree, and streams one behind the other.
use Rattle.std.proofs.Common.{◌≡◌, ℕ, List, [], ◌∷◌, ◌++◌, IsTrue, refl, sym, ap, ◌∙◌, subst, ⊎_elim}
use Rattle.std.specs.Prelude.{true, false, Result, Ok, Err, OnErr, OnOk}
use Rattle.std.specs.List.{flat_map}
use Rattle.std.proofs.lemmas.Grind.{flat_map-append}
use Rattle.rust_map.specs.declared.span.Span.{Span}
use Rattle.rust_leaf.specs.Identifier.{is_ident_text}
use Rattle.rust_leaf.specs.Leaf.{AreCharacters}
use Rattle.rust_leaf.specs.Mark.{is_mark}
use Rattle.rust_leaf.specs.Minus.{minus, starts_with_minus}
use Rattle.rust_leaf.specs.Parse.{IsLiteralLeaf, IsLiteralText}
use Rattle.rust_leaf.proofs.Decided.{literal_had}
use Rattle.rust_leaf.proofs.IdentTexts.{ident_text_is}
use Rattle.rust_lex.specs.Chars as lex
use Rattle.rust_lex.specs.Piece.{IsLiteral, begins_mark}
use Rattle.rust_lex.specs.declared.piece.PieceKind.TheVariants.{Mark}
use Rattle.rust_lex.specs.declared.piece.PieceKind.TheVariants as piece
use Rattle.rust_lex.specs.Scan.{Ends}
use Rattle.rust_lex.proofs.Complete.{complete, mark_scanned}
use Rattle.proc_macro2.specs.Token.{Delimiter, Spacing, Token, Opens, Closes, Ident, Literal, Punct, Alone, Spanned}
use Rattle.proc_macro2.specs.Token.{plain}
use Rattle.proc_macro2.specs.Entered.{literal_entered}
use Rattle.proc_macro2.specs.Flat.{spanned}
use Rattle.proc_macro2.specs.Leaf.{AreLeaves}
use Rattle.proc_macro2.specs.Printed.{closing, opening, shown}
use Rattle.proc_macro2.specs.Stream.{IsStream}
use Rattle.proc_macro2.proofs.Characters.{characters_append, characters_back, characters_one, closing_characters}
use Rattle.proc_macro2.proofs.Characters.{mark_characters, opening_characters}
use Rattle.proc_macro2.proofs.GroupLemmas.{matched_append, matched_group}
use Rattle.proc_macro2.proofs.Texts.{plain_append}

leaves_append : (ts us : List Token) → AreLeaves ts → AreLeaves us → AreLeaves (ts ++ us)
leaves_append [] us a b = b
leaves_append (t ∷ ts) us a b = (a.0, leaves_append ts us a.1 b)

pub empty_stream : IsStream []
empty_stream = record { leaves = tt; matched = refl; characters = refl }

shown_append : (ss ts : List Spanned)
    → flat_map shown (plain (ss ++ ts)) ≡ flat_map shown (plain ss) ++ flat_map shown (plain ts)
shown_append ss ts = ap (λ us. flat_map shown us) (plain_append ss ts) ∙ flat_map-append shown (plain ss) (plain ts)

shown_joined : (ss ts : List Spanned) → AreCharacters (flat_map shown (plain ss))
    → AreCharacters (flat_map shown (plain ts)) → AreCharacters (flat_map shown (plain (ss ++ ts)))
shown_joined ss ts a b = subst AreCharacters (sym (shown_append ss ts))
    (characters_append (flat_map shown (plain ss)) (flat_map shown (plain ts)) a b)

pub joined_stream : (ss ts : List Spanned) → IsStream ss → IsStream ts → IsStream (ss ++ ts)
joined_stream ss ts a b = record {
  leaves = subst AreLeaves (sym (plain_append ss ts)) (leaves_append (plain ss) (plain ts) a.leaves b.leaves);
  matched = matched_append ss ts a.matched b.matched;
  characters = shown_joined ss ts a.characters b.characters;
}

pub on_ok : {T E P : Type 0} (result : Result T E) → P → OnOk result P
on_ok (Ok t) p = p
on_ok (Err e) p = tt

-- a stream to which tokens were added, unless it stayed as it was
pub added_stream : {T E : Type 0} (result : Result T E) (old new added : List Spanned) → IsStream old
    → OnOk result (IsStream added) → OnOk result (new ≡ old ++ added) → OnErr result (new ≡ old) → IsStream new
added_stream (Ok t) old new added s known ok err = subst IsStream (sym ok) (joined_stream old added s known)
added_stream (Err e) old new added s known ok err = subst IsStream (sym err) s

pub group_stream : (d : Delimiter) (span : Span) (ss : List Spanned) → IsStream ss
    → IsStream (spanned (Opens d) span ∷ ss ++ spanned (Closes d) span ∷ [])
group_stream d span ss a = record {
  leaves = (
    tt,
    subst AreLeaves (sym (plain_append ss (spanned (Closes d) span ∷ [])))
        (leaves_append (plain ss) (Closes d ∷ []) a.leaves (tt, tt)),
  );
  matched = matched_group d span ss a.matched;
  characters = characters_append (opening d) (flat_map shown (plain (ss ++ spanned (Closes d) span ∷ [])))
      (opening_characters d) (shown_joined ss (spanned (Closes d) span ∷ []) a.characters
      (characters_one (closing d) (closing_characters d)));
}

pub ident_stream : (cs : List ℕ) (span : Span) → IsTrue (is_ident_text cs) → AreCharacters cs
    → IsStream (spanned (Ident cs) span ∷ [])
ident_stream cs span t a =
    record { leaves = ((ident_text_is cs).0 t, tt); matched = refl; characters = characters_one cs a }

pub punct_stream : (c : ℕ) (spacing : Spacing) (span : Span) → IsTrue (is_mark c)
    → IsStream (spanned (Punct c spacing) span ∷ [])
punct_stream c spacing span t = record { leaves = (t, tt); matched = refl; characters = mark_characters c t }

pub literal_stream : (cs : List ℕ) (span : Span) → IsLiteralLeaf cs → AreCharacters cs
    → IsStream (spanned (Literal cs) span ∷ [])
literal_stream cs span l a = record { leaves = (l, tt); matched = refl; characters = characters_one cs a }

-- no literal begins with a minus
minus_begins : (cs : List ℕ) → begins_mark (minus ∷ cs) ≡ true
unfolding lex.is_mark_but_tick
minus_begins cs = refl

leaf_no_minus : (cs : List ℕ) → IsLiteralLeaf (minus ∷ cs) → ⊥
leaf_no_minus cs (kind, l) =
    let found = complete (piece.Literal kind) (minus ∷ cs) [] l in
    let same : Ends Mark (cs ++ []) ≡ Ends (piece.Literal kind) [] =
    sym (mark_scanned minus (cs ++ []) (minus_begins (cs ++ []))) ∙ found in
    cc

pub unsigned_leaf : (cs : List ℕ) → ∥ IsLiteralText cs ∥₁ → starts_with_minus cs ≡ false → IsLiteralLeaf cs
unsigned_leaf cs t n = ⊎_elim (λ l. l)
    (λ (k, number, e, l, h). (let begins : starts_with_minus cs ≡ true = ap starts_with_minus e in cc))
    (literal_had cs t)

-- what stands behind the minus of a literal is one
pub behind_leaf : (cs number : List ℕ) → ∥ IsLiteralText cs ∥₁ → cs ≡ minus ∷ number → IsLiteralLeaf number
behind_leaf cs number t e =
    ⊎_elim
    (λ l. absurd (leaf_no_minus number (subst IsLiteralLeaf e l)))
    (λ (k, other, f, l, h). (let same : other ≡ number = cc in (k, subst (λ ds. IsLiteral k ds []) same l)))
    (literal_had cs t)

-- a literal as it stands in a stream
pub entered_whole : (cs : List ℕ) (span : Span) → ∥ IsLiteralText cs ∥₁ → starts_with_minus cs ≡ false
    → AreCharacters cs → IsStream (literal_entered cs span)
entered_whole cs span t n a = rw n (literal_stream cs span (unsigned_leaf cs t n) a)

minus_mark : IsTrue (is_mark minus)
unfolding is_mark
minus_mark = refl

pub entered_parts : (cs number : List ℕ) (span : Span) → ∥ IsLiteralText cs ∥₁ → cs ≡ minus ∷ number → AreCharacters cs
    → IsStream (literal_entered cs span)
entered_parts cs number span t e a =
    subst (λ ds. IsStream (literal_entered ds span)) (sym e)
    (joined_stream (spanned (Punct minus Alone) span ∷ []) (spanned (Literal number) span ∷ [])
    (punct_stream minus Alone span minus_mark)
    (literal_stream number span (behind_leaf cs number t e)
    (characters_back (minus ∷ []) number (subst AreCharacters e a))))
