-- What is written of a file without shebang doesn't begin with #!: the # of an inner attribute stands alone.
use Rattle.std.proofs.Common.{◌≡◌, ℕ, List, [], ◌∷◌, ◌++◌, refl, sym, ap, ◌∙◌, subst, ⊎_elim}
use Rattle.std.proofs.lemmas.Bool.{and_parts, cases_Bool, eqb-true}
use Rattle.std.proofs.lemmas.List.{append-nil}
use Rattle.std.specs.Prelude.{true, false, ◌==◌, Option, Some, None}
use Rattle.rust_leaf.specs.Leaf.{AreCharacters}
use Rattle.rust_lex.specs.Chars.{begins, is_mark_but_tick}
use Rattle.rust_lex.specs.Cover.{onto, AreFit}
use Rattle.rust_lex.specs.FileCover.{is_front_mark}
use Rattle.rust_lex.specs.Piece.{Piece}
use Rattle.rust_lex.proofs.FileCovers.{without_mark}
use Rattle.proc_macro2.specs.FileForest.{IsFileForest}
use Rattle.proc_macro2.specs.Forest.{IsForest}
use Rattle.proc_macro2.specs.Token.{Token, Alone, Punct, Spanned, plain}
use Rattle.laws_lexer.proofs.Forests.{forest_read}
use Rattle.laws_lexer.proofs.Plain.{cover_tokens, plain_of}
use Rattle.syn_grammar.specs.Derives.{Derives}
use Rattle.syn_grammar.specs.Gram.{mark, ref}
use Rattle.syn_grammar.specs.Kept.{kept}
use Rattle.syn_grammar.specs.Kind.{AFile, InnerAttribute, InnerAttributes, Plain}
use Rattle.syn_grammar.specs.Normal.{normal}
use Rattle.syn_grammar.specs.Table.{table}
use Rattle.syn_grammar.specs.Tree.{Tree, AMark, Pair, Node, flat}
use Rattle.syn_grammar.proofs.Settled as settled
use Rattle.laws_programs.specs.Joined.{file_of, in_turn}
use Rattle.laws_programs.specs.Program.{IsProgram, Program, begins_bang, written}
use Rattle.laws_programs.proofs.FileForests.{same_file}
use Rattle.laws_programs.proofs.JoinedFiles.{parts}
use Rattle.laws_programs.proofs.JoinedOutputs.{attribute_same, each_written, parts_written}
use Rattle.laws_programs.proofs.Outputs.{output_program, output_tokens}
use Rattle.laws_programs.proofs.Shebangs.{a_mark, bang, hash, mark_first, marked}

-- # stands in front, and alone
abbrev HashAlone : List Token → Type 0
HashAlone ts = (us : List Token) × (ts ≡ Punct 35 Alone ∷ us)

alone_before : (ts us : List Token) → HashAlone ts → HashAlone (ts ++ us)
alone_before ts us (vs, e) = (vs ++ us, ap (λ xs. xs ++ us) e)

-- in the normal form of an inner attribute
sign_alone : (x : Tree) (c : ℕ) (rest : List Token) → Derives x (mark c []) rest
    → flat (normal (kept x)) ≡ Punct c Alone ∷ []
sign_alone (AMark d ds s) c rest (a, b) = rw (a, b) refl
sign_alone _ c rest d = absurd d

inside_alone : (x : Tree) (rest : List Token) → Derives x (table InnerAttribute) rest
    → HashAlone (flat (normal (kept x)))
unfolding table
inside_alone (Pair x y) rest (d, e) =
    alone_before (flat (normal (kept x))) (flat (normal (kept y))) ([], sign_alone x 35 (flat y ++ rest) d)
inside_alone _ rest d = absurd d

attribute_alone : (x : Tree) (rest : List Token) → Derives x (ref InnerAttribute) rest
    → HashAlone (flat (normal (kept x)))
attribute_alone (Node k x) rest d =
    subst (λ i. HashAlone (flat (normal (kept (Node i x))))) (sym d.0)
    (subst HashAlone (sym (attribute_same x)) (inside_alone x rest (subst (λ i. Derives x (table i) rest) d.0 d.1)))
attribute_alone _ rest d = absurd d

-- and in that of a file where # and ! stand in front
parts_alone : (xs ys : List Tree) → Derives (in_turn xs) (table InnerAttributes) (flat (in_turn ys) ++ [])
    → marked (flat (file_of xs ys)) → HashAlone (each_written xs ++ each_written ys)
unfolding table
parts_alone [] ys d h =
    let wrong : false ≡ true = sym d ∙ subst marked (sym (append-nil (flat (in_turn ys)))) h in cc
parts_alone (x ∷ xs) ys d h =
    let first : List Token = flat (normal (kept x)) in
    alone_before (first ++ each_written xs) (each_written ys)
    (alone_before first (each_written xs) (attribute_alone x (flat (in_turn xs) ++ (flat (in_turn ys) ++ [])) d.1))

file_hash : (t : Tree) → Derives t (ref AFile) [] → marked (flat t) → HashAlone (flat (normal (kept t)))
file_hash t d h =
    let p = parts t d in
    subst (λ x. HashAlone (flat (normal (kept x)))) (sym p.is)
    (subst HashAlone (sym (parts_written p.attributes p.items p.front p.listed))
    (parts_alone p.attributes p.items p.front (subst (λ x. marked (flat x)) p.is h)))

-- in the tokens of a text that begins with #! they stand in front, and # is joint
joint : (ps : List Piece) (cs : List ℕ) → AreFit ps [] → onto ps [] ≡ 35 ∷ 33 ∷ cs
    → marked (plain_of ps []) × (HashAlone (plain_of ps []) → ⊥)
unfolding is_mark_but_tick
joint ps cs f e =
    let a = mark_first 35 ps (33 ∷ cs) hash f e in
    let b = mark_first 33 a.more cs bang a.fit a.rest_is in
    let both : ps ≡ a_mark 35 ∷ a_mark 33 ∷ b.more = a.is ∙ ap (λ x. a_mark 35 ∷ x) b.is in
    subst (λ x. marked (plain_of x []) × (HashAlone (plain_of x []) → ⊥)) (sym both) (refl, λ (us, w). cc)

banged : (text : List ℕ) → begins_bang text ≡ true → (cs : List ℕ) × (text ≡ 35 ∷ 33 ∷ cs)
banged [] h = cc
banged (a ∷ []) h = cc
banged (a ∷ b ∷ cs) h =
    let (x, y) = and_parts (a == 35) (b == 33) h in
    (cs, ap (λ c. c ∷ b ∷ cs) (eqb-true a 35 x) ∙ ap (λ c. 35 ∷ c ∷ cs) (eqb-true b 33 y))

text_joint : (base : ℕ) (text : List ℕ) (ss : List Spanned) → IsForest base text ss → begins_bang text ≡ true
    → marked (plain ss) × (HashAlone (plain ss) → ⊥)
text_joint base text ss f h =
    let (cs, e) = banged text h in
    let r = forest_read base text ss f in
    let fit = without_mark r.pieces text r.cover.fit r.cover.joined (ap (begins is_front_mark) e) in
    subst (λ ts. marked ts × (HashAlone ts → ⊥)) (sym (cover_tokens 0 text r.pieces r.cover) ∙ r.tokens_are)
    (joint r.pieces cs fit (sym r.cover.joined ∙ e))

-- a file without shebang is the forest of its whole text
whole_forest : (base : ℕ) (text : List ℕ) (s : Option (List ℕ)) (ss : List Spanned) → IsFileForest base text s ss
    → s ≡ None → IsForest base text ss
whole_forest base text None ss f e = f.1
whole_forest base text (Some line) ss f e = cc

pub no_shebang_marks : (text : List ℕ) (p : Program) → AreCharacters text → IsProgram text p → p.shebang ≡ None
    → begins_bang (written p) ≡ false
no_shebang_marks text p a i e =
    let (read, forest, same) = output_tokens text p a i in
    let (q, j, shebangs, keeps) = output_program text p a i in
    let tokens : plain read ≡ plain j.tokens =
    (same_file 0 0 (written p) p.shebang q.shebang read j.tokens forest j.forest).1 in
    let again : flat (normal (kept q.tree)) ≡ plain read =
    ap (λ x. flat (normal x)) keeps ∙ ap flat (settled.normal_twice Plain (kept p.tree)) ∙ sym same in
    ⊎_elim
    (λ h.
    let (begun, none) = text_joint 0 (written p) read (whole_forest 0 (written p) p.shebang read forest e) h in
    absurd (none (subst HashAlone again
    (file_hash q.tree j.file.derived (subst marked (tokens ∙ sym j.file.spelled) begun)))))
    (λ n. n)
    (cases_Bool (begins_bang (written p)))
