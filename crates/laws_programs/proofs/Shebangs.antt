-- A text that begins a shebang, read as if it were none, is no file.
use Rattle.std.proofs.Common.{◌≡◌, ℕ, List, [], ◌∷◌, ◌++◌, refl, sym, ap, ◌∙◌, subst, ⊎_elim, append_assoc}
use Rattle.std.proofs.lemmas.List.{append-nil}
use Rattle.std.proofs.lemmas.Bool.{and_parts, cases_Bool, eqb-true}
use Rattle.std.specs.Prelude.{true, false, ◌&&◌, ◌==◌}
use Rattle.rust_leaf.specs.declared.punct.Spacing.{Spacing}
use Rattle.rust_lex.specs.Chars.{begins, is_mark_but_tick, is_not_feed, is_white, past}
use Rattle.rust_lex.specs.Comment.{IsComment, IsDoc}
use Rattle.rust_lex.specs.Cover.{onto, AreFit, AreFitFront}
use Rattle.rust_lex.specs.Piece.{Fits, FitsFront, IsOne, Piece}
use Rattle.rust_lex.specs.FileCover.{is_front_mark}
use Rattle.rust_lex.specs.Shebang.{begins_command, begins_shebang, is_gap}
use Rattle.rust_lex.specs.declared.group_marks.GroupMarks.TheVariants as lex
use Rattle.rust_lex.specs.declared.piece.DocKind.{DocKind}
use Rattle.rust_lex.specs.declared.piece.DocKind.TheVariants as doc
use Rattle.rust_lex.specs.declared.piece.PieceKind.{PieceKind}
use Rattle.rust_lex.specs.declared.piece.PieceKind.TheVariants as piece
use Rattle.rust_lex.proofs.OneCover.{one_piece}
use Rattle.rust_lex.proofs.Sound.{front_fits}
use Rattle.proc_macro2.specs.declared.delimiter.Delimiter.TheVariants.{Bracket}
use Rattle.proc_macro2.specs.FileForest.{NoShebang, behind_mark}
use Rattle.proc_macro2.specs.Forest.{IsForest}
use Rattle.proc_macro2.specs.Token.{Token, Opens, Closes, Punct, Spanned, plain}
use Rattle.proc_macro2.proofs.Followed.{tokens_before}
use Rattle.proc_macro2.proofs.Puts.{front_cases}
use Rattle.laws_lexer.proofs.Forests.{forest_read}
use Rattle.laws_lexer.proofs.Plain.{cover_tokens, plain_of}
use Rattle.syn_grammar.specs.Derives.{Derives}
use Rattle.syn_grammar.specs.Gram.{Gram, group, mark, ref, seq}
use Rattle.syn_grammar.specs.Kind.{AFile, InnerAttribute, InnerAttributes, Meta}
use Rattle.syn_grammar.specs.Look.{◌then◌, opens, sees}
use Rattle.syn_grammar.specs.Say.{marks}
use Rattle.syn_grammar.specs.Table.{table}
use Rattle.syn_grammar.specs.Tree.{Tree, AMark, Pair, End, Again, Group, Node, flat}
use Rattle.laws_programs.specs.Program.{IsFile}
use Rattle.laws_programs.proofs.FileForests.{behind_none}

-- where # and ! stand, a [ follows them
abbrev pub marked : List Token → Type 0
marked ts = sees (marks "#" then marks "!") ts ≡ true

abbrev pub bracketed : List Token → Type 0
bracketed ts = sees (marks "#" then marks "!" then opens Bracket) ts ≡ true

-- in an inner attribute
sign_is : (x : Tree) (c : ℕ) (rest : List Token) → Derives x (mark c []) rest
    → (s : Spacing) × (flat x ≡ Punct c s ∷ [])
sign_is (AMark d ds s) c rest (a, b) = (s, rw (a, b) refl)
sign_is _ c rest d = absurd d

bracket_is : (x : Tree) (g : Gram) (rest : List Token) → Derives x (group Bracket g) rest
    → (ts : List Token) × (flat x ≡ Opens Bracket ∷ ts)
bracket_is (Group d y) g rest (a, h) = (flat y ++ Closes d ∷ [], ap (λ e. Opens e ∷ flat y ++ Closes d ∷ []) a)
bracket_is _ g rest d = absurd d

behind_sign : (x : Tree) (g : Gram) (rest : List Token) → Derives x (seq (mark 33 []) (group Bracket g)) rest
    → (s : Spacing) × (ts : List Token) × (flat x ≡ Punct 33 s ∷ Opens Bracket ∷ ts)
behind_sign (Pair x y) g rest (d, e) =
    let (s, a) = sign_is x 33 (flat y ++ rest) d in
    let (ts, b) = bracket_is y g rest e in
    (s, ts, ap (λ us. us ++ flat y) a ∙ ap (λ us. Punct 33 s ∷ us) b)
behind_sign _ g rest d = absurd d

attribute_opens : (x : Tree) (rest ts : List Token) → Derives x (table InnerAttribute) rest → bracketed (flat x ++ ts)
unfolding table
attribute_opens (Pair x y) rest ts (d, e) =
    let (s, a) = sign_is x 35 (flat y ++ rest) d in
    let (t, us, b) = behind_sign y (ref Meta) rest e in
    let spelled : flat x ++ flat y ≡ Punct 35 s ∷ Punct 33 t ∷ Opens Bracket ∷ us =
    ap (λ us. us ++ flat y) a ∙ ap (λ us. Punct 35 s ∷ us) b in
    subst (λ us. bracketed (us ++ ts)) (sym spelled) refl
attribute_opens _ rest ts d = absurd d

pub inner_opens : (u : Tree) (rest ts : List Token) → Derives u (ref InnerAttribute) rest → bracketed (flat u ++ ts)
inner_opens (Node k x) rest ts d = attribute_opens x rest ts (subst (λ i. Derives x (table i) rest) d.0 d.1)
inner_opens _ rest ts d = absurd d

-- in inner attributes, and what follows them
turns_open : (x : Tree) (ts : List Token) → Derives x (table InnerAttributes) ts → marked (flat x ++ ts)
    → bracketed (flat x ++ ts)
unfolding table
turns_open End ts d h = let wrong : false ≡ true = sym d ∙ h in cc
turns_open (Again u y) ts d h =
    subst bracketed (sym (append_assoc (flat u) (flat y) ts)) (inner_opens u (flat y ++ ts) (flat y ++ ts) d.1)
turns_open _ ts d h = absurd d

attributes_open : (x : Tree) (ts : List Token) → Derives x (ref InnerAttributes) ts → marked (flat x ++ ts)
    → bracketed (flat x ++ ts)
attributes_open (Node k x) ts d h = turns_open x ts (subst (λ i. Derives x (table i) ts) d.0 d.1) h
attributes_open _ ts d h = absurd d

-- in a file
parts_open : (x : Tree) → Derives x (table AFile) [] → marked (flat x) → bracketed (flat x)
unfolding table
parts_open (Pair a y) d h =
    let same : flat a ++ (flat y ++ []) ≡ flat a ++ flat y = ap (λ ts. flat a ++ ts) (append-nil (flat y)) in
    subst bracketed same (attributes_open a (flat y ++ []) d.0 (subst marked (sym same) h))
parts_open _ d h = absurd d

file_opens : (tree : Tree) → Derives tree (ref AFile) [] → marked (flat tree) → bracketed (flat tree)
file_opens (Node k x) d h = parts_open x (subst (λ i. Derives x (table i) []) d.0 d.1) h
file_opens _ d h = absurd d

-- no [ is read where a command begins
no_comment : (cs rest : List ℕ) → IsComment cs rest → begins_command (past is_gap (cs ++ rest)) ≡ false
unfolding is_white
no_comment [] rest h = absurd h
no_comment (a ∷ []) rest h = absurd h
no_comment (a ∷ b ∷ cs) rest (slash, kind) =
    ⊎_elim (λ h. rw (slash, h.0) refl) (λ h. rw (slash, h.0) refl) kind

no_doc : (kind : DocKind) (cs rest : List ℕ) → IsDoc kind cs rest
    → begins_command (past is_gap (cs ++ rest)) ≡ false
unfolding is_white
no_doc doc.OuterLine cs rest (text, e, h) = rw e refl
no_doc doc.InnerLine cs rest (text, e, h) = rw e refl
no_doc doc.OuterBlock cs rest (text, e, h) = rw e refl
no_doc doc.InnerBlock cs rest (text, e, h) = rw e refl

-- of white characters all but a line feed are passed
white_bracket : (cs rest : List ℕ) (ts : List Token) → IsOne is_white cs
    → begins_command (past is_gap (cs ++ rest)) ≡ true
    → (begins_command (past is_gap rest) ≡ true → sees (opens Bracket) ts ≡ false) → sees (opens Bracket) ts ≡ false
white_bracket [] rest ts i h more = absurd i
white_bracket (c ∷ []) rest ts i h more =
    ⊎_elim
    (λ y. more (rw y at h))
    (λ n.
    let command : begins_command (c ∷ rest) ≡ true = rw n at h in
    let feed : is_not_feed c ≡ false = rw i at n in
    let wrong : false ≡ true = rw feed at command in
    cc)
    (cases_Bool (is_gap c))
white_bracket (c ∷ d ∷ cs) rest ts i h more = absurd i

piece_bracket : (k : PieceKind) (cs rest : List ℕ) (ts : List Token) → Fits k cs rest
    → begins_command (past is_gap (cs ++ rest)) ≡ true
    → (begins_command (past is_gap rest) ≡ true → sees (opens Bracket) ts ≡ false)
    → sees (opens Bracket) (tokens_before k cs rest ++ ts) ≡ false
unfolding is_white
piece_bracket piece.FrontMark cs rest ts i h more = absurd i
piece_bracket piece.White cs rest ts i h more = white_bracket cs rest ts i h more
piece_bracket piece.Comment cs rest ts i h more = let n = no_comment cs rest i in cc
piece_bracket (piece.Doc kind) cs rest ts i h more = let n = no_doc kind cs rest i in cc
piece_bracket (piece.Open lex.Parenthesis) cs rest ts i h more = refl
piece_bracket (piece.Open lex.Brace) cs rest ts i h more = refl
piece_bracket (piece.Open lex.Bracket) cs rest ts i h more =
    let wrong : begins_command (past is_gap (91 ∷ rest)) ≡ true =
    subst (λ ds. begins_command (past is_gap (ds ++ rest)) ≡ true) i h in
    cc
piece_bracket (piece.Close d) cs rest ts i h more = refl
piece_bracket piece.Mark cs rest ts i h more = refl
piece_bracket piece.Ident cs rest ts i h more = refl
piece_bracket (piece.Literal kind) cs rest ts i h more = refl

no_bracket : (ps : List Piece) → AreFit ps [] → begins_command (past is_gap (onto ps [])) ≡ true
    → sees (opens Bracket) (plain_of ps []) ≡ false
no_bracket [] f h = cc
no_bracket (p ∷ ps) f h =
    piece_bracket p.kind p.chars (onto ps []) (plain_of ps []) f.0 h (λ more. no_bracket ps f.1 more)

-- # and !
pub hash : (rest : List ℕ) → Fits piece.Mark (35 ∷ []) rest
unfolding is_mark_but_tick
hash rest = (35, refl, refl)

pub bang : (rest : List ℕ) → Fits piece.Mark (33 ∷ []) rest
unfolding is_mark_but_tick
bang rest = (33, refl, refl)

-- the pieces of a text that begins with such a mark
abbrev pub a_mark : ℕ → Piece
a_mark c = record { kind = piece.Mark; chars = c ∷ [] }

pub record Behind (c : ℕ) (ps : List Piece) (rest : List ℕ) : Type 0 where
  pub more : List Piece
  pub is : ps ≡ a_mark c ∷ more
  pub fit : AreFit more []
  pub rest_is : onto more [] ≡ rest

pub mark_first : (c : ℕ) (ps : List Piece) (rest : List ℕ) → ((r : List ℕ) → Fits piece.Mark (c ∷ []) r)
    → AreFit ps [] → onto ps [] ≡ c ∷ rest → Behind c ps rest
mark_first c [] rest m f e = cc
mark_first c (p ∷ ps) rest m f e =
    let (same, rests) = one_piece 1 p (a_mark c) (onto ps []) rest f.0 (m rest) e in
    record { more = ps; is = ap (λ x. x ∷ ps) same; fit = f.1; rest_is = rests }

-- pieces of a text that begins a shebang
marked_alone : (ps : List Piece) (cs : List ℕ) → AreFit ps [] → onto ps [] ≡ 35 ∷ 33 ∷ cs
    → begins_command (past is_gap cs) ≡ true → marked (plain_of ps []) × (bracketed (plain_of ps []) → ⊥)
marked_alone ps cs f e h =
    let a = mark_first 35 ps (33 ∷ cs) hash f e in
    let b = mark_first 33 a.more cs bang a.fit a.rest_is in
    let none = no_bracket b.more b.fit (ap (λ ds. begins_command (past is_gap ds)) b.rest_is ∙ h) in
    let both : ps ≡ a_mark 35 ∷ a_mark 33 ∷ b.more = a.is ∙ ap (λ x. a_mark 35 ∷ x) b.is in
    subst (λ x. marked (plain_of x []) × (bracketed (plain_of x []) → ⊥)) (sym both)
    (refl, λ w. let wrong : true ≡ false = sym w ∙ none in cc)

pieces_alone : (ps : List Piece) (text : List ℕ) → AreFit ps [] → onto ps [] ≡ text → begins_shebang text ≡ true
    → marked (plain_of ps []) × (bracketed (plain_of ps []) → ⊥)
pieces_alone ps [] f e h = cc
pieces_alone ps (a ∷ []) f e h = cc
pieces_alone ps (a ∷ b ∷ cs) f e h =
    let (both, command) = and_parts (a == 35 && b == 33) (begins_command (past is_gap cs)) h in
    let (x, y) = and_parts (a == 35) (b == 33) both in
    marked_alone ps cs f (e ∙ ap (λ c. c ∷ b ∷ cs) (eqb-true a 35 x) ∙ ap (λ c. 35 ∷ c ∷ cs) (eqb-true b 33 y)) command

-- no byte order mark stands within a text
pub unmarked : (ps : List Piece) → AreFit ps [] → begins is_front_mark (onto ps []) ≡ false
unmarked [] f = refl
unmarked (p ∷ ps) f = go (p.chars ++ onto ps []) refl
  where
    go : (text : List ℕ) → p.chars ++ onto ps [] ≡ text → begins is_front_mark text ≡ false
    go [] e = refl
    go (c ∷ cs) e =
        let q : Piece = record { kind = piece.FrontMark; chars = 65279 ∷ [] } in
        ⊎_elim
        (λ y.
        let same : p ≡ q =
        (one_piece 0 p q (onto ps []) cs (front_fits p.kind p.chars (onto ps []) f.0) refl
        (e ∙ ap (λ d. d ∷ cs) (eqb-true c 65279 y))).0 in
        absurd (subst (λ (x : Piece). Fits x.kind x.chars (onto ps [])) same f.0))
        (λ n. n)
        (cases_Bool (is_front_mark c))

-- pieces of a text that begins a shebang behind its byte order mark
text_alone : (text : List ℕ) (ps : List Piece) → text ≡ onto ps [] → AreFitFront ps []
    → begins_shebang (behind_mark text) ≡ true → marked (plain_of ps []) × (bracketed (plain_of ps []) → ⊥)
text_alone text [] e f h = let wrong : false ≡ true = sym (ap (λ cs. begins_shebang (behind_mark cs)) e) ∙ h in cc
text_alone text (p ∷ ps) e f h = ⊎_elim front within (front_cases p.kind p.chars (onto ps []) f.0)
  where
    front : p.kind ≡ piece.FrontMark
        → marked (plain_of (p ∷ ps) []) × (bracketed (plain_of (p ∷ ps) []) → ⊥)
    front k =
        let mark : p.chars ≡ 65279 ∷ [] = subst (λ k. FitsFront k p.chars (onto ps [])) k f.0 in
        let behind : behind_mark text ≡ onto ps [] = ap behind_mark (e ∙ ap (λ cs. cs ++ onto ps []) mark) in
        subst (λ k. let ts : List Token = tokens_before k p.chars (onto ps []) ++ plain_of ps [] in
        marked ts × (bracketed ts → ⊥)) (sym k)
        (pieces_alone ps (onto ps []) f.1 refl (ap begins_shebang (sym behind) ∙ h))

    within : Fits p.kind p.chars (onto ps [])
        → marked (plain_of (p ∷ ps) []) × (bracketed (plain_of (p ∷ ps) []) → ⊥)
    within i =
        let none = ap (begins is_front_mark) e ∙ unmarked (p ∷ ps) (i, f.1) in
        pieces_alone (p ∷ ps) text (i, f.1) (sym e) (ap begins_shebang (sym (behind_none text none)) ∙ h)

-- a text whose tokens are a file begins no shebang
pub file_alone : (base : ℕ) (text : List ℕ) (ss : List Spanned) (tree : Tree) → IsForest base text ss
    → IsFile (plain ss) tree → NoShebang text
file_alone base text ss tree f g =
    ⊎_elim
    (λ h.
    let r = forest_read base text ss f in
    let tokens : plain_of r.pieces [] ≡ flat tree =
    sym (cover_tokens 0 text r.pieces r.cover) ∙ r.tokens_are ∙ sym g.spelled in
    let (begun, none) = text_alone text r.pieces r.cover.joined r.cover.fit h in
    absurd (none (subst bracketed (sym tokens) (file_opens tree g.derived (subst marked tokens begun)))))
    (λ n. n)
    (cases_Bool (begins_shebang (behind_mark text)))
