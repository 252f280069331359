-- Texts that are put into a map one behind the other, and the one that decides.
use Rattle.std.proofs.Common.{◌≡◌, ℕ, zero, suc, ◌+◌, ◌<◌, List, [], ◌∷◌, ◌++◌, length, map, take, refl}
use Rattle.std.proofs.Common.{sym, ap, ◌∙◌, subst, arith, rules, inl, inr, ⊎_elim, append_assoc}
use Rattle.std.proofs.Common.{Bor, get_or}
use Rattle.std.proofs.lemmas.List.{length-map}
use Rattle.std.proofs.Math.Numerals.{add-one}
use Rattle.std.specs.Prelude.{Bool, true, false, not, ◌⊎◌, ◌↔◌, Result, Ok, Err, Option, Some, None}
use Rattle.std.specs.Option.{option_map}
use Rattle.std.specs.Str.{chars, IsUtf8}
use Rattle.rust_leaf.specs.Leaf.{AreCharacters}
use Rattle.rust_lex.specs.Chars.{begins}
use Rattle.rust_lex.specs.FileCover.{is_front_mark}
use Rattle.proc_macro2.specs.FileForest.{IsFileForest}
use Rattle.proc_macro2.specs.Token.{Spanned, plain}
use Rattle.syn_grammar.specs.Tree.{Tree}
use Rattle.rust_map.specs.Sources.{Sources, next_position, with_text}
use Rattle.laws_programs.specs.Joined.{AreJoinable, IsFirstFault, IsJoinedOutput, IsLater, IsWrong, MustBeFirst}
use Rattle.laws_programs.specs.Joined.{NoFile, NoForest, Wrong, attributes_of, joined, spaced}
use Rattle.laws_programs.specs.Program.{IsFile, IsOutput, IsProgram, Program, written}
use Rattle.laws_programs.proofs.JoinedFaults.{first_behind, one_more}
use Rattle.laws_programs.proofs.JoinedOutputs.{joined_texts}
use Rattle.laws_programs.proofs.JoinedTexts.{all_joined, program_joined}
use Rattle.laws_programs.proofs.Programs.{lexical_fault, one_program, program_anywhere, syntax_fault}
use Rattle.canon.specs.Faults.{IsFaultOf}
use Rattle.canon.specs.Joined.{AreBehind, ArePut, HasNoRoom, IsDecidedBy, IsFaultAmong, IsFaultOfLater, LacksRoom}
use Rattle.canon.specs.Joined.{put_in, may_follow, texts_of}
use Rattle.canon.specs.JoinedRun.{AreUtf8, bytes_of}
use Rattle.canon.specs.Maps.{IsLeft}
use Rattle.canon.specs.Places.{IsPlaced}
use Rattle.canon.specs.declared.fault.Fault.{Fault}
use Rattle.canon.specs.declared.fault.Fault.TheVariants.{NotUtf8, Lexical, Syntax, NotFirst, MapFull, Memory}
use Rattle.canon.specs.declared.fault.Fault.TheVariants.{Reading, Writing}

-- one more text

behind_more : (before : List (List ℕ)) (old between new : Sources) (text : List ℕ) → AreBehind before old between
    → (HasNoRoom between text → ⊥) → new ≡ with_text between text → AreBehind (before ++ text ∷ []) old new
behind_more [] old between new text b room e =
    ((λ n. room (subst (λ (m : Sources). HasNoRoom m text) (sym b) n)), e ∙ ap (λ (m : Sources). with_text m text) b)
behind_more (t ∷ ts) old between new text b room e =
    (b.0, behind_more ts (with_text old t) between new text b.1 room e)

some_before : (t : List ℕ) (ts : List (List ℕ)) → 0 < length (t ∷ ts)
some_before t ts = search rules

joinable_more : (before : List (List ℕ)) (ps : List Program) (text : List ℕ) (p : Program)
    → AreJoinable false before ps → IsProgram text p → (0 < length before → IsLater text p)
    → AreJoinable false (before ++ text ∷ []) (ps ++ p ∷ [])
joinable_more [] ps text p h i l = one_more false [] ps text p h i (λ e. cc)
joinable_more (t ∷ ts) ps text p h i l = one_more false (t ∷ ts) ps text p h i (λ e. l (some_before t ts))

pub put_more : (before : List (List ℕ)) (old between new : Sources) (text : List ℕ) (p : Program)
    → ArePut before old between → IsProgram text p → (0 < length before → IsLater text p)
    → (HasNoRoom between text → ⊥) → new ≡ with_text between text → ArePut (before ++ text ∷ []) old new
put_more before old between new text p put i l room e = record {
  programs = put.programs ++ p ∷ [];
  joinable = joinable_more before put.programs text p put.joinable i l;
  behind = behind_more before old between new text put.behind room e;
}

pub none_put : (map : Sources) → ArePut [] map map
none_put map = record { programs = []; joinable = tt; behind = refl }

-- the fault of the text that decides is that of the first that may not stand where it does

wrong_behind : (before : List (List ℕ)) (ps : List Program) (text : List ℕ) (others : List (List ℕ)) (w : Wrong)
    → AreJoinable false before ps → ((later : Bool) → IsWrong later text w)
    → IsFirstFault false (before ++ text ∷ others) (length before) w
wrong_behind [] ps text others w h f = first_behind false [] ps text others w h (f false)
wrong_behind (t ∷ ts) ps text others w h f = first_behind false (t ∷ ts) ps text others w h (f true)

must_be_first : (before : List (List ℕ)) (ps : List Program) (text : List ℕ) (others : List (List ℕ)) (p : Program)
    → AreJoinable false before ps → 0 < length before → IsProgram text p → (IsLater text p → ⊥)
    → IsFirstFault false (before ++ text ∷ others) (length before) MustBeFirst
must_be_first [] ps text others p h some i n = absurd (none some)
  where
    none : 0 < 0 → ⊥
    none e = omega (arith, e)
must_be_first (t ∷ ts) ps text others p h some i n =
    first_behind false (t ∷ ts) ps text others MustBeFirst h (refl, p, i, n)

among : (before : List (List ℕ)) (ps : List Program) (text : List ℕ) (others : List (List ℕ)) (fault : Fault)
    → AreJoinable false before ps → IsFaultOfLater (length before) text fault
    → IsFaultAmong (before ++ text ∷ others) fault
among before ps text others (Lexical place) h f =
    (length before, wrong_behind before ps text others (NoForest place) h (λ later. f))
among before ps text others (Syntax error place) h f =
    (length before, wrong_behind before ps text others (NoFile place) h (λ later. f))
among before ps text others (NotFirst index) h (e, some, p, i, n) =
    subst (λ (k : ℕ). IsFirstFault false (before ++ text ∷ others) k MustBeFirst) (sym e)
    (must_be_first before ps text others p h some i n)
among before ps text others MapFull h f = tt
among before ps text others Memory h f = tt
among before ps text others NotUtf8 h f = absurd f
among before ps text others Reading h f = absurd f
among before ps text others Writing h f = absurd f

-- where there is no room

abbrev Stands : Bool → List ℕ → Program → Type 0
Stands later text p = later ≡ true → IsLater text p

-- whether texts stand behind another one
abbrev is_behind : List (List ℕ) → Bool → Bool
is_behind [] later = later
is_behind (t ∷ ts) later = true

-- behind texts that were put, there is none where there is none for all
lacks_behind : (later : Bool) (before : List (List ℕ)) (ps : List Program) (old between : Sources)
    (others : List (List ℕ)) → AreJoinable later before ps → AreBehind before old between
    → LacksRoom later old (before ++ others) → LacksRoom (is_behind before later) between others
lacks_behind later [] ps old between others h b l =
    subst (λ (m : Sources). LacksRoom later m others) (sym b) l
lacks_behind later (t ∷ ts) [] old between others h b l = absurd h
lacks_behind later (t ∷ ts) (p ∷ ps) old between others h b l =
    ⊎_elim (λ n. absurd (b.0 n))
    (λ (q, i, s, more). still ts (lacks_behind true ts ps (with_text old t) between others h.2 b.1 more)) l
  where
    still : (us : List (List ℕ)) → LacksRoom (is_behind us true) between others → LacksRoom true between others
    still [] x = x
    still (u ∷ us) x = x

-- and there is none for all where there is none behind texts that were put
lacks_all : (later : Bool) (before : List (List ℕ)) (ps : List Program) (old between : Sources) (text : List ℕ)
    (others : List (List ℕ)) → AreJoinable later before ps → AreBehind before old between → HasNoRoom between text
    → LacksRoom later old (before ++ text ∷ others)
lacks_all later [] ps old between text others h b n = inl (subst (λ (m : Sources). HasNoRoom m text) b n)
lacks_all later (t ∷ ts) [] old between text others h b n = absurd h
lacks_all later (t ∷ ts) (p ∷ ps) old between text others h b n =
    inr (p, h.0, h.1, lacks_all true ts ps (with_text old t) between text others h.2 b.1 n)

-- a text that is at fault doesn't stand where it does
not_wrong : (before : List (List ℕ)) (text : List ℕ) (fault : Fault) (p : Program)
    → IsFaultOfLater (length before) text fault → IsProgram text p → Stands (is_behind before false) text p
    → (fault ≡ MapFull) ⊎ (fault ≡ Memory)
not_wrong before text (Lexical place) p f i s = absurd (lexical_fault text place p f i)
not_wrong before text (Syntax error place) p f i s = absurd (syntax_fault text place p f i)
not_wrong [] text (NotFirst index) p (e, some, q, j, n) i s = absurd (none some)
  where
    none : 0 < 0 → ⊥
    none e = omega (arith, e)
not_wrong (t ∷ ts) text (NotFirst index) p (e, some, q, j, n) i s =
    absurd (n (subst (IsLater text) (one_program text p q i j) (s refl)))
not_wrong before text MapFull p f i s = inl refl
not_wrong before text Memory p f i s = inr refl
not_wrong before text NotUtf8 p f i s = absurd f
not_wrong before text Reading p f i s = absurd f
not_wrong before text Writing p f i s = absurd f

pub full_or_memory : (texts : List (List ℕ)) (old new : Sources) (fault : Fault) → IsDecidedBy texts old new fault
    → LacksRoom false old texts → (fault ≡ MapFull) ⊎ (fault ≡ Memory)
full_or_memory texts old new fault d l =
    ⊎_elim (λ n. ⊎_elim inl (λ m. inr m.0) (d.no_room n))
    (λ (p, i, s, more). not_wrong d.before d.text fault p d.is i s)
    (lacks_behind false d.before d.put.programs old d.between (d.text ∷ d.others) d.put.joinable d.put.behind
    (subst (λ (us : List (List ℕ)). LacksRoom false old us) d.split l))

pub lacks_room : (texts : List (List ℕ)) (old new : Sources) (fault : Fault) → IsDecidedBy texts old new fault
    → fault ≡ MapFull → LacksRoom false old texts
lacks_room texts old new fault d e =
    subst (λ (us : List (List ℕ)). LacksRoom false old us) (sym d.split)
    (lacks_all false d.before d.put.programs old d.between d.text d.others d.put.joinable d.put.behind (d.full e))

-- texts that were all put, and behind them what they are joined to
module _ (texts : List (List ℕ)) (old between : Sources) (whole : List ℕ) (is : joined texts ≡ whole)
    (put : ArePut texts old between) where
  all_are : put_in texts ≡ texts ++ whole ∷ []
  all_are = ap (λ w. texts ++ w ∷ []) is

  pub all_behind : (new : Sources) → (HasNoRoom between whole → ⊥) → new ≡ with_text between whole
      → AreBehind (put_in texts) old new
  all_behind new room e =
      subst (λ (us : List (List ℕ)). AreBehind us old new) (sym all_are)
      (behind_more texts old between new whole put.behind room e)

  pub whole_lacks : HasNoRoom between whole → LacksRoom false old (put_in texts)
  whole_lacks n =
      subst (λ (us : List (List ℕ)). LacksRoom false old us) (sym all_are)
      (lacks_all false texts put.programs old between whole [] put.joinable put.behind n)

  pub lacks_whole : LacksRoom false old (put_in texts) → HasNoRoom between whole
  lacks_whole l =
      ⊎_elim (λ n. n) (λ (p, i, s, more). absurd more)
      (lacks_behind false texts put.programs old between (whole ∷ []) put.joinable put.behind
      (subst (λ (us : List (List ℕ)). LacksRoom false old us) all_are l))

  of_whole : (fault : Fault) → IsFaultOf whole fault → IsFaultOfLater (length texts) whole fault
  of_whole (Lexical place) f = f
  of_whole (Syntax error place) f = f
  of_whole MapFull f = f
  of_whole Memory f = f
  of_whole NotUtf8 f = absurd f
  of_whole (NotFirst index) f = absurd f
  of_whole Reading f = absurd f
  of_whole Writing f = absurd f

  pub whole_decides : (new : Sources) (fault : Fault) → IsFaultOf whole fault
      → (fault ≡ MapFull) ↔ HasNoRoom between whole → IsPlaced (next_position between) whole new fault
      → IsLeft whole between new fault → IsDecidedBy (put_in texts) old new fault
  whole_decides new fault f full placed left = record {
    before = texts;
    text = whole;
    others = [];
    split = all_are;
    between = between;
    put = put;
    is = of_whole fault f;
    full = full.0;
    no_room = λ n. inl (full.1 n);
    placed = placed;
    left = left;
  }

-- what they are joined to is accepted, and its output is theirs
pub joined_output : (texts : List (List ℕ)) (old between : Sources) (whole output : List ℕ) → joined texts ≡ whole
    → ArePut texts old between → AreCharacters whole → IsOutput whole output → IsJoinedOutput texts output
joined_output texts old between whole output is put a o =
    let j = joined_texts texts put.programs (subst AreCharacters (sym is) a) put.joinable in
    let here : IsOutput (joined texts) output = subst (λ (w : List ℕ). IsOutput w output) (sym is) o in
    let same : output ≡ spaced false put.programs =
    here.is ∙ ap written (one_program (joined texts) here.program j.whole here.is_program j.accepted) ∙ sym j.is in
    subst (IsJoinedOutput texts) (sym same) j

-- so it is at fault only where there is no room, or no memory
faultless : (texts : List (List ℕ)) (ps : List Program) (fault : Fault) → AreJoinable false texts ps
    → IsFaultOf (joined texts) fault → IsFaultAmong texts fault
faultless texts ps (Lexical place) h f =
    absurd (lexical_fault (joined texts) place (all_joined ps) f (program_joined false texts ps h))
faultless texts ps (Syntax error place) h f =
    absurd (syntax_fault (joined texts) place (all_joined ps) f (program_joined false texts ps h))
faultless texts ps MapFull h f = tt
faultless texts ps Memory h f = tt
faultless texts ps NotUtf8 h f = absurd f
faultless texts ps (NotFirst index) h f = absurd f
faultless texts ps Reading h f = absurd f
faultless texts ps Writing h f = absurd f

pub joined_faultless : (texts : List (List ℕ)) (old between : Sources) (whole : List ℕ) (fault : Fault)
    → joined texts ≡ whole → ArePut texts old between → IsFaultOf whole fault → IsFaultAmong texts fault
joined_faultless texts old between whole fault is put f =
    faultless texts put.programs fault put.joinable (subst (λ (w : List ℕ). IsFaultOf w fault) (sym is) f)

-- one more of a list

one_of : {A : Type 0} (xs : List A) (i : ℕ) (d : A) → i < length xs
    → (others : List A) × (xs ≡ take i xs ++ get_or xs i d ∷ others)
    × (take (suc i) xs ≡ take i xs ++ get_or xs i d ∷ [])
one_of [] i d h = absurd (none i h)
  where
    none : (i : ℕ) → i < 0 → ⊥
    none i h = omega (arith, h)
one_of (y ∷ ys) zero d h = (ys, refl, refl)
one_of (y ∷ ys) (suc i) d h =
    let (others, split, more) = one_of ys i d (omega (arith, h)) in
    (others, ap (λ zs. y ∷ zs) split, ap (λ zs. y ∷ zs) more)

pub taken_more : {A : Type 0} (xs : List A) (i : ℕ) (d : A) → i < length xs
    → take (i + 1) xs ≡ take i xs ++ get_or xs i d ∷ []
taken_more xs i d h = ap (λ n. take n xs) (add-one i) ∙ (one_of xs i d h).2

taken : {A : Type 0} (xs : List A) (i : ℕ) → i < length xs → length (take i xs) ≡ i
taken [] i h = absurd (none i h)
  where
    none : (i : ℕ) → i < 0 → ⊥
    none i h = omega (arith, h)
taken (y ∷ ys) zero h = refl
taken (y ∷ ys) (suc i) h = ap suc (taken ys i (omega (arith, h)))

texts_behind : (xs ys : List (Bor (List ℕ))) → texts_of (xs ++ ys) ≡ texts_of xs ++ texts_of ys
texts_behind [] ys = refl
texts_behind (x ∷ xs) ys = ap (λ us. chars x.now ∷ us) (texts_behind xs ys)

-- the texts of a loop, and the one at its index
module _ (xs : List (Bor (List ℕ))) (i : ℕ) (d : Bor (List ℕ)) (there : i < length xs) where
  abbrev x : Bor (List ℕ)
  x = get_or xs i d

  count : length (texts_of (take i xs)) ≡ i
  count = length-map (take i xs) (λ t. chars t.now) ∙ taken xs i there

  more : texts_of (take (i + 1) xs) ≡ texts_of (take i xs) ++ chars x.now ∷ []
  more = ap texts_of (taken_more xs i d there) ∙ texts_behind (take i xs) (x ∷ [])

  pub put_next : (old between new : Sources) (p : Program) → ArePut (texts_of (take i xs)) old between
      → IsProgram (chars x.now) p → (0 < i → IsLater (chars x.now) p) → (HasNoRoom between (chars x.now) → ⊥)
      → new ≡ with_text between (chars x.now) → ArePut (texts_of (take (i + 1) xs)) old new
  put_next old between new p put f l room e =
      subst (λ (us : List (List ℕ)). ArePut us old new) (sym more)
      (put_more (texts_of (take i xs)) old between new (chars x.now) p put f
      (λ some. l (subst (λ (n : ℕ). 0 < n) count some)) room e)

  pub fault_next : (old between : Sources) (fault : Fault) → ArePut (texts_of (take i xs)) old between
      → IsFaultOfLater i (chars x.now) fault → IsFaultAmong (texts_of xs) fault
  fault_next old between fault put f =
      let o = one_of xs i d there in
      subst (λ (us : List (List ℕ)). IsFaultAmong us fault)
      (sym (ap texts_of o.1 ∙ texts_behind (take i xs) (x ∷ o.0)))
      (among (texts_of (take i xs)) put.programs (chars x.now) (texts_of o.0) fault put.joinable
      (subst (λ (n : ℕ). IsFaultOfLater n (chars x.now) fault) (sym count) f))

  pub decided_next : (old between new : Sources) (fault : Fault) → ArePut (texts_of (take i xs)) old between
      → IsFaultOfLater i (chars x.now) fault → (fault ≡ MapFull) ↔ HasNoRoom between (chars x.now)
      → IsPlaced (next_position between) (chars x.now) new fault → IsLeft (chars x.now) between new fault
      → IsDecidedBy (put_in (texts_of xs)) old new fault
  decided_next old between new fault put f full placed left =
      let o = one_of xs i d there in
      let whole : List ℕ = joined (texts_of xs) in
      record {
        before = texts_of (take i xs);
        text = chars x.now;
        others = texts_of o.0 ++ whole ∷ [];
        split = ap (λ us. us ++ whole ∷ []) (ap texts_of o.1 ∙ texts_behind (take i xs) (x ∷ o.0))
            ∙ append_assoc (texts_of (take i xs)) (chars x.now ∷ texts_of o.0) (whole ∷ []);
        between = between;
        put = put;
        is = subst (λ (n : ℕ). IsFaultOfLater n (chars x.now) fault) (sym count) f;
        full = full.0;
        no_room = λ n. inl (full.1 n);
        placed = placed;
        left = left;
      }

  pub text_next : AreUtf8 (bytes_of (take i xs)) → IsUtf8 x.now → AreUtf8 (bytes_of (take (i + 1) xs))
  text_next before t =
      subst (λ (ys : List (Bor (List ℕ))). AreUtf8 (bytes_of ys))
      (sym (taken_more xs i d there)) (text_more (take i xs) before t)
    where
      text_more : (ys : List (Bor (List ℕ))) → AreUtf8 (bytes_of ys) → IsUtf8 x.now → AreUtf8 (bytes_of (ys ++ x ∷ []))
      text_more [] b t = (t, tt)
      text_more (y ∷ ys) b t = (b.0, text_more ys b.1 t)

-- what a text's answer says of room
pub had_room : {A : Type 0} (r : Result A Fault) (a : A) (N : Type 0) → r ≡ Ok a → (r ≡ Err MapFull) ↔ N → N → ⊥
had_room r a N was full n = wrong (sym was ∙ full.1 n)
  where
    wrong : {A : Type 0} {a : A} → Ok a ≡ Err MapFull → ⊥
    wrong e = cc

pub full_there : {A : Type 0} (r : Result A Fault) (fault : Fault) (N : Type 0) → r ≡ Err fault
    → (r ≡ Err MapFull) ↔ N → (fault ≡ MapFull) ↔ N
full_there r fault N was full = ((λ e. full.0 (was ∙ ap Err e)), (λ n. same (sym was ∙ full.1 n)))
  where
    same : {A : Type 0} {f g : Fault} → ◌≡◌ {A = Result A Fault} (Err f) (Err g) → f ≡ g
    same e = cc

-- the test of whether a text may stand behind another

not_so : (b : Bool) → not b ≡ true → b ≡ false
not_so true t = cc
not_so false t = refl

abbrev read_as : Option (Bor (List ℕ)) → Tree → Program
read_as s tree = record { shebang = option_map (λ line. chars line.now) s; tree = tree }

pub later_is : (text : List ℕ) (s : Option (Bor (List ℕ))) (tree : Tree) (own : Bool)
    → (own ≡ false) ↔ (attributes_of tree ≡ []) → may_follow text s own ≡ true → IsLater text (read_as s tree)
later_is text None tree false has t =
    record { no_mark = not_so (begins is_front_mark text) t; no_shebang = refl; no_attributes = has.0 refl }
later_is text (Some line) tree false has t = cc
later_is text s tree true has t = cc

pub not_later : (text : List ℕ) (s : Option (Bor (List ℕ))) (tree : Tree) (own : Bool)
    → (own ≡ false) ↔ (attributes_of tree ≡ []) → may_follow text s own ≡ false → IsLater text (read_as s tree) → ⊥
not_later text None tree false has t l =
    let wrong : not false ≡ false = ap not (sym l.no_mark) ∙ t in cc
not_later text (Some line) tree false has t l =
    let wrong : Some (chars line.now) ≡ None = l.no_shebang in cc
not_later text s tree true has t l =
    let wrong : true ≡ false = has.1 l.no_attributes in cc

-- a text whose tokens are a file, where it may stand
pub stands_there : (base n : ℕ) (text : List ℕ) (s : Option (Bor (List ℕ))) (ss : List Spanned) (tree : Tree)
    (own : Bool) → IsFileForest base text (option_map (λ line. chars line.now) s) ss → IsFile (plain ss) tree
    → (own ≡ false) ↔ (attributes_of tree ≡ []) → (0 < n → may_follow text s own ≡ true)
    → (p : Program) × IsProgram text p × (0 < n → IsLater text p)
stands_there base n text s ss tree own forest file has may = (
  read_as s tree,
  program_anywhere base text ss (read_as s tree) forest file,
  λ some. later_is text s tree own has (may some),
)

-- and where it may not
pub stands_wrong : (base n : ℕ) (text : List ℕ) (s : Option (Bor (List ℕ))) (ss : List Spanned) (tree : Tree)
    (own : Bool) → IsFileForest base text (option_map (λ line. chars line.now) s) ss → IsFile (plain ss) tree
    → (own ≡ false) ↔ (attributes_of tree ≡ []) → 0 < n → may_follow text s own ≡ false
    → IsFaultOfLater n text (NotFirst n)
stands_wrong base n text s ss tree own forest file has some may = (
  refl,
  some,
  read_as s tree,
  program_anywhere base text ss (read_as s tree) forest file,
  not_later text s tree own has may,
)
