-- The parts of a file, read one behind the other, make it; and what is written of it is what is written of each.
use Rattle.std.proofs.Common.{◌≡◌, ◌∙◌, ℕ, ◌-◌, ◌<◌, ◌≤◌, List, [], ◌∷◌, ◌++◌, length, map, drop, take, refl, sym, ap}
use Rattle.std.proofs.Common.{append_assoc, arith, length-append, length-drop, subst}
use Rattle.std.proofs.lemmas.List.{append-nil, drop-drop, take_all}
use Rattle.std.specs.Prelude.{Bool, true, false, cond}
use Rattle.proc_macro2.specs.Printed as printed
use Rattle.proc_macro2.specs.Token.{Token, plain}
use Rattle.syn_buffer.specs.Entries.{is_whole, spanned_entries}
use Rattle.syn_buffer.specs.declared.entry.Entry.{Entry}
use Rattle.syn_grammar.specs.Derives.{Derives}
use Rattle.syn_grammar.specs.Gram.{ref}
use Rattle.syn_grammar.specs.Kept.{held, kept}
use Rattle.syn_grammar.specs.Kind.{AFile, AnItem, InnerAttributes, Items}
use Rattle.syn_grammar.specs.Look.{lacks, the_end}
use Rattle.syn_grammar.specs.Normal.{is_enclosed, normal, passed}
use Rattle.syn_grammar.specs.Ranks.{skips}
use Rattle.syn_grammar.specs.Read.{IsDerived, NoneRead}
use Rattle.syn_grammar.specs.Table.{table}
use Rattle.syn_grammar.specs.Tree.{Tree, Pair, End, Again, Node, flat}
use Rattle.syn_grammar.proofs.Firm.{firm}
use Rattle.syn_grammar.proofs.Founded.{all_founded}
use Rattle.syn_grammar.proofs.Theorems as theorems
use Rattle.syn_grammar.proofs.Whole as whole
use Rattle.writer_print.specs.Pieces.{piece_token}
use Rattle.writer_print.specs.Sheets.{Shows}
use Rattle.writer_print.specs.declared.piece.Piece.{Piece}
use Rattle.writer_print.specs.declared.sheet.Sheet.{Sheet}
use Rattle.reader_rust.proofs.Behind.{Left, left, plain_entries, tokens_length}
use Rattle.reader_steps.specs.Answers.{tokens}
use Rattle.laws_programs.proofs.Files.{items_end}
use Rattle.laws_programs.specs.Program.{IsFile, NoFile}
use Rattle.canon.specs.Parts.{AreLeft, Follow, PrintsAttributes, PrintsItems, all_written, left_of, written_as}
use Rattle.canon.specs.Unread.{IsForm, IsUnread, IsUnreadAs}
use Rattle.canon.specs.declared.file.Unread.{Unread}
use Rattle.canon.specs.declared.file.Unread.TheVariants.{Memory, Syntax}

-- the items that tokens are, up to their end
record IsItems (ts : List Token) (x : Tree) : Type 0 where
  pub derived : Derives x (table Items) []
  pub spelled : flat x ≡ ts

abbrev NoItems : List Token → Type 0
NoItems ts = (x : Tree) → IsItems ts x → ⊥

-- a file's tree, as its attributes and its items
record Parted (tree : Tree) : Type 0 where
  pub front : Tree
  pub items : Tree
  pub read : Derives front (ref InnerAttributes) (flat items ++ [])
  pub listed : Derives items (table Items) []
  pub spelled : flat tree ≡ flat front ++ flat items

items_inside : (y : Tree) → Derives y (ref Items) [] → (x : Tree) × Derives x (table Items) [] × (flat y ≡ flat x)
items_inside (Node k x) d = (x, subst (λ i. Derives x (table i) []) d.0 d.1, refl)
items_inside _ d = absurd d

parted_pair : (y : Tree) → Derives y (table AFile) [] → Parted y
unfolding table
parted_pair (Pair a y) d =
    let (x, e, s) = items_inside y d.1 in
    record {
      front = a;
      items = x;
      read = subst (λ ts. Derives a (ref InnerAttributes) (ts ++ [])) s d.0;
      listed = e;
      spelled = ap (λ ts. flat a ++ ts) s;
    }
parted_pair _ d = absurd d

parted : (tree : Tree) → Derives tree (ref AFile) [] → Parted tree
parted (Node k y) d =
    let p = parted_pair y (subst (λ i. Derives y (table i) []) d.0 d.1) in
    record { front = p.front; items = p.items; read = p.read; listed = p.listed; spelled = p.spelled }
parted _ d = absurd d

-- tokens, and nothing behind them
ended : (x : Tree) (ts : List Token) → flat x ≡ ts → flat x ++ [] ≡ ts
ended x ts s = append-nil (flat x) ∙ s

-- of its parts
made_file : (ts us : List Token) (a x : Tree) → IsDerived InnerAttributes ts a us → IsItems us x
    → IsFile ts (Node AFile (Pair a (Node Items x)))
unfolding table
made_file ts us a x d i = record {
  derived = (
    refl,
    (
      subst (λ r. Derives a (ref InnerAttributes) r) (sym (ended x us i.spelled)) d.0,
      (refl, i.derived),
    ),
  );
  spelled = ap (λ r. flat a ++ r) i.spelled ∙ d.1;
}

said_file : (a x : Tree)
    → flat (normal (kept (Node AFile (Pair a (Node Items x))))) ≡ flat (normal (kept a)) ++ flat (normal (kept x))
unfolding held passed
said_file a x = refl

-- no file begins otherwise
no_front : (ts : List Token) → NoneRead InnerAttributes ts → NoFile ts
no_front ts n tree f =
    let p = parted tree f.derived in
    n p.front (flat p.items ++ []) p.read
    (ap (λ r. flat p.front ++ r) (append-nil (flat p.items)) ∙ sym p.spelled ∙ f.spelled)

no_rest : (ts us : List Token) (a : Tree) → IsDerived InnerAttributes ts a us → NoItems us → NoFile ts
no_rest ts us a d n tree f =
    let p = parted tree f.derived in
    let same = theorems.one (ref InnerAttributes) a p.front us (flat p.items ++ []) d.0 p.read
    (d.1 ∙ sym (ap (λ r. flat p.front ++ r) (append-nil (flat p.items)) ∙ sym p.spelled ∙ f.spelled)) in
    n p.items (record { derived = p.listed; spelled = sym (append-nil (flat p.items)) ∙ sym same.1 })

-- an item, and those behind it
stands : (ts : List Token) → 0 < length ts → lacks the_end ts ≡ true
stands [] l = let n : ⊥ = omega (arith, l) in absurd n
stands (t ∷ ts) l = refl

again_items : (ts us : List Token) (i x : Tree) → lacks the_end ts ≡ true → IsDerived AnItem ts i us → IsItems us x
    → IsItems ts (Again i x)
unfolding table
again_items ts us i x l d h =
    let spelled : flat i ++ flat x ≡ ts = ap (λ r. flat i ++ r) h.spelled ∙ d.1 in
    record {
      derived = (
        ap (lacks the_end) (append-nil (flat i ++ flat x) ∙ spelled) ∙ l,
        subst (λ r. Derives i (ref AnItem) r) (sym (ended x us h.spelled)) d.0,
        h.derived,
      );
      spelled = spelled;
    }

no_end : (ts : List Token) → lacks the_end ts ≡ true → [] ≡ ts → ⊥
no_end ts l s = let f : false ≡ true = ap (lacks the_end) s ∙ l in cc

items_behind : (ts us : List Token) (i x : Tree) → lacks the_end ts ≡ true → IsDerived AnItem ts i us
    → Derives x (table Items) [] → flat x ≡ ts → (y : Tree) × IsItems us y
unfolding table
items_behind ts us i End l d h s = absurd (no_end ts l s)
items_behind ts us i (Again j y) l d h s =
    let same = theorems.one (ref AnItem) i j us (flat y ++ []) d.0 h.1
    (d.1 ∙ sym (ap (λ r. flat j ++ r) (append-nil (flat y)) ∙ s)) in
    (y, record { derived = h.2; spelled = sym (append-nil (flat y)) ∙ sym same.1 })
items_behind ts us i _ l d h s = absurd h

first_item : (ts : List Token) (x : Tree) → lacks the_end ts ≡ true → NoneRead AnItem ts → Derives x (table Items) []
    → flat x ≡ ts → ⊥
unfolding table
first_item ts End l n h s = no_end ts l s
first_item ts (Again j y) l n h s = n j (flat y ++ []) h.1 (ap (λ r. flat j ++ r) (append-nil (flat y)) ∙ s)
first_item ts _ l n h s = h

either_way : (b : Bool) (x : Tree) → flat (cond b x x) ≡ flat x
either_way true x = refl
either_way false x = refl

said_item : (i x : Tree) (r : List Token) → Derives i (ref AnItem) r
    → flat (normal (kept (Again i x))) ≡ flat (normal (kept i)) ++ flat (normal (kept x))
said_item (Node k y) x r d =
    ap (λ ts. ts ++ flat (normal (kept x)))
    (either_way (is_enclosed (kept x) (normal (kept x))) (normal (kept (Node k y))))
said_item _ x r d = absurd d

-- an item takes a token
shorter : (ts us : List Token) (x : Tree) → IsDerived AnItem ts x us → length us < length ts
unfolding skips
shorter ts us x d = whole.reads_shorter all_founded firm AnItem refl ts us x (theorems.all AnItem ts x us d)

item_stands : (ts us : List Token) (x : Tree) → IsDerived AnItem ts x us → lacks the_end ts ≡ true
item_stands ts us x d = stands ts (omega (arith, shorter ts us x d))

-- items one behind the other, and others behind these
pub follow_all : (is js : List Tree) (ts us vs : List Token) → Follow is ts us → Follow js us vs
    → Follow (is ++ js) ts vs
follow_all [] js ts us vs e f = subst (λ r. Follow js r vs) (sym e) f
follow_all (i ∷ is) js ts us vs (ws, d, e) f = (ws, d, follow_all is js ws us vs e f)

pub written_all : (is js : List Tree) → all_written (is ++ js) ≡ all_written is ++ all_written js
written_all [] js = refl
written_all (i ∷ is) js =
    ap (λ ts. written_as i ++ ts) (written_all is js)
    ∙ sym (append_assoc (written_as i) (all_written is) (all_written js))

-- which tokens they are
spelled : (is : List Tree) (ts us : List Token) → Follow is ts us → (ps : List Token) × (ps ++ us ≡ ts)
spelled [] ts us e = ([], sym e)
spelled (i ∷ is) ts us (vs, d, f) =
    let (ps, s) = spelled is vs us f in
    (flat i ++ ps, append_assoc (flat i) ps us ∙ ap (λ r. flat i ++ r) s ∙ d.1)

-- the tree of them
listed : List Tree → Tree
listed [] = End
listed (i ∷ is) = Again i (listed is)

made_items : (is : List Tree) (ts : List Token) → Follow is ts [] → IsItems ts (listed is)
unfolding table listed
made_items [] ts e = record { derived = refl; spelled = sym e }
made_items (i ∷ is) ts (us, d, f) = again_items ts us i (listed is) (item_stands ts us i d) d (made_items is us f)

said_items : (is : List Tree) (ts us : List Token) → Follow is ts us → flat (normal (kept (listed is))) ≡ all_written is
unfolding listed
said_items [] ts us e = refl
said_items (i ∷ is) ts us (vs, d, f) =
    said_item i (listed is) vs d.0 ∙ ap (λ r. written_as i ++ r) (said_items is vs us f)

-- where none follow them, there are none
none_behind : (is : List Tree) (ts us : List Token) → Follow is ts us → NoItems us → NoItems ts
none_behind [] ts us e n x h = subst NoItems (sym e) n x h
none_behind (i ∷ is) ts us (vs, d, f) n x h =
    let (y, j) = items_behind ts vs i x (item_stands ts vs i d) d h.derived h.spelled in
    none_behind is vs us f n y j

-- as a kind
none_items : (ts : List Token) → NoItems ts → NoneRead Items ts
none_items ts n tree rest d s =
    let e : rest ≡ [] = items_end tree rest d in
    let (x, h, same) = items_inside tree (subst (Derives tree (ref Items)) e d) in
    n x (record {
      derived = h;
      spelled = sym same ∙ sym (append-nil (flat tree)) ∙ ap (λ r. flat tree ++ r) (sym e) ∙ s;
    })

no_items : (ts : List Token) → NoneRead Items ts → NoItems ts
no_items ts n x h = n (Node Items x) [] (refl, h.derived) (append-nil (flat x) ∙ h.spelled)

-- what is left of entries
left_length : (n : ℕ) (es : List Entry) → n ≤ length es → length (left_of n es) ≡ n
left_length n es l = omega (arith, length-drop (length es - n) es, l)

left_twice : (es : List Entry) (m n : ℕ) → m ≤ length es → n ≤ m → left_of n (left_of m es) ≡ left_of n es
left_twice es m n l h =
    drop-drop (length (left_of m es) - n) (length es - m) es
    ∙ ap (λ i. drop i es) (omega (arith, left_length m es l, l, h))

pub sliced : (es : List Entry) (m : ℕ) → take (length es - (length es - m)) (left_of m es) ≡ left_of m es
sliced es m = take_all (length es - (length es - m)) (left_of m es) (omega (arith, length-drop (length es - m) es))

all_passed : (es : List Entry) → drop (length es) es ≡ []
all_passed [] = refl
all_passed (e ∷ es) = all_passed es

none_left : (es : List Entry) → left_of 0 es ≡ []
none_left es = let n : length es - 0 ≡ length es = omega arith in ap (λ k. drop k es) n ∙ all_passed es

-- the attributes
pub front_put : (es others : List Entry) (old new : Sheet) (x : Tree) → is_whole es ≡ true → is_whole others ≡ true
    → IsDerived InnerAttributes (tokens es) x (tokens others)
    → ((ts : List Token) → Shows old ts → Shows new (ts ++ written_as x)) → PrintsAttributes es (length others) old new
front_put es others old new x h r d s =
    let l : Left es others = left (flat x) es others d.1 h r in
    record {
      behind = record { within = l.within; whole = l.whole };
      tree = x;
      derived = subst (IsDerived InnerAttributes (tokens es) x) (sym l.same) d;
      shows = s;
    }

-- the items among entries that were read so far, and what is to be printed of them
pub record Some (es rest : List Entry) (pieces : List Piece) : Type 0 where
  pub whole : is_whole rest ≡ true
  pub items : List Tree
  pub follow : Follow items (tokens es) (tokens rest)
  pub put : map piece_token pieces ≡ all_written items

pub one_item_more : (es rest behind : List Entry) (before after : List Piece) (i : Tree) → Some es rest before
    → is_whole behind ≡ true → IsDerived AnItem (tokens rest) i (tokens behind)
    → map piece_token after ≡ map piece_token before ++ written_as i → Some es behind after
one_item_more es rest behind before after i s h d p = record {
  whole = h;
  items = s.items ++ i ∷ [];
  follow = follow_all s.items (i ∷ []) (tokens es) (tokens rest) (tokens behind) s.follow (tokens behind, d, refl);
  put = p ∙ ap (λ ts. ts ++ written_as i) s.put
      ∙ sym (written_all s.items (i ∷ []) ∙ ap (λ ts. all_written s.items ++ ts) (append-nil (written_as i)));
}

pub rest_shorter : (rest behind : List Entry) (i : Tree) → IsDerived AnItem (tokens rest) i (tokens behind)
    → length behind < length rest
rest_shorter rest behind i d =
    omega (arith, shorter (tokens rest) (tokens behind) i d, tokens_length rest, tokens_length behind)

pub rest_within : (es rest : List Entry) (pieces : List Piece) → Some es rest pieces → length rest ≤ length es
rest_within es rest pieces s =
    let (ps, e) = spelled s.items (tokens es) (tokens rest) s.follow in
    omega (
      arith,
      ap (λ (ts : List Token). length ts) e,
      length-append ps (tokens rest),
      tokens_length es,
      tokens_length rest,
    )

pub items_put : (es rest : List Entry) (pieces : List Piece) (old new : Sheet) → is_whole es ≡ true
    → Some es rest pieces → length rest < length es
    → ((ts : List Token) → Shows old ts → Shows new (ts ++ map piece_token pieces))
    → PrintsItems es (length rest) old new
items_put es rest pieces old new h s l p =
    let (ps, e) = spelled s.items (tokens es) (tokens rest) s.follow in
    let b : Left es rest = left ps es rest e h s.whole in
    record {
      behind = record { within = b.within; whole = b.whole };
      some = l;
      items = s.items;
      follow = subst (Follow s.items (tokens es)) (sym b.same) s.follow;
      shows = λ ts q. subst (λ us. Shows new (ts ++ us)) s.put (p ts q);
    }

pub items_unread : (es rest : List Entry) (pieces : List Piece) (u : Unread) → Some es rest pieces → 0 < length rest
    → IsUnreadAs AnItem (tokens rest) u → IsUnreadAs Items (tokens es) u
items_unread es rest pieces Memory s l n = tt
items_unread es rest pieces (Syntax w) s l n =
    none_items (tokens es)
    (none_behind s.items (tokens es) (tokens rest) s.follow
    (λ x h. first_item (tokens rest) x (stands (tokens rest) (omega (arith, tokens_length rest, l))) n h.derived
    h.spelled))

-- So far a file was read and printed: its attributes, and these items.
pub record Progress (es : List Entry) (left : ℕ) (sheet : Sheet) : Type 0 where
  pub behind : AreLeft es left
  pub front : Tree
  pub after : List Token
  pub read : IsDerived InnerAttributes (tokens es) front after
  pub items : List Tree
  pub follow : Follow items after (tokens (left_of left es))
  pub shows : Shows sheet (written_as front ++ all_written items)

pub begun : (es : List Entry) (n : ℕ) (old new : Sheet) → Shows old [] → PrintsAttributes es n old new
    → Progress es n new
begun es n old new s p = record {
  behind = p.behind;
  front = p.tree;
  after = tokens (left_of n es);
  read = p.derived;
  items = [];
  follow = refl;
  shows = subst (Shows new) (sym (append-nil (written_as p.tree))) (p.shows [] s);
}

-- with more items
pub gone_on : (es : List Entry) (m n : ℕ) (old new : Sheet) → Progress es m old → PrintsItems (left_of m es) n old new
    → Progress es n new
gone_on es m n old new q p =
    let k : n ≤ m = omega (arith, left_length m es q.behind.within, p.behind.within) in
    let same : left_of n (left_of m es) ≡ left_of n es = left_twice es m n q.behind.within k in
    record {
      behind = record {
        within = omega (arith, k, q.behind.within);
        whole = sym (ap is_whole same) ∙ p.behind.whole;
      };
      front = q.front;
      after = q.after;
      read = q.read;
      items = q.items ++ p.items;
      follow = follow_all q.items p.items q.after (tokens (left_of m es)) (tokens (left_of n es)) q.follow
          (subst (λ r. Follow p.items (tokens (left_of m es)) (tokens r)) same p.follow);
      shows = subst (Shows new)
          (append_assoc (written_as q.front) (all_written q.items) (all_written p.items)
          ∙ ap (λ ts. written_as q.front ++ ts) (sym (written_all q.items p.items)))
          (p.shows (written_as q.front ++ all_written q.items) q.shows);
    }

-- where none are left
pub finished : (es : List Entry) (sheet : Sheet) (out : List ℕ) → Progress es 0 sheet
    → ((ts : List Token) → Shows sheet ts → out ≡ printed.text ts) → IsForm (plain (spanned_entries es)) out
finished es sheet out q e =
    let follow : Follow q.items q.after [] = subst (λ r. Follow q.items q.after (tokens r)) (none_left es) q.follow in
    let tree : Tree = Node AFile (Pair q.front (Node Items (listed q.items))) in
    record {
      tree = tree;
      file = subst (λ ts. IsFile ts tree) (sym (plain_entries es))
          (made_file (tokens es) q.after q.front (listed q.items) q.read (made_items q.items q.after follow));
      is = e (written_as q.front ++ all_written q.items) q.shows
          ∙ ap printed.text (sym (said_file q.front (listed q.items)
          ∙ ap (λ ts. written_as q.front ++ ts) (said_items q.items q.after [] follow)));
    }

-- where one is refused
pub front_unread : (es : List Entry) (u : Unread) → IsUnreadAs InnerAttributes (tokens es) u
    → IsUnread (plain (spanned_entries es)) u
front_unread es Memory n = tt
front_unread es (Syntax w) n = subst NoFile (sym (plain_entries es)) (no_front (tokens es) n)

pub rest_unread : (es : List Entry) (m : ℕ) (sheet : Sheet) (u : Unread) → Progress es m sheet
    → IsUnreadAs Items (tokens (left_of m es)) u → IsUnread (plain (spanned_entries es)) u
rest_unread es m sheet Memory q n = tt
rest_unread es m sheet (Syntax w) q n =
    subst NoFile (sym (plain_entries es))
    (no_rest (tokens es) q.after q.front q.read
    (none_behind q.items q.after (tokens (left_of m es)) q.follow (no_items (tokens (left_of m es)) n)))
