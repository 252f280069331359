-- What was read of files, one by one.
use Rattle.std.proofs.Common.{◌≡◌, ◌+◌, ◌<◌, ◌≤◌, ◌∙◌, List, [], ◌∷◌, ◌++◌, length, map, take, drop}
use Rattle.std.proofs.Common.{Option, ap, sym, subst}
use Rattle.std.proofs.Math.ListN.{get_or}
use Rattle.std.proofs.lemmas.List.{drop_more, map-append, take-append-drop, take_more}
use Rattle.std.specs.Prelude.{ℕ, IfSome}
use Rattle.canon.specs.Run.{run_limit}
use Rattle.canon.specs.declared.fault.Fault.{Fault}
use Rattle.canon_program.specs.Files.{AreHeld, IsFirstUnread, IsFileUnread}

-- one more, behind those that were read
held_more : (held : List ℕ → Option (List ℕ)) (names texts : List (List ℕ)) (name text : List ℕ)
    → AreHeld held names texts → length text ≤ run_limit → IfSome (held name) (λ bytes. text ≡ bytes)
    → AreHeld held (names ++ name ∷ []) (texts ++ text ∷ [])
held_more held [] [] name text are fits read = (fits, read, tt)
held_more held [] (t ∷ texts) name text are fits read = absurd are
held_more held (n ∷ names) [] name text are fits read = absurd are
held_more held (n ∷ names) (t ∷ texts) name text (short, is, are) fits read =
    (short, is, held_more held names texts name text are fits read)

module _ {X : Type 0} (held : List ℕ → Option (List ℕ)) (named : X → List ℕ) (xs : List X) (i : ℕ) (x d : X)
    (texts : List (List ℕ)) (below : i < length xs) (is : x ≡ get_or xs i d)
    (are : AreHeld held (map named (take i xs)) texts) where
  -- the file at a place was read as those before it
  pub held_next : (text : List ℕ) → length text ≤ run_limit → IfSome (held (named x)) (λ bytes. text ≡ bytes)
      → AreHeld held (map named (take (i + 1) xs)) (texts ++ text ∷ [])
  held_next text fits read =
      let names = ap (map named) (take_more xs i d below ∙ ap (λ y. take i xs ++ y ∷ []) (sym is))
      ∙ map-append named (take i xs) (x ∷ []) in
      subst (λ ns. AreHeld held ns (texts ++ text ∷ [])) (sym names)
      (held_more held (map named (take i xs)) texts (named x) text are fits read)

  -- the file at a place was not read, and those before it were
  pub first_unread : (fault : Fault) → IsFileUnread (held (named x)) fault → IsFirstUnread held (map named xs) fault
  first_unread fault unread = record {
    before = map named (take i xs);
    name = named x;
    others = map named (drop (i + 1) xs);
    split = ap (map named) (sym (take-append-drop i xs) ∙ ap (λ ys. take i xs ++ ys) (drop_more xs i d below
        ∙ ap (λ y. y ∷ drop (i + 1) xs) (sym is))) ∙ map-append named (take i xs) (x ∷ drop (i + 1) xs);
    texts = texts;
    are = are;
    is = unread;
  }
