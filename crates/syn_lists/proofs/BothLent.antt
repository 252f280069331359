-- A list lends its values and its separators at once, and ends as it is with what they end as. Assumes `Logic`.
--     lends_both     a `&mut` to the list is cut into one to its values and one to its separators; the list
--                    follows both
--     handed_on      each of the two is lent on, and the list follows what follows them
use mathlib.Core.Path.{refl}
use mathlib.Core.List.{List, [], ◌∷◌}
use Prim.Native.Nat.{ℕ, zero, ◌+◌}
use seplogic.Ra.Ura.{Ura}
use base.Fraction.{full_share}
use base.Logic.{SProp, all_e, apply∗, ent, ex, sep, wand}
use base.Fml.{Fml, GName, Lft, Share, fbor, flft, fobs, fres, fsep, ftrue}
use mir.Syntax.{named}
use mir.Val.{Val, vptr}
use types.Follow.{followed₂, takes_two}
use types.Kit.{‵, ◌$◌, ◌∵◌, ◌⊛◌, !, assume, await, by, done, drop, each, feq_i, fjoin, fjoin3, fsplit, fsplit3, group}
use types.Kit.{join, keep, later, move, now, pick, qed, raw, show, some, split, split3, updating, use1, use2}
use types.Logic.{Logic, sem}
use types.Mut.{open_ref}
use types.SemTy.{Body}
use denote.Array.{Array}
use denote.Follow.{both_by, followed, follows, follows_both}
use denote.Memory.{lone, mem, part_at, part_of}
use denote.Param.Laws.{Laws}
use denote.RattleType.{Denots, RattleType}
use denote.Ref.{MutRef}
use denote.Steps.{nothing}
use denote.Struct.Loose.{lawfuls}
use denote.Struct.Members.{Member, parts_at, rows_of}
use denote.Struct.Parts.{PartsBack, Struct-parts, shape_of}
use denote.Struct.Struct.{Struct}
use Rattle.std.specs.contracts.alloc.Global.{the_row as global}
use Rattle.std.specs.contracts.impls.GlobalAllocator.TheImpl.{ghosts}
use Rattle.std.specs.contracts.vec.Vec.{the_row as vec_row}
use Rattle.syn_lists.specs.declared.punctuated.Punctuated.{Punctuated}
use Rattle.syn_lists.specs.contracts.punctuated.Punctuated as list
use Rattle.syn_lists.proofs.punctuated.Punctuated.TheLaws as laws

module _ (T P : RattleType) where
  abbrev pub Whole : RattleType
  Whole = list.the_row T P

  abbrev pub Values : RattleType
  Values = vec_row T global ghosts

  abbrev pub Separators : RattleType
  Separators = vec_row P global ghosts

  abbrev pub of_both : Values.Denot → Separators.Denot → Punctuated T.Denot P.Denot
  of_both vs ps = record { values = vs; separators = ps }

  abbrev fields : List Member
  fields = record { row = Values; ty = lone Values.mir } ∷ record { row = Separators; ty = lone Separators.mir } ∷ []

  abbrev tuple : Punctuated T.Denot P.Denot → Denots (rows_of fields)
  tuple h = (h.values, (h.separators, tt))

  module _ {M : Type 1} {𝓤 : Ura M} (𝓛 : Logic 𝓤) where
    open 𝓛 use {A, H}

    module _ (κ : Lft) (q : Share) (b o : ℕ) (γ : GName) where
      abbrev Back : SProp 𝓤
      Back = PartsBack 𝓛 full_share (list.struct T P).name fields b o

      abbrev Fields : Values.Denot → Separators.Denot → Fml
      Fields vs ps = fsep (part_at Values full_share vs b (o + 0))
          (fsep (part_at Separators full_share ps b (o + 24)) ftrue)

      apart : Laws T → Laws P → (h : Punctuated T.Denot P.Denot) → ent 𝓤 (sem 𝓛 ((mem Whole).own_at h b o))
          (sep 𝓤 (sem 𝓛 (Fields h.values h.separators)) Back)
      unfolding part_of
      apart LT LP h = Struct-parts 𝓛 full_share (list.struct T P).name fields
          (lawfuls 𝓛 (list.the_type T P).parts (laws.the_loose T P LT LP)) (tuple h) b o

      whole : (vs : Values.Denot) (ps : Separators.Denot)
          → ent 𝓤 (sep 𝓤 (sem 𝓛 ((mem Values).own_at vs b (o + 0)))
          (sep 𝓤 (sem 𝓛 ((mem Separators).own_at ps b (o + 24))) Back))
          (sem 𝓛 ((mem Whole).own_at (of_both vs ps) b o))
      unfolding part_of
      whole vs ps =
          let Way : Denots (rows_of fields) → SProp 𝓤 = λ a. wand 𝓤 (sem 𝓛 (parts_at full_share fields zero a b o))
          (sem 𝓛 (part_at (Struct (shape_of (list.struct T P).name fields)) full_share a b o)) in
          let a : Denots (rows_of fields) = tuple (of_both vs ps) in
          qed 𝓛 (‵ ((mem Values).own_at vs b (o + 0)) ∷ ‵ ((mem Separators).own_at ps b (o + 24)) ∷ raw Back ∷ []) ∵
          nothing ! $ move ! (2 ∷ 0 ∷ []) $ fjoin ! $ move ! (1 ∷ 0 ∷ []) $ fjoin ! $ move ! (1 ∷ []) $
          use1 𝓛 (raw (Way a)) (all_e 𝓤 Way a) $ move ! (1 ∷ 0 ∷ []) $
          by ! (apply∗ 𝓤 (sem 𝓛 (parts_at full_share fields zero a b o))
          (sem 𝓛 (part_at (Struct (shape_of (list.struct T P).name fields)) full_share a b o)))

      module _ (h : Punctuated T.Denot P.Denot) where
        abbrev pub to_values : GName → Fml
        to_values δ = (MutRef (named 0) κ Values).own_val
            (record { ref_ptr = (b, o + 0); ghost_name = δ; now = h.values }) (vptr b (o + 0) ∷ [])

        abbrev pub to_separators : GName → Fml
        to_separators δ = (MutRef (named 0) κ Separators).own_val
            (record { ref_ptr = (b, o + 24); ghost_name = δ; now = h.separators }) (vptr b (o + 24) ∷ [])

        abbrev pub Lent : GName × GName → SProp 𝓤
        Lent γs = sep 𝓤 (sem 𝓛 (to_values γs.0)) (sep 𝓤 (sem 𝓛 (to_separators γs.1))
            (sep 𝓤 (A.lft κ q) (sem 𝓛 (follows_both Whole Values Separators γ γs.0 γs.1 of_both))))

        pub lends_both : Laws T → Laws P → (vs : List Val) → ent 𝓤
            (sep 𝓤 (sem 𝓛 ((MutRef (named 0) κ Whole).own_val
            (record { ref_ptr = (b, o); ghost_name = γ; now = h }) vs)) (A.lft κ q)) (H.⇛ (ex 𝓤 Lent))
        unfolding both_by
        lends_both LT LP vs =
            qed 𝓛 (‵ ((MutRef (named 0) κ Whole).own_val (record { ref_ptr = (b, o); ghost_name = γ; now = h }) vs) ∷ ‵
            (flft κ q) ∷ []) ∵ updating ! $ fsplit3 ! $ drop ! $
            open_ref ! tt (mem Whole) {b = b} {o = o} $
            use1 𝓛 (‵ (Fields h.values h.separators) ⊛ raw Back) (apart LT LP h) $ split ! $ fsplit3 ! $
            -- [the values; the separators; nothing; the way back; the open borrow; obs; auth]
            move ! (4 ∷ 5 ∷ 6 ∷ 0 ∷ 1 ∷ 3 ∷ []) $ group ! 6 $
            use1 𝓛 (later (some (λ (γs : GName × GName). (‵ (fobs γs.0 (Values.coded.code h.values)) ⊛ ‵
            (fbor κ (Body (mem Values) b (o + 0) γs.0))) ⊛ (‵ (fobs γs.1 (Separators.coded.code h.separators)) ⊛ ‵
            (fbor κ (Body (mem Separators) b (o + 24) γs.1)))
            ⊛ ‵ (flft κ q) ⊛ ‵ (follows_both Whole Values Separators γ γs.0 γs.1 of_both))))
            (takes_two 𝓛 (mem Whole) (mem Values) (mem Separators) of_both κ q b o b (o + 0) b (o + 24) γ Back whole
            (Whole.coded.code h) (Whole.coded.code h) h.values h.separators) $ await ! tt $ pick ! (λ γs. split3 ! $
            split ! $ feq_i ! (List Val) (vptr b (o + 0) ∷ []) (vptr b (o + 0) ∷ []) refl $ fjoin3 ! $ move ! (1 ∷ []) $
            split ! $ feq_i ! (List Val) (vptr b (o + 24) ∷ []) (vptr b (o + 24) ∷ []) refl $ fjoin3 ! $ move !
            (1 ∷ 0 ∷ 2 ∷ []) $ now ! $ show ! Lent γs $ keep ! (0 ∷ 1 ∷ 2 ∷ []) $ done !)

    module _ (F : List T.Denot → Values.Denot) (G : List P.Denot → Separators.Denot) (γ γ₁ γ₂ δ₁ δ₂ : GName) where
      pub handed_on : ent 𝓤 (sep 𝓤 (sem 𝓛 (follows_both Whole Values Separators γ γ₁ γ₂ of_both))
          (sep 𝓤 (sem 𝓛 (follows Values (Array T 0) γ₁ δ₁ F)) (sem 𝓛 (follows Separators (Array P 0) γ₂ δ₂ G))))
          (sem 𝓛 (follows_both Whole (Array T 0) (Array P 0) γ δ₁ δ₂ (λ vs ps. of_both (F vs) (G ps))))
      unfolding both_by
      handed_on =
          qed 𝓛 (‵ (follows_both Whole Values Separators γ γ₁ γ₂ of_both) ∷ ‵ (follows Values (Array T 0) γ₁ δ₁ F) ∷ ‵
          (follows Separators (Array P 0) γ₂ δ₂ G) ∷ []) ∵
          each ! (λ (w : List T.Denot × List P.Denot). wand 𝓤
          (sep 𝓤 (A.res δ₁ ((Array T 0).coded.code w.0)) (A.res δ₂ ((Array P 0).coded.code w.1)))
          (A.res γ (Whole.coded.code (of_both (F w.0) (G w.1))))) (λ w.
          assume ! (‵ (fsep (fres δ₁ ((Array T 0).coded.code w.0)) (fres δ₂ ((Array P 0).coded.code w.1)))) $ fsplit ! $
          move ! (3 ∷ 0 ∷ []) $ use2 𝓛 (‵ (fres γ₁ (Values.coded.code (F w.0))))
          (followed 𝓛 Values (Array T 0) F γ₁ δ₁ w.0) $
          move ! (3 ∷ 1 ∷ []) $ use2 𝓛 (‵ (fres γ₂ (Separators.coded.code (G w.1))))
          (followed 𝓛 Separators (Array P 0) G γ₂ δ₂ w.1) $
          move ! (1 ∷ 0 ∷ []) $ join ! $ by ! (followed₂ 𝓛 (mem Whole) (mem Values) (mem Separators) of_both γ γ₁ γ₂
          (F w.0) (G w.1)))
