-- A call of `each_of`, at the type with that number. Assumes `Logic`.
--     asks      what it asks, from the `&mut` to the vector and the tokens
--     gives     what it gives: an iterator, which gives the vector's values, and which the vector follows
use mathlib.Core.Path.{◌≡◌}
use mathlib.Core.List.{[], ◌∷◌}
use Prim.Native.Nat.{ℕ}
use seplogic.Ra.Ura.{Ura}
use base.Fml.{Fml, GName, Lft, Share, flft, ftrue}
use base.Logic.{SProp, emp, ent, id⊢, sep}
use contract.BorrowLft.{◌⊑◌}
use contract.Monad.{Fun, fact, fact_i}
use mir.Syntax.{named}
use mir.Val.{Val, vptr}
use prog.Memory.{Memory}
use prog.Routine.{Routine}
use types.Kit.{Item, ‵, ◌$◌, ◌∵◌, ◌⊛◌, !, done, fjoin, join, keep, later, move, qed, raw, some, use0}
use types.Logic.{Logic, sem}
use denote.Array.{Array}
use denote.Follow.{follows}
use denote.Param.{param}
use denote.RattleType.{RattleType}
use denote.Ref.{MutRef}
use denote.Steps.{nothing}
use denote.Triple.Clauses.{Lasts, lasts}
use denote.Triple.Spec.{triple_of}
use denote.Triple.Statement.{Contract}
use Rattle.std.specs.Slice.Iter.{iter_mut_name}
use Rattle.std.specs.Vec.{with_items}
use Rattle.std.specs.contracts.alloc.Global.{the_row as global}
use Rattle.std.specs.contracts.impls.GlobalAllocator.TheImpl.{ghosts}
use Rattle.std.specs.contracts.vec.Vec.{the_row as vec_row}
use Rattle.syn_lists.specs.Left.{iter_mut_left}
use Rattle.syn_lists.specs.contracts.iter.IterMut.{the_row as iter_row}
use Rattle.syn_lists.specs.contracts.iter.each_of as each
use Rattle.syn_lists.specs.declared.iter.IterMut.{IterMut}

module _ (i : ℕ) (T : RattleType) where
  abbrev pub Items : RattleType
  Items = vec_row (param i T) global ghosts

  module _ {M : Type 1} {𝓤 : Ura M} (𝓛 : Logic 𝓤) (at_mem : Memory → SProp 𝓤) (run : Routine → Fun 𝓤) where
    abbrev pub callee : Contract 𝓤
    callee = triple_of 𝓛 (each.signature T) (each.spec T 𝓛 at_mem run)

    module _ (κ κ' : Lft) (q q' : Share) (bound : κ ⊑ κ') (b o : ℕ) (γ : GName) (items : Items.Denot) where
      abbrev pub lent : Fml
      lent = (MutRef (named 0) κ Items).own_val (record { ref_ptr = (b, o); ghost_name = γ; now = items })
          (vptr b o ∷ [])

      abbrev pub at_call : callee.Ghost
      at_call = (
        (
          (κ, (κ', tt)),
          (q, (q', tt)),
          (bound, tt),
          (record { ref_ptr = (b, o); ghost_name = γ; now = items }, tt),
          (vptr b o ∷ [], tt),
        ),
        tt,
      )

      pub asks : κ' ⊑ T.lives → ent 𝓤 (sep 𝓤 (sem 𝓛 lent) (sep 𝓤 (𝓛.A.lft κ q) (𝓛.A.lft κ' q'))) (callee.pre at_call)
      asks inside = qed 𝓛 (‵ lent ∷ ‵ (flft κ q) ∷ ‵ (flft κ' q') ∷ []) ∵
          nothing ! $ use0 𝓛 (raw (fact 𝓤 (κ' ⊑ T.lives))) (fact_i 𝓤 _ (emp 𝓤) inside) $ join ! $
          nothing ! $ move ! (2 ∷ 0 ∷ []) $ fjoin ! $ nothing ! $ move ! (4 ∷ 0 ∷ []) $ join ! $ move ! (3 ∷ 0 ∷ []) $
          join ! $ join ! $ done !

      -- what the vector ends as, once the iterator is gone
      abbrev pub ends : IterMut T.Denot → Fml
      ends it = follows Items (Array (param i T) 0) γ (iter_mut_name it.rest) (with_items items)

      abbrev pub Given : Val → Item 𝓤
      Given v = later (some (λ (it : IterMut T.Denot).
          ((‵ (flft κ q) ⊛ ‵ (flft κ' q') ⊛ ‵ ftrue) ⊛ ‵ ((iter_row (record { mir = named 0; lft = κ })
          (param i T)).own_val it (v ∷ [])))
          ⊛ some (λ (ws : Lasts (each.ended T) at_call.0.0 at_call.0.3). ‵
          (lasts (each.ended T) at_call.0.0 at_call.0.3 ws)
          ⊛ ‵ (ends it) ⊛ raw (fact 𝓤 (iter_mut_left it ≡ items.items)))))

      pub gives : (v : Val) → ent 𝓤 (callee.post at_call v) (types.Kit.mean 𝓛 (Given v))
      gives v = id⊢ 𝓤 (callee.post at_call v)
