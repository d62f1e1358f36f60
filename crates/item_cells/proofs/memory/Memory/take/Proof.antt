-- `take` reads the item out of the cell. Assumes `Logic`.
use mathlib.Core.Path.{refl, sym, subst}
use Prim.Native.Nat.{ℕ, ◌+◌, ◌*◌, ◌<◌, ◌^◌}
use native.Mathlib.Omega.{arith}
use mathlib.Core.List.{[], ◌∷◌}
use lib.ListN.{get_or, length, set, length-set}
use seplogic.Ra.Ura.{Ura}
use base.Logic.{SProp}
use base.Fml.{flft, ftrue}
use contract.BorrowLft.{◌⊑◌}
use contract.Monad.{fact}
use mir.MapTy.{inst_fn}
use mir.Syntax.{Fn, w64}
use mir.Val.{Val, vint, vptr}
use prog.Model.{Model}
use prog.Wp.{Env}
use contract.Running.{Running, tables}
use types.Logic.{Logic}
use types.ByLocal.{alloc_all, env, free_all, get, look_at, pass_all, sets, through}
use types.Kit.{‵, raw, ◌⊛◌, at_ret, ◌$◌, ◌∵◌, !, qed, done, drop, fjoin, fsplit, fsplit3, join, keep, move, rewrite, split, suffices, use1, use2}
use types.Part.{look_in, sub, whole}
use types.Run.{bin, blocks, enter, exec, first, fld, load, of_opd, returns, size_lit, stop}
use denote.Builtin.{usize}
use denote.Exit.{yes}
use denote.RattleType.{owns}
use denote.Signature.{plain, types_at}
use denote.Steps.{heard, nothing}
use denote.Triple.Clauses.{Clauses, Ended}
use denote.Triple.Entry.{Vals}
use denote.Triple.Walked.{Goes-dropped, Goes-ref, Stays, ends_at, stay_dropped, stay_ref, walk_of}
use Rattle.std.specs.Prelude.{None}
use Rattle.core.proofs.mem.Param.{El, R, args, elτ, Good}
use Rattle.core.proofs.ptr.Rows.{one_below, times_below}
use Rattle.core.proofs.slots.Bodies.{after}
use Rattle.circular_buffer.specs.Ownership.{slot, slots}
use Rattle.circular_buffer.proofs.Memory.{Besides, Place, slot_in, slot_out, sz}
use Rattle.item_cells.specs.contracts.memory.Memory.take as take
use Rattle.item_cells.specs.contracts.memory.Memory.take.Key.{name}
use Rattle.item_cells.proofs.Opens.{Memory, memory_closes, memory_left, memory_opens}
use Rattle.item_cells.proofs.Walks.{Runs, met}
use Rattle.item_cells.proofs.memory.Memory.take.Statement.{statement}
use Rattle.item_cells.proofs.memory.Memory.take.Code as code
use base.Fml.{fat}
use base.Fraction.{full_share}
use types.ByLocal.{sets_last}
use types.Kit.{given, learn, pick, some}
use types.Run.{forget, look}
use denote.Plain.{uint_vals}
use denote.Ref.{mut_vals}
use Rattle.core.proofs.mem.Facts.{says_three}
use Rattle.std_alloc.proofs.RawLayout.{as_raw}
use Rattle.circular_buffer.proofs.Memory.{filled_within, value_out}
use Rattle.item_cells.specs.Cells.{IsFilled}

module _ (E : El) {M : Type 1} {𝓤 : Ura M} (𝓛 : Logic 𝓤) (𝓜 : Model 𝓤 𝓛.H) (𝓡 : Running 𝓤 𝓛.H 𝓜) where
  abbrev ended : Ended
  ended = take.ended E.row

  abbrev stays : Stays ended.signature.params ended.kept
  stays = (stay_ref (0 ∷ []) tt (plain (λ _. Memory E)), (stay_dropped (plain (λ _. usize)) yes, tt))

  abbrev says : Clauses 𝓤 ended
  says = take.clauses E.row 𝓛 𝓜.mem 𝓡.returns

  abbrev body : Fn
  body = inst_fn (args E) code.function

  abbrev Passed : Type 0
  Passed = (walk_of 𝓛 ended stays says).Ghost

  -- the values passed, as their types spell them
  abbrev spelled : Passed → Passed
  spelled y = ((y.0.0, y.0.1, y.0.2, y.0.3, (mut_vals y.0.3.0, (uint_vals w64 y.0.3.1.0, tt))), y.1)

  walk : (y : Passed) → y.0.3.1.0 < 2 ^ 64 → Runs 𝓛 𝓜 𝓡 ended stays says body (spelled y)
  walk y word =
      let κ = y.0.0.0 in let κT = y.0.0.1.0 in let q = y.0.1.0 in let qT = y.0.1.1.0 in
      let self = y.0.3.0 in let m = self.now in let rb : ℕ = self.ref_ptr.0 in let ro : ℕ = self.ref_ptr.1 in let i : ℕ = y.0.3.1.0 in
      let 𝓣 = tables 𝓤 𝓛.H 𝓜 𝓡 𝓡.env in let Post : Val → SProp 𝓤 = (walk_of 𝓛 ended stays says).post (spelled y) in
      let cells = set m.cells i None in let new : (Memory E).Denot = record { start = m.start; cells = cells } in
      qed 𝓛 (((‵ (flft κ q) ⊛ ‵ (flft κT qT) ⊛ ‵ ftrue) ⊛ ‵ (owns (types_at ended.signature.params y.0.0) y.0.3 (spelled y).0.4)) ∷ (raw (fact 𝓤 (κT ⊑ E.row.lives)) ⊛ raw (fact 𝓤 (IsFilled m.cells i))) ∷ []) ∵
      move ! (1 ∷ []) $ split ! $ drop ! $ heard ! (IsFilled m.cells i) (λ filled. let item = filled.0 in let within = filled_within m.cells i item filled.1 in
      split ! $ split ! $ move ! (2 ∷ []) $ fsplit ! $ fsplit3 ! $ keep ! (1 ∷ 2 ∷ 4 ∷ 5 ∷ []) $
      enter ! 𝓣.C 𝓣.Λ body (vptr rb ro ∷ vint w64 i ∷ []) _ $
      alloc_all ! (λ l. pass_all ! refl ((tt, tt), ((tt, record { fits = word }), tt)) $ let En : Env 𝓤 𝓛.H = env body.locals l in
      memory_opens E ! tt m rb ro (λ b o there fit.
      let s = sz E in let at = i * s + o in
      let byte : s < 2 ^ 64 = omega (arith, one_below (length m.cells) s (2 ^ 63) (omega arith) fit) in
      let far : i * s < 2 ^ 64 = omega (arith, times_below i (length m.cells) s (2 ^ 63) (omega arith) fit) in
      use1 𝓛 (‵ (slot (R E) b at (get_or m.cells i None)) ⊛ ‵ (Besides E 𝓛 b o m.cells i)) (slot_out E 𝓛 b o m.cells i within) $ split ! $
      rewrite ! 0 (λ (c : Place E). ‵ (slot (R E) b at c)) filled.1 refl $
      use1 𝓛 (some (λ (v : Val). given (Good E v) (‵ (fat full_share (elτ E) b at v) ⊛ ‵ (E.row.own_val item (v ∷ []))))) (value_out 0 E.row E.laws 𝓛 item b at) $ pick ! (λ v. learn ! (λ good. split ! $
      -- [the cell; its item; the other cells; the pointer; the open borrow; the observed value; its authority; the token of T]
      first ! $ blocks ! $
      sets ! (of_opd ! (load ! (through ! refl (fld ! refl (stop !))) (look_in ! 3 (sub ! 0 refl (whole !))))) refl (tt, tt) $
      sets ! (bin ! (get ! refl) (size_lit ! (record { fits = byte })) (record { fits = far })) refl (tt, record { fits = far }) $
      sets ! (bin ! (get ! refl) (get ! refl) tt) refl (tt, tt) $ sets_last ! (of_opd ! (load ! (through ! refl (stop !)) (look ! 0 refl))) refl good $
      exec ! 𝓣.C 𝓣.Λ En (after 1 body.body) (at_ret En Post) $ sets ! (of_opd ! (get ! refl)) refl good $
      forget ! 0 refl $ as_raw ! (elτ E) b at $ move ! (0 ∷ 2 ∷ []) $ use2 𝓛 (‵ (slots (R E) b o cells)) (slot_in E 𝓛 b o m.cells i within None) $ move ! (0 ∷ 2 ∷ 3 ∷ 4 ∷ 5 ∷ []) $
      memory_closes E ! tt new b o rb ro there (subst (λ (n : ℕ). n * s < 2 ^ 63) (sym (length-set m.cells i None)) fit) $
      returns ! (look_at ! 0 refl) $ free_all ! refl $
      -- [the observed value; the borrow; its token; the item; the token of T]
      suffices ! _ (ends_at 𝓛 ended stays says (spelled y) v item (new, (tt, tt)) (tt, (tt, tt))) $ says_three ! (filled.1, refl, refl) $
      memory_left E ! new rb ro $ nothing ! $ nothing ! $ fjoin ! $ move ! (1 ∷ 0 ∷ []) $ fjoin ! $ move ! (1 ∷ 3 ∷ []) $ join ! $ keep ! (0 ∷ 1 ∷ 2 ∷ []) $ done !)))))

pub take_spec : {M : Type 1} → statement M
take_spec 𝓤 𝓛 𝓜 𝓡 wired T laws =
    let E : El = record { row = T; laws = laws } in
    met 𝓛 𝓜 𝓡 (ended E 𝓛 𝓜 𝓡) (stays E 𝓛 𝓜 𝓡) (says E 𝓛 𝓜 𝓡) (body E 𝓛 𝓜 𝓡) (name (args E)) (code.unfolded 𝓤 𝓛.H 𝓜 𝓡 wired (T, tt))
    (Goes-ref 𝓛 2 0 tt (plain (λ _. Memory E)), (Goes-dropped 𝓛 2 (plain (λ _. usize)) yes (λ κs x f. refl), tt))
    (λ y are. subst (λ (vss : Vals (ended E 𝓛 𝓜 𝓡).signature y.0.0). Runs 𝓛 𝓜 𝓡 (ended E 𝓛 𝓜 𝓡) (stays E 𝓛 𝓜 𝓡) (says E 𝓛 𝓜 𝓡) (body E 𝓛 𝓜 𝓡) ((y.0.0, y.0.1, y.0.2, y.0.3, vss), y.1))
    (sym (λ j. (are.0.0 j, (are.1.0.0 j, tt)))) (walk E 𝓛 𝓜 𝓡 y are.1.0.1))
