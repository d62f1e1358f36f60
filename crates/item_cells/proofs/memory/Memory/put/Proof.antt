-- `put` writes the item into the cell. Assumes `Logic`.
use mathlib.Core.Path.{◌≡◌, refl, sym, subst}
use Prim.Native.Nat.{ℕ, ◌+◌, ◌*◌, ◌<◌, ◌^◌}
use native.Mathlib.Omega.{arith}
use mathlib.Core.List.{List, [], ◌∷◌}
use lib.ListN.{get_or, length, set, length-set}
use seplogic.Ra.Ura.{Ura}
use base.Logic.{SProp}
use base.Fml.{flft, ftrue}
use contract.BorrowLft.{◌⊑◌}
use contract.Monad.{fact}
use mir.MapTy.{inst_fn}
use mir.Syntax.{Fn, w64}
use mir.Val.{Val, vint, vptr, vunit}
use prog.Model.{Model}
use prog.Wp.{Env}
use contract.Running.{Running, tables}
use types.Logic.{Logic}
use types.ByLocal.{alloc_all, env, free_all, get, look_at, pass_all, sets, through}
use types.Kit.{‵, raw, ◌⊛◌, at_ret, ◌$◌, ◌∵◌, !, qed, done, drop, feq_i, fjoin, fsplit, fsplit3, join, keep, move, rewrite, split, suffices, use1, use2}
use types.Part.{look_in, sub, whole}
use types.Run.{assigns_last, bin, blocks, enter, exec, first, fld, init, load, of_opd, returns, size_lit, stop, unit_lit}
use denote.Builtin.{usize}
use denote.Exit.{no, yes}
use denote.RattleType.{owns}
use denote.Signature.{plain, types_at}
use denote.Steps.{heard, nothing}
use denote.Triple.Clauses.{Clauses, Ended}
use denote.Triple.Entry.{Vals}
use denote.Triple.Walked.{Goes-dropped, Goes-ref, Stays, ends_at, stay_dropped, stay_ref, walk_of}
use Rattle.std.specs.Prelude.{Some, None}
use Rattle.core.proofs.mem.Param.{El, R, args, elτ, Good, lawful, one}
use Rattle.core.proofs.ptr.Rows.{one_below, times_below}
use Rattle.core.proofs.slots.Bodies.{after}
use Rattle.std_alloc.proofs.RawLayout.{as_written}
use Rattle.circular_buffer.specs.Ownership.{slot, slots}
use Rattle.circular_buffer.proofs.Memory.{Besides, Place, says_both, slot_in, slot_out, sz, value_in}
use Rattle.item_cells.specs.contracts.memory.Memory.put as put
use Rattle.item_cells.specs.contracts.memory.Memory.put.Key.{name}
use Rattle.item_cells.proofs.Opens.{Memory, memory_closes, memory_left, memory_opens}
use Rattle.item_cells.proofs.Walks.{Runs, met}
use Rattle.item_cells.proofs.memory.Memory.put.Statement.{statement}
use Rattle.item_cells.proofs.memory.Memory.put.Code as code

module _ (E : El) {M : Type 1} {𝓤 : Ura M} (𝓛 : Logic 𝓤) (𝓜 : Model 𝓤 𝓛.H) (𝓡 : Running 𝓤 𝓛.H 𝓜) where
  abbrev ended : Ended
  ended = put.ended E.row

  abbrev stays : Stays ended.signature.params ended.kept
  stays = (stay_ref (0 ∷ []) tt (plain (λ _. Memory E)), (stay_dropped (plain (λ _. usize)) yes, (stay_dropped (plain (λ _. R E)) no, tt)))

  abbrev says : Clauses 𝓤 ended
  says = put.clauses E.row 𝓛 𝓜.mem 𝓡.returns

  abbrev body : Fn
  body = inst_fn (args E) code.function

  abbrev Passed : Type 0
  Passed = (walk_of 𝓛 ended stays says).Ghost

  -- the values passed, as their types spell them
  abbrev spelled : Passed → Val → Passed
  spelled y v = ((y.0.0, y.0.1, y.0.2, y.0.3, (vptr y.0.3.0.ref_ptr.0 y.0.3.0.ref_ptr.1 ∷ [], (vint w64 y.0.3.1.0 ∷ [], (v ∷ [], tt)))), y.1)

  walk : (y : Passed) → y.0.3.1.0 < 2 ^ 64 → (v : Val) → Good E v → Runs 𝓛 𝓜 𝓡 ended stays says body (spelled y v)
  walk y word v good =
      let κ = y.0.0.0 in let κT = y.0.0.1.0 in let q = y.0.1.0 in let qT = y.0.1.1.0 in
      let self = y.0.3.0 in let m = self.now in let rb : ℕ = self.ref_ptr.0 in let ro : ℕ = self.ref_ptr.1 in let i : ℕ = y.0.3.1.0 in let item = y.0.3.1.1.0 in
      let 𝓣 = tables 𝓤 𝓛.H 𝓜 𝓡 𝓡.env in let Post : Val → SProp 𝓤 = (walk_of 𝓛 ended stays says).post (spelled y v) in
      let Asked : Type 0 = (i < length m.cells) × (get_or m.cells i None ≡ None) in
      let cells = set m.cells i (Some item) in let new : (Memory E).Denot = record { start = m.start; cells = cells } in
      qed 𝓛 (((‵ (flft κ q) ⊛ ‵ (flft κT qT) ⊛ ‵ ftrue) ⊛ ‵ (owns (types_at ended.signature.params y.0.0) y.0.3 (spelled y v).0.4)) ∷ (raw (fact 𝓤 (κT ⊑ E.row.lives)) ⊛ raw (fact 𝓤 Asked)) ∷ []) ∵
      move ! (1 ∷ []) $ split ! $ drop ! $ heard ! Asked (λ asked. let within = asked.0 in
      split ! $ split ! $ move ! (2 ∷ []) $ fsplit3 ! $ fsplit3 ! $ move ! (4 ∷ []) $ fsplit ! $ keep ! (3 ∷ 4 ∷ 6 ∷ 0 ∷ 7 ∷ []) $
      enter ! 𝓣.C 𝓣.Λ body (vptr rb ro ∷ vint w64 i ∷ v ∷ []) _ $
      alloc_all ! (λ l. pass_all ! refl ((tt, tt), ((tt, record { fits = word }), (good, tt))) $ let En : Env 𝓤 𝓛.H = env body.locals l in
      memory_opens E ! tt m rb ro (λ b o there fit.
      let s = sz E in let at = i * s + o in
      let byte : s < 2 ^ 64 = omega (arith, one_below (length m.cells) s (2 ^ 63) (omega arith) fit) in
      let far : i * s < 2 ^ 64 = omega (arith, times_below i (length m.cells) s (2 ^ 63) (omega arith) fit) in
      use1 𝓛 (‵ (slot (R E) b at (get_or m.cells i None)) ⊛ ‵ (Besides E 𝓛 b o m.cells i)) (slot_out E 𝓛 b o m.cells i within) $ split ! $
      rewrite ! 0 (λ (c : Place E). ‵ (slot (R E) b at c)) asked.1 refl $ as_written ! (elτ E) b at $
      -- [the room; the other cells; the pointer; the open borrow; the observed value; its authority; the item; the token of T]
      first ! $ blocks ! $
      sets ! (of_opd ! (load ! (through ! refl (fld ! refl (stop !))) (look_in ! 2 (sub ! 0 refl (whole !))))) refl (tt, tt) $
      sets ! (bin ! (get ! refl) (size_lit ! (record { fits = byte })) (record { fits = far })) refl (tt, record { fits = far }) $
      sets ! (bin ! (get ! refl) (get ! refl) tt) refl (tt, tt) $
      sets ! (of_opd ! (get ! refl)) refl good $ assigns_last ! (of_opd ! (get ! refl)) (through ! refl (stop !)) (init ! 0 refl good) $
      exec ! 𝓣.C 𝓣.Λ En (after 1 body.body) (at_ret En Post) $ sets ! (of_opd ! (unit_lit !)) refl (tt, tt) $
      move ! (0 ∷ 6 ∷ []) $ use2 𝓛 (‵ (slot (R E) b at (Some item))) (value_in 0 E.row E.laws 𝓛 item b at v) $
      use2 𝓛 (‵ (slots (R E) b o cells)) (slot_in E 𝓛 b o m.cells i within (Some item)) $
      memory_closes E ! tt new b o rb ro there (subst (λ (n : ℕ). n * s < 2 ^ 63) (sym (length-set m.cells i (Some item))) fit) $
      returns ! (look_at ! 0 refl) $ free_all ! refl $
      suffices ! _ (ends_at 𝓛 ended stays says (spelled y v) vunit tt (new, (tt, (tt, tt))) (tt, (tt, (tt, tt)))) $ says_both ! refl refl $
      memory_left E ! new rb ro $ nothing ! $ nothing ! $ fjoin ! $ nothing ! $ fjoin ! $ move ! (1 ∷ 0 ∷ []) $ fjoin ! $
      move ! (1 ∷ 2 ∷ []) $ join ! $ feq_i ! (List Val) (vunit ∷ []) (vunit ∷ []) refl $ keep ! (1 ∷ 2 ∷ 0 ∷ []) $ done !)))

pub put_spec : {M : Type 1} → statement M
put_spec 𝓤 𝓛 𝓜 𝓡 wired T laws =
    let E : El = record { row = T; laws = laws } in
    met 𝓛 𝓜 𝓡 (ended E 𝓛 𝓜 𝓡) (stays E 𝓛 𝓜 𝓡) (says E 𝓛 𝓜 𝓡) (body E 𝓛 𝓜 𝓡) (name (args E)) (code.unfolded 𝓤 𝓛.H 𝓜 𝓡 wired (T, tt))
    (Goes-ref 𝓛 2 0 tt (plain (λ _. Memory E)), (Goes-dropped 𝓛 2 (plain (λ _. usize)) yes (λ κs x f. refl), (Goes-dropped 𝓛 2 (plain (λ _. R E)) no (λ κs x f. refl), tt)))
    (λ y are. let alone = one E y.0.4.1.1.0 ((lawful E 𝓛).typed y.0.3.1.1.0 y.0.4.1.1.0 are.1.1.0) in
    subst (λ (vss : Vals (ended E 𝓛 𝓜 𝓡).signature y.0.0). Runs 𝓛 𝓜 𝓡 (ended E 𝓛 𝓜 𝓡) (stays E 𝓛 𝓜 𝓡) (says E 𝓛 𝓜 𝓡) (body E 𝓛 𝓜 𝓡) ((y.0.0, y.0.1, y.0.2, y.0.3, vss), y.1))
    (sym (λ j. (are.0.0 j, (are.1.0.0 j, (alone.1 j, tt))))) (walk E 𝓛 𝓜 𝓡 y are.1.0.1 alone.0 alone.2))
