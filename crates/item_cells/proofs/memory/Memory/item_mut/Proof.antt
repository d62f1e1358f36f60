-- `item_mut` lends the item, and the memory follows it. Assumes `Logic`.
use mathlib.Core.Path.{◌≡◌, refl, sym, subst}
use Prim.Native.Nat.{ℕ, ◌+◌, ◌*◌, ◌<◌, ◌^◌}
use native.Mathlib.Omega.{arith}
use mathlib.Core.List.{List, [], ◌∷◌}
use lib.ListN.{get_or, length, length-set}
use seplogic.Ra.Ura.{Ura}
use base.Logic.{SProp}
use base.Fml.{flft, ftrue}
use contract.BorrowLft.{◌⊑◌}
use contract.Monad.{fact}
use mir.MapTy.{inst_fn}
use mir.Syntax.{Fn, w64}
use mir.Val.{Val, vint, vptr}
use prog.Model.{Model}
use prog.Wp.{Env}
use contract.Running.{Running, tables}
use types.Logic.{Logic}
use types.ByLocal.{alloc_all, env, free_all, get, look_at, pass_all, sets, through}
use types.Kit.{‵, raw, ◌⊛◌, at_ret, ◌$◌, ◌∵◌, !, qed, done, drop, fjoin, fsplit, fsplit3, join, keep, move, rewrite, split, suffices, use1, use2}
use types.Part.{look_in, sub, whole}
use types.Run.{bin, blocks, enter, exec, first, fld, load, of_opd, returns, size_lit, stop}
use denote.Builtin.{usize}
use denote.Exit.{no, yes}
use denote.RattleType.{owns}
use denote.Signature.{plain, types_at}
use denote.Steps.{heard, nothing}
use denote.Triple.Clauses.{Clauses, Ended}
use denote.Triple.Entry.{Vals}
use denote.Triple.Walked.{Goes-dropped, Stays, ends_at, stay_dropped, walk_of}
use Rattle.std.specs.Prelude.{Some, None}
use Rattle.core.proofs.mem.Param.{El, R, args, el_x}
use Rattle.core.proofs.ptr.Rows.{one_below, times_below}
use Rattle.core.proofs.slots.Bodies.{after}
use Rattle.circular_buffer.specs.Ownership.{slot, slots}
use Rattle.circular_buffer.proofs.Memory.{Besides, Place, slot_in, slot_out, sz}
use Rattle.item_cells.specs.contracts.memory.Memory.item_mut as item_mut
use Rattle.item_cells.specs.contracts.memory.Memory.item_mut.Key.{name}
use Rattle.item_cells.proofs.Opens.{Memory, memory_opens}
use Rattle.item_cells.proofs.Walks.{Runs, met}
use Rattle.item_cells.proofs.memory.Memory.item_mut.Statement.{statement}
use Rattle.item_cells.proofs.memory.Memory.item_mut.Code as code
use base.Fml.{Fml, GName, fsep}
use base.Fraction.{full_share}
use base.Logic.{ent, sep}
use mir.Syntax.{named}
use types.ByLocal.{sets_last}
use types.Logic.{sem}
use types.Kit.{fpack, frame, group, later, pick, some, split3, await}
use types.Run.{addr}
use denote.Builtin.{RefMutOf}
use denote.Follow.{follows, lends_Part}
use denote.Memory.{cell_at, mem, part_of}
use denote.Plain.{uint_vals}
use denote.RawPtr.{block_ptr}
use denote.Ref.{MutRef, mut_vals}
use denote.Triple.Walked.{Goes-spent_ref, says as says_fact}
use Rattle.circular_buffer.proofs.Memory.{filled_within}
use Rattle.item_cells.specs.Cells.{IsFilled}
use Rattle.item_cells.specs.Lends.{with_cell}
use Rattle.item_cells.proofs.Opens.{memory_made, start_at}

module _ (E : El) {M : Type 1} {𝓤 : Ura M} (𝓛 : Logic 𝓤) (m : (Memory E).Denot) (i rb ro b o : ℕ) where
  -- all of the memory but the item
  abbrev Rest : Fml
  Rest = fsep (Besides E 𝓛 b o m.cells i) (cell_at full_share (Memory E).mir (start_at E b o ∷ []) rb ro)

  back : m.start ≡ block_ptr b o → length m.cells * sz E < 2 ^ 63 → i < length m.cells → (item : el_x E)
      → ent 𝓤 (sep 𝓤 (sem 𝓛 ((mem (R E)).own_at item b (i * sz E + o))) (sem 𝓛 Rest)) (sem 𝓛 ((mem (Memory E)).own_at (with_cell m i item) rb ro))
  unfolding part_of
  back there fit within item =
      qed 𝓛 (‵ (slot (R E) b (i * sz E + o) (Some item)) ∷ ‵ Rest ∷ []) ∵ move ! (1 ∷ []) $ fsplit ! $ move ! (2 ∷ 0 ∷ []) $
      use2 𝓛 (‵ (slots (R E) b o (with_cell m i item).cells)) (slot_in E 𝓛 b o m.cells i within (Some item)) $
      memory_made E ! (with_cell m i item) b o there (subst (λ (n : ℕ). n * sz E < 2 ^ 63) (sym (length-set m.cells i (Some item))) fit) $ move ! (1 ∷ 0 ∷ []) $ fjoin ! $
      fpack ! (List Val) (λ vs. fsep (cell_at full_share (Memory E).mir vs rb ro) ((Memory E).own_val (with_cell m i item) vs)) (start_at E b o ∷ []) $ done !

module _ (E : El) {M : Type 1} {𝓤 : Ura M} (𝓛 : Logic 𝓤) (𝓜 : Model 𝓤 𝓛.H) (𝓡 : Running 𝓤 𝓛.H 𝓜) where
  abbrev ended : Ended
  ended = item_mut.ended E.row

  abbrev stays : Stays ended.signature.params ended.kept
  stays = (stay_dropped (RefMutOf (0 ∷ []) tt (plain (λ _. Memory E)) (λ _. tt)) no, (stay_dropped (plain (λ _. usize)) yes, tt))

  abbrev says : Clauses 𝓤 ended
  says = item_mut.clauses E.row 𝓛 𝓜.mem 𝓡.returns

  abbrev body : Fn
  body = inst_fn (args E) code.function

  abbrev Passed : Type 0
  Passed = (walk_of 𝓛 ended stays says).Ghost

  abbrev spelled : Passed → Passed
  spelled y = ((y.0.0, y.0.1, y.0.2, y.0.3, (mut_vals y.0.3.0, (uint_vals w64 y.0.3.1.0, tt))), y.1)

  walk : (y : Passed) → y.0.3.1.0 < 2 ^ 64 → Runs 𝓛 𝓜 𝓡 ended stays says body (spelled y)
  walk y word =
      let κ = y.0.0.0 in let κT = y.0.0.1.0 in let q = y.0.1.0 in let qT = y.0.1.1.0 in
      let self = y.0.3.0 in let m = self.now in let γ : GName = self.ghost_name in let rb : ℕ = self.ref_ptr.0 in let ro : ℕ = self.ref_ptr.1 in let i : ℕ = y.0.3.1.0 in
      let 𝓣 = tables 𝓤 𝓛.H 𝓜 𝓡 𝓡.env in let Post : Val → SProp 𝓤 = (walk_of 𝓛 ended stays says).post (spelled y) in
      qed 𝓛 (((‵ (flft κ q) ⊛ ‵ (flft κT qT) ⊛ ‵ ftrue) ⊛ ‵ (owns (types_at ended.signature.params y.0.0) y.0.3 (spelled y).0.4)) ∷ (raw (fact 𝓤 (κT ⊑ E.row.lives)) ⊛ raw (fact 𝓤 (IsFilled m.cells i))) ∷ []) ∵
      move ! (1 ∷ []) $ split ! $ drop ! $ heard ! (IsFilled m.cells i) (λ filled. let item = filled.0 in let within = filled_within m.cells i item filled.1 in
      split ! $ split ! $ move ! (2 ∷ []) $ fsplit ! $ fsplit3 ! $ keep ! (1 ∷ 2 ∷ 4 ∷ 5 ∷ []) $
      enter ! 𝓣.C 𝓣.Λ body (vptr rb ro ∷ vint w64 i ∷ []) _ $
      alloc_all ! (λ l. pass_all ! refl ((tt, tt), ((tt, record { fits = word }), tt)) $ let En : Env 𝓤 𝓛.H = env body.locals l in
      memory_opens E ! tt m rb ro (λ b o there fit.
      let s = sz E in let at = i * s + o in
      let byte : s < 2 ^ 64 = omega (arith, one_below (length m.cells) s (2 ^ 63) (omega arith) fit) in
      let far : i * s < 2 ^ 64 = omega (arith, times_below i (length m.cells) s (2 ^ 63) (omega arith) fit) in
      first ! $ blocks ! $
      sets ! (of_opd ! (load ! (through ! refl (fld ! refl (stop !))) (look_in ! 1 (sub ! 0 refl (whole !))))) refl (tt, tt) $
      sets ! (bin ! (get ! refl) (size_lit ! (record { fits = byte })) (record { fits = far })) refl (tt, record { fits = far }) $
      sets ! (bin ! (get ! refl) (get ! refl) tt) refl (tt, tt) $ sets_last ! (addr ! (through ! refl (stop !))) refl (tt, tt) $
      exec ! 𝓣.C 𝓣.Λ En (after 1 body.body) (at_ret En Post) $ sets ! (of_opd ! (get ! refl)) refl (tt, tt) $
      use1 𝓛 (‵ (slot (R E) b at (get_or m.cells i None)) ⊛ ‵ (Besides E 𝓛 b o m.cells i)) (slot_out E 𝓛 b o m.cells i within) $ split ! $
      rewrite ! 0 (λ (c : Place E). ‵ (slot (R E) b at c)) filled.1 refl $ move ! (1 ∷ 2 ∷ []) $ fjoin ! $
      -- [all but the item; the item; the open borrow; the observed value; its authority; the token of T]
      move ! (2 ∷ 3 ∷ 4 ∷ 1 ∷ 0 ∷ []) $ group ! 5 $
      use1 𝓛 (later (some (λ (γ' : GName). ‵ ((MutRef (named 0) κ (R E)).own_val (record { ref_ptr = (b, at); ghost_name = γ'; now = item }) (vptr b at ∷ [])) ⊛ ‵ (flft κ q) ⊛ ‵ (follows (Memory E) (R E) γ γ' (with_cell m i)))))
      (lends_Part 𝓛 (Memory E) (R E) (with_cell m i) (named 0) κ q rb ro b at γ (sem 𝓛 (Rest E 𝓛 m i rb ro b o)) (back E 𝓛 m i rb ro b o there fit within) ((Memory E).coded.code m) ((Memory E).coded.code m) item) $
      await ! tt $ pick ! (λ γ'. split3 ! $ returns ! (look_at ! 0 refl) $ free_all ! refl $
      suffices ! _ (ends_at 𝓛 ended stays says (spelled y) (vptr b at) (record { ref_ptr = (b, at); ghost_name = γ'; now = item }) (tt, (tt, tt)) (tt, (tt, tt))) $
      nothing ! $ nothing ! $ fjoin ! $ nothing ! $ fjoin ! $ join ! $ move ! (1 ∷ 3 ∷ []) $ join ! $ join ! $ frame ! $ says_fact ! filled.1 $ keep ! (0 ∷ []) $ done !))))

pub item_mut_spec : {M : Type 1} → statement M
item_mut_spec 𝓤 𝓛 𝓜 𝓡 wired T laws =
    let E : El = record { row = T; laws = laws } in
    met 𝓛 𝓜 𝓡 (ended E 𝓛 𝓜 𝓡) (stays E 𝓛 𝓜 𝓡) (says E 𝓛 𝓜 𝓡) (body E 𝓛 𝓜 𝓡) (name (args E)) (code.unfolded 𝓤 𝓛.H 𝓜 𝓡 wired (T, tt))
    (Goes-spent_ref 𝓛 2 (0 ∷ []) tt (plain (λ _. Memory E)), (Goes-dropped 𝓛 2 (plain (λ _. usize)) yes (λ κs x f. refl), tt))
    (λ y are. subst (λ (vss : Vals (ended E 𝓛 𝓜 𝓡).signature y.0.0). Runs 𝓛 𝓜 𝓡 (ended E 𝓛 𝓜 𝓡) (stays E 𝓛 𝓜 𝓡) (says E 𝓛 𝓜 𝓡) (body E 𝓛 𝓜 𝓡) ((y.0.0, y.0.1, y.0.2, y.0.3, vss), y.1))
    (sym (λ j. (are.0.0 j, (are.1.0.0 j, tt)))) (walk E 𝓛 𝓜 𝓡 y are.1.0.1))
