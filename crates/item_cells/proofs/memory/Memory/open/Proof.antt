-- `open` takes the room apart. Assumes `Logic`.
use mathlib.Core.Path.{refl, sym, subst}
use Prim.Native.Nat.{ℕ, ◌*◌, ◌<◌, ◌^◌}
use mathlib.Core.List.{List, [], ◌∷◌, ◌++◌}
use seplogic.Ra.Ura.{Ura}
use base.Fml.{flft, ftrue}
use base.Logic.{SProp, emp, ent, id⊢}
use contract.BorrowLft.{◌⊑◌}
use contract.Monad.{fact}
use mir.Syntax.{ty_array}
use mir.Val.{Val, vcons, vnil, vstruct}
use prog.Wp.{WpFn}
use types.ByLocal.{alloc_all, free_all, get, get_in, look_at, pass_all, sets}
use types.Kit.{‵, raw, ◌⊛◌, ◌$◌, ◌∵◌, !, qed, done, drop, feq_i, fjoin, fpack, fsplit, join, keep, move, split, split3, suffices, use1}
use types.Part.{agg, sub, whole}
use types.Run.{and_then, enter, fld, no_more, of_opd, returns, stop}
use denote.RattleType.{Valss, owns}
use denote.RawPtr.{block_ptr}
use denote.Signature.{types_at}
use denote.Struct.Declared as Declared
use denote.Struct.Struct.{within}
use denote.Struct.Tuple.{tuple_type}
use denote.Steps.{heard, nothing}
use denote.Triple.Walked.{ends_at}
use Rattle.core.proofs.alloc.Calls.{Goes-blank}
use Rattle.core.proofs.mem.Param.{El, elτ}
use Rattle.std.specs.Prelude.{None}
use lib.ListN.{replicate, length-replicate}
use Rattle.std_alloc.proofs.RawLayout.{as_written}
use Rattle.std_alloc.proofs.ResultValues.{and_tt}
use Rattle.circular_buffer.specs.Ownership.{slots}
use Rattle.circular_buffer.proofs.Memory.{Place, of_room, says_both, sz}
use contract.Running.{Running, tables}
use mir.MapTy.{inst_fn}
use mir.Syntax.{Fn}
use prog.Model.{Model}
use types.Logic.{Logic}
use denote.Array.{Array}
use denote.Exit.{no}
use denote.Signature.{plain}
use denote.Triple.Clauses.{Clauses, Ended}
use denote.Triple.Walked.{Stays, stay_dropped, walk_of}
use Rattle.std_alloc.proofs.BoxSteps.Form.{Bx, R, args}
use Rattle.std_alloc.proofs.OfVacant.{Vacant, Vacant-had, vacant_typed, vacant_val}
use Rattle.item_cells.specs.contracts.memory.Memory.open as open_room
use Rattle.item_cells.specs.contracts.memory.Memory.open.Key.{name}
use Rattle.item_cells.proofs.Opens.{Memory, Permit, memory_made, permit_made, start_at}
use Rattle.item_cells.proofs.Walks.{Runs, met}
use Rattle.item_cells.proofs.memory.Memory.open.Statement.{statement}
use Rattle.item_cells.proofs.memory.Memory.open.Code as code

module _ (E : Bx) {M : Type 1} {𝓤 : Ura M} (𝓛 : Logic 𝓤) (𝓜 : Model 𝓤 𝓛.H) (𝓡 : Running 𝓤 𝓛.H 𝓜) where
  abbrev ended : Ended
  ended = open_room.ended E.row E.al.row E.al.g E.al.d E.al.drops

  abbrev stays : Stays ended.signature.params ended.kept
  stays = (stay_dropped (plain (λ _. Vacant E.al (Array (R E) 352))) no, tt)

  abbrev says : Clauses 𝓤 ended
  says = open_room.clauses E.row E.al.row E.al.g E.al.d E.al.drops 𝓛 𝓜.mem 𝓡.returns

  abbrev body : Fn
  body = inst_fn (args E) code.function

  walk : (y : (walk_of 𝓛 ended stays says).Ghost) → Runs 𝓛 𝓜 𝓡 ended stays says body y
  walk y =
      let κT = y.0.0.0 in let κA = y.0.0.1.0 in let qT = y.0.1.0 in let qA = y.0.1.1.0 in
      let Item : El = record { row = E.row; laws = E.laws } in
      let room = y.0.3.0 in let vss = y.0.4 in
      let 𝓣 = tables 𝓤 𝓛.H 𝓜 𝓡 𝓡.env in let Post : Val → SProp 𝓤 = (walk_of 𝓛 ended stays says).post y in
      let Run : List Val → SProp 𝓤 = λ vs. WpFn 𝓤 𝓛.H 𝓣.C 𝓣.Λ body vs Post in
      let Small : Type 0 = 352 * sz Item < 2 ^ 63 in
      qed 𝓛 (((‵ (flft κT qT) ⊛ ‵ (flft κA qA) ⊛ ‵ ftrue) ⊛ ‵ (owns (types_at ended.signature.params y.0.0) y.0.3 vss)) ∷ (raw (fact 𝓤 (κT ⊑ E.row.lives)) ⊛ raw (fact 𝓤 (κA ⊑ E.al.row.lives)) ⊛ raw (fact 𝓤 Small) ⊛ raw (emp 𝓤)) ∷ []) ∵
      move ! (1 ∷ []) $ split3 ! $ move ! (2 ∷ []) $ split ! $ heard ! Small (λ small. drop ! $ drop ! $ drop ! $ split ! $ split ! $ move ! (2 ∷ []) $ fsplit ! $
      Vacant-had E.al (Array (R E) 352) ! room vss.0 (λ b o hv there is good. keep ! (0 ∷ 1 ∷ 2 ∷ 4 ∷ 5 ∷ []) $
      let us : List Val = vacant_val hv b o ∷ [] in let typed = vacant_typed E.al (Array (R E) 352) hv b o good in
      let m : (Memory Item).Denot = record { start = block_ptr b o; cells = replicate 352 None } in let p : (Permit E).Denot = record { start = block_ptr b o; alloc = room.alloc } in
      let both : Val = vstruct (vcons (start_at Item b o) (vcons (vacant_val hv b o) vnil)) in
      suffices ! (Run us) (subst (λ (vs : List Val). ent 𝓤 (Run us) (Run (vs ++ []))) (sym is) (id⊢ 𝓤 (Run us))) $
      enter ! 𝓣.C 𝓣.Λ body us _ $ alloc_all ! (λ l. pass_all ! refl (typed, tt) $
      sets ! (of_opd ! (get_in ! (fld ! refl (stop !)) (sub ! 0 refl (whole !)))) refl (tt, tt) $ sets ! (of_opd ! (get_in ! (fld ! refl (stop !)) (sub ! 1 refl (whole !)))) refl good $
      sets ! (of_opd ! (get ! refl)) refl (tt, tt) $ sets ! (agg ! (and_then ! (get ! refl) (no_more !))) refl (tt, (tt, tt)) $
      sets ! (of_opd ! (get ! refl)) refl good $ sets ! (agg ! (and_then ! (get ! refl) (and_then ! (get ! refl) (no_more !)))) refl typed $
      sets ! (agg ! (and_then ! (get ! refl) (and_then ! (get ! refl) (no_more !)))) refl (and_tt _ typed.0, ((tt, tt), (typed.1, tt))) $
      -- [the room; the right to free it; the handle; the two tokens]
      as_written ! (ty_array (elτ Item) 352) b o $ use1 𝓛 (‵ (slots (R E) b o m.cells)) (of_room Item 𝓛 b 352 o) $
      memory_made Item ! m b o refl (subst (λ (n : ℕ). n * sz Item < 2 ^ 63) (sym (length-replicate {A = Place Item} 352 None)) small) $
      move ! (2 ∷ 1 ∷ []) $ permit_made E ! room.alloc b o $
      nothing ! $ move ! (1 ∷ 0 ∷ []) $ fjoin ! $ move ! (1 ∷ 0 ∷ []) $ fjoin ! $ feq_i ! (List Val) (both ∷ []) (both ∷ []) refl $ fjoin ! $
      fpack ! (Valss (Memory Item ∷ Permit E ∷ [])) (within (Declared.shape (tuple_type (Memory Item ∷ Permit E ∷ []))) (m, (p, tt)) (both ∷ [])) (start_at Item b o ∷ [], (vacant_val hv b o ∷ [], tt)) $
      returns ! (look_at ! 0 refl) $ free_all ! refl $
      suffices ! _ (ends_at 𝓛 ended stays says y both (m, p) ((tt, (tt, tt)), tt) (tt, tt)) $ says_both ! refl refl $
      move ! (1 ∷ 2 ∷ []) $ join ! $ nothing ! $ nothing ! $ fjoin ! $ keep ! (1 ∷ 0 ∷ 2 ∷ []) $ done !)))

pub open_spec : {M : Type 1} → statement M
open_spec 𝓤 𝓛 𝓜 𝓡 wired T A laws lawsA g d dd met_A met_D =
    let E : Bx = record { row = T; laws = laws; al = record { row = A; laws = lawsA; g = g; d = d; drops = dd } } in
    met 𝓛 𝓜 𝓡 (ended E 𝓛 𝓜 𝓡) (stays E 𝓛 𝓜 𝓡) (says E 𝓛 𝓜 𝓡) (body E 𝓛 𝓜 𝓡) (name (args E)) (code.unfolded 𝓤 𝓛.H 𝓜 𝓡 wired (T, (A, tt)) d dd)
    (Goes-blank 𝓛 2 (plain (λ _. Vacant E.al (Array (R E) 352))) no (λ κs x f. tt), tt) (λ y are. walk E 𝓛 𝓜 𝓡 y)
