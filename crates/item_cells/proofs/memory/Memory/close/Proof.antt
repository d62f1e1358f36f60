-- `close` puts the room together again. Assumes `Logic`.
use mathlib.Core.Path.{◌≡◌, refl, sym, subst, ap}
use Prim.Native.Nat.{◌*◌, ◌<◌, ◌^◌}
use mathlib.Core.List.{List, [], ◌∷◌, ◌++◌}
use seplogic.Ra.Ura.{Ura}
use base.Fml.{flft, ftrue}
use base.Logic.{SProp, ent, id⊢}
use contract.BorrowLft.{◌⊑◌}
use contract.Monad.{fact}
use mir.Syntax.{ty_array}
use mir.Val.{Val, vcons, vnil, vstruct}
use prog.Wp.{WpFn}
use types.ByLocal.{alloc_all, free_all, get, get_in, look_at, pass_all, sets}
use types.Kit.{‵, raw, ◌⊛◌, ◌$◌, ◌∵◌, !, qed, done, drop, fjoin, fsplit, join, keep, move, rewrite, split, split3, suffices, use1}
use types.Part.{agg, sub, whole}
use types.Run.{and_then, enter, fld, no_more, of_opd, returns, stop}
use denote.RattleType.{owns}
use denote.RawPtr.{block_ptr}
use denote.Signature.{types_at}
use denote.Steps.{heard, nothing}
use denote.Triple.Walked.{ends_at}
use base.Fml.{froom}
use denote.Triple.Walked.{Goes-dropped}
use denote.RawPtr.{Ptr, ptr_val}
use Rattle.circular_buffer.proofs.Memory.{Place}
use mathlib.Core.Path.{◌∙◌}
use Rattle.core.proofs.alloc.Calls.{Goes-blank}
use Rattle.core.proofs.mem.Param.{El, elτ}
use Rattle.std.specs.Prelude.{None}
use lib.ListN.{replicate}
use Rattle.std_alloc.proofs.RawLayout.{as_raw}
use Rattle.circular_buffer.specs.Ownership.{slots}
use Rattle.circular_buffer.proofs.Memory.{to_room, sz}
use contract.Running.{Running, tables}
use mir.MapTy.{inst_fn}
use mir.Syntax.{Fn}
use prog.Model.{Model}
use types.Logic.{Logic}
use denote.Array.{Array}
use denote.Exit.{no}
use denote.Signature.{plain}
use denote.Triple.Clauses.{Clauses, Ended}
use denote.Triple.Walked.{Stays, stay_dropped, walk_of}
use Rattle.std_alloc.proofs.BoxSteps.Form.{Bx, R, args}
use Rattle.std_alloc.proofs.OfVacant.{Vacant-made, vacant_typed, vacant_val}
use Rattle.item_cells.specs.contracts.memory.Memory.close as close
use Rattle.item_cells.specs.contracts.memory.Memory.close.Key.{name}
use Rattle.item_cells.proofs.Opens.{Memory, Permit, memory_had, permit_had, permitted, start_at}
use Rattle.item_cells.proofs.Walks.{Runs, met}
use Rattle.item_cells.proofs.memory.Memory.close.Statement.{statement}
use Rattle.item_cells.proofs.memory.Memory.close.Code as code

module _ (E : Bx) {M : Type 1} {𝓤 : Ura M} (𝓛 : Logic 𝓤) (𝓜 : Model 𝓤 𝓛.H) (𝓡 : Running 𝓤 𝓛.H 𝓜) where
  abbrev Item : El
  Item = record { row = E.row; laws = E.laws }

  abbrev ended : Ended
  ended = close.ended E.row E.al.row E.al.g E.al.d E.al.drops

  abbrev stays : Stays ended.signature.params ended.kept
  stays = (stay_dropped (plain (λ _. Memory Item)) no, (stay_dropped (plain (λ _. Permit E)) no, tt))

  abbrev says : Clauses 𝓤 ended
  says = close.clauses E.row E.al.row E.al.g E.al.d E.al.drops 𝓛 𝓜.mem 𝓡.returns

  abbrev body : Fn
  body = inst_fn (args E) code.function

  walk : (y : (walk_of 𝓛 ended stays says).Ghost) → Runs 𝓛 𝓜 𝓡 ended stays says body y
  walk y =
      let κT = y.0.0.0 in let κA = y.0.0.1.0 in let qT = y.0.1.0 in let qA = y.0.1.1.0 in
      let m = y.0.3.0 in let p = y.0.3.1.0 in let vss = y.0.4 in
      let 𝓣 = tables 𝓤 𝓛.H 𝓜 𝓡 𝓡.env in let Post : Val → SProp 𝓤 = (walk_of 𝓛 ended stays says).post y in
      let Run : List Val → List Val → SProp 𝓤 = λ vs ws. WpFn 𝓤 𝓛.H 𝓣.C 𝓣.Λ body (vs ++ (ws ++ [])) Post in
      let Small : Type 0 = 352 * sz Item < 2 ^ 63 in let Empty : Type 0 = m.cells ≡ replicate 352 None in let There : Type 0 = p.start ≡ m.start in
      qed 𝓛 (((‵ (flft κT qT) ⊛ ‵ (flft κA qA) ⊛ ‵ ftrue) ⊛ ‵ (owns (types_at ended.signature.params y.0.0) y.0.3 vss)) ∷ (raw (fact 𝓤 (κT ⊑ E.row.lives)) ⊛ raw (fact 𝓤 (κA ⊑ E.al.row.lives)) ⊛ raw (fact 𝓤 Small) ⊛ raw (fact 𝓤 Empty) ⊛ raw (fact 𝓤 There)) ∷ []) ∵
      move ! (1 ∷ []) $ split3 ! $ move ! (2 ∷ []) $ split3 ! $ drop ! $ heard ! Empty (λ empty. heard ! There (λ same. drop ! $ drop ! $ split ! $ split ! $ move ! (2 ∷ []) $ fsplit ! $
      memory_had Item ! m vss.0 (λ b o there spelled fit. move ! (1 ∷ []) $ fsplit ! $ permit_had E ! p vss.1.0 (λ hv passed good.
      let typed = vacant_typed E.al (Array (R E) 352) hv b o good in let at : p.start ≡ block_ptr b o = same ∙ there in
      let us : List Val = start_at Item b o ∷ [] in let ws : List Val = vacant_val hv b o ∷ [] in
      suffices ! (Run us ws) (subst (λ (vs : List Val × List Val). ent 𝓤 (Run us ws) (Run vs.0 vs.1)) (sym (λ j. (spelled j, (passed ∙ ap (λ (q : Ptr). vstruct (vcons (ptr_val q) (vcons hv vnil)) ∷ []) at) j))) (id⊢ 𝓤 (Run us ws))) $
      -- [the handle; the right to free the room; nothing; the cells; the two tokens]
      rewrite ! 3 (λ (cells : List (Place Item)). ‵ (slots (R E) b o cells)) empty refl $ rewrite ! 1 (λ (q : Ptr). ‵ (permitted E p.alloc q)) at refl $ move ! (3 ∷ 1 ∷ 0 ∷ []) $
      use1 𝓛 (‵ (froom (ty_array (elτ Item) 352) b o)) (to_room Item 𝓛 b 352 o) $ as_raw ! (ty_array (elτ Item) 352) b o $ Vacant-made E.al (Array (R E) 352) ! p.alloc b o $ keep ! (0 ∷ 2 ∷ 3 ∷ []) $
      enter ! 𝓣.C 𝓣.Λ body (start_at Item b o ∷ vacant_val hv b o ∷ []) _ $ alloc_all ! (λ l. pass_all ! refl ((tt, (tt, tt)), (typed, tt)) $
      sets ! (of_opd ! (get_in ! (fld ! refl (stop !)) (sub ! 0 refl (whole !)))) refl (tt, tt) $ sets ! (of_opd ! (get_in ! (fld ! refl (stop !)) (sub ! 1 refl (whole !)))) refl good $
      sets ! (of_opd ! (get ! refl)) refl (tt, tt) $ sets ! (of_opd ! (get ! refl)) refl good $ sets ! (agg ! (and_then ! (get ! refl) (and_then ! (get ! refl) (no_more !)))) refl typed $
      returns ! (look_at ! 0 refl) $ free_all ! refl $
      suffices ! _ (ends_at 𝓛 ended stays says y (vacant_val hv b o) (record { ptr = block_ptr b o; alloc = p.alloc }) (tt, ((tt, (tt, tt)), tt)) (tt, (tt, tt))) $
      move ! (1 ∷ 2 ∷ []) $ join ! $ nothing ! $ nothing ! $ fjoin ! $ nothing ! $ fjoin ! $ move ! (0 ∷ 2 ∷ []) $ join ! $ move ! (1 ∷ 0 ∷ []) $ join ! $ nothing ! $ move ! (1 ∷ 0 ∷ []) $ done !)))))

pub close_spec : {M : Type 1} → statement M
close_spec 𝓤 𝓛 𝓜 𝓡 wired T A laws lawsA g d dd met_A met_D =
    let E : Bx = record { row = T; laws = laws; al = record { row = A; laws = lawsA; g = g; d = d; drops = dd } } in
    met 𝓛 𝓜 𝓡 (ended E 𝓛 𝓜 𝓡) (stays E 𝓛 𝓜 𝓡) (says E 𝓛 𝓜 𝓡) (body E 𝓛 𝓜 𝓡) (name (args E)) (code.unfolded 𝓤 𝓛.H 𝓜 𝓡 wired (T, (A, tt)) d dd)
    (Goes-dropped 𝓛 2 (plain (λ _. Memory (Item E 𝓛 𝓜 𝓡))) no (λ κs x f. refl), (Goes-blank 𝓛 2 (plain (λ _. Permit E)) no (λ κs x f. tt), tt)) (λ y are. walk E 𝓛 𝓜 𝓡 y)
