-- `items` lends a run of cells as a slice. Assumes `Logic`.
use mathlib.Core.Path.{◌≡◌, refl, sym, subst}
use Prim.Native.Nat.{ℕ, ◌+◌, ◌*◌, ◌<◌, ◌^◌}
use native.Mathlib.Omega.{arith}
use mathlib.Core.List.{List, [], ◌∷◌}
use lib.ListN.{length}
use seplogic.Ra.Ura.{Ura}
use base.Logic.{SProp}
use base.Fml.{flft, ftrue}
use contract.BorrowLft.{◌⊑◌}
use contract.Monad.{fact}
use mir.MapTy.{inst_fn}
use mir.Syntax.{Fn, w64}
use mir.Val.{Val, vint, vptr}
use prog.Model.{Model}
use prog.Wp.{Env}
use contract.Running.{Running, tables}
use types.Logic.{Logic}
use types.ByLocal.{alloc_all, env, free_all, get, look_at, pass_all, sets, through}
use types.Kit.{‵, raw, ◌⊛◌, at_ret, ◌$◌, ◌∵◌, !, qed, done, drop, feq_i, fjoin, fsplit, join, keep, move, split, suffices, use1}
use types.Run.{bin, blocks, enter, exec, first, fld, load, of_opd, returns, stop}
use denote.Builtin.{usize}
use denote.Exit.{yes}
use denote.RattleType.{owns}
use denote.Signature.{plain, types_at}
use denote.Steps.{heard, nothing}
use denote.Triple.Clauses.{Clauses, Ended}
use denote.Triple.Entry.{Vals}
use denote.Triple.Walked.{Goes-dropped, Stays, ends_at, stay_dropped, walk_of}
use Rattle.std.specs.Prelude.{Some}
use Rattle.core.proofs.mem.Param.{El, R, args}
use Rattle.core.proofs.ptr.Rows.{times_below}
use Rattle.core.proofs.slots.Bodies.{after}
use Rattle.circular_buffer.proofs.Memory.{sz}
use Rattle.item_cells.specs.contracts.memory.Memory.items as items
use Rattle.item_cells.specs.contracts.memory.Memory.items.Key.{name}
use Rattle.item_cells.proofs.Opens.{Memory}
use Rattle.item_cells.proofs.Walks.{Runs, met}
use Rattle.item_cells.proofs.memory.Memory.items.Statement.{statement}
use Rattle.item_cells.proofs.memory.Memory.items.Code as code
use base.Logic.{id⊢, never}
use lib.ListN.{length-drop, length-take, drop as drop_l}
use mathlib.Core.Path.{ap}
use types.ByLocal.{sets_last, is}
use types.Kit.{flt_i, flt_l}
use types.Part.{agg}
use types.Run.{and_then, look, no_more, size_word}
use denote.Builtin.{RefOf}
use denote.Opens.{hide, unhide}
use denote.Plain.{uint_vals}
use denote.RawPtr.{in_a_block}
use denote.Ref.{shr_vals}
use denote.Slice.{elements_shared, slice_val}
use denote.Triple.Walked.{says as says_fact}
use Rattle.std.proofs.lemmas.List.{length-map}
use Rattle.core.proofs.slots.Leases.{uncapped}
use Rattle.core.proofs.slots.Lent.{pointer_in, pointer_out}
use Rattle.circular_buffer.specs.Ownership.{cells_lent}
use Rattle.circular_buffer.proofs.Memory.{run_seen}
use Rattle.item_cells.specs.Cells.{IsRun}

module _ (E : El) {M : Type 1} {𝓤 : Ura M} (𝓛 : Logic 𝓤) (𝓜 : Model 𝓤 𝓛.H) (𝓡 : Running 𝓤 𝓛.H 𝓜) where
  abbrev ended : Ended
  ended = items.ended E.row

  abbrev stays : Stays ended.signature.params ended.kept
  stays = (stay_dropped (RefOf (0 ∷ []) tt (plain (λ _. Memory E)) (λ _. tt)) yes, (stay_dropped (plain (λ _. usize)) yes, (stay_dropped (plain (λ _. usize)) yes, tt)))

  abbrev says : Clauses 𝓤 ended
  says = items.clauses E.row 𝓛 𝓜.mem 𝓡.returns

  abbrev body : Fn
  body = inst_fn (args E) code.function

  abbrev Passed : Type 0
  Passed = (walk_of 𝓛 ended stays says).Ghost

  abbrev spelled : Passed → Passed
  spelled y = ((y.0.0, y.0.1, y.0.2, y.0.3, (shr_vals y.0.3.0, (uint_vals w64 y.0.3.1.0, (uint_vals w64 y.0.3.1.1.0, tt)))), y.1)

  walk : (y : Passed) → y.0.3.1.0 < 2 ^ 64 → y.0.3.1.1.0 < 2 ^ 64 → Runs 𝓛 𝓜 𝓡 ended stays says body (spelled y)
  walk y word word_len =
      let κ = y.0.0.0 in let κT = y.0.0.1.0 in let q = y.0.1.0 in let qT = y.0.1.1.0 in
      let self = y.0.3.0 in let m = self.now in let rb : ℕ = self.ref_ptr.0 in let ro : ℕ = self.ref_ptr.1 in let i : ℕ = y.0.3.1.0 in let n : ℕ = y.0.3.1.1.0 in
      let 𝓣 = tables 𝓤 𝓛.H 𝓜 𝓡 𝓡.env in let Post : Val → SProp 𝓤 = (walk_of 𝓛 ended stays says).post (spelled y) in
      qed 𝓛 (((‵ (flft κ q) ⊛ ‵ (flft κT qT) ⊛ ‵ ftrue) ⊛ ‵ (owns (types_at ended.signature.params y.0.0) y.0.3 (spelled y).0.4)) ∷ (raw (fact 𝓤 (κT ⊑ E.row.lives)) ⊛ raw (fact 𝓤 (IsRun m.cells i n))) ∷ []) ∵
      move ! (1 ∷ []) $ split ! $ drop ! $ heard ! (IsRun m.cells i n) (λ run. let within = run.0 in let xs = run.1.0 in
      let long : length xs ≡ n = omega (arith, ap length run.1.1, length-map xs Some, length-take n (drop_l i m.cells), length-drop i m.cells) in
      split ! $ split ! $ move ! (2 ∷ []) $ fsplit ! $ fsplit ! $ drop ! $
      -- [the pointer; nothing more of the struct; its padding; the cells; the two words; the token; the token of T]
      unhide ! $ fsplit ! $ fsplit ! $ fsplit ! $ hide ! $ keep ! (3 ∷ 0 ∷ 5 ∷ 6 ∷ []) $
      in_a_block ! m.start (λ p. cells_lent (R E) p m.cells κ) (id⊢ 𝓤 (never 𝓤)) (λ b o there. fsplit ! $ flt_l ! (λ fit.
      let s = sz E in let at = i * s + o in
      let far : i * s < 2 ^ 64 = omega (arith, times_below i (length m.cells) s (2 ^ 63) (omega arith) fit) in
      let whole_size = uncapped i s far in
      use1 𝓛 (‵ (elements_shared (R E) xs b at κ)) (run_seen E 𝓛 b κ o m.cells i n xs (omega arith) run.1.1) $ hide ! $ move ! (1 ∷ 2 ∷ 3 ∷ []) $
      enter ! 𝓣.C 𝓣.Λ body (vptr rb ro ∷ vint w64 i ∷ vint w64 n ∷ []) _ $
      alloc_all ! (λ l. pass_all ! refl ((tt, tt), ((tt, record { fits = word }), ((tt, record { fits = word_len }), tt))) $ let En : Env 𝓤 𝓛.H = env body.locals l in
      first ! $ blocks ! $ pointer_in ! tt m.start b o there rb (ro + 0) (λ q'.
      sets ! (of_opd ! (load ! (through ! refl (fld ! refl (stop !))) (look ! 0 refl))) refl (tt, tt) $ pointer_out ! tt m.start b o there rb (ro + 0) $
      sets ! (is ! (bin ! (get ! refl) (size_word !) (record { fits = subst (λ (k : ℕ). k < 2 ^ 64) (sym whole_size) far })) (ap (vint w64) whole_size)) refl (tt, record { fits = far }) $
      sets ! (bin ! (get ! refl) (get ! refl) tt) refl (tt, tt) $
      sets_last ! (agg ! (and_then ! (get ! refl) (and_then ! (get ! refl) (no_more !)))) refl (tt, (tt, (record { fits = word_len }, tt))) $
      exec ! 𝓣.C 𝓣.Λ En (after 1 body.body) (at_ret En Post) $ sets ! (of_opd ! (get ! refl)) refl (tt, (tt, (record { fits = word_len }, tt))) $
      -- [the token; the token of T; the items]
      join ! $ move ! (1 ∷ []) $
      flt_i ! (length xs * s) (2 ^ 63) (times_below (length xs) (length m.cells) s (2 ^ 63) (omega arith) fit) $ flt_i ! (length xs) (2 ^ 64) (omega arith) $ fjoin ! $
      feq_i ! (List Val) (slice_val (b, at) n ∷ []) (slice_val (b, at) (length xs) ∷ []) (ap (λ k. slice_val (b, at) k ∷ []) (sym long)) $ fjoin ! $ fjoin ! $
      returns ! (look_at ! 0 refl) $ free_all ! refl $
      suffices ! _ (ends_at 𝓛 ended stays says (spelled y) (slice_val (b, at) n) (record { ref_ptr = (b, at); now = xs }) (tt, (tt, (tt, tt))) (tt, (tt, (tt, tt)))) $ says_fact ! run.1.1 $
      nothing ! $ nothing ! $ fjoin ! $ nothing ! $ fjoin ! $ nothing ! $ fjoin ! $ keep ! (2 ∷ 0 ∷ 1 ∷ []) $ done !)))))

pub items_spec : {M : Type 1} → statement M
items_spec 𝓤 𝓛 𝓜 𝓡 wired T laws =
    let E : El = record { row = T; laws = laws } in
    met 𝓛 𝓜 𝓡 (ended E 𝓛 𝓜 𝓡) (stays E 𝓛 𝓜 𝓡) (says E 𝓛 𝓜 𝓡) (body E 𝓛 𝓜 𝓡) (name (args E)) (code.unfolded 𝓤 𝓛.H 𝓜 𝓡 wired (T, tt))
    (Goes-dropped 𝓛 2 (RefOf (0 ∷ []) tt (plain (λ _. Memory E)) (λ _. tt)) yes (λ κs x f. refl), (Goes-dropped 𝓛 2 (plain (λ _. usize)) yes (λ κs x f. refl), (Goes-dropped 𝓛 2 (plain (λ _. usize)) yes (λ κs x f. refl), tt)))
    (λ y are. subst (λ (vss : Vals (ended E 𝓛 𝓜 𝓡).signature y.0.0). Runs 𝓛 𝓜 𝓡 (ended E 𝓛 𝓜 𝓡) (stays E 𝓛 𝓜 𝓡) (says E 𝓛 𝓜 𝓡) (body E 𝓛 𝓜 𝓡) ((y.0.0, y.0.1, y.0.2, y.0.3, vss), y.1))
    (sym (λ j. (are.0.0 j, (are.1.0.0 j, (are.1.1.0.0 j, tt))))) (walk E 𝓛 𝓜 𝓡 y are.1.0.1 are.1.1.0.1))
