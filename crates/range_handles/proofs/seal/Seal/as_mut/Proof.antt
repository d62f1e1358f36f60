-- The collection is lent out of the seal: whatever it is at last, the seal holds that.
use mathlib.Core.List.{List, [], ◌∷◌}
use mathlib.Core.Path.{◌≡◌, refl}
use Prim.Native.Nat.{ℕ}
use seplogic.Ra.Ura.{Ura}
use mir.Raw.{raw as bare}
use mir.Syntax.{named}
use mir.Val.{Val, vptr}
use base.Fraction.{full_share}
use base.Logic.{ent, sep, id⊢}
use base.Fml.{Fml, GName, ftrue, fsep, flft}
use types.Logic.{Logic, sem}
use types.Kit.{at_ret, ‵, raw, ◌⊛◌, some, later, ◌$◌, ◌∵◌, !, qed, done, move, keep, drop, use1, split, split3, join, frame, fsplit3, fjoin, fjoin3, fpack, pick, await, rewrite, group, suffices}
use types.Part.{whole, sub, look_in}
use types.Run.{stop, fld, load, of_opd, addr, first, blocks, exec, returns, enter}
use types.ByLocal.{alloc_all, pass_all, free_all, look_at, get, through, sets, sets_last, env}
use contract.Monad.{fact}
use contract.Running.{tables}
use denote.Exit.{no}
use denote.Follow.{follows, lends_Part}
use denote.Memory.{part_at, part_of, mem, cell_at}
use denote.RawPtr.{block_ptr}
use denote.Ref.{MutRef, mut_vals, mut_Tells}
use denote.Signature.{plain, mut_ref_to}
use denote.Steps.{heard, nothing, opens}
use denote.Triple.Walked.{says, Stays, stay_dropped, walk_of, ends_at, Goes-spent_ref}
use Rattle.core.proofs.alloc.Calls.{token}
use Rattle.core.proofs.atomic.Steps.{tail}
use Rattle.std.proofs.raw_atomic.Walks.{proved}
use Rattle.std.specs.Borrow.{MutBor}
use Rattle.std.specs.Prelude.{Option, IsSome}
use Rattle.std_alloc.proofs.BoxSteps.Form.{D, B, τ, word, handle}
use Rattle.std_alloc.proofs.BoxSteps.Steps.{box_out, box_in}
use Rattle.range_handles.specs.Lending.{with_held}
use Rattle.range_handles.specs.contracts.collection.Collection as Collection
use Rattle.range_handles.specs.contracts.seal.Seal.{the_row as S}
use Rattle.range_handles.proofs.Boxes.{boxes, inside}
use Rattle.range_handles.specs.contracts.seal.Seal.as_mut as f
use Rattle.range_handles.proofs.seal.Seal.as_mut.Statement.{statement}
use Rattle.range_handles.proofs.seal.Seal.as_mut.Code as code

abbrev X : Type 0
X = Collection.the_row.Denot

module _ (s : S.Denot) (b o k i : ℕ) (h : Val) where
  -- what is left of a seal in memory whose collection is lent
  abbrev left : Fml
  left = fsep (token boxes.al s.alloc (bare (τ boxes)) (block_ptr k i))
      (fsep (handle boxes s.alloc h) (cell_at full_share S.mir (word boxes h k i ∷ []) b o))

  returned : {M : Type 1} {𝓤 : Ura M} (𝓛 : Logic 𝓤) → s.ptr ≡ block_ptr k i → (x : X)
      → ent 𝓤 (sep 𝓤 (sem 𝓛 ((mem Collection.the_row).own_at x k i)) (sem 𝓛 left))
      (sem 𝓛 ((mem S).own_at (with_held s x) b o))
  unfolding part_of
  returned {𝓤 = 𝓤} 𝓛 at_k x =
      qed 𝓛 (‵ (part_at Collection.the_row full_share x k i) ∷ ‵ left ∷ []) ∵
      move ! (1 ∷ []) $ fsplit3 ! $ move ! (3 ∷ []) $
      box_in boxes ! (record { ptr = s.ptr; alloc = s.alloc; value = x }) k i x at_k refl $
      use1 𝓛 (‵ (S.own_val (with_held s x) (word boxes h k i ∷ []))) (id⊢ 𝓤 _) $
      move ! (1 ∷ []) $ fjoin ! $
      fpack ! (List Val) (λ us. fsep (cell_at full_share S.mir us b o) (S.own_val (with_held s x) us))
      (word boxes h k i ∷ []) $ done !

pub as_mut_spec : {M : Type 1} → statement M
as_mut_spec 𝓤 𝓛 𝓜 𝓡 wired =
    let seal = plain (λ _. S) in
    let hs : Stays f.signature.params f.ended.kept =
    (stay_dropped (mut_ref_to (0 ∷ []) tt seal) no, tt) in
    let c = f.clauses 𝓛 𝓜.mem 𝓡.returns in
    let 𝓣 = tables 𝓤 𝓛.H 𝓜 𝓡 𝓡.env in
    let fn = code.function in
    proved 𝓛 f.ended hs c 𝓜 𝓡 (Goes-spent_ref 𝓛 1 (0 ∷ []) tt seal, tt) f.Key.name fn
    (code.unfolded 𝓤 𝓛.H 𝓜 𝓡 wired) (λ κs. (mut_vals, tt)) (λ κs. (mut_Tells (named 0) κs.0 S, tt))
    (λ κs qs bounds a _ are.
    let κ = κs.0 in let q = qs.0 in
    let y : (walk_of 𝓛 f.ended hs c).Ghost = ((κs, qs, bounds, a, (mut_vals a.0, tt)), tt) in
    let s = a.0.now in let b = a.0.ref_ptr.0 in let o = a.0.ref_ptr.1 in
    qed 𝓛 (((‵ (flft κ q) ⊛ ‵ ftrue)
    ⊛ ‵ ((MutRef (named 0) κ S).own_val a.0 (mut_vals a.0)) ⊛ ‵ ftrue)
    ∷ raw (fact 𝓤 (IsSome s.held)) ∷ []) ∵ move ! (1 ∷ []) $ heard ! (IsSome s.held) (λ full.
    let held = inside s.held full in
    split3 ! $ split ! $ keep ! (2 ∷ 0 ∷ []) $ enter ! _ _ _ _ _ $
    alloc_all ! (λ l. pass_all ! refl ((tt, tt), tt) $
    fsplit3 ! $ drop ! $ opens ! tt S b o (λ us. move ! (1 ∷ []) $
    rewrite ! 0 (λ (m : Option X).
    ‵ (S.own_val (record { ptr = s.ptr; alloc = s.alloc; held = m }) us)) held.1 refl $
    let v : D boxes = record { ptr = s.ptr; alloc = s.alloc; value = held.0 } in
    use1 𝓛 (‵ ((B boxes).own_val v us)) (id⊢ 𝓤 _) $ box_out boxes ! v us (λ k i h at_k is fits.
    rewrite ! 3 (λ (ws : List Val). ‵ (cell_at full_share S.mir ws b o)) is refl $
    -- [the collection; its block; the allocator; the seal's words; the open borrow, in three entries]
    first ! $ blocks ! $
    sets ! (of_opd ! (load ! (through ! refl (fld ! refl (stop !)))
    (look_in ! 3 (sub ! 0 refl (whole !))))) refl (tt, tt) $
    sets ! (of_opd ! (get ! refl)) refl (tt, tt) $
    sets_last ! (addr ! (through ! refl (stop !))) refl (tt, tt) $
    exec ! 𝓣.C 𝓣.Λ (env fn.locals l) (tail fn.body) (at_ret _ ((walk_of 𝓛 f.ended hs c).post y)) $
    sets ! (of_opd ! (get ! refl)) refl (tt, tt) $
    move ! (1 ∷ 2 ∷ 3 ∷ []) $ fjoin3 ! $ move ! (2 ∷ 3 ∷ 4 ∷ 1 ∷ 0 ∷ []) $ group ! 5 $
    let back = returned s b o k i h 𝓛 at_k in
    let γ = a.0.ghost_name in
    let loan : GName → MutBor X = λ δ. record { ref_ptr = (k, i); ghost_name = δ; now = held.0 } in
    use1 𝓛 (later (some (λ (δ : GName).
    ‵ ((MutRef (named 0) κ Collection.the_row).own_val (loan δ) (vptr k i ∷ []))
    ⊛ ‵ (flft κ q) ⊛ ‵ (follows S Collection.the_row γ δ (with_held s)))))
    (lends_Part 𝓛 S Collection.the_row (with_held s) (named 0) κ q b o k i γ
    (sem 𝓛 (left s b o k i h)) back (S.coded.code s) (S.coded.code s) held.0) $
    await ! tt $ pick ! (λ δ. split3 ! $ returns ! (look_at ! 0 refl) $ free_all ! refl $
    suffices ! _ (ends_at 𝓛 f.ended hs c y (vptr k i) (loan δ) (tt, tt) (tt, tt)) $
    nothing ! $ nothing ! $ fjoin ! $ join ! $ nothing ! $ move ! (2 ∷ 0 ∷ []) $ join ! $ join ! $ frame ! $
    says ! held.1 $ done !))))))
