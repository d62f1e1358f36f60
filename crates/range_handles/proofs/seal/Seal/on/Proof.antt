-- A seal owns what its box owned.
use mathlib.Core.List.{List, [], ◌∷◌, ◌++◌}
use mathlib.Core.Path.{refl}
use base.Fml.{ftrue, fsep}
use prog.Wp.{WpFn}
use types.Kit.{‵, ◌⊛◌, prop, ◌$◌, ◌∵◌, !, qed, done, keep, split, join, fsplit, fjoin, regoal, suffices, move}
use types.Part.{agg, sub, whole}
use types.Run.{stop, fld, of_opd, no_more, and_then, returns, enter}
use types.ByLocal.{alloc_all, pass_all, free_all, look_at, get, get_in, sets}
use mir.Val.{Val}
use contract.Running.{tables}
use denote.Exit.{yes}
use denote.Signature.{plain}
use denote.Steps.{nothing}
use denote.Triple.Walked.{says, Stays, stay_dropped, walk_of, ends_at, Goes-dropped}
use Rattle.std.proofs.raw_atomic.Walks.{proved_at}
use Rattle.std.specs.Prelude.{Some}
use Rattle.std_alloc.proofs.BoxSteps.Form.{B, D, word, box_typed}
use Rattle.std_alloc.proofs.BoxSteps.Steps.{box_out, box_in}
use Rattle.std_heap.specs.contracts.Global as Heap
use Rattle.std_heap.specs.contracts.GlobalAllocator.TheImpl.{ghosts}
use Rattle.range_handles.proofs.Boxes.{boxes}
use Rattle.range_handles.specs.contracts.collection.Collection as Collection
use Rattle.range_handles.specs.contracts.unboxed.Unboxed as Unboxed
use Rattle.range_handles.specs.contracts.seal.Seal.on as f
use Rattle.range_handles.proofs.seal.Seal.on.Statement.{statement}
use Rattle.range_handles.proofs.seal.Seal.on.Code as code

pub on_spec : {M : Type 1} → statement M
on_spec 𝓤 𝓛 𝓜 𝓡 wired =
    let given = plain (λ _. Unboxed.the_row Collection.the_row Heap.the_row ghosts) in
    let hs : Stays f.signature.params f.ended.kept = (stay_dropped given yes, tt) in
    let c = f.clauses 𝓛 𝓜.mem 𝓡.returns in
    let 𝓣 = tables 𝓤 𝓛.H 𝓜 𝓡 𝓡.env in
    proved_at 𝓛 f.ended hs c 𝓜 𝓡 (Goes-dropped 𝓛 0 given yes (λ κs x w. refl), tt) f.Key.name
    code.function (code.unfolded 𝓤 𝓛.H 𝓜 𝓡 wired) (λ y are.
    let parts = y.0.3.0 in
    let Run = λ (us : List Val).
    WpFn 𝓤 𝓛.H 𝓣.C 𝓣.Λ code.function us ((walk_of 𝓛 f.ended hs c).post y) in
    let v : D boxes = record { ptr = parts.place; alloc = parts.allocator; value = parts.value } in
    qed 𝓛 ((‵ ftrue ⊛ ‵ (fsep ((B boxes).own_val v y.0.4.0) ftrue)) ∷ ‵ ftrue ∷ []) ∵
    split ! $ move ! (1 ∷ []) $ fsplit ! $ box_out boxes ! v y.0.4.0 (λ b o h at_b is fits.
    box_in boxes ! v b o v.value at_b refl $ keep ! (0 ∷ []) $
    regoal ! (λ (us : List Val). prop (Run (us ++ []))) is refl $
    enter ! _ _ _ _ _ $ alloc_all ! (λ l. pass_all ! refl (box_typed boxes h b o fits, tt) $
    sets ! (of_opd ! (get_in ! (fld ! refl (stop !)) (sub ! 0 refl (whole !)))) refl (tt, tt) $
    sets ! (of_opd ! (get_in ! (fld ! refl (stop !)) (sub ! 1 refl (whole !)))) refl fits $
    sets ! (of_opd ! (get ! refl)) refl (tt, tt) $
    sets ! (agg ! (and_then ! (get ! refl) (and_then ! (get ! refl) (no_more !)))) refl
    (box_typed boxes h b o fits) $ returns ! (look_at ! 0 refl) $ free_all ! refl $
    suffices ! _ (ends_at 𝓛 f.ended hs c y (word boxes h b o)
    (record { ptr = v.ptr; alloc = v.alloc; held = Some v.value }) (tt, tt) (tt, tt)) $
    says ! refl $ nothing ! $ nothing ! $ fjoin ! $ join ! $ nothing ! $ join ! $ done !)))
