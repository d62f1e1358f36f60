-- A seal of no box owns its two words alone.
use mathlib.Core.List.{List, [], ◌∷◌}
use mathlib.Core.Path.{refl}
use mir.Val.{Val, vstruct, vcons, vnil}
use base.Fml.{ftrue}
use types.Kit.{‵, ◌⊛◌, ◌$◌, ◌∵◌, !, qed, done, move, keep, split, join, fjoin, feq_i, fpack, suffices}
use types.Part.{agg}
use types.Run.{no_more, and_then, returns, enter}
use types.ByLocal.{alloc_all, pass_all, free_all, look_at, get, sets}
use denote.Exit.{yes}
use denote.Laws.{Is, shows}
use denote.RattleType.{Valss, owns}
use denote.RawPtr.{RawPtr, ptr_val, rawptr_vals, rawptr_Tells, rawptr_Lawful}
use denote.Signature.{plain}
use denote.Steps.{nothing, peeks}
use denote.Struct.Owning.{shape, to}
use denote.Struct.Struct.{within}
use denote.Triple.Walked.{says, Stays, stay_dropped, ends_at, Goes-dropped}
use Rattle.std.proofs.raw_atomic.Walks.{proved}
use Rattle.std.specs.Prelude.{None}
use Rattle.std_heap.proofs.Handle.{heap_val, heap_Tells}
use Rattle.std_heap.specs.contracts.Global as Heap
use Rattle.range_handles.specs.contracts.seal.Seal as Seal
use Rattle.range_handles.proofs.seal.Seal.TheLaws as seal
use Rattle.range_handles.specs.contracts.seal.Seal.empty as f
use Rattle.range_handles.proofs.seal.Seal.empty.Statement.{statement}
use Rattle.range_handles.proofs.seal.Seal.empty.Code as code

pub empty_spec : {M : Type 1} → statement M
empty_spec 𝓤 𝓛 𝓜 𝓡 wired =
    let place = plain (λ _. RawPtr) in
    let heap = plain (λ _. Heap.the_row) in
    let hs : Stays f.signature.params f.ended.kept =
    (stay_dropped place yes, (stay_dropped heap yes, tt)) in
    let c = f.clauses 𝓛 𝓜.mem 𝓡.returns in
    let S = Seal.the_row in
    proved 𝓛 f.ended hs c 𝓜 𝓡
    (Goes-dropped 𝓛 0 place yes (λ κs x w. refl), (Goes-dropped 𝓛 0 heap yes (λ κs x w. refl), tt))
    f.Key.name code.function (code.unfolded 𝓤 𝓛.H 𝓜 𝓡 wired)
    (λ κs. (rawptr_vals, ((λ _. heap_val ∷ []), tt))) (λ κs. (rawptr_Tells, (heap_Tells, tt))) (λ κs qs bounds a _ are.
    let vss : Valss (RawPtr ∷ Heap.the_row ∷ []) = (rawptr_vals a.0, (heap_val ∷ [], tt)) in
    let w = vstruct (vcons (ptr_val a.0) (vcons heap_val vnil)) in
    let made : S.Denot = record { ptr = a.0; alloc = a.1.0; held = None } in
    qed 𝓛 ((‵ ftrue ⊛ ‵ (owns (RawPtr ∷ Heap.the_row ∷ []) a vss)) ∷ ‵ ftrue ∷ []) ∵
    split ! $ move ! (1 ∷ []) $ feq_i ! (List Val) (w ∷ []) (w ∷ []) refl $ fjoin ! $
    fpack ! (Valss (RawPtr ∷ Heap.the_row ∷ [])) (within (shape Seal.the_type) (to Seal.the_type made) (w ∷ [])) vss $
    fjoin ! $ peeks ! S (Is S) (shows 𝓛 S) made (w ∷ []) (λ fine.
    enter ! _ _ _ _ _ $
    alloc_all ! (λ l. pass_all ! refl (((rawptr_Lawful 𝓛).typed a.0 _ refl).0, ((tt, ((tt, tt), tt)), tt)) $
    sets ! (agg ! (and_then ! (get ! refl) (and_then ! (get ! refl) (no_more !)))) refl
    ((seal.the_field_loose.lawful 𝓛).typed made (w ∷ []) fine).0 $
    returns ! (look_at ! 0 refl) $ free_all ! refl $ keep ! (0 ∷ []) $
    suffices ! _ (ends_at 𝓛 f.ended hs c ((κs, qs, bounds, a, vss), tt) w made (tt, (tt, tt)) (tt, (tt, tt))) $
    says ! refl $ nothing ! $ nothing ! $ fjoin ! $ nothing ! $ fjoin ! $ join ! $ nothing ! $ join ! $ done !)))
