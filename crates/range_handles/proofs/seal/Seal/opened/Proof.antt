-- What a seal with a box owns is what the box owned.
use mathlib.Core.List.{List, [], ◌∷◌, ◌++◌}
use mathlib.Core.Path.{refl}
use base.Logic.{id⊢}
use base.Fml.{ftrue, fsep}
use prog.Wp.{WpFn}
use types.Kit.{‵, raw, ◌⊛◌, prop, ◌$◌, ◌∵◌, !, qed, done, keep, use1, split, join, fsplit, fjoin, regoal, rewrite, suffices, move}
use types.Part.{agg, sub, whole}
use types.Run.{stop, fld, of_opd, no_more, and_then, returns, enter}
use types.ByLocal.{alloc_all, pass_all, free_all, look_at, get, get_in, sets}
use mir.Val.{Val}
use contract.Monad.{fact}
use contract.Running.{tables}
use denote.Exit.{yes}
use denote.Signature.{plain}
use denote.Steps.{nothing, heard}
use denote.Triple.Walked.{says, Stays, stay_dropped, walk_of, ends_at, Goes-dropped}
use Rattle.std.proofs.raw_atomic.Walks.{proved_at}
use Rattle.std.specs.Prelude.{Option, IsSome}
use Rattle.std_alloc.proofs.BoxSteps.Form.{B, D, word, box_typed}
use Rattle.std_alloc.proofs.BoxSteps.Steps.{box_out, box_in}
use Rattle.range_handles.proofs.Boxes.{boxes, inside}
use Rattle.range_handles.specs.contracts.collection.Collection as Collection
use Rattle.range_handles.specs.contracts.seal.Seal.{the_row as S}
use Rattle.range_handles.specs.contracts.seal.Seal.opened as f
use Rattle.range_handles.proofs.seal.Seal.opened.Statement.{statement}
use Rattle.range_handles.proofs.seal.Seal.opened.Code as code

pub opened_spec : {M : Type 1} → statement M
opened_spec 𝓤 𝓛 𝓜 𝓡 wired =
    let hs : Stays f.signature.params f.ended.kept = (stay_dropped (plain (λ _. S)) yes, tt) in
    let c = f.clauses 𝓛 𝓜.mem 𝓡.returns in
    let 𝓣 = tables 𝓤 𝓛.H 𝓜 𝓡 𝓡.env in
    proved_at 𝓛 f.ended hs c 𝓜 𝓡 (Goes-dropped 𝓛 0 (plain (λ _. S)) yes (λ κs x w. refl), tt)
    f.Key.name code.function (code.unfolded 𝓤 𝓛.H 𝓜 𝓡 wired) (λ y are.
    let s = y.0.3.0 in
    let Run = λ (us : List Val).
    WpFn 𝓤 𝓛.H 𝓣.C 𝓣.Λ code.function us ((walk_of 𝓛 f.ended hs c).post y) in
    qed 𝓛 ((‵ ftrue ⊛ ‵ (fsep (S.own_val s y.0.4.0) ftrue)) ∷ raw (fact 𝓤 (IsSome s.held)) ∷ []) ∵
    move ! (1 ∷ []) $ heard ! (IsSome s.held) (λ some. split ! $ move ! (1 ∷ []) $ fsplit ! $
    let held = inside s.held some in
    let v : D boxes = record { ptr = s.ptr; alloc = s.alloc; value = held.0 } in
    rewrite ! 0 (λ (m : Option Collection.the_row.Denot).
    ‵ (S.own_val (record { ptr = s.ptr; alloc = s.alloc; held = m }) y.0.4.0)) held.1 refl $
    use1 𝓛 (‵ ((B boxes).own_val v y.0.4.0)) (id⊢ 𝓤 _) $
    box_out boxes ! v y.0.4.0 (λ b o h at_b is fits.
    box_in boxes ! v b o v.value at_b refl $ keep ! (0 ∷ []) $
    regoal ! (λ (us : List Val). prop (Run (us ++ []))) is refl $
    enter ! _ _ _ _ _ $ alloc_all ! (λ l. pass_all ! refl (box_typed boxes h b o fits, tt) $
    sets ! (of_opd ! (get_in ! (fld ! refl (stop !)) (sub ! 0 refl (whole !)))) refl (tt, tt) $
    sets ! (of_opd ! (get_in ! (fld ! refl (stop !)) (sub ! 1 refl (whole !)))) refl fits $
    sets ! (of_opd ! (get ! refl)) refl (tt, tt) $
    sets ! (agg ! (and_then ! (get ! refl) (and_then ! (get ! refl) (no_more !)))) refl
    (box_typed boxes h b o fits) $ returns ! (look_at ! 0 refl) $ free_all ! refl $
    suffices ! _ (ends_at 𝓛 f.ended hs c y (word boxes h b o)
    (record { place = v.ptr; allocator = v.alloc; value = v.value }) (tt, tt) (tt, tt)) $
    says ! held.1 $ nothing ! $ nothing ! $ fjoin ! $ join ! $ nothing ! $ join ! $ done !))))
