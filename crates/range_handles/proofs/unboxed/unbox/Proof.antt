-- What `into_raw_with_allocator` hands over is, pointer and block together, what a box owns.
use mathlib.Core.List.{List, [], ◌∷◌, ◌++◌}
use mathlib.Core.Path.{◌≡◌, refl, sym, ap}
use mir.MapTy.{inst_fn}
use mir.Syntax.{a_type, dcons, dnil}
use mir.Val.{Val}
use base.Logic.{id⊢}
use base.Fml.{flft, ftrue, fsep}
use prog.Wp.{WpFn}
use types.Kit.{‵, raw, ◌⊛◌, some, later, prop, ◌$◌, ◌∵◌, !, qed, done, move, drop, use1, split, split3, join, fsplit, fjoin, pick, await, rewrite, regoal, suffices}
use types.Part.{agg, sub, whole}
use types.Run.{stop, fld, of_opd, no_more, and_then, returns, enter}
use types.ByLocal.{alloc_all, pass_all, free_all, look_at, get, get_in, sets, lands_as}
use contract.Monad.{fact}
use contract.Running.{tables}
use denote.Exit.{no}
use denote.Builtin.{RawPtr}
use denote.Param.{bounded}
use denote.RawPtr.{Ptr}
use denote.Signature.{plain}
use denote.Steps.{nothing, heard, only}
use denote.Struct.Tuple.{Tuple}
use denote.Triple.Call.{calls_at}
use denote.Triple.Clauses.{Lasts, lasts}
use denote.Triple.Spec.{triple_of}
use denote.Triple.Table.{framed}
use denote.Triple.Walked.{says, Stays, stay_dropped, walk_of, ends_at}
use Rattle.core.proofs.alloc.Calls.{Goes-blank, token}
use Rattle.std.proofs.raw_atomic.Walks.{proved_at}
use Rattle.std_alloc.specs.Box.Ownership.{box_owns}
use Rattle.std_alloc.proofs.BoxSteps.Form.{Bx, R, B, D, word, box_typed}
use Rattle.std_alloc.proofs.BoxSteps.Steps.{box_out, box_in}
use Rattle.std_alloc.specs.contracts.boxed.Box.into_raw_with_allocator as into_raw
use Rattle.std_alloc.proofs.boxed.Box.into_raw_with_allocator.Met.{met}
use Rattle.range_handles.specs.contracts.unboxed.unbox as f
use Rattle.range_handles.proofs.unboxed.unbox.Statement.{statement}
use Rattle.range_handles.proofs.unboxed.unbox.Code as code

pub unbox_spec : {M : Type 1} → statement M
unbox_spec 𝓤 𝓛 𝓜 𝓡 wired X Z LX LZ g d dX dZ allocator glue glued =
    let E : Bx =
    record { row = X; laws = LX; al = record { row = Z; laws = LZ; g = g; d = d; drops = dZ } } in
    let at = bounded (a_type ∷ a_type ∷ []) (X, (Z, tt)) (dcons d (dcons dX (dcons dZ dnil))) in
    let T = f.ended X Z g d dX dZ in
    let c = f.clauses X Z g d dX dZ 𝓛 𝓜.mem 𝓡.returns in
    let hs : Stays T.signature.params T.kept = (stay_dropped (plain (λ _. B E)) no, tt) in
    let fn = inst_fn at code.function in
    let 𝓣 = tables 𝓤 𝓛.H 𝓜 𝓡 𝓡.env in
    let Called = into_raw.ended X Z g d dZ dX in
    let G = triple_of 𝓛 Called.signature (into_raw.spec X Z g d dZ dX 𝓛 𝓜.mem 𝓡.returns) in
    let called =
    met 𝓤 𝓛 𝓜 𝓡 (code.calls-std_alloc::boxed::Box::into_raw_with_allocator 𝓡.env wired)
    X Z LX LZ g d dZ dX allocator glued glue in
    proved_at 𝓛 T hs c 𝓜 𝓡 (Goes-blank 𝓛 2 (plain (λ _. B E)) no (λ κs x w. tt), tt)
    (f.Key.name at) fn (code.unfolded 𝓤 𝓛.H 𝓜 𝓡 wired (X, (Z, tt)) d dX dZ) (λ y are.
    let κs = y.0.0 in let v : D E = y.0.3.0 in
    let alive = ‵ (flft κs.0 y.0.1.0) ⊛ ‵ (flft κs.1.0 y.0.1.1.0) ⊛ ‵ ftrue in
    let Run = λ (us : List Val). WpFn 𝓤 𝓛.H 𝓣.C 𝓣.Λ fn us ((walk_of 𝓛 T hs c).post y) in
    qed 𝓛 ((alive ⊛ ‵ (fsep ((B E).own_val v y.0.4.0) ftrue))
    ∷ raw ((c κs y.0.3).requires tt) ∷ []) ∵
    split ! $ move ! (1 ∷ []) $ fsplit ! $ box_out E ! v y.0.4.0 (λ b o h at_b is fits.
    box_in E ! v b o v.value at_b refl $ fjoin ! $ move ! (1 ∷ 0 ∷ []) $ join ! $ join ! $
    let w = word E h b o in
    let z : G.Ghost = ((κs, y.0.1, tt, (v, tt), (w ∷ [], tt)), tt) in
    use1 𝓛 (raw (G.pre z)) (id⊢ 𝓤 _) $
    regoal ! (λ (us : List Val). prop (Run (us ++ []))) is refl $
    enter ! _ _ _ _ _ $ alloc_all ! (λ l. pass_all ! refl (box_typed E h b o fits, tt) $
    sets ! (of_opd ! (get ! refl)) refl (box_typed E h b o fits) $
    calls_at ! (framed 𝓤 𝓛.H 𝓜 𝓣) G called z (and_then ! (get ! refl) (no_more !)) (λ u.
    use1 𝓛 (later (some (λ (r : Ptr × Z.Denot).
    (alive ⊛ ‵ ((Tuple (RawPtr ∷ Z ∷ [])).own_val r (u ∷ [])))
    ⊛ some (λ (ws : Lasts Called κs (v, tt)). ‵ (lasts Called κs (v, tt) ws)
    ⊛ (raw (fact 𝓤 (r.1 ≡ v.alloc)) ⊛ ‵ (box_owns (token E.al v.alloc) (R E) r.0 v.value))))))
    (id⊢ 𝓤 _) $
    await ! tt $ pick ! (λ r. split ! $ move ! (1 ∷ []) $ pick ! (λ ws. split3 ! $ drop ! $
    heard ! (r.1 ≡ v.alloc) (λ same.
    rewrite ! 0 (λ (s : Z.Denot). ‵ (box_owns (token E.al s) (R E) r.0 v.value)) (sym same) refl $
    let made : D E = record { ptr = r.0; alloc = r.1; value = v.value } in
    move ! (1 ∷ []) $ split ! $ move ! (1 ∷ 2 ∷ []) $ fjoin ! $
    use1 𝓛 (‵ ((B E).own_val made (u ∷ []))) (id⊢ 𝓤 _) $
    box_out E ! made (u ∷ []) (λ b' o' h' at_b' is' fits'. box_in E ! made b' o' v.value at_b' refl $
    let good = box_typed E h' b' o' fits' in
    lands_as ! (ap only is') refl good $
    sets ! (of_opd ! (get_in ! (fld ! refl (stop !)) (sub ! 0 refl (whole !)))) refl (tt, tt) $
    sets ! (of_opd ! (get_in ! (fld ! refl (stop !)) (sub ! 1 refl (whole !)))) refl fits' $
    sets ! (of_opd ! (get ! refl)) refl fits' $
    sets ! (agg ! (and_then ! (get ! refl) (and_then ! (get ! refl) (no_more !)))) refl good $
    returns ! (look_at ! 0 refl) $ free_all ! refl $
    suffices ! _ (ends_at 𝓛 T hs c y (word E h' b' o')
    (record { place = r.0; allocator = r.1; value = v.value }) ((tt, (tt, tt)), tt) (tt, tt)) $
    says ! refl $ nothing ! $ nothing ! $ fjoin ! $ join ! $ move ! (1 ∷ 0 ∷ []) $ join ! $ done !))))))))
