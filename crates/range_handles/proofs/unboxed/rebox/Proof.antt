-- The parts own what `from_raw` asks for.
use mathlib.Core.List.{List, [], ◌∷◌, ◌++◌}
use mathlib.Core.Path.{◌≡◌, refl}
use mir.MapTy.{inst_fn}
use mir.Syntax.{a_type, dcons, dnil}
use mir.Val.{Val, vptr}
use base.Logic.{id⊢}
use base.Fml.{flft, ftrue, fsep}
use prog.Wp.{WpFn}
use types.Kit.{‵, raw, ◌⊛◌, some, later, prop, at_ret, ◌$◌, ◌∵◌, !, qed, done, move, keep, drop, use1, split, split3, join, fsplit, fjoin, feq_i, pick, await, regoal, suffices}
use types.Part.{sub, whole}
use types.Run.{stop, fld, of_opd, no_more, and_then, first, blocks, exec, returns, enter}
use types.ByLocal.{alloc_all, pass_all, free_all, look_at, get, get_in, sets, lands_last, env}
use contract.Monad.{fact}
use contract.Running.{tables}
use denote.Exit.{no}
use denote.Param.{bounded}
use denote.RawPtr.{block_ptr}
use denote.Signature.{plain}
use denote.Laws.{Is, shows}
use denote.Param.Laws.{param_laws}
use denote.Steps.{nothing, heard, peeks}
use denote.Triple.Call.{calls_at_last}
use denote.Triple.Clauses.{Lasts, lasts}
use denote.Triple.Spec.{triple_of}
use denote.Triple.Table.{framed}
use denote.Triple.Walked.{says, Stays, stay_dropped, walk_of, ends_at}
use contract.BorrowLft.{◌⊑◌}
use Rattle.core.proofs.alloc.Calls.{Goes-blank}
use Rattle.core.proofs.atomic.Steps.{tail}
use Rattle.std.proofs.raw_atomic.Walks.{proved_at}
use Rattle.std_alloc.proofs.BoxSteps.Form.{Bx, R, P, B, D, box_typed}
use Rattle.std_alloc.proofs.BoxSteps.Steps.{box_out}
use Rattle.std_alloc.specs.contracts.boxed.Box.from_raw as from_raw
use Rattle.std_alloc.proofs.boxed.Box.TheLaws as box
use Rattle.std_alloc.proofs.boxed.Box.from_raw.Met.{met}
use Rattle.range_handles.specs.contracts.unboxed.Unboxed.{the_row}
use Rattle.range_handles.specs.contracts.unboxed.rebox as f
use Rattle.range_handles.proofs.unboxed.rebox.Statement.{statement}
use Rattle.range_handles.proofs.unboxed.rebox.Code as code

pub rebox_spec : {M : Type 1} → statement M
rebox_spec 𝓤 𝓛 𝓜 𝓡 wired X Z LX LZ g d dZ allocator glued =
    let E : Bx =
    record { row = X; laws = LX; al = record { row = Z; laws = LZ; g = g; d = d; drops = dZ } } in
    let given = plain (λ _. the_row (R E) (P E) g) in
    let at = bounded (a_type ∷ a_type ∷ []) (X, (Z, tt)) (dcons d (dcons dZ dnil)) in
    let T = f.ended X Z g d dZ in
    let c = f.clauses X Z g d dZ 𝓛 𝓜.mem 𝓡.returns in
    let hs : Stays T.signature.params T.kept = (stay_dropped given no, tt) in
    let fn = inst_fn at code.function in
    let 𝓣 = tables 𝓤 𝓛.H 𝓜 𝓡 𝓡.env in
    let Called = from_raw.ended X Z g d dZ in
    let G = triple_of 𝓛 Called.signature (from_raw.spec X Z g d dZ 𝓛 𝓜.mem 𝓡.returns) in
    let called =
    met 𝓤 𝓛 𝓜 𝓡 (code.calls-std_alloc::boxed::Box::from_raw 𝓡.env wired)
    X Z LX LZ g d dZ allocator glued in
    let laws =
    (box.the_field_loose (R E) (P E) g (param_laws 0 X LX) (param_laws 1 Z LZ)).lawful 𝓛 in
    proved_at 𝓛 T hs c 𝓜 𝓡 (Goes-blank 𝓛 2 given no (λ κs x w. tt), tt) (f.Key.name at) fn
    (code.unfolded 𝓤 𝓛.H 𝓜 𝓡 wired (X, (Z, tt)) d dZ) (λ y are.
    let κs = y.0.0 in
    let parts = y.0.3.0 in
    let v : D E = record { ptr = parts.place; alloc = parts.allocator; value = parts.value } in
    let alive = ‵ (flft κs.0 y.0.1.0) ⊛ ‵ (flft κs.1.0 y.0.1.1.0) ⊛ ‵ ftrue in
    let in_X = raw (fact 𝓤 (κs.0 ⊑ X.lives)) in
    let in_Z = raw (fact 𝓤 (κs.1.0 ⊑ Z.lives)) in
    let Run = λ (us : List Val). WpFn 𝓤 𝓛.H 𝓣.C 𝓣.Λ fn us ((walk_of 𝓛 T hs c).post y) in
    qed 𝓛 ((alive ⊛ ‵ (fsep ((B E).own_val v y.0.4.0) ftrue)) ∷ (in_X ⊛ in_Z ⊛ ‵ ftrue) ∷ []) ∵
    split ! $ move ! (1 ∷ []) $ fsplit ! $ box_out E ! v y.0.4.0 (λ b o h at_b is fits.
    -- [the value; its block; the allocator; nothing; the lifetimes; that they are alive]
    fjoin ! $ move ! (4 ∷ []) $ split3 ! $ move ! (1 ∷ 3 ∷ 0 ∷ []) $ join ! $
    move ! (1 ∷ 0 ∷ []) $ join ! $
    nothing ! $ feq_i ! (List Val) (vptr b o ∷ []) (vptr b o ∷ []) refl $ fjoin ! $
    move ! (3 ∷ 0 ∷ []) $ fjoin ! $ move ! (4 ∷ 0 ∷ []) $ join ! $ join ! $
    let z : G.Ghost =
    ((κs, y.0.1, tt, (v.alloc, (block_ptr b o, tt)), (h ∷ [], (vptr b o ∷ [], tt))), v.value) in
    use1 𝓛 (raw (G.pre z)) (id⊢ 𝓤 _) $
    regoal ! (λ (us : List Val). prop (Run (us ++ []))) is refl $
    enter ! _ _ _ _ _ $ alloc_all ! (λ l. pass_all ! refl (box_typed E h b o fits, tt) $
    sets ! (of_opd ! (get_in ! (fld ! refl (stop !)) (sub ! 0 refl (whole !)))) refl (tt, tt) $
    sets ! (of_opd ! (get_in ! (fld ! refl (stop !)) (sub ! 1 refl (whole !)))) refl fits $
    first ! $ blocks ! $ sets ! (of_opd ! (get ! refl)) refl fits $
    calls_at_last ! (framed 𝓤 𝓛.H 𝓜 𝓣) G called z
    (and_then ! (get ! refl) (and_then ! (get ! refl) (no_more !))) (λ u.
    use1 𝓛 (later (some (λ (r : D E). (alive ⊛ ‵ ((B E).own_val r (u ∷ [])))
    ⊛ some (λ (ws : Lasts Called κs z.0.3). ‵ (lasts Called κs z.0.3 ws)
    ⊛ (raw (fact 𝓤 (r.value ≡ v.value)) ⊛ raw (fact 𝓤 (r.alloc ≡ v.alloc)))))))
    (id⊢ 𝓤 _) $
    await ! tt $ pick ! (λ r. split ! $ move ! (1 ∷ []) $ pick ! (λ ws. split3 ! $ drop ! $
    heard ! (r.value ≡ v.value) (λ same. drop ! $ split ! $ move ! (1 ∷ []) $
    peeks ! (B E) (Is (B E)) (shows 𝓛 (B E)) r (u ∷ []) (λ fine.
    let good = (laws.typed r (u ∷ []) fine).0 in lands_last ! refl good $
    exec ! 𝓣.C 𝓣.Λ (env fn.locals l) (tail (tail (tail fn.body)))
    (at_ret _ ((walk_of 𝓛 T hs c).post y)) $
    sets ! (of_opd ! (get ! refl)) refl good $ returns ! (look_at ! 0 refl) $ free_all ! refl $ keep ! (0 ∷ 1 ∷ []) $
    suffices ! _ (ends_at 𝓛 T hs c y u r ((tt, (tt, tt)), tt) (tt, tt)) $
    says ! same $ nothing ! $ nothing ! $ fjoin ! $ join ! $ move ! (1 ∷ 0 ∷ []) $ join ! $ done !))))))))
