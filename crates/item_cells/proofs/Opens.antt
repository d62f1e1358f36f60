-- The memory of a block by value, and behind a `&mut`. Assumes `Logic`.
use mathlib.Core.Path.{◌≡◌, refl, sym, ap, ◌∙◌}
use Prim.Native.Nat.{ℕ, ◌*◌, ◌<◌, ◌^◌}
use mathlib.Core.List.{List, [], ◌∷◌, ◌++◌}
use lib.ListN.{length}
use seplogic.Ra.Ura.{Ura}
use base.Fraction.{full_share}
use base.Fml.{Fml, GName, Lft, Share, fauth, fbor, feq, flft, fobor, fobs, fsep}
use base.Logic.{id⊢, never}
use base.Stored.{Gv}
use mir.Val.{Val, of_list, vcons, vnil, vptr, vstruct}
use types.Logic.{Logic}
use types.Kit.{Goal, Item, Seq, Soaks, Step, step, ‵, ◌$◌, drop as skip, feq_i, feq_l, fjoin, fjoin3, fpack, fpick, flt_i, flt_l, fsplit, move, rewrite}
use types.SemTy.{Body}
use denote.Memory.{cell_at, mem}
use denote.Param.{param}
use denote.RattleType.{RattleType, Valss}
use denote.RawPtr.{Ptr, RawPtr, block_ptr, in_a_block, ptr_val}
use denote.Steps.{closes, nothing, opens}
use denote.Struct.Owning.{shape}
use denote.Struct.Struct.{within}
use Rattle.core.proofs.alloc.Calls.{Fits, handle_tells, token}
use Rattle.core.proofs.mem.Param.{El, R}
use Rattle.std_alloc.proofs.BoxSteps.Form.{Bx}
use Rattle.std_alloc.proofs.OfVacant.{vacant_val}
use Rattle.std_alloc.proofs.RcSteps.{word}
use Rattle.circular_buffer.specs.Ownership.{cells_own, slots}
use Rattle.circular_buffer.proofs.Memory.{Word, sz, word_had, word_made}
use Rattle.item_cells.specs.Permits.{may_free}
use Rattle.item_cells.specs.contracts.memory.Memory as memory
use Rattle.item_cells.specs.contracts.memory.Permit as permit
use Rattle.item_cells.specs.declared.memory.TheConstants.{CELLS}

module _ (E : El) where
  abbrev pub Memory : RattleType
  Memory = memory.the_row (R E)

  -- its machine value
  abbrev pub start_at : ℕ → ℕ → Val
  start_at b o = word (block_ptr b o)

module _ (E : El) {M : Type 1} {𝓤 : Ura M} {𝓛 : Logic 𝓤} {K : Type 0} {Γ : List (Item 𝓤)} {G : Goal 𝓤 𝓛.H} where
  pub memory_had : K → (m : (Memory E).Denot) (vs : List Val)
      → ((b o : ℕ) → m.start ≡ block_ptr b o → vs ≡ start_at E b o ∷ [] → length m.cells * sz E < 2 ^ 63 → Seq K 𝓛 (‵ (slots (R E) b o m.cells) ∷ Γ) G)
      → Seq K 𝓛 (‵ ((Memory E).own_val m vs) ∷ Γ) G
  memory_had t m vs rest =
      fsplit t $ word_had t m.start vs (λ spelled.
      in_a_block t m.start (λ p. cells_own (R E) p m.cells) (id⊢ 𝓤 (never 𝓤)) (λ b o there.
      fsplit t $ flt_l t (λ fit. rest b o there (spelled ∙ ap (λ (p : Ptr). word p ∷ []) there) fit)))

  pub memory_made : K → (m : (Memory E).Denot) (b o : ℕ) → m.start ≡ block_ptr b o → length m.cells * sz E < 2 ^ 63
      → Step K 𝓛 (‵ ((Memory E).own_val m (start_at E b o ∷ [])) ∷ Γ) G (‵ (slots (R E) b o m.cells) ∷ Γ) G
  memory_made t m b o there fit = step (λ rest.
      flt_i t (length m.cells * sz E) (2 ^ 63) fit $ fjoin t $
      word_made t (block_ptr b o) $ fjoin t $
      rewrite t 0 (λ (p : Ptr). ‵ (fsep (Word.own_val (p, tt) (start_at E b o ∷ [])) (cells_own (R E) p m.cells))) (sym there) refl $
      rest)

module _ (E : El) {M : Type 1} {𝓤 : Ura M} {𝓛 : Logic 𝓤} {K : Type 0} {Γ : List (Item 𝓤)} {G : Goal 𝓤 𝓛.H} where
  -- [the cells; the pointer; the open borrow; the observed value; the authority over it]
  pub memory_opens : K → Soaks G → {κ : Lft} {q : Share} {γ : GName} (m : (Memory E).Denot) (rb ro : ℕ)
      → ((b o : ℕ) → m.start ≡ block_ptr b o → length m.cells * sz E < 2 ^ 63
      → Seq K 𝓛 (‵ (slots (R E) b o m.cells) ∷ ‵ (cell_at full_share (Memory E).mir (start_at E b o ∷ []) rb ro) ∷ ‵ (fobor κ q (Body (mem (Memory E)) rb ro γ)) ∷ ‵ (fobs γ ((Memory E).coded.code m)) ∷ ‵ (fauth γ ((Memory E).coded.code m)) ∷ Γ) G)
      → Seq K 𝓛 (‵ (fobs γ ((Memory E).coded.code m)) ∷ ‵ (fbor κ (Body (mem (Memory E)) rb ro γ)) ∷ ‵ (flft κ q) ∷ Γ) G
  memory_opens t soaks m rb ro rest =
      opens t soaks (Memory E) {h = m} rb ro (λ vs. move t (1 ∷ []) $ memory_had E t m vs (λ b o there spelled fit.
      rewrite t 1 (λ (us : List Val). ‵ (cell_at full_share (Memory E).mir us rb ro)) spelled refl $ rest b o there fit))

  pub memory_closes : K → Soaks G → {κ : Lft} {q : Share} {u v : Gv} {γ : GName} (m : (Memory E).Denot) (b o rb ro : ℕ) → m.start ≡ block_ptr b o → length m.cells * sz E < 2 ^ 63
      → Step K 𝓛 (‵ (fobs γ ((Memory E).coded.code m)) ∷ ‵ (fbor κ (Body (mem (Memory E)) rb ro γ)) ∷ ‵ (flft κ q) ∷ Γ) G
      (‵ (slots (R E) b o m.cells) ∷ ‵ (cell_at full_share (Memory E).mir (start_at E b o ∷ []) rb ro) ∷ ‵ (fobor κ q (Body (mem (Memory E)) rb ro γ)) ∷ ‵ (fobs γ u) ∷ ‵ (fauth γ v) ∷ Γ) G
  memory_closes t soaks m b o rb ro there fit = step (λ rest.
      memory_made E t m b o there fit $ move t (1 ∷ 0 ∷ []) $ closes t soaks (Memory E) m (start_at E b o ∷ []) rb ro $ rest)

  -- what is left of a `&mut` whose memory is `m` now
  pub memory_left : K → {κ : Lft} {γ : GName} (m : (Memory E).Denot) (rb ro : ℕ)
      → Step K 𝓛 (‵ (fsep (feq (List Val) (vptr rb ro ∷ []) (vptr rb ro ∷ [])) (fsep (fobs γ ((Memory E).coded.code m)) (fbor κ (Body (mem (Memory E)) rb ro γ)))) ∷ Γ) G
      (‵ (fobs γ ((Memory E).coded.code m)) ∷ ‵ (fbor κ (Body (mem (Memory E)) rb ro γ)) ∷ Γ) G
  memory_left t m rb ro = step (λ rest. feq_i t (List Val) (vptr rb ro ∷ []) (vptr rb ro ∷ []) refl $ fjoin3 t $ rest)

module _ (E : Bx) where
  abbrev pub Permit : RattleType
  Permit = permit.the_row (param 0 E.row) (param 1 E.al.row) E.al.g

  abbrev pub permitted : E.al.row.Denot → Ptr → Fml
  permitted handle start = may_free (param 0 E.row) CELLS (token E.al handle) start

module _ (E : Bx) {M : Type 1} {𝓤 : Ura M} {𝓛 : Logic 𝓤} {K : Type 0} {Γ : List (Item 𝓤)} {G : Goal 𝓤 𝓛.H} where
  pub permit_had : K → (p : (Permit E).Denot) (vs : List Val)
      → ((hv : Val) → vs ≡ vstruct (vcons (ptr_val p.start) (vcons hv vnil)) ∷ [] → Fits E.al hv → Seq K 𝓛 (‵ (E.al.row.own_val p.alloc (hv ∷ [])) ∷ ‵ (permitted E p.alloc p.start) ∷ Γ) G)
      → Seq K 𝓛 (‵ ((Permit E).own_val p vs) ∷ Γ) G
  permit_had t p vs rest =
      fsplit t $ fpick t (λ words. fsplit t $ feq_l t (λ whole. fsplit t $ feq_l t (λ start.
      fsplit t $ handle_tells E.al t p.alloc words.1.0 (λ hv handle good. move t (1 ∷ []) $ skip t $
      rest hv (whole ∙ (λ j. vstruct (of_list (start j ++ (handle j ++ []))) ∷ [])) good))))

  pub permit_made : K → {hv : Val} (handle : E.al.row.Denot) (b o : ℕ)
      → Step K 𝓛 (‵ ((Permit E).own_val (record { start = block_ptr b o; alloc = handle }) (vacant_val hv b o ∷ [])) ∷ Γ) G (‵ (E.al.row.own_val handle (hv ∷ [])) ∷ ‵ (permitted E handle (block_ptr b o)) ∷ Γ) G
  permit_made t {hv} handle b o = step (λ rest.
      let start : List Val = vptr b o ∷ [] in let words : List Val = vacant_val hv b o ∷ [] in
      nothing t $ move t (1 ∷ 0 ∷ []) $ fjoin t $ feq_i t (List Val) start start refl $ fjoin t $ feq_i t (List Val) words words refl $ fjoin t $
      fpack t (Valss (RawPtr ∷ param 1 E.al.row ∷ [])) (within (shape (permit.the_type (param 0 E.row) (param 1 E.al.row) E.al.g)) (block_ptr b o, (handle, tt)) words) (start, (hv ∷ [], tt)) $ fjoin t $
      rest)
