-- A list that is moved, item by item, to the end of another.
use Rattle.std.proofs.Common.{◌≡◌, ℕ, ◌+◌, List, [], ◌∷◌, ◌++◌, length, take, take-add, drop, sym, ap, ◌∙◌, arith, append_assoc}
use Rattle.std.proofs.lemmas.List.{append-nil, drop-drop}

-- one item more was moved
pub moved_more : {X : Type 0} (done rest later all : List X) (x : X) → done ++ rest ≡ all
    → rest ≡ x ∷ later → (done ++ x ∷ []) ++ later ≡ all
moved_more done rest later all x parted next =
    append_assoc done (x ∷ []) later ∙ ap (λ zs. done ++ zs) (sym next) ∙ parted

-- no item is left
pub moved_all : {X : Type 0} (done rest all : List X) → done ++ rest ≡ all → length rest ≡ 0
    → done ≡ all
moved_all done [] all parted none = sym (append-nil done) ∙ parted
moved_all done (x ∷ rest) all parted none = absurd (omega arith)

-- what stands before them stays
pub moved_after : {X : Type 0} (front now new done : List X) (x : X) → now ≡ front ++ done
    → new ≡ now ++ x ∷ [] → new ≡ front ++ (done ++ x ∷ [])
moved_after front now new done x listed longer =
    longer ∙ ap (λ zs. zs ++ x ∷ []) listed ∙ append_assoc front done (x ∷ [])

-- one item more was taken from the front of all
pub taken_more : {X : Type 0} (all later : List X) (i : ℕ) (x : X) → drop i all ≡ x ∷ later
    → (take (i + 1) all ≡ take i all ++ x ∷ []) × (later ≡ drop (i + 1) all)
taken_more all later i x next = grind (arith, take-add i 1 all, drop-drop 1 i all)
