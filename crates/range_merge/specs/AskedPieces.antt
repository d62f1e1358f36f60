-- What a merged pass asks at once: a piece, and the next where what is left starts at one position.
use Rattle.std.specs.Prelude.{◌≡◌, ◌⊎◌, Bool, List, Option, None, Result, Ok}
use Rattle.std.specs.Fn.{Shared}
use Rattle.std.specs.Option.{option_copied, option_map}
use denote.Ref.{Bor}
use Rattle.range_keys.specs.Order.{KeyOrder}
use Rattle.range_algebra.specs.References.{range_of}
use Rattle.range_algebra.specs.declared.any.AnyRange.{AnyRange}
use Rattle.range_store.specs.declared.storage.Item.{Item}
use Rattle.range_runs.specs.Put.{IsPut}
use Rattle.range_runs.specs.Window.{option_items}
use Rattle.range_merge.specs.Combining.{MayBeAskedOfBoth}
use Rattle.range_merge.specs.Merged.{IsPlacedIn, StartAlike, IsFirstPieceOf, part_item}
use Rattle.range_merge.specs.declared.merged.Piece.{Piece}
use Rattle.range_merge.specs.declared.merged.Rests.{Rests}

module _ {K : Type 0} (order : KeyOrder K) {V W : Type 0} where
  -- the piece is the first of two ranges, and the closure may be asked of their values
  pub record IsFirstAskable {F A : Type 0}
      (calls : Shared F (Option (Bor V) × (Option (Bor W) × Unit {0})) A) (f : F)
      (piece : Piece K V W) : Type 0 where
    pub left : Option (Item (AnyRange K) V)
    pub right : Option (Item (AnyRange K) W)
    pub first : IsFirstPieceOf order left right piece
    pub placed : IsPlacedIn order left
    pub placed_right : IsPlacedIn order right
    pub asked : MayBeAskedOfBoth calls f (option_items left) (option_items right)

  -- what a piece leaves of two ranges starts at one position, and the next piece is the first of
  -- that
  pub record IsNextPiece (piece next : Piece K V W) : Type 0 where
    pub alike : StartAlike order (option_map part_item piece.left)
        (option_map part_item piece.right)
    pub first : IsFirstPieceOf order (option_map part_item piece.left)
        (option_map part_item piece.right) next

  module _ {X E : Type 0} (same : X → X → Bool) (is_clone : K → K → Type 0)
      (may : Option V → Option W → Result (Option X) E → Type 0) where
    -- the closure may give an answer to what binds the piece, which is put after the others
    abbrev pub IsPieceAsked : Piece K V W → List (Item (AnyRange K) X)
        → List (Item (AnyRange K) X) → Type 0
    IsPieceAsked piece old new =
        (answer : Option X)
        × may (option_copied piece.value) (option_copied piece.other_value) (Ok answer)
        × IsPut order same is_clone old new (range_of piece.range) answer

    -- it holds of the piece and the answers before it, or of the next piece and those before that
    abbrev pub HoldsOfOne : Piece K V W → List (Item (AnyRange K) X)
        → (Piece K V W → List (Item (AnyRange K) X) → Type 0) → Type 0
    HoldsOfOne piece old P =
        P piece old ⊎
        ((next : Piece K V W) × (middle : List (Item (AnyRange K) X)) × IsNextPiece piece next
        × IsPieceAsked piece old middle × P next middle)

    -- the pieces are asked of, and this is left after the last of them, on one side nothing
    abbrev pub AreAsked : Piece K V W → List (Item (AnyRange K) X) → List (Item (AnyRange K) X)
        → Rests K V W → Type 0
    AreAsked piece old new rests =
        HoldsOfOne piece old (λ last before. IsPieceAsked last before new
        × (rests.left ≡ last.left) × (rests.right ≡ last.right))
        × ((rests.left ≡ None) ⊎ (rests.right ≡ None))

    -- the closure may answer so to what binds one of the pieces
    abbrev pub MayAnswerOnOne : Piece K V W → List (Item (AnyRange K) X) → Result (Option X) E
        → Type 0
    MayAnswerOnOne piece old answer =
        HoldsOfOne piece old (λ asked before. may (option_copied asked.value)
        (option_copied asked.other_value) answer)

    -- the first piece of two ranges is asked of, and the next one where that is to be at once
    abbrev pub AreFirstAsked : Option (Item (AnyRange K) V) → Option (Item (AnyRange K) W)
        → List (Item (AnyRange K) X) → List (Item (AnyRange K) X) → Rests K V W → Type 0
    AreFirstAsked left right old new rests =
        (piece : Piece K V W) × IsFirstPieceOf order left right piece × AreAsked piece old new rests

    -- the closure may answer so to one of them
    abbrev pub MayAnswerOnFirst : Option (Item (AnyRange K) V) → Option (Item (AnyRange K) W)
        → List (Item (AnyRange K) X) → Result (Option X) E → Type 0
    MayAnswerOnFirst left right old answer =
        (piece : Piece K V W) × IsFirstPieceOf order left right piece
        × MayAnswerOnOne piece old answer
