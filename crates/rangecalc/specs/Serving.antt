-- The texts that may answer the lines of an input.
use Rattle.std.specs.Prelude.{◌≡◌, ℕ, List, [], ◌∷◌, ◌⊎◌, codes}
use Rattle.btree_range_map.specs.Signed.{signed_order}
use Rattle.btree_range_map.specs.Unsigned.{unsigned_order}
use Rattle.rangecalc.specs.Conversation.{IsConversation}

-- the text may answer the lines of the input before the rest of it, over empty maps of the keys
-- that the arguments name
abbrev pub IsAnswered : List (List ℕ) → List ℕ → List ℕ → List ℕ → Type 0
IsAnswered words input text rest =
    ((words ≡ codes "u8" ∷ [])
    × IsConversation (unsigned_order 255) input text rest)
    ⊎ ((words ≡ codes "i32" ∷ [])
    × IsConversation (signed_order 2147483647) input text rest)
