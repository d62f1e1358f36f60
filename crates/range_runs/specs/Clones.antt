-- Clones that cannot fail.

-- no clone of a value fails
abbrev pub ClonesNeverFail : {T : Type 0} → (T → Type 0) → Type 0
ClonesNeverFail {T} is_infallible = (x : T) → is_infallible x
