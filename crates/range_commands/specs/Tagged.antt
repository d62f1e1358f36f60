-- What the closure of many updates may answer, with a tag for each.
use Rattle.std.specs.Prelude.{◌≡◌, Option}
use Rattle.std.specs.Fn.{Shared}
use Rattle.std.specs.Option.{option_copied}
use denote.Ref.{Bor}

-- f may answer a where it is shown the tag, and the value or none
pub record MayAnswerTo {F T V A : Type 0} (calls : Shared F (Bor T × (Option (Bor V) × Unit {0})) A)
    (f : F) (tag : T) (value : Option V) (a : A) : Type 0 where
  pub tagged : Bor T
  pub tags : tagged.now ≡ tag
  pub shown : Option (Bor V)
  pub shows : option_copied shown ≡ value
  pub says : calls.post f (tagged, (shown, tt)) a

-- f may be called with each tag, and each value or none
abbrev pub MayBeAskedAll : {F T V A : Type 0} → Shared F (Bor T × (Option (Bor V) × Unit {0})) A → F
    → Type 0
MayBeAskedAll {F} {T} {V} calls f = (tag : Bor T) (shown : Option (Bor V))
    → calls.pre f (tag, (shown, tt))
