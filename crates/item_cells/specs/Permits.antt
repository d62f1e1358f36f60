-- The right to free a block.
use Rattle.std.specs.Prelude.{ℕ}
use base.Fml.{Fml}
use mir.Syntax.{Ty, ty_array}
use mir.Raw.{raw}
use denote.RattleType.{RattleType}
use denote.Memory.{lone}
use denote.RawPtr.{Ptr}

-- the allocator lets so many values of R go, which start there
abbrev pub may_free : RattleType → ℕ → (Ty → Ptr → Fml) → Ptr → Fml
may_free R n token start = token (raw (ty_array (lone R.mir) n)) start
