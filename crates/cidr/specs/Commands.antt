-- What the commands make of lists.
use Rattle.std.specs.Prelude.{◌≡◌, ℕ, ◌⊎◌, Option, Some, List, [], ◌∷◌, ◌++◌, map, IfSome, String}
use Rattle.std.specs.declared.alloc.Global.{Global}
use Rattle.btree_range_map.specs.Intervals.{Any}
use Rattle.address_text.specs.declared.family.Family.{Family}
use Rattle.address_lists.specs.Files.{Content, IsContent, IsFile, IsFileReason, IsSaidIn}
use Rattle.address_lists.specs.Reading.{MayFail}
use Rattle.address_lists.specs.declared.addresses.Addresses.{Addresses}
use Rattle.address_lists.specs.declared.read.ListError.{ListError}
use Rattle.cidr_arguments.specs.declared.request.Command.{Command}
use Rattle.cidr_arguments.specs.declared.request.Command.TheVariants.{Merge, Common, Except, Diff, Invert}
use Rattle.cidr.specs.declared.serve.Reading.{Reading}
use Rattle.cidr.specs.declared.serve.Stop.{Stop}
use Rattle.cidr.specs.declared.serve.Stop.TheVariants.{Bad, Memory, Unwritable}

-- these are the bytes of the inputs
abbrev pub AreKnown : List (Option (List ℕ)) → List (List ℕ) → Type 0
AreKnown [] [] = Unit {0}
AreKnown [] (bytes ∷ files) = ⊥
AreKnown (input ∷ inputs) [] = ⊥
AreKnown (input ∷ inputs) (bytes ∷ files) = (input ≡ Some bytes) × AreKnown inputs files

-- what a file is read as, and how many lines are left out of it
abbrev pub IsList : Reading → List ℕ → Addresses × ℕ → Type 0
IsList reading bytes list = IsFile reading.strict reading.bad_lines bytes list.0 list.1

-- what a file says, and how many lines are left out of it
abbrev pub IsSaid : Reading → List ℕ → Content × ℕ → Type 0
IsSaid reading bytes list = IsContent reading.strict reading.bad_lines bytes list.0 list.1

-- what each file says
abbrev pub AreLists : Reading → List (List ℕ) → List (Content × ℕ) → Type 0
AreLists reading [] [] = Unit {0}
AreLists reading [] (list ∷ lists) = ⊥
AreLists reading (bytes ∷ files) [] = ⊥
AreLists reading (bytes ∷ files) (list ∷ lists) =
    IsSaid reading bytes list × AreLists reading files lists

-- how many lines are left out of each
abbrev pub left_out_of : List (Content × ℕ) → List ℕ
left_out_of lists = map (λ (list : Content × ℕ). list.1) lists

-- where the bytes of a file are known, it says something of which this is so, and its lines that
-- are left out are counted
abbrev pub IsReadAnd : Reading → Option (List ℕ) → List ℕ → List ℕ → (Content × ℕ → Type 0)
    → Type 0
IsReadAnd reading input before now Then = IfSome input (λ bytes. (list : Content × ℕ)
    × IsSaid reading bytes list × (now ≡ before ++ list.1 ∷ []) × Then list)

-- the first file that is not read has this name and this reason; the files before it are read
abbrev pub IsBadAmong : Reading → List (String Global) → List (List ℕ) → String Global
    → ListError → Type 0
IsBadAmong reading [] files name error = ⊥
IsBadAmong reading (first ∷ names) [] name error = ⊥
IsBadAmong reading (first ∷ names) (bytes ∷ files) name error =
    ((name ≡ first) × IsFileReason reading.strict reading.bad_lines bytes error)
    ⊎ ((list : Content × ℕ) × IsSaid reading bytes list
    × IsBadAmong reading names files name error)

-- the commands stop for this reason
abbrev pub IsStop : Reading → List (String Global) → List (List ℕ) → Stop → Type 0
IsStop reading names files (Bad name error) = IsBadAmong reading names files name error
IsStop reading names files Memory = MayFail
IsStop reading names files Unwritable = MayFail

-- some addresses, put together with those of one list more
abbrev pub Combined : Command → (Family → ℕ → Type 0) → (Family → ℕ → Type 0) → Family → ℕ
    → Type 0
Combined Merge P Q family n = P family n ⊎ Q family n
Combined Common P Q family n = P family n × Q family n
Combined Except P Q family n = P family n × ¬ Q family n
Combined Diff P Q family n = (P family n × ¬ Q family n) ⊎ ((¬ P family n) × Q family n)
Combined Invert P Q family n = P family n ⊎ Q family n

-- one of the lists says the address
abbrev pub IsSaidInOne : List (Content × ℕ) → Family → ℕ → Type 0
IsSaidInOne lists family n = Any (λ (list : Content × ℕ). IsSaidIn list.0 family n) lists

-- some addresses, put together with those of lists, one after the other
abbrev pub Put : Command → (Family → ℕ → Type 0) → List (Content × ℕ) → Family → ℕ → Type 0
Put task P [] = P
Put task P (list ∷ lists) = Put task (Combined task P (IsSaidIn list.0)) lists

-- the addresses of lists, put together
abbrev pub Asked : Command → List (Content × ℕ) → Family → ℕ → Type 0
Asked task [] = λ family n. ⊥
Asked task (list ∷ lists) = Put task (IsSaidIn list.0) lists

-- what the command says of lists: of `invert` all other addresses
abbrev pub IsAnswer : Command → List (Content × ℕ) → Family → ℕ → Type 0
IsAnswer Invert lists family n = ¬ Asked Invert lists family n
IsAnswer task lists family n = Asked task lists family n
