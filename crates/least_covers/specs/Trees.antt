-- Blocks divided into halves, and the blocks that are chosen of them with so many prefixes.
use Rattle.std.specs.Prelude.{◌≡◌, ℕ, ◌+◌, ◌-◌, ◌*◌, ◌≤◌, ◌<◌, ◌^◌, Bool, true, false, ◌&&◌, ◌==◌, if◌then◌else◌, nat_lt, min, List, [], ◌∷◌, ◌++◌, length, reverse}
use Rattle.std.specs.List.{AllByRecursion}
use Rattle.least_covers.specs.Covers.{AreBetween, are_held, how_many}
use Rattle.least_covers.specs.Rows.{IsJoinedSoFar, IsRow, at}
use Rattle.least_covers.specs.Runs.{AreLeft, has}
use Rattle.least_covers.specs.declared.blocks.Block.{Block}
use Rattle.least_covers.specs.declared.marks.Marks.{Marks}
use Rattle.least_covers.specs.declared.marks.Node.{Node}
use Rattle.least_covers.specs.declared.marks.Taken.{Taken}

-- a block by its first number and its free bits, whole or with shares and its halves
pub data Tree : Type 0 where
  Whole : ℕ → ℕ → Tree
  Divided : ℕ → ℕ → List ℕ → Tree → Tree → Tree

-- what the first half has of k prefixes
abbrev pub low_of : List ℕ → ℕ → ℕ
low_of shares k = if k == 0 then 0 else at shares k

-- what the second half has
abbrev pub high_of : List ℕ → ℕ → ℕ
high_of shares k =
    if low_of shares k == 0 then 0 else min (length shares) k - low_of shares k

-- one prefix is for the whole block
abbrev pub is_own : List ℕ → ℕ → Bool
is_own shares k = (low_of shares k == 0) && nat_lt 0 k

module _ (width : ℕ) where
  -- the block of the numbers from one on that differ in so many bits
  abbrev pub own : Bool → ℕ → ℕ → List Block
  own b network free =
      if b then record { network = network; length = width - free } ∷ [] else []

  -- the blocks that are chosen
  abbrev pub chosen : Tree → ℕ → List Block
  chosen (Whole network free) k = own (is_own [] k) network free
  chosen (Divided network free shares low high) k =
      own (is_own shares k) network free
      ++ (chosen low (low_of shares k) ++ chosen high (high_of shares k))

  -- how many numbers they have together
  abbrev pub sizes : List Block → ℕ
  sizes [] = 0
  sizes (b ∷ bs) = 2 ^ (width - b.length) + sizes bs

  -- its numbers are those of a prefix: 2^k of them, from a multiple of 2^k on
  abbrev pub IsBlock : Block → Type 0
  IsBlock b = (b.length ≤ width) × ((q : ℕ) × (b.network ≡ q * 2 ^ (width - b.length)))
      × (b.network + 2 ^ (width - b.length) ≤ 2 ^ width)

  -- for each number of prefixes some blocks hold all that is to be held of one, and add what its
  -- row says
  pub record AreMade (runs : List (ℕ × ℕ)) (free from : ℕ) (row : List ℕ) (c : ℕ → List Block)
      : Type 0 where
    pub few : (k : ℕ) → length (c k) ≤ k
    pub all : (k : ℕ) → 1 ≤ k → (n : ℕ) → from ≤ n → n < from + 2 ^ free → has runs n ≡ true
        → are_held width (c k) n ≡ true
    pub adds : (k : ℕ) → 1 ≤ k
        → sizes (c k) ≡ at row k + how_many (2 ^ free) (λ n. has runs (from + n))
    pub blocks : (k : ℕ) → AllByRecursion IsBlock (c k)
    pub between : (k : ℕ) → AreBetween width from (from + 2 ^ free) (c k)

-- a tree's nodes, each after those of its halves
abbrev pub nodes_of : Tree → List Node
nodes_of (Whole network free) =
    record { network = network; free = free; is_divided = false; shares = 0 } ∷ []
nodes_of (Divided network free shares low high) = nodes_of low ++ nodes_of high
    ++ record { network = network; free = free; is_divided = true; shares = length shares } ∷ []

-- all their shares
abbrev pub shares_of : Tree → List ℕ
shares_of (Whole network free) = []
shares_of (Divided network free shares low high) = shares_of low ++ shares_of high ++ shares

-- the nodes and shares of a tree stand after others
abbrev pub HasTree : Tree → List Node → List ℕ → Marks → Type 0
HasTree t nodes others marks = (marks.nodes.items ≡ nodes ++ nodes_of t)
    × (marks.shares.items ≡ others ++ shares_of t)

-- the tree chooses blocks of any width in which the block lies
abbrev pub IsTree : List (ℕ × ℕ) → ℕ → ℕ → List ℕ → Tree → Type 0
IsTree runs free from row t = (width : ℕ) → ((q : ℕ) × (from ≡ q * 2 ^ free))
    → from + 2 ^ free ≤ 2 ^ width → AreMade width runs free from row (chosen width t)

-- no number of a block is in the runs, or else its row and its tree were found
abbrev pub IsFound : ℕ → List (ℕ × ℕ) → ℕ → ℕ → Marks → Marks → ℕ → List ℕ → Type 0
IsFound most runs free from old new room [] =
    ((n : ℕ) → n < 2 ^ free → has runs (from + n) ≡ false)
    × (new.nodes.items ≡ old.nodes.items) × (new.shares.items ≡ old.shares.items)
IsFound most runs free from old new room (v ∷ row) =
    IsRow most free (λ n. has runs (from + n)) room (v ∷ row)
    × ((t : Tree) × IsTree runs free from (v ∷ row) t
    × HasTree t old.nodes.items old.shares.items new)

-- a block was gathered, and what is left are the runs that end after it
pub record IsGathered (most : ℕ) (runs : List (ℕ × ℕ)) (free from : ℕ) (old new : Marks)
    (room : ℕ) (row : List ℕ) (left : List (ℕ × ℕ)) : Type 0 where
  pub found : IsFound most runs free from old new room row
  pub small : room < 2 ^ free
  pub ahead : AreLeft (from + 2 ^ free) left
  pub alike : (n : ℕ) → from + 2 ^ free ≤ n → has left n ≡ has runs n

-- two halves that both have numbers of the runs were joined
abbrev pub IsDivided : ℕ → ℕ → ℕ → Marks → Marks → ℕ → ℕ → ℕ → List ℕ → List ℕ → List ℕ → Type 0
IsDivided most network free old new room low_room high_room lows highs row =
    (room ≡ low_room + high_room)
    × ((shares : List ℕ) × IsJoinedSoFar room lows highs shares row
    × (length row ≡ min most (length lows + length highs))
    × (new.nodes.items ≡ old.nodes.items ++ record {
      network = network;
      free = free;
      is_divided = true;
      shares = length shares;
    } ∷ [])
    × (new.shares.items ≡ old.shares.items ++ shares))

-- likewise, but where one half has none, the block has what the other one has
abbrev pub IsJoined : ℕ → ℕ → ℕ → Marks → Marks → ℕ → ℕ → ℕ → List ℕ → List ℕ → List ℕ → Type 0
IsJoined most network free old new room low_room high_room [] highs row =
    (room ≡ high_room + 2 ^ (free - 1)) × (row ≡ highs) × (new ≡ old)
IsJoined most network free old new room low_room high_room (l ∷ lows) [] row =
    (room ≡ low_room + 2 ^ (free - 1)) × (row ≡ l ∷ lows) × (new ≡ old)
IsJoined most network free old new room low_room high_room (l ∷ lows) (h ∷ highs) row =
    IsDivided most network free old new room low_room high_room (l ∷ lows) (h ∷ highs) row

-- the last node is taken out, with its shares, and what becomes of it is found
abbrev pub IsPopped : ℕ → Marks → Marks → Taken → Type 0
IsPopped k old new taken = (nodes : List Node) (others shares : List ℕ) (network free : ℕ)
    (is_divided : Bool)
    → old.nodes.items ≡ nodes ++ record {
      network = network;
      free = free;
      is_divided = is_divided;
      shares = length shares;
    } ∷ []
    → old.shares.items ≡ others ++ shares
    → (new.nodes.items ≡ nodes) × (new.shares.items ≡ others)
    × (taken.network ≡ network) × (taken.free ≡ free) × (taken.is_divided ≡ is_divided)
    × (taken.is_own ≡ is_own shares k) × (taken.low ≡ low_of shares k)
    × (taken.high ≡ high_of shares k)

-- a tree is taken out, and the blocks that it chooses are added, the last one first
abbrev pub IsWritten : ℕ → ℕ → Marks → Marks → List Block → List Block → Type 0
IsWritten width k old new before after = (t : Tree) (nodes : List Node) (others : List ℕ)
    → HasTree t nodes others old
    → (new.nodes.items ≡ nodes) × (new.shares.items ≡ others)
    × (after ≡ before ++ reverse (chosen width t k))
