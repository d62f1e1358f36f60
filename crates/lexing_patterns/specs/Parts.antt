-- What a part of an automaton accepts.
use Rattle.std.specs.Prelude.{◌≡◌, ℕ, ◌≤◌, ◌<◌, List, [], ◌∷◌, IsTrue}
use Rattle.lexing_classes.specs.Leads.{AnyOf, LeadsBy, Leads}
use Rattle.lexing_patterns.specs.declared.part.Edge.{Edge}
use Rattle.lexing_patterns.specs.declared.part.Part.{Part}

-- the character leads from state p to state q
abbrev pub HasEdge : List Edge → ℕ → ℕ → ℕ → Type 0
HasEdge edges p c q = AnyOf (λ edge. (p ≡ edge.from) × LeadsBy c q edge.lead) edges

abbrev pub IsAmong : ℕ → List ℕ → Type 0
IsAmong q states = AnyOf (λ state. q ≡ state) states

-- steps lead along the characters from state p to state q
abbrev pub Path : (ℕ → ℕ → ℕ → Type 0) → ℕ → List ℕ → ℕ → Type 0
Path Step p [] q = p ≡ q
Path Step p (c ∷ w) q = (s : ℕ) × Step p c s × Path Step s w q

-- a first character leads in, and a path from there to an end
abbrev pub ReadsBy : (ℕ → ℕ → Type 0) → (ℕ → ℕ → ℕ → Type 0) → (ℕ → Type 0) → Type 0
    → List ℕ → Type 0
ReadsBy In Step Ends Empty [] = Empty
ReadsBy In Step Ends Empty (c ∷ w) =
    (s : ℕ) × (t : ℕ) × In c s × Path Step s w t × Ends t

-- the part accepts the text
abbrev pub Reads : Part → List ℕ → Type 0
Reads part = ReadsBy (Leads part.leads.items) (HasEdge part.edges.items)
    (λ q. IsAmong q part.ends.items) (IsTrue part.empty)

abbrev pub LiesWithin : ℕ → ℕ → ℕ → Type 0
LiesWithin low high q = (low ≤ q) × (q < high)

-- its states are those from low up to high
pub record IsWithin (part : Part) (low high : ℕ) : Type 0 where
  pub leads : (c q : ℕ) → Leads part.leads.items c q → LiesWithin low high q
  pub ends : (q : ℕ) → IsAmong q part.ends.items → LiesWithin low high q
  pub edges : (p c q : ℕ) → HasEdge part.edges.items p c q
      → LiesWithin low high p × LiesWithin low high q
