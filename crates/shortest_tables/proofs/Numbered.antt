-- A table by networks and lengths says of numbers what a table of prefixes says of their bits.
use Rattle.std.proofs.Common.{◌≡◌, ℕ, zero, suc, ◌+◌, ◌-◌, ◌≤◌, ◌<◌, ◌^◌, Bool, true, false, if◌then◌else◌, nat_le, List, [], ◌∷◌, ◌++◌, length, take, take_all, Option, Some, None, Decides, inl, inr, refl, ap, sym, ◌∙◌, arith}
use Rattle.std.specs.List.{AllByRecursion}
use Rattle.std.proofs.lemmas.Bool.{cases_lt}
use Rattle.std.proofs.lemmas.Bool.Decides.{nat_tests}
use Rattle.shortest_tables.specs.Tables.{Bits, Table, route}
use Rattle.shortest_tables.specs.Labels.{Labels, Unbound, Among, behind, choose, entry, half, has, labels, table, table_below}
use Rattle.shortest_tables.specs.Numbers.{bits, block, number, value_at}
use Rattle.shortest_tables.specs.Entries.{AreFewest, RoutesAs, entries, placed}
use Rattle.shortest_tables.specs.declared.spans.Span.{Span}
use Rattle.shortest_tables.specs.declared.entries.Entry.{Entry}
use Rattle.shortest_tables.proofs.Blocks.{number_high}
use Rattle.shortest_tables.proofs.Theorem.{is_shortest, is_table}

number_add : (k from : ℕ) (p : Bits) → number k from p ≡ from + number k 0 p
number_add zero from p = omega arith
number_add (suc k) from [] = omega arith
number_add (suc k) from (true ∷ p) =
    let h = number_add k (from + 2 ^ k) p in let j = number_add k (0 + 2 ^ k) p in omega arith
number_add (suc k) from (false ∷ p) = number_add k from p

at_least : (k n m : ℕ) → n ≡ 2 ^ k + m → nat_le (2 ^ k) n ≡ true
at_least k n m e = grind (arith, nat_tests)

less : (k n : ℕ) → n < 2 ^ k → nat_le (2 ^ k) n ≡ false
less k n h = grind (arith, nat_tests)

bits_high : (k n m : ℕ) → n ≡ 2 ^ k + m → bits (suc k) n ≡ true ∷ bits k m
bits_high k n m e =
    let t = at_least k n m e in let s : n - 2 ^ k ≡ m = omega arith in rw (t, s) refl

bits_low : (k n : ℕ) → n < 2 ^ k → bits (suc k) n ≡ false ∷ bits k n
bits_low k n h = let t = less k n h in rw t refl

take_bits : (k : ℕ) (p : Bits) → length p ≤ k → take (length p) (bits k (number k 0 p)) ≡ p
take_bits k [] h = refl
take_bits zero (b ∷ p) h = absurd (omega arith)
take_bits (suc k) (true ∷ p) h =
    let a = number_add k (0 + 2 ^ k) p in
    let e : number k (0 + 2 ^ k) p ≡ 2 ^ k + number k 0 p = omega arith in
    let fewer : length p ≤ k = omega arith in
    ap (λ x. take (suc (length p)) x) (bits_high k (number k (0 + 2 ^ k) p) (number k 0 p) e)
    ∙ ap (λ x. true ∷ x) (take_bits k p fewer)
take_bits (suc k) (false ∷ p) h =
    let a = number_high k 0 p in
    let low : number k 0 p < 2 ^ k = omega arith in
    let fewer : length p ≤ k = omega arith in
    ap (λ x. take (suc (length p)) x) (bits_low k (number k 0 p) low)
    ∙ ap (λ x. false ∷ x) (take_bits k p fewer)

length_bits : (k n : ℕ) → length (bits k n) ≡ k
length_bits zero n = refl
length_bits (suc k) n = ap (λ l. suc l) (length_bits k (if nat_le (2 ^ k) n then n - 2 ^ k else n))

number_bits : (k n : ℕ) → n < 2 ^ k → number k 0 (bits k n) ≡ n
number_bits zero n h = omega arith
number_bits (suc k) n h = elim (cases_lt n (2 ^ k)) [
  | inl low ↦ ap (λ a. number (suc k) 0 a) (bits_low k n low) ∙ number_bits k n low
  | inr high ↦
      let m : ℕ = n - 2 ^ k in
      let e : n ≡ 2 ^ k + m = omega (arith, high) in
      let fits : m < 2 ^ k = omega (arith, high) in
      let again = number_bits k m fits in
      let sum : (0 + 2 ^ k) + number k 0 (bits k m) ≡ n = rw again (omega (arith, high)) in
      ap (λ a. number (suc k) 0 a) (bits_high k n m e) ∙ number_add k (0 + 2 ^ k) (bits k m) ∙ sum
]

bits_number : (k : ℕ) (a : Bits) → length a ≡ k → bits k (number k 0 a) ≡ a
bits_number k a e =
    let all : take (length a) (bits k (number k 0 a)) ≡ bits k (number k 0 a) =
    take_all (length a) (bits k (number k 0 a)) (let l = length_bits k (number k 0 a) in omega arith) in
    sym all ∙ take_bits k a (omega arith)

module _ {V : Type 0} where
  abbrev pub AreShort : ℕ → Table V → Type 0
  AreShort width t = AllByRecursion (λ e. length e.0 ≤ width) t

  short_append : (width : ℕ) (t s : Table V) → AreShort width t → AreShort width s
      → AreShort width (t ++ s)
  short_append width [] s h k = k
  short_append width (e ∷ t) s h k = (h.0, short_append width t s h.1 k)

  short_behind : (b : Bool) (width : ℕ) (t : Table V) → AreShort width t
      → AreShort (suc width) (behind b t)
  short_behind b width [] h = tt
  short_behind b width (e ∷ t) h =
      ((let first = h.0 in omega (arith, first)), short_behind b width t h.1)

  entries_placed : (width : ℕ) (t : Table V) → AreShort width t
      → entries width (placed width width 0 t) ≡ t
  entries_placed width [] h = refl
  entries_placed width (e ∷ t) h =
      let z : (width - width) + length e.0 ≡ length e.0 = omega arith in
      let is : take ((width - width) + length e.0) (bits width (number width 0 e.0)) ≡ e.0 =
      ap (λ n. take n (bits width (number width 0 e.0))) z ∙ take_bits width e.0 h.0 in
      let rest : Table V = entries width (placed width width 0 t) in
      let with_prefix : Bits → Table V = λ p. (p, e.1) ∷ rest in
      ap with_prefix is ∙ ap (λ x. e ∷ x) (entries_placed width t h.1)

  length_placed : (width free from : ℕ) (t : Table V)
      → length (placed width free from t) ≡ length t
  length_placed width free from [] = refl
  length_placed width free from (e ∷ t) = ap (λ n. suc n) (length_placed width free from t)

  length_entries : (width : ℕ) (es : List (Entry V)) → length (entries width es) ≡ length es
  length_entries width [] = refl
  length_entries width (e ∷ es) = ap (λ n. suc n) (length_entries width es)

module _ {V : Type 0} (eq : V → V → Bool) where
  short_entry : (width : ℕ) (ls : Labels V) (above : Option V) → AreShort width (entry eq ls above)
  short_entry width Unbound above = tt
  short_entry width (Among v vs) None = (omega arith, tt)
  short_entry width (Among v vs) (Some u) =
      elim (has eq u (v ∷ vs)) as (λ h. AreShort width (if h then [] else ([], v) ∷ []))
      [ true ↦ tt | false ↦ (omega arith, tt) ]

  pub short_table : (width : ℕ) (f : Bits → Option V) (above : Option V)
      → AreShort width (table_below eq width f above)
  short_table zero f above = short_entry zero (labels eq zero f) above
  short_table (suc width) f above =
      let label : Option V = choose eq (labels eq (suc width) f) above in
      let low : Table V = table_below eq width (half false f) label in
      let high : Table V = table_below eq width (half true f) label in
      short_append (suc width) (entry eq (labels eq (suc width) f) above)
      (behind false low ++ behind true high) (short_entry (suc width) (labels eq (suc width) f) above)
      (short_append (suc width) (behind false low) (behind true high)
      (short_behind false width low (short_table width (half false f) label))
      (short_behind true width high (short_table width (half true f) label)))

  module _ (eq_is : (a b : V) → Decides (eq a b) (a ≡ b)) (otherwise : Option V)
      (spans : List (Span V)) (width : ℕ) where
    abbrev pub Made : List (Entry V)
    Made = placed width width 0 (table eq width (block otherwise spans width 0))

    pub routes_as : RoutesAs width (value_at otherwise spans) Made
    routes_as n small =
        ap (λ t. route t (bits width n)) (entries_placed width (table eq width (block otherwise spans width 0))
        (short_table width (block otherwise spans width 0) None))
        ∙ is_table eq eq_is width (block otherwise spans width 0) (bits width n) (length_bits width n)
        ∙ ap (λ m. value_at otherwise spans m) (number_bits width n small)

    pub are_fewest : AreFewest width (value_at otherwise spans) Made
    are_fewest others routes =
        let fewest = is_shortest eq eq_is width (block otherwise spans width 0) (entries width others)
        (λ a e.
        let high = number_high width 0 a in
        let small : number width 0 a < 2 ^ width = omega arith in
        ap (λ x. route (entries width others) x) (sym (bits_number width a e))
        ∙ routes (number width 0 a) small) in
        let made = length_placed width width 0 (table eq width (block otherwise spans width 0)) in
        let same = length_entries width others in omega arith
