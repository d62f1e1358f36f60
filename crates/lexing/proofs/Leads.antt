-- Leads: those of a row, one entry after the other, and what they say of characters.
use Rattle.std.proofs.Common.{◌≡◌, refl, sym, subst, ap, ◌∙◌, append_assoc, inl, inr, ℕ, zero, suc, ◌<◌, ◌≤◌, nat_eq, nat_le, Bool, true, false, cond, ◌&&◌, List, [], ◌∷◌, ◌++◌, length, take, Option, Some, None, arith}
use Rattle.std.specs.List.{slice_get, AllByRecursion, AllZip}
use Rattle.std.specs.Str.{chars, IsUtf8}
use Rattle.std.proofs.Math.Utf8.{encodes, scalars}
use Rattle.std.specs.Cmp.{ranked}
use Rattle.std.specs.declared.cmp.Ordering.TheVariants.{Less}
use Rattle.std.proofs.lemmas.Bool.{and_parts}
use Rattle.std.proofs.lemmas.Bool.Decides.{nat_tests}
use Rattle.std.proofs.lemmas.List.{append-nil, length-take-le}
use Rattle.std.proofs.lemmas.Str.{encodes-chars, scalars-chars, IsUtf8-take}
use Rattle.btree_range_map.specs.AnyRange.{AnyRange}
use Rattle.btree_range_map.specs.Bindings.{Binds, IsBound, IsCoarse}
use Rattle.btree_range_map.specs.Characters.{IsCharacter, character_order, character_counted}
use Rattle.btree_range_map.specs.Counted.{counted_lawful}
use Rattle.btree_range_map.specs.Extremes.{IsLeastOf, IsGreatestOf}
use Rattle.btree_range_map.specs.HeldKeys.{held_from_least_to_greatest, held_later_is_above}
use Rattle.btree_range_map.specs.Intervals.{Any}
use Rattle.btree_range_map.specs.Item.{Item}
use Rattle.btree_range_map.specs.Order.{Below, NotAbove}
use Rattle.btree_range_map.specs.Range.{Holds}
use Rattle.lexing.specs.declared.lexer.Lexer.{Lexer}
use Rattle.lexing.specs.declared.table.Lead.{Lead}
use Rattle.lexing.specs.declared.table.TableState.{TableState}
use Rattle.lexing.specs.Tables.{AreRising, IsFirstFor, IsTableOf, LeadsToRule, LeadsToRuleFrom, lead_at, next_from, rule_at, state_after}
use Rattle.lexing.specs.Tokens.{IsToken}

abbrev pub Entry : Type 0
Entry = Item (AnyRange ℕ) ℕ

-- the lead has the characters of the entry, and leads where that does
pub record IsLeadOf (entry : Entry) (lead : Lead) : Type 0 where
  pub first : IsLeastOf character_order entry.key lead.first
  pub last : IsGreatestOf character_order entry.key lead.last
  pub next : lead.next ≡ entry.value
  pub first_is : IsCharacter lead.first
  pub last_is : IsCharacter lead.last

-- the leads are those of the entries that are done
pub record AreLeadsSoFar (all left : List Entry) (leads : List Lead) : Type 0 where
  pub done : List Entry
  pub whole : all ≡ done ++ left
  pub zipped : AllZip IsLeadOf done leads

pub zip_more : {X Y : Type 0} (R : X → Y → Type 0) (xs : List X) (ys : List Y) (x : X) (y : Y)
    → AllZip R xs ys → R x y → AllZip R (xs ++ x ∷ []) (ys ++ y ∷ [])
zip_more R [] [] x y all one = (one, tt)
zip_more R [] (z ∷ ys) x y all one = absurd all
zip_more R (w ∷ xs) [] x y all one = absurd all
zip_more R (w ∷ xs) (z ∷ ys) x y all one = (all.0, zip_more R xs ys x y all.1 one)

not_above : (a b : ℕ) → a ≤ b → NotAbove character_order a b
not_above a b h = grind (arith, nat_tests)

is_at_most : (a b : ℕ) → NotAbove character_order a b → a ≤ b
is_at_most a b h = grind (arith, nat_tests)

is_below : (a b : ℕ) → Below character_order a b → a < b
is_below a b h = ranked a b Less (sym h)

module _ (entry : Entry) (lead : Lead) (is : IsLeadOf entry lead) where
  pub held_by_lead : (c : ℕ) → IsCharacter c → lead.first ≤ c → c ≤ lead.last
      → Holds character_order entry.key c
  held_by_lead c character low high =
      (held_from_least_to_greatest character_order (counted_lawful character_counted) entry.key
      lead.first lead.last is.first is.last c character).1
      (not_above lead.first c low, not_above c lead.last high)

  pub lead_holds : (c : ℕ) → IsCharacter c → Holds character_order entry.key c
      → (lead.first ≤ c) × (c ≤ lead.last)
  lead_holds c character holds =
      (is_at_most lead.first c (is.first.1 c character holds), is_at_most c lead.last (is.last.1 c character holds))

  binds_by : (entries : List Entry) (leads : List Lead) (c : ℕ) → IsCharacter c
      → Binds character_order nat_eq entries c (lead_at leads c) → (b : Bool)
      → (nat_le lead.first c && nat_le c lead.last) ≡ b
      → Binds character_order nat_eq (entry ∷ entries) c (cond b (Some lead.next) (lead_at leads c))
  binds_by entries leads c character later true test =
      inl (held_by_lead c character (grind (arith, nat_tests)) (grind (arith, nat_tests)), grind (arith, nat_tests, is.next))
  binds_by entries leads c character later false test = behind (lead_at leads c) later
    where
      out : ¬ Holds character_order entry.key c
      out holds = let (low, high) = lead_holds c character holds in grind (arith, nat_tests)

      behind : (found : Option ℕ) → Binds character_order nat_eq entries c found
          → Binds character_order nat_eq (entry ∷ entries) c found
      behind None none = λ bound. elim bound [ inl here ↦ out here | inr there ↦ none there ]
      behind (Some n) there = inr there

pub leads_bind : (entries : List Entry) (leads : List Lead) → AllZip IsLeadOf entries leads
    → (c : ℕ) → IsCharacter c → Binds character_order nat_eq entries c (lead_at leads c)
leads_bind [] [] all c character = λ h. h
leads_bind [] (l ∷ ls) all c character = absurd all
leads_bind (e ∷ es) [] all c character = absurd all
leads_bind (e ∷ es) (l ∷ ls) (is, all) c character =
    binds_by e l is es ls c character (leads_bind es ls all c character) _ refl

later_leads : (entries : List Entry) (leads : List Lead) → AllZip IsLeadOf entries leads
    → (a : ℕ) → ((c : ℕ) → IsCharacter c → IsBound character_order entries c → a < c)
    → AllByRecursion (λ later. a < later.first) leads
later_leads [] [] all a above = tt
later_leads [] (l ∷ ls) all a above = absurd all
later_leads (e ∷ es) [] all a above = absurd all
later_leads (e ∷ es) (l ∷ ls) (is, all) a above = (
  above l.first is.first_is (inl is.first.0),
  later_leads es ls all a (λ c character bound. above c character (inr bound)),
)

pub leads_rise : (entries : List Entry) (leads : List Lead) → AllZip IsLeadOf entries leads
    → IsCoarse character_order nat_eq entries → AreRising leads
leads_rise [] [] all coarse = tt
leads_rise [] (l ∷ ls) all coarse = absurd all
leads_rise (e ∷ es) [] all coarse = absurd all
leads_rise (e ∷ es) (l ∷ ls) (is, all) coarse = (
  (lead_holds e l is l.last is.last_is is.last.0).0,
  later_leads es ls all l.last (λ c character bound.
      is_below l.last c
      (held_later_is_above character_order (counted_lawful character_counted) nat_eq e es coarse l.last c
      is.last_is character is.last.0 bound)),
  leads_rise es ls all
      (record { keyed = coarse.keyed.1; rising = coarse.rising.1; parted = coarse.parted.1 }),
)

pub leads_none : (all left : List Entry) → left ≡ all → AreLeadsSoFar all left []
leads_none all left whole = record { done = []; whole = sym whole; zipped = tt }

pub leads_more : (all left rest : List Entry) (entry : Entry) (leads : List Lead) (lead : Lead)
    → left ≡ entry ∷ rest → IsLeadOf entry lead → AreLeadsSoFar all left leads
    → AreLeadsSoFar all rest (leads ++ lead ∷ [])
leads_more all left rest entry leads lead turn is was = record {
  done = was.done ++ entry ∷ [];
  whole = was.whole ∙ ap (λ xs. was.done ++ xs) turn ∙ sym (append_assoc was.done (entry ∷ []) rest);
  zipped = zip_more IsLeadOf was.done leads entry lead was.zipped is;
}

pub leads_all : (all left : List Entry) (leads : List Lead) → left ≡ []
    → IsCoarse character_order nat_eq all → AreLeadsSoFar all left leads
    → AreRising leads × ((c : ℕ) → IsCharacter c → Binds character_order nat_eq all c (lead_at leads c))
leads_all all left leads ended coarse was =
    let same : all ≡ was.done = was.whole ∙ ap (λ xs. was.done ++ xs) ended ∙ append-nil was.done in
    let zipped = subst (λ entries. AllZip IsLeadOf entries leads) (sym same) was.zipped in
    (leads_rise all leads zipped coarse, leads_bind all leads zipped)

-- some item of a list, by its index, and none
pub any_at : {X : Type 0} (P : X → Type 0) (xs : List X) (i : ℕ) (x : X) → slice_get xs i ≡ Some x
    → P x → Any P xs
any_at P [] i x at holds = absurd cc
any_at P (y ∷ xs) zero x at holds = let same : y ≡ x = cc in inl (subst P (sym same) holds)
any_at P (y ∷ xs) (suc i) x at holds = inr (any_at P xs i x at holds)

pub none_of_all : {X : Type 0} (P : X → Type 0) (xs : List X)
    → ((i : ℕ) (x : X) → slice_get xs i ≡ Some x → ¬ P x) → ¬ Any P xs
none_of_all P [] none any = any
none_of_all P (x ∷ xs) none (inl here) = none 0 x refl here
none_of_all P (x ∷ xs) none (inr there) = none_of_all P xs (λ i y at. none (suc i) y at) there

-- a run along a text that is not empty ends by a lead
module _ (table : List TableState) (rule : ℕ) where
  by_lead : (lead : Lead) (leads : List Lead) (c n : ℕ) → rule_at table (Some n) ≡ Some rule
      → (lead_at leads c ≡ Some n → LeadsToRuleFrom table rule leads) → (b : Bool)
      → cond b (Some lead.next) (lead_at leads c) ≡ Some n
      → LeadsToRuleFrom table rule (lead ∷ leads)
  by_lead lead leads c n is later true same = let e : lead.next ≡ n = cc in inl (rw e is)
  by_lead lead leads c n is later false same = inr (later same)

  lead_there : (leads : List Lead) (c n : ℕ) → lead_at leads c ≡ Some n
      → rule_at table (Some n) ≡ Some rule → LeadsToRuleFrom table rule leads
  lead_there [] c n at is = absurd cc
  lead_there (lead ∷ leads) c n at is =
      by_lead lead leads c n is (λ later. lead_there leads c n later is)
      (nat_le lead.first c && nat_le c lead.last) at

  leads_from : (from : Option TableState) (c n : ℕ) → next_from from c ≡ Some n
      → rule_at table (Some n) ≡ Some rule
      → (state : TableState) × (from ≡ Some state) × LeadsToRuleFrom table rule state.leads.items
  leads_from None c n at is = absurd cc
  leads_from (Some state) c n at is = (state, refl, lead_there state.leads.items c n at is)

  last_lead : (from : Option TableState) (i c : ℕ) → slice_get table i ≡ from → (next : Option ℕ)
      → next_from from c ≡ next → rule_at table (state_after table next []) ≡ Some rule
      → LeadsToRule table rule
  last_lead from i c here None at is = absurd cc
  last_lead from i c here (Some n) at is =
      let (state, same, leads) = leads_from from c n at is in
      any_at (λ state. LeadsToRuleFrom table rule state.leads.items) table i state (here ∙ same) leads

  past_lead : (d : ℕ) (more : List ℕ) (next : Option ℕ)
      → ((n : ℕ) → rule_at table (state_after table (Some n) (d ∷ more)) ≡ Some rule
      → LeadsToRule table rule)
      → rule_at table (state_after table next (d ∷ more)) ≡ Some rule → LeadsToRule table rule
  past_lead d more None later is = absurd cc
  past_lead d more (Some n) later is = later n is

  pub run_leads : (text : List ℕ) (c i : ℕ)
      → rule_at table (state_after table (Some i) (c ∷ text)) ≡ Some rule → LeadsToRule table rule
  run_leads [] c i is =
      last_lead (slice_get table i) i c refl (next_from (slice_get table i) c) refl is
  run_leads (d ∷ more) c i is =
      past_lead d more (next_from (slice_get table i) c) (λ n later. run_leads more d n later) is

all_characters : (cs : List ℕ) → scalars cs ≡ true → AllByRecursion IsCharacter cs
all_characters [] all = tt
all_characters (c ∷ cs) all =
    let (one, more) = and_parts _ _ all in (grind (arith, nat_tests), all_characters cs more)

-- a token of a rule ends in a state of it to which characters lead
pub token_leads : (lexer : Lexer) (table : List TableState) (text : List ℕ) (rule len : ℕ)
    → IsTableOf lexer table → IsUtf8 text → IsToken lexer text rule len → LeadsToRule table rule
token_leads lexer table text rule len is utf8 token =
    let front = IsUtf8-take text len utf8 token.accepted.0 in
    let characters = all_characters (chars (take len text)) (scalars-chars (take len text) front) in
    let first : IsFirstFor lexer rule (chars (take len text)) =
    (token.accepted.1, λ other by. token.first other (token.accepted.0, by)) in
    by_chars (chars (take len text)) (encodes-chars (take len text) front)
    ((is.rules (chars (take len text)) characters rule).1 first)
  where
    by_chars : (cs : List ℕ) → encodes cs ≡ take len text
        → rule_at table (state_after table (Some 0) cs) ≡ Some rule → LeadsToRule table rule
    by_chars [] none at =
        let fits = length-take-le len text token.accepted.0.0 in
        let some = token.nonempty in
        absurd (omega (arith, some, fits, ap length none))
    by_chars (c ∷ cs) same at = run_leads table rule cs c 0 at
