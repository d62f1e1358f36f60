-- A state whose transitions are replaced: which rules there are then.
use Rattle.std.proofs.Common.{◌≡◌, ◌↔◌, ◌⊎◌, ℕ, cond, Option, Some, Result, OnErr, arith, nat_eq}
use Rattle.std.proofs.lemmas.Bool.Decides.{nat_tests}
use Rattle.std.proofs.lemmas.Result.{on_err_weaker}
use Rattle.std.specs.Ordering.{nat_cmp}
use Rattle.std.specs.BTreeMap as map
use Rattle.std.specs.BTreeMap.{is_at}
use Rattle.btree_range_map.specs.AnyRange.{AnyRange}
use Rattle.btree_range_map.specs.Characters.{character_order}
use Rattle.btree_range_map.specs.Pairs.{AddsPairs}
use Rattle.charmoves.specs.declared.rules.Rules.{Rules}
use Rattle.charmoves.specs.Automata.{Transitions, Leads, HasRule, HasRuleAlso, KeepsRules}

pub on_err : {T E P Q : Type 0} (r : Result T E) → OnErr r P → (P → Q) → OnErr r Q
on_err r kept more = on_err_weaker r more kept

module _ (before after : Rules) (from : ℕ) (new : Transitions)
    (updates : (p : ℕ) → map.get nat_cmp after.transitions p
    ≡ cond (is_at (nat_cmp from) p) (Some new) (map.get nat_cmp before.transitions p)) where
  -- the rules stay where those from the state do
  pub rules_kept : ((c q : ℕ) → Leads (Some new) c q ↔ HasRule before from c q)
      → KeepsRules before after
  rules_kept same p c q = grind (arith, nat_tests, updates p, same c q)

  -- a rule for what leads from the state, where its transitions have the pairs also
  pub rule_added : (r : AnyRange ℕ) (to : ℕ)
      → AddsPairs character_order nat_eq (HasRule before from) (Leads (Some new)) r to
      → HasRuleAlso before after from r to
  rule_added r to pairs p c q key = grind (arith, nat_tests, updates p, pairs c key q)

-- what the transitions that are found at a state lead to, beside others
pub leads_also : {Before After : Type 0} (found : Option Transitions) (more : Transitions) (c q : ℕ)
    → found ≡ Some more → (After ↔ (Before ⊎ Leads (Some more) c q))
    → After ↔ (Before ⊎ Leads found c q)
leads_also found more c q is pairs = rw is pairs
