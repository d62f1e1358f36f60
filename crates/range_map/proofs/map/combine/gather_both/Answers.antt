use Rattle.std.proofs.Common.{◌∙◌, ap, refl, length, arith, rules, Ok, Err, Some}
use Rattle.range_map.proofs.Common.{bound_clone, MayAnswerBoth}
use Rattle.range_merge.specs.Merged.{part_item}
use Rattle.std.specs.Option.{option_map}
use Rattle.range_merge.proofs.AskedPieces.{asked_within, answered_asked, combined_asked, first_left, value_answered}
use Rattle.range_merge.proofs.Combination.{combined_none, combined_all}
use Rattle.range_merge.proofs.Combining.{unmapped}
use Rattle.range_map.proofs.CloneLists.{clones_tied}
use Rattle.range_map.proofs.map.combine.gather_both.Goals as goal

pub loop-answers-init : goal.loop-answers-init
loop-answers-init g c =
    let left = c.next_part-left.ensures.items ∙ c.iter-items.ensures.items in
    let right = c.next_part-right.ensures.items ∙ c.iter-others.ensures.items in
    record {
      clones = λ lawful.
          bound_clone g.K.MaybeBounded.order lawful g.K.Clone.is_clone
          (clones_tied g.met.K.MaybeBounded.order_is_cmp g.met.K.Ord.matches_eq c.requires.keys);
      up_to = λ lawful equal.
          rw (left, right, c.new-answers.ensures.items)
          (combined_none lawful equal (MayAnswerBoth g.F.Fn c.args.f.now) _ _ g.met.V.Eq.laws
          g.met.W.Eq.laws c.in_form.ensures.stored c.in_form-2.ensures.stored);
      first = λ e. c.next_part-left.ensures.last (unmapped part_item _ e);
      second = λ e. c.next_part-right.ensures.last (unmapped part_item _ e);
      some = λ some. absurd (omega (arith, some, ap length c.new-answers.ensures.items));
    }

pub ask_first-requires : goal.ask_first-requires
ask_first-requires g c =
    let was = c.loop-answers.invariant.up_to g.met.K.PartialEnum.lawful g.met.X.Eq.laws in
    let first =
    first_left (option_map part_item c.loop-answers.left) c.loop-answers.items was.first in
    let second =
    first_left (option_map part_item c.loop-answers.right) c.loop-answers.others was.second in
    record {
      left = first.0;
      right = second.0;
      asked = asked_within g.F.Fn c.args.f.now c.requires.asked first.1 second.1;
    }

pub returns-in_err-rests-clause-closure : goal.returns-in_err-rests-clause-closure
returns-in_err-rests-clause-closure g c e is =
    let lawful = g.met.K.PartialEnum.lawful in
    let inv = c.loop-answers.invariant in
    answered_asked (inv.clones lawful) (inv.up_to lawful g.met.X.Eq.laws) inv.first inv.second
    (Err e) (c.ask_first.ensures.closure e (search rules))

pub returns-in_err-rests-clause-memory : goal.returns-in_err-rests-clause-memory
returns-in_err-rests-clause-memory g c is =
    let lawful = g.met.K.PartialEnum.lawful in
    let inv = c.loop-answers.invariant in
    let said = c.ask_first.ensures.memory (search rules) in (
      said.0,
      answered_asked (inv.clones lawful) (inv.up_to lawful g.met.X.Eq.laws) inv.first inv.second
          (Ok (Some said.0)) said.1,
    )

pub loop-answers-smaller : goal.loop-answers-smaller
loop-answers-smaller g c =
    let lawful = g.met.K.PartialEnum.lawful in
    let inv = c.loop-answers.invariant in
    let more =
    combined_asked (inv.clones lawful) (inv.up_to lawful g.met.X.Eq.laws) inv.first inv.second _
    c.in-Some.rests (rw c.in-Some.is at c.in_ok-rests.ensures.ok) in
    rw (c.refilled-left.ensures.items, c.refilled-right.ensures.items) more.1

pub loop-answers-preserved : goal.loop-answers-preserved
loop-answers-preserved g c =
    let inv = c.loop-answers.invariant in
    let asked = rw c.in-Some.is at c.in_ok-rests.ensures.ok in
    record {
      clones = inv.clones;
      up_to = λ lawful equal.
          let more =
          combined_asked (inv.clones lawful) (inv.up_to lawful equal) inv.first inv.second _
          c.in-Some.rests asked in
          rw (c.refilled-left.ensures.items, c.refilled-right.ensures.items) more.0;
      first = λ e. c.refilled-left.ensures.last (unmapped part_item _ e);
      second = λ e. c.refilled-right.ensures.last (unmapped part_item _ e);
      some = λ some.
          let lawful = g.met.K.PartialEnum.lawful in
          value_answered (inv.clones lawful) (inv.up_to lawful g.met.X.Eq.laws) inv.first
          inv.second _ c.in-Some.rests asked inv.some some;
    }

pub returns : goal.returns
returns g c =
    let inv = c.loop-answers.invariant in
    let none = rw c.in_default.is at c.in_ok-rests.ensures.ok in
    let all =
    combined_all g.met.K.PartialEnum.lawful g.met.X.Eq.laws (MayAnswerBoth g.F.Fn c.args.f.now) _ _
    (inv.up_to g.met.K.PartialEnum.lawful g.met.X.Eq.laws)
    (rw (none.0, inv.first (ap (option_map part_item) none.0)) refl)
    (rw (none.1, inv.second (ap (option_map part_item) none.1)) refl) in
    record {
      closure = search rules;
      some = rw none.2 inv.some;
      memory = λ failed. absurd (cc);
      form = rw none.2 all.0;
      combined = rw none.2 all.1;
    }
