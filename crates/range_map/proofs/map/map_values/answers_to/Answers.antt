use Rattle.std.proofs.lemmas.Bool.{cases_lt}
use Rattle.range_map.proofs.Common.{◌≡◌, sym, ap, arith, common_steps, inl, inr, length, [], rules, false≢true, error_has_no_value, lower, full_range}
use Rattle.range_merge.specs.Merged.{part_item}
use Rattle.range_map.proofs.ClosureAnswers.{memory_is_no_closure}
use Rattle.range_bulk.proofs.JoinedItems.{built_none, stored_rises}
use Rattle.range_map.proofs.MappedValues.{all_answered, first_left, mapped_more, next_answered}
use Rattle.range_map.proofs.CloneLists.{clones_tied}
use Rattle.range_map.proofs.map.map_values.answers_to.Goals as goal

pub loop-part-init : goal.loop-part-init
loop-part-init g c =
    let order = g.K.MaybeBounded.order in
    record {
      mapped = record {
        done = [];
        answers = [];
        place = lower order full_range;
        parted = c.iter-items.ensures.items;
        given = tt;
        form =
            rw c.new-answers.ensures.items
            (built_none order g.W.PartialEq.eq (lower order full_range));
        rises =
            rw c.iter-items.ensures.items (stored_rises g.met.K.PartialEnum.lawful g.met.V.Eq.laws _
            c.in_form.ensures.stored);
      };
      some = λ some. absurd (omega (arith, some, ap length c.new-answers.ensures.items));
    }

pub answered-requires : goal.answered-requires
answered-requires g c = λ shown is.
    let was = c.loop-part.invariant.mapped in
    c.requires.asked shown (first_left (λ i. i.value ≡ shown.now) was.done c.next_part.new.items _
    (part_item c.in-Some.part) (rw (← c.in-Some.ensures.items) at was.parted) (sym is))

pub loop-part-preserved : goal.loop-part-preserved
loop-part-preserved g c =
    let order = g.K.MaybeBounded.order in
    let equal_keys =
    clones_tied g.met.K.MaybeBounded.order_is_cmp g.met.K.Ord.matches_eq c.requires.keys in
    record {
      mapped =
          rw c.in_ok-push.ensures (mapped_more order g.F.Fn
          c.args.f.now g.W.PartialEq.eq _ g.met.K.PartialEnum.lawful g.met.W.Eq.laws (part_item c.in-Some.part)
          c.next_part.new.items c.loop-part.answers.items c.in_ok-item.item
          g.K.Clone.is_clone equal_keys c.in_ok-item.ensures.range
          c.in_ok-item.ensures.known c.in_ok-item.ensures.value
          (rw (← c.in-Some.ensures.items) at c.loop-part.invariant.mapped));
      some = λ _. (
        c.in_ok-item.item.value,
        next_answered order g.F.Fn c.args.f.now g.W.PartialEq.eq _
            (rw (← c.in-Some.ensures.items) at c.loop-part.invariant.mapped)
            c.in_ok-item.ensures.value,
      );
    }

pub returns-clause-answers : goal.returns-clause-answers
returns-clause-answers g c =
    let none : c.loop-part.items ≡ [] = grind (arith, common_steps) in
    rw c.in_ok-map_of.ensures.items (all_answered g.K.MaybeBounded.order g.F.Fn c.args.f.now
    g.W.PartialEq.eq _ none c.loop-part.invariant.mapped)

pub returns-in_err-item : goal.returns-in_err-item
returns-in_err-item g c =
    let left = c.from_residual in
    let was = rw (← c.in-Some.ensures.items) at c.loop-part.invariant.mapped in
    record {
      answers = error_has_no_value _ left.result left.ensures.0;
      canonical = error_has_no_value _ left.result left.ensures.0;
      closure = λ e failed.
          next_answered g.K.MaybeBounded.order g.F.Fn c.args.f.now g.W.PartialEq.eq _ was
          (c.answered.ensures.closure e (search rules));
      memory = λ failed.
          let said = c.answered.ensures.memory (search rules) in (
            said.0,
            next_answered g.K.MaybeBounded.order g.F.Fn c.args.f.now g.W.PartialEq.eq _ was said.1,
          );
    }

pub returns-in_err-push : goal.returns-in_err-push
returns-in_err-push g c =
    let left = c.from_residual-in_err-push in
    record {
      answers = error_has_no_value _ left.result left.ensures.0;
      canonical = error_has_no_value _ left.result left.ensures.0;
      closure = λ e failed. absurd (memory_is_no_closure left.result e left.ensures.1 failed);
      memory = λ failed. (
        c.in_ok-item.item.value,
        next_answered g.K.MaybeBounded.order g.F.Fn c.args.f.now g.W.PartialEq.eq _
            (rw (← c.in-Some.ensures.items) at c.loop-part.invariant.mapped)
            c.in_ok-item.ensures.value,
      );
    }

pub returns-in_err-map_of : goal.returns-in_err-map_of
returns-in_err-map_of g c =
    let left = c.from_residual-in_err-map_of in
    record {
      answers = error_has_no_value _ left.result left.ensures.0;
      canonical = error_has_no_value _ left.result left.ensures.0;
      closure = λ e failed. absurd (memory_is_no_closure left.result e left.ensures.1 failed);
      memory = λ failed.
          elim (cases_lt 0 (length c.loop-part.answers.items)) [
            | inl some ↦ c.loop-part.invariant.some some
            | inr none ↦
                absurd (false≢true (c.in_err-map_of.ensures.none_needed (omega (arith, none))))
          ];
    }
