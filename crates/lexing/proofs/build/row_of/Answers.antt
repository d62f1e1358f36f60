use Rattle.std.proofs.Common.{◌≡◌, refl, length, arith}
use Rattle.std.proofs.lemmas.Option.{slice_get_read}
use Rattle.std.proofs.lemmas.Result.{err_from_is_err_and}
use Rattle.btree_range_map.specs.Characters.{character_counted}
use Rattle.btree_range_map.specs.Counted.{counted_complete}
use Rattle.lexing.specs.Lexers.{rules_in}
use Rattle.lexing.specs.Budgets.{IsReached}
use Rattle.lexing.proofs.Rows.{Entry, row_none, row_more, row_all, next_reached}
use Rattle.lexing.proofs.build.row_of.Goals as goal
use Rattle.lexing.proofs.build.row_of.Goals.{In-Some}

-- texts lead to the states that come next
reached : (c : In-Some)
    → IsReached (rules_in c.args.lexer.now) c.in-Some.targets.now
reached c =
    let rules = rules_in c.args.lexer.now in
    let sets = c.args.sets.now.listed.items in
    let set = c.index.result.now in
    let all = c.iter-entries.result in
    let form = c.iter-entries.ensures.canonical.stored in
    let entry : Entry = record { key = c.in-Some.range.now; value = c.in-Some.targets.now } in
    let coarse =
    c.stored_lists_are_coarse.ensures.coarse (counted_complete character_counted) all form in
    let stands =
    slice_get_read sets (length sets) c.args.at set refl (omega arith)
    c.index.ensures in
    next_reached rules set c.in_ok-leads.leads all c.iter-entries.ensures.items
    c.in_ok-leads.ensures.leads (c.stored_sets_have_all_values.ensures all form)
    c.loop-range.sets.listed.items c.loop-range.row c.loop-range.entries c.loop-range.invariant.row entry
    c.next.new.self c.in-Some.ensures.steps coarse.keyed
    (c.requires.met.reached c.args.at set stands)

pub loop-range-init : goal.loop-range-init
loop-range-init c = grind (arith, row_none)

pub loop-range-preserved : goal.loop-range-preserved
loop-range-preserved c =
    let entry : Entry = record { key = c.in-Some.range.now; value = c.in-Some.targets.now } in
    let found = (goal.at.loop-range-preserved c).In-Some in
    record {
      kept = λ i x h. c.index_of.ensures.kept i x (c.loop-range.invariant.kept i x h);
      longer = omega (arith, c.index_of.ensures.longer, c.loop-range.invariant.longer);
      few = c.index_of.ensures.few;
      met = c.in_ok-next.ensures.met (rules_in c.args.lexer.now) c.loop-range.invariant.met
          (reached found);
      found = c.in_ok-next.ensures.found;
      row = row_more c.loop-range.sets.listed.items c.index_of.new.sets.listed.items c.index_of.ensures.kept
          c.iter-entries.result c.loop-range.row c.insert.new.self entry c.next.new.self
          c.loop-range.entries c.in-Some.ensures.steps c.in_ok-next.next c.in_ok-next.ensures.index
          c.in_ok-insert.ensures.bound c.loop-range.invariant.row;
    }

pub returns-in_err-next-clause-kept : goal.returns-in_err-next-clause-kept
returns-in_err-next-clause-kept c =
    λ i x h. c.index_of.ensures.kept i x (c.loop-range.invariant.kept i x h)

pub returns-in_err-next-clause-refused : goal.returns-in_err-next-clause-refused
returns-in_err-next-clause-refused c =
    grind (arith, err_from_is_err_and, reached)

pub returns-in_err-insert-clause-kept : goal.returns-in_err-insert-clause-kept
returns-in_err-insert-clause-kept c =
    λ i x h. c.index_of.ensures.kept i x (c.loop-range.invariant.kept i x h)

pub returns-clause-row : goal.returns-clause-row
returns-clause-row c =
    let rules = rules_in c.args.lexer.now in
    let sets = c.args.sets.now.listed.items in
    let first = c.index.result.now in
    let all = c.iter-entries.result in
    let stood =
    slice_get_read sets (length sets) c.args.at first refl (omega arith) c.index.ensures in
    λ set stands.
    let same : first ≡ set = cc in
    rw (← same)
    (row_all rules first c.in_ok-leads.leads all c.iter-entries.ensures.items
    c.in_ok-leads.ensures.leads
    (c.stored_sets_have_all_values.ensures all c.iter-entries.ensures.canonical.stored)
    c.loop-range.sets.listed.items c.loop-range.row c.loop-range.entries c.loop-range.invariant.row
    c.in_default.ensures.steps.0)
