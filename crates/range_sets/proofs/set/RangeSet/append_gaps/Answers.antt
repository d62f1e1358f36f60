use Rattle.std.proofs.Common.{true, arith, rules}
use Rattle.range_algebra.specs.References.{range_of}
use Rattle.range_map.proofs.CloneLists.{clones_tied}
use Rattle.range_map.proofs.StoredLists.{stored_canonical}
use Rattle.range_sets.proofs.Complementing.{gaps_stored}
use Rattle.range_sets.proofs.Filling.{all_equal, filling_begins, clone_same, next_gap_fits, filled_more, all_copied, others_held}
use Rattle.range_sets.proofs.set.RangeSet.append_gaps.Goals as goal

pub append-requires : goal.append-requires
append-requires g c =
    record {
      form =
          let order = g.T.MaybeBounded.order in
          let lawful = g.met.T.PartialEnum.lawful in
          let items = g.C.Storage.items in
          let equal =
          clones_tied g.met.T.MaybeBounded.order_is_cmp g.met.T.Ord.matches_eq c.requires.clones in
          let gap = range_of c.in-Some.gap in
          let range = c.in_ok-range.range in
          let same = clone_same order lawful g.T.Clone.is_clone equal gap range
          c.in_ok-range.ensures in
          let form =
          gaps_stored order lawful (λ _ _. true)
          (items c.args.self.now) c.gaps-gaps.result c.in_form.ensures.stored c.gaps-gaps.ensures.gaps in
          next_gap_fits order lawful c.gaps-gaps.result c.loop-gap.gaps c.next.new.self
          (items c.loop-gap.others)
          (g.C.Storage.room c.loop-gap.others) gap range form c.loop-gap.invariant
          c.in-Some.ensures.steps c.known.ensures same;
      room =
          search rules;
    }

pub loop-gap-preserved : goal.loop-gap-preserved
loop-gap-preserved g c =
    let order = g.T.MaybeBounded.order in
    let lawful = g.met.T.PartialEnum.lawful in
    let items = g.C.Storage.items in
    let room = g.C.Storage.room in
    let equal =
    clones_tied g.met.T.MaybeBounded.order_is_cmp g.met.T.Ord.matches_eq c.requires.clones in
    let gap = range_of c.in-Some.gap in
    let range = c.in_ok-range.range in
    let same = clone_same order lawful g.T.Clone.is_clone equal gap range c.in_ok-range.ensures in
    let form =
    gaps_stored order lawful (λ _ _. true)
    (items c.args.self.now) c.gaps-gaps.result c.in_form.ensures.stored c.gaps-gaps.ensures.gaps in
    filled_more order lawful c.gaps-gaps.result c.loop-gap.gaps c.next.new.self
    (items c.loop-gap.others) (items c.append.new.map) (room c.loop-gap.others)
    (room c.append.new.map) gap range form c.loop-gap.invariant c.in-Some.ensures.steps
    c.known.ensures same c.append.ensures.list c.append.ensures.space

pub returns : goal.returns
returns g c =
    record {
      held =
          let order = g.T.MaybeBounded.order in
          let items = g.C.Storage.items in
          let zip =
          all_copied order c.gaps-gaps.result c.loop-gap.gaps (items c.loop-gap.others)
          (g.C.Storage.room c.loop-gap.others) c.loop-gap.invariant c.in_default.ensures.steps.0
          in
          others_held order g.met.T.PartialEnum.lawful (items c.args.self.now)
          (items c.loop-gap.others) c.gaps-gaps.result zip c.gaps-gaps.ensures.once;
      gaps =
          search rules;
      canonical = stored_canonical g.met.T.PartialEnum.lawful all_equal _ c.loop-gap.invariant.form;
    }

pub loop-gap-init : goal.loop-gap-init
loop-gap-init g c =
    filling_begins g.T.MaybeBounded.order c.gaps-gaps.result (g.C.Storage.items c.args.others.now)
    (g.C.Storage.room c.args.others.now) c.requires.empty
    (omega (arith, c.requires.room, c.gaps-gaps.ensures.few))
