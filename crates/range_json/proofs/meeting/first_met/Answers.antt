use Rattle.std.proofs.Common.{◌≡◌, sym, ap, ◌∙◌, ◌+◌, ◌<◌, ◌++◌, ◌∷◌, [], take, drop, length, map, arith}
use Rattle.std.proofs.Math.Seq.{take-length}
use Rattle.std.proofs.lemmas.Bool.{false≢true}
use Rattle.std.proofs.lemmas.List.{map-append, take_more, length-take-le, take-append-drop}
use Rattle.serde_json.specs.View.{view}
use Rattle.range_algebra.proofs.Lists.{every_more}
use Rattle.range_json.specs.MapFaults.{MeetNonempty}
use Rattle.range_json.specs.Meetings.{NeverMeet}
use Rattle.range_json.proofs.FoundMeetings.{all_midst, none_met}
use Rattle.range_json.proofs.Meetings.{always_meet, never_meet}
use Rattle.range_json.proofs.Reading.{append_one_more, same_length}
use Rattle.range_json.proofs.meeting.first_met.Goals as goal

pub loop-index-init : goal.loop-index-init
loop-index-init g c one = tt

pub loop-index-preserved : goal.loop-index-preserved
loop-index-preserved g c one =
    let order = g.K.MaybeBounded.order in
    let is_read = g.K.Json.is_read in
    let vs = c.args.earlier.now in
    let n = c.loop-index.index in
    let v = c.index-earlier-index.result in
    let d = view c.args.element.now in
    let within : n < length vs =
    omega (arith, c.loop-index-test.true, c.loop-index.auto.index-end) in
    let more : take (n + 1) vs ≡ take n vs ++ v ∷ [] =
    take_more vs n v within
    ∙ ap (λ w. take n vs ++ w ∷ []) (sym c.index-earlier-index.is) in
    let r = c.in_ok-range_again.field-0 in
    let s = c.in_ok-range.range in
    let apart : ¬ MeetNonempty order r s = λ met. let is =
    c.meet.ensures.1 met in let no = c.if-meet.false in absurd cc in
    rw more (rw (map-append view (take n vs) (v ∷ []))
    (every_more (λ e. NeverMeet order is_read e d) (map view (take n vs)) (view v)
    (c.loop-index.invariant one) (never_meet order is_read g.met.K.PartialEnum.lawful one (view v) d
    r s c.in_ok-range_again.ensures.read c.in_ok-range.ensures.read apart)))

pub returns-then-meet-clause-first : goal.returns-then-meet-clause-first
returns-then-meet-clause-first g c one =
    let order = g.K.MaybeBounded.order in
    let is_read = g.K.Json.is_read in
    let vs = c.args.earlier.now in
    let n = c.loop-index.index in
    let v = c.index-earlier-index.result in
    let d = view c.args.element.now in
    let within : n < length vs =
    omega (arith, c.loop-index-test.true, c.loop-index.auto.index-end) in
    let more : take (n + 1) vs ≡ take n vs ++ v ∷ [] =
    take_more vs n v within
    ∙ ap (λ w. take n vs ++ w ∷ []) (sym c.index-earlier-index.is) in
    let rest = drop (n + 1) vs in
    let all : take n vs ++ v ∷ rest ≡ vs =
    sym (append_one_more (take n vs) v rest) ∙ ap (λ l. l ++ rest) (sym more)
    ∙ take-append-drop (n + 1) vs in
    let r = c.in_ok-range_again.field-0 in
    let s = c.in_ok-range.range in
    record {
      front = map view (take n vs);
      e = view v;
      rest = map view rest;
      split = sym (ap (map view) all) ∙ map-append view (take n vs) (v ∷ rest);
      place = same_length view (take n vs) ∙ length-take-le n vs (omega (arith, within));
      none = c.loop-index.invariant one;
      met = always_meet order is_read g.met.K.PartialEnum.lawful one (view v) d r s
          c.in_ok-range_again.ensures.read c.in_ok-range.ensures.read
          (c.meet.ensures.0 c.if-meet.true);
    }

pub returns-clause-found : goal.returns-clause-found
returns-clause-found g c in_place one sound own met =
    let vs = c.args.earlier.now in
    let n = c.loop-index.index in
    let full : n ≡ length vs =
    omega (arith, c.loop-index-test.false, c.loop-index.auto.index-end) in
    let all : take n vs ≡ vs = ap (λ i. take i vs) full ∙ take-length vs in
    absurd (none_met g.K.MaybeBounded.order g.K.Json.is_read (map view vs)
    (view c.args.element.now) (rw all at (c.loop-index.invariant one)) met)

pub returns-in_err-range_again-clause-found : goal.returns-in_err-range_again-clause-found
returns-in_err-range_again-clause-found g c in_place one sound own met =
    let vs = c.args.earlier.now in
    let n = c.loop-index.index in
    let v = c.index-earlier-index.result in
    let within : n < length vs =
    omega (arith, c.loop-index-test.true, c.loop-index.auto.index-end) in
    let more : take (n + 1) vs ≡ take n vs ++ v ∷ [] =
    take_more vs n v within
    ∙ ap (λ w. take n vs ++ w ∷ []) (sym c.index-earlier-index.is) in
    let rest = drop (n + 1) vs in
    let all : take n vs ++ v ∷ rest ≡ vs =
    sym (append_one_more (take n vs) v rest) ∙ ap (λ l. l ++ rest) (sym more)
    ∙ take-append-drop (n + 1) vs in
    let split : map view vs ≡ map view (take n vs) ++ view v ∷ map view rest =
    sym (ap (map view) all) ∙ map-append view (take n vs) (v ∷ rest) in
    absurd (grind (arith, all_midst, false≢true))
