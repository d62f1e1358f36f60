use Rattle.std.proofs.Common.{◌≡◌, sym, ap, subst, ◌∙◌, ◌+◌, ◌<◌, ◌++◌, ◌∷◌, [], take, drop, length, map, arith}
use Rattle.std.proofs.lemmas.List.{map-append, take_more, length-take-le, take-append-drop}
use Rattle.serde_json.specs.View.{view}
use Rattle.range_json.specs.MapFaults.{HasOneReading}
use Rattle.std.specs.List.{AllByRecursion}
use Rattle.range_algebra.specs.Intervals.{Any}
use Rattle.range_json.specs.Meetings.{HasSoundRange, IsFirstMeeting, IsFirstMetBy, MayMeet}
use Rattle.range_json.proofs.FoundMeetings.{same_elements, same_parts}
use Rattle.range_json.proofs.Meetings.{some_too}
use Rattle.range_json.proofs.Reading.{append_one_more, same_length}
use Rattle.range_json.proofs.meeting.met_earlier.Goals as goal

pub returns-clause-first : goal.returns-clause-first
returns-clause-first g c =
    let order = g.K.MaybeBounded.order in
    let is_read = g.K.Json.is_read in
    let vs = c.in-Ok.elements.now in
    let n = c.args.index in
    let v = c.index-elements-index.result in
    let within : n < length vs = omega (arith, c.if-index-elements.false) in
    let more : take (n + 1) vs ≡ take n vs ++ v ∷ [] =
    take_more vs n v within
    ∙ ap (λ w. take n vs ++ w ∷ []) (sym c.index-elements-index.is) in
    let rest = drop (n + 1) vs in
    let all : take n vs ++ v ∷ rest ≡ vs =
    sym (append_one_more (take n vs) v rest) ∙ ap (λ l. l ++ rest) (sym more)
    ∙ take-append-drop (n + 1) vs in
    some_too (λ j. HasOneReading order is_read
    → IsFirstMeeting order is_read (map view (take n vs)) (view v) j)
    (λ j. HasOneReading order is_read → IsFirstMetBy order is_read (view c.args.whole.now) n j)
    c.first_met.result (grind (arith, length-take-le, map-append, same_length))
    c.first_met.ensures.first

pub returns-clause-found : goal.returns-clause-found
returns-clause-found g c in_place one met =
    let order = g.K.MaybeBounded.order in
    let is_read = g.K.Json.is_read in
    let vs = c.in-Ok.elements.now in
    let n = c.args.index in
    let v = c.index-elements-index.result in
    let within : n < length vs = omega (arith, c.if-index-elements.false) in
    let more : take (n + 1) vs ≡ take n vs ++ v ∷ [] =
    take_more vs n v within
    ∙ ap (λ w. take n vs ++ w ∷ []) (sym c.index-elements-index.is) in
    let rest = drop (n + 1) vs in
    let all : take n vs ++ v ∷ rest ≡ vs =
    sym (append_one_more (take n vs) v rest) ∙ ap (λ l. l ++ rest) (sym more)
    ∙ take-append-drop (n + 1) vs in
    let split : map view vs ≡ map view (take n vs) ++ view v ∷ map view rest =
    sym (ap (map view) all) ∙ map-append view (take n vs) (v ∷ rest) in
    let size : length (map view (take n vs)) ≡ n =
    same_length view (take n vs) ∙ length-take-le n vs (omega (arith, within)) in
    let same =
    same_parts (map view (take n vs)) met.front (view v) met.d (map view rest) met.rest
    (sym split ∙ same_elements _ _ _ c.in-Ok.ensures.found met.elements)
    (size ∙ sym met.place) in
    c.first_met.ensures.found in_place one
    (subst (AllByRecursion (HasSoundRange g.K.Json.reads)) (sym same.0) met.sound)
    (subst (HasSoundRange g.K.Json.reads) (sym same.1) met.own)
    (subst (λ e. Any (λ f. MayMeet order is_read f e) (map view (take n vs))) (sym same.1)
    (subst (Any (λ f. MayMeet order is_read f met.d)) (sym same.0) met.meet))
