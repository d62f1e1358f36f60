use Rattle.std.proofs.Common.{◌≡◌, sym, ap, subst, ◌∙◌, ◌+◌, ◌<◌, ◌++◌, ◌∷◌, [], take, drop, length, map, false, rules, arith}
use Rattle.std.proofs.lemmas.List.{take_more, take-append-drop}
use Rattle.std.specs.List.{list_all}
use Rattle.range_json.specs.ValueSets.{reads_all}
use Rattle.range_json.proofs.Reading.{append_one_more}
use Rattle.range_json.proofs.ValueSets.{values_more, values_fail}
use Rattle.range_json.proofs.value_set.BTreeSetJson.from_json.Goals as goal

pub returns-in_err-from_json-clause-refused : goal.returns-in_err-from_json-clause-refused
returns-in_err-from_json-clause-refused g c h =
    let vs = c.in-Ok.elements.now in
    let n = c.loop-element.element-index in
    let v = c.element-item.result in
    let reads = g.V.Json.reads in
    let content = g.J.JsonTree.content in
    let within : n < length vs =
    omega (arith, c.loop-element-test.true, c.loop-element.auto.element-index-end) in
    let more : take (n + 1) vs ≡ take n vs ++ v ∷ [] =
    take_more vs n v within ∙ ap (λ w. take n vs ++ w ∷ []) (sym c.element-item.is) in
    let rest = drop (n + 1) vs in
    let all : take n vs ++ v ∷ rest ≡ vs =
    sym (append_one_more (take n vs) v rest) ∙ ap (λ l. l ++ rest) (sym more)
    ∙ take-append-drop (n + 1) vs in
    let refused : reads (content v) ≡ false =
    search (
      rules,
      h,
      c.in_err-from_json.ensures.refused,
      c.from_residual.ensures,
      c.in_err-from_json.was,
    ) in
    ap (reads_all reads) c.in-Ok.ensures.found
    ∙ subst (λ l. list_all reads (map content l) ≡ false) all
    (values_fail content g.V.Ord.cmp reads g.V.Json.is_read (take n vs) rest v refused)

pub loop-element-preserved : goal.loop-element-preserved
loop-element-preserved g c =
    let vs = c.in-Ok.elements.now in
    let n = c.loop-element.element-index in
    let v = c.element-item.result in
    let within : n < length vs =
    omega (arith, c.loop-element-test.true, c.loop-element.auto.element-index-end) in
    let more : take (n + 1) vs ≡ take n vs ++ v ∷ [] =
    take_more vs n v within ∙ ap (λ w. take n vs ++ w ∷ []) (sym c.element-item.is) in
    rw more (grind (arith, values_more))
