use Rattle.std.proofs.Common.{arith, inr, ap, length}
use Rattle.std.proofs.lemmas.List.{nil_from_length}
use Rattle.std.specs.BTreeSet.{IsEmpty}
use Rattle.range_set_json.proofs.Multimaps.{fault_too, empty_fault, full_sound}
use Rattle.range_set_json.proofs.multimap.element_with_values.Goals as goal

pub returns-in_err-element-clause-fault : goal.returns-in_err-element-clause-fault
returns-in_err-element-clause-fault g c =
    grind (
      arith,
      c.in_err-element.ensures.fault,
      c.from_residual.ensures,
      fault_too g.K.Json.reads g.V.Json.reads c.args.index (g.J.JsonTree.content c.args.value.now),
    )

pub returns-then-is_empty-clause-fault : goal.returns-then-is_empty-clause-fault
returns-then-is_empty-clause-fault g c =
    let x = c.in_ok-element.element in
    let empty : IsEmpty x.value =
    nil_from_length x.value.keys (c.is_empty.ensures.0 c.if-is_empty.true) in
    inr (empty_fault g.K.Json.reads g.V.Json.reads c.args.index g.V.Ord.cmp g.met.V.Ord.total
    g.K.Json.is_read g.V.Json.is_read
    (g.J.JsonTree.content c.args.value.now) x c.in_ok-element.ensures.sound c.in_ok-element.ensures.read empty)

pub returns-clause-sound : goal.returns-clause-sound
returns-clause-sound g c =
    let x = c.in_ok-element.element in
    let full : ¬ IsEmpty x.value = λ e. let no = c.is_empty.ensures.1 (ap length e) in let is =
    c.if-is_empty.false in absurd cc in
    full_sound g.K.Json.reads g.V.Json.reads c.args.index g.V.Ord.cmp g.met.V.Ord.total
    g.K.Json.is_read g.V.Json.is_read
    (g.J.JsonTree.content c.args.value.now) x c.in_ok-element.ensures.sound c.in_ok-element.ensures.read full
