use Rattle.std.proofs.Common.{sym, subst, ◌∙◌, map}
use Rattle.std.specs.BTreeSet.{IsEmpty}
use Rattle.std.specs.Cmp.{Equal-is, on_equiv}
use Rattle.std.specs.Cmp.Lexicographic.{lists_equiv}
use Rattle.range_json.specs.MapFaults.{IsFirstFault}
use Rattle.range_json.specs.SetReadBack.{full_set_written, list_back, set_back}
use Rattle.range_json.specs.Shapes.{pair_shape, range_shape}
use Rattle.range_json.specs.ValueSets.{reads_some_values, same_values, values_shape, IsValueSet, AreValuesRead}
use Rattle.range_json.proofs.ReadingBack.{map_back, map_sound}
use Rattle.range_set_json.proofs.Multimaps.{full_items}
use Rattle.range_set_json.proofs.laws.multimaps_are_read_back.Goals as goal

pub returns : goal.returns
returns g c =
    let order = g.K.MaybeBounded.order in
    let key_back =
    λ (x : g.row.K.Denot) (y : g.row.K.Denot) (v : g.K.Json.is_value x)
    (read : g.K.Json.is_read (g.K.Json.shape x) y).
    sym (g.met.K.MaybeBounded.order_is_cmp x y)
    ∙ (Equal-is (g.K.Ord.cmp x y)).0
    (sym (g.met.K.Ord.matches_eq x y) ∙ g.met.K.ReadsBack.reads_back x y v read) in
    let equal = on_equiv (λ s. s.keys) (lists_equiv g.met.V.Eq.laws) in
    let back =
    set_back g.V.Ord.cmp g.met.V.Ord.total g.V.PartialEq.eq g.met.V.Ord.matches_eq g.V.Json.is_read
    g.V.Json.shape g.V.Json.is_value g.met.V.ReadsBack.reads_back in
    let reads = reads_some_values g.V.Json.reads in
    let is_read = AreValuesRead g.V.Ord.cmp g.V.Json.is_read in
    let is_value = IsValueSet g.V.Ord.cmp g.V.Json.is_value in
    record {
      sound = λ items v full stored e fault.
          map_sound order g.K.Json.shape g.K.Json.reads g.K.Json.is_value g.K.Json.is_read key_back
          g.met.K.ReadsBack.reads_written g.met.K.PartialEnum.lawful
          (same_values g.V.PartialEq.eq) equal
          (values_shape g.V.Json.shape) reads (λ s. is_value s × ¬ IsEmpty s) is_read
          (λ s t w. back s t w.0) (λ s w. full_set_written g.V.Json.shape g.V.Json.reads
          g.V.Json.is_value g.met.V.ReadsBack.reads_written g.V.Ord.cmp s w.0 w.1)
          items (full_items g.K.Json.is_value is_value items v full) stored e
          (subst (λ ds. IsFirstFault order g.K.Json.reads reads g.K.Json.is_read is_read ds e)
          (list_back (map (λ i. pair_shape (range_shape g.K.Json.shape i.key)
          (values_shape g.V.Json.shape i.value)) items)) fault);
      equal =
          map_back order g.K.Json.shape g.K.Json.reads g.K.Json.is_value g.K.Json.is_read key_back
          g.met.K.PartialEnum.lawful (same_values g.V.PartialEq.eq) equal
          (values_shape g.V.Json.shape) is_value is_read back reads;
    }
