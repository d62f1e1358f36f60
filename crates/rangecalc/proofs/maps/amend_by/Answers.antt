use Rattle.std.proofs.Common.{◌≡◌, ◌≢◌, ◌∙◌, sym}
use denote.Enum.Bare.{same_false, same_true}
use Rattle.rangecalc.specs.contracts.named.Name.{the_type}
use Rattle.rangecalc.proofs.Letters.{at_each, at_each_others, each_put, each_put_again}
use Rattle.rangecalc.proofs.maps.amend_by.Goals as goal

pub returns-then-eq : goal.returns-then-eq
returns-then-eq g c =
    let maps = c.args.maps.now in
    let name = c.args.name in
    let same = at_each g.C.Storage.items maps name c.at_mut.ensures.value in
    let equal : name ≡ c.args.other =
    same_true the_type tt name c.args.other (sym c.eq.ensures ∙ c.if-eq.true) in (
      _,
      rw (← equal) (rw same at c.amend_by_itself.ensures),
      each_put g.C.Storage.items maps name c.amend_by_itself.new.map,
    )

pub returns-in-Ok : goal.returns-in-Ok
returns-in-Ok g c =
    let maps = c.args.maps.now in
    let name = c.args.name in
    let taken = c.replace-map.new.dest in
    let differ = same_false the_type name c.args.other (sym c.eq.ensures ∙ c.if-eq.false) in
    let same =
    at_each g.C.Storage.items maps name (c.replace-map.ensures.value ∙ c.at_mut-2.ensures.value) in
    let other =
    at_each_others g.C.Storage.items maps name c.args.other taken differ c.at.ensures in (
      _,
      rw (same, other) at c.in-Ok.ensures.amended,
      each_put_again g.C.Storage.items maps name taken c.amend-amended.new.map,
    )

pub returns-in-Err : goal.returns-in-Err
returns-in-Err g c =
    let maps = c.args.maps.now in
    let name = c.args.name in
    let taken = c.replace-map.new.dest in
    let differ = same_false the_type name c.args.other (sym c.eq.ensures ∙ c.if-eq.false) in
    let same =
    at_each g.C.Storage.items maps name (c.replace-map.ensures.value ∙ c.at_mut-2.ensures.value) in
    let other =
    at_each_others g.C.Storage.items maps name c.args.other taken differ c.at.ensures in (
      _,
      rw (same, other) at c.in-Err.ensures.refused,
      each_put_again g.C.Storage.items maps name taken c.amend-amended.new.map,
    )
