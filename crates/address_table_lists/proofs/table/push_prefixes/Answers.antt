use Rattle.std.proofs.Common.{◌+◌, List, length, ap, subst, refl, ◌∙◌, IfSome, arith}
use Rattle.address_prefixes.specs.Runs.{IsSpan}
use Rattle.address_prefixes.specs.Tiles.{all_tiles, part_tiles}
use Rattle.address_prefixes.specs.declared.prefix.Prefix.{Prefix}
use Rattle.address_tables.specs.Tiled.{valued}
use Rattle.address_tables.proofs.Pushed.{all_made}
use Rattle.address_table_lists.proofs.TilesOf.{one_more}
use Rattle.address_table_lists.proofs.table.push_prefixes.Goals as goal

pub divide-prefix-requires : goal.divide-prefix-requires
divide-prefix-requires g c =
    subst (λ part. IfSome part (IsSpan g.A.Address.WIDTH)) c.in-Some.is c.loop-part.invariant.numbers

pub loop-part-init : goal.loop-part-init
loop-part-init g c = record { numbers = c.requires; made = refl }

pub loop-part-preserved : goal.loop-part-preserved
loop-part-preserved g c =
    let tiles = part_tiles g.A.Address.at g.A.Address.WIDTH in
    record {
      numbers = c.divide-prefix.ensures.numbers;
      made =
          one_more c.args.value c.divide-prefix.result.0 c.loop-part.entries.items
          c.push.new.self.items (tiles c.loop-part.part) (tiles c.divide-prefix.result.1)
          (all_tiles g.A.Address.at g.A.Address.WIDTH c.args.span.0 (c.args.span.1 + 1))
          (ap tiles c.in-Some.is ∙ c.divide-prefix.ensures.tiles) c.in_ok-push.ensures.items
          c.args.entries.now.items c.loop-part.invariant.made;
    }

pub loop-part-smaller : goal.loop-part-smaller
loop-part-smaller g c =
    let tiles = part_tiles g.A.Address.at g.A.Address.WIDTH in
    let count = ap (λ (ps : List (Prefix g.row.A.Denot)). length ps)
    (ap tiles c.in-Some.is ∙ c.divide-prefix.ensures.tiles) in
    omega (arith, count)

pub returns : goal.returns
returns g c =
    all_made (λ ps. valued c.args.value ps) c.loop-part.entries.items
    (part_tiles g.A.Address.at g.A.Address.WIDTH c.loop-part.part) _
    (ap (part_tiles g.A.Address.at g.A.Address.WIDTH) c.in_default.is) refl
    c.loop-part.invariant.made
