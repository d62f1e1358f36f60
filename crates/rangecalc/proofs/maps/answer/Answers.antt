use Rattle.std.proofs.Common.{refl}
use Rattle.std.proofs.lemmas.Result.{on_ok_weaker}
use Rattle.rangecalc.specs.Replies.{truth_text}
use Rattle.rangecalc.proofs.Letters.{at_each, each_put}
use Rattle.line_program.proofs.Listing.{writes_as}
use Rattle.rangecalc.proofs.maps.answer.Goals as goal

pub returns-in-Change : goal.returns-in-Change
returns-in-Change g c =
    let maps = c.args.maps.now in
    let map = c.change.new.map in
    let same = at_each g.C.Storage.items maps c.args.name c.at_mut.ensures.value in
    rw c.in-Change.is (writes_as c.write_reply.result _ _ _ _ (λ text fits. (
      c.change.result,
      g.C.Storage.items map,
      rw same at c.change.ensures,
      fits,
      each_put g.C.Storage.items maps c.args.name map,
    )) c.write_reply.ensures)

pub returns-in-Ask : goal.returns-in-Ask
returns-in-Ask g c =
    let same = at_each g.C.Storage.items c.args.maps.now c.args.name c.at.ensures in
    rw c.in-Ask.is (writes_as c.write_reply-in-Ask.result _ _ _ _
    (λ text fits. (c.ask.result, c.args.levels, rw same at c.ask.ensures, fits, refl))
    c.write_reply-in-Ask.ensures)

pub returns-in-List : goal.returns-in-List
returns-in-List g c =
    let same = at_each g.C.Storage.items c.args.maps.now c.args.name c.at-in-List.ensures in
    rw c.in-List.is (writes_as c.list.result _ _ _ _ (λ text fits. (rw same at fits, refl))
    c.list.ensures)

pub returns-in-Compare : goal.returns-in-Compare
returns-in-Compare g c = rw c.in-Compare.is (on_ok_weaker c.write_truth.result
    (λ appended. (truth_text c.compare.result, (_, c.compare.ensures, refl, refl), appended))
    c.write_truth.ensures)

pub returns-in-Split : goal.returns-in-Split
returns-in-Split g c = rw c.in-Split.is (writes_as c.write_reply-in-Split.result _ _ _ _
    (λ text fits. (c.split.result, c.split.ensures, fits)) c.write_reply-in-Split.ensures)

pub returns-in-Combine : goal.returns-in-Combine
returns-in-Combine g c = rw c.in-Combine.is (writes_as c.write_reply-in-Combine.result _ _ _ _
    (λ text fits. (c.combine.result, c.combine.ensures, fits)) c.write_reply-in-Combine.ensures)

pub returns-in-Keep : goal.returns-in-Keep
returns-in-Keep g c = rw c.in-Keep.is (writes_as c.write_reply-in-Keep.result _ _ _ _
    (λ text fits. (c.keep.result, c.keep.ensures, fits)) c.write_reply-in-Keep.ensures)

pub returns-in-Amend : goal.returns-in-Amend
returns-in-Amend g c = rw c.in-Amend.is (writes_as c.write_reply-in-Amend.result _ _ _ _
    (λ text fits. (c.amend_by.result, c.amend_by.ensures, fits)) c.write_reply-in-Amend.ensures)
