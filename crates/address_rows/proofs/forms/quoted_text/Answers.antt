use Rattle.std.proofs.Common.{◌≡◌, ◌∷◌, ◌++◌, ap, get_or, sym, take, ◌∙◌, arith}
use Rattle.address_rows.specs.Forms.{marked, one_marked}
use Rattle.address_rows.proofs.Marks.{marked_more}
use Rattle.address_rows.proofs.forms.quoted_text.Goals as goal

pub loop-byte-preserved : goal.loop-byte-preserved
loop-byte-preserved c =
    let i = c.loop-byte.byte-index in
    let text = c.args.text.now in
    let more = marked_more c.args.form text i c.loop-byte-test.true in
    c.in_ok-push_marked.ensures
    ∙ ap (λ bytes. bytes ++ one_marked c.args.form (get_or text i 0)) c.loop-byte.invariant
    ∙ ap (λ bytes. 34 ∷ bytes) (sym more)
