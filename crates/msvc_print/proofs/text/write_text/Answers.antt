use Rattle.std.proofs.Common.{◌∷◌, [], ◌≤◌, ◌+◌, length, take, rules, arith, ◌≡◌, ap, ◌∙◌, length-take}
use Rattle.std.proofs.lemmas.List.{with_items_is}
use Rattle.std.specs.Vec.{with_items}
use Rattle.msvc_print.proofs.Longer.{added}
use Rattle.msvc_print.specs.Limited.{add_all, limited}
use Rattle.msvc_print.specs.Pieces.{text}
use Rattle.msvc_print.proofs.text.write_text.Goals as goal

pub returns : goal.returns
returns g c =
    let fields = c.out.inside in
    let before = take fields.written fields.bytes.items in
    let end = fields.written + length c.args.bytes.now in
    let after = take end c.copy_at.new.bytes in
    let fits : length after ≤ fields.max
    = omega (arith, length-take end c.copy_at.new.bytes) in
    let items : (with_items fields.bytes c.copy_at.new.bytes).items ≡ c.copy_at.new.bytes
    = with_items_is fields.bytes c.copy_at.new.bytes (search rules) in
    ap (λ b. limited fields.max fields.whole (take end b)) items
    ∙ added _ _ before after (text c.args.bytes.now) (search rules) fits
    ∙ ap (λ t. add_all t (text c.args.bytes.now ∷ [])) c.out.view_is
