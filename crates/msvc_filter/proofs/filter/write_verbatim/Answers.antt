use Rattle.std.proofs.Common.{map}
use Rattle.msvc_filter.specs.Filtered.{kept}
use Rattle.msvc_filter.proofs.Filled.{IfOk-map, fitting-kept}
use Rattle.msvc_filter.proofs.ScanParts.{text-kept}
use Rattle.msvc_filter.proofs.filter.write_verbatim.Goals as goal

pub returns : goal.returns
returns c =
    let bytes = c.args.bytes.now in
    IfOk-map c.write_first.result _ _ (λ f h given parts so. h given parts (map kept bytes) (text-kept bytes)
    (λ rest. rw c.min.ensures (fitting-kept bytes c.args.writer.space rest)) so) c.write_first.ensures
