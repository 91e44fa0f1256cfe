use Rattle.std.proofs.Common.{◌≡◌, ◌++◌, ◌∷◌, [], ◌∙◌, ap, rules}
use Rattle.msvc_programs.proofs.InputRun.{lines-more}
use Rattle.msvc_programs.proofs.filters.as_lines.Goals as goal

pub loop-symbol-preserved : goal.loop-symbol-preserved
loop-symbol-preserved c =
    let was = c.loop-symbol.lines.items in
    let bytes = c.as_bytes.result.now in
    let first : c.extend_from_slice.new.self.items ≡ was ++ bytes = search rules in
    let all : c.push.new.self.items ≡ c.extend_from_slice.new.self.items ++ 10 ∷ [] = search rules in
    all ∙ ap (λ l. l ++ 10 ∷ []) (first ∙ ap (λ l. was ++ l) c.as_bytes.ensures.value)
    ∙ lines-more c.args.symbols.now c.loop-symbol.symbol-index _ was c.loop-symbol-test.true c.loop-symbol.invariant
