use Rattle.std.proofs.Common.{◌≡◌, ◌∙◌, ap, refl, sym}
use Rattle.std.specs.Prelude.{◌&&◌}
use Rattle.std.specs.List.{list_all}
use Rattle.msvc_filter.specs.SymbolBounds.{is_word_byte}
use Rattle.msvc_filter.proofs.Starts.{Keeps-past}
use Rattle.msvc_filter.proofs.symbol_bounds.WordState.pass.Goals.{else-self, then-self}
use Rattle.msvc_filter.proofs.symbol_bounds.WordState.pass.Goals as goal

pub returns : goal.returns
returns c = λ last passed so.
    let all = list_all is_word_byte c.args.bytes.now in
    let seen : c.if-self.result ≡ (c.args.self.seen_question_mark && all) =
    elim c.if-self.branch [
      | then-self w ↦ w.result-is ∙ w.all_word_bytes.ensures ∙ sym (ap (λ s. s && all) w.if-self.true)
      | else-self w ↦ w.result-is ∙ w.if-self.false ∙ sym (ap (λ s. s && all) w.if-self.false)
    ] in
    Keeps-past c.args.self _ c.args.bytes.now last passed c.requires.some c.requires.plain seen refl so
