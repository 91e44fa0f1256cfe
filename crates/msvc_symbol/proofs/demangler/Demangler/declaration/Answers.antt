use Rattle.std.proofs.Common.{◌∙◌, ap}
use Rattle.msvc_print.proofs.Texts.{declaration-utf8}
use Rattle.msvc_symbol.specs.Grammars.{Kept, declaration_in, styled}
use Rattle.msvc_symbol.proofs.demangler.Demangler.declaration.Goals as goal

pub as_str-requires : goal.as_str-requires
as_str-requires g c =
    let is = c.in-Ok.ensures.declared in
    let grammar = c.args.grammar in (
      declaration_in grammar is.tree c.args.flags.0,
      ap (λ (k : Kept). k.text) c.self.view_is ∙ is.printed,
      declaration-utf8 is.tree (styled grammar c.args.flags.0) is.parsed.texts,
    )
