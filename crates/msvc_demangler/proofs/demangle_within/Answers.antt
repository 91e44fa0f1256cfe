use Rattle.msvc_print.proofs.Texts.{declaration-utf8}
use Rattle.msvc_print.specs.Declaration.{declaration}
use Rattle.msvc_symbol.proofs.Demangled.{declared_of, hashes_shown}
use Rattle.msvc_symbol.proofs.Failed.{error_under}
use Rattle.msvc_symbol.specs.declared.grammar.Grammar.TheVariants.{Crate}
use Rattle.msvc_cursor.specs.Limits.{limits_of}
use Rattle.msvc_demangler.proofs.demangle_within.Goals as goal

pub into_string-requires : goal.into_string-requires
into_string-requires c =
    let is = c.in-Ok.ensures.declared in (
      declaration is.tree c.args.flags.0,
      is.printed,
      declaration-utf8 is.tree c.args.flags.0 is.parsed.texts,
    )

pub returns-in-Ok-clause-hashes : goal.returns-in-Ok-clause-hashes
returns-in-Ok-clause-hashes c =
    let is = c.in-Ok.ensures.declared in
    hashes_shown c.args.input.now _ is.tree c.args.flags.0
    (declared_of Crate c.args.input.now _ is.tree c.args.flags.0 _ is.parsed is.printed c.into_string.ensures)

pub returns-in-Err-clause-rejected : goal.returns-in-Err-clause-rejected
returns-in-Err-clause-rejected c =
    error_under Crate (limits_of c.args.nodes c.args.bytes) c.args.input.now c.args.flags.0 c.in-Err.failure
    c.error.result
    (rw c.new.ensures at c.in-Err.ensures.fails) c.error.ensures
