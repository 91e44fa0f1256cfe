use Rattle.std.proofs.Common.{◌∙◌, None, Some, ap, arith, length, subst, sym, take, take_all}
use Rattle.std.proofs.lemmas.Bool.{eqb-false}
use Rattle.memchr.specs.Find.{IsFirstByte, is_byte}
use Rattle.msvc_streams.proofs.FirstByte.{before-first, up_to-first}
use Rattle.msvc_streams.proofs.watched.line_end.Goals as goal

pub returns-in-Some-clause-taken : goal.returns-in-Some-clause-taken
returns-in-Some-clause-taken c =
    let shown = c.args.shown.now in
    let at = c.in-Some.at in
    let found = subst (IsFirstByte (is_byte 10) shown) c.in-Some.is c.find_byte.ensures.first in
    (take at shown, before-first 10 shown (Some at) found, up_to-first 10 shown at found)

pub returns-in-None-2-clause-taken : goal.returns-in-None-2-clause-taken
returns-in-None-2-clause-taken c =
    let shown = c.args.shown.now in
    let found = subst (IsFirstByte (is_byte 10) shown) c.in-None-2.is c.find_byte.ensures.first in (
      λ none. eqb-false (length shown) 0 (sym c.if-is_empty.ensures)
          (sym (ap length (take_all (length shown) shown (omega arith))) ∙ ap length none),
      before-first 10 shown None found,
    )
