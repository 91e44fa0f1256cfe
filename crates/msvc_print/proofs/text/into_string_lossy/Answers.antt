use Rattle.std.proofs.Common.{rules, ◌≡◌, string_bytes, ap, sym, ◌∙◌}
use Rattle.std.proofs.lemmas.Str.{IsUtf8-string_bytes, utf8_lossy-IsUtf8}
use Rattle.std.specs.Str.Lossy.{utf8_lossy}
use Rattle.msvc_print.proofs.text.into_string_lossy.Goals as goal

-- bytes that are a text show no character as U+FFFD
pub returns-in-Ok-clause-lossy : goal.returns-in-Ok-clause-lossy
returns-in-Ok-clause-lossy g c = λ bytes whole.
    let same : string_bytes c.in-Ok.text ≡ bytes = search rules in
    sym (utf8_lossy-IsUtf8 _ (IsUtf8-string_bytes c.in-Ok.text)) ∙ ap utf8_lossy same
