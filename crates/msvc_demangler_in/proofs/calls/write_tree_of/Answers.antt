use Rattle.std.proofs.Common.{refl, rules}
use Rattle.msvc_c_calls.specs.Calls.{out_of_memory_text}
use Rattle.msvc_demangler_in.specs.TreeTexts.{made, unmade}
use Rattle.msvc_demangler_in.proofs.calls.write_tree_of.Goals as goal

pub returns-in-Ok : goal.returns-in-Ok
returns-in-Ok g c = (_, made refl refl (search rules), c.write.ensures.length, c.write.ensures.written)

pub returns : goal.returns
returns g c =
    let is = c.out_of_memory.ensures.result in
    (out_of_memory_text, unmade is.0 is.1 refl, is.2, c.out_of_memory.ensures.written)
