-- What the productions and the rules of Full read, as a function.
use Rattle.msvc_rules.specs.Readers.{Reader, read_by, read_name_in}
use Rattle.msvc_rules.specs.Rules.{Rule}
use Rattle.msvc_rules.specs.Sorts.{Sort}
use Rattle.msvc_full_grammar.specs.Grammar.{full_grammar}
use Rattle.msvc_full_grammar.specs.Productions.{Production}

unfoldable pub read_name : {a : Sort} → Production a → Reader a
unfolding read_name_in
read_name n left s = read_name_in full_grammar n left s

unfoldable pub read : {a : Sort} → Rule Production a → Reader a
read r left s = read_by (λ b m. read_name m) r left s
