use Rattle.std.proofs.Common.{ℕ, List, ◌≡◌, ◌+◌, ◌-◌, ◌∙◌, None, Some, ap, arith, drop, length, sym, take}
use Rattle.std.proofs.lemmas.List.{length-drop, take_all}
use Rattle.msvc_cursor.specs.Parser.{beyond, cut_at, name_length, state_of}
use Rattle.byte_search.proofs.FirstByte.{first_position}
use Rattle.msvc_grammar.specs.Letters.{at_sign}
use Rattle.msvc_cursor.proofs.parser.Parser.source_name.Goals as goal

-- the bytes before the first at sign, and all those after it
pub returns-in-Some-clause-value : goal.returns-in-Some-clause-value
unfolding name_length
returns-in-Some-clause-value g c = λ extra.
    let bytes : List ℕ = c.args.self.now.rest.now in
    let n : ℕ = c.in-Some.end in
    let found : name_length bytes ≡ Some n = sym (first_position at_sign bytes (Some n) c.in-Some.ensures.first) in
    let left : take (length bytes - (n + 1)) (drop (n + 1) bytes) ≡ drop (n + 1) bytes =
    take_all (length bytes - (n + 1)) (drop (n + 1) bytes) (omega (arith, length-drop (n + 1) bytes)) in
    ap (λ i. cut_at i bytes (beyond extra (state_of c.args.self.now))) found
    ∙ ap (λ (l : List ℕ). Some (take n bytes, l, beyond extra (state_of c.args.self.now))) (sym left)

-- there is no at sign
pub returns-in-None-clause-value : goal.returns-in-None-clause-value
unfolding name_length
returns-in-None-clause-value g c = λ extra.
    let none : name_length c.args.self.now.rest.now ≡ None =
    sym (first_position at_sign c.args.self.now.rest.now None c.in-None.ensures.first) in
    rw c.reject.ensures.last_error
    (ap (λ i. cut_at i c.args.self.now.rest.now (beyond extra (state_of c.args.self.now))) none)

pub returns-in-None-clause-missing : goal.returns-in-None-clause-missing
unfolding name_length
returns-in-None-clause-missing g c =
    sym (first_position at_sign c.args.self.now.rest.now None c.in-None.ensures.first)
