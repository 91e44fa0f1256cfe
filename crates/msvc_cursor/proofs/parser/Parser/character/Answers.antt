use Rattle.std.proofs.Common.{◌≡◌, Some, None, sym}
use Rattle.msvc_grammar.specs.Productions.{character}
use Rattle.msvc_grammar.specs.Reading.{read_name}
use Rattle.msvc_cursor.specs.Parser.{beyond, byte_here, state_of}
use Rattle.msvc_cursor.proofs.StringSteps.{character_other}
use Rattle.msvc_cursor.proofs.parser.Parser.character.Goals as goal

-- the letter is one of the table
pub returns-in-Some-clause-value : goal.returns-in-Some-clause-value
returns-in-Some-clause-value g c = λ extra.
    let byte : byte_here c.args.self.now.rest.now (beyond extra (state_of c.args.self.now))
    ≡ Some (c.in_ok-letter.letter, c.byte.new.self.rest.now, beyond extra (state_of c.byte.new.self)) = c.in_ok-letter.ensures.value extra in
    character_other c.in_ok-letter.letter c.args.self.now.rest.now c.byte.new.self.rest.now (beyond extra (state_of c.args.self.now))
    (beyond extra (state_of c.byte.new.self)) (Some c.in-Some.character) byte c.if-letter-eq63.false (sym c.in-Some.ensures)

-- it is none
pub returns-in-None-clause-value : goal.returns-in-None-clause-value
returns-in-None-clause-value g c = λ extra.
    let byte : byte_here c.args.self.now.rest.now (beyond extra (state_of c.args.self.now))
    ≡ Some (c.in_ok-letter.letter, c.byte.new.self.rest.now, beyond extra (state_of c.byte.new.self)) = c.in_ok-letter.ensures.value extra in
    let none : read_name character c.args.self.now.rest.now (beyond extra (state_of c.args.self.now)) ≡ None =
    character_other c.in_ok-letter.letter c.args.self.now.rest.now c.byte.new.self.rest.now (beyond extra (state_of c.args.self.now))
    (beyond extra (state_of c.byte.new.self)) None byte c.if-letter-eq63.false (sym c.in-None.ensures) in
    rw c.reject.ensures.last_error none
